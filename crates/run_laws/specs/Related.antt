-- Engines that do the same on bodies that are related, where what they get fits.
use Rattle.std.specs.Prelude.{◌≡◌, ℕ, Bool, true, false, List, Option, None, is_some}
use Rattle.core_tree.specs.declared.expression.FunctionPlace.{FunctionPlace}
use Rattle.core_tree.specs.declared.value.Value.{Value}
use Rattle.run_laws.specs.Fits.{Fitting}
use Rattle.script_meaning.specs.Requests.{Sight, Setting, Request, LoopPass, Return}
use Rattle.script_meaning.specs.Stacks.{Way, Entered, Opened, NativeThere, ReadThere, WriteThere, NothingThere, Stop, Engine}

-- two look-ups find related bodies, or the same
pub data EnteredAlike {B C : Type 0} (R : B → C → Type 0) : Entered B → Entered C → Type 0 where
  both_open : {b : B} {c : C} → R b c → EnteredAlike R (Opened b) (Opened c)
  both_native : (at : FunctionPlace) → EnteredAlike R (NativeThere at) (NativeThere at)
  both_read : (script variable : ℕ) → EnteredAlike R (ReadThere script variable) (ReadThere script variable)
  both_write : (script variable : ℕ) → EnteredAlike R (WriteThere script variable) (WriteThere script variable)
  both_nothing : EnteredAlike R NothingThere NothingThere

-- what holds of a body at a request, by whether it waits for a reply there: at a loop pass it doesn't, and behind
-- its Return it goes on no more, so nothing is asked of it
abbrev pub AtRequest : Request → (Bool → Type 0) → Type 0
AtRequest (Return value) holds = Unit {0}
AtRequest LoopPass holds = holds false
AtRequest _ holds = holds true

-- at a loop pass, behind which a body may go on in the same turn
abbrev pub AtLoopPass : Request → Type 0 → Type 0
AtLoopPass LoopPass fits = fits
AtLoopPass _ fits = Unit {0}

-- two bodies come to the same act, have changed the same, and are related there
pub record StopsAlike {B C : Type 0} (fitting : Fitting B) (R : Option ℕ → Bool → B → C → Type 0) (setting : Setting) (left : Stop B) (right : Stop C) : Type 0 where
  pub request : left.request ≡ right.request
  pub sight : left.sight ≡ right.sight
  pub bodies : AtRequest left.request (λ waits. R setting.self waits left.body right.body)
  pub fits : AtLoopPass left.request (fitting.sight setting left.sight × fitting.body setting left.sight left.body None)

-- nothing is asked of the engines but where all that they get fits. Bodies that wait for a reply are related apart
-- from those that go on without one, since neither body need show which it does
pub record EnginesAlike {B C : Type 0} (fitting : Fitting B) (R : Option ℕ → Bool → B → C → Type 0) (left : Engine B) (right : Engine C) : Type 0 where
  pub enter : (setting : Setting) (sight : Sight) (script : Option ℕ) (way : Way) (arguments : List Value) → fitting.sight setting sight → fitting.arguments setting sight script way arguments → EnteredAlike (λ b c. R setting.self false b c × fitting.body setting sight b None) (left.enter script sight.state way arguments) (right.enter script sight.state way arguments)
  pub run : (setting : Setting) (b : B) (c : C) (reply : Option Value) (sight : Sight) → R setting.self (is_some reply) b c → fitting.sight setting sight → fitting.body setting sight b reply → StopsAlike fitting R setting (left.run setting b reply sight) (right.run setting c reply sight)

-- ---- where the left engine keeps what fits
pub record SameStop {B C : Type 0} (R : Bool → B → C → Type 0) (left : Stop B) (right : Stop C) : Type 0 where
  pub request : left.request ≡ right.request
  pub sight : left.sight ≡ right.sight
  pub bodies : AtRequest left.request (λ waits. R waits left.body right.body)

-- the same, but for what fits of the bodies that are found and that go on
pub record DoAlike {B C : Type 0} (fitting : Fitting B) (R : Option ℕ → Bool → B → C → Type 0) (left : Engine B) (right : Engine C) : Type 0 where
  pub enter : (setting : Setting) (sight : Sight) (script : Option ℕ) (way : Way) (arguments : List Value) → fitting.sight setting sight → fitting.arguments setting sight script way arguments → EnteredAlike (R setting.self false) (left.enter script sight.state way arguments) (right.enter script sight.state way arguments)
  pub run : (setting : Setting) (b : B) (c : C) (reply : Option Value) (sight : Sight) → R setting.self (is_some reply) b c → fitting.sight setting sight → fitting.body setting sight b reply → SameStop (R setting.self) (left.run setting b reply sight) (right.run setting c reply sight)
