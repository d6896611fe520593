-- Engines that do alike are alike where the left one keeps what fits.
use Rattle.std.proofs.Common.{ℕ, Bool, false, List, Option, None, sym, subst}
use Rattle.core_tree.specs.declared.core_type.CoreType.{CoreType}
use Rattle.core_tree.specs.declared.value.Value.{Value}
use Rattle.run_laws.specs.Fits.{SightFits, Types, BodyHolds, BodyFits, by_types}
use Rattle.run_laws.specs.Keeps.{seen, RequestFits, StopFits, FoundFits, KeepsFit}
use Rattle.run_laws.specs.Related.{EnteredAlike, both_open, both_native, both_read, both_write, both_nothing, AtLoopPass, StopsAlike, EnginesAlike, SameStop, DoAlike}
use Rattle.script_meaning.specs.Requests.{Sight, Setting, Request, Method, ParentMethod, GlobalFunction, GlobalNative, Get, Set, LoopPass, Return}
use Rattle.script_meaning.specs.Stacks.{Entered, Stop, Engine}

module _ {B C : Type 0} (types : Types B) (R : Option ℕ → Bool → B → C → Type 0) where
  -- a body that is found fits
  found_so : (setting : Setting) (sight : Sight) (arguments : List Value) (result : Option CoreType) {e : Entered B} {d : Entered C} → FoundFits types (seen types.outline setting sight) setting.self arguments result e → EnteredAlike (R setting.self false) e d → EnteredAlike (λ b c. R setting.self false b c × BodyFits types setting sight b None) e d
  found_so setting sight arguments result f (both_open r) =
      both_open (r, record { awaited = None; result = result; held = f; reply = tt })
  found_so setting sight arguments result f (both_native at) = both_native at
  found_so setting sight arguments result f (both_read script variable) = both_read script variable
  found_so setting sight arguments result f (both_write script variable) = both_write script variable
  found_so setting sight arguments result f both_nothing = both_nothing

  -- so does one that goes on behind a loop pass
  passes_so : (setting : Setting) (sight : Sight) (body : B) (result : Option CoreType) (request : Request) → SightFits types.outline setting sight → RequestFits types (seen types.outline setting sight) setting.self result (λ awaited. BodyHolds types (seen types.outline setting sight) setting.self body awaited result) request → AtLoopPass request (SightFits types.outline setting sight × BodyFits types setting sight body None)
  passes_so setting sight body result (Method target name arguments otherwise) s r = tt
  passes_so setting sight body result (ParentMethod script name arguments otherwise) s r = tt
  passes_so setting sight body result (GlobalFunction script name arguments otherwise) s r = tt
  passes_so setting sight body result (GlobalNative at arguments) s r = tt
  passes_so setting sight body result (Get target name otherwise) s r = tt
  passes_so setting sight body result (Set target name value) s r = tt
  passes_so setting sight body result LoopPass s r =
      (s, record { awaited = None; result = result; held = r; reply = tt })
  passes_so setting sight body result (Return value) s r = tt

  stops_so : (setting : Setting) (before : Sight) (result : Option CoreType) (s : Stop B) (t : Stop C) → StopFits types setting before result s → SameStop (R setting.self) s t → StopsAlike (by_types types) R setting s t
  stops_so setting before result s t f a =
      record { request = a.request; sight = a.sight; bodies = a.bodies; fits = passes_so setting s.sight s.body result s.request f.sight f.request }

  pub kept_alike : (left : Engine B) (right : Engine C) → KeepsFit types left → DoAlike (by_types types) R left right → EnginesAlike (by_types types) R left right
  kept_alike left right keeps alike = record {
    enter = λ setting sight script way arguments s a. found_so setting sight arguments a.result (subst (λ o. FoundFits types (seen types.outline setting sight) setting.self arguments a.result (left.enter o sight.state way arguments)) (sym a.own) (keeps.enter setting sight way arguments a.result s a.call)) (alike.enter setting sight script way arguments s a);
    run = λ setting b c reply sight r s f. stops_so setting sight f.result (left.run setting b reply sight) (right.run setting c reply sight) (keeps.run setting sight b f.awaited f.result reply s f.held f.reply) (alike.run setting b c reply sight r s f);
  }
