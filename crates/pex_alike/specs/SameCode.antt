-- When two values have the same code: references are read as their strings, and parameters and locals go by their
-- places. Headers, debug information, string tables, user flags and size forms aren't compared.
use Rattle.std.specs.Prelude.{ℕ, ◌≡◌, ◌<◌, List, [], length, Option, Some, None, position, take, drop, slice_index_or, if◌then◌else◌, ◌==◌, ◌||◌}
use Rattle.std.specs.List.{All, Any}
use Rattle.std.specs.Str.{bytes_eq}
use Rattle.papy_base.specs.Case.{folded}
use Rattle.pex_values.specs.declared.values.Datum.{Datum}
use Rattle.pex_values.specs.declared.values.Datum.TheVariants as datum
use Rattle.pex_values.specs.declared.values.PexVariable.{PexVariable}
use Rattle.pex_values.specs.Plain.{PlainInstruction, PlainFunction, PlainProperty, PlainState, PlainObject, PlainPex}
use Rattle.pex_alike.specs.declared.function_names.Meaning.{Meaning}
use Rattle.pex_alike.specs.declared.function_names.Meaning.TheVariants as meaning

-- ---- names

-- the string of a reference, which is empty where there is no such string
abbrev pub string_at : List (List ℕ) → ℕ → List ℕ
string_at strings reference = slice_index_or strings reference []

-- the string of one reference among these strings and that of another among those are the same
unfoldable pub SameString : List (List ℕ) → List (List ℕ) → ℕ → ℕ → Type 0
SameString these those a b = string_at these a ≡ string_at those b

-- the strings of a file, and the names and types of a function's parameters and locals
pub record Naming : Type 0 where
  pub strings : List (List ℕ)
  pub parameters : List (ℕ × ℕ)
  pub locals : List (ℕ × ℕ)

-- the place of the first of these that has the name of the reference, with case ignored
abbrev pub place_in : List (List ℕ) → List (ℕ × ℕ) → ℕ → Option ℕ
place_in strings pairs reference =
    position (λ pair. bytes_eq (folded (string_at strings pair.0)) (folded (string_at strings reference))) pairs

-- a parameter, or where none has the name a local, or where none has it either the name itself
abbrev pub local_or_name : Option ℕ → Meaning
local_or_name (Some place) = meaning.Local place
local_or_name None = meaning.ByName

abbrev pub parameter_or : Option ℕ → Meaning → Meaning
parameter_or (Some place) other = meaning.Parameter place
parameter_or None other = other

abbrev pub meaning_of : Naming → ℕ → Meaning
meaning_of naming reference =
    parameter_or (place_in naming.strings naming.parameters reference) (local_or_name (place_in naming.strings naming.locals reference))

-- the same parameter or local by its place, or the same name
unfoldable pub SameWord : Naming → Naming → ℕ → ℕ → Type 0
SameWord v w a b =
    (meaning_of v a ≡ meaning_of w b) × (meaning_of v a ≡ meaning.ByName → SameString v.strings w.strings a b)

-- ---- lists

-- as many, and at each place such a pair
unfoldable pub SameEach : {A B : Type 0} → (A → B → Type 0) → List A → List B → Type 0
SameEach {A} {B} R xs ys =
    (length xs ≡ length ys) × ((n : ℕ) (x : A) (y : B) → n < length xs → R (slice_index_or xs n x) (slice_index_or ys n y))

-- as many, and each has its like on the other side, whatever the order
unfoldable pub SameMembers : {A B : Type 0} → (A → B → Type 0) → List A → List B → Type 0
SameMembers R xs ys =
    (length xs ≡ length ys) × All (λ x. Any (R x) ys) xs × All (λ y. Any (λ x. R x y) xs) ys

-- both are there and such a pair, or both are missing
unfoldable pub SameOption : {A B : Type 0} → (A → B → Type 0) → Option A → Option B → Type 0
SameOption R None None = Unit {0}
SameOption R (Some x) (Some y) = R x y
SameOption R None (Some y) = ⊥
SameOption R (Some x) None = ⊥

-- ---- code

unfoldable pub SameOperand : Naming → Naming → Datum → Datum → Type 0
SameOperand v w (datum.Word a) (datum.Word b) = SameWord v w a b
SameOperand v w (datum.Quoted a) (datum.Quoted b) = SameString v.strings w.strings a b
SameOperand v w (datum.Word a) other = ⊥
SameOperand v w (datum.Quoted a) other = ⊥
SameOperand v w a b = a ≡ b

-- how many of an instruction's first operands name a function, a property or a script, and no variable: two of
-- callstatic (19h); one of callmethod (17h), callparent (18h), propget (1Ch) and propset (1Dh)
abbrev pub name_count : ℕ → ℕ
name_count opcode =
    if opcode == 0x19 then 2 else if opcode == 0x17 || opcode == 0x18 || opcode == 0x1C || opcode == 0x1D then 1 else 0

-- the same without parameters and locals
abbrev pub without_slots : Naming → Naming
without_slots naming = record { strings = naming.strings; parameters = []; locals = [] }

unfoldable pub SameInstruction : Naming → Naming → PlainInstruction → PlainInstruction → Type 0
SameInstruction v w i j =
    (i.opcode ≡ j.opcode)
    × SameEach (SameOperand (without_slots v) (without_slots w)) (take (name_count i.opcode) i.fixed) (take (name_count i.opcode) j.fixed)
    × SameEach (SameOperand v w) (drop (name_count i.opcode) i.fixed) (drop (name_count i.opcode) j.fixed)
    × SameEach (SameOperand v w) i.more j.more

-- ---- members

abbrev pub naming_of : List (List ℕ) → PlainFunction → Naming
naming_of strings f = record { strings = strings; parameters = f.parameters; locals = f.locals }

-- the types of parameters or locals
unfoldable pub SameKinds : List (List ℕ) → List (List ℕ) → List (ℕ × ℕ) → List (ℕ × ℕ) → Type 0
SameKinds v w these those = SameEach (λ a b. SameString v w a.1 b.1) these those

unfoldable pub SameFunction : List (List ℕ) → List (List ℕ) → PlainFunction → PlainFunction → Type 0
SameFunction v w f g =
    SameString v w f.result g.result × SameString v w f.doc g.doc × (f.flags ≡ g.flags) × (f.bits ≡ g.bits)
    × SameKinds v w f.parameters g.parameters × SameKinds v w f.locals g.locals
    × SameEach (SameInstruction (naming_of v f) (naming_of w g)) f.code g.code

unfoldable pub SameNamed : List (List ℕ) → List (List ℕ) → ℕ × PlainFunction → ℕ × PlainFunction → Type 0
SameNamed v w f g = SameString v w f.0 g.0 × SameFunction v w f.1 g.1

abbrev pub no_slots : List (List ℕ) → Naming
no_slots strings = record { strings = strings; parameters = []; locals = [] }

unfoldable pub SameVariable : List (List ℕ) → List (List ℕ) → PexVariable → PexVariable → Type 0
SameVariable v w x y =
    SameString v w x.name y.name × SameString v w x.kind y.kind × (x.flags ≡ y.flags)
    × SameOperand (no_slots v) (no_slots w) x.value y.value

unfoldable pub SameProperty : List (List ℕ) → List (List ℕ) → PlainProperty → PlainProperty → Type 0
SameProperty v w p q =
    SameString v w p.name q.name × SameString v w p.kind q.kind × SameString v w p.doc q.doc × (p.flags ≡ q.flags) × (p.bits ≡ q.bits)
    × SameOption (SameString v w) p.variable q.variable
    × SameOption (SameFunction v w) p.read q.read × SameOption (SameFunction v w) p.write q.write

unfoldable pub SameState : List (List ℕ) → List (List ℕ) → PlainState → PlainState → Type 0
SameState v w s t = SameString v w s.name t.name × SameMembers (SameNamed v w) s.functions t.functions

-- ---- objects

unfoldable pub SameObject : List (List ℕ) → List (List ℕ) → PlainObject → PlainObject → Type 0
SameObject v w o p =
    SameString v w o.name p.name × SameString v w o.parent p.parent × SameString v w o.doc p.doc × (o.flags ≡ p.flags)
    × SameString v w o.auto_state p.auto_state
    × SameMembers (SameVariable v w) o.variables p.variables
    × SameMembers (SameProperty v w) o.properties p.properties
    × SameMembers (SameState v w) o.states p.states

-- the two values have the same code
unfoldable pub SameCode : PlainPex → PlainPex → Type 0
SameCode v w = SameEach (SameObject v.strings w.strings) v.objects w.objects
