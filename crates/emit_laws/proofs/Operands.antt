-- Operands by their names.
use Rattle.std.proofs.Common.{◌≡◌, ℕ, Bool, true, false, List, [], Option, None, Some, refl, ap, ◌∙◌}
use Rattle.std.specs.Prelude.{slice_get, codes, ◌&&◌, if◌then◌else◌}
use Rattle.std.specs.Option.{option_map, option_or, unwrap_or}
use Rattle.std.proofs.lemmas.Option.{get_or_from_slice_get}
use Rattle.core_tree.specs.declared.core_type.CoreType.{CoreType}
use Rattle.core_tree.specs.declared.value.Value.{Value}
use Rattle.core_tree.specs.declared.value.Value.TheVariants as values
use Rattle.pex_values.specs.declared.values.Datum.{Datum}
use Rattle.code_meaning.specs.Code.{Literal, Slot, Variable, Itself, StateText}
use Rattle.pex_meaning.specs.Instructions.{identified, of_instance, operand_meant}
use Rattle.pex_meaning.specs.Names.{are_same, first_named, string_at}
use Rattle.code_lower.specs.declared.place.Place.{Place}
use Rattle.code_lower.specs.declared.place.Place.TheVariants as place
use Rattle.code_lower.specs.Lowered.{operand_of}
use Rattle.code_emit.specs.Spelled.{Scope, SpellsLiteral, SpellsPlace, SpellsSlotName, SpellsWord, slot_name}
use Rattle.emit_laws.specs.Readable.{AreDistinct, PlaceFits, ScopeFits, scope_read}
use Rattle.emit_laws.proofs.Names.{position_first, position_none, same-refl}
use Rattle.emit_laws.proofs.Slots.{no_slot_found, slot_found}

-- a name of a list of distinct ones is the first that is called so
pub distinct_found : (names : List (List ℕ)) → AreDistinct names → (number : ℕ) (name : List ℕ) → slice_get names number ≡ Some name → first_named name names ≡ Some number
distinct_found names distinct number name e =
    position_first (are_same name) names number name e (same-refl name) (λ i other f h. distinct number i name other e f h)

literal_read : (is_global : Bool) (scope : Scope) (d : Datum) (value : Value) → SpellsLiteral scope.table d value → operand_meant (scope_read is_global scope) d ≡ Literal value
literal_read is_global scope d values.NoneValue is = ap (operand_meant (scope_read is_global scope)) is
literal_read is_global scope d (values.Int number) is = ap (operand_meant (scope_read is_global scope)) is
literal_read is_global scope d (values.Bool true) is = ap (operand_meant (scope_read is_global scope)) is
literal_read is_global scope d (values.Bool false) is = ap (operand_meant (scope_read is_global scope)) is
literal_read is_global scope d (values.Text text) is =
    ap (operand_meant (scope_read is_global scope)) is.1 ∙ ap (λ (t : List ℕ). Literal (values.Text t)) (get_or_from_slice_get scope.table.strings is.0 text [] is.2.there)
literal_read is_global scope d (values.Instance number) is = absurd is
literal_read is_global scope d (values.Array number) is = absurd is

slot_read : (is_global : Bool) (scope : Scope) (kinds : List (Option CoreType)) → ScopeFits scope kinds → (d : Datum) (number : ℕ) → SpellsSlotName scope d number → operand_meant (scope_read is_global scope) d ≡ Slot number
slot_read is_global scope kinds fits d number is =
    ap (operand_meant (scope_read is_global scope)) is.2
    ∙ ap (λ (o : Option ℕ). unwrap_or (option_or (option_map (λ n. Slot n) o) (if is_global then None else of_instance (scope_read is_global scope) (string_at scope.table.strings is.0.0))) (Literal values.NoneValue)) (slot_found scope.table scope.slots kinds fits.slots fits.one_nothing fits.few number is.0 is.1)

-- a name that no slot can have
word_by : (is_global : Bool) (scope : Scope) (kinds : List (Option CoreType)) → ScopeFits scope kinds → (d : Datum) (name : List ℕ) → SpellsWord scope.table d (Some name) → ((number : ℕ) (kind : Option CoreType) → are_same name (slot_name number kind) ≡ false) → is_global ≡ false → operand_meant (scope_read is_global scope) d ≡ unwrap_or (of_instance (scope_read is_global scope) name) (Literal values.NoneValue)
word_by is_global scope kinds fits d name is none global =
    ap (operand_meant (scope_read is_global scope)) is.1
    ∙ ap (λ (l : List ℕ). unwrap_or (identified (scope_read is_global scope) l) (Literal values.NoneValue)) (get_or_from_slice_get scope.table.strings is.0 name [] is.2.there)
    ∙ ap (λ (o : Option ℕ). unwrap_or (option_or (option_map (λ n. Slot n) o) (if is_global then None else of_instance (scope_read is_global scope) name)) (Literal values.NoneValue)) (no_slot_found scope.table scope.slots kinds fits.slots name none)
    ∙ ap (λ (b : Bool). unwrap_or (if b then None else of_instance (scope_read is_global scope) name) (Literal values.NoneValue)) global

variable_read : (is_global : Bool) (scope : Scope) (kinds : List (Option CoreType)) → ScopeFits scope kinds → (d : Datum) (number : ℕ) (o : Option (List ℕ)) → slice_get scope.table.home.variables number ≡ o → SpellsWord scope.table d o → is_global ≡ false → operand_meant (scope_read is_global scope) d ≡ Variable number
variable_read is_global scope kinds fits d number None e is global = absurd is.2
variable_read is_global scope kinds fits d number (Some name) e is global =
    word_by is_global scope kinds fits d name is (fits.names.variables.each number name e).no_slot global
    ∙ ap (λ (o : Option ℕ). unwrap_or (option_or (option_map (λ n. Variable n) o) (if are_same name (codes "self") then Some Itself else if are_same name (codes "::State") then Some StateText else None)) (Literal values.NoneValue)) (distinct_found scope.table.home.variables fits.names.variables.distinct number name e)

self_apart : (number : ℕ) (kind : Option CoreType) → are_same (codes "self") (slot_name number kind) ≡ false
self_apart number None = refl
self_apart number (Some kind) = refl

state_apart : (number : ℕ) (kind : Option CoreType) → are_same (codes "::State") (slot_name number kind) ≡ false
state_apart number None = refl
state_apart number (Some kind) = refl

self_read : (is_global : Bool) (scope : Scope) (kinds : List (Option CoreType)) → ScopeFits scope kinds → (d : Datum) → SpellsWord scope.table d (Some (codes "self")) → is_global ≡ false → operand_meant (scope_read is_global scope) d ≡ Itself
self_read is_global scope kinds fits d is global =
    word_by is_global scope kinds fits d (codes "self") is self_apart global
    ∙ ap (λ (o : Option ℕ). unwrap_or (option_or (option_map (λ n. Variable n) o) (Some Itself)) (Literal values.NoneValue)) (position_none (are_same (codes "self")) scope.table.home.variables (λ i other e. (fits.names.variables.each i other e).no_instance))

state_read : (is_global : Bool) (scope : Scope) (kinds : List (Option CoreType)) → ScopeFits scope kinds → (d : Datum) → SpellsWord scope.table d (Some (codes "::State")) → is_global ≡ false → operand_meant (scope_read is_global scope) d ≡ StateText
state_read is_global scope kinds fits d is global =
    word_by is_global scope kinds fits d (codes "::State") is state_apart global
    ∙ ap (λ (o : Option ℕ). unwrap_or (option_or (option_map (λ n. Variable n) o) (Some StateText)) (Literal values.NoneValue)) (position_none (are_same (codes "::State")) scope.table.home.variables (λ i other e. (fits.names.variables.each i other e).no_state))

not_global : (is_global : Bool) → (is_global && true) ≡ false → is_global ≡ false
not_global true h = h
not_global false h = refl

pub place_read : (is_global : Bool) (scope : Scope) (kinds : List (Option CoreType)) (d : Datum) (place : Place) → ScopeFits scope kinds → PlaceFits is_global place → SpellsPlace scope d place → operand_meant (scope_read is_global scope) d ≡ operand_of place
place_read is_global scope kinds d (place.Literal value) fits own is = literal_read is_global scope d value.now is
place_read is_global scope kinds d (place.Local number) fits own is = slot_read is_global scope kinds fits d number is
place_read is_global scope kinds d (place.Temporary number kind) fits own is = slot_read is_global scope kinds fits d number is
place_read is_global scope kinds d (place.Nothing number) fits own is = slot_read is_global scope kinds fits d number is
place_read is_global scope kinds d (place.Variable number kind) fits own is =
    variable_read is_global scope kinds fits d number (slice_get scope.table.home.variables number) refl is (not_global is_global own)
place_read is_global scope kinds d place.OwnInstance fits own is = self_read is_global scope kinds fits d is (not_global is_global own)
place_read is_global scope kinds d place.StateText fits own is = state_read is_global scope kinds fits d is (not_global is_global own)
