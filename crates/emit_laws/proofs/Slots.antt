-- Slots by their names.
use Rattle.std.proofs.Common.{◌≡◌, ℕ, zero, suc, ◌+◌, ◌<◌, true, false, List, [], ◌∷◌, map, length, Option, None, Some, refl, sym, ap, subst, ◌∙◌, arith}
use Rattle.std.specs.Prelude.{slice_get, ◌^◌}
use Rattle.std.specs.Option.{option_map}
use Rattle.std.proofs.lemmas.Bool.{false≢true}
use Rattle.std.proofs.lemmas.Option.{get_or_from_slice_get, none-some, same_Some, slice_get-map, slice_get_within}
use Rattle.core_tree.specs.declared.core_type.CoreType.{CoreType}
use Rattle.pex_meaning.specs.Names.{are_same, first_named, string_at}
use Rattle.code_emit.specs.Spelled.{SpellsSlot, SpellsSlots, slot_name}
use Rattle.code_emit.specs.Strings.{Table}
use Rattle.emit_laws.specs.Readable.{HaveOneNothing}
use Rattle.emit_laws.proofs.Names.{local_names_differ, position_first, position_none, same-refl}

-- the slot of a number, and its type
pub record IsSlot (table : Table) (kinds : List (Option CoreType)) (n m : ℕ) (slot : ℕ × ℕ) : Type 0 where
  pub kind : Option CoreType
  pub there : slice_get kinds n ≡ Some kind
  pub spelled : SpellsSlot table m slot kind

pub slot_at : (table : Table) (start : ℕ) (slots : List (ℕ × ℕ)) (kinds : List (Option CoreType)) → SpellsSlots table start slots kinds → (n m : ℕ) (slot : ℕ × ℕ) → m ≡ start + n → slice_get slots n ≡ Some slot → IsSlot table kinds n m slot
slot_at table start [] [] are n m slot e f = absurd (cc)
slot_at table start [] (kind ∷ kinds) are n m slot e f = absurd are
slot_at table start (first ∷ slots) [] are n m slot e f = absurd are
slot_at table start (first ∷ slots) (kind ∷ kinds) are zero m slot e f =
    let back : start ≡ m = omega (arith, e) in
    record { kind = kind; there = refl; spelled = subst (λ (k : ℕ). SpellsSlot table k slot kind) back (subst (λ (s : ℕ × ℕ). SpellsSlot table start s kind) (same_Some first slot f) are.0) }
slot_at table start (first ∷ slots) (kind ∷ kinds) are (suc n) m slot e f =
    let further : m ≡ suc start + n = omega (arith, e) in
    let found = slot_at table (suc start) slots kinds are.1 n m slot further f in
    record { kind = found.kind; there = found.there; spelled = found.spelled }

names_differ : (kinds : List (Option CoreType)) → HaveOneNothing kinds → length kinds < 2 ^ 64 → (i j : ℕ) (k l : Option CoreType) → slice_get kinds i ≡ Some k → slice_get kinds j ≡ Some l → are_same (slot_name i k) (slot_name j l) ≡ true → i ≡ j
names_differ kinds one few i j None None e f h = one i j e f
names_differ kinds one few i j None (Some l) e f h = absurd (false≢true h)
names_differ kinds one few i j (Some k) None e f h = absurd (false≢true h)
names_differ kinds one few i j (Some k) (Some l) e f h =
    let below : i < length kinds = slice_get_within kinds i (Some k) e in
    let also : j < length kinds = slice_get_within kinds j (Some l) f in
    local_names_differ i j (omega arith) (omega arith) h

-- the names of the slots, as the strings have them
abbrev pub names_of : Table → List (ℕ × ℕ) → List (List ℕ)
names_of table slots = map (λ slot. string_at table.strings slot.0) slots

pub record IsSlotName (kinds : List (Option CoreType)) (n : ℕ) (name : List ℕ) : Type 0 where
  pub kind : Option CoreType
  pub there : slice_get kinds n ≡ Some kind
  pub is : name ≡ slot_name n kind

name_by : (table : Table) (slots : List (ℕ × ℕ)) (kinds : List (Option CoreType)) → SpellsSlots table 0 slots kinds → (n : ℕ) (name : List ℕ) (o : Option (ℕ × ℕ)) → slice_get slots n ≡ o → option_map (λ (slot : ℕ × ℕ). string_at table.strings slot.0) o ≡ Some name → IsSlotName kinds n name
name_by table slots kinds are n name None e f = absurd (none-some name f)
name_by table slots kinds are n name (Some slot) e f =
    let found = slot_at table 0 slots kinds are n n slot (omega arith) e in
    record {
      kind = found.kind;
      there = found.there;
      is = sym (same_Some (string_at table.strings slot.0) name f) ∙ get_or_from_slice_get table.strings slot.0 (slot_name n found.kind) [] found.spelled.name.there;
    }

pub name_at : (table : Table) (slots : List (ℕ × ℕ)) (kinds : List (Option CoreType)) → SpellsSlots table 0 slots kinds → (n : ℕ) (name : List ℕ) → slice_get (names_of table slots) n ≡ Some name → IsSlotName kinds n name
name_at table slots kinds are n name e =
    name_by table slots kinds are n name (slice_get slots n) refl (sym (slice_get-map (λ (slot : ℕ × ℕ). string_at table.strings slot.0) slots n) ∙ e)

-- the name of a slot is that of no slot before it
pub slot_found : (table : Table) (slots : List (ℕ × ℕ)) (kinds : List (Option CoreType)) → SpellsSlots table 0 slots kinds → HaveOneNothing kinds → length kinds < 2 ^ 64 → (n : ℕ) (slot : ℕ × ℕ) → slice_get slots n ≡ Some slot → first_named (string_at table.strings slot.0) (names_of table slots) ≡ Some n
slot_found table slots kinds are one few n slot e =
    let name = string_at table.strings slot.0 in
    let found = slot_at table 0 slots kinds are n n slot (omega arith) e in
    let is : name ≡ slot_name n found.kind = get_or_from_slice_get table.strings slot.0 (slot_name n found.kind) [] found.spelled.name.there in
    position_first (are_same name) (names_of table slots) n name (slice_get-map (λ (slot : ℕ × ℕ). string_at table.strings slot.0) slots n ∙ ap (λ (o : Option (ℕ × ℕ)). option_map (λ (slot : ℕ × ℕ). string_at table.strings slot.0) o) e) (same-refl name)
    (λ i other f h. let there = name_at table slots kinds are i other f in
    names_differ kinds one few n i found.kind there.kind found.there there.there (sym (ap (λ (l : List ℕ). are_same l other) is ∙ ap (are_same (slot_name n found.kind)) there.is) ∙ h))

-- a name that no slot can have is that of none
pub no_slot_found : (table : Table) (slots : List (ℕ × ℕ)) (kinds : List (Option CoreType)) → SpellsSlots table 0 slots kinds → (name : List ℕ) → ((number : ℕ) (kind : Option CoreType) → are_same name (slot_name number kind) ≡ false) → first_named name (names_of table slots) ≡ None
no_slot_found table slots kinds are name none =
    position_none (are_same name) (names_of table slots)
    (λ i other e. let there = name_at table slots kinds are i other e in ap (are_same name) there.is ∙ none i there.kind)
