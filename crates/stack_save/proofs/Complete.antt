-- What was spelled is found: reading the spelling of a part, whatever is behind it, finds the part and what is behind.
use Rattle.std.specs.Prelude.{true, false, nat_eq, nat_le, Option, Some, None, IfSome, ⊤}
use Rattle.std.proofs.Common.{◌≡◌, ℕ, ◌<◌, ◌^◌, ℤ, pos, negsuc, List, [], ◌∷◌, ◌++◌, length, refl, sym, ap, subst, ◌∙◌, append_assoc, arith}
use Rattle.std.specs.Int.{w32, bytes_high_first, cast_signed, cast_unsigned}
use Rattle.std.specs.List.{AllByRecursion, flat_map}
use Rattle.std.proofs.lemmas.Bool.{le-leb}
use Rattle.std.proofs.lemmas.Bool.Decides.{nat_tests}
use Rattle.std.proofs.lemmas.Int.{to_z-of_z}
use Rattle.std.proofs.lemmas.List.{append-nil, length-append}
use Rattle.std.proofs.Math.Seq.{take-append_seam, drop-append_seam}
use Rattle.byteorder.specs.Endian.{big_from}
use Rattle.byteorder.specs.Numbers.{big_number-reads_back, length-bytes_high_first}
use Rattle.core_tree.specs.declared.DeviceKind.{DeviceKind}
use Rattle.core_tree.specs.declared.DeviceKind.TheVariants.{Tape, Sum, Latch, Dice}
use Rattle.core_tree.specs.declared.core_type.CoreType.TheVariants as kinds
use Rattle.core_tree.specs.declared.value.Value.{Value}
use Rattle.core_tree.specs.declared.value.Value.TheVariants as values
use Rattle.machine_state.specs.declared.frame.BodyPlace.{BodyPlace}
use Rattle.machine_state.specs.declared.frame.Way.TheVariants as ways
use Rattle.machine_state.specs.Plain.{ToEnter, Running, PlainState}
use Rattle.machine_state.specs.Ranges.{IsU16, IsU32, IsI32, IsValueInRange, IsWayInRange, IsCallInRange, IsBodyInRange, IsFrameInRange, IsStackInRange, IsInstanceInRange, IsTypeInRange, IsArrayInRange, IsDeviceInRange, IsPairInRange, IsSleeperInRange, IsInRange}
use Rattle.machine_state.specs.Savable.{FitsTwoBytes, FitsFourBytes, IsNumbered, IsSavableValue, name_of, IsSavablePlace, IsSavableCall, IsSavableBody, IsSavableFrame, IsSavableStack, IsSavableInstance, IsElementType, IsSavableArray, IsSavableDevice, firsts, IsSavable}
use Rattle.pex_values.specs.Spelling.{one_byte, two_bytes, four_bytes, eight_bytes, string, list, pair}
use Rattle.stack_save.proofs.Ascends.{ascending-complete}
use Rattle.stack_save.proofs.Lists.{each_trivial, flat2, flat3, flat4, flat5}
use Rattle.stack_save.specs.Loading.{IsLayout, held_fields}
use Rattle.stack_save.specs.Parts.{IsPart, AreParts, AreAscending, AreLocks, AreThings}
use Rattle.stack_save.specs.Reading.{Found, found_as, bytes_at, number_at, integer_at, number_if, number_or_none_at, string_at, long_string_at, items_at, list_at, long_list_at, short_list_at, pair_at, sleeper_at, value_at, instance_at, element_type_at, array_at, device_kind_at, device_at, way_at, call_at, place_at, reply_at, body_at, frame_at, stack_at, owners_at, free_at, asleep_at, locks_at, things_at, state_at, held_at}
use Rattle.stack_save.specs.Spelling.{integer, short_list, long_list, long_string, number_or_none, value, instance, element_type, array, device_kind, device, way, call, place, reply, body, frame, stack, sleeper, locks, things, locks_of, things_of, state}

abbrev pub IsComplete : {A : Type 0} → (A → Type 0) → (A → List ℕ) → (List ℕ → Found A) → Type 0
IsComplete {A} P f at = (x : A) (s : List ℕ) → P x → at (f x ++ s) ≡ Some (x, s)

-- ---- numbers and texts

pub bytes_complete : (x s : List ℕ) → bytes_at (length x) (x ++ s) ≡ Some (x, s)
unfolding bytes_at
bytes_complete x s =
    let within : nat_le (length x) (length (x ++ s)) ≡ true = le-leb (length x) (length (x ++ s)) (omega (arith, length-append x s)) in
    rw (within, take-append_seam x s, drop-append_seam x s) refl

pub number_complete : (k : ℕ) → IsComplete (λ n. n < 256 ^ k) (bytes_high_first k) (number_at k)
unfolding number_at
number_complete k n s p =
    let bytes = bytes_high_first k n in
    let there : bytes_at k (bytes ++ s) ≡ Some (bytes, s) = subst (λ (m : ℕ). bytes_at m (bytes ++ s) ≡ Some (bytes, s)) (length-bytes_high_first k n) (bytes_complete bytes s) in
    let back : big_from 0 k bytes ≡ n = ap (λ (b : List ℕ). big_from 0 k b) (sym (append-nil bytes)) ∙ big_number-reads_back k n [] p in
    ap (λ (f : Found (List ℕ)). found_as (λ taken. big_from 0 k taken) f) there ∙ ap (λ (m : ℕ). Some (m, s)) back

pub two_complete : IsComplete IsU16 two_bytes (number_at 2)
two_complete = number_complete 2

pub four_complete : IsComplete IsU32 four_bytes (number_at 4)
four_complete = number_complete 4

pub eight_complete : IsComplete (λ n. n < 2 ^ 64) eight_bytes (number_at 8)
eight_complete = number_complete 8

unsigned_fits : (n : ℤ) → IsI32 n → cast_unsigned w32 n < 2 ^ 32
unsigned_fits (pos n) f = omega (arith, f.sfits)
unsigned_fits (negsuc n) f = omega arith

pub integer_complete : IsComplete IsI32 integer integer_at
integer_complete n s f =
    ap (λ (there : Found ℕ). found_as (λ m. cast_signed w32 m) there) (four_complete (cast_unsigned w32 n) s (unsigned_fits n f))
    ∙ ap (λ (z : ℤ). Some (z, s)) (to_z-of_z w32 n f)

pub number_or_none_complete : IsComplete IsNumbered number_or_none number_or_none_at
number_or_none_complete None s p =
    ap (λ (there : Found ℕ). found_as number_if there) (two_complete 65535 s (omega arith))
number_or_none_complete (Some n) s p =
    let other : nat_eq n 65535 ≡ false = grind (arith, nat_tests) in
    ap (λ (there : Found ℕ). found_as number_if there) (two_complete n s (omega arith)) ∙ rw other refl

pub string_complete : IsComplete FitsTwoBytes string string_at
unfolding string_at
string_complete x s p = rw (two_complete (length x) (x ++ s) p) (bytes_complete x s)

pub long_string_complete : IsComplete FitsFourBytes long_string long_string_at
unfolding long_string_at
long_string_complete x s p = rw (four_complete (length x) (x ++ s) p) (bytes_complete x s)

-- ---- lists

pub items_complete : {A : Type 0} (Savable InRange : A → Type 0) (f : A → List ℕ) (at : List ℕ → Found A)
    → IsComplete (IsPart Savable InRange) f at → (xs : List A) (s : List ℕ) → AllByRecursion Savable xs → AllByRecursion InRange xs
    → items_at at (length xs) (flat_map f xs ++ s) ≡ Some (xs, s)
items_complete Savable InRange f at one [] s p q = refl
items_complete Savable InRange f at one (x ∷ xs) s p q =
    rw (append_assoc (f x) (flat_map f xs) s, one x (flat_map f xs ++ s) (record { savable = p.0; in_range = q.0 }), items_complete Savable InRange f at one xs s p.1 q.1) refl

pub list_complete : {A : Type 0} (Savable InRange : A → Type 0) (f : A → List ℕ) (at : List ℕ → Found A)
    → IsComplete (IsPart Savable InRange) f at → (xs : List A) (s : List ℕ) → FitsTwoBytes xs → AllByRecursion Savable xs → AllByRecursion InRange xs
    → list_at at (list f xs ++ s) ≡ Some (xs, s)
unfolding list_at
list_complete Savable InRange f at one xs s count p q =
    rw (two_complete (length xs) (flat_map f xs ++ s) count) (items_complete Savable InRange f at one xs s p q)

pub long_list_complete : {A : Type 0} (Savable InRange : A → Type 0) (f : A → List ℕ) (at : List ℕ → Found A)
    → IsComplete (IsPart Savable InRange) f at → (xs : List A) (s : List ℕ) → FitsFourBytes xs → AllByRecursion Savable xs → AllByRecursion InRange xs
    → long_list_at at (long_list f xs ++ s) ≡ Some (xs, s)
unfolding long_list_at
long_list_complete Savable InRange f at one xs s count p q =
    rw (four_complete (length xs) (flat_map f xs ++ s) count) (items_complete Savable InRange f at one xs s p q)

pub short_list_complete : {A : Type 0} (Savable InRange : A → Type 0) (f : A → List ℕ) (at : List ℕ → Found A)
    → IsComplete (IsPart Savable InRange) f at → (xs : List A) (s : List ℕ) → AllByRecursion Savable xs → AllByRecursion InRange xs
    → short_list_at at (short_list f xs ++ s) ≡ Some (xs, s)
unfolding short_list_at
short_list_complete Savable InRange f at one xs s p q = items_complete Savable InRange f at one xs s p q

-- ---- values

any_complete : {A : Type 0} (InRange : A → Type 0) (f : A → List ℕ) (at : List ℕ → Found A) → IsComplete InRange f at → IsComplete (IsPart (λ (x : A). ⊤) InRange) f at
any_complete InRange f at one x s p = one x s p.in_range

pub pair_complete : IsComplete IsPairInRange pair pair_at
unfolding pair_at
pair_complete x s p = rw (two_complete x.0 (two_bytes x.1 ++ s) p.first, two_complete x.1 s p.second) refl

pub sleeper_complete : IsComplete IsSleeperInRange sleeper sleeper_at
unfolding sleeper_at
sleeper_complete x s p = rw (two_complete x.0 (four_bytes x.1 ++ s) p.stack, four_complete x.1 s p.due) refl

pub value_complete : IsComplete (IsPart IsSavableValue IsValueInRange) value value_at
unfolding value_at
value_complete values.NoneValue s p = refl
value_complete (values.Int n) s p = rw (integer_complete n s p.in_range) refl
value_complete (values.Bool true) s p = refl
value_complete (values.Bool false) s p = refl
value_complete (values.Text text) s p = rw (string_complete text s p.savable) refl
value_complete (values.Instance n) s p = rw (two_complete n s p.in_range) refl
value_complete (values.Array n) s p = rw (two_complete n s p.in_range) refl

-- ---- instances, arrays and devices

pub instance_complete : IsComplete (IsPart IsSavableInstance IsInstanceInRange) instance instance_at
unfolding instance instance_at
instance_complete i s p =
    ap instance_at (flat2 (string i.state) (long_list value i.values) s)
    ∙ rw (string_complete i.state (long_list value i.values ++ s) p.savable.state, long_list_complete IsSavableValue IsValueInRange value value_at value_complete i.values s p.savable.count p.savable.values p.in_range) refl

pub element_type_complete : IsComplete (IsPart IsElementType IsTypeInRange) element_type element_type_at
unfolding element_type_at
element_type_complete kinds.Int s p = refl
element_type_complete kinds.Bool s p = refl
element_type_complete kinds.Text s p = refl
element_type_complete (kinds.Script n) s p = rw (two_complete n s p.in_range) refl
element_type_complete kinds.IntArray s p = absurd p.savable
element_type_complete kinds.BoolArray s p = absurd p.savable
element_type_complete kinds.TextArray s p = absurd p.savable
element_type_complete (kinds.ScriptArray n) s p = absurd p.savable

pub array_complete : IsComplete (IsPart IsSavableArray IsArrayInRange) array array_at
unfolding array array_at
array_complete a s p =
    ap array_at (flat2 (element_type a.element) (short_list value a.values) s)
    ∙ rw (element_type_complete a.element (short_list value a.values ++ s) (record { savable = p.savable.element; in_range = p.in_range.element }), short_list_complete IsSavableValue IsValueInRange value value_at value_complete a.values s p.savable.values p.in_range.values) refl

device_kind_complete : (kind : DeviceKind) (s : List ℕ) → device_kind_at (device_kind kind ++ s) ≡ Some (kind, s)
device_kind_complete Tape s = refl
device_kind_complete Sum s = refl
device_kind_complete Latch s = refl
device_kind_complete Dice s = refl

pub device_complete : IsComplete (IsPart IsSavableDevice IsDeviceInRange) device device_at
unfolding device device_at
device_complete d s p =
    ap device_at (flat3 (device_kind d.kind) (long_list integer d.cells) (eight_bytes d.place) s)
    ∙ rw (device_kind_complete d.kind (long_list integer d.cells ++ (eight_bytes d.place ++ s)), long_list_complete (λ (n : ℤ). ⊤) IsI32 integer integer_at (any_complete IsI32 integer integer_at integer_complete) d.cells (eight_bytes d.place ++ s) p.savable (each_trivial d.cells) p.in_range.cells, eight_complete d.place s p.in_range.place) refl

-- ---- stacks

pub way_complete : IsComplete (IsPart (λ w. FitsTwoBytes (name_of w)) IsWayInRange) way way_at
unfolding way_at
way_complete (ways.Method name) s p = rw (string_complete name s p.savable) refl
way_complete (ways.Parent script name) s p = rw (two_complete script (string name ++ s) p.in_range, string_complete name s p.savable) refl
way_complete (ways.Global script name) s p = rw (two_complete script (string name ++ s) p.in_range, string_complete name s p.savable) refl
way_complete (ways.Get name) s p = rw (string_complete name s p.savable) refl
way_complete (ways.Set name) s p = rw (string_complete name s p.savable) refl

values_complete : (xs : List Value) (s : List ℕ) → FitsTwoBytes xs → AllByRecursion IsSavableValue xs → AllByRecursion IsValueInRange xs → list_at value_at (list value xs ++ s) ≡ Some (xs, s)
values_complete = list_complete IsSavableValue IsValueInRange value value_at value_complete

pub call_complete : IsComplete (IsPart IsSavableCall IsCallInRange) call call_at
unfolding call call_at
call_complete c s p =
    ap call_at (flat3 (number_or_none c.instance) (way c.way) (list value c.arguments) s)
    ∙ rw (number_or_none_complete c.instance (way c.way ++ (list value c.arguments ++ s)) p.savable.instance, way_complete c.way (list value c.arguments ++ s) (record { savable = p.savable.name; in_range = p.in_range.way }), values_complete c.arguments s p.savable.count p.savable.arguments p.in_range.arguments) refl

pub place_complete : IsComplete (IsPart IsSavablePlace (λ (p : BodyPlace). IsU16 p.script)) place place_at
unfolding place place_at
place_complete q s p =
    let small : nat_le q.kind 2 ≡ true = le-leb q.kind 2 p.savable.kind in
    ap place_at (flat4 (two_bytes q.script) (string q.state) (string q.function) (one_byte q.kind) s)
    ∙ rw (two_complete q.script (string q.state ++ (string q.function ++ (one_byte q.kind ++ s))) p.in_range, string_complete q.state (string q.function ++ (one_byte q.kind ++ s)) p.savable.state, string_complete q.function (one_byte q.kind ++ s) p.savable.function, small) refl

pub reply_complete : IsComplete (IsPart (λ (r : Option Value). IfSome r IsSavableValue) (λ r. IfSome r IsValueInRange)) reply reply_at
unfolding reply_at
reply_complete None s p = refl
reply_complete (Some v) s p = rw (value_complete v s (record { savable = p.savable; in_range = p.in_range })) refl

pub body_complete : IsComplete (IsPart IsSavableBody IsBodyInRange) body body_at
unfolding body body_at
body_complete b s p =
    ap body_at (flat5 (number_or_none b.instance) (place b.place) (two_bytes b.instruction) (list value b.slots) (reply b.reply) s)
    ∙ rw (number_or_none_complete b.instance (place b.place ++ (two_bytes b.instruction ++ (list value b.slots ++ (reply b.reply ++ s)))) p.savable.instance, place_complete b.place (two_bytes b.instruction ++ (list value b.slots ++ (reply b.reply ++ s))) (record { savable = p.savable.place; in_range = p.in_range.script }), two_complete b.instruction (list value b.slots ++ (reply b.reply ++ s)) p.in_range.instruction, values_complete b.slots (reply b.reply ++ s) p.savable.count p.savable.slots p.in_range.slots, reply_complete b.reply s (record { savable = p.savable.reply; in_range = p.in_range.reply })) refl

pub frame_complete : IsComplete (IsPart IsSavableFrame IsFrameInRange) frame frame_at
unfolding frame_at
frame_complete (ToEnter c) s p = rw (call_complete c s (record { savable = p.savable; in_range = p.in_range })) refl
frame_complete (Running b) s p = rw (body_complete b s (record { savable = p.savable; in_range = p.in_range })) refl

pub stack_complete : IsComplete (IsPart IsSavableStack IsStackInRange) stack stack_at
stack_complete frames s p = list_complete IsSavableFrame IsFrameInRange frame frame_at frame_complete frames s p.savable.count p.savable.frames p.in_range

-- ---- the state

free_complete : (xs : List ℕ) (s : List ℕ) → AreAscending (λ free. free) IsU16 xs → free_at (list two_bytes xs ++ s) ≡ Some (xs, s)
free_complete xs s p =
    rw (list_complete (λ (n : ℕ). ⊤) IsU16 two_bytes (number_at 2) (any_complete IsU16 two_bytes (number_at 2) two_complete) xs s p.fit.count p.fit.savable p.fit.in_range, ascending-complete xs p.ascend) refl

pairs_complete : (xs : List (ℕ × ℕ)) (s : List ℕ) → AreParts (2 ^ 16) (λ (x : ℕ × ℕ). ⊤) IsPairInRange xs → list_at pair_at (list pair xs ++ s) ≡ Some (xs, s)
pairs_complete xs s p = list_complete (λ (x : ℕ × ℕ). ⊤) IsPairInRange pair pair_at (any_complete IsPairInRange pair pair_at pair_complete) xs s p.count p.savable p.in_range

owners_complete : (xs : List (ℕ × ℕ)) (s : List ℕ) → AreAscending firsts IsPairInRange xs → owners_at (list pair xs ++ s) ≡ Some (xs, s)
owners_complete xs s p = rw (pairs_complete xs s p.fit, ascending-complete (firsts xs) p.ascend) refl

asleep_complete : (xs : List (ℕ × ℕ)) (s : List ℕ) → AreAscending firsts IsSleeperInRange xs → asleep_at (list sleeper xs ++ s) ≡ Some (xs, s)
asleep_complete xs s p =
    rw (list_complete (λ (x : ℕ × ℕ). ⊤) IsSleeperInRange sleeper sleeper_at (any_complete IsSleeperInRange sleeper sleeper_at sleeper_complete) xs s p.fit.count p.fit.savable p.fit.in_range, ascending-complete (firsts xs) p.ascend) refl

pub locks_complete : IsComplete AreLocks locks locks_at
unfolding locks locks_at
locks_complete l s p =
    ap locks_at (flat4 (list pair l.owners) (list pair l.waiters) (list two_bytes l.free) (list sleeper l.asleep) s)
    ∙ rw (owners_complete l.owners (list pair l.waiters ++ (list two_bytes l.free ++ (list sleeper l.asleep ++ s))) p.owners, pairs_complete l.waiters (list two_bytes l.free ++ (list sleeper l.asleep ++ s)) p.waiters, free_complete l.free (list sleeper l.asleep ++ s) p.free, asleep_complete l.asleep s p.asleep) refl

pub things_complete : IsComplete AreThings things things_at
unfolding things things_at
things_complete t s p =
    ap things_at (flat3 (list array t.arrays) (list device t.devices) (list stack t.stacks) s)
    ∙ rw (list_complete IsSavableArray IsArrayInRange array array_at array_complete t.arrays (list device t.devices ++ (list stack t.stacks ++ s)) p.arrays.count p.arrays.savable p.arrays.in_range, list_complete IsSavableDevice IsDeviceInRange device device_at device_complete t.devices (list stack t.stacks ++ s) p.devices.count p.devices.savable p.devices.in_range, list_complete IsSavableStack IsStackInRange stack stack_at stack_complete t.stacks s p.stacks.count p.stacks.savable p.stacks.in_range) refl

locks_may : (t : PlainState) → IsSavable t → IsInRange t → AreLocks (locks_of t)
locks_may t p q = record {
  owners = record { fit = record { count = p.owners; savable = each_trivial t.owners; in_range = q.owners }; ascend = p.owners_ascend };
  waiters = record { count = p.waiters; savable = each_trivial t.waiters; in_range = q.waiters };
  free = record { fit = record { count = p.free; savable = each_trivial t.free; in_range = q.free }; ascend = p.free_ascend };
  asleep = record { fit = record { count = p.asleep; savable = each_trivial t.asleep; in_range = q.asleep }; ascend = p.asleep_ascend };
}

things_may : (t : PlainState) → IsSavable t → IsInRange t → AreThings (things_of t)
things_may t p q = record {
  arrays = record { count = p.arrays; savable = p.each_array; in_range = q.arrays };
  devices = record { count = p.devices; savable = p.each_device; in_range = q.devices };
  stacks = record { count = p.stacks; savable = p.each_stack; in_range = q.stacks };
}

pub state_complete : IsComplete (IsPart IsSavable IsInRange) state state_at
unfolding state state_at
state_complete t s p =
    let l = locks (locks_of t) in
    let h = things (things_of t) in
    ap state_at (flat5 (four_bytes t.turn) (number_or_none t.last) (list instance t.instances) l h s)
    ∙ rw (four_complete t.turn (number_or_none t.last ++ (list instance t.instances ++ (l ++ (h ++ s)))) p.in_range.turn, number_or_none_complete t.last (list instance t.instances ++ (l ++ (h ++ s))) p.savable.last, list_complete IsSavableInstance IsInstanceInRange instance instance_at instance_complete t.instances (l ++ (h ++ s)) p.savable.instances p.savable.each_instance p.in_range.instances, locks_complete (locks_of t) (h ++ s) (locks_may t p.savable p.in_range), things_complete (things_of t) s (things_may t p.savable p.in_range)) refl

-- ---- the file behind its heading

pub held_complete : IsComplete IsLayout held_fields held_at
unfolding held_at
held_complete h s p =
    ap held_at (flat3 (list long_string h.files) (long_string h.scene) (state h.state) s)
    ∙ rw (list_complete FitsFourBytes (λ (file : List ℕ). ⊤) long_string long_string_at (λ x t q. long_string_complete x t q.savable) h.files (long_string h.scene ++ (state h.state ++ s)) p.fit.count p.fit.each_length (each_trivial h.files), long_string_complete h.scene (state h.state ++ s) p.fit.scene_length, state_complete h.state s (record { savable = p.savable; in_range = p.in_range })) refl
