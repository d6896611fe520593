-- Types by their names.
use Rattle.std.proofs.Common.{◌≡◌, ℕ, ◌-◌, Bool, true, false, cond, List, [], ◌∷◌, ◌++◌, length, take, drop, Option, None, Some, refl, sym, ap, ◌∙◌, arith, length-append}
use Rattle.std.specs.Prelude.{slice_get, codes, bytes_eq, if◌then◌else◌, IfSome}
use Rattle.std.specs.Option.{option_map, option_or, option_and_then}
use Rattle.std.proofs.lemmas.Option.{none-some, same_Some}
use Rattle.core_tree.specs.declared.core_type.CoreType.{CoreType}
use Rattle.core_tree.specs.declared.core_type.CoreType.TheVariants as kinds
use Rattle.pex_meaning.specs.Names.{are_same, array_of, element_name, first_named, is_among, no_types, type_named, type_of_word}
use Rattle.code_emit.specs.Strings.{array_name, type_name}
use Rattle.emit_laws.specs.Readable.{AreDistinct, IsTypeName, KindFits}
use Rattle.emit_laws.proofs.Operands.{distinct_found}

past_tests : {X : Type 0} (a b c d : Bool) (v w x y z : X) → a ≡ false → b ≡ false → c ≡ false → d ≡ false → cond a v (cond b w (cond c x (cond d y z))) ≡ z
past_tests true b c d v w x y z e f g h = absurd (cc)
past_tests false true c d v w x y z e f g h = absurd (cc)
past_tests false false true d v w x y z e f g h = absurd (cc)
past_tests false false false true v w x y z e f g h = absurd (cc)
past_tests false false false false v w x y z e f g h = refl

-- the word of a script that is a type
script_word : (scripts : List (List ℕ)) (number : ℕ) (name : List ℕ) → AreDistinct scripts → slice_get scripts number ≡ Some name → IsTypeName name → type_of_word scripts name ≡ Some (kinds.Script number)
script_word scripts number name distinct e is =
    past_tests (are_same name (codes "Int")) (are_same name (codes "Bool")) (are_same name (codes "String")) (is_among name no_types) (Some kinds.Int) (Some kinds.Bool) (Some kinds.Text) None (option_map (λ script. kinds.Script script) (first_named name scripts)) is.no_int is.no_bool is.no_text is.no_library
    ∙ ap (λ (o : Option ℕ). option_map (λ script. kinds.Script script) o) (distinct_found scripts distinct number name e)

no_element : (name : List ℕ) → IsTypeName name → element_name name ≡ None
no_element name is = ap (λ (b : Bool). if b then Some (take (length name - 2) name) else None) is.no_array

script_read : (scripts : List (List ℕ)) (number : ℕ) (name : List ℕ) → AreDistinct scripts → slice_get scripts number ≡ Some name → IsTypeName name → type_named scripts name ≡ Some (kinds.Script number)
script_read scripts number name distinct e is =
    ap (λ (o : Option (List ℕ)). option_or (option_and_then array_of (option_and_then (type_of_word scripts) o)) (type_of_word scripts name)) (no_element name is)
    ∙ script_word scripts number name distinct e is

-- ---- arrays
behind : (name more : List ℕ) → drop (length name) (name ++ more) ≡ more
behind [] more = refl
behind (c ∷ name) more = behind name more

before : (name more : List ℕ) → take (length name) (name ++ more) ≡ name
before [] more = refl
before (c ∷ name) more = ap (λ l. c ∷ l) (before name more)

two_less : (name : List ℕ) → length (array_name name) - 2 ≡ length name
two_less name = omega (arith, length-append name (codes "[]"))

is_array : (name : List ℕ) → element_name (array_name name) ≡ Some name
is_array name =
    ap (λ (n : ℕ). if bytes_eq (codes "[]") (drop n (array_name name)) then Some (take n (array_name name)) else None) (two_less name)
    ∙ ap (λ (l : List ℕ). if bytes_eq (codes "[]") l then Some (take (length name) (array_name name)) else None) (behind name (codes "[]"))
    ∙ ap (λ (l : List ℕ). Some l) (before name (codes "[]"))

array_read : (scripts : List (List ℕ)) (number : ℕ) (name : List ℕ) → AreDistinct scripts → slice_get scripts number ≡ Some name → IsTypeName name → type_named scripts (array_name name) ≡ Some (kinds.ScriptArray number)
array_read scripts number name distinct e is =
    ap (λ (o : Option (List ℕ)). option_or (option_and_then array_of (option_and_then (type_of_word scripts) o)) (type_of_word scripts (array_name name))) (is_array name)
    ∙ ap (λ (o : Option CoreType). option_or (option_and_then array_of o) (type_of_word scripts (array_name name))) (script_word scripts number name distinct e is)

array_by : (scripts : List (List ℕ)) (number : ℕ) (name : List ℕ) (o : Option (List ℕ)) → AreDistinct scripts → slice_get scripts number ≡ o → IfSome o IsTypeName → option_map array_name o ≡ Some name → type_named scripts name ≡ Some (kinds.ScriptArray number)
array_by scripts number name None distinct e is f = absurd (none-some name f)
array_by scripts number name (Some element) distinct e is f =
    ap (type_named scripts) (sym (same_Some (array_name element) name f)) ∙ array_read scripts number element distinct e is

script_by : (scripts : List (List ℕ)) (number : ℕ) (name : List ℕ) (o : Option (List ℕ)) → AreDistinct scripts → slice_get scripts number ≡ o → IfSome o IsTypeName → o ≡ Some name → type_named scripts name ≡ Some (kinds.Script number)
script_by scripts number name None distinct e is f = absurd (none-some name f)
script_by scripts number name (Some found) distinct e is f =
    ap (type_named scripts) (sym (same_Some found name f)) ∙ script_read scripts number found distinct e is

-- a word of the language
word_read : (scripts : List (List ℕ)) (word name : List ℕ) → Some word ≡ Some name → type_named scripts name ≡ type_named scripts word
word_read scripts word name e = ap (type_named scripts) (sym (same_Some word name e))

pub type_read : (scripts : List (List ℕ)) (kind : Option CoreType) (name : List ℕ) → AreDistinct scripts → KindFits scripts kind → type_name scripts kind ≡ Some name → type_named scripts name ≡ kind
type_read scripts None name distinct fits e = word_read scripts (codes "None") name e
type_read scripts (Some kinds.Int) name distinct fits e = word_read scripts (codes "Int") name e
type_read scripts (Some kinds.Bool) name distinct fits e = word_read scripts (codes "Bool") name e
type_read scripts (Some kinds.Text) name distinct fits e = word_read scripts (codes "String") name e
type_read scripts (Some kinds.IntArray) name distinct fits e = word_read scripts (codes "Int[]") name e
type_read scripts (Some kinds.BoolArray) name distinct fits e = word_read scripts (codes "Bool[]") name e
type_read scripts (Some kinds.TextArray) name distinct fits e = word_read scripts (codes "String[]") name e
type_read scripts (Some (kinds.Script number)) name distinct fits e =
    script_by scripts number name (slice_get scripts number) distinct refl fits e
type_read scripts (Some (kinds.ScriptArray number)) name distinct fits e =
    array_by scripts number name (slice_get scripts number) distinct refl fits e
