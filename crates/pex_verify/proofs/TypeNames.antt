-- What the names of types mean, by the table of names.
use Rattle.std.proofs.Common.{◌≡◌, ℕ, ◌+◌, ◌-◌, ◌||◌, Bool, true, false, List, [], ◌∷◌, ◌++◌, length, get_or, take, drop, Option, None, Some, refl, sym, ap, ◌∙◌, ⊎_elim, arith}
use Rattle.std.specs.Prelude.{if◌then◌else◌, nat_eq, bytes_eq, codes, MatchOption}
use Prim.Native.String.{String}
use Rattle.std.specs.Cmp.Lexicographic.{pointwise, bytes_decides}
use Rattle.std.specs.List.{ends_with}
use Rattle.std.specs.Option.{option_and_then, option_map, option_or}
use Rattle.std.specs.Str.{str_to_ascii_lowercase}
use Rattle.std.specs.Char.{to_ascii_lowercase}
use Rattle.std.proofs.lemmas.Bool.{cases_lt}
use Rattle.std.proofs.lemmas.Bool.Decides.{nat_tests}
use Rattle.std.proofs.lemmas.List.{get_or_append_left, get_or_push, take-map}
use Rattle.std.proofs.lemmas.List.Quantifiers.{position-Some}
use Rattle.core_tree.specs.declared.core_type.CoreType.{CoreType}
use Rattle.core_tree.specs.declared.core_type.CoreType.TheVariants as kinds
use Rattle.pex_meaning.specs.Names.{are_same, array_of, element_name, first_named as first_meant, is_among, type_named, type_of_word}
use Rattle.pex_meaning.specs.Prelude.{libraries}
use Rattle.pex_set.specs.Names.{number_in}
use Rattle.pex_set.specs.Objects.{first_named}
use Rattle.pex_set.specs.declared.objects.Head.{Head}
use Rattle.pex_verify.specs.declared.value_type.ValueType.{ValueType}
use Rattle.pex_verify.specs.declared.value_type.ValueType.TheVariants.{Float, Unknown, Of}
use Rattle.pex_verify.specs.Meanings.{Meanings}
use Rattle.pex_verify.specs.TypesMeant.{kind_of, word_in, script_kind, IsLowered, AreScripts, AreMeanings, AreTypes}
use Rattle.pex_verify.proofs.WordTypes.{type_lowered, unless_library, word_by}

-- ---- words
-- the words of the language, by the tests for `int`, `bool`, `string`, `float`, `float[]` and `none`, and for a library's name
by_words : (int bool text float floats none library : Bool) (found : Option ℕ)
    → MatchOption (if int then Some (Of kinds.Int) else if bool then Some (Of kinds.Bool) else if text then Some (Of kinds.Text) else if float then Some Float else if floats then Some Float else if none then Some Unknown else None)
    (word_by int bool text (none || (float || (floats || library))) found ≡ (if library then None else option_map (λ script. kinds.Script script) found))
    (λ meaning. kind_of meaning ≡ word_by int bool text (none || (float || (floats || library))) found)
by_words true bool text float floats none library found = refl
by_words false true text float floats none library found = refl
by_words false false true float floats none library found = refl
by_words false false false true floats true library found = refl
by_words false false false true floats false library found = refl
by_words false false false false true true library found = refl
by_words false false false false true false library found = refl
by_words false false false false false true library found = refl
by_words false false false false false false library found = refl

same_word : (name word : List ℕ) → IsLowered name → are_same name word ≡ bytes_eq name (str_to_ascii_lowercase word)
same_word name word lowered = ap (λ (l : List ℕ). bytes_eq l (str_to_ascii_lowercase word)) lowered

words_tested : (scripts : List (List ℕ)) (name : List ℕ) → IsLowered name
    → type_of_word scripts name ≡ word_by (bytes_eq name (codes "int")) (bytes_eq name (codes "bool")) (bytes_eq name (codes "string")) (bytes_eq name (codes "none") || (bytes_eq name (codes "float") || (bytes_eq name (codes "float[]") || is_among name libraries))) (first_meant name scripts)
words_tested scripts name lowered =
    let found = first_meant name scripts in
    let library = is_among name libraries in
    let test : String → Bool = λ word. are_same name (codes word) in
    ap (λ (b : Bool). word_by b (test "Bool") (test "String") (test "None" || (test "Float" || (test "Float[]" || library))) found) (same_word name (codes "Int") lowered)
    ∙ ap (λ (b : Bool). word_by (bytes_eq name (codes "int")) b (test "String") (test "None" || (test "Float" || (test "Float[]" || library))) found) (same_word name (codes "Bool") lowered)
    ∙ ap (λ (b : Bool). word_by (bytes_eq name (codes "int")) (bytes_eq name (codes "bool")) b (test "None" || (test "Float" || (test "Float[]" || library))) found) (same_word name (codes "String") lowered)
    ∙ ap (λ (b : Bool). word_by (bytes_eq name (codes "int")) (bytes_eq name (codes "bool")) (bytes_eq name (codes "string")) (b || (test "Float" || (test "Float[]" || library))) found) (same_word name (codes "None") lowered)
    ∙ ap (λ (b : Bool). word_by (bytes_eq name (codes "int")) (bytes_eq name (codes "bool")) (bytes_eq name (codes "string")) (bytes_eq name (codes "none") || (b || (test "Float[]" || library))) found) (same_word name (codes "Float") lowered)
    ∙ ap (λ (b : Bool). word_by (bytes_eq name (codes "int")) (bytes_eq name (codes "bool")) (bytes_eq name (codes "string")) (bytes_eq name (codes "none") || (bytes_eq name (codes "float") || (b || library))) found) (same_word name (codes "Float[]") lowered)

word_tests : (scripts : List (List ℕ)) (name : List ℕ) → MatchOption (word_in name) (word_by (bytes_eq name (codes "int")) (bytes_eq name (codes "bool")) (bytes_eq name (codes "string")) (bytes_eq name (codes "none") || (bytes_eq name (codes "float") || (bytes_eq name (codes "float[]") || is_among name libraries))) (first_meant name scripts) ≡ (if is_among name libraries then None else option_map (λ script. kinds.Script script) (first_meant name scripts)))
    (λ meaning. kind_of meaning ≡ word_by (bytes_eq name (codes "int")) (bytes_eq name (codes "bool")) (bytes_eq name (codes "string")) (bytes_eq name (codes "none") || (bytes_eq name (codes "float") || (bytes_eq name (codes "float[]") || is_among name libraries))) (first_meant name scripts))
word_tests scripts name =
    by_words (bytes_eq name (codes "int")) (bytes_eq name (codes "bool")) (bytes_eq name (codes "string")) (bytes_eq name (codes "float")) (bytes_eq name (codes "float[]")) (bytes_eq name (codes "none")) (is_among name libraries) (first_meant name scripts)

-- a word of the language
pub language_word : (scripts : List (List ℕ)) (name : List ℕ) (meaning : ValueType) → IsLowered name → word_in name ≡ Some meaning → kind_of meaning ≡ type_of_word scripts name
language_word scripts name meaning lowered is =
    let tests = word_tests scripts name in
    (rw is at tests) ∙ sym (words_tested scripts name lowered)

-- any other word is a script's name or none
pub script_word : (names : List (List ℕ)) (objects : List Head) (scripts : List (List ℕ)) (name : List ℕ) (number found : Option ℕ) → AreScripts names objects scripts → IsLowered name → word_in name ≡ None
    → number ≡ number_in names name → found ≡ option_and_then (first_named objects) number → type_of_word scripts name ≡ script_kind found
script_word names objects scripts name number found are lowered is named first =
    let tests = word_tests scripts name in
    words_tested scripts name lowered
    ∙ (rw is at tests)
    ∙ unless_library name scripts are.rest are.first
    ∙ ap script_kind (sym (are.each name) ∙ ap (option_and_then (first_named objects)) (sym named) ∙ sym first)

-- ---- arrays
pointwise-sym : (xs ys : List ℕ) → pointwise nat_eq xs ys ≡ pointwise nat_eq ys xs
pointwise-sym [] [] = refl
pointwise-sym [] (y ∷ ys) = refl
pointwise-sym (x ∷ xs) [] = refl
pointwise-sym (x ∷ xs) (y ∷ ys) = let e : nat_eq x y ≡ nat_eq y x = grind (arith, nat_tests) in rw (e, pointwise-sym xs ys) refl

pub element_lowered : (name : List ℕ) (count : ℕ) → IsLowered name → IsLowered (take count name)
element_lowered name count lowered = sym (take-map to_ascii_lowercase count name) ∙ ap (take count) lowered

-- a name that ends with `[]` has an element
pub array_type : (scripts : List (List ℕ)) (name element : List ℕ) (inner outer meaning : ValueType) → pointwise nat_eq (drop (length name - 2) name) (codes "[]") ≡ true → element ≡ take (length name - 2) name
    → kind_of inner ≡ type_of_word scripts element → kind_of outer ≡ type_of_word scripts name → kind_of meaning ≡ option_or (option_and_then array_of (kind_of inner)) (kind_of outer) → kind_of meaning ≡ type_named scripts name
array_type scripts name element inner outer meaning ends is of_inner of_outer e =
    let test : ends_with nat_eq name (codes "[]") ≡ true = pointwise-sym (codes "[]") (drop (length name - 2) name) ∙ ends in
    let named : element_name name ≡ Some element = ap (λ (b : Bool). if b then Some (take (length name - 2) name) else None) test ∙ ap Some (sym is) in
    e
    ∙ ap (λ (k : Option CoreType). option_or (option_and_then array_of k) (kind_of outer)) of_inner
    ∙ ap (option_or (option_and_then array_of (type_of_word scripts element))) of_outer
    ∙ ap (λ (o : Option (List ℕ)). option_or (option_and_then array_of (option_and_then (type_of_word scripts) o)) (type_of_word scripts name)) (sym named)

pub plain_type : (scripts : List (List ℕ)) (name : List ℕ) (meaning : ValueType) → pointwise nat_eq (drop (length name - 2) name) (codes "[]") ≡ false → kind_of meaning ≡ type_of_word scripts name → kind_of meaning ≡ type_named scripts name
plain_type scripts name meaning ends is =
    let test : ends_with nat_eq name (codes "[]") ≡ false = pointwise-sym (codes "[]") (drop (length name - 2) name) ∙ ends in
    let named : element_name name ≡ None = ap (λ (b : Bool). if b then Some (take (length name - 2) name) else None) test in
    is ∙ ap (λ (o : Option (List ℕ)). option_or (option_and_then array_of (option_and_then (type_of_word scripts) o)) (type_of_word scripts name)) (sym named)

-- ---- tables
pub own_lowered : (table : List (List ℕ)) (number : ℕ) → number_in table (get_or table number []) ≡ Some number → IsLowered (get_or table number [])
own_lowered table number is =
    let name = get_or table number [] in
    (bytes_decides (str_to_ascii_lowercase name) name).0 (position-Some (bytes_eq (str_to_ascii_lowercase name)) table number [] is).1

pub meanings_more : (names : List (List ℕ)) (objects : List Head) (number : ℕ) (meanings later : List ValueType) (meaning : ValueType) → later ≡ meanings ++ meaning ∷ [] → length meanings ≡ number → AreMeanings names objects number meanings
    → ((scripts : List (List ℕ)) → AreScripts names objects scripts → kind_of meaning ≡ type_named scripts (get_or names number [])) → AreMeanings names objects (number + 1) later
meanings_more names objects number meanings later meaning grown count before last = λ scripts place are within.
    ap (λ (l : List ValueType). kind_of (get_or l place Unknown)) grown ∙ ⊎_elim
    (λ old. ap kind_of (get_or_append_left meanings (meaning ∷ []) Unknown place (omega arith)) ∙ before scripts place are old)
    (λ new.
    let here : place ≡ number = omega arith in
    ap kind_of (get_or_push meanings meaning Unknown place (omega arith)) ∙ last scripts are ∙ ap (λ (n : ℕ). type_named scripts (get_or names n [])) (sym here))
    (cases_lt place number)

pub types_given : (names : List (List ℕ)) (objects : List Head) (types : Meanings) → AreMeanings names objects (length names) types.meanings → AreTypes names objects types
types_given names objects types are_meanings = λ scripts name number are is.
    let place = position-Some (bytes_eq (str_to_ascii_lowercase name)) names number [] is in
    let stored : str_to_ascii_lowercase name ≡ get_or names number [] = (bytes_decides (str_to_ascii_lowercase name) (get_or names number [])).0 place.1 in
    are_meanings scripts number are place.0 ∙ ap (type_named scripts) (sym stored) ∙ type_lowered scripts name
