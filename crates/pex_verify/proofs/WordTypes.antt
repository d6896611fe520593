-- Which types words mean: with the case of A to Z ignored, and by the place of the script that has the word as its name.
use Rattle.std.proofs.Common.{◌≡◌, ℕ, ◌+◌, ◌-◌, ◌||◌, Bool, true, false, not, cond, ltb, List, [], ◌∷◌, ◌++◌, length, map, take, drop, position, Option, None, Some, refl, sym, ap, subst, ◌∙◌, arith}
use Rattle.std.specs.Prelude.{if◌then◌else◌, nat_eq, nat_lt, option_map, option_and_then, bytes_eq, codes}
use Rattle.std.specs.Cmp.Lexicographic.{pointwise}
use Rattle.std.specs.List.{ends_with, list_any, position_or_len}
use Rattle.std.specs.Option.{option_or}
use Rattle.std.specs.Str.{str_to_ascii_lowercase}
use Rattle.std.specs.Char.{to_ascii_lowercase}
use Rattle.std.proofs.lemmas.Bool.Decides.{nat_tests}
use Rattle.std.proofs.lemmas.List.{length-map, take-map, drop-map}
use Rattle.std.proofs.lemmas.Str.Ascii.{lowercase-lowercase}
use Rattle.core_tree.specs.declared.core_type.CoreType.{CoreType}
use Rattle.core_tree.specs.declared.core_type.CoreType.TheVariants as kinds
use Rattle.pex_meaning.specs.Names.{are_same, first_named, is_among, no_types, type_of_word, array_of, element_name, type_named}
use Rattle.pex_meaning.specs.Prelude.{libraries}
use Rattle.pex_set.proofs.NameLemmas.{position-head, position-tail}
use Rattle.pex_verify.specs.TypesMeant.{script_kind}

-- ---- with case ignored
pub lowered_twice : (name : List ℕ) → str_to_ascii_lowercase (str_to_ascii_lowercase name) ≡ str_to_ascii_lowercase name
lowered_twice [] = refl
lowered_twice (byte ∷ name) =
    ap (λ (b : ℕ). b ∷ str_to_ascii_lowercase (str_to_ascii_lowercase name)) (lowercase-lowercase byte)
    ∙ ap (λ (l : List ℕ). to_ascii_lowercase byte ∷ l) (lowered_twice name)

pub same_lowered : (name other : List ℕ) → are_same (str_to_ascii_lowercase name) other ≡ are_same name other
same_lowered name other = ap (λ (l : List ℕ). bytes_eq l (str_to_ascii_lowercase other)) (lowered_twice name)

place-same : {X : Type 0} (p q : X → Bool) → ((x : X) → p x ≡ q x) → (xs : List X) → position_or_len p xs ≡ position_or_len q xs
place-same p q same [] = refl
place-same p q same (x ∷ xs) =
    ap (λ (b : Bool). cond (not b) (1 + position_or_len p xs) 0) (same x) ∙ ap (λ (n : ℕ). cond (not (q x)) (1 + n) 0) (place-same p q same xs)

position-same : {X : Type 0} (p q : X → Bool) → ((x : X) → p x ≡ q x) → (xs : List X) → position p xs ≡ position q xs
position-same p q same xs = ap (λ (n : ℕ). cond (ltb n (length xs)) (Some n) None) (place-same p q same xs)

any-same : {X : Type 0} (p q : X → Bool) → ((x : X) → p x ≡ q x) → (xs : List X) → list_any p xs ≡ list_any q xs
any-same p q same [] = refl
any-same p q same (x ∷ xs) = ap (λ (b : Bool). b || list_any p xs) (same x) ∙ ap (λ (b : Bool). q x || b) (any-same p q same xs)

-- ---- words by their tests
abbrev pub word_by : Bool → Bool → Bool → Bool → Option ℕ → Option CoreType
word_by int bool text none found =
    if int then Some kinds.Int
    else if bool then Some kinds.Bool
    else if text then Some kinds.Text
    else if none then None
    else option_map (λ script. kinds.Script script) found

word_same : (a b c n : Bool) (f : Option ℕ) (a' b' c' n' : Bool) (f' : Option ℕ) → a ≡ a' → b ≡ b' → c ≡ c' → n ≡ n' → f ≡ f' → word_by a b c n f ≡ word_by a' b' c' n' f'
word_same a b c n f a' b' c' n' f' e1 e2 e3 e4 e5 =
    ap (λ (x : Bool). word_by x b c n f) e1
    ∙ ap (λ (x : Bool). word_by a' x c n f) e2
    ∙ ap (λ (x : Bool). word_by a' b' x n f) e3
    ∙ ap (λ (x : Bool). word_by a' b' c' x f) e4
    ∙ ap (λ (x : Option ℕ). word_by a' b' c' n' x) e5

pub word_lowered : (scripts : List (List ℕ)) (name : List ℕ) → type_of_word scripts (str_to_ascii_lowercase name) ≡ type_of_word scripts name
word_lowered scripts name =
    let l = str_to_ascii_lowercase name in
    word_same (are_same l (codes "Int")) (are_same l (codes "Bool")) (are_same l (codes "String")) (is_among l no_types) (first_named l scripts)
    (are_same name (codes "Int")) (are_same name (codes "Bool")) (are_same name (codes "String")) (is_among name no_types) (first_named name scripts)
    (same_lowered name (codes "Int")) (same_lowered name (codes "Bool")) (same_lowered name (codes "String"))
    (any-same (are_same l) (are_same name) (same_lowered name) no_types)
    (position-same (are_same l) (are_same name) (same_lowered name) scripts)

-- ---- arrays
opens : (c : ℕ) → nat_eq 91 (to_ascii_lowercase c) ≡ nat_eq 91 c
opens c = grind (arith, nat_tests)

closes : (c : ℕ) → nat_eq 93 (to_ascii_lowercase c) ≡ nat_eq 93 c
closes c = grind (arith, nat_tests)

brackets_lowered : (d : List ℕ) → pointwise nat_eq (codes "[]") (map to_ascii_lowercase d) ≡ pointwise nat_eq (codes "[]") d
brackets_lowered [] = refl
brackets_lowered (a ∷ []) = rw (opens a) refl
brackets_lowered (a ∷ b ∷ []) = rw (opens a, closes b) refl
brackets_lowered (a ∷ b ∷ c ∷ d) = rw (opens a, closes b) refl

ends_lowered : (name : List ℕ) → ends_with nat_eq (str_to_ascii_lowercase name) (codes "[]") ≡ ends_with nat_eq name (codes "[]")
ends_lowered name =
    ap (λ (n : ℕ). pointwise nat_eq (codes "[]") (drop (n - 2) (map to_ascii_lowercase name))) (length-map name to_ascii_lowercase)
    ∙ ap (pointwise nat_eq (codes "[]")) (drop-map to_ascii_lowercase (length name - 2) name)
    ∙ brackets_lowered (drop (length name - 2) name)

element_by : (b : Bool) (name : List ℕ) → (if b then Some (take (length (str_to_ascii_lowercase name) - 2) (str_to_ascii_lowercase name)) else None) ≡ option_map str_to_ascii_lowercase (if b then Some (take (length name - 2) name) else None)
element_by true name =
    ap Some (ap (λ (n : ℕ). take (n - 2) (map to_ascii_lowercase name)) (length-map name to_ascii_lowercase) ∙ take-map to_ascii_lowercase (length name - 2) name)
element_by false name = refl

pub element_lowered : (name : List ℕ) → element_name (str_to_ascii_lowercase name) ≡ option_map str_to_ascii_lowercase (element_name name)
element_lowered name =
    ap (λ (b : Bool). if b then Some (take (length (str_to_ascii_lowercase name) - 2) (str_to_ascii_lowercase name)) else None) (ends_lowered name)
    ∙ element_by (ends_with nat_eq name (codes "[]")) name

of_element : (scripts : List (List ℕ)) (element : Option (List ℕ)) → option_and_then (type_of_word scripts) (option_map str_to_ascii_lowercase element) ≡ option_and_then (type_of_word scripts) element
of_element scripts None = refl
of_element scripts (Some name) = word_lowered scripts name

pub type_lowered : (scripts : List (List ℕ)) (name : List ℕ) → type_named scripts (str_to_ascii_lowercase name) ≡ type_named scripts name
type_lowered scripts name =
    ap (λ (e : Option (List ℕ)). option_or (option_and_then array_of (option_and_then (type_of_word scripts) e)) (type_of_word scripts (str_to_ascii_lowercase name))) (element_lowered name)
    ∙ ap (λ (t : Option CoreType). option_or (option_and_then array_of t) (type_of_word scripts (str_to_ascii_lowercase name))) (of_element scripts (element_name name))
    ∙ ap (λ (t : Option CoreType). option_or (option_and_then array_of (option_and_then (type_of_word scripts) (element_name name))) t) (word_lowered scripts name)

-- ---- by the place of a script
behind_three : (o : Option ℕ) → script_kind (option_map (λ k. 1 + k) (option_map (λ k. 1 + k) (option_map (λ k. 1 + k) o))) ≡ option_map (λ script. kinds.Script script) (option_map (λ k. 1 + k) (option_map (λ k. 1 + k) (option_map (λ k. 1 + k) o)))
behind_three None = refl
behind_three (Some k) = let e : nat_lt (1 + (1 + (1 + k))) 3 ≡ false = grind (arith, nat_tests) in rw e refl

first_three : {X : Type 0} (p : X → Bool) (x y z : X) (rest : List X)
    → (if list_any p (x ∷ y ∷ z ∷ []) then None else option_map (λ script. kinds.Script script) (position p (x ∷ y ∷ z ∷ rest))) ≡ script_kind (position p (x ∷ y ∷ z ∷ rest))
first_three {X} p x y z rest = by (p x) refl
  where
    all : List X
    all = x ∷ y ∷ z ∷ rest

    third : p x ≡ false → p y ≡ false → (b : Bool) → p z ≡ b → (if list_any p (x ∷ y ∷ z ∷ []) then None else option_map (λ script. kinds.Script script) (position p all)) ≡ script_kind (position p all)
    third e f true g =
        let at : position p all ≡ Some 2 = position-tail p x (y ∷ z ∷ rest) e ∙ ap (option_map (λ k. 1 + k)) (position-tail p y (z ∷ rest) f ∙ ap (option_map (λ k. 1 + k)) (position-head p z rest g)) in
        rw (at, e, f, g) refl
    third e f false g =
        let at = position-tail p x (y ∷ z ∷ rest) e ∙ ap (option_map (λ k. 1 + k)) (position-tail p y (z ∷ rest) f ∙ ap (option_map (λ k. 1 + k)) (position-tail p z rest g)) in
        rw (at, e, f, g) (sym (behind_three (position p rest)))

    second : p x ≡ false → (b : Bool) → p y ≡ b → (if list_any p (x ∷ y ∷ z ∷ []) then None else option_map (λ script. kinds.Script script) (position p all)) ≡ script_kind (position p all)
    second e true f =
        let at : position p all ≡ Some 1 = position-tail p x (y ∷ z ∷ rest) e ∙ ap (option_map (λ k. 1 + k)) (position-head p y (z ∷ rest) f) in
        rw (at, e, f) refl
    second e false f = third e f (p z) refl

    by : (b : Bool) → p x ≡ b → (if list_any p (x ∷ y ∷ z ∷ []) then None else option_map (λ script. kinds.Script script) (position p all)) ≡ script_kind (position p all)
    by true e = rw (position-head p x (y ∷ z ∷ rest) e, e) refl
    by false e = second e (p y) refl

pub unless_library : (name : List ℕ) (scripts rest : List (List ℕ)) → scripts ≡ libraries ++ rest
    → (if is_among name libraries then None else option_map (λ script. kinds.Script script) (first_named name scripts)) ≡ script_kind (first_named name scripts)
unless_library name scripts rest is =
    subst (λ (l : List (List ℕ)). (if is_among name libraries then None else option_map (λ script. kinds.Script script) (first_named name l)) ≡ script_kind (first_named name l)) (sym is)
    (first_three (are_same name) (codes "Debug") (codes "Utility") (codes "Scene") rest)
