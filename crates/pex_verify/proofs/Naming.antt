-- Scripts by name, and scripts below others, are objects by name, and objects below others.
use Rattle.std.proofs.Common.{◌≡◌, ℕ, zero, suc, ◌+◌, ◌<◌, ◌==◌, ◌||◌, Bool, true, false, not, cond, ltb, List, [], ◌∷◌, length, Option, None, Some, position, refl, sym, ap, ◌∙◌, arith}
use Rattle.std.specs.Prelude.{slice_get}
use Rattle.std.specs.List.{AllZip, list_any, position_or_len}
use Rattle.std.specs.Option.{option_and_then}
use Rattle.std.specs.Str.{str_eq_ignore_ascii_case}
use Rattle.std.proofs.lemmas.Bool.{eq-eqb, le-ltb}
use Rattle.core_tree.specs.Outlines.{ScriptShape}
use Rattle.script_meaning.specs.Values.{upward, parent_in, is_child}
use Rattle.papy_base.specs.Lineage.{stands_below, parent_of}
use Rattle.pex_set.specs.Names.{number_in}
use Rattle.pex_set.specs.Objects.{first_named}
use Rattle.pex_set.specs.declared.objects.Head.{Head}
use Rattle.pex_verify.proofs.LookUps.{no_test, same_test}
use Rattle.pex_verify.proofs.Upward.{same_child}

place-zip : {X Y : Type 0} (R : X → Y → Type 0) (p : X → Bool) (q : Y → Bool) → ((x : X) (y : Y) → R x y → q y ≡ p x) → (xs : List X) (ys : List Y) → AllZip R xs ys → position_or_len q ys ≡ position_or_len p xs
place-zip R p q same [] [] h = refl
place-zip R p q same [] (y ∷ ys) h = absurd h
place-zip R p q same (x ∷ xs) [] h = absurd h
place-zip R p q same (x ∷ xs) (y ∷ ys) h =
    ap (λ (b : Bool). cond (not b) (1 + position_or_len q ys) 0) (same x y h.0) ∙ ap (λ (n : ℕ). cond (not (p x)) (1 + n) 0) (place-zip R p q same xs ys h.1)

length-zip : {X Y : Type 0} (R : X → Y → Type 0) (xs : List X) (ys : List Y) → AllZip R xs ys → length xs ≡ length ys
length-zip R [] [] h = refl
length-zip R [] (y ∷ ys) h = absurd h
length-zip R (x ∷ xs) [] h = absurd h
length-zip R (x ∷ xs) (y ∷ ys) h = ap suc (length-zip R xs ys h.1)

-- the first that passes a test stands at one place in two lists side by side
pub position-zip : {X Y : Type 0} (R : X → Y → Type 0) (p : X → Bool) (q : Y → Bool) → ((x : X) (y : Y) → R x y → q y ≡ p x) → (xs : List X) (ys : List Y) → AllZip R xs ys → position q ys ≡ position p xs
position-zip R p q same xs ys h =
    ap (λ (n : ℕ). cond (ltb n (length ys)) (Some n) None) (place-zip R p q same xs ys h) ∙ ap (λ (n : ℕ). cond (ltb (position_or_len p xs) n) (Some (position_or_len p xs)) None) (sym (length-zip R xs ys h))

-- the script that a text names is the first object of its number
pub named_agrees : (names : List (List ℕ)) (heads : List Head) (outline : List ScriptShape) → AllZip (λ (head : Head) (shape : ScriptShape). number_in names shape.name ≡ Some head.name) heads outline → (number script : ℕ) (name : List ℕ) → number_in names name ≡ Some number → first_named heads number ≡ Some script → position (λ (shape : ScriptShape). str_eq_ignore_ascii_case shape.name name) outline ≡ Some script
named_agrees names heads outline are number script name named found =
    position-zip (λ (head : Head) (shape : ScriptShape). number_in names shape.name ≡ Some head.name) (λ head. head.name == number) (λ (shape : ScriptShape). str_eq_ignore_ascii_case shape.name name) (λ head shape r. same_test names shape.name name head.name number r named) heads outline are ∙ found

-- no name of a list has this one's number
pub no_place : {X : Type 0} (xs : List X) → position (λ (x : X). false) xs ≡ None
no_place {X} xs = ap (λ (n : ℕ). cond (ltb n (length xs)) (Some n) None) (all_passed xs) ∙ ap (λ (b : Bool). cond b (Some (length xs)) None) (le-ltb (length xs) (length xs) (omega arith))
  where
    all_passed : (ys : List X) → position_or_len (λ (x : X). false) ys ≡ length ys
    all_passed [] = refl
    all_passed (y ∷ ys) = ap (λ (n : ℕ). 1 + n) (all_passed ys) ∙ omega arith

-- the first script of a name is the first object of its number, where there is one
pub named_exactly : (names : List (List ℕ)) (heads : List Head) (outline : List ScriptShape) → AllZip (λ (head : Head) (shape : ScriptShape). number_in names shape.name ≡ Some head.name) heads outline → (name : List ℕ)
    → option_and_then (first_named heads) (number_in names name) ≡ position (λ (shape : ScriptShape). str_eq_ignore_ascii_case shape.name name) outline
named_exactly names heads outline are name = by (number_in names name) refl
  where
    by : (o : Option ℕ) → number_in names name ≡ o → option_and_then (first_named heads) o ≡ position (λ (shape : ScriptShape). str_eq_ignore_ascii_case shape.name name) outline
    by (Some number) e =
        sym (position-zip (λ (head : Head) (shape : ScriptShape). number_in names shape.name ≡ Some head.name) (λ head. head.name == number) (λ (shape : ScriptShape). str_eq_ignore_ascii_case shape.name name) (λ head shape r. same_test names shape.name name head.name number r e) heads outline are)
    by None e =
        sym (position-zip (λ (head : Head) (shape : ScriptShape). number_in names shape.name ≡ Some head.name) (λ head. false) (λ (shape : ScriptShape). str_eq_ignore_ascii_case shape.name name) (λ head shape r. no_test names shape.name name head.name r e) heads outline are ∙ no_place heads)

child_by : (n : ℕ) (outline : List ScriptShape) (script : ℕ) → 0 < n → list_any (λ other. other == script) (upward n outline (Some script)) ≡ true
child_by zero outline script h = absurd (omega arith)
child_by (suc n) outline script h =
    ap (λ (b : Bool). b || list_any (λ other. other == script) (upward n outline (parent_in (slice_get outline script)))) (eq-eqb script script refl)

-- a script is its own child
pub child_itself : (outline : List ScriptShape) (script : ℕ) → script < length outline → is_child outline script script ≡ true
child_itself outline script h = child_by (length outline) outline script (omega arith)

-- an object below another is so as a script
pub child_agrees : (outline : List ScriptShape) (parents : List (Option ℕ)) → length outline ≡ length parents → ((script : ℕ) → parent_in (slice_get outline script) ≡ parent_of parents script) → (script above : ℕ) → stands_below parents script above ≡ true → is_child outline script above ≡ true
child_agrees outline parents count same script above h = same_child outline parents count same script above ∙ h

-- an object's parent is the script's
pub parent_agrees : (outline : List ScriptShape) (parents : List (Option ℕ)) → length outline ≡ length parents → ((script : ℕ) → parent_in (slice_get outline script) ≡ parent_of parents script) → (script parent : ℕ) → parent < length parents → parent_of parents script ≡ Some parent → (parent_in (slice_get outline script) ≡ Some parent) × (is_child outline parent parent ≡ true)
parent_agrees outline parents count same script parent within e =
    (same script ∙ e, child_itself outline parent (omega arith))
