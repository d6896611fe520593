-- Look-ups by texts and by numbers agree.
use Rattle.std.proofs.Common.{◌≡◌, ℕ, suc, ◌==◌, Bool, true, false, List, [], ◌∷◌, Option, None, Some, refl, sym, ap, subst, ◌∙◌}
use Rattle.std.specs.Prelude.{slice_get, if◌then◌else◌}
use Rattle.std.specs.List.{AllZip}
use Rattle.std.specs.Option.{option_or}
use Rattle.std.specs.Str.{str_eq_ignore_ascii_case}
use Rattle.std.proofs.lemmas.Bool.{eqb-true, eqb-false}
use Rattle.std.proofs.lemmas.Option.{none-some, same_Some}
use Rattle.code_meaning.specs.Code.{Function, State, Script}
use Rattle.code_meaning.specs.LookUp.{numbered, one_on, states_in, FoundMethod, method_at, method_of_state, method_of_script, first_method}
use Rattle.pex_set.specs.Names.{number_in}
use Rattle.pex_set.proofs.NameLemmas.{alike-number}
use Rattle.pex_set.proofs.Positions.{falsely}
use Rattle.pex_verify.specs.Meanings.{Meanings}
use Rattle.pex_verify.specs.Signatures.{Declared}
use Rattle.pex_verify.proofs.Views.{StateView, Declares, IsViewed, view_of, own_at, own_of_state, own_found, ViewFound, found_of_script, first_found}

-- ---- texts and numbers
same_test_by : (names : List (List ℕ)) (own text : List ℕ) (m n : ℕ) → number_in names own ≡ Some m → number_in names text ≡ Some n → (b : Bool) → (m == n) ≡ b → str_eq_ignore_ascii_case own text ≡ b
same_test_by names own text m n e f true same =
    (alike-number names own text m e).0 (f ∙ ap (λ k. Some k) (sym (eqb-true m n same)))
same_test_by names own text m n e f false apart =
    falsely _ (λ h. eqb-false m n apart (sym (same_Some n m (sym f ∙ (alike-number names own text m e).1 h))))

-- a text is another with case ignored where their numbers are the same
pub same_test : (names : List (List ℕ)) (own text : List ℕ) (m n : ℕ) → number_in names own ≡ Some m → number_in names text ≡ Some n → str_eq_ignore_ascii_case own text ≡ (m == n)
same_test names own text m n e f = same_test_by names own text m n e f (m == n) refl

-- a text without a number is no name
pub no_test : (names : List (List ℕ)) (own text : List ℕ) (m : ℕ) → number_in names own ≡ Some m → number_in names text ≡ None → str_eq_ignore_ascii_case own text ≡ false
no_test names own text m e f = falsely _ (λ h. none-some m (sym f ∙ (alike-number names own text m e).1 h))

-- ---- the first that passes a test, in two lists side by side
abbrev pub AreFound : {X Y : Type 0} → (X → Y → Type 0) → Option (ℕ × X) → Option (ℕ × Y) → Type 0
AreFound R None None = Unit {0}
AreFound R None (Some y) = ⊥
AreFound R (Some x) None = ⊥
AreFound R (Some (m, x)) (Some (n, y)) = (m ≡ n) × R x y

AreFound-one_on : {X Y : Type 0} (R : X → Y → Type 0) (a : Option (ℕ × X)) (b : Option (ℕ × Y)) → AreFound R a b → AreFound R (one_on a) (one_on b)
AreFound-one_on R None None h = tt
AreFound-one_on R None (Some y) h = h
AreFound-one_on R (Some x) None h = h
AreFound-one_on R (Some (m, x)) (Some (n, y)) h = (ap suc h.0, h.1)

zip_by : {X Y : Type 0} (R : X → Y → Type 0) (p : X → Bool) (q : Y → Bool) (x : X) (xs : List X) (y : Y) (ys : List Y) (b : Bool) → R x y → AreFound R (numbered p xs) (numbered q ys) → AreFound R (if b then Some (0, x) else one_on (numbered p xs)) (if b then Some (0, y) else one_on (numbered q ys))
zip_by R p q x xs y ys true r h = (refl, r)
zip_by R p q x xs y ys false r h = AreFound-one_on R (numbered p xs) (numbered q ys) h

pub numbered-zip : {X Y : Type 0} (R : X → Y → Type 0) (p : X → Bool) (q : Y → Bool) → ((x : X) (y : Y) → R x y → q y ≡ p x) → (xs : List X) (ys : List Y) → AllZip R xs ys → AreFound R (numbered p xs) (numbered q ys)
numbered-zip R p q same [] [] h = tt
numbered-zip R p q same [] (y ∷ ys) h = absurd h
numbered-zip R p q same (x ∷ xs) [] h = absurd h
numbered-zip R p q same (x ∷ xs) (y ∷ ys) h = rw (same x y h.0) (zip_by R p q x xs y ys (p x) h.0 (numbered-zip R p q same xs ys h.1))

pub numbered-none : {X Y : Type 0} (R : X → Y → Type 0) (q : Y → Bool) → ((x : X) (y : Y) → R x y → q y ≡ false) → (xs : List X) (ys : List Y) → AllZip R xs ys → numbered q ys ≡ None
numbered-none R q fails [] [] h = refl
numbered-none R q fails [] (y ∷ ys) h = absurd h
numbered-none R q fails (x ∷ xs) [] h = absurd h
numbered-none R q fails (x ∷ xs) (y ∷ ys) h = rw (fails x y h.0, numbered-none R q fails xs ys h.1) refl

-- ---- methods
module _ (types : Meanings) (names : List (List ℕ)) where
  -- a method that is found, and what is found by numbers
  pub record IsMethodOf (found : ViewFound) (method : FoundMethod) : Type 0 where
    pub script : method.script ≡ found.script
    pub state : method.state ≡ found.own.state
    pub number : method.number ≡ found.own.number
    pub declares : Declares types names found.own.declared method.function

  abbrev pub AreMethods : Option ViewFound → Option FoundMethod → Type 0
  AreMethods None None = Unit {0}
  AreMethods None (Some method) = ⊥
  AreMethods (Some found) None = ⊥
  AreMethods (Some found) (Some method) = IsMethodOf found method

  of_state : (script number : ℕ) (a : Option (ℕ × Declared)) (b : Option (ℕ × Function)) → AreFound (Declares types names) a b → AreMethods (found_of_script script (own_at number a)) (method_at script number b)
  of_state script number None None h = tt
  of_state script number None (Some y) h = h
  of_state script number (Some x) None h = h
  of_state script number (Some (m, x)) (Some (n, y)) h = record { script = refl; state = refl; number = sym h.0; declares = h.1 }

  of_states : (script n : ℕ) (text : List ℕ) → number_in names text ≡ Some n → (a : Option (ℕ × StateView)) (b : Option (ℕ × State)) → AreFound (IsViewed types names) a b → AreMethods (found_of_script script (own_of_state n a)) (method_of_state script text b)
  of_states script n text f None None h = tt
  of_states script n text f None (Some y) h = absurd h
  of_states script n text f (Some x) None h = absurd h
  of_states script n text f (Some (i, view)) (Some (j, state)) h =
      let found = numbered-zip (Declares types names) (λ d. d.name == n) (λ (g : Function). str_eq_ignore_ascii_case g.name text) (λ d g r. same_test names g.name text d.name n r.name f) view.functions state.functions h.1.functions in
      subst (λ k. AreMethods (found_of_script script (own_of_state n (Some (i, view)))) (method_at script k (numbered (λ (g : Function). str_eq_ignore_ascii_case g.name text) state.functions))) h.0 (of_state script i _ _ found)

  AreMethods-or : (a c : Option ViewFound) (b d : Option FoundMethod) → AreMethods a b → AreMethods c d → AreMethods (option_or a c) (option_or b d)
  AreMethods-or None c None d h k = k
  AreMethods-or None c (Some b) d h k = absurd h
  AreMethods-or (Some a) c None d h k = absurd h
  AreMethods-or (Some a) c (Some b) d h k = h

  module _ (scripts : List Script) (views : List (List StateView)) (states : (script : ℕ) → AllZip (IsViewed types names) (view_of views script) (states_in (slice_get scripts script))) where
    of_script : (script s n : ℕ) (state text : List ℕ) → number_in names state ≡ Some s → number_in names text ≡ Some n → AreMethods (found_of_script script (own_found (view_of views script) s n)) (method_of_script scripts state text script)
    of_script script s n state text e f =
        of_states script n text f _ _ (numbered-zip (IsViewed types names) (λ v. v.name == s) (λ (g : State). str_eq_ignore_ascii_case g.name state) (λ v g r. same_test names g.name state v.name s r.name e) (view_of views script) (states_in (slice_get scripts script)) (states script))

    -- what is found by texts is what is found by their numbers
    pub first_by_numbers : (upward : List ℕ) (s n : ℕ) (state text : List ℕ) → number_in names state ≡ Some s → number_in names text ≡ Some n → AreMethods (first_found views upward s n) (first_method scripts upward state text)
    first_by_numbers [] s n state text e f = tt
    first_by_numbers (script ∷ above) s n state text e f =
        AreMethods-or _ _ _ _ (of_script script s n state text e f) (first_by_numbers above s n state text e f)

    -- a state without a number has nothing
    pub first_of_no_state : (upward : List ℕ) (state text : List ℕ) → number_in names state ≡ None → first_method scripts upward state text ≡ None
    first_of_no_state [] state text e = refl
    first_of_no_state (script ∷ above) state text e =
        let none = numbered-none (IsViewed types names) (λ (g : State). str_eq_ignore_ascii_case g.name state) (λ v g r. no_test names g.name state v.name r.name e) (view_of views script) (states_in (slice_get scripts script)) (states script) in
        ap (λ o. option_or (method_of_state script text o) (first_method scripts above state text)) none ∙ first_of_no_state above state text e

    -- no state has a function of a text without a number
    none_of_state : (script : ℕ) (text : List ℕ) → number_in names text ≡ None → (a : Option (ℕ × StateView)) (b : Option (ℕ × State)) → AreFound (IsViewed types names) a b → method_of_state script text b ≡ None
    none_of_state script text e None None h = refl
    none_of_state script text e None (Some y) h = absurd h
    none_of_state script text e (Some x) None h = absurd h
    none_of_state script text e (Some (i, view)) (Some (j, state)) h =
        ap (method_at script j) (numbered-none (Declares types names) (λ (g : Function). str_eq_ignore_ascii_case g.name text) (λ d g r. no_test names g.name text d.name r.name e) view.functions state.functions h.1.functions)

    pub first_of_no_name : (upward : List ℕ) (s : ℕ) (state text : List ℕ) → number_in names state ≡ Some s → number_in names text ≡ None → first_method scripts upward state text ≡ None
    first_of_no_name [] s state text f e = refl
    first_of_no_name (script ∷ above) s state text f e =
        let found = numbered-zip (IsViewed types names) (λ v. v.name == s) (λ (g : State). str_eq_ignore_ascii_case g.name state) (λ v g r. same_test names g.name state v.name s r.name f) (view_of views script) (states_in (slice_get scripts script)) (states script) in
        ap (λ o. option_or o (first_method scripts above state text)) (none_of_state script text e _ _ found) ∙ first_of_no_name above s state text f e
