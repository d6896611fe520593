-- The first object of a name, as objects are added, and the parents of objects.
use Rattle.std.proofs.Common.{◌≡◌, ℕ, ◌+◌, ◌<◌, Bool, true, false, cond, eqb, List, [], ◌∷◌, ◌++◌, length, get_or, position, suc, Option, None, Some, IfSome, refl, sym, ap, subst, ◌∙◌, arith}
use Rattle.std.specs.List.{All}
use Rattle.std.specs.Option.{option_map, option_or}
use Rattle.std.proofs.lemmas.List.{length-map}
use Rattle.std.proofs.lemmas.List.Elements.{All-map}
use Rattle.std.proofs.lemmas.List.Quantifiers.{position-Some}
use Rattle.pex_set.specs.declared.objects.Head.{Head}
use Rattle.papy_base.specs.Lineage.{AreAmong}
use Rattle.pex_set.specs.Names.{empty_name}
use Rattle.pex_set.specs.Objects.{first_named, parent_in, parents_in}
use Rattle.pex_set.proofs.NameLemmas.{position-head, position-tail}

shift_or : (o : Option ℕ) (b : Bool) (n : ℕ) → option_map (λ k. 1 + k) (option_or o (cond b (Some n) None)) ≡ option_or (option_map (λ k. 1 + k) o) (cond b (Some (suc n)) None)
shift_or None true n = ap Some (omega arith)
shift_or None false n = refl
shift_or (Some k) b n = refl

pub position-push : {X : Type 0} (p : X → Bool) (xs : List X) (y : X) → position p (xs ++ y ∷ []) ≡ option_or (position p xs) (cond (p y) (Some (length xs)) None)
position-push p [] y = by (p y) refl
  where
    by : (b : Bool) → p y ≡ b → position p (y ∷ []) ≡ cond (p y) (Some 0) None
    by true e = position-head p y [] e ∙ ap (λ (b : Bool). cond b (Some 0) None) (sym e)
    by false e = position-tail p y [] e ∙ ap (λ (b : Bool). cond b (Some 0) None) (sym e)
position-push p (x ∷ xs) y = by (p x) refl (position-push p xs y)
  where
    last : ℕ → Option ℕ
    last n = cond (p y) (Some n) None

    by : (b : Bool) → p x ≡ b → position p (xs ++ y ∷ []) ≡ option_or (position p xs) (last (length xs)) → position p (x ∷ (xs ++ y ∷ [])) ≡ option_or (position p (x ∷ xs)) (last (suc (length xs)))
    by true e rest =
        position-head p x (xs ++ y ∷ []) e
        ∙ ap (λ (o : Option ℕ). option_or o (last (suc (length xs)))) (sym (position-head p x xs e))
    by false e rest =
        position-tail p x (xs ++ y ∷ []) e
        ∙ ap (option_map (λ k. 1 + k)) rest
        ∙ shift_or (position p xs) (p y) (length xs)
        ∙ ap (λ (o : Option ℕ). option_or o (last (suc (length xs)))) (sym (position-tail p x xs e))

pub first_named-push : (heads : List Head) (head : Head) (name : ℕ) → first_named (heads ++ head ∷ []) name ≡ option_or (first_named heads name) (cond (eqb head.name name) (Some (length heads)) None)
first_named-push heads head name = position-push (λ h. eqb h.name name) heads head

-- ---- each parent is one of the objects
within : {X : Type 0} (p : X → Bool) (xs : List X) (o : Option ℕ) → position p xs ≡ o → IfSome o (λ n. n < length xs)
within p [] None e = tt
within p [] (Some n) e = absurd (cc)
within p (x ∷ xs) None e = tt
within p (x ∷ xs) (Some n) e = (position-Some p (x ∷ xs) n x e).0

below : (heads : List Head) (head : Head) → IfSome (parent_in heads head) (λ n. n < length heads)
below heads head = by (eqb head.parent empty_name)
  where
    by : (b : Bool) → IfSome (cond b None (first_named heads head.parent)) (λ n. n < length heads)
    by true = tt
    by false = within (λ h. eqb h.name head.parent) heads (first_named heads head.parent) refl

pub AreAmong-parents_in : (heads : List Head) → AreAmong (parents_in heads)
AreAmong-parents_in heads =
    subst (λ (m : ℕ). All (λ parent. IfSome parent (λ n. n < m)) (parents_in heads))
    (sym (length-map heads (parent_in heads)))
    (All-map (λ parent. IfSome parent (λ n. n < length heads)) (parent_in heads) heads (λ k d _. below heads (get_or heads k d)))
