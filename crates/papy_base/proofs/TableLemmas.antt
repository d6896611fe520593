-- What a change of a table at one name leaves at other names, and the place of a name in a list that grows.
use Rattle.std.proofs.Common.{ℕ, ◌≡◌, ◌<◌, ◌≤◌, Bool, true, false, cond, List, [], ◌∷◌, ◌++◌, length, Option, Some, None, refl, sym, ap, subst, ◌∙◌, ⊎_elim, is_some, not, IfSome, nat_lt, length-append, arith}
use Rattle.std.specs.HashMap as hash
use Rattle.std.specs.HashMap.{HashMap}
use Rattle.std.specs.List.{position, position_or_len}
use Rattle.std.specs.Map.{lookup, IsKeyTest, AreApart, KeepsOthers}
use Rattle.std.specs.Str.{bytes_eq}
use Rattle.std.specs.Cmp.Lexicographic.{bytes_decides, nat_list_eq_equiv}
use Rattle.std.proofs.lemmas.Bool.{cases_Bool, cond-true, cond-false}
use Rattle.std.proofs.lemmas.List.Folds.{position_or_len_push}
use Rattle.std.proofs.lemmas.Bool.Decides.{nat_tests}
use borrow.Author.Tests.{ltb-true}
use Rattle.std.proofs.lemmas.List.Sums.{prefix_len-le-length}
use Rattle.papy_base.specs.Case.{folded}
use Rattle.papy_base.specs.declared.name_table.NameTable.{NameTable}
use Rattle.papy_base.specs.Table.{IsPlaceTable, Notes, least_of, number_in, place_of}

apart : (bs cs ks : List ℕ) → bytes_eq bs cs ≡ false → bytes_eq bs ks ≡ true → bytes_eq cs ks ≡ false
apart bs cs ks n y = nat_list_eq_equiv.symm cs ks ∙ sym (nat_list_eq_equiv.congr bs ks cs y) ∙ n

other_entries : {K X : Type 0} (eq : K → K → Bool) (test : K → Bool) (old new : List (K × X)) → KeepsOthers eq test old new → (other : K → Bool) → IsKeyTest eq other → AreApart test other → lookup other new ≡ lookup other old
unfolding KeepsOthers
other_entries eq test old new h = h

-- g is w at the bytes bs, and f at other bytes
by_bytes : {W : Type 0} (f g : List ℕ → W) (bs : List ℕ) (w : W) → g bs ≡ w → ((cs : List ℕ) → bytes_eq bs cs ≡ false → g cs ≡ f cs) → (cs : List ℕ) → g cs ≡ cond (bytes_eq bs cs) w (f cs)
by_bytes f g bs w here other cs =
    ⊎_elim
    (λ y. subst (λ l. g l ≡ w) ((bytes_decides bs cs).0 y) here ∙ sym (cond-true (bytes_eq bs cs) w (f cs) y))
    (λ n. other cs n ∙ sym (cond-false (bytes_eq bs cs) w (f cs) n))
    (cases_Bool (bytes_eq bs cs))

-- after a change at a key with the bytes bs, a table has w there, and at other bytes what it had
module _ {K X S : Type 0} (items : K → List ℕ) where
  pub get_by-updates : (bs : List ℕ) (m n : HashMap K X S) (w : Option X) → hash.UpdatesBy (λ x y. bytes_eq (items x) (items y)) (λ k. bytes_eq bs (items k)) m n w
      → (cs : List ℕ) → hash.get_by (λ k. bytes_eq cs (items k)) n ≡ cond (bytes_eq bs cs) w (hash.get_by (λ k. bytes_eq cs (items k)) m)
  get_by-updates bs m n w h =
      by_bytes (λ ds. hash.get_by (λ k. bytes_eq ds (items k)) m) (λ ds. hash.get_by (λ k. bytes_eq ds (items k)) n) bs w h.1
      (λ cs e. other_entries _ _ _ _ h.3 _ (λ x y. nat_list_eq_equiv.congr cs (items x) (items y)) (λ k. apart bs cs (items k) e))

position_or_len-le : {X : Type 0} (p : X → Bool) (xs : List X) → position_or_len p xs ≤ length xs
position_or_len-le p xs = prefix_len-le-length (λ x. not (p x)) xs

-- the first place in a list that one more thing was put behind
pub position-push : {X : Type 0} (p : X → Bool) (xs : List X) (y : X) → position p (xs ++ y ∷ []) ≡ cond (is_some (position p xs)) (position p xs) (cond (p y) (Some (length xs)) None)
position-push p xs y =
    let k = position_or_len_push p xs y in
    let n = length-append xs (y ∷ []) in
    let b = position_or_len-le p xs in
    grind (arith, nat_tests)

-- a place that is found is one of the list
pub position-below : {X : Type 0} (p : X → Bool) (xs : List X) → IfSome (position p xs) (λ k. k < length xs)
position-below p xs =
    ⊎_elim
    (λ e. rw (cond-true _ (Some (position_or_len p xs)) None e) (ltb-true _ _ e))
    (λ e. rw (cond-false _ (Some (position_or_len p xs)) None e) tt)
    (cases_Bool (nat_lt (position_or_len p xs) (length xs)))

least_of-below : (n : ℕ) (found : Option ℕ) → IfSome found (λ k. k < n) → Some (least_of n found) ≡ cond (is_some found) found (Some n)
least_of-below n None h = refl
least_of-below n (Some k) h = ap Some (omega arith)

cond_some : (found : Option ℕ) → found ≡ cond (is_some found) found None
cond_some None = refl
cond_some (Some k) = refl

module _ {X : Type 0} (name_of : X → List ℕ) (xs : List X) (y : X) (old new : NameTable) where
  pub IsPlaceTable-push : IsPlaceTable name_of xs old → Notes old new (name_of y) (length xs) → IsPlaceTable name_of (xs ++ y ∷ []) new
  IsPlaceTable-push h s = λ bytes.
      let pushed = position-push (λ x. bytes_eq bytes (folded (name_of x))) xs y in
      ⊎_elim
      (λ e.
      let same : folded (name_of y) ≡ bytes = (bytes_decides (folded (name_of y)) bytes).0 e in
      let turned : bytes_eq bytes (folded (name_of y)) ≡ true = (bytes_decides bytes (folded (name_of y))).1 (sym same) in
      let known : number_in old (folded (name_of y)) ≡ place_of name_of xs bytes = ap (number_in old) same ∙ h bytes in
      s bytes ∙ cond-true _ _ _ e ∙ ap (λ o. Some (least_of (length xs) o)) known ∙ least_of-below (length xs) (place_of name_of xs bytes) (position-below _ xs) ∙ sym (pushed ∙ ap (λ o. cond (is_some (place_of name_of xs bytes)) (place_of name_of xs bytes) o) (cond-true _ _ _ turned)))
      (λ e.
      let turned : bytes_eq bytes (folded (name_of y)) ≡ false = nat_list_eq_equiv.symm bytes (folded (name_of y)) ∙ e in
      s bytes ∙ cond-false _ _ _ e ∙ h bytes ∙ cond_some (place_of name_of xs bytes) ∙ sym (pushed ∙ ap (λ o. cond (is_some (place_of name_of xs bytes)) (place_of name_of xs bytes) o) (cond-false _ _ _ turned)))
      (cases_Bool (bytes_eq (folded (name_of y)) bytes))
