-- The front of a list whose elements pass a test.
use Rattle.std.proofs.Common.{◌≡◌, ℕ, ◌+◌, ◌<◌, ◌≤◌, Bool, true, false, eqb, List, [], ◌∷◌, ◌++◌, length, get_or, take, drop, refl, sym, ap, ◌∙◌, ⊎_elim, arith}
use Rattle.std.specs.List.{prefix_len}
use Rattle.std.proofs.lemmas.Bool.{cases_eq, eq-eqb, ne_eqb}
use Rattle.std.proofs.lemmas.List.{length-drop, length-take, take-append-drop, take_all, drop_all, drop-take, drop_more}
use Rattle.std.proofs.lemmas.List.Sums.{prefix_len-le-length}
use Rattle.std.proofs.lemmas.List.Folds.{prefix_len-append}

module _ (p : ℕ → Bool) where
  -- a list that passes whole is no longer than the front that passes of any list that it begins
  pub whole_run : (os back : List ℕ) → drop (prefix_len p os) os ≡ [] → length os ≤ prefix_len p (os ++ back)
  whole_run os back h =
      let none : length (drop (prefix_len p os) os) ≡ 0 = ap length h in
      let same : prefix_len p os ≡ length os = omega (arith, length-drop (prefix_len p os) os, prefix_len-le-length p os) in
      let test : eqb (prefix_len p os) (length os) ≡ true = eq-eqb _ _ same in
      rw (prefix_len-append p os back, test) (omega arith)

  -- a front that stops within a list stops there, whatever follows
  pub stopped_run : (os back : List ℕ) → prefix_len p os < length os → prefix_len p (os ++ back) ≡ prefix_len p os
  stopped_run os back lt =
      let test : eqb (prefix_len p os) (length os) ≡ false = ne_eqb _ _ (λ e. absurd (omega arith)) in
      rw (prefix_len-append p os back, test) refl

  pub run_of_take : (bs : List ℕ) (m : ℕ) → m ≤ prefix_len p bs → prefix_len p (take m bs) ≡ m
  run_of_take bs m le =
      let len : length (take m bs) ≡ m = omega (arith, length-take m bs, prefix_len-le-length p bs) in
      ⊎_elim
      (λ same. same ∙ len)
      (λ differs.
      let stop : prefix_len p (take m bs) < length (take m bs) = omega (arith, prefix_len-le-length p (take m bs)) in
      let e : prefix_len p (take m bs ++ drop m bs) ≡ prefix_len p (take m bs) = stopped_run (take m bs) (drop m bs) stop in
      let f : prefix_len p bs ≡ prefix_len p (take m bs) = rw take-append-drop at e in
      absurd (omega arith))
      (cases_eq (prefix_len p (take m bs)) (length (take m bs)))

  pub run_past : (bs : List ℕ) (m : ℕ) → prefix_len p bs < m → prefix_len p (take m bs) ≡ prefix_len p bs
  run_past bs m lt =
      ⊎_elim
      (λ same.
      let short : length bs ≤ m = ⊎_elim (λ (e : length (take m bs) ≡ length bs). omega (arith, length-take m bs)) (λ (ne : length (take m bs) ≡ length bs → ⊥).
      let whole = whole_run (take m bs) (drop m bs) (drop_all (prefix_len p (take m bs)) (take m bs) (omega arith)) in
      let w : length (take m bs) ≤ prefix_len p bs = rw take-append-drop at whole in
      omega (arith, length-take m bs)) (cases_eq (length (take m bs)) (length bs)) in
      rw (take_all m bs short) refl)
      (λ differs.
      let stop : prefix_len p (take m bs) < length (take m bs) = omega (arith, prefix_len-le-length p (take m bs)) in
      let e : prefix_len p (take m bs ++ drop m bs) ≡ prefix_len p (take m bs) = stopped_run (take m bs) (drop m bs) stop in
      sym (rw take-append-drop at e))
      (cases_eq (prefix_len p (take m bs)) (length (take m bs)))

  -- the front alone passes whole
  pub behind_front : (bs : List ℕ) → drop (prefix_len p (take (prefix_len p bs) bs)) (take (prefix_len p bs) bs) ≡ []
  behind_front bs = rw (run_of_take bs (prefix_len p bs) (omega arith)) (drop_all (prefix_len p bs) (take (prefix_len p bs) bs) (omega (arith, length-take (prefix_len p bs) bs)))

  -- the front with one element more
  pub behind_front_more : (bs : List ℕ) → prefix_len p bs < length bs
      → drop (prefix_len p (take (prefix_len p bs + 1) bs)) (take (prefix_len p bs + 1) bs) ≡ get_or bs (prefix_len p bs) 0 ∷ []
  behind_front_more bs lt =
      rw (run_past bs (prefix_len p bs + 1) (omega arith), drop-take (prefix_len p bs) 1 bs, drop_more bs (prefix_len p bs) 0 lt) refl

  -- a list that stops with its last element
  pub stopped_length : (os : List ℕ) (x : ℕ) → drop (prefix_len p os) os ≡ x ∷ [] → length os ≡ prefix_len p os + 1
  stopped_length os x h =
      let one : length (drop (prefix_len p os) os) ≡ 1 = ap length h in
      omega (arith, length-drop (prefix_len p os) os)
