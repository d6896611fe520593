-- What follows of ranks by which all below an object follow it at once.
use Rattle.std.proofs.Common.{◌≡◌, ℕ, ◌<◌, ◌≤◌, ◌⊎◌, ◌==◌, true, nat_le, nat_lt, List, length, get_or, Option, sym, ap, subst, ◌∙◌, inl, inr, ⊎_elim, arith}
use Rattle.std.proofs.lemmas.Bool.{and_parts, and_from, leb-true, ltb-true, le-leb, lt-ltb, eqb-true, or_cases, or_right, cases_lt}
use Rattle.std.proofs.lemmas.Bool.Decides.{same_from_decides}
use Rattle.papy_base.specs.declared.descent.Span.{Span}
use Rattle.papy_base.specs.Lineage.{stands_below}
use Rattle.papy_base.specs.Orders.{parent_number, IsForest, IsBelow, itself, below_parent, IsOrder, AreReached}
use Rattle.papy_base.specs.Ranks.{has, span_at, is_below, IsDescentOf, AreApart, IsWithin}
use Rattle.papy_base.proofs.LineageLemmas.{below_both, stands_from_below, below_from_stands}
use Rattle.papy_base.proofs.ReachLemmas.{rank_of, parent_before}

-- ---- from the spans in order
module _ (parents : List (Option ℕ)) (order : List ℕ) (spans : List Span) (forest : IsForest parents) (is : IsOrder parents order) (reached : AreReached parents order spans 0) where
  start_is : (rank object : ℕ) → rank < length order → get_or order rank 0 ≡ object → (span_at spans object).start ≡ rank
  start_is rank object h e = ap (λ n. (span_at spans n).start) (sym e) ∙ reached.start rank h

  end_is : (rank object : ℕ) → rank < length order → get_or order rank 0 ≡ object → (rank < (span_at spans object).end) × ((span_at spans object).end ≤ length order)
  end_is rank object h e = subst (λ n. (rank < (span_at spans n).end) × ((span_at spans n).end ≤ length order)) e (reached.end rank h)

  nests_parent : (object : ℕ) → object < length parents → parent_number parents object < length parents → ((span_at spans (parent_number parents object)).start ≤ (span_at spans object).start) × ((span_at spans object).end ≤ (span_at spans (parent_number parents object)).end)
  nests_parent object h some =
      let own = rank_of parents order is object h in
      let above = rank_of parents order is (parent_number parents object) some in
      let earlier : above.0 < own.0 = parent_before parents order is forest own.0 above.0 own.1 above.1 (ap (parent_number parents) own.2 ∙ sym above.2) in
      let own_start = start_is own.0 object own.1 own.2 in
      let above_start = start_is above.0 (parent_number parents object) above.1 above.2 in
      let ends : (span_at spans object).end ≤ (span_at spans (parent_number parents object)).end =
      subst (λ n. (span_at spans n).end ≤ (span_at spans (parent_number parents n)).end) own.2 (reached.reached own.0 own.1 (omega arith) (subst (λ n. parent_number parents n < length parents) (sym own.2) some)) in
      (omega arith, ends)

  nests : {object above : ℕ} → IsBelow parents object above → object < length parents → ((span_at spans above).start ≤ (span_at spans object).start) × ((span_at spans object).end ≤ (span_at spans above).end)
  nests itself h = (omega arith, omega arith)
  nests (below_parent {object} {above} some below) h =
      let one = nests_parent object h some in
      let further = nests below some in
      (omega arith, omega arith)

  pub IsDescentOf-reached : IsDescentOf parents spans
  IsDescentOf-reached = record {
    within = λ object h.
        let w = rank_of parents order is object h in
        let start = start_is w.0 object w.1 w.2 in
        let end = end_is w.0 object w.1 w.2 in
        let few = is.few in
        (omega arith, omega arith);
    nested = λ child above h stands. nests (below_from_stands parents forest child above stands) h;
    only = λ child above h g between.
        let own = rank_of parents order is child h in
        let over = rank_of parents order is above g in
        let own_start = start_is own.0 child own.1 own.2 in
        let over_start = start_is over.0 above over.1 over.2 in
        let parts = and_parts (nat_le (span_at spans above).start (span_at spans child).start) (nat_lt (span_at spans child).start (span_at spans above).end) between in
        let low = leb-true (span_at spans above).start (span_at spans child).start parts.0 in
        let high = ltb-true (span_at spans child).start (span_at spans above).end parts.1 in
        let inside : own.0 < (span_at spans (get_or order over.0 0)).end = subst (λ n. own.0 < (span_at spans n).end) (sym over.2) (omega arith) in
        stands_from_below parents forest (subst (λ n. IsBelow parents n above) own.2 (subst (IsBelow parents (get_or order own.0 0)) over.2 (reached.below over.0 own.0 over.1 (omega arith) inside))) h;
  }

-- ---- laws
has_rank : (span : Span) (rank : ℕ) → span.start ≤ rank → rank < span.end → has span rank ≡ true
has_rank span rank low high = and_from (nat_le span.start rank) (nat_lt rank span.end) (le-leb span.start rank low) (lt-ltb rank span.end high)

apart_too : (one other : Span) → AreApart one other → AreApart other one
apart_too one other apart = ⊎_elim (λ (e : one.end ≤ other.start). inr e) (λ (e : other.end ≤ one.start). inl e) apart

module _ (parents : List (Option ℕ)) (spans : List Span) (descent : IsDescentOf parents spans) where
  inside : (outer inner : ℕ) → outer < length parents → inner < length parents → (span_at spans outer).start ≤ (span_at spans inner).start → (span_at spans inner).start < (span_at spans outer).end → stands_below parents inner outer ≡ true
  inside outer inner h g low high = descent.only inner outer g h (has_rank (span_at spans outer) (span_at spans inner).start low high)

  pub has_start : (child above : ℕ) → child < length parents → stands_below parents child above ≡ true → has (span_at spans above) (span_at spans child).start ≡ true
  has_start child above h stands =
      let own = descent.within child h in
      let nest = descent.nested child above h stands in
      has_rank (span_at spans above) (span_at spans child).start nest.0 (omega arith)

  -- the ranks tell which objects stand below which
  pub is_below-stands_below : (child above : ℕ) → child < length parents → above < length parents → is_below spans child above ≡ stands_below parents child above
  is_below-stands_below child above h g =
      let own = descent.within child h in
      let between = has (span_at spans above) (span_at spans child).start in
      same_from_decides {P = stands_below parents child above ≡ true} (is_below spans child above) (stands_below parents child above) (
        λ e. ⊎_elim
            (λ (same : (child == above) ≡ true). subst (λ n. stands_below parents child n ≡ true) (eqb-true child above same) (inside child child h h (omega arith) (omega arith)))
            (λ (inner : has (span_at spans above) (span_at spans child).start ≡ true). descent.only child above h g inner)
            (or_cases (child == above) between e),
        λ stands.
            let nest = descent.nested child above h stands in
            or_right (child == above) between (has_rank (span_at spans above) (span_at spans child).start nest.0 (omega arith)),
      )
      (λ e. e, λ e. e)

  later : (one other : ℕ) → one < length parents → other < length parents → (span_at spans one).start ≤ (span_at spans other).start → AreApart (span_at spans one) (span_at spans other) ⊎ ((stands_below parents other one ≡ true) × IsWithin (span_at spans other) (span_at spans one))
  later one other h g low =
      ⊎_elim
      (λ (inner : (span_at spans other).start < (span_at spans one).end).
      let stands = inside one other h g low inner in
      inr (stands, descent.nested other one g stands))
      (λ (behind : (span_at spans one).end ≤ (span_at spans other).start). inl (inl behind))
      (cases_lt (span_at spans other).start (span_at spans one).end)

  -- of two objects one stands below the other, with ranks among the other's, or they have no rank in common
  pub spans_nest : (one other : ℕ) → one < length parents → other < length parents → AreApart (span_at spans one) (span_at spans other) ⊎ (((stands_below parents one other ≡ true) × IsWithin (span_at spans one) (span_at spans other)) ⊎ ((stands_below parents other one ≡ true) × IsWithin (span_at spans other) (span_at spans one)))
  spans_nest one other h g =
      ⊎_elim
      (λ (first : (span_at spans one).start < (span_at spans other).start).
      ⊎_elim
      (λ (apart : AreApart (span_at spans one) (span_at spans other)). inl apart)
      (λ (below : (stands_below parents other one ≡ true) × IsWithin (span_at spans other) (span_at spans one)). inr (inr below))
      (later one other h g (omega arith)))
      (λ (second : (span_at spans other).start ≤ (span_at spans one).start).
      ⊎_elim
      (λ (apart : AreApart (span_at spans other) (span_at spans one)). inl (apart_too (span_at spans other) (span_at spans one) apart))
      (λ (below : (stands_below parents one other ≡ true) × IsWithin (span_at spans one) (span_at spans other)). inr (inl below))
      (later other one g h second))
      (cases_lt (span_at spans one).start (span_at spans other).start)

  -- each object has a rank of its own
  pub ranks_differ : IsForest parents → (one other : ℕ) → one < length parents → other < length parents → (span_at spans one).start ≡ (span_at spans other).start → one ≡ other
  ranks_differ forest one other h g e =
      let own = descent.within one h in
      let of_other = descent.within other g in
      below_both parents forest one other h g (below_from_stands parents forest one other (inside other one g h (omega arith) (omega arith))) (below_from_stands parents forest other one (inside one other h g (omega arith) (omega arith)))
