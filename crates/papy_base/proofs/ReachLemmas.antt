-- Spans in an order of the objects, as they reach as far as those of the objects below.
use Rattle.std.proofs.Common.{◌≡◌, ℕ, zero, suc, ◌+◌, ◌-◌, ◌<◌, ◌≤◌, ◌⊎◌, max, set, List, length, get_or, slice_index_or, Option, refl, sym, ap, subst, ◌∙◌, inl, inr, ⊎_elim, add-one, arith}
use Rattle.std.proofs.lemmas.Bool.{cases_eq, cases_lt, cases_order}
use Rattle.std.proofs.lemmas.List.{length-set, get_or-set_same, get_or-set_other, get_or_default, set_past}
use Rattle.papy_base.specs.declared.descent.Span.{Span}
use Rattle.papy_base.specs.Orders.{parent_number, IsForest, IsBelow, itself, below_parent, IsOrder, AreReached, reaching}
use Rattle.papy_base.specs.Ranks.{no_ranks, span_at}
use Rattle.papy_base.proofs.LineageLemmas.{below_below, depth, depth_above}

below_cases : (parents : List (Option ℕ)) (object above : ℕ) → IsBelow parents object above → (above ≡ object) ⊎ ((parent_number parents object < length parents) × IsBelow parents (parent_number parents object) above)
below_cases parents object above itself = inl refl
below_cases parents object above (below_parent some h) = inr (some, h)

-- ---- places in an order
module _ (parents : List (Option ℕ)) (order : List ℕ) (is : IsOrder parents order) where
  abbrev at : ℕ → ℕ
  at rank = get_or order rank 0

  pub within : (rank : ℕ) → rank < length order → get_or order rank 0 < length parents
  within rank h = is.objects rank 0 h

  pub rank_of : (object : ℕ) → object < length parents → (rank : ℕ) × (rank < length order) × (get_or order rank 0 ≡ object)
  rank_of object h =
      let w = is.all object h in
      (w.0, w.1, get_or_default order w.0 0 object w.1 ∙ w.2)

  pub same_rank : (one other : ℕ) → one < length order → other < length order → get_or order one 0 ≡ get_or order other 0 → one ≡ other
  same_rank one other h g e =
      ⊎_elim
      (λ (same : one ≡ other). same)
      (λ (differ : (one < other) ⊎ (other < one)).
      ⊎_elim
      (λ (less : one < other). absurd (is.distinct one other 0 less g e))
      (λ (less : other < one). absurd (is.distinct other one 0 less h (sym e)))
      differ)
      (cases_order one other)

  followed : (rank : ℕ) → suc rank < length order → parent_number parents (get_or order (suc rank) 0) < length parents → IsBelow parents (get_or order rank 0) (parent_number parents (get_or order (suc rank) 0))
  followed rank h some =
      ⊎_elim
      (λ (none : parent_number parents (get_or order (suc rank) 0) ≡ length parents). absurd (omega arith))
      (λ (below : IsBelow parents (get_or order rank 0) (parent_number parents (get_or order (suc rank) 0))). below)
      (rw add-one at (is.follows rank (omega arith)))

  -- what stands above an object comes before it
  above_before : (rank above : ℕ) → rank < length order → IsBelow parents (get_or order rank 0) above → (other : ℕ) × (other ≤ rank) × (get_or order other 0 ≡ above)
  above_before zero above h below =
      ⊎_elim
      (λ (e : above ≡ get_or order 0 0). (0, omega arith, sym e))
      (λ (g : (parent_number parents (get_or order 0 0) < length parents) × IsBelow parents (parent_number parents (get_or order 0 0)) above). absurd (let root = is.begins h in omega arith))
      (below_cases parents (get_or order 0 0) above below)
  above_before (suc rank) above h below =
      ⊎_elim
      (λ (e : above ≡ get_or order (suc rank) 0). (suc rank, omega arith, sym e))
      (λ (g : (parent_number parents (get_or order (suc rank) 0) < length parents) × IsBelow parents (parent_number parents (get_or order (suc rank) 0)) above).
      let w = above_before rank above (omega arith) (below_below (followed rank h g.0) g.1) in
      (w.0, omega (arith, w.1), w.2))
      (below_cases parents (get_or order (suc rank) 0) above below)

  pub parent_before : IsForest parents → (rank other : ℕ) → rank < length order → other < length order → parent_number parents (get_or order rank 0) ≡ get_or order other 0 → other < rank
  parent_before forest rank other h g e =
      let some : parent_number parents (get_or order rank 0) < length parents = subst (λ n. n < length parents) (sym e) (within other g) in
      let less = depth_above parents forest (get_or order rank 0) (within rank h) some in
      let w = above_before rank (get_or order other 0) h (subst (IsBelow parents (get_or order rank 0)) e (below_parent some itself)) in
      let same : w.0 ≡ other = same_rank w.0 other (omega (arith, w.1)) g w.2 in
      let upto : other ≤ rank = omega (arith, w.1) in
      ⊎_elim
      (λ (equal : other ≡ rank). absurd (let loop : parent_number parents (get_or order rank 0) ≡ get_or order rank 0 = e ∙ ap at equal in let alike = ap (depth parents) loop in omega arith))
      (λ (differ : other ≡ rank → ⊥). omega (arith, differ))
      (cases_eq other rank)

  -- all between an object and one below it stand below it
  pub between : (rank first other : ℕ) → rank < length order → first ≤ other → other ≤ rank → IsBelow parents (get_or order rank 0) (get_or order first 0) → IsBelow parents (get_or order other 0) (get_or order first 0)
  between zero first other h low high below = let e : other ≡ 0 = omega arith in subst (λ n. IsBelow parents (get_or order n 0) (get_or order first 0)) (sym e) below
  between (suc rank) first other h low high below =
      ⊎_elim
      (λ (e : other ≡ suc rank). subst (λ n. IsBelow parents (get_or order n 0) (get_or order first 0)) (sym e) below)
      (λ (differ : other ≡ suc rank → ⊥).
      ⊎_elim
      (λ (e : get_or order first 0 ≡ get_or order (suc rank) 0). absurd (let same = same_rank first (suc rank) (omega arith) h e in omega (arith, differ)))
      (λ (g : (parent_number parents (get_or order (suc rank) 0) < length parents) × IsBelow parents (parent_number parents (get_or order (suc rank) 0)) (get_or order first 0)).
      between rank first other (omega arith) low (omega (arith, differ)) (below_below (followed rank h g.0) g.1))
      (below_cases parents (get_or order (suc rank) 0) (get_or order first 0) below))
      (cases_eq other (suc rank))

-- ---- each object has its place as its rank
abbrev pub AreNumbered : List ℕ → List Span → ℕ → Type 0
AreNumbered order spans count = (rank : ℕ) → rank < count → span_at spans (slice_index_or order rank 0) ≡ record { start = rank; end = rank + 1 }

pub AreNumbered-more : (parents : List (Option ℕ)) (order : List ℕ) (spans : List Span) (count : ℕ) (span : Span) → IsOrder parents order → length spans ≡ length parents → count < length order → AreNumbered order spans count → span ≡ record { start = count; end = count + 1 } → AreNumbered order (set spans (slice_index_or order count 0) span) (count + 1)
AreNumbered-more parents order spans count span is many below numbered e rank h =
    let object_within = within parents order is count below in
    ⊎_elim
    (λ (same : rank ≡ count).
    ap (λ n. span_at (set spans (slice_index_or order count 0) span) (slice_index_or order n 0)) same
    ∙ get_or-set_same spans (slice_index_or order count 0) span no_ranks (omega arith) ∙ e
    ∙ ap (λ (n : ℕ). let s : Span = record { start = n; end = n + 1 } in s) (sym same))
    (λ (differ : rank ≡ count → ⊥).
    get_or-set_other spans (slice_index_or order count 0) (slice_index_or order rank 0) span no_ranks (λ alike. differ (same_rank parents order is rank count (omega arith) below alike))
    ∙ numbered rank (omega (arith, differ)))
    (cases_eq rank count)

pub AreReached-numbered : (parents : List (Option ℕ)) (order : List ℕ) (spans : List Span) → length spans ≡ length parents → AreNumbered order spans (length order) → AreReached parents order spans (length order)
AreReached-numbered parents order spans many numbered = record {
  count = many;
  start = λ rank h. ap (λ (s : Span). s.start) (numbered rank h);
  end = λ rank h. let e = ap (λ (s : Span). s.end) (numbered rank h) in (omega arith, omega arith);
  below = λ rank other h low high.
      let e = ap (λ (s : Span). s.end) (numbered rank h) in
      let same : other ≡ rank = omega arith in
      subst (λ n. IsBelow parents (slice_index_or order n 0) (slice_index_or order rank 0)) (sym same) itself;
  reached = λ rank h from some. absurd (omega arith);
}

-- ---- the parent's span reaches as far as that of the object
module _ (parents : List (Option ℕ)) (order : List ℕ) (spans : List Span) (rank : ℕ) (forest : IsForest parents) (is : IsOrder parents order) (h : rank < length order) (reached : AreReached parents order spans (rank + 1)) where
  abbrev object : ℕ
  object = get_or order rank 0

  abbrev parent : ℕ
  parent = parent_number parents (get_or order rank 0)

  abbrev longer : Span
  longer = record { start = (span_at spans parent).start; end = max (span_at spans parent).end (span_at spans object).end }

  no_parent : length parents ≤ parent → AreReached parents order spans rank
  no_parent none = record {
    count = reached.count;
    start = reached.start;
    end = reached.end;
    below = reached.below;
    reached = λ other g from some.
        ⊎_elim
        (λ (same : other ≡ rank). absurd (let e = ap (λ n. parent_number parents (get_or order n 0)) same in omega arith))
        (λ (differ : other ≡ rank → ⊥). reached.reached other g (omega (arith, differ)) some)
        (cases_eq other rank);
  }

  module _ (some : parent < length parents) (place : ℕ) (place_within : place < length order) (is_parent : get_or order place 0 ≡ parent) where
    before : place < rank
    before = parent_before parents order is forest rank place h place_within (sym is_parent)

    at_parent : span_at (set spans parent longer) parent ≡ longer
    at_parent = let many = reached.count in get_or-set_same spans parent longer no_ranks (omega arith)

    elsewhere : (other : ℕ) → (other ≡ parent → ⊥) → span_at (set spans parent longer) other ≡ span_at spans other
    elsewhere other differ = get_or-set_other spans parent other longer no_ranks differ

    -- of the parent, or as it was
    span_cases : (other : ℕ) → other < length order → ((other ≡ place) × (span_at (set spans parent longer) (get_or order other 0) ≡ longer)) ⊎ ((other ≡ place → ⊥) × (span_at (set spans parent longer) (get_or order other 0) ≡ span_at spans (get_or order other 0)))
    span_cases other g =
        ⊎_elim
        (λ (same : other ≡ place). inl (same, ap (λ n. span_at (set spans parent longer) (get_or order n 0)) same ∙ ap (span_at (set spans parent longer)) is_parent ∙ at_parent))
        (λ (differ : other ≡ place → ⊥). inr (differ, elsewhere (get_or order other 0) (λ e. differ (same_rank parents order is other place g place_within (e ∙ sym is_parent)))))
        (cases_eq other place)

    parent_start : (span_at spans parent).start ≡ place
    parent_start = ap (λ n. (span_at spans n).start) (sym is_parent) ∙ reached.start place place_within

    parent_end : (place < (span_at spans parent).end) × ((span_at spans parent).end ≤ length order)
    parent_end = subst (λ n. (place < (span_at spans n).end) × ((span_at spans n).end ≤ length order)) is_parent (reached.end place place_within)

    below_longer : (other : ℕ) → place ≤ other → other < longer.end → IsBelow parents (get_or order other 0) parent
    below_longer other low high =
        ⊎_elim
        (λ (old : other < (span_at spans parent).end).
        subst (IsBelow parents (get_or order other 0)) is_parent (reached.below place other place_within low (subst (λ n. other < (span_at spans n).end) (sym is_parent) old)))
        (λ (past : (span_at spans parent).end ≤ other).
        let inside : other < (span_at spans object).end = omega arith in
        ⊎_elim
        (λ (earlier : other < rank).
        subst (IsBelow parents (get_or order other 0)) is_parent
        (between parents order is rank place other h low (omega arith) (subst (IsBelow parents object) (sym is_parent) (below_parent some itself))))
        (λ (later : rank ≤ other). below_below (reached.below rank other h later inside) (below_parent some itself))
        (cases_lt other rank))
        (cases_lt other (span_at spans parent).end)

    longer_end : (other : ℕ) → (span_at spans other).end ≤ (span_at (set spans parent longer) other).end
    longer_end other =
        ⊎_elim
        (λ (same : other ≡ parent). subst (λ n. (span_at spans n).end ≤ (span_at (set spans parent longer) n).end) (sym same) (let e = ap (λ (s : Span). s.end) at_parent in omega arith))
        (λ (differ : other ≡ parent → ⊥). let e = ap (λ (s : Span). s.end) (elsewhere other differ) in omega arith)
        (cases_eq other parent)

    with_parent : AreReached parents order (set spans parent longer) rank
    with_parent = record {
      count = length-set spans parent longer ∙ reached.count;
      start = λ other g.
          ⊎_elim
          (λ (c : (other ≡ place) × (span_at (set spans parent longer) (get_or order other 0) ≡ longer)).
          ap (λ (s : Span). s.start) c.1 ∙ parent_start ∙ sym c.0)
          (λ (c : (other ≡ place → ⊥) × (span_at (set spans parent longer) (get_or order other 0) ≡ span_at spans (get_or order other 0))).
          ap (λ (s : Span). s.start) c.1 ∙ reached.start other g)
          (span_cases other g);
      end = λ other g.
          ⊎_elim
          (λ (c : (other ≡ place) × (span_at (set spans parent longer) (get_or order other 0) ≡ longer)).
          let e = ap (λ (s : Span). s.end) c.1 in
          let own = reached.end rank h in
          let same = c.0 in
          let of_parent = parent_end in
          (omega arith, omega arith))
          (λ (c : (other ≡ place → ⊥) × (span_at (set spans parent longer) (get_or order other 0) ≡ span_at spans (get_or order other 0))).
          let e = ap (λ (s : Span). s.end) c.1 in
          let own = reached.end other g in
          (omega arith, omega arith))
          (span_cases other g);
      below = λ other inner g low high.
          ⊎_elim
          (λ (c : (other ≡ place) × (span_at (set spans parent longer) (get_or order other 0) ≡ longer)).
          let e = ap (λ (s : Span). s.end) c.1 in
          let same = c.0 in
          subst (IsBelow parents (get_or order inner 0)) (sym is_parent ∙ ap (λ n. get_or order n 0) (sym c.0)) (below_longer inner (omega arith) (omega arith)))
          (λ (c : (other ≡ place → ⊥) × (span_at (set spans parent longer) (get_or order other 0) ≡ span_at spans (get_or order other 0))).
          let e = ap (λ (s : Span). s.end) c.1 in
          reached.below other inner g low (omega arith))
          (span_cases other g);
      reached = λ other g from other_some.
          let kept : span_at (set spans parent longer) (get_or order other 0) ≡ span_at spans (get_or order other 0) =
          ⊎_elim
          (λ (c : (other ≡ place) × (span_at (set spans parent longer) (get_or order other 0) ≡ longer)). absurd (let same = c.0 in let earlier = before in omega arith))
          (λ (c : (other ≡ place → ⊥) × (span_at (set spans parent longer) (get_or order other 0) ≡ span_at spans (get_or order other 0))). c.1)
          (span_cases other g) in
          let e = ap (λ (s : Span). s.end) kept in
          let grown = longer_end (parent_number parents (get_or order other 0)) in
          ⊎_elim
          (λ (same : other ≡ rank).
          subst (λ n. (span_at (set spans parent longer) (get_or order n 0)).end ≤ (span_at (set spans parent longer) (parent_number parents (get_or order n 0))).end) (sym same)
          (let own : span_at (set spans parent longer) object ≡ span_at spans object = subst (λ n. span_at (set spans parent longer) (get_or order n 0) ≡ span_at spans (get_or order n 0)) same kept in
          let f = ap (λ (s : Span). s.end) own in
          let k = ap (λ (s : Span). s.end) at_parent in
          omega arith))
          (λ (differ : other ≡ rank → ⊥). let old = reached.reached other g (omega (arith, differ)) other_some in omega arith)
          (cases_eq other rank);
    }

  pub AreReached-more : AreReached parents order (reaching spans (get_or order rank 0) (parent_number parents (get_or order rank 0))) rank
  AreReached-more =
      ⊎_elim
      (λ (some : parent < length parents).
      let w = rank_of parents order is parent some in
      with_parent some w.0 w.1 w.2)
      (λ (none : length parents ≤ parent).
      subst (λ xs. AreReached parents order xs rank) (sym (set_past spans parent longer (let many = reached.count in omega arith))) (no_parent none))
      (cases_lt parent (length parents))

-- one more object from the end of the order
pub AreReached-turned : (parents : List (Option ℕ)) (order : List ℕ) (spans spans' : List Span) (count parent : ℕ) → IsForest parents → IsOrder parents order → count < length order → AreReached parents order spans (length order - count) → parent ≡ parent_number parents (get_or order (length order - 1 - count) 0) → spans' ≡ reaching spans (get_or order (length order - 1 - count) 0) parent → AreReached parents order spans' (length order - (count + 1))
AreReached-turned parents order spans spans' count parent forest is h reached of_parent changed =
    let rank = length order - 1 - count in
    let before : length order - count ≡ length order - 1 - count + 1 = omega arith in
    let after : length order - 1 - count ≡ length order - (count + 1) = omega arith in
    let within : length order - 1 - count < length order = omega arith in
    let more = AreReached-more parents order spans rank forest is within (subst (AreReached parents order spans) before reached) in
    subst (AreReached parents order spans') after
    (subst (λ xs. AreReached parents order xs rank) (ap (reaching spans (get_or order rank 0)) (sym of_parent) ∙ sym changed) more)
