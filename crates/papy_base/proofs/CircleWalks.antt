-- A walk up along parents, as it goes on and where it ends.
use Rattle.std.proofs.Common.{◌≡◌, ◌≢◌, ℕ, ◌+◌, ◌<◌, ◌≤◌, ◌⊎◌, inl, inr, Bool, cond, List, length, set, Option, None, Some, IsSome, is_some, refl, sym, ap, subst, ◌∙◌, ⊎_elim, arith}
use Rattle.std.proofs.lemmas.Bool.{cases_eq, cases_lt, false≢true}
use Rattle.std.proofs.lemmas.List.{get_or-set_same, get_or-set_other, length-set}
use Rattle.std.proofs.lemmas.List.Sums.{sum_by-set, count_by-le-length}
use Rattle.std.proofs.Math.ListN.{get_or-eq_default}
use Rattle.papy_base.specs.Lineage.{parent_of, AreAmong}
use Rattle.papy_base.specs.Circles.{walk_at, visits, CanStart, IsOnWay, HasWalked, Walked}
use Rattle.papy_base.proofs.ClimbLemmas.{climb-one, climb-next, parent_within}

-- ---- a walk notes itself at one more object
module _ (walks : List (Option ℕ)) (here start : ℕ) (within : here < length walks) where
  at_here : walk_at (set walks here (Some start)) here ≡ Some start
  at_here = get_or-set_same walks here (Some start) None within

  at_other : (object : ℕ) → object ≢ here → walk_at (set walks here (Some start)) object ≡ walk_at walks object
  at_other object ne = get_or-set_other walks here object (Some start) None ne

  one_more : walk_at walks here ≡ None → visits (set walks here (Some start)) ≡ visits walks + 1
  one_more none =
      let s = sum_by-set (λ (o : Option ℕ). cond (is_some o) 1 0) walks here (Some start) None within in
      let z : cond {A = ℕ} (is_some (walk_at walks here)) 1 0 ≡ 0 = ap (λ (o : Option ℕ). cond {A = ℕ} (is_some o) 1 0) none in
      omega arith

  some_stays : (object : ℕ) → IsSome (walk_at walks object) → IsSome (walk_at (set walks here (Some start)) object)
  some_stays object some =
      ⊎_elim
      (λ e. subst (λ (n : ℕ). IsSome (walk_at (set walks here (Some start)) n)) (sym e) (ap is_some at_here))
      (λ ne. ap is_some (at_other object ne) ∙ some)
      (cases_eq object here)

-- where something was visited there was a visit
some_visits : (walks : List (Option ℕ)) (object : ℕ) → IsSome (walk_at walks object) → 0 < visits walks
some_visits walks object some =
    ⊎_elim
    (λ within.
    let s = sum_by-set (λ (o : Option ℕ). cond (is_some o) 1 0) walks object None None within in
    let one : cond {A = ℕ} (is_some (walk_at walks object)) 1 0 ≡ 1 = ap (λ (b : Bool). cond {A = ℕ} b 1 0) some in
    omega arith)
    (λ past. absurd (false≢true (ap is_some (sym (get_or-eq_default walks None past)) ∙ some)))
    (cases_lt object (length walks))

-- where there were as many visits as objects, each was visited
all_visited : (walks : List (Option ℕ)) (object : ℕ) → length walks ≤ visits walks → object < length walks → IsSome (walk_at walks object)
all_visited walks object full within =
    by (walk_at walks object) refl
  where
    by : (o : Option ℕ) → walk_at walks object ≡ o → IsSome o
    by (Some walk) e = refl
    by None e =
        let more = one_more walks object 0 within e in
        let most = count_by-le-length {X = Option ℕ} is_some (set walks object (Some 0)) in
        let long = length-set walks object (Some 0) in
        absurd (omega arith)

-- ---- where a walk is
pub record OnWalk (parents before : List (Option ℕ)) (start : ℕ) (walks : List (Option ℕ)) (here turns : ℕ) : Type 0 where
  pub within : here < length parents
  pub count : visits walks ≡ visits before + turns
  pub first : (here ≡ start) ⊎ IsSome (walk_at walks start)
  pub each : (object : ℕ) → (walk_at walks object ≡ walk_at before object) ⊎ IsOnWay parents before walks start (Some here) object

pub begins : (parents walks : List (Option ℕ)) (start : ℕ) → CanStart parents walks start → OnWalk parents walks start walks start 0
begins parents walks start can = record {
  within = can.within;
  count = omega arith;
  first = inl refl;
  each = λ object. inl refl;
}

module _ (parents before : List (Option ℕ)) (start : ℕ) (walks : List (Option ℕ)) (here turns : ℕ) (walk : OnWalk parents before start walks here turns) where
  visited_here : IsSome (walk_at walks here) → IsSome (walk_at walks start)
  visited_here some = ⊎_elim (λ same. subst (λ (n : ℕ). IsSome (walk_at walks n)) same some) (λ visited. visited) walk.first

  -- what an earlier walk didn't visit is on the way
  on_way : CanStart parents before start → walk_at walks here ≡ Some start → IsOnWay parents before walks start (Some here) here
  on_way can e =
      ⊎_elim
      (λ same. absurd (omega (arith, can.earlier here start (sym same ∙ e))))
      (λ way. way)
      (walk.each here)

  has_walked : IsSome (walk_at walks here) → HasWalked parents before walks start (Some here)
  has_walked some = record {
    more = omega (arith, walk.count);
    visited = visited_here some;
    each = walk.each;
  }

  -- back at an object that this walk has visited
  pub circles : CanStart parents before start → walk_at walks here ≡ Some start → HasWalked parents before walks start (Some here) × IsOnWay parents before walks start (Some here) here
  circles can e = (has_walked (ap is_some e), on_way can e)

  -- at an object that an earlier walk visited
  pub meets : (other : ℕ) → walk_at walks here ≡ Some other → other ≢ start → Walked parents before start None walks
  meets other e ne = (Some here, has_walked (ap is_some e), was_visited)
    where
      same_walk : {a b : ℕ} → Some a ≡ Some b → a ≡ b
      same_walk h = cc

      was_visited : IsSome (walk_at before here)
      was_visited =
          ⊎_elim
          (λ old. ap is_some (sym old ∙ e))
          (λ way. absurd (ne (same_walk (sym e ∙ way.noted))))
          (walk.each here)

  -- it has been at each object
  pub fills : CanStart parents before start → length walks ≡ length parents → length parents ≤ turns → HasWalked parents before walks start (Some here) × IsOnWay parents before walks start (Some here) here
  fills can long full =
      let most = count_by-le-length {X = Option ℕ} is_some walks in
      let some = all_visited walks here (omega (arith, walk.count)) (omega (arith, walk.within)) in (
        has_walked some,
        ⊎_elim
            (λ old. absurd (omega (arith, walk.count, some_visits before here (ap is_some (sym old) ∙ some))))
            (λ way. way)
            (walk.each here),
      )

  module _ (within : here < length walks) (fresh : walk_at walks here ≡ None) where
    each_next : (next : Option ℕ) → parent_of parents here ≡ next → (object : ℕ) → (walk_at (set walks here (Some start)) object ≡ walk_at before object) ⊎ IsOnWay parents before (set walks here (Some start)) start next object
    each_next next e object =
        let count = one_more walks here start within fresh in
        ⊎_elim
        (λ same. inr (record {
          noted = subst (λ (n : ℕ). walk_at (set walks here (Some start)) n ≡ Some start) (sym same) (at_here walks here start within);
          steps = 1;
          some = omega arith;
          few = omega (arith, walk.count);
          leads = climb-one parents (Some object) ∙ ap (parent_of parents) same ∙ e;
        }))
        (λ ne. ⊎_elim
        (λ old. inl (at_other walks here start within object ne ∙ old))
        (λ way. inr (record {
          noted = at_other walks here start within object ne ∙ way.noted;
          steps = way.steps + 1;
          some = omega arith;
          few = omega (arith, way.few);
          leads = climb-next parents way.steps (Some object) here way.leads ∙ e;
        }))
        (walk.each object))
        (cases_eq object here)

    start_visited : IsSome (walk_at (set walks here (Some start)) start)
    start_visited =
        ⊎_elim
        (λ e. subst (λ (n : ℕ). IsSome (walk_at (set walks here (Some start)) n)) e (ap is_some (at_here walks here start within)))
        (λ some. some_stays walks here start within start some)
        walk.first

    pub goes_on : (parent : ℕ) → AreAmong parents → parent_of parents here ≡ Some parent → OnWalk parents before start (set walks here (Some start)) parent (turns + 1)
    goes_on parent among e = record {
      within = parent_within parents here parent among walk.within e;
      count = omega (arith, walk.count, one_more walks here start within fresh);
      first = inr start_visited;
      each = each_next (Some parent) e;
    }

    -- at an object without parent
    pub comes_out : parent_of parents here ≡ None → Walked parents before start None (set walks here (Some start))
    comes_out e = (
      None,
      record {
        more = omega (arith, walk.count, one_more walks here start within fresh);
        visited = start_visited;
        each = each_next None e;
      },
      tt,
    )
