-- Circles of parents, as they are marked, and what walks from all objects find.
use Rattle.std.specs.Prelude.{zero, suc}
use Rattle.std.proofs.Common.{◌≡◌, ◌≢◌, ℕ, ◌+◌, ◌-◌, ◌*◌, ◌<◌, ◌≤◌, ◌⊎◌, inl, inr, Bool, true, false, List, length, replicate, get_or, Option, None, Some, IsSome, IfSome, is_some, refl, sym, ap, subst, ◌∙◌, ⊎_elim, arith}
use Rattle.std.proofs.lemmas.Bool.{cases_eq, cases_lt, false≢true}
use Rattle.std.proofs.lemmas.List.{get_or-replicate, length-replicate}
use Rattle.std.proofs.lemmas.List.Sums.{count_by-le-length}
use Rattle.std.proofs.Math.ListN.{get_or-eq_default}
use Rattle.papy_base.specs.Lineage.{parent_of, AreRooted}
use Rattle.papy_base.specs.Circles.{climb, walk_at, visits, is_marked, IsOnWay, HasWalked, Walked, IsOnCircle, IsMarked, AreSearched, NoneMarked, MarksCircles}
use Rattle.papy_base.proofs.ClimbLemmas.{climb-zero, climb-one, climb-add, climb-rest, climb-stays, climb-next, climb-around, child_within, enough_times, no_end, round_above, rooted_from_end}

same_object : {a b : ℕ} → Some a ≡ Some b → a ≡ b
same_object e = cc

-- ---- one circle
-- from this object upward the marks have come here
pub record IsMarking (parents : List (Option ℕ)) (before : List Bool) (start : ℕ) (marks : List Bool) (here turns : ℕ) : Type 0 where
  pub here_is : climb parents turns (Some start) ≡ Some here
  pub stay : (object : ℕ) → is_marked before object ≡ true → is_marked marks object ≡ true
  pub done : (steps object : ℕ) → steps < turns → climb parents steps (Some start) ≡ Some object → is_marked marks object ≡ true
  pub only : (object : ℕ) → is_marked marks object ≡ true
      → (is_marked before object ≡ true) ⊎ ((steps : ℕ) × (climb parents steps (Some start) ≡ Some object))
  pub apart : (steps : ℕ) → 0 < steps → steps ≤ turns → climb parents steps (Some start) ≢ Some start

pub starts : (parents : List (Option ℕ)) (marks : List Bool) (start : ℕ) → IsMarking parents marks start marks start 0
starts parents marks start = record {
  here_is = climb-zero parents (Some start);
  stay = λ object e. e;
  done = λ steps object h. absurd (omega arith);
  only = λ object e. inl e;
  apart = λ steps some few. absurd (omega arith);
}

module _ (parents : List (Option ℕ)) (before : List Bool) (start : ℕ) (marks : List Bool) (here turns : ℕ) (marking : IsMarking parents before start marks here turns) where
  pub no_parent : IsOnCircle parents start → parent_of parents here ≡ None → ⊥
  no_parent circle e =
      ⊎_elim
      (λ later. none_is_some (sym (climb-stays parents (turns + 1) circle.steps (Some start) (omega arith) (climb-next parents turns (Some start) here marking.here_is ∙ e)) ∙ circle.round))
      (λ sooner. marking.apart circle.steps circle.some sooner circle.round)
      (cases_lt turns circle.steps)
    where
      none_is_some : {n : ℕ} → None ≡ Some n → ⊥
      none_is_some h = cc

  -- the object is marked too
  module _ (later : List Bool) (long : length marks ≡ length parents)
      (mark : here < length marks → is_marked later here ≡ true)
      (stays : (object : ℕ) → is_marked marks object ≡ true → is_marked later object ≡ true)
      (fresh : (object : ℕ) → is_marked later object ≡ true → (is_marked marks object ≡ true) ⊎ (object ≡ here)) where
    only_later : (object : ℕ) → is_marked later object ≡ true → (is_marked before object ≡ true) ⊎ ((steps : ℕ) × (climb parents steps (Some start) ≡ Some object))
    only_later object e =
        ⊎_elim
        (marking.only object)
        (λ same. inr (turns, marking.here_is ∙ ap Some (sym same)))
        (fresh object e)

    done_later : (parent : ℕ) → parent_of parents here ≡ Some parent → (steps object : ℕ) → steps < turns + 1 → climb parents steps (Some start) ≡ Some object → is_marked later object ≡ true
    done_later parent up steps object h e =
        ⊎_elim
        (λ last.
        let same : here ≡ object = same_object (sym marking.here_is ∙ ap (λ (n : ℕ). climb parents n (Some start)) (sym last) ∙ e) in
        let within = child_within parents here parent up in
        subst (λ (n : ℕ). is_marked later n ≡ true) same (mark (omega arith)))
        (λ ne. stays object (marking.done steps object (omega (arith, ne)) e))
        (cases_eq steps turns)

    pub marks_on : (parent : ℕ) → parent_of parents here ≡ Some parent → parent ≢ start → IsMarking parents before start later parent (turns + 1)
    marks_on parent up ne =
        let next = climb-next parents turns (Some start) here marking.here_is ∙ up in
        record {
          here_is = next;
          stay = λ object e. stays object (marking.stay object e);
          done = done_later parent up;
          only = only_later;
          apart = λ steps some few e. ⊎_elim
              (λ last. ne (same_object (sym next ∙ ap (λ (n : ℕ). climb parents n (Some start)) (sym last) ∙ e)))
              (λ sooner. marking.apart steps some (omega (arith, sooner)) e)
              (cases_eq steps (turns + 1));
        }

    -- the circle closes
    pub marks_all : parent_of parents here ≡ Some start → IsMarked parents before start later
    marks_all up = record {
      stay = λ object e. stays object (marking.stay object e);
      all = λ steps object e. around (steps + 1) steps object (omega arith) e;
      only = only_later;
    }
      where
        next : climb parents (turns + 1) (Some start) ≡ Some start
        next = climb-next parents turns (Some start) here marking.here_is ∙ up

        around : (bound steps object : ℕ) → steps < bound → climb parents steps (Some start) ≡ Some object → is_marked later object ≡ true
        around zero steps object h e = absurd (omega arith)
        around (suc bound) steps object h e =
            ⊎_elim
            (λ sooner. done_later start up steps object sooner e)
            (λ past. around bound (steps - (turns + 1)) object (omega arith)
            (ap (climb parents (steps - (turns + 1))) (sym next) ∙ sym (climb-rest parents (turns + 1) steps (Some start) past) ∙ e))
            (cases_lt steps (turns + 1))

-- ---- all walks
read_replicate : {A : Type 0} (x : A) (n i : ℕ) → get_or (replicate n x) i x ≡ x
read_replicate x n i =
    ⊎_elim
    (λ lt. get_or-replicate n i x x lt)
    (λ past. get_or-eq_default (replicate n x) x (omega (arith, length-replicate n x)))
    (cases_lt i n)

pub nothing_yet : (parents walks : List (Option ℕ)) (marks : List Bool) → walks ≡ replicate (length parents) None → marks ≡ replicate (length parents) false → length walks ≡ length parents → length marks ≡ length parents → AreSearched parents walks marks 0
nothing_yet parents walks marks no_walks no_marks walks_long marks_long = record {
  walks_as_long = walks_long;
  marks_as_long = marks_long;
  earlier = λ object walk e. absurd (false≢true (ap is_some (sym (unvisited object) ∙ e)));
  visited = λ object h. absurd (omega arith);
  ends = λ object some. absurd (false≢true (sym (ap is_some (unvisited object)) ∙ some));
  closed = λ object parent e. absurd (false≢true (sym (unmarked object) ∙ e));
  sound = λ object e. absurd (false≢true (sym (unmarked object) ∙ e));
}
  where
    unvisited : (object : ℕ) → walk_at walks object ≡ None
    unvisited object = ap (λ (l : List (Option ℕ)). walk_at l object) no_walks ∙ read_replicate None (length parents) object

    unmarked : (object : ℕ) → is_marked marks object ≡ false
    unmarked object = ap (λ (l : List Bool). is_marked l object) no_marks ∙ read_replicate false (length parents) object

-- one more walk
module _ (parents walks later : List (Option ℕ)) (marks : List Bool) (start : ℕ) (searched : AreSearched parents walks marks start) where
  module _ (here : Option ℕ) (walked : HasWalked parents walks later start here) where
    earlier_later : (object walk : ℕ) → walk_at later object ≡ Some walk → walk < start + 1
    earlier_later object walk e =
        ⊎_elim
        (λ same. omega (arith, searched.earlier object walk (sym same ∙ e)))
        (λ way. let own : walk ≡ start = same_object (sym e ∙ way.noted) in omega arith)
        (walked.each object)

    visited_later : (object : ℕ) → object < start + 1 → IsSome (walk_at later object)
    visited_later object h =
        ⊎_elim
        (λ same. subst (λ (n : ℕ). IsSome (walk_at later n)) (sym same) walked.visited)
        (λ ne. ⊎_elim
        (λ same. ap is_some same ∙ searched.visited object (omega (arith, ne)))
        (λ way. ap is_some way.noted)
        (walked.each object))
        (cases_eq object start)

    end_stays : (object : ℕ) → climb parents (visits walks) (Some object) ≡ None → climb parents (visits later) (Some object) ≡ None
    end_stays object e = climb-stays parents (visits walks) (visits later) (Some object) walked.more e

  pub AreSearched-ended : length later ≡ length walks → Walked parents walks start None later → AreSearched parents later marks (start + 1)
  AreSearched-ended long walked = record {
    walks_as_long = long ∙ searched.walks_as_long;
    marks_as_long = searched.marks_as_long;
    earlier = earlier_later walked.0 walked.1;
    visited = visited_later walked.0 walked.1;
    ends = λ object some. ⊎_elim
        (λ same. ⊎_elim
        (λ end. inl (end_stays walked.0 walked.1 object end))
        (λ leads. inr leads)
        (searched.ends object (ap is_some (sym same) ∙ some)))
        (λ way. goes_on object walked.0 walked.2 way)
        (walked.1.each object);
    closed = searched.closed;
    sound = searched.sound;
  }
    where
      goes_on : (object : ℕ) (here : Option ℕ) → IfSome here (λ above. IsSome (walk_at walks above)) → IsOnWay parents walks later start here object
          → (climb parents (visits later) (Some object) ≡ None) ⊎ ((steps above : ℕ) × (climb parents steps (Some object) ≡ Some above) × (is_marked marks above ≡ true))
      goes_on object None met way = inl (climb-stays parents way.steps (visits later) (Some object) (omega (arith, way.few)) way.leads)
      goes_on object (Some above) met way =
          ⊎_elim
          (λ end. inl (climb-stays parents (way.steps + visits walks) (visits later) (Some object) way.few
          (climb-add parents way.steps (visits walks) (Some object) ∙ ap (climb parents (visits walks)) way.leads ∙ end)))
          (λ leads. inr (way.steps + leads.0, leads.1, climb-add parents way.steps leads.0 (Some object) ∙ ap (climb parents leads.0) way.leads ∙ leads.2, leads.3))
          (searched.ends above met)

  module _ (marked : List Bool) (circle : ℕ) (long : length later ≡ length walks) (walked : HasWalked parents walks later start (Some circle)) (way : IsOnWay parents walks later start (Some circle) circle) where
    on_circle : IsOnCircle parents circle
    on_circle =
        let most = count_by-le-length {X = Option ℕ} is_some later in
        record {
          steps = way.steps;
          some = way.some;
          few = omega (arith, way.few, searched.walks_as_long);
          round = way.leads;
        }

    pub AreSearched-marked : length marked ≡ length marks → (IsOnCircle parents circle → IsMarked parents marks circle marked) → AreSearched parents later marked (start + 1)
    AreSearched-marked as_long mark =
        let all = mark on_circle in
        record {
          walks_as_long = long ∙ searched.walks_as_long;
          marks_as_long = as_long ∙ searched.marks_as_long;
          earlier = earlier_later (Some circle) walked;
          visited = visited_later (Some circle) walked;
          ends = λ object some. ⊎_elim
              (λ same. ⊎_elim
              (λ end. inl (end_stays (Some circle) walked object end))
              (λ leads. inr (leads.0, leads.1, leads.2, all.stay leads.1 leads.3))
              (searched.ends object (ap is_some (sym same) ∙ some)))
              (λ on. inr (on.steps, circle, on.leads, all.all 0 circle (climb-zero parents (Some circle))))
              (walked.each object);
          closed = λ object parent e up. ⊎_elim
              (λ old. all.stay parent (searched.closed object parent old up))
              (λ above. all.all (above.0 + 1) parent (climb-next parents above.0 (Some circle) object above.1 ∙ up))
              (all.only object e);
          sound = λ object e. ⊎_elim
              (searched.sound object)
              (λ above. (way.steps, way.some, round_above parents way.steps circle above.0 object way.leads above.1))
              (all.only object e);
        }

module _ (parents walks : List (Option ℕ)) (marks : List Bool) (bound : ℕ) (searched : AreSearched parents walks marks bound) (all : length parents ≤ bound) where
  marked_above : (steps object above : ℕ) → is_marked marks object ≡ true → climb parents steps (Some object) ≡ Some above → is_marked marks above ≡ true
  marked_above zero object above e up = subst (λ (n : ℕ). is_marked marks n ≡ true) (same_object (sym (climb-zero parents (Some object)) ∙ up)) e
  marked_above (suc steps) object above e up = by (parent_of parents object) refl (λ parent. marked_above steps parent above)
    where
      one : climb parents (1 + steps) (Some object) ≡ Some above
      one = let s : 1 + steps ≡ suc steps = omega arith in ap (λ (n : ℕ). climb parents n (Some object)) s ∙ up

      first : (o : Option ℕ) → parent_of parents object ≡ o → climb parents 1 (Some object) ≡ o
      first o q = climb-one parents (Some object) ∙ q

      none_is_some : {n : ℕ} → None ≡ Some n → ⊥
      none_is_some h = cc

      by : (o : Option ℕ) → parent_of parents object ≡ o
          → ((parent : ℕ) → is_marked marks parent ≡ true → climb parents steps (Some parent) ≡ Some above → is_marked marks above ≡ true)
          → is_marked marks above ≡ true
      by None q rest = absurd (none_is_some (sym (climb-stays parents 1 (1 + steps) (Some object) (omega arith) (first None q)) ∙ one))
      by (Some parent) q rest =
          rest parent (searched.closed object parent e q)
          (ap (climb parents steps) (sym (first (Some parent) q)) ∙ sym (climb-add parents 1 steps (Some object)) ∙ one)

  pub MarksCircles-from_search : MarksCircles parents marks
  MarksCircles-from_search object within = (
    searched.sound object,
    λ circle. ⊎_elim
        (λ end. no_end parents circle.0 object (visits walks) circle.1 circle.2 end)
        (λ leads.
        let times = leads.0 * circle.0 in
        marked_above (times - leads.0) leads.1 object leads.3
        (ap (climb parents (times - leads.0)) (sym leads.2)
        ∙ sym (climb-rest parents leads.0 times (Some object) (enough_times leads.0 circle.0 circle.1))
        ∙ climb-around parents circle.0 object leads.0 circle.2))
        (searched.ends object (searched.visited object (omega arith))),
  )

  pub AreRooted-from_search : NoneMarked marks → AreRooted parents
  AreRooted-from_search none object within =
      ⊎_elim
      (λ end. rooted_from_end parents (visits walks) object (omega (arith, count_by-le-length {X = Option ℕ} is_some walks, searched.walks_as_long)) end)
      (λ leads. absurd (false≢true (sym (unmarked leads.1) ∙ leads.3)))
      (searched.ends object (searched.visited object (omega arith)))
    where
      unmarked : (above : ℕ) → is_marked marks above ≡ false
      unmarked above =
          ⊎_elim
          (λ lt. none above false lt)
          (λ past. get_or-eq_default marks false past)
          (cases_lt above (length marks))
