-- Moves of a stack in its turn, one after another.
use Rattle.std.proofs.Common.{◌≡◌, ℕ, zero, suc, ◌+◌, ◌≤◌, Bool, true, false, cond, Option, refl, sym, ap, ◌∙◌, arith}
use Rattle.std.proofs.Math.Dec.{eqb}
use Rattle.run_laws.specs.Exclusive.{Exclusive, first_is, how_many, is_number, standings as standings_in}
use Rattle.run_laws.proofs.Counts.{how_many-without_second, how_many-without_number}
use Rattle.run_laws.proofs.Standing.{from_exclusive, has_started, runs, take_stands}
use Rattle.script_meaning.specs.Locks.{ends, goes_to_wait, is_ready, let_go, moves, rests, same_instance, second_is, sleeps, takes}
use Rattle.script_meaning.specs.Stacks.{State}
use Rattle.script_meaning.specs.World.{World}
use Rattle.stack_places.specs.Places.{IsAway, Moved, Moves, MovesIn, PlaceLists, PlaceTable, Runs, finishes, placed, places_in, standings}
use Rattle.stack_places.proofs.Numbers.{itself}
use Rattle.stack_places.proofs.Standing.{some_world}

none_left : (t : Bool) (c : ℕ) → t ≡ true → cond t 0 c ≡ 0
none_left true c e = refl
none_left false c e = absurd (cc)

-- a stack that let go stands nowhere
pub away_after : (k : ℕ) (p q : PlaceLists) → Moved (let_go k) p q → Runs p k → IsAway q k
away_after k p q m r =
    let w = m some_world in
    let owners : how_many (second_is k) q.owners ≡ 0 = ap (λ (v : World). how_many (second_is k) v.owners) w ∙ (how_many-without_second k k p.owners ∙ none_left (eqb k k) (how_many (second_is k) p.owners) (itself k)) in
    let free : how_many (is_number k) q.free ≡ 0 = ap (λ (v : World). how_many (is_number k) v.free) w ∙ (how_many-without_number k k p.free ∙ none_left (eqb k k) (how_many (is_number k) p.free) (itself k)) in
    let waiters : how_many (second_is k) q.waiters ≡ how_many (second_is k) p.waiters = ap (λ (v : World). how_many (second_is k) v.waiters) w in
    let done : how_many (is_number k) q.done ≡ how_many (is_number k) p.done = ap (λ (v : World). how_many (is_number k) v.done) w in
    let asleep : how_many (first_is k) q.asleep ≡ how_many (first_is k) p.asleep = ap (λ (v : World). how_many (first_is k) v.asleep) w in
    let once = r.once in
    let now = r.now in
    omega (arith, owners, free, waiters, done, asleep, once, now)

twice : (f g : World → World) (p q r : PlaceLists) → Moved f p q → Moved g q r → Moved (λ w. g (f w)) p r
twice f g p q r a b = λ w. b w ∙ ap g (a w)

pub goes_over : (k : ℕ) (from to : Option ℕ) (p q r : PlaceTable) → same_instance from to ≡ false → Moves (let_go k) p q → Moves (goes_to_wait k to) q r → Moves (moves k from to) p r
goes_over k from to p q r same a b = record {
  moved = λ w. twice (let_go k) (goes_to_wait k to) p.lists q.lists r.lists a.moved b.moved w ∙ ap (λ t. cond t (placed p.lists w) (goes_to_wait k to (let_go k (placed p.lists w)))) (sym same);
  instances = b.instances ∙ a.instances;
  room = b.room ∙ a.room;
}

pub finished : (k : ℕ) (p q r : PlaceTable) → Moves (let_go k) p q → Moves (ends k) q r → Moves (finishes k) p r
finished k p q r a b =
    record { moved = twice (let_go k) (ends k) p.lists q.lists r.lists a.moved b.moved; instances = b.instances ∙ a.instances; room = b.room ∙ a.room }

pub rests_awake : (turn k latency : ℕ) (to : Option ℕ) (p q r : PlaceTable) → latency ≡ 0 → Moves (let_go k) p q → Moves (goes_to_wait k to) q r → MovesIn turn (rests k latency to) p r
rests_awake turn k latency to p q r same a b = record {
  moved = λ w e. twice (let_go k) (goes_to_wait k to) p.lists q.lists r.lists a.moved b.moved w ∙ ap (λ n. rests k n to (placed p.lists w)) (sym same);
  instances = b.instances ∙ a.instances;
  room = b.room ∙ a.room;
}

asleep_for : (k latency : ℕ) (to : Option ℕ) (p : PlaceLists) (w : World) → 1 ≤ latency → sleeps k (w.turn + 1 + latency) (let_go k (placed p w)) ≡ rests k latency to (placed p w)
asleep_for k zero to p w h = absurd (omega (arith, h))
asleep_for k (suc latency) to p w h = refl

pub rests_asleep : (turn k latency until : ℕ) (to : Option ℕ) (p q r : PlaceTable) → 1 ≤ latency → until ≡ turn + 1 + latency → Moves (let_go k) p q → Moves (sleeps k until) q r → MovesIn turn (rests k latency to) p r
rests_asleep turn k latency until to p q r h e a b = record {
  moved = λ w t.
      let due : until ≡ w.turn + 1 + latency = omega (arith, e, t) in
      twice (let_go k) (sleeps k until) p.lists q.lists r.lists a.moved b.moved w ∙ (ap (λ n. sleeps k n (let_go k (placed p.lists w))) due ∙ asleep_for k latency to p.lists w h);
  instances = b.instances ∙ a.instances;
  room = b.room ∙ a.room;
}

-- a ready stack that took its instance runs, and stands there alone
pub runs_taken : {Body : Type 0} (state : State Body) (k : ℕ) (q : PlaceLists) → Exclusive state → is_ready state.world k ≡ true → Moved (takes k) (places_in state.world) q → Runs q k
runs_taken state k q e ready m =
    let t = take_stands state.world state.stacks k ready (from_exclusive state e) in
    let r : runs (takes k state.world) k = t.1 in
    let started = has_started (takes k state.world) state.stacks k t.0 (omega (arith, r)) in
    let once = (t.0).once k started in
    let same : standings q k ≡ standings_in (takes k state.world) k = ap (λ (v : World). standings_in v k) (m state.world) in
    let now : how_many (second_is k) q.owners + how_many (is_number k) q.free ≡ how_many (second_is k) (takes k state.world).owners + how_many (is_number k) (takes k state.world).free = ap (λ (v : World). how_many (second_is k) v.owners + how_many (is_number k) v.free) (m state.world) in
    record { once = omega (arith, once, same); now = omega (arith, r, now) }
