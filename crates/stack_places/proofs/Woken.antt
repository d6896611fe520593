-- Sleepers that wake, one after another.
use Rattle.std.proofs.Common.{◌≡◌, ℕ, ◌+◌, ◌<◌, ◌≤◌, Bool, true, false, not, cond, List, [], ◌∷◌, length, Option, Some, None, refl, sym, ap, ◌∙◌, arith}
use Rattle.std.specs.List.{filter}
use Rattle.std.proofs.Math.Dec.{eqb}
use Rattle.code_meaning.specs.LookUp.{Body}
use Rattle.run_laws.specs.Exclusive.{how_many, is_number, first_is}
use Rattle.script_meaning.specs.Locks.{goes_to_wait, second_is}
use Rattle.script_meaning.specs.Stacks.{Stack, inner_instance, stack_at}
use Rattle.script_meaning.specs.Turns.{all_wait, is_due, not_due}
use Rattle.script_meaning.specs.World.{World}
use Rattle.run_laws.proofs.Counts.{how_many-append, how_many-split, how_many-with_number}
use Rattle.stack_places.specs.Places.{IsAway, Moved, PlaceLists, due_in, placed, standings, without_due}
use Rattle.stack_places.specs.Waking.{SleepAlone}
use Rattle.stack_places.proofs.Numbers.{itself}
use Rattle.stack_places.proofs.Standing.{some_world}

-- the first sleeper that is due was taken away
pub record Taken (turn k : ℕ) (p q : PlaceLists) : Type 0 where
  pub until : ℕ
  pub due : due_in turn p ≡ (k, until) ∷ due_in turn q
  pub rest : without_due turn q ≡ without_due turn p

one : (t : Bool) → t ≡ true → 1 ≤ cond t 1 0
one true e = omega arith
one false e = absurd (cc)

-- how often a stack sleeps: due or not
in_two : (turn n : ℕ) (p : PlaceLists) → how_many (first_is n) (without_due turn p).asleep + how_many (first_is n) (due_in turn p) ≡ how_many (first_is n) p.asleep
in_two turn n p = how_many-split (first_is n) turn p.asleep

-- the first that is due sleeps, and its taking away leaves the rest
pub counts : (turn k n : ℕ) (p q : PlaceLists) (t : Taken turn k p q) → how_many (first_is n) p.asleep ≡ cond (eqb k n) 1 0 + how_many (first_is n) q.asleep
counts turn k n p q t =
    let a = in_two turn n p in
    let b = in_two turn n q in
    let d = ap (how_many (first_is n)) t.due in
    let r = ap (λ (x : PlaceLists). how_many (first_is n) x.asleep) t.rest in
    omega (arith, a, b, d, r)

pub others : (turn k : ℕ) (p q : PlaceLists) → Taken turn k p q → (n : ℕ) → how_many (second_is n) q.owners + how_many (second_is n) q.waiters + how_many (is_number n) q.free + how_many (is_number n) q.done ≡ how_many (second_is n) p.owners + how_many (second_is n) p.waiters + how_many (is_number n) p.free + how_many (is_number n) p.done
others turn k p q t n =
    ap (λ (x : PlaceLists). how_many (second_is n) x.owners + how_many (second_is n) x.waiters + how_many (is_number n) x.free + how_many (is_number n) x.done) t.rest

pub is_first : (turn k : ℕ) (p q : PlaceLists) → Taken turn k p q → 1 ≤ how_many (first_is k) (due_in turn p)
is_first turn k p q t =
    let d = ap (how_many (first_is k)) t.due in
    let o = one (eqb k k) (itself k) in
    omega (arith, d, o)

pub away_taken : (turn k : ℕ) (p q : PlaceLists) → SleepAlone turn p → Taken turn k p q → IsAway q k
away_taken turn k p q alone t =
    let once = alone k (is_first turn k p q t) in
    let c = counts turn k k p q t in
    let o = one (eqb k k) (itself k) in
    let s = others turn k p q t k in
    omega (arith, once, c, o, s)

-- a stack that waits then is another stand for that one alone
joined : (turn k n : ℕ) (o : Option ℕ) (q r : PlaceLists) → Moved (goes_to_wait k o) q r → standings r n ≡ standings q n + cond (eqb k n) 1 0
joined turn k n None q r m =
    let w = m some_world in
    let f = ap (λ (v : World). how_many (is_number n) v.free) w ∙ how_many-with_number (is_number n) k q.free in
    let a = ap (λ (v : World). how_many (second_is n) v.owners) w in
    let b = ap (λ (v : World). how_many (second_is n) v.waiters) w in
    let c = ap (λ (v : World). how_many (first_is n) v.asleep) w in
    let d = ap (λ (v : World). how_many (is_number n) v.done) w in
    omega (arith, f, a, b, c, d)
joined turn k n (Some i) q r m =
    let w = m some_world in
    let b = ap (λ (v : World). how_many (second_is n) v.waiters) w ∙ how_many-append (second_is n) q.waiters ((i, k) ∷ []) in
    let a = ap (λ (v : World). how_many (second_is n) v.owners) w in
    let f = ap (λ (v : World). how_many (is_number n) v.free) w in
    let c = ap (λ (v : World). how_many (first_is n) v.asleep) w in
    let d = ap (λ (v : World). how_many (is_number n) v.done) w in
    omega (arith, f, a, b, c, d)

pub same_asleep : (turn k : ℕ) (o : Option ℕ) (q r : PlaceLists) → Moved (goes_to_wait k o) q r → r.asleep ≡ q.asleep
same_asleep turn k None q r m = ap (λ (v : World). v.asleep) (m some_world)
same_asleep turn k (Some i) q r m = ap (λ (v : World). v.asleep) (m some_world)

due_more : (turn k n : ℕ) (o : Option ℕ) (p q r : PlaceLists) → Taken turn k p q → Moved (goes_to_wait k o) q r → how_many (first_is n) (due_in turn p) ≡ cond (eqb k n) 1 0 + how_many (first_is n) (due_in turn r)
due_more turn k n o p q r t m =
    let d = ap (how_many (first_is n)) t.due in
    let s = ap (λ (xs : List (ℕ × ℕ)). how_many (first_is n) (filter (is_due turn) xs)) (same_asleep turn k o q r m) in
    omega (arith, d, s)

pub alone_on : (turn k : ℕ) (o : Option ℕ) (p q r : PlaceLists) → SleepAlone turn p → Taken turn k p q → Moved (goes_to_wait k o) q r → SleepAlone turn r
alone_on turn k o p q r alone t m n h =
    let more = due_more turn k n o p q r t m in
    let once = alone n (omega (arith, more, h)) in
    let c = counts turn k n p q t in
    let s = others turn k p q t n in
    let j = joined turn k n o q r m in
    omega (arith, once, c, s, j)

pub there_on : (turn k n : ℕ) (o : Option ℕ) (p q r : PlaceLists) → Taken turn k p q → Moved (goes_to_wait k o) q r → 1 ≤ how_many (first_is n) (due_in turn r) → 1 ≤ how_many (first_is n) (due_in turn p)
there_on turn k n o p q r t m h = let more = due_more turn k n o p q r t m in omega (arith, more, h)

pub due_fewer : (turn k : ℕ) (o : Option ℕ) (p q r : PlaceLists) → Taken turn k p q → Moved (goes_to_wait k o) q r → length (due_in turn r) < length (due_in turn p)
due_fewer turn k o p q r t m =
    let d = ap length t.due in
    let s = ap (λ (xs : List (ℕ × ℕ)). length (filter (is_due turn) xs)) (same_asleep turn k o q r m) in
    omega (arith, d, s)

-- ---- what is made of a world
abbrev woken : ℕ → List (Stack Body) → PlaceLists → World → World
woken turn stacks p w = all_wait stacks (due_in turn p) (placed (without_due turn p) w)

waits_asleep : (turn k : ℕ) (o : Option ℕ) (q r : PlaceLists) → Moved (goes_to_wait k o) q r → (w : World) → placed (without_due turn r) w ≡ goes_to_wait k o (placed (without_due turn q) w)
waits_asleep turn k None q r m w =
    let e = m w in ap (λ (v : World). record v { asleep = filter (not_due turn) v.asleep }) e
waits_asleep turn k (Some i) q r m w =
    let e = m w in ap (λ (v : World). record v { asleep = filter (not_due turn) v.asleep }) e

pub woken_on : (turn k : ℕ) (stacks : List (Stack Body)) (o : Option ℕ) (p q r : PlaceLists) → o ≡ inner_instance (stack_at stacks k) → Taken turn k p q → Moved (goes_to_wait k o) q r → (w : World) → woken turn stacks r w ≡ woken turn stacks p w
woken_on turn k stacks o p q r e t m w =
    let rest = ap (λ (xs : List (ℕ × ℕ)). filter (is_due turn) xs) (same_asleep turn k o q r m) in
    ap (λ ds. all_wait stacks ds (placed (without_due turn r) w)) rest ∙ (ap (λ v. all_wait stacks (due_in turn q) v) (waits_asleep turn k o q r m w) ∙ (ap (λ i. all_wait stacks (due_in turn q) (goes_to_wait k i (placed (without_due turn q) w))) e ∙ (ap (λ (x : PlaceLists). all_wait stacks (due_in turn q) (goes_to_wait k (inner_instance (stack_at stacks k)) (placed x w))) t.rest ∙ ap (λ ds. all_wait stacks ds (placed (without_due turn p) w)) (sym t.due))))

keep_by : (t : Bool) (p : ℕ × ℕ) (ds ns ps : List (ℕ × ℕ)) → cond t (p ∷ ds) ds ≡ [] → (ds ≡ [] → ns ≡ ps) → cond (not t) (p ∷ ns) ns ≡ p ∷ ps
keep_by true p ds ns ps h i = absurd (cc)
keep_by false p ds ns ps h i = ap (λ xs. p ∷ xs) (i h)

none_left : (turn : ℕ) (ps : List (ℕ × ℕ)) → filter (is_due turn) ps ≡ [] → filter (not_due turn) ps ≡ ps
none_left turn [] h = refl
none_left turn (p ∷ ps) h =
    keep_by (is_due turn p) p (filter (is_due turn) ps) (filter (not_due turn) ps) ps h (none_left turn ps)

pub woken_all : (turn : ℕ) (stacks : List (Stack Body)) (p q : PlaceLists) → due_in turn p ≡ [] → q ≡ p → (w : World) → placed q w ≡ woken turn stacks p w
woken_all turn stacks p q none same w =
    ap (λ x. placed x w) same ∙ (ap (λ xs. placed (record p { asleep = xs }) w) (sym (none_left turn p.asleep none)) ∙ ap (λ ds. all_wait stacks ds (placed (without_due turn p) w)) (sym none))
