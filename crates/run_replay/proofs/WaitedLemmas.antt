-- How long stacks waited.
use Rattle.std.proofs.Common.{◌≡◌, ℕ, zero, suc, ◌+◌, ◌-◌, ◌*◌, ◌<◌, ◌≤◌, Bool, true, false, List, [], ◌∷◌, ◌++◌, length, get_or, cond, length-append, refl, sym, ap, subst, ◌∙◌, inl, inr, ⊎_elim, arith}
use Rattle.std.specs.Prelude.{not, ◌==◌, slice_index, slice_set}
use Rattle.std.proofs.Math.ListN.{length-set}
use Rattle.std.proofs.lemmas.List.{get_or-set_same, get_or-set_other, get_or_past}
use Rattle.std.proofs.lemmas.Bool.{false≢true, cond_both, cond-true, cond-false, and_parts, eqb-true, eq-eqb, ne_eqb, ltb-true, cases_eq, cases_lt}
use Rattle.run_replay.specs.declared.lock_move.LockMove.{LockMove}
use Rattle.run_replay.specs.declared.lock_move.LockMove.TheVariants as moves
use Rattle.run_replay.specs.declared.book.Waiter.{Waiter}
use Rattle.run_replay.specs.Lines.{JournalLine, Heading, Instance, Turn, End, Moved, LineFits}
use Rattle.run_replay.specs.Book.{Standing, start, move_is_allowed, move_may_stand, is_first, is_other, without_stack, since_of, added, counted, moved, after, Leave}
use Rattle.run_replay.specs.Outline.{AreLines, turns_in, names_in}
use Rattle.run_replay.specs.Waiting.{next_take, waited_from, waited}
use Rattle.run_replay.specs.Journal.{IsWhole}
use Rattle.run_replay.proofs.DisciplineLemmas.{Good, good_after, good_start, NoStack, Differ, Among, IsEntry, takes}
use Rattle.run_replay.proofs.LegalLemmas.{leaves, turns_are, names_are}

-- what those that wait for the instance add, where f says up to which turn each stack waits
abbrev pending : ℕ → (ℕ → ℕ) → List Waiter → ℕ
pending i f [] = 0
pending i f (w ∷ ws) = cond (w.instance == i) (f w.stack - w.since) 0 + pending i f ws

pending_push : (i : ℕ) (f : ℕ → ℕ) (ws : List Waiter) (x : Waiter) → pending i f (ws ++ x ∷ []) ≡ pending i f ws + cond (x.instance == i) (f x.stack - x.since) 0
pending_push i f [] x = omega arith
pending_push i f (w ∷ ws) x = let rest = pending_push i f ws x in omega arith

-- those of other stacks wait on
pending_others : (i k : ℕ) (f g : ℕ → ℕ) (ws : List Waiter) → NoStack k ws → ((j : ℕ) → (j ≡ k → ⊥) → f j ≡ g j) → pending i f ws ≡ pending i g ws
pending_others i k f g [] none same = refl
pending_others i k f g (w ∷ ws) none same =
    ap (λ (n : ℕ). cond (w.instance == i) (n - w.since) 0 + pending i f ws) (same w.stack none.0)
    ∙ ap (λ (n : ℕ). cond (w.instance == i) (g w.stack - w.since) 0 + n) (pending_others i k f g ws none.1 same)

not_among : (n k : ℕ) (ws : List Waiter) → NoStack k ws → Among n k ws → ⊥
not_among n k [] none among = among
not_among n k (w ∷ ws) none among = ⊎_elim (λ (is : IsEntry n k w). none.0 is.1) (λ (rest : Among n k ws). not_among n k ws none.1 rest) among

first_among : (n k : ℕ) (ws : List Waiter) → is_first n k ws ≡ true → Among n k ws
first_among n k [] first = absurd (false≢true first)
first_among n k (w ∷ ws) first =
    cond_both (w.instance == n) (w.stack == k) (is_first n k ws) (λ (b : Bool). b ≡ true → Among n k (w ∷ ws))
    (λ t. λ here. inl (eqb-true w.instance n t, eqb-true w.stack k here))
    (λ t. λ there. inr (first_among n k ws there))
    first

-- what the taker adds, and what is left to the others
abbrev TakeAdds : (i n k now : ℕ) (f g : ℕ → ℕ) → List Waiter → Type 0
TakeAdds i n k now f g ws = pending i f ws ≡ cond (n == i) (now - since_of k ws) 0 + pending i g (without_stack k ws)

take_here : (i n k now : ℕ) (f g : ℕ → ℕ) (w : Waiter) (ws : List Waiter) → f k ≡ now → ((j : ℕ) → (j ≡ k → ⊥) → f j ≡ g j) → NoStack w.stack ws → Among n k (w ∷ ws) → w.stack ≡ k → TakeAdds i n k now f g (w ∷ ws)
take_here i n k now f g w ws here same apart among is =
    let test : (w.stack == k) ≡ true = eq-eqb w.stack k is in
    let since : since_of k (w ∷ ws) ≡ w.since = cond-true _ _ _ test in
    let left : without_stack k (w ∷ ws) ≡ ws = cond-false _ _ _ (ap not test) in
    let none : NoStack k ws = subst (λ (m : ℕ). NoStack m ws) is apart in
    let inst : w.instance ≡ n = ⊎_elim (λ (entry : IsEntry n k w). entry.0) (λ (rest : Among n k ws). absurd (not_among n k ws none rest)) among in
    let rest : pending i f ws ≡ pending i g ws = pending_others i k f g ws none same in
    ap (λ (m : ℕ). cond (m == i) (f w.stack - w.since) 0 + pending i f ws) inst
    ∙ ap (λ (m : ℕ). cond (n == i) (m - w.since) 0 + pending i f ws) (ap f is ∙ here)
    ∙ ap (λ (m : ℕ). cond (n == i) (now - w.since) 0 + m) rest
    ∙ ap (λ (m : ℕ). cond (n == i) (now - m) 0 + pending i g ws) (sym since)
    ∙ ap (λ (vs : List Waiter). cond (n == i) (now - since_of k (w ∷ ws)) 0 + pending i g vs) (sym left)

take_behind : (i n k now : ℕ) (f g : ℕ → ℕ) (w : Waiter) (ws : List Waiter) → ((j : ℕ) → (j ≡ k → ⊥) → f j ≡ g j) → Among n k (w ∷ ws) → (Among n k ws → TakeAdds i n k now f g ws) → (w.stack ≡ k → ⊥) → TakeAdds i n k now f g (w ∷ ws)
take_behind i n k now f g w ws same among behind other =
    let test : (w.stack == k) ≡ false = ne_eqb w.stack k other in
    let since : since_of k (w ∷ ws) ≡ since_of k ws = cond-false _ _ _ test in
    let left : without_stack k (w ∷ ws) ≡ w ∷ without_stack k ws = cond-true _ _ _ (ap not test) in
    let inner : Among n k ws = ⊎_elim (λ (entry : IsEntry n k w). absurd (other entry.1)) (λ (rest : Among n k ws). rest) among in
    let rest : pending i f ws ≡ cond (n == i) (now - since_of k ws) 0 + pending i g (without_stack k ws) = behind inner in
    let head : cond (w.instance == i) (f w.stack - w.since) 0 ≡ cond (w.instance == i) (g w.stack - w.since) 0 = ap (λ (m : ℕ). cond (w.instance == i) (m - w.since) 0) (same w.stack other) in
    let sums : cond (w.instance == i) (f w.stack - w.since) 0 + pending i f ws ≡ cond (n == i) (now - since_of k ws) 0 + (cond (w.instance == i) (g w.stack - w.since) 0 + pending i g (without_stack k ws)) = omega (arith, rest, head) in
    sums
    ∙ ap (λ (m : ℕ). cond (n == i) (now - m) 0 + (cond (w.instance == i) (g w.stack - w.since) 0 + pending i g (without_stack k ws))) (sym since)
    ∙ ap (λ (vs : List Waiter). cond (n == i) (now - since_of k (w ∷ ws)) 0 + pending i g vs) (sym left)

pending_take : (i n k now : ℕ) (f g : ℕ → ℕ) (ws : List Waiter) → f k ≡ now → ((j : ℕ) → (j ≡ k → ⊥) → f j ≡ g j) → Differ ws → Among n k ws → TakeAdds i n k now f g ws
pending_take i n k now f g [] here same apart among = absurd among
pending_take i n k now f g (w ∷ ws) here same apart among = ⊎_elim
    (λ (is : w.stack ≡ k). take_here i n k now f g w ws here same apart.0 among is)
    (λ (other : w.stack ≡ k → ⊥). take_behind i n k now f g w ws same among (λ inner. pending_take i n k now f g ws here same apart.1 inner) other)
    (cases_eq w.stack k)

-- a count after another grew, or it
added_at : (counts : List ℕ) (n x i : ℕ) → n < length counts → slice_index (added counts n x) i ≡ slice_index counts i + cond (n == i) x 0
added_at counts n x i inside = ⊎_elim
    (λ (same : n ≡ i).
    ap (λ (m : ℕ). get_or (slice_set counts n (get_or counts n 0 + x)) m 0) (sym same) ∙ get_or-set_same counts n (get_or counts n 0 + x) 0 inside
    ∙ ap (λ (m : ℕ). get_or counts m 0 + x) same ∙ ap (λ (y : ℕ). get_or counts i 0 + y) (sym (cond-true (n == i) x 0 (eq-eqb n i same))))
    (λ (other : n ≡ i → ⊥).
    let stays : get_or (slice_set counts n (get_or counts n 0 + x)) i 0 ≡ get_or counts i 0 = get_or-set_other counts n i (get_or counts n 0 + x) 0 (λ e. other (sym e)) in
    let none : cond (n == i) x 0 ≡ 0 = cond-false (n == i) x 0 (ne_eqb n i other) in
    omega (arith, stays, none))
    (cases_eq n i)

-- a count that nobody has
added_past : (counts : List ℕ) (n x i : ℕ) → i < length counts → slice_index (added counts n x) i ≡ slice_index counts i + cond (n == i) x 0
added_past counts n x i inside = ⊎_elim
    (λ (same : n ≡ i). added_at counts n x i (omega arith))
    (λ (other : n ≡ i → ⊥).
    let stays : get_or (slice_set counts n (get_or counts n 0 + x)) i 0 ≡ get_or counts i 0 = get_or-set_other counts n i (get_or counts n 0 + x) 0 (λ e. other (sym e)) in
    let none : cond (n == i) x 0 ≡ 0 = cond-false (n == i) x 0 (ne_eqb n i other) in
    omega (arith, stays, none))
    (cases_eq n i)

counted_at : (ws : List Waiter) (turns : ℕ) (counts : List ℕ) (i : ℕ) → i < length counts → slice_index (counted ws turns counts) i ≡ slice_index counts i + pending i (λ k. turns) ws
counted_at [] turns counts i inside = omega arith
counted_at (w ∷ ws) turns counts i inside =
    let rest = counted_at ws turns (added counts w.instance (turns - w.since)) i (omega (arith, length-set counts w.instance (get_or counts w.instance 0 + (turns - w.since)))) in
    let here = added_past counts w.instance (turns - w.since) i inside in
    omega (arith, rest, here)

push_zero : (counts : List ℕ) (i : ℕ) → slice_index (counts ++ 0 ∷ []) i ≡ slice_index counts i
push_zero [] zero = refl
push_zero [] (suc i) = refl
push_zero (c ∷ counts) zero = refl
push_zero (c ∷ counts) (suc i) = push_zero counts i

-- what was counted, what those add that wait, and what comes
abbrev total : ℕ → ℕ → Standing → List JournalLine → ℕ
total i turns s lines = slice_index s.waited i + pending i (λ k. next_take k s.turn turns lines) s.waiters + waited_from i s.turn turns lines

abbrev Paired : Standing → Type 0
Paired s = length s.names ≡ length s.waited

total_move : (i turns : ℕ) (s : Standing) (m : LockMove) (lines : List JournalLine) → Good s → Paired s → move_may_stand s m ≡ true → move_is_allowed s m ≡ true → total i turns s (Moved m ∷ lines) ≡ total i turns (moved s m) lines
total_move i turns s (moves.Join k n) lines good paired stands allowed =
    let x : Waiter = record { stack = k; instance = n; since = s.turn } in
    let pushed = pending_push i (λ j. next_take j s.turn turns lines) s.waiters x in
    omega (arith, pushed)
total_move i turns s (moves.Take k n) lines good paired stands allowed =
    let f : ℕ → ℕ = λ j. cond (k == j) s.turn (next_take j s.turn turns lines) in
    let g : ℕ → ℕ = λ j. next_take j s.turn turns lines in
    let among = first_among n k s.waiters (takes s k n good allowed).first in
    let inside : n < length s.waited = omega (arith, ltb-true n (length s.names) (and_parts _ _ stands).1) in
    let mine = pending_take i n k s.turn f g s.waiters (cond-true _ _ _ (eq-eqb k k refl)) (λ j other. cond-false _ _ _ (ne_eqb k j (λ e. other (sym e)))) good.apart among in
    let grown = added_at s.waited n (s.turn - since_of k s.waiters) i inside in
    omega (arith, mine, grown)
total_move i turns s (moves.Release k n) lines good paired stands allowed = omega arith
total_move i turns s (moves.Free k) lines good paired stands allowed = omega arith
total_move i turns s (moves.Leave k) lines good paired stands allowed = omega arith
total_move i turns s (moves.Sleep k until) lines good paired stands allowed = omega arith
total_move i turns s (moves.Done k) lines good paired stands allowed = omega arith
total_move i turns s (moves.Run k) lines good paired stands allowed = omega arith
total_move i turns s moves.Idle lines good paired stands allowed = omega arith

paired_move : (s : Standing) (m : LockMove) → Paired s → Paired (moved s m)
paired_move s (moves.Join k n) paired = paired
paired_move s (moves.Take k n) paired = paired ∙ sym (length-set s.waited n (get_or s.waited n 0 + (s.turn - since_of k s.waiters)))
paired_move s (moves.Release k n) paired = paired
paired_move s (moves.Free k) paired = paired
paired_move s (moves.Leave k) paired = paired
paired_move s (moves.Sleep k until) paired = paired
paired_move s (moves.Done k) paired = paired
paired_move s (moves.Run k) paired = paired
paired_move s moves.Idle paired = paired

-- the sum stays the same from line to line
record Kept (i turns : ℕ) (s end : Standing) (lines : List JournalLine) : Type 0 where
  same : total i turns s lines ≡ total i turns end []
  paired : Paired end

kept : (i turns : ℕ) (s end : Standing) (lines : List JournalLine) → Good s → Paired s → Leave s lines end → Kept i turns s end lines
kept i turns s end [] good paired leave = record { same = ap (λ (t : Standing). total i turns t []) (sym leave); paired = subst (λ (t : Standing). Paired t) (sym leave) paired }
kept i turns s end (Heading ∷ lines) good paired leave =
    let rest = kept i turns (after s Heading) end lines (good_after s Heading good leave.2) paired leave.3 in record { same = rest.same; paired = rest.paired }
kept i turns s end (Instance name ∷ lines) good paired leave =
    let next : Paired (after s (Instance name)) = omega (arith, length-append s.names (name ∷ []), length-append s.waited (0 ∷ [])) in
    let rest = kept i turns (after s (Instance name)) end lines (good_after s (Instance name) good leave.2) next leave.3 in
    record { same = ap (λ (n : ℕ). n + pending i (λ k. next_take k s.turn turns lines) s.waiters + waited_from i s.turn turns lines) (sym (push_zero s.waited i)) ∙ rest.same; paired = rest.paired }
kept i turns s end (Turn turn ∷ lines) good paired leave =
    let rest = kept i turns (after s (Turn turn)) end lines (good_after s (Turn turn) good leave.2) paired leave.3 in record { same = rest.same; paired = rest.paired }
kept i turns s end (End last ∷ lines) good paired leave =
    let rest = kept i turns (after s (End last)) end lines (good_after s (End last) good leave.2) paired leave.3 in record { same = rest.same; paired = rest.paired }
kept i turns s end (Moved m ∷ lines) good paired leave =
    let rest = kept i turns (moved s m) end lines (good_after s (Moved m) good leave.2) (paired_move s m paired) leave.3 in
    record { same = total_move i turns s m lines good paired leave.1 leave.2 ∙ rest.same; paired = rest.paired }

-- the counts are what the lines say
pub waited_is : (bytes : List ℕ) (end : Standing) (lines : List JournalLine) → IsWhole bytes end → AreLines bytes lines → (i : ℕ) → i < length (names_in lines) → slice_index (counted end.waiters end.turns end.waited) i ≡ waited lines i
waited_is bytes end lines whole are i named =
    let turns = turns_in lines in
    let k = kept i turns start end lines good_start refl (leaves bytes end lines whole are) in
    let count : end.turns ≡ turns = turns_are bytes end lines whole are in
    let inside : i < length end.waited = omega (arith, k.paired, ap length (names_are bytes end lines whole are)) in
    let at_end = counted_at end.waiters turns end.waited i inside in
    let same : total i turns start lines ≡ total i turns end [] = k.same in
    let there : slice_index (counted end.waiters turns end.waited) i ≡ waited lines i = omega (arith, at_end, same) in
    ap (λ (n : ℕ). slice_index (counted end.waiters n end.waited) i) count ∙ there

-- no count grows too large

pub record Bounded (number : ℕ) (s : Standing) : Type 0 where
  pub turn : s.turn < 1048576
  pub counts : (i : ℕ) → slice_index s.waited i ≤ number * 1048576
  pub few : length s.waiters ≤ number

pub bounded_start : (s : Standing) → s ≡ start → Bounded 1 s
bounded_start s is = subst (λ (t : Standing). Bounded 1 t) (sym is) (record { turn = omega arith; counts = λ i. omega arith; few = omega arith })

fewer : (k : ℕ) (ws : List Waiter) → length (without_stack k ws) ≤ length ws
fewer k [] = omega arith
fewer k (w ∷ ws) = cond_both (is_other k w) (w ∷ without_stack k ws) ws (λ (vs : List Waiter). length vs ≤ suc (length ws)) (λ t. let rest = fewer k ws in omega arith) (λ t. omega arith)

grown : (counts : List ℕ) (n x i : ℕ) → slice_index (added counts n x) i ≤ slice_index counts i + x
grown counts n x i = ⊎_elim
    (λ (same : n ≡ i). at_place same)
    (λ (other : n ≡ i → ⊥).
    let stays : get_or (slice_set counts n (get_or counts n 0 + x)) i 0 ≡ get_or counts i 0 = get_or-set_other counts n i (get_or counts n 0 + x) 0 (λ e. other (sym e)) in
    omega (arith, stays))
    (cases_eq n i)
  where
    at_place : n ≡ i → slice_index (added counts n x) i ≤ slice_index counts i + x
    at_place same = ⊎_elim
        (λ (inside : n < length counts).
        let here : get_or (slice_set counts n (get_or counts n 0 + x)) n 0 ≡ get_or counts n 0 + x = get_or-set_same counts n (get_or counts n 0 + x) 0 inside in
        subst (λ (m : ℕ). get_or (slice_set counts n (get_or counts n 0 + x)) m 0 ≤ get_or counts m 0 + x) same (omega (arith, here)))
        (λ (past : length counts ≤ n).
        let none : get_or (slice_set counts n (get_or counts n 0 + x)) i 0 ≡ 0 = get_or_past (slice_set counts n (get_or counts n 0 + x)) i 0 (omega (arith, length-set counts n (get_or counts n 0 + x))) in
        omega (arith, none))
        (cases_lt n (length counts))

bounded_move : (number : ℕ) (s : Standing) (m : LockMove) → Bounded number s → Bounded (number + 1) (moved s m)
bounded_move number s (moves.Join k n) b = record { turn = b.turn; counts = λ i. omega (arith, b.counts i); few = omega (arith, b.few, length-append s.waiters (record { stack = k; instance = n; since = s.turn } ∷ [])) }
bounded_move number s (moves.Take k n) b = record {
  turn = b.turn;
  counts = λ i. omega (arith, b.counts i, b.turn, grown s.waited n (s.turn - since_of k s.waiters) i);
  few = omega (arith, b.few, fewer k s.waiters);
}
bounded_move number s (moves.Release k n) b = record { turn = b.turn; counts = λ i. omega (arith, b.counts i); few = omega (arith, b.few) }
bounded_move number s (moves.Free k) b = record { turn = b.turn; counts = λ i. omega (arith, b.counts i); few = omega (arith, b.few) }
bounded_move number s (moves.Leave k) b = record { turn = b.turn; counts = λ i. omega (arith, b.counts i); few = omega (arith, b.few) }
bounded_move number s (moves.Sleep k until) b = record { turn = b.turn; counts = λ i. omega (arith, b.counts i); few = omega (arith, b.few) }
bounded_move number s (moves.Done k) b = record { turn = b.turn; counts = λ i. omega (arith, b.counts i); few = omega (arith, b.few) }
bounded_move number s (moves.Run k) b = record { turn = b.turn; counts = λ i. omega (arith, b.counts i); few = omega (arith, b.few) }
bounded_move number s moves.Idle b = record { turn = b.turn; counts = λ i. omega (arith, b.counts i); few = omega (arith, b.few) }

pub bounded_after : (number : ℕ) (s : Standing) (l : JournalLine) → LineFits l → Bounded number s → Bounded (number + 1) (after s l)
bounded_after number s Heading fits b = record { turn = b.turn; counts = λ i. omega (arith, b.counts i); few = omega (arith, b.few) }
bounded_after number s (Instance name) fits b = record { turn = b.turn; counts = λ i. omega (arith, b.counts i, push_zero s.waited i); few = omega (arith, b.few) }
bounded_after number s (Turn turn) fits b = record { turn = omega arith; counts = λ i. omega (arith, b.counts i); few = omega (arith, b.few) }
bounded_after number s (End last) fits b = record { turn = b.turn; counts = λ i. omega (arith, b.counts i); few = omega (arith, b.few) }
bounded_after number s (Moved m) fits b = bounded_move number s m b
