-- Which journals are legal.
use Rattle.std.proofs.Common.{◌≡◌, ℕ, ◌+◌, ◌≤◌, List, [], ◌∷◌, ◌++◌, length, append_assoc, length-append, append-nil, refl, sym, ap, subst, ◌∙◌, arith, suc, true}
use Rattle.std.proofs.lemmas.Bool.{false≢true}
use Rattle.run_replay.specs.declared.book.Stage.TheVariants as stages
use Rattle.run_replay.specs.declared.fault.JournalRule.{JournalRule}
use Rattle.run_replay.specs.declared.fault.JournalRule.TheVariants as rules
use Rattle.run_replay.specs.declared.lock_move.LockMove.{LockMove}
use Rattle.run_replay.specs.declared.lock_move.LockMove.TheVariants as moves
use Rattle.run_replay.specs.Lines.{JournalLine, Heading, Instance, Turn, End, Moved, line_text, LineFits, ended_line, journal_text}
use Rattle.run_replay.specs.Book.{Standing, start, may_stand, is_allowed, moved, after, Leave, AreLegal, IsLegal, BreaksHere, FirstBreak}
use Rattle.run_replay.specs.declared.fault.JournalFault.{JournalFault}
use Rattle.run_replay.specs.declared.fault.JournalFault.TheVariants as faults
use Rattle.run_replay.specs.Journal.{IsWhole, FaultIs, IsRefused}
use Rattle.run_replay.specs.Outline.{AllFit, AreLines, turns_in, names_in}
use Rattle.run_replay.proofs.SplitLemmas.{one_split}
use Rattle.run_replay.proofs.LineLemmas.{text_lacks, same_line}

no_text : (line : JournalLine) (behind : List ℕ) → [] ≡ ended_line line ++ behind → ⊥
no_text line behind e =
    let lengths : 0 ≡ length (line_text line) + 1 + length behind = ap length (e ∙ append_assoc (line_text line) (10 ∷ []) behind) ∙ length-append (line_text line) (10 ∷ behind) ∙ omega arith in
    omega arith

record Same (l m : JournalLine) (a b : List ℕ) : Type 0 where
  line : l ≡ m
  rest : a ≡ b

-- a text begins with one line
same_first : (l m : JournalLine) (a b : List ℕ) → LineFits l → LineFits m → ended_line l ++ a ≡ ended_line m ++ b → Same l m a b
same_first l m a b fits_l fits_m e =
    let whole : line_text l ++ 10 ∷ a ≡ line_text m ++ 10 ∷ b = sym (append_assoc (line_text l) (10 ∷ []) a) ∙ e ∙ append_assoc (line_text m) (10 ∷ []) b in
    let split = one_split 10 (line_text l) (line_text m) (10 ∷ a) (10 ∷ b) (text_lacks l fits_l) (text_lacks m fits_m) refl refl whole in
    let tails : 10 ∷ a ≡ 10 ∷ b = split.1 in
    record { line = same_line l m fits_l fits_m split.0; rest = cc }

-- a text is one list of lines
same_lines : (ls ms : List JournalLine) → AllFit ls → AllFit ms → journal_text ls ≡ journal_text ms → ls ≡ ms
same_lines [] [] fl fm e = refl
same_lines [] (m ∷ ms) fl fm e = absurd (no_text m (journal_text ms) e)
same_lines (l ∷ ls) [] fl fm e = absurd (no_text l (journal_text ls) (sym e))
same_lines (l ∷ ls) (m ∷ ms) fl fm e =
    let s = same_first l m (journal_text ls) (journal_text ms) fl.0 fm.0 e in
    let rest : ls ≡ ms = same_lines ls ms fl.1 fm.1 s.rest in
    let first : l ≡ m = s.line in
    cc

all_fit : (s end : Standing) (lines : List JournalLine) → Leave s lines end → AllFit lines
all_fit s end [] leave = tt
all_fit s end (l ∷ lines) leave = (leave.0, all_fit (after s l) end lines leave.3)

pub leaves : (bytes : List ℕ) (end : Standing) (lines : List JournalLine) → IsWhole bytes end → AreLines bytes lines → Leave start lines end
leaves bytes end lines whole are =
    let same : whole.lines ≡ lines = same_lines whole.lines lines (all_fit start end whole.lines whole.leave) are.fit (sym whole.text ∙ are.text) in
    subst (λ (ls : List JournalLine). Leave start ls end) same whole.leave

pub are_legal : (bytes : List ℕ) (end : Standing) (lines : List JournalLine) → IsWhole bytes end → AreLines bytes lines → AreLegal lines
are_legal bytes end lines whole are = record { end = end; leave = leaves bytes end lines whole are; ended = whole.ended }

pub is_legal : (bytes : List ℕ) (end : Standing) → length bytes ≤ 134217728 → IsWhole bytes end → IsLegal bytes
is_legal bytes end few whole = record { few = few; lines = whole.lines; text = whole.text; legal = record { end = end; leave = whole.leave; ended = whole.ended } }

ends_here : (s end : Standing) (lines : List JournalLine) (rest : List ℕ) (rule : JournalRule) → Leave s lines end → end.stage ≡ stages.Ended → rest ≡ journal_text lines → BreaksHere s rest rule → ⊥
ends_here s end [] rest rules.BadLine leave over is breaks = breaks.1 is (ap (λ (t : Standing). t.stage) (sym leave) ∙ over)
ends_here s end [] rest rules.BadMove leave over is breaks = no_text breaks.0 breaks.1 (sym is ∙ breaks.3)
ends_here s end (l ∷ lines) rest rules.BadLine leave over is breaks = false≢true (sym (breaks.0 l (journal_text lines) leave.0 is) ∙ leave.1)
ends_here s end (l ∷ lines) rest rules.BadMove leave over is breaks =
    let same = same_first breaks.0 l breaks.1 (journal_text lines) breaks.2 leave.0 (sym breaks.3 ∙ is) in
    false≢true (sym breaks.5 ∙ ap (is_allowed s) same.line ∙ leave.2)

-- what breaks a rule isn't legal
never_both : (s end at : Standing) (lines before : List JournalLine) (rest : List ℕ) (rule : JournalRule) → Leave s lines end → end.stage ≡ stages.Ended → Leave s before at → journal_text lines ≡ journal_text before ++ rest → BreaksHere at rest rule → ⊥
never_both s end at lines [] rest rule leave over until is breaks =
    ends_here s end lines rest rule leave over (sym is) (subst (λ (t : Standing). BreaksHere t rest rule) until breaks)
never_both s end at [] (m ∷ before) rest rule leave over until is breaks = no_text m (journal_text before ++ rest) (is ∙ append_assoc (ended_line m) (journal_text before) rest)
never_both s end at (l ∷ lines) (m ∷ before) rest rule leave over until is breaks =
    let same = same_first l m (journal_text lines) (journal_text before ++ rest) leave.0 until.0 (is ∙ append_assoc (ended_line m) (journal_text before) rest) in
    never_both (after s l) end at lines before rest rule leave.3 over (subst (λ (n : JournalLine). Leave (after s n) before at) (sym same.line) until.3) same.rest breaks

pub not_legal : (bytes : List ℕ) (number : ℕ) (rule : JournalRule) → FirstBreak bytes number rule → IsLegal bytes → ⊥
not_legal bytes number rule b legal =
    never_both start legal.legal.end b.standing legal.lines b.lines b.rest rule legal.legal.leave legal.legal.ended b.before (sym legal.text ∙ b.split) b.breaks

moved_turns : (s : Standing) (m : LockMove) → (moved s m).turns ≡ s.turns
moved_turns s (moves.Join k i) = refl
moved_turns s (moves.Take k i) = refl
moved_turns s (moves.Release k i) = refl
moved_turns s (moves.Free k) = refl
moved_turns s (moves.Leave k) = refl
moved_turns s (moves.Sleep k until) = refl
moved_turns s (moves.Done k) = refl
moved_turns s (moves.Run k) = refl
moved_turns s moves.Idle = refl

moved_names : (s : Standing) (m : LockMove) → (moved s m).names ≡ s.names
moved_names s (moves.Join k i) = refl
moved_names s (moves.Take k i) = refl
moved_names s (moves.Release k i) = refl
moved_names s (moves.Free k) = refl
moved_names s (moves.Leave k) = refl
moved_names s (moves.Sleep k until) = refl
moved_names s (moves.Done k) = refl
moved_names s (moves.Run k) = refl
moved_names s moves.Idle = refl

turns_after : (s end : Standing) (lines : List JournalLine) → Leave s lines end → end.turns ≡ s.turns + turns_in lines
turns_after s end [] leave = ap (λ (t : Standing). t.turns) leave ∙ omega arith
turns_after s end (Heading ∷ lines) leave = turns_after (after s Heading) end lines leave.3
turns_after s end (Instance name ∷ lines) leave = turns_after (after s (Instance name)) end lines leave.3
turns_after s end (Turn turn ∷ lines) leave = let rest = turns_after (after s (Turn turn)) end lines leave.3 in omega arith
turns_after s end (End turns ∷ lines) leave = turns_after (after s (End turns)) end lines leave.3
turns_after s end (Moved m ∷ lines) leave = turns_after (moved s m) end lines leave.3 ∙ ap (λ (n : ℕ). n + turns_in lines) (moved_turns s m)

names_after : (s end : Standing) (lines : List JournalLine) → Leave s lines end → end.names ≡ s.names ++ names_in lines
names_after s end [] leave = ap (λ (t : Standing). t.names) leave ∙ sym (append-nil s.names)
names_after s end (Heading ∷ lines) leave = names_after (after s Heading) end lines leave.3
names_after s end (Instance name ∷ lines) leave = names_after (after s (Instance name)) end lines leave.3 ∙ append_assoc s.names (name ∷ []) (names_in lines)
names_after s end (Turn turn ∷ lines) leave = names_after (after s (Turn turn)) end lines leave.3
names_after s end (End turns ∷ lines) leave = names_after (after s (End turns)) end lines leave.3
names_after s end (Moved m ∷ lines) leave = names_after (moved s m) end lines leave.3 ∙ ap (λ (ns : List (List ℕ)). ns ++ names_in lines) (moved_names s m)

pub turns_are : (bytes : List ℕ) (end : Standing) (lines : List JournalLine) → IsWhole bytes end → AreLines bytes lines → end.turns ≡ turns_in lines
turns_are bytes end lines whole are = let counted = turns_after start end lines (leaves bytes end lines whole are) in omega (arith, counted)

pub names_are : (bytes : List ℕ) (end : Standing) (lines : List JournalLine) → IsWhole bytes end → AreLines bytes lines → end.names ≡ names_in lines
names_are bytes end lines whole are = names_after start end lines (leaves bytes end lines whole are)

pub refused : (bytes : List ℕ) (fault : JournalFault) → FaultIs bytes fault → IsRefused bytes fault
refused bytes (faults.Broken line rule) broken = not_legal bytes line rule broken
refused bytes faults.OutOfMemory broken = tt

-- an allowed line breaks no rule
no_break : (s : Standing) (rest behind : List ℕ) (rule : JournalRule) (m : JournalLine) → BreaksHere s rest rule → rest ≡ ended_line m ++ behind → LineFits m → may_stand s m ≡ true → is_allowed s m ≡ true → ⊥
no_break s rest behind rules.BadLine m breaks is fits stands allowed = false≢true (sym (breaks.0 m behind fits is) ∙ stands)
no_break s rest behind rules.BadMove m breaks is fits stands allowed =
    let same = same_first breaks.0 m breaks.1 behind breaks.2 fits (sym breaks.3 ∙ is) in
    false≢true (sym breaks.5 ∙ ap (is_allowed s) same.line ∙ allowed)

same_rule : (s : Standing) (rest : List ℕ) (q r : JournalRule) → BreaksHere s rest q → BreaksHere s rest r → q ≡ r
same_rule s rest rules.BadLine rules.BadLine one other = refl
same_rule s rest rules.BadLine rules.BadMove one other = absurd (false≢true (sym (one.0 other.0 other.1 other.2 other.3) ∙ other.4))
same_rule s rest rules.BadMove rules.BadLine one other = absurd (false≢true (sym (other.0 one.0 one.1 one.2 one.3) ∙ one.4))
same_rule s rest rules.BadMove rules.BadMove one other = refl

record SameBreak (ls ms : List JournalLine) (q r : JournalRule) : Type 0 where
  count : length ls ≡ length ms
  rule : q ≡ r

same_break : (s a b : Standing) (ls ms : List JournalLine) (x y : List ℕ) (q r : JournalRule) → Leave s ls a → Leave s ms b → journal_text ls ++ x ≡ journal_text ms ++ y → BreaksHere a x q → BreaksHere b y r → SameBreak ls ms q r
same_break s a b [] [] x y q r to_a to_b is one other =
    let here : BreaksHere s x q = subst (λ (t : Standing). BreaksHere t x q) to_a one in
    let there : BreaksHere s x r = subst (λ (z : List ℕ). BreaksHere s z r) (sym is) (subst (λ (t : Standing). BreaksHere t y r) to_b other) in
    record { count = refl; rule = same_rule s x q r here there }
same_break s a b [] (m ∷ ms) x y q r to_a to_b is one other =
    absurd (no_break s x (journal_text ms ++ y) q m (subst (λ (t : Standing). BreaksHere t x q) to_a one) (is ∙ append_assoc (ended_line m) (journal_text ms) y) to_b.0 to_b.1 to_b.2)
same_break s a b (l ∷ ls) [] x y q r to_a to_b is one other =
    absurd (no_break s y (journal_text ls ++ x) r l (subst (λ (t : Standing). BreaksHere t y r) to_b other) (sym is ∙ append_assoc (ended_line l) (journal_text ls) x) to_a.0 to_a.1 to_a.2)
same_break s a b (l ∷ ls) (m ∷ ms) x y q r to_a to_b is one other =
    let whole : ended_line l ++ (journal_text ls ++ x) ≡ ended_line m ++ (journal_text ms ++ y) = sym (append_assoc (ended_line l) (journal_text ls) x) ∙ is ∙ append_assoc (ended_line m) (journal_text ms) y in
    let first = same_first l m (journal_text ls ++ x) (journal_text ms ++ y) to_a.0 to_b.0 whole in
    let rest = same_break (after s l) a b ls ms x y q r to_a.3 (subst (λ (n : JournalLine). Leave (after s n) ms b) (sym first.line) to_b.3) first.rest one other in
    record { count = ap suc rest.count; rule = rest.rule }

pub one_break : (bytes : List ℕ) (m n : ℕ) (q r : JournalRule) → FirstBreak bytes m q → FirstBreak bytes n r → (m ≡ n) × (q ≡ r)
one_break bytes m n q r one other =
    let same = same_break start one.standing other.standing one.lines other.lines one.rest other.rest q r one.before other.before (sym one.split ∙ other.split) one.breaks other.breaks in
    (omega (arith, one.number_is, other.number_is, same.count), same.rule)
