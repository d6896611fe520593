-- The journal of a run, turn by turn.
use Rattle.std.proofs.Common.{arith, ◌≡◌, ◌≤◌, ◌+◌, ◌∙◌, ℕ, suc, List, [], ◌∷◌, ◌++◌, length, map, sym, ap, subst, append_assoc, append-nil, length-append}
use Rattle.std.specs.Prelude.{Option}
use Rattle.std.proofs.lemmas.List.Concat.{flat_map-append}
use Rattle.core_tree.specs.declared.scene.Scene.{Scene}
use Rattle.core_tree.specs.declared.scene_tree.SceneTree.{SceneTree}
use Rattle.run_replay.specs.Lines.{JournalLine, Turn, Moved, ended_line, journal_text}
use Rattle.run_replay.specs.declared.lock_move.LockMove.{LockMove}
use Rattle.scene_binder.specs.Bound.{instance_name}
use Rattle.scene_binder.specs.Instances.{tree_name}
use Rattle.stack_machine.specs.Machine.{HasEnded, MachineView}
use Rattle.scene_runner.specs.Report.{Reports}
use Rattle.run_commands.specs.Journal.{IsJournalOf, NotesRun, NotesTurns, turn_lines}
use Rattle.run_commands.specs.Play.{IsStarted}
use Rattle.run_commands.proofs.RunEnds.{run_turns, run_writes}

-- ---- lines

pub noted_none : (turn : ℕ) (journal : List ℕ) → NotesTurns turn turn journal journal
noted_none turn journal = record { moves = []; count = omega arith; now_is = sym (append-nil journal) }

pub noted_one : (turn to : ℕ) (moves : List LockMove) (before now lines : List ℕ) → to ≡ turn + 1 → lines ≡ journal_text (Turn turn ∷ map Moved moves) → now ≡ before ++ lines → NotesTurns turn to before now
noted_one turn to moves before now lines one are is =
    let whole : Turn turn ∷ map Moved moves ≡ turn_lines turn (moves ∷ []) = sym (append-nil (Turn turn ∷ map Moved moves)) in
    record { moves = moves ∷ []; count = omega arith; now_is = is ∙ ap (λ (t : List ℕ). before ++ t) (are ∙ ap journal_text whole) }

-- the lines of turns behind others
lines-append : (from : ℕ) (first second : List (List LockMove)) → turn_lines from (first ++ second) ≡ turn_lines from first ++ turn_lines (from + length first) second
lines-append from [] second = let same : from ≡ from + 0 = omega arith in ap (λ (n : ℕ). turn_lines n second) same
lines-append from (moves ∷ first) second =
    let next : suc from + length first ≡ from + suc (length first) = omega arith in
    ap (λ (ls : List JournalLine). (Turn from ∷ map Moved moves) ++ ls) (lines-append (suc from) first second ∙ ap (λ (n : ℕ). turn_lines (suc from) first ++ turn_lines n second) next)
    ∙ sym (append_assoc (Turn from ∷ map Moved moves) (turn_lines (suc from) first) (turn_lines (from + suc (length first)) second))

text-append : (first second : List JournalLine) → journal_text (first ++ second) ≡ journal_text first ++ journal_text second
text-append first second = flat_map-append ended_line first second

pub noted_more : (from between to : ℕ) (first second third : List ℕ) → NotesTurns from between first second → NotesTurns between to second third → NotesTurns from to first third
noted_more from between to first second third a b =
    let counted : between ≡ from + length a.moves = a.count in
    let many : length (a.moves ++ b.moves) ≡ length a.moves + length b.moves = length-append a.moves b.moves in
    let lines : journal_text (turn_lines from (a.moves ++ b.moves)) ≡ journal_text (turn_lines from a.moves) ++ journal_text (turn_lines between b.moves) =
    ap journal_text (lines-append from a.moves b.moves ∙ ap (λ (n : ℕ). turn_lines from a.moves ++ turn_lines n b.moves) (sym counted)) ∙ text-append (turn_lines from a.moves) (turn_lines between b.moves) in
    record {
      moves = a.moves ++ b.moves;
      count = omega (arith, a.count, b.count, many);
      now_is = b.now_is ∙ ap (λ (t : List ℕ). t ++ journal_text (turn_lines between b.moves)) a.now_is
          ∙ append_assoc first (journal_text (turn_lines from a.moves)) (journal_text (turn_lines between b.moves)) ∙ ap (λ (t : List ℕ). first ++ t) (sym lines);
    }

-- ---- a run

pub run_noted : (tree : SceneTree) (first machine : MachineView) (journal : List ℕ) (before now : Option (List ℕ)) → IsStarted tree first → machine.scene ≡ first.scene → HasEnded machine → machine.turns ≤ machine.scene.turns →
    Reports machine.turns before now → IsJournalOf (map instance_name machine.scene.instances.items) machine.turns journal → NotesRun tree journal before now
run_noted tree first machine journal before now started same ended within reports is =
    let names : map instance_name machine.scene.instances.items ≡ map tree_name tree.instances.items =
    ap (λ (s : Scene). map instance_name s.instances.items) same ∙ started.kept.names in
    let named : IsJournalOf (map tree_name tree.instances.items) machine.turns journal = subst (λ ns. IsJournalOf ns machine.turns journal) names is in
    let turns = run_turns tree first machine before now started same ended within reports in
    record { writes = run_writes tree first machine before now started same ended within reports; journal_is = subst (λ (n : ℕ). IsJournalOf (map tree_name tree.instances.items) n journal) (sym turns) named }
