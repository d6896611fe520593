-- How a command ends that ran a scene, and what it has written then.
use Rattle.std.proofs.Common.{arith, ◌≡◌, ◌≢◌, ◌<◌, ◌≤◌, ℕ, List, [], ◌∷◌, ◌++◌, length, take, append-nil, append_assoc, sym, ap, ◌∙◌, refl, subst, inl, inr}
use Rattle.std.proofs.Math.Seq.{take-append_seam}
use Rattle.std.specs.Prelude.{Option, None, Some, IfSome}
use Rattle.core_tree.specs.declared.scene.Scene.{Scene}
use Rattle.core_tree.specs.declared.scene_tree.SceneTree.{SceneTree}
use Rattle.core_tree.specs.declared.scene_tree.TurnOrder.TheVariants as orders
use Rattle.papy_io.specs.Files.{Files}
use Rattle.command_files.specs.declared.compile_fault.CompileFault.{CompileFault}
use Rattle.command_files.specs.declared.compile_fault.CompileFault.TheVariants as compile
use Rattle.command_files.specs.declared.ending.Ending.{Ending}
use Rattle.command_files.specs.declared.ending.Ending.TheVariants.{Done, OutOfMemory, Usage, ReadFault, WriteFault, Refused, NotBuilt}
use Rattle.command_files.specs.declared.refusal.Place.{Place}
use Rattle.command_files.specs.declared.refusal.Rule.{Rule}
use Rattle.command_files.specs.Ending.{CountsReads, CountsWrites, IsWordBelow, MissesScript, compile_ending}
use Rattle.command_files.specs.Outputs.{IsPart, Outputs}
use Rattle.papy_io.proofs.Appending.{appends_nothing}
use Rattle.scene_binder.specs.Kept.{IsOfTree}
use Rattle.scene_runner.specs.Report.{IsClosing, IsReport, Reports, turns_line}
use Rattle.stack_machine.specs.Machine.{CountsFault, HasEnded, MachineView}
use Rattle.papy_io.specs.Sink.{AppendsSome}
use Rattle.stack_machine.specs.declared.status.TurnFault.{TurnFault}
use Rattle.stack_machine.specs.declared.status.TurnFault.TheVariants as turn
use Rattle.run_commands.specs.Play.{IsStarted, Plays, PlaysSet, RefusesScene, turns_ending}
use Rattle.run_commands.specs.Report.{IsReportOf, IsReportWithin, WritesReport}

-- ---- the turns of a run

pub turns_count : (fault : TurnFault) (before now : ℕ) → CountsFault fault before now → CountsWrites (turns_ending fault) before now
turns_count turn.WriteFault before now counts = counts
turns_count turn.OutOfMemory before now counts = counts

pub turns_play : (tree : SceneTree) (named : ℕ) (fault : TurnFault) (before now : Option (List ℕ)) → AppendsSome before now → Plays tree named (turns_ending fault) before now
turns_play tree named turn.WriteFault before now appends = appends
turns_play tree named turn.OutOfMemory before now appends = appends

-- the machine of a bound scene
pub machine_starts : (tree : SceneTree) (count : ℕ) (scene : Scene) (machine : MachineView) → IsOfTree tree count scene → machine.scene ≡ scene → machine.turns ≡ 0 → machine.fault ≡ None → IsStarted tree machine
machine_starts tree count scene machine kept same turns fault = record { count = count; kept = subst (IsOfTree tree count) (sym same) kept; no_turns = turns; no_fault = fault }

-- in another order than the round one a run ends after all turns of its scene
all-turns : (tree : SceneTree) (machine : MachineView) → machine.scene.turns ≡ tree.turns → machine.scene.order ≡ tree.order → HasEnded machine → machine.turns ≤ machine.scene.turns →
    tree.order ≢ orders.Round → machine.turns ≡ tree.turns
all-turns tree machine turns order (inl done) within other = omega arith
all-turns tree machine turns order (inr nothing) within other = absurd (other (sym order ∙ nothing.order))

-- the machine of a scene after its run
pub run_reports : (tree : SceneTree) (first machine : MachineView) (text : List ℕ) → IsStarted tree first → machine.scene ≡ first.scene → HasEnded machine → machine.turns ≤ machine.scene.turns → IsReport machine.turns text → IsReportOf tree text
run_reports tree first machine text started same ended within report =
    let turns : machine.scene.turns ≡ tree.turns = ap (λ (s : Scene). s.turns) same ∙ started.kept.turns in
    let order : machine.scene.order ≡ tree.order = ap (λ (s : Scene). s.order) same ∙ started.kept.order in
    let few : machine.turns ≤ tree.turns = omega arith in
    record { turns = machine.turns; within = few; whole = all-turns tree machine turns order ended within; report = report }

pub run_writes : (tree : SceneTree) (first machine : MachineView) (before now : Option (List ℕ)) → IsStarted tree first → machine.scene ≡ first.scene → HasEnded machine →
    machine.turns ≤ machine.scene.turns → Reports machine.turns before now → WritesReport tree before now
run_writes tree first machine before now started same ended within reports =
    record { text = reports.text; report = run_reports tree first machine reports.text started same ended within reports.report; appended = reports.appended }

pub run_turns : (tree : SceneTree) (first machine : MachineView) (before now : Option (List ℕ)) (started : IsStarted tree first) (same : machine.scene ≡ first.scene) (ended : HasEnded machine)
    (within : machine.turns ≤ machine.scene.turns) (reports : Reports machine.turns before now) → (run_writes tree first machine before now started same ended within reports).report.turns ≡ machine.turns
unfolding run_writes run_reports
run_turns tree first machine before now started same ended within reports = refl

-- ---- a set of scripts

pub set_plays : (tree : SceneTree) (named : ℕ) (ending : Ending) (before now : Option (List ℕ)) → Plays tree named ending before now → PlaysSet tree named ending before now
set_plays tree named Done before now plays = plays
set_plays tree named OutOfMemory before now plays = plays
set_plays tree named WriteFault before now plays = plays
set_plays tree named (Refused word place rule) before now plays = plays
set_plays tree named NotBuilt before now plays = absurd plays
set_plays tree named Usage before now plays = absurd plays
set_plays tree named (ReadFault word) before now plays = absurd plays

pub unbuilt_plays : (tree : SceneTree) (named : ℕ) (fault : CompileFault) (written : Option (List ℕ)) → PlaysSet tree named (compile_ending fault) written written
unbuilt_plays tree named compile.NotBuilt written = refl
unbuilt_plays tree named compile.OutOfMemory written = appends_nothing written written refl

pub unbuilt_writes : (fault : CompileFault) (count : ℕ) → CountsWrites (compile_ending fault) count count
unbuilt_writes compile.NotBuilt count = refl
unbuilt_writes compile.OutOfMemory count = refl

-- ---- what a run doesn't do

pub run_reads : (tree : SceneTree) (named : ℕ) (ending : Ending) (written written' : Option (List ℕ)) (before now : ℕ) → PlaysSet tree named ending written written' → now ≡ before → CountsReads ending before now
run_reads tree named Done written written' before now plays same = same
run_reads tree named OutOfMemory written written' before now plays same = same
run_reads tree named WriteFault written written' before now plays same = same
run_reads tree named (Refused word place rule) written written' before now plays same = same
run_reads tree named NotBuilt written written' before now plays same = same
run_reads tree named Usage written written' before now plays same = same
run_reads tree named (ReadFault word) written written' before now plays same = absurd plays

pub run_misses : (tree : SceneTree) (names : List (List ℕ)) (named : ℕ) (ending : Ending) (written written' missed : Option (List ℕ)) → PlaysSet tree named ending written written' → MissesScript names ending missed
run_misses tree names named Done written written' missed plays = tt
run_misses tree names named OutOfMemory written written' missed plays = tt
run_misses tree names named WriteFault written written' missed plays = tt
run_misses tree names named (Refused word place rule) written written' missed plays = tt
run_misses tree names named NotBuilt written written' missed plays = tt
run_misses tree names named Usage written written' missed plays = tt
run_misses tree names named (ReadFault word) written written' missed plays = absurd plays

pub run_word : (tree : SceneTree) (count named : ℕ) (ending : Ending) (written written' : Option (List ℕ)) → named < count → PlaysSet tree named ending written written' → IsWordBelow count ending
run_word tree count named Done written written' within plays = tt
run_word tree count named OutOfMemory written written' within plays = tt
run_word tree count named WriteFault written written' within plays = tt
run_word tree count named (Refused word place rule) written written' within plays = omega (arith, plays.0.word_is)
run_word tree count named NotBuilt written written' within plays = tt
run_word tree count named Usage written written' within plays = tt
run_word tree count named (ReadFault word) written written' within plays = absurd plays

pub run_is_no_usage : (tree : SceneTree) (named : ℕ) (ending : Ending) (written written' : Option (List ℕ)) → PlaysSet tree named ending written written' → ending ≢ Usage
run_is_no_usage tree named Done written written' plays = λ is. cc
run_is_no_usage tree named OutOfMemory written written' plays = λ is. cc
run_is_no_usage tree named WriteFault written written' plays = λ is. cc
run_is_no_usage tree named (Refused word place rule) written written' plays = λ is. cc
run_is_no_usage tree named NotBuilt written written' plays = λ is. cc
run_is_no_usage tree named Usage written written' plays = λ is. plays
run_is_no_usage tree named (ReadFault word) written written' plays = λ is. cc

-- ---- what a run has written

-- how a command ends whose files are held: it writes the report of at most so many turns, or its scene is refused
pub record AnswersRun (Ends : Files → Ending → List ℕ → Type 0) (most named : ℕ) (files : Files) : Type 0 where
  pub done : (text : List ℕ) → IsReportWithin most text → Ends files Done text
  pub refused : (word : ℕ) (place : Place) (rule : Rule) → RefusesScene named word place rule → Ends files (Refused word place rule) []

told : (P Q : Files → Type 0) (holds : Option Files) → ((files : Files) → P files → Q files) → IfSome holds P → IfSome holds Q
told P Q None implies is = tt
told P Q (Some files) implies is = implies files is

report-within : (tree : SceneTree) (most : ℕ) (text : List ℕ) → tree.turns ≤ most → IsReportOf tree text → IsReportWithin most text
report-within tree most text few report = record { turns = report.turns; within = omega (arith, report.within); report = report.report }

-- bytes that any report may begin with
report-behind : (most : ℕ) (bytes : List ℕ) → IsReportWithin most (bytes ++ 10 ∷ [] ++ turns_line 0)
report-behind most bytes =
    let closing : IsClosing 0 (turns_line 0) = record { rest = []; are_lines = inl refl; text_is = sym (append-nil (turns_line 0)) } in
    record { turns = 0; within = omega arith; report = record { lines = bytes ++ 10 ∷ []; closing = turns_line 0; are_lines = inr (bytes, refl); closes = closing; text_is = refl } }

part-of : (Ends : Files → Ending → List ℕ → Type 0) (most named : ℕ) (files : Files) (bytes : List ℕ) → AnswersRun Ends most named files → IsPart (Ends files) bytes
part-of Ends most named files bytes ends =
    let text : List ℕ = bytes ++ 10 ∷ [] ++ turns_line 0 in
    let whole : text ≡ bytes ++ (10 ∷ turns_line 0) = append_assoc bytes (10 ∷ []) (turns_line 0) in
    inr (text, length bytes, ends.done text (report-behind most bytes), sym (take-append_seam bytes (10 ∷ turns_line 0)) ∙ sym (ap (take (length bytes)) whole))

pub play_outputs : (Ends : Files → Ending → List ℕ → Type 0) (tree : SceneTree) (most named : ℕ) (holds : Option Files) (ending : Ending) (before now : Option (List ℕ)) → tree.turns ≤ most →
    IfSome holds (AnswersRun Ends most named) → Plays tree named ending before now → Outputs Ends holds ending before now
play_outputs Ends tree most named holds Done before now few run plays =
    (plays.text, plays.appended, told _ _ holds (λ files ends. ends.done plays.text (report-within tree most plays.text few plays.report)) run)
play_outputs Ends tree most named holds OutOfMemory before now few run plays =
    (plays.bytes, plays.appended, told _ _ holds (λ files ends. part-of Ends most named files plays.bytes ends) run)
play_outputs Ends tree most named holds WriteFault before now few run plays =
    (plays.bytes, plays.appended, told _ _ holds (λ files ends. part-of Ends most named files plays.bytes ends) run)
play_outputs Ends tree most named holds (Refused word place rule) before now few run plays =
    inl (plays.1, told _ _ holds (λ files ends. ends.refused word place rule plays.0) run)
play_outputs Ends tree most named holds NotBuilt before now few run plays = absurd plays
play_outputs Ends tree most named holds Usage before now few run plays = absurd plays
play_outputs Ends tree most named holds (ReadFault word) before now few run plays = absurd plays

pub set_outputs : (Ends : Files → Ending → List ℕ → Type 0) (tree : SceneTree) (most named : ℕ) (holds : Option Files) (ending : Ending) (before now : Option (List ℕ)) → tree.turns ≤ most →
    IfSome holds (AnswersRun Ends most named) → IfSome holds (λ files. Ends files NotBuilt []) → PlaysSet tree named ending before now → Outputs Ends holds ending before now
set_outputs Ends tree most named holds Done before now few run unbuilt plays = play_outputs Ends tree most named holds Done before now few run plays
set_outputs Ends tree most named holds OutOfMemory before now few run unbuilt plays = play_outputs Ends tree most named holds OutOfMemory before now few run plays
set_outputs Ends tree most named holds WriteFault before now few run unbuilt plays = play_outputs Ends tree most named holds WriteFault before now few run plays
set_outputs Ends tree most named holds (Refused word place rule) before now few run unbuilt plays =
    play_outputs Ends tree most named holds (Refused word place rule) before now few run plays
set_outputs Ends tree most named holds NotBuilt before now few run unbuilt plays = (plays, unbuilt)
set_outputs Ends tree most named holds Usage before now few run unbuilt plays = absurd plays
set_outputs Ends tree most named holds (ReadFault word) before now few run unbuilt plays = absurd plays
