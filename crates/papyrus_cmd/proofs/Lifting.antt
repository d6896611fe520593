-- How `lift` ends.
use Rattle.std.proofs.Common.{◌≡◌, ◌≢◌, ◌<◌, ◌∙◌, arith, inl, inr, ℕ, List, refl, map, length, subst, ◌+◌}
use Rattle.std.specs.Prelude.{Option, None, Some, Ok, Err, IfSome, All}
use Rattle.std.proofs.lemmas.List.{length-map}
use Rattle.std.specs.declared.alloc.Global.{Global}
use Rattle.std.specs.declared.vec.Vec.{Vec}
use Rattle.papy_io.specs.Files.{Files}
use Rattle.papy_io.specs.declared.fault.IoFault.{IoFault}
use Rattle.papy_io.specs.declared.fault.IoFault.TheVariants as io
use Rattle.pex_values.specs.Plain.{PlainPex, plain}
use Rattle.pex_values.specs.declared.values.Pex.{Pex}
use Rattle.pex_verify.specs.Files.{IsFile}
use Rattle.command_files.specs.declared.ending.Ending.{Ending}
use Rattle.command_files.specs.declared.ending.Ending.TheVariants.{Done, OutOfMemory, Usage, ReadFault, WriteFault, Refused, NotBuilt}
use Rattle.command_files.specs.Ending.{CountsReads, CountsWrites, IsWordBelow, MissesScript, write_ending}
use Rattle.command_files.specs.Held.{AreHeld}
use Rattle.command_files.specs.Outputs.{EndsUnprinted}
use Rattle.run_commands.specs.Program.{AreSpelled, EndsOnSet}
use Rattle.papyrus_cmd.specs.Answers.{LiftAnswersTo}
use Rattle.papyrus_cmd.specs.Lift.{HaveSources, LiftLeaves, Lifts, MayLift}

-- an ending before any file is written
abbrev IsEarly : Ending → Type 0
IsEarly OutOfMemory = Unit {0}
IsEarly (ReadFault word) = Unit {0}
IsEarly (Refused word place rule) = Unit {0}
IsEarly Done = ⊥
IsEarly Usage = ⊥
IsEarly WriteFault = ⊥
IsEarly NotBuilt = ⊥

pub early_leaves : (names : List (List ℕ)) (ending : Ending) (old new : Option Files) → IsEarly ending → new ≡ old → LiftLeaves names ending old new
early_leaves names OutOfMemory old new early same = inl same
early_leaves names (ReadFault word) old new early same = same
early_leaves names (Refused word place rule) old new early same = same
early_leaves names Done old new early same = absurd early
early_leaves names Usage old new early same = absurd early
early_leaves names WriteFault old new early same = absurd early
early_leaves names NotBuilt old new early same = absurd early

pub early_writes : (ending : Ending) (before now : ℕ) → IsEarly ending → now ≡ before → CountsWrites ending before now
early_writes OutOfMemory before now early same = same
early_writes (ReadFault word) before now early same = same
early_writes (Refused word place rule) before now early same = same
early_writes Done before now early same = absurd early
early_writes Usage before now early same = absurd early
early_writes WriteFault before now early same = absurd early
early_writes NotBuilt before now early same = absurd early

pub early_usage : (ending : Ending) → IsEarly ending → ending ≢ Usage
early_usage ending early = λ is. subst IsEarly is early

-- a write that failed or found no memory
pub faulted_leaves : (names : List (List ℕ)) (fault : IoFault) (old new : Option Files) → MayLift names old new → LiftLeaves names (write_ending fault) old new
faulted_leaves names io.Failed old new may = may
faulted_leaves names io.OutOfMemory old new may = may

-- ---- files that were not read, or may not run together

pub set_early : (names : List (List ℕ)) (holds : Option Files) (ending : Ending) → EndsOnSet 1 names holds ending → IsEarly ending
set_early names holds OutOfMemory ends = tt
set_early names holds (ReadFault word) ends = tt
set_early names holds (Refused word place rule) ends = tt
set_early names holds Done ends = ends
set_early names holds Usage ends = ends
set_early names holds WriteFault ends = ends
set_early names holds NotBuilt ends = ends

pub set_output : (names : List (List ℕ)) (holds : Option Files) (ending : Ending) → EndsOnSet 1 names holds ending → EndsUnprinted (LiftAnswersTo names) holds ending
set_output names None (Refused word place rule) ends = tt
set_output names (Some files) (Refused word place rule) ends = (inl ends, refl)
set_output names holds OutOfMemory ends = tt
set_output names holds (ReadFault word) ends = tt
set_output names holds Done ends = absurd ends
set_output names holds Usage ends = absurd ends
set_output names holds WriteFault ends = tt
set_output names holds NotBuilt ends = absurd ends

-- ---- files without sources

pub unlifted_early : (files : List PlainPex) (ending : Ending) → Lifts files (Err ending) → IsEarly ending
unlifted_early files OutOfMemory lifts = tt
unlifted_early files (Refused word place rule) lifts = tt
unlifted_early files (ReadFault word) lifts = tt
unlifted_early files Done lifts = lifts
unlifted_early files Usage lifts = lifts
unlifted_early files WriteFault lifts = lifts
unlifted_early files NotBuilt lifts = lifts

pub unlifted_output : (names : List (List ℕ)) (holds : Option Files) (files : List PlainPex) (ending : Ending) → IfSome holds (AreHeld names) → Lifts files (Err ending) → EndsUnprinted (LiftAnswersTo names) holds ending
unlifted_output names None files (Refused word place rule) held lifts = tt
unlifted_output names (Some told) files (Refused word place rule) held lifts = (inr (lifts, held), refl)
unlifted_output names holds files OutOfMemory held lifts = tt
unlifted_output names holds files (ReadFault word) held lifts = tt
unlifted_output names holds files Done held lifts = absurd lifts
unlifted_output names holds files Usage held lifts = absurd lifts
unlifted_output names holds files WriteFault held lifts = tt
unlifted_output names holds files NotBuilt held lifts = absurd lifts

pub unlifted_word : (count : ℕ) (files : List PlainPex) (ending : Ending) → 0 < count → Lifts files (Err ending) → IsWordBelow (count + 1) ending
unlifted_word count files (Refused word place rule) some lifts = omega (arith, lifts.word_is)
unlifted_word count files (ReadFault word) some lifts = absurd lifts
unlifted_word count files OutOfMemory some lifts = tt
unlifted_word count files Done some lifts = tt
unlifted_word count files Usage some lifts = tt
unlifted_word count files WriteFault some lifts = tt
unlifted_word count files NotBuilt some lifts = tt

pub unlifted_misses : (names : List (List ℕ)) (files : List PlainPex) (ending : Ending) (missed : Option (List ℕ)) → Lifts files (Err ending) → MissesScript names ending missed
unlifted_misses names files (ReadFault word) missed lifts = absurd lifts
unlifted_misses names files (Refused word place rule) missed lifts = tt
unlifted_misses names files OutOfMemory missed lifts = tt
unlifted_misses names files Done missed lifts = tt
unlifted_misses names files Usage missed lifts = tt
unlifted_misses names files WriteFault missed lifts = tt
unlifted_misses names files NotBuilt missed lifts = tt

pub unlifted_reads : (files : List PlainPex) (ending : Ending) (before now : ℕ) → Lifts files (Err ending) → now ≡ before → CountsReads ending before now
unlifted_reads files (ReadFault word) before now lifts same = absurd lifts
unlifted_reads files (Refused word place rule) before now lifts same = same
unlifted_reads files OutOfMemory before now lifts same = same
unlifted_reads files Done before now lifts same = same
unlifted_reads files Usage before now lifts same = same
unlifted_reads files WriteFault before now lifts same = same
unlifted_reads files NotBuilt before now lifts same = same

-- ---- sources

pub have_sources : (names : List (List ℕ)) (holds : Option Files) (values : List Pex) (texts : Vec (List ℕ) Global) → All IsFile values → IfSome holds (AreSpelled names values) → length values ≡ length names → Lifts (map plain values) (Ok texts) →
    HaveSources names holds texts.items
have_sources names holds values texts valid spelled counted lifts = record {
  values = values;
  valid = valid;
  spelled = spelled;
  value_each = counted;
  one_each = lifts.1 ∙ length-map values plain ∙ counted;
  lifted = lifts.0;
}
