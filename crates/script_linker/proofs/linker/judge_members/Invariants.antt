use Rattle.std.proofs.Common.{ℕ, ◌≤◌, ◌<◌, slice_index_or}
use Rattle.script_linker.specs.declared.set.SourceFile.{SourceFile}
use Rattle.script_linker.specs.Lookup.{HasSmallScript}
use Rattle.script_linker.proofs.linker.judge_members.Given as goal

abbrev pub invariant-loop-number : goal.invariant-loop-number
invariant-loop-number l = (n : ℕ) (file : SourceFile) → 6 ≤ n → n < l.number → HasSmallScript (slice_index_or l.scripts n file)
