-- The scripts so far are resolved, and on no circle.
use Rattle.std.proofs.Common.{ℕ, ◌≡◌, ◌≤◌, ◌<◌, false, slice_index_or}
use Rattle.papy_base.specs.Circles.{is_marked}
use Rattle.script_linker.specs.declared.set.SourceFile.{SourceFile}
use Rattle.script_linker.specs.Link.{IsResolved}
use Rattle.script_linker.proofs.linker.judge_scripts.Given as goal

abbrev pub invariant-loop-number : goal.invariant-loop-number
invariant-loop-number l = record {
  resolved : (n : ℕ) (file : SourceFile) → 6 ≤ n → n < l.number → IsResolved l.files n (slice_index_or l.files n file).script;
  rooted : (n : ℕ) → 6 ≤ n → n < l.number → is_marked l.circles n ≡ false;
}
