use Rattle.std.proofs.Common.{false, ◌≡◌, ◌<◌, ◌≤◌, slice_index_or, ⊎_elim, subst, arith}
use Rattle.std.proofs.lemmas.Bool.{cases_lt}
use Rattle.papy_base.specs.Circles.{is_marked}
use Rattle.script_parser.specs.Lines.{heading_lines}
use Rattle.script_linker.specs.Link.{IsResolved}
use Rattle.script_linker.proofs.LinkLemmas.{IsFaultOn-at}
use Rattle.script_linker.proofs.linker.judge_scripts.Goals as goal

pub loop-number-preserved : goal.loop-number-preserved
loop-number-preserved c =
    let files = c.args.files.now in
    let number = c.loop-number.number in
    record {
      resolved = λ n file behind below.
          ⊎_elim
          (λ (l : n < number). c.loop-number.invariant.resolved n file behind l)
          (λ (g : number ≤ n).
          let same : number ≡ n = omega arith in
          subst (λ k. IsResolved files k (slice_index_or files k file).script) same (c.in_default.ensures.resolved file))
          (cases_lt n number);
      rooted = λ n behind below.
          ⊎_elim
          (λ (l : n < number). c.loop-number.invariant.rooted n behind l)
          (λ (g : number ≤ n).
          let same : number ≡ n = omega arith in
          subst (λ k. is_marked c.args.circles.now k ≡ false) same c.in_default.ensures.rooted)
          (cases_lt n number);
    }

pub returns-in-Some : goal.returns-in-Some
returns-in-Some c =
    let line = rw c.in-Some.is at c.script_fault.ensures.line in
    record {
      resolved = tt;
      rooted = tt;
      broken = IsFaultOn-at (λ n. heading_lines) c.args.files.now c.loop-number.number c.in-Some.found.line c.in-Some.found.rule c.fault.result c.fault.ensures (omega arith) (omega arith) line;
    }

pub returns-clause-resolved : goal.returns-clause-resolved
returns-clause-resolved c = λ n file behind inside. c.loop-number.invariant.resolved n file behind (omega arith)

pub returns-clause-rooted : goal.returns-clause-rooted
returns-clause-rooted c = λ n behind inside. c.loop-number.invariant.rooted n behind (omega arith)
