use Rattle.std.proofs.Common.{◌≡◌, ◌<◌, ◌≤◌, slice_index_or, subst, ⊎_elim, arith}
use Rattle.std.proofs.lemmas.Bool.{cases_lt}
use Rattle.script_linker.specs.Link.{declared_lines}
use Rattle.script_linker.specs.Lookup.{HasSmallScript}
use Rattle.script_linker.proofs.LinkLemmas.{IsFaultOn-at}
use Rattle.script_linker.proofs.linker.judge_members.Goals as goal

pub loop-number-preserved : goal.loop-number-preserved
loop-number-preserved c = λ n file behind below.
    let scripts = c.args.scripts.now in
    let number = c.loop-number.number in
    let few = rw c.in_default.is at c.in_ok-found.ensures.few in
    ⊎_elim
    (λ (l : n < number). c.loop-number.invariant n file behind l)
    (λ (g : number ≤ n).
    let same : number ≡ n = omega arith in
    subst (λ k. HasSmallScript (slice_index_or scripts k file)) same (few file))
    (cases_lt n number)

pub returns-in-Some : goal.returns-in-Some
returns-in-Some c =
    let line = rw c.in-Some.is at c.in_ok-found.ensures.line in
    record {
      few = tt;
      broken = IsFaultOn-at (declared_lines c.args.declared.now) c.args.scripts.now c.loop-number.number c.in-Some.found.line c.in-Some.found.rule c.fault.result c.fault.ensures (omega arith) (omega arith) line;
    }
