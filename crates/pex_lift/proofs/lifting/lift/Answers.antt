use Rattle.pex_values.specs.Plain.{plain}
use Rattle.pex_values.specs.declared.values.Pex.{Pex}
use Rattle.pex_alike.specs.SameCode.{SameCode, SameEach}
use Rattle.pex_alike.proofs.Lists.{each_to_map}
use Rattle.pex_lift.proofs.lifting.lift.Goals as goal

pub returns-then-same-clause-lifted : goal.returns-then-same-clause-lifted
returns-then-same-clause-lifted c =
    let alike : SameEach (λ (file value : Pex). SameCode (plain file) (plain value)) c.deref-3.result.now c.deref-4.result.now = c.have_same_code-same.ensures.0 c.if-same.true in
    let same = rw (c.deref-3.ensures.value, c.deref-4.ensures.value) at alike in
    record {
      values = c.in_ok-values.values.items;
      compiled = rw c.deref-2.ensures.value at c.in_ok-values.ensures;
      same = each_to_map SameCode plain plain c.args.files.now.items c.in_ok-values.values.items same;
    }
