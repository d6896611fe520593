use Rattle.std.proofs.Common.{◌<◌, subst}
use Rattle.code_lower.specs.Lowered.{State}
use Rattle.code_lower.proofs.Globals.{found_within}
use Rattle.code_lower.proofs.writer.Writer.variable_kind.Goals as goal

pub returns : goal.returns
returns c =
    let P : State → Type 0 = λ s. c.args.number < s.known.variables in
    subst P c.self.view_is (found_within _ _ _ c.in_ok-variable.variable (rw (c.deref.ensures.value, c.from.ensures) at c.get-found.ensures.lookup.3) c.in_ok-variable.ensures.ok_part)
