use Rattle.std.proofs.Common.{rules}
use Rattle.pex_verify.specs.Judged.{IsJudged}
use Rattle.pex_verify.proofs.TypedInstructions.{typed}
use Rattle.pex_verify.proofs.instruction.load_instruction.Goals as goal

pub returns-clause-typed : goal.returns-clause-typed
returns-clause-typed c = λ final.
    let scope = c.args.scope.now in
    let instruction = c.args.instruction.now in
    let fixed = c.in_ok-fixed.fixed.items in
    let more = c.in_ok-more.more.items in
    let judged : IsJudged scope instruction fixed more = search rules in
    typed scope final.names final.outline final.scripts final.function final.agrees final.numbered final.stands instruction fixed more judged
