use Rattle.std.proofs.Common.{map, ap, ◌∙◌, rules}
use Rattle.code_lower.specs.Lowered.{State, known_of}
use Rattle.code_lower.specs.Statements.{landed_always}
use Rattle.code_lower.proofs.Landed.{landed_always_code, landed_always_is, line_meant}
use Rattle.code_lower.proofs.writer.Writer.land_always.Goals as goal

pub returns : goal.returns
returns c =
    let i = c.self.inside in
    let s : State = record { code = map line_meant i.code.items; line = i.line; slots = i.slots; known = known_of i.set.now i.script.now } in
    landed_always_is s _ c.args.at c.args.line (landed_always_code i.code.items c.args.at c.len.result c.args.line (search rules) c.self.invariant) ∙ ap (λ (x : State). landed_always x c.args.at c.args.line) c.self.view_is
