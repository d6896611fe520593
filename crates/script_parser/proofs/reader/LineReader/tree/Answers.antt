use Rattle.std.proofs.Common.{refl, inl}
use Rattle.script_parser.proofs.reader.LineReader.tree.Goals as goal

pub returns-in-Err-clause-fault : goal.returns-in-Err-clause-fault
returns-in-Err-clause-fault c =
    c.of_line.ensures c.args.self.now.lines.now (λ is.
    (c.args.found.now.line.now.number, record { line = c.args.found.now.line.now; found = c.requires; number_is = refl; deep = inl (c.in-Err.ensures.too_deep.0 (cc)) }))
