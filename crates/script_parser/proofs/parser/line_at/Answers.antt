use Rattle.std.proofs.Common.{length, refl, ap, ◌∙◌, arith, inl}
use Rattle.std.proofs.lemmas.Option.{get_or_from_slice_get, slice_get_read}
use Rattle.script_lexer.specs.declared.line.Line.{Line}
use Rattle.script_parser.proofs.Standing.{number-stands}
use Rattle.script_parser.proofs.parser.line_at.Goals as goal

pub returns-clause-line : goal.returns-clause-line
returns-clause-line c =
    let lines = c.args.lines.now.lines.items in
    let here = c.index.result.now in
    inl (number-stands lines c.args.at here (slice_get_read lines (length lines) c.args.at here refl (omega (arith, c.args.lines.now.lines.ok.0)) c.index.ensures))

pub returns-clause-number : goal.returns-clause-number
returns-clause-number c = λ line is.
    ap (λ (l : Line). l.number) (c.index.ensures ∙ get_or_from_slice_get c.args.lines.now.lines.items c.args.at line c.index.result.now is)
