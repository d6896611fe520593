use Rattle.std.proofs.Common.{◌≡◌, ◌∙◌, ap, rules}
use Rattle.std.specs.Io.BufRead.{drop_through, take_through}
use Rattle.std.specs.Prelude.{IsErr}
use Rattle.run_commands.specs.Report.{first_lines}
use Rattle.run_commands.proofs.SampleText.{writes_first, writes_last, writes_then}
use Rattle.run_commands.proofs.sample_command.write_lines.Goals as goal

pub returns-in_err-write-clause-written : goal.returns-in_err-write-clause-written
returns-in_err-write-clause-written g c =
    let text = c.args.report.now in
    let failed : IsErr c.from_residual.result = search (rules, c.from_residual.ensures) in
    let turns = rw c.split_line.ensures.line at c.in_err-write.ensures.written in
    writes_first (Unit {0}) (Unit {0}) (take_through 10 text) (first_lines 2 (drop_through 10 text)) _ c.from_residual.result _ _ failed turns

pub returns-in_err-write-2-clause-written : goal.returns-in_err-write-2-clause-written
returns-in_err-write-2-clause-written g c =
    let text = c.args.report.now in
    let failed : IsErr c.from_residual-in_err-write-2.result = search (rules, c.from_residual-in_err-write-2.ensures) in
    let turns = rw c.split_line.ensures.line at c.in_ok-write.ensures.written in
    let second : c.split_line-2.result.0.now ≡ take_through 10 (drop_through 10 text) = c.split_line-2.ensures.line ∙ ap (take_through 10) c.split_line.ensures.behind in
    let hub = rw second at c.in_err-write-2.ensures.written in
    writes_then (Unit {0}) (take_through 10 text) (first_lines 2 (drop_through 10 text)) c.from_residual-in_err-write-2.result _ _ _ turns
    (writes_first (Unit {0}) (Unit {0}) (take_through 10 (drop_through 10 text)) (first_lines 1 (drop_through 10 (drop_through 10 text))) _ c.from_residual-in_err-write-2.result _ _ failed hub)

pub returns-clause-written : goal.returns-clause-written
returns-clause-written g c =
    let text = c.args.report.now in
    let turns = rw c.split_line.ensures.line at c.in_ok-write.ensures.written in
    let second : c.split_line-2.result.0.now ≡ take_through 10 (drop_through 10 text) = c.split_line-2.ensures.line ∙ ap (take_through 10) c.split_line.ensures.behind in
    let hub = rw second at c.in_ok-write-2.ensures.written in
    let behind : c.split_line-2.result.1.now ≡ drop_through 10 (drop_through 10 text) = c.split_line-2.ensures.behind ∙ ap (drop_through 10) c.split_line.ensures.behind in
    let third : c.split_line-3.result.0.now ≡ take_through 10 (drop_through 10 (drop_through 10 text)) = c.split_line-3.ensures.line ∙ ap (take_through 10) behind in
    let total = rw third at c.write-3.ensures.written in
    writes_then (Unit {0}) (take_through 10 text) (first_lines 2 (drop_through 10 text)) c.write-3.result _ _ _ turns
    (writes_then (Unit {0}) (take_through 10 (drop_through 10 text)) (first_lines 1 (drop_through 10 (drop_through 10 text))) c.write-3.result _ _ _ hub
    (writes_last (Unit {0}) (take_through 10 (drop_through 10 (drop_through 10 text))) c.write-3.result _ _ total))
