use Rattle.std.proofs.Common.{◌≡◌, ◌∙◌, rules}
use Rattle.std.specs.Prelude.{IsErr}
use Rattle.run_commands.specs.Report.{first_lines, scripts_line}
use Rattle.run_commands.proofs.SampleText.{writes_first, writes_then}
use Rattle.run_commands.proofs.sample_command.write_sample.Goals as goal

pub returns-in_err-write-clause-written : goal.returns-in_err-write-clause-written
returns-in_err-write-clause-written g c =
    let failed : IsErr c.from_residual-in_err-write.result = search (rules, c.from_residual-in_err-write.ensures) in
    let line : c.as_bytes.result.now ≡ scripts_line c.args.workers = c.as_bytes.ensures.value ∙ c.in_ok-line.ensures in
    let scripts = rw line at c.in_err-write.ensures.written in
    writes_first (Unit {0}) (Unit {0}) (scripts_line c.args.workers) (first_lines 3 c.args.report.now) _ c.from_residual-in_err-write.result _ _ failed scripts

pub returns-clause-written : goal.returns-clause-written
returns-clause-written g c =
    let line : c.as_bytes.result.now ≡ scripts_line c.args.workers = c.as_bytes.ensures.value ∙ c.in_ok-line.ensures in
    let scripts = rw line at c.in_ok-write.ensures.written in
    writes_then (Unit {0}) (scripts_line c.args.workers) (first_lines 3 c.args.report.now) c.write_lines.result _ _ _ scripts c.write_lines.ensures.written
