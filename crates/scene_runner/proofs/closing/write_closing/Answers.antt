use Rattle.std.proofs.Common.{◌≡◌, ◌∙◌, ap}
use Rattle.scene_runner.specs.Report.{turns_line}
use Rattle.stack_machine.proofs.Sinks.{lines_before, lines_more, some_behind_lines}
use Rattle.scene_runner.proofs.Appending.{closes_behind, turns_is_line, writes_some}
use Rattle.scene_runner.proofs.closing.write_closing.Goals as goal

pub write_line-requires : goal.write_line-requires
write_line-requires g c =
    let line : c.as_bytes.result.now ≡ turns_line c.args.machine.now.turns = c.as_bytes.ensures.value ∙ c.in_ok-turns.ensures ∙ ap turns_line c.turns_done.ensures in
    turns_is_line c.args.machine.now.turns c.as_bytes.result.now line

pub returns-in_err-write_instances-clause-appended : goal.returns-in_err-write_instances-clause-appended
returns-in_err-write_instances-clause-appended g c = some_behind_lines _ _ _ c.in_ok-write_line.ensures.appended c.in_err-write_instances.ensures.appended

pub returns-clause-appended : goal.returns-clause-appended
returns-clause-appended g c =
    let first = lines_more _ _ _ c.in_ok-write_line.ensures.appended c.in_ok-write_instances.ensures.appended in
    writes_some c.write_stacks.result _ _ (lines_before c.write_stacks.result _ _ _ first c.write_stacks.ensures.appended)

pub returns-clause-closes : goal.returns-clause-closes
returns-clause-closes g c =
    let line : c.as_bytes.result.now ≡ turns_line c.args.machine.now.turns = c.as_bytes.ensures.value ∙ c.in_ok-turns.ensures ∙ ap turns_line c.turns_done.ensures in
    let behind = lines_before c.write_stacks.result _ _ _ c.in_ok-write_instances.ensures.appended c.write_stacks.ensures.appended in
    closes_behind c.write_stacks.result c.args.machine.now.turns c.as_bytes.result.now _ _ _ line c.in_ok-write_line.ensures.written behind
