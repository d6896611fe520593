use Rattle.std.proofs.Common.{map}
use Rattle.script_parser.specs.Lines.{variable_line, property_line}
use Rattle.script_linker.proofs.FoundLemmas.{AreAmong-all, AreAmong-left, AreAmong-right, FindsAmong-then, FindsAmong-nothing}
use Rattle.script_linker.proofs.rules.judge_fields.Goals as goal

pub returns : goal.returns
returns c =
    let variables = map variable_line c.args.script.now.variables.items in
    let properties = map property_line c.args.script.now.properties.items in
    let first = rw c.as_slice-3.ensures.value at c.judge_names.ensures in
    let second = rw c.as_slice-4.ensures.value at c.judge_names-2.ensures in
    FindsAmong-then (AreAmong-right variables properties (AreAmong-all properties)) (FindsAmong-then (AreAmong-left variables properties (AreAmong-all variables)) (FindsAmong-nothing _ _) first) second
