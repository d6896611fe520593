use Rattle.std.proofs.Common.{ap, refl, ◌∙◌, subst, take, Contains, IfSome}
use Rattle.script_parser.specs.Lines.{lines_with, own_lines}
use Rattle.script_linker.proofs.FoundLemmas.{FindsAmong-nothing, FindsAmong-then, limit_on, of_script, of_fields, of_functions, of_states, of_properties}
use Rattle.script_linker.proofs.LinkLemmas.{IfSome-at}
use Rattle.script_linker.proofs.rules.member_fault.Goals as goal

pub returns-clause-line : goal.returns-clause-line
returns-clause-line c =
    let file = c.file.result.now in
    let script = file.script in
    let own = c.first_functions-own.result.now in
    let found = c.found_or_limit.result in
    let limit = FindsAmong-then (of_script own script) (FindsAmong-nothing _ _) c.note_if.ensures.among in
    let fields = FindsAmong-then (of_fields own script) limit c.in_ok-judge_fields.ensures in
    let functions = FindsAmong-then (of_functions own script) fields c.in_ok-judge_functions.ensures in
    let states = FindsAmong-then (of_states own script) functions (rw c.as_slice-2.ensures.value at c.in_ok-judge_states.ensures) in
    let all = FindsAmong-then (of_properties own script) states (rw c.as_slice-properties.ensures.value at c.in_ok-judge_properties.ensures) in
    let on = limit_on own script refl all found c.found_or_limit.ensures.found in
    let same = c.first_functions-own.ensures ∙ ap (take c.args.declared) c.as_slice.ensures.value in
    let first = subst (λ functions. IfSome found (λ one. Contains (lines_with functions script) one.line)) same on in
    IfSome-at (own_lines c.args.declared) c.args.scripts.now c.args.number file c.requires.script c.file.ensures found first
