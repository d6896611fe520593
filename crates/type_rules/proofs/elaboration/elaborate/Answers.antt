use Rattle.std.proofs.Common.{◌<◌, ◌≤◌, length, map, arith, ◌∙◌, ap}
use Rattle.std.proofs.lemmas.List.{take_all}
use Rattle.type_scope.specs.Types.{signatures}
use Rattle.type_rules.proofs.Heads.{heads-push, pairs-push, scripts-push, set-in_range}
use Rattle.type_rules.specs.Heads.{core_script_head, script_head}
use Rattle.type_rules.specs.Variables.{ScriptVariables}
use Rattle.type_rules.proofs.elaboration.elaborate.Goals as goal

pub loop-number-preserved : goal.loop-number-preserved
loop-number-preserved c =
    let set = c.args.set.now in
    let number = c.loop-number.number in
    let scripts = c.loop-number.scripts.items in
    let all = c.add_script.new.scripts.items in
    let so_far = c.loop-number.invariant in
    let made = c.in_ok-judged.judged.script in
    let judged = c.in_ok-judged.ensures in
    let within : number < length set = omega arith in
    record {
      heads = heads-push core_script_head (script_head set) set number scripts all made c.in_ok-add_script.ensures so_far.heads within (rw c.in_ok-catalog.ensures at judged.head);
      variables = pairs-push (ScriptVariables set) set number scripts all made c.in_ok-add_script.ensures so_far.variables within (rw c.in_ok-catalog.ensures at judged.variables);
      in_range = scripts-push (signatures set) scripts all made c.in_ok-add_script.ensures so_far.in_range (rw c.in_ok-catalog.ensures at judged.in_range);
      broken = c.note.ensures.broken_below (length set) within so_far.broken;
      too_large = c.note.ensures.too_large_below (length set) within so_far.too_large;
    }

pub returns-clause-in_range : goal.returns-clause-in_range
returns-clause-in_range c =
    let past : length c.args.set.now ≤ c.loop-number.number = omega arith in
    let heads = c.loop-number.invariant.heads ∙ ap (map (script_head c.args.set.now)) (take_all c.loop-number.number c.args.set.now past) in
    set-in_range c.args.set.now c.args.set.now c.loop-number.scripts.items heads c.loop-number.invariant.in_range
