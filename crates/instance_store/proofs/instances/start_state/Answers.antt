use Rattle.std.proofs.Common.{arith}
use Rattle.std.proofs.lemmas.Grind.{common_steps}
use Rattle.instance_store.proofs.StoreLemmas.{start_state-step}
use Rattle.instance_store.proofs.instances.start_state.Goals as goal

pub returns-in-Some : goal.returns-in-Some
returns-in-Some c =
    let step = start_state-step c.args.scripts.now c.args.above.now c.loop-script.script-index (omega arith) in
    grind (arith, common_steps, step)

pub loop-script-preserved : goal.loop-script-preserved
loop-script-preserved c =
    let step = start_state-step c.args.scripts.now c.args.above.now c.loop-script.script-index (omega arith) in
    grind (arith, common_steps, step)
