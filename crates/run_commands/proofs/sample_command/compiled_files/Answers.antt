use Rattle.std.proofs.Common.{arith, ◌≡◌, ◌+◌, ◌-◌, ap, length, vec_len}
use Rattle.run_commands.proofs.SampleParts.{files_counted, scripts_counted}
use Rattle.run_commands.proofs.sample_command.compiled_files.Goals as goal

pub accept_texts-requires : goal.accept_texts-requires
accept_texts-requires c =
    let count : length c.in-Ok.scripts.items ≡ c.args.workers + 1 = scripts_counted c.in-Ok.scripts.items c.args.workers c.in-Ok.ensures in
    let same : length c.deref.result.now ≡ length c.in-Ok.scripts.items = ap length c.deref.ensures.value in
    omega arith

pub compile_set-requires : goal.compile_set-requires
compile_set-requires c =
    let count : length c.in-Ok.scripts.items ≡ c.args.workers + 1 = scripts_counted c.in-Ok.scripts.items c.args.workers c.in-Ok.ensures in
    let same : length c.deref.result.now ≡ length c.in-Ok.scripts.items = ap length c.deref.ensures.value in
    omega (arith, c.in-Ok-accept_texts.ensures.scripts)

pub returns-in-Ok-accept_texts : goal.returns-in-Ok-accept_texts
returns-in-Ok-accept_texts c =
    let count : length c.in-Ok.scripts.items ≡ c.args.workers + 1 = scripts_counted c.in-Ok.scripts.items c.args.workers c.in-Ok.ensures in
    let same : length c.deref.result.now ≡ length c.in-Ok.scripts.items = ap length c.deref.ensures.value in
    let files : length c.in_ok-compile_set-in-Ok-accept_texts.field-0.files.items ≡ vec_len c.in-Ok-accept_texts.set.scripts - 6 = files_counted _ c.in_ok-compile_set-in-Ok-accept_texts.field-0 c.in_ok-compile_set-in-Ok-accept_texts.ensures in
    omega (arith, c.in-Ok-accept_texts.ensures.scripts)
