use Rattle.std.proofs.Common.{arith, ◌≡◌, ◌-◌, length, vec_len}
use Rattle.pex_lift.proofs.lifting.values_of.Goals as goal

pub returns-in-Ok : goal.returns-in-Ok
returns-in-Ok c =
    let values : length c.in-Ok.values.items ≡ vec_len c.in-Ok.values = omega (arith, c.in-Ok.values.ok.0) in
    let scripts : length c.args.core.now.scripts.items ≡ vec_len c.args.core.now.scripts = omega (arith, c.args.core.now.scripts.ok.0) in
    let count : length c.in-Ok.values.items ≡ length c.args.core.now.scripts.items - 6 = omega (arith, values, scripts, c.in-Ok.ensures.count) in
    record { count = count; shaped = c.in-Ok.ensures.shaped }
