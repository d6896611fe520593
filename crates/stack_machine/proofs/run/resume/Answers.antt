use Rattle.std.proofs.Common.{◌≡◌, suc, arith}
use Rattle.std.specs.Prelude.{slice_get}
use Rattle.std.proofs.lemmas.Result.{IfOk-weaker}
use Rattle.stack_machine.proofs.Passes.{gave_kept, ready_after, replied_loans, replied_stops}
use Rattle.stack_machine.proofs.run.resume.Goals as goal

pub returns-clause-loans : goal.returns-clause-loans
returns-clause-loans g c = λ ready.
    let home = c.args.home.now in
    let i = slice_get home.function.now.code.items c.args.from in
    let gave = c.in_ok-give.ensures ready.there in
    let here = ready_after home c.args.inner.now c.give.new.inner (gave_kept home i c.args.reply c.args.inner.now c.give.new.inner gave) ready in
    replied_loans home c.run_on.result i c.args.reply c.args.inner.now c.give.new.inner c.run_on.new.inner gave (c.run_on.ensures.loans here)

pub returns-clause-stops : goal.returns-clause-stops
returns-clause-stops g c = λ place body ready within.
    let home = c.args.home.now in
    let i = slice_get home.function.now.code.items c.args.from in
    let next : c.saturating_add.result ≡ suc c.args.from = omega (arith, c.saturating_add.ensures, within) in
    let gave = c.in_ok-give.ensures ready.there in
    let here = ready_after home c.args.inner.now c.give.new.inner (gave_kept home i c.args.reply c.args.inner.now c.give.new.inner gave) ready in
    IfOk-weaker c.run_on.result _ _ (λ halt r. replied_stops home place body c.args.from c.saturating_add.result c.args.reply halt _ _ _ _ c.args.inner.now c.give.new.inner c.run_on.new.inner next gave r) (c.run_on.ensures.ran here)
