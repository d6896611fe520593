use Rattle.std.proofs.Common.{◌≡◌, ◌∙◌, true, false, sym, rules}
use Rattle.stack_machine.proofs.Passes.{ready_after}
use Rattle.stack_machine.proofs.Runs.{both_ok, leave_called, leave_native, leave_prompt, leave_refused, leave_returned, left_at}
use Rattle.stack_machine.proofs.run.leave.Goals as goal

pub returns-then-not-is_prompt-clause-follows : goal.returns-then-not-is_prompt-clause-follows
returns-then-not-is_prompt-clause-follows g c = λ ready at.
    let home = c.args.home.now in
    let i = c.in-Some.instruction.now in
    let no : c.is_prompt.result ≡ false = search rules in
    let w = left_at home c.args.place c.deref.result.now i c.args.inner.now.store.now.instances c.deref.ensures.value c.in-Some.ensures.lookup.1 ready at in
    leave_native home c.args.place i w.0 c.args.inner.now c.leave.new.inner c.in_ok-fault.field-0 (c.in_ok-fault.ensures ready.there w.1) c.in-Native.at c.in-Native.arguments _ _ c.in-Native.is (sym (c.is_prompt.ensures.meant ready.bound) ∙ no)

pub returns-else-not-is_prompt-clause-follows : goal.returns-else-not-is_prompt-clause-follows
returns-else-not-is_prompt-clause-follows g c = λ ready at.
    let home = c.args.home.now in
    let i = c.in-Some.instruction.now in
    let yes : c.is_prompt.result ≡ true = search rules in
    let w = left_at home c.args.place c.deref.result.now i c.args.inner.now.store.now.instances c.deref.ensures.value c.in-Some.ensures.lookup.1 ready at in
    let left = c.in_ok-fault.ensures ready.there w.1 in
    let here = ready_after home c.args.inner.now c.leave.new.inner left.kept ready in
    both_ok c.answer_native-halt.result _ _ _ (λ halt none a. leave_prompt home c.args.place i w.0 c.args.inner.now c.leave.new.inner c.in_ok-fault.field-0 left c.answer_native-halt.new.inner c.in-Native.at c.in-Native.arguments c.deref-in-Native.result.now halt _ _ _ _ c.in-Native.is (sym (c.is_prompt.ensures.meant ready.bound) ∙ yes) none c.deref-in-Native.ensures.value a) c.answer_native-halt.ensures.none (c.answer_native-halt.ensures.answered here i w.0)

pub returns-in-Refused-clause-follows : goal.returns-in-Refused-clause-follows
returns-in-Refused-clause-follows g c = λ ready at.
    let home = c.args.home.now in
    let i = c.in-Some.instruction.now in
    let w = left_at home c.args.place c.deref.result.now i c.args.inner.now.store.now.instances c.deref.ensures.value c.in-Some.ensures.lookup.1 ready at in
    both_ok c.refuse.result _ _ _ (λ halt none wrote. leave_refused home c.args.place i w.0 c.args.inner.now c.leave.new.inner c.in_ok-fault.field-0 (c.in_ok-fault.ensures ready.there w.1) c.in-Refused.fault halt _ _ _ c.in-Refused.is none wrote) c.refuse.ensures.none c.refuse.ensures.prints

pub returns-in-Called-clause-follows : goal.returns-in-Called-clause-follows
returns-in-Called-clause-follows g c = λ ready at.
    let home = c.args.home.now in
    let i = c.in-Some.instruction.now in
    let w = left_at home c.args.place c.deref.result.now i c.args.inner.now.store.now.instances c.deref.ensures.value c.in-Some.ensures.lookup.1 ready at in
    leave_called home c.args.place i w.0 c.args.inner.now c.leave.new.inner c.in_ok-fault.field-0 (c.in_ok-fault.ensures ready.there w.1) c.in-Called.call _ _ c.in-Called.is

pub returns-in-Returned-clause-follows : goal.returns-in-Returned-clause-follows
returns-in-Returned-clause-follows g c = λ ready at.
    let home = c.args.home.now in
    let i = c.in-Some.instruction.now in
    let w = left_at home c.args.place c.deref.result.now i c.args.inner.now.store.now.instances c.deref.ensures.value c.in-Some.ensures.lookup.1 ready at in
    leave_returned home c.args.place i w.0 c.args.inner.now c.leave.new.inner c.in_ok-fault.field-0 (c.in_ok-fault.ensures ready.there w.1) c.in-Returned.value _ _ c.in-Returned.is
