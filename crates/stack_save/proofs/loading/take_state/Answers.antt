use Rattle.std.proofs.Common.{map}
use Rattle.machine_state.specs.Plain.{plain_instance, plain_array, plain_device, plain_stack}
use Rattle.stack_save.proofs.StateLemmas.{row_taken, locks_taken, things_taken}
use Rattle.stack_save.proofs.loading.take_state.Goals as goal
use Rattle.stack_save.specs.Spelling.{PlainLocks, PlainThings}

pub returns : goal.returns
returns c =
    let l : PlainLocks = record { owners = c.in_ok-take_owners.field-0.items; waiters = c.in_ok-take_list-2.field-0.items; free = c.in_ok-take_free.field-0.items; asleep = c.in_ok-take_asleep.field-0.items } in
    let h : PlainThings = record { arrays = map plain_array c.in_ok-take_list-3.field-0.items; devices = map plain_device c.in_ok-take_list-4.field-0.items; stacks = map plain_stack c.in_ok-take_list-5.field-0.items } in
    let r3 = c.take_list.new.cursor.rest.now in
    let r7 = c.take_asleep.new.cursor.rest.now in
    let r10 = c.take_list-5.new.cursor.rest.now in
    row_taken c.in_ok-take_u32.field-0 c.in_ok-take_number_or_none.field-0 (map plain_instance c.in_ok-take_list.field-0.items) l h
    c.args.cursor.now.rest.now c.take_u32.new.self.rest.now c.take_number_or_none.new.self.rest.now r3 r7 r10
    c.in_ok-take_u32.ensures c.in_ok-take_number_or_none.ensures c.in_ok-take_list.ensures
    (locks_taken l r3 c.take_owners.new.cursor.rest.now c.take_list-2.new.cursor.rest.now c.take_free.new.cursor.rest.now r7
    c.in_ok-take_owners.ensures c.in_ok-take_list-2.ensures c.in_ok-take_free.ensures c.in_ok-take_asleep.ensures)
    (things_taken h r7 c.take_list-3.new.cursor.rest.now c.take_list-4.new.cursor.rest.now r10
    c.in_ok-take_list-3.ensures c.in_ok-take_list-4.ensures c.in_ok-take_list-5.ensures)
