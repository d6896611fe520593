use Rattle.stack_save.proofs.NumberLemmas.{number_taken}
use Rattle.stack_save.proofs.fields.Cursor.take_u16.Goals as goal

pub returns : goal.returns
returns c = number_taken 2 c.in_ok-take.field-0.now c.args.self.now.rest.now c.take.new.self.rest.now c.number_of_two.result c.in_ok-take.ensures c.number_of_two.ensures.spelled c.number_of_two.ensures.value c.number_of_two.type_inv
