use Rattle.std.proofs.Common.{rules}
use Rattle.stack_save.proofs.NumberLemmas.{number_2}
use Rattle.stack_save.proofs.fields.number_of_two.Goals as goal

pub returns-clause-spelled : goal.returns-clause-spelled
returns-clause-spelled c = number_2 c.args.bytes.now c.read_u16.result c.requires (search rules) c.read_u16.ensures
