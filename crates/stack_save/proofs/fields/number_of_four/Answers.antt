use Rattle.std.proofs.Common.{rules}
use Rattle.stack_save.proofs.NumberLemmas.{number_4}
use Rattle.stack_save.proofs.fields.number_of_four.Goals as goal

pub returns-clause-spelled : goal.returns-clause-spelled
returns-clause-spelled c = number_4 c.args.bytes.now c.read_u32.result c.requires (search rules) c.read_u32.ensures
