use Rattle.std.proofs.Common.{rules}
use Rattle.stack_save.proofs.NumberLemmas.{number_8}
use Rattle.stack_save.proofs.fields.number_of_eight.Goals as goal

pub returns-clause-spelled : goal.returns-clause-spelled
returns-clause-spelled c = number_8 c.args.bytes.now c.read_u64.result c.requires (search rules) c.read_u64.ensures
