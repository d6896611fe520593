use Rattle.std.proofs.Common.{◌∙◌, rules}
use Rattle.std.specs.Int.{w32}
use Rattle.std.proofs.lemmas.Int.{to_z-of_z}
use Rattle.body_runner.proofs.Casting.{read_same}
use Rattle.body_runner.proofs.casts.int_of_text.Goals as goal

pub returns : goal.returns
returns c =
    to_z-of_z w32 c.read_int.result (search rules) ∙ read_same c.args.text.now c.read_int.result c.read_int.ensures.number c.read_int.ensures.other
