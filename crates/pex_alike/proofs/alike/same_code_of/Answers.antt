use Rattle.pex_values.specs.Plain.{plain_instruction}
use Rattle.pex_alike.proofs.Lists.{each_to_map, each_from_map}
use Rattle.pex_alike.proofs.alike.same_code_of.Goals as goal

pub returns : goal.returns
returns c = (
  λ t. each_to_map _ plain_instruction plain_instruction _ _ (c.same_instructions.ensures.0 t),
  λ s. c.same_instructions.ensures.1 (each_from_map _ plain_instruction plain_instruction _ _ s),
)
