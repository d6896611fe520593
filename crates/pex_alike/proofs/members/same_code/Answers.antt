use Rattle.pex_values.specs.Plain.{plain_object}
use Rattle.pex_alike.specs.SameCode.{SameCode}
use Rattle.pex_alike.proofs.Lists.{each_to_map, each_from_map}
use Rattle.pex_alike.proofs.members.same_code.Goals as goal

pub returns : goal.returns
unfolding SameCode
returns c = (
  λ t. each_to_map _ plain_object plain_object _ _ (c.same_objects.ensures.0 t),
  λ s. c.same_objects.ensures.1 (each_from_map _ plain_object plain_object _ _ s),
)
