use Rattle.pex_values.specs.Spelling.{object_data}
use Rattle.pex_codec.proofs.Lists.{four_parts}
use Rattle.pex_codec.proofs.objects.put_object_data.Goals as goal

pub returns : goal.returns
unfolding object_data
returns c =
    let variables = rw c.deref.ensures.value at c.in_ok-put_list.ensures in
    let properties = rw c.deref-2.ensures.value at c.in_ok-put_list-2.ensures in
    let states = rw c.deref-3.ensures.value at c.in_ok-put_list-3.ensures in (
      record { variables = variables.0; properties = properties.0.0; each_property = properties.0.1; states = states.0.0; each_state = states.0.1 },
      four_parts _ _ _ _ _ _ _ _ _ c.in_ok-put_object_heading.ensures variables.1 properties.1 states.1,
    )
