-- That each number in the members of a script names what is there.
use Rattle.std.specs.Prelude.{length, map, All}
use Rattle.core_tree.specs.InRange.{PropertyInRange, Signatures, StateInRange, VariableInRange}
use Rattle.core_tree.specs.Set.{property_of, state_of}
use Rattle.type_rules.specs.declared.elaboration.Members.{Members}

pub record MembersInRange (functions : Signatures) (members : Members) : Type 0 where
  pub variables : All (VariableInRange functions) members.variables.items
  pub properties : All (PropertyInRange functions (length members.variables.items)) (map property_of members.properties.items)
  pub states : All (StateInRange functions (length members.variables.items)) (map state_of members.states.items)
