-- That a turn touches no variable and no state of an instance that its stack doesn't own, and that all
-- else depends on them in nothing.
use Rattle.std.specs.Prelude.{◌≡◌, ℕ, List, map, Option, Some, None, slice_index_or, slice_set}
use Rattle.script_meaning.specs.Stacks.{State, stack_at, inner_instance}
use Rattle.script_meaning.specs.World.{World, Instance, title, no_instance}

abbrev pub with_instances : List Instance → World → World
with_instances instances world = record world { instances = instances }

abbrev pub state_with : {Body : Type 0} → List Instance → State Body → State Body
state_with instances state = record state { world = with_instances instances state.world }

-- the instance that a stack is on in its turn: that of its innermost frame
abbrev pub instance_in_turn : {Body : Type 0} → State Body → ℕ → Option ℕ
instance_in_turn state k = inner_instance (stack_at state.stacks k)

-- these instances, but for one that is taken from others
abbrev pub but_for : Option ℕ → List Instance → List Instance → List Instance
but_for None instances others = instances
but_for (Some own) instances others = slice_set instances own (slice_index_or others own no_instance)

abbrev pub SameAt : Option ℕ → List Instance → List Instance → Type 0
SameAt None a b = Unit {0}
SameAt (Some own) a b = slice_index_or a own no_instance ≡ slice_index_or b own no_instance

-- the instances differ in variables and states alone, and not at the one instance
pub record DifferElsewhere (own : Option ℕ) (a b : List Instance) : Type 0 where
  pub names : map title b ≡ map title a
  pub same : SameAt own a b
