-- Runs of small scripts, computed from the definitions.
use Rattle.std.proofs.Common.{◌≡◌, ℕ, true, false, List, [], ◌∷◌, map, None, refl}
use Rattle.std.specs.Prelude.{codes, pos, ◌+ℤ◌}
use Rattle.std.specs.Int.{w32, int_wrap}
use Rattle.core_tree.specs.declared.core_type.CoreType.{CoreType}
use Rattle.core_tree.specs.declared.core_type.CoreType.TheVariants as kinds
use Rattle.core_tree.specs.declared.operator.Arith.TheVariants as signs
use Rattle.core_tree.specs.declared.scene_tree.Binding.TheVariants as bindings
use Rattle.core_tree.specs.declared.script.CoreVariable.{CoreVariable}
use Rattle.core_tree.specs.declared.value.Value.{Value}
use Rattle.core_tree.specs.declared.value.Value.TheVariants as values
use Rattle.core_tree.specs.declared.outline.OutlineProperty.{OutlineProperty}
use Rattle.core_tree.specs.Outlines.{ScriptShape, FunctionShape}
use Rattle.core_tree.specs.Scenes.{SceneShape, CallShape, Round}
use Rattle.core_tree.specs.Set.{Script, Function, Property, Auto}
use Rattle.core_tree.specs.Tree.{Expression, Literal, Local, Field, Apply, Calculate, CallNative, Statement, Do, StoreLocal, StoreField, Drop, one, two, block}
use Rattle.script_meaning.specs.Source.{source_run}
use Rattle.script_meaning.specs.World.{World, Variables, Line, Traced}

-- ---- the library scripts that the examples call
abbrev pub native : List ℕ → List CoreType → Function
native name parameters =
    record { name = name; parameters = parameters; locals = []; result = None; is_global = true; is_native = true; doc = None; flags = 0; body = block []; end_line = 0 }

abbrev pub event : List ℕ → List CoreType → List (ℕ × Statement) → Function
event name locals body =
    record { name = name; parameters = []; locals = locals; result = None; is_global = false; is_native = false; doc = None; flags = 0; body = block body; end_line = 0 }

abbrev pub script : List ℕ → List CoreVariable → List Property → List Function → Script
script name variables properties functions =
    record { file = []; name = name; parent = None; flags = 0; doc = None; auto_state = None; variables = variables; properties = properties; states = record { name = []; functions = functions } ∷ [] }

abbrev pub debug_functions : List Function
debug_functions = native (codes "Trace") (kinds.Text ∷ kinds.Int ∷ []) ∷ []

abbrev pub debug : Script
debug = script (codes "Debug") [] [] debug_functions

abbrev pub function_shape : Function → FunctionShape
function_shape f = record { name = f.name; parameters = f.parameters; result = f.result; is_global = f.is_global; is_native = f.is_native }

abbrev pub outline : Script → List OutlineProperty → List Function → ScriptShape
outline s properties functions =
    record { name = s.name; parent = s.parent; auto_state = s.auto_state; variables = map (λ v. record { name = v.name; kind = v.kind; value = v.value }) s.variables; properties = properties; functions = map function_shape functions }

abbrev pub trace : Expression → Statement
trace text = Do Drop (one (Apply (CallNative (record { script = 0; place = 0 }) (0 ∷ 1 ∷ []) None) (two text (Literal (values.Int (pos 0))))))

-- ---- two calls of one function that reads a variable, traces and writes the variable: the trace lets go,
-- and one of the writes is lost
abbrev pub bump_function : Function
bump_function = event (codes "Bump") (kinds.Int ∷ []) ((4, Do (StoreLocal 0) (one (Field 0))) ∷ (5, trace (Literal (values.Text (codes "x")))) ∷ (6, Do (StoreField 0) (one (Apply (Calculate signs.Add) (two (Local 0) (Literal (values.Int (pos 1))))))) ∷ [])

abbrev pub counter : Script
counter = script (codes "C") (record { name = codes "::N_var"; kind = kinds.Int; value = values.Int (pos 0); flags = 0 } ∷ []) (record { name = codes "N"; kind = kinds.Int; access = Auto 0; doc = None; flags = 0 } ∷ []) (bump_function ∷ [])

abbrev pub bump : CallShape
bump = record { turn = 0; instance = 0; function = codes "Bump"; arguments = [] }

abbrev pub two_bumps : SceneShape
two_bumps =
    record { instances = record { name = codes "c"; script = 1; set = [] } ∷ []; calls = bump ∷ bump ∷ []; natives = record { script = 0; function = 0; binding = bindings.Trace 0 } ∷ []; tapes = []; devices = 0; order = Round; turns = 100; quantum = 1 }

-- where the stacks stand in a world, and what was printed
abbrev pub Glance : Type 0
Glance = ℕ × List (ℕ × ℕ) × List (ℕ × ℕ) × List (ℕ × ℕ) × List ℕ × List Line

-- the number of turns, owners, waiters, sleepers, the stacks that are done, and the lines
abbrev pub glance : World → Glance
glance world = (world.turn, world.owners, world.waiters, world.asleep, world.done, world.output)

abbrev pub x_by : ℕ → Line
x_by stack = Traced stack (codes "x")

abbrev pub lost_update : List World
lost_update = source_run (outline debug [] debug_functions ∷ outline counter (record { name = codes "N"; kind = kinds.Int; variable = 0 } ∷ []) (bump_function ∷ []) ∷ []) (debug ∷ counter ∷ []) two_bumps [] 6

abbrev pub expected : List Glance
expected =
    (0, [], [], [], [], []) ∷ (1, [], (0, 1) ∷ (0, 0) ∷ [], [], [], x_by 0 ∷ []) ∷ (2, [], (0, 0) ∷ (0, 1) ∷ [], [], [], x_by 0 ∷ x_by 1 ∷ []) ∷ (3, [], (0, 1) ∷ [], [], 0 ∷ [], x_by 0 ∷ x_by 1 ∷ []) ∷ (4, [], [], [], 0 ∷ 1 ∷ [], x_by 0 ∷ x_by 1 ∷ []) ∷ []

pub a_lost_update : map glance lost_update ≡ expected
a_lost_update = refl

abbrev pub variables_of : World → List Variables
variables_of world = map (λ instance. instance.variables) world.instances

-- the number of each world: the second write is of the number that was read before the first
abbrev pub wrapped_one : Value
wrapped_one = values.Int (int_wrap w32 (pos 0 +ℤ pos 1))

abbrev pub with_value : Value → List Variables
with_value value = ((1, value ∷ []) ∷ []) ∷ []

pub numbers_of_a_lost_update : map variables_of lost_update ≡ with_value (values.Int (pos 0)) ∷ with_value (values.Int (pos 0)) ∷ with_value (values.Int (pos 0)) ∷ with_value wrapped_one ∷ with_value wrapped_one ∷ []
numbers_of_a_lost_update = refl
