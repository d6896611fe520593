-- What small functions of code do, computed from the definitions.
use Rattle.std.proofs.Common.{◌≡◌, ℕ, true, false, List, [], ◌∷◌, map, Option, Some, None, refl}
use Rattle.std.specs.Prelude.{codes, pos, negsuc, ◌+ℤ◌}
use Rattle.std.specs.Fmt.{signed_decimal}
use Rattle.std.specs.Int.{w32, int_wrap}
use Rattle.core_tree.specs.declared.core_type.CoreType.{CoreType}
use Rattle.core_tree.specs.declared.core_type.CoreType.TheVariants as kinds
use Rattle.core_tree.specs.declared.outline.OutlineVariable.{OutlineVariable}
use Rattle.core_tree.specs.declared.scene.BoundNative.{BoundNative}
use Rattle.core_tree.specs.declared.scene_tree.Binding.TheVariants as bindings
use Rattle.core_tree.specs.declared.value.Value.{Value}
use Rattle.core_tree.specs.declared.value.Value.TheVariants as values
use Rattle.core_tree.specs.Outlines.{ScriptShape, FunctionShape}
use Rattle.core_tree.specs.Scenes.{SceneShape, CallShape, Round}
use Rattle.papy_base.specs.declared.faults.StackFault.{StackFault}
use Rattle.papy_base.specs.declared.faults.StackFault.TheVariants as faults
use Rattle.script_meaning.specs.Requests.{Sight, Setting, Request, Method, ParentMethod, GlobalFunction, Get, Set, LoopPass, Return}
use Rattle.script_meaning.specs.Stacks.{ByMethod, ByParent, ByGet, BySet, Opened, ReadThere, NothingThere, Stop}
use Rattle.script_meaning.specs.World.{World, Line, Traced, Faulted}
use Rattle.code_meaning.specs.Code.{Operand, Literal, Slot, Variable, Itself, StateText, Instruction, Function, Auto, Full, State, Script}
use Rattle.code_meaning.specs.Code as op
use Rattle.code_meaning.specs.Engine.{code_run}
use Rattle.code_meaning.specs.Execution.{run_code}
use Rattle.code_meaning.specs.LookUp.{OfState, OfGet, Body, enter_code}

-- ---- a set of two scripts: Debug with the native Trace, and A with one function
abbrev function : List ℕ → List CoreType → List (Option CoreType) → Option CoreType → List Instruction → List ℕ → Function
function name parameters locals result code lines =
    record { name = name; parameters = parameters; locals = locals; result = result; is_global = false; is_native = false; code = code; lines = lines }

abbrev trace : Function
trace =
    record { name = codes "Trace"; parameters = kinds.Text ∷ kinds.Int ∷ []; locals = []; result = None; is_global = true; is_native = true; code = []; lines = [] }

abbrev plain : List Function → Script
plain functions = record { properties = []; states = record { name = []; functions = functions } ∷ [] }

abbrev shape : List ℕ → Option ℕ → List OutlineVariable → List FunctionShape → ScriptShape
shape name parent variables functions =
    record { name = name; parent = parent; auto_state = None; variables = variables; properties = []; functions = functions }

abbrev trace_shape : FunctionShape
trace_shape =
    record { name = codes "Trace"; parameters = kinds.Text ∷ kinds.Int ∷ []; result = None; is_global = true; is_native = true }

abbrev number_variable : OutlineVariable
number_variable = record { name = codes "N"; kind = kinds.Int; value = values.Int (pos 0) }

abbrev outline : List ScriptShape
outline = shape (codes "Debug") None [] (trace_shape ∷ []) ∷ shape (codes "A") None (number_variable ∷ []) [] ∷ []

abbrev trace_bound : BoundNative
trace_bound = record { script = 0; function = 0; binding = bindings.PromptTrace }

-- ---- a body on instance 0, of script A
abbrev setting : Setting
setting =
    record { stack = 0; self = Some 0; outline = outline; instances = (1, codes "it") ∷ []; natives = trace_bound ∷ []; has_room = true }

abbrev sight : Sight
sight =
    record { variables = (1, values.Int (pos 7) ∷ []) ∷ []; state = codes "Off"; arrays = []; devices = []; output = [] }

abbrev body : ℕ → List Value → Body
body at slots = record { place = OfState 1 0 0; instruction = at; slots = slots }

-- how the function F of A with these locals and this code comes to its first act
abbrev first_act : List (Option CoreType) → List Value → List Instruction → Stop Body
first_act locals slots code =
    run_code (plain (trace ∷ []) ∷ plain (function (codes "F") [] locals (Some kinds.Int) code (11 ∷ 12 ∷ 13 ∷ 14 ∷ []) ∷ []) ∷ []) setting (body 0 slots) None sight

-- the same, where the instruction of this number awaits this reply
abbrev act_after : ℕ → Value → List (Option CoreType) → List Value → List Instruction → Stop Body
act_after at reply locals slots code =
    run_code (plain (trace ∷ []) ∷ plain (function (codes "F") [] locals (Some kinds.Int) code (11 ∷ 12 ∷ 13 ∷ 14 ∷ []) ∷ []) ∷ []) setting (body at slots) (Some reply) sight

abbrev stands : Stop Body → Request × ℕ × List Value
stands stop = (stop.request, stop.body.instruction, stop.body.slots)

abbrev int : ℕ → Value
int n = values.Int (pos n)

abbrev lit : ℕ → Operand
lit n = Literal (int n)

abbrev none : Value
none = values.NoneValue

abbrev an_int : List (Option CoreType)
an_int = Some kinds.Int ∷ []

abbrev fault_at : ℕ → StackFault → Line
fault_at line fault = Faulted 0 (record { script = codes "A"; function = codes "F"; line = line }) fault

-- ---- arithmetic
pub a_sum : stands (first_act an_int (int 0 ∷ []) (op.IAdd (Slot 0) (lit 2) (Variable 0) ∷ op.Return (Slot 0) ∷ [])) ≡ (Return (values.Int (int_wrap w32 (pos 2 +ℤ pos 7))), 1, values.Int (int_wrap w32 (pos 2 +ℤ pos 7)) ∷ [])
a_sum = refl

abbrev divided_by_zero : Stop Body
divided_by_zero = first_act an_int (int 5 ∷ []) (op.Nop ∷ op.IDiv (Slot 0) (lit 1) (lit 0) ∷ op.Return (Slot 0) ∷ [])

pub a_division_by_zero : stands divided_by_zero ≡ (Return (int 0), 2, int 0 ∷ [])
a_division_by_zero = refl

pub its_fault : divided_by_zero.sight.output ≡ fault_at 12 faults.DivideZero ∷ []
its_fault = refl

pub a_comparison : (first_act (Some kinds.Bool ∷ []) (values.Bool true ∷ []) (op.CmpLt (Slot 0) (lit 3) (lit 2) ∷ op.Not (Slot 0) (Slot 0) ∷ op.Return (Slot 0) ∷ [])).request ≡ Return (values.Bool true)
a_comparison = refl

-- to the type of the result
pub a_cast : (first_act (Some kinds.Text ∷ []) (values.Text [] ∷ []) (op.Cast (Slot 0) (lit 12) ∷ op.Return (Slot 0) ∷ [])).request ≡ Return (values.Text (signed_decimal (pos 12)))
a_cast = refl

pub a_joined_text : (first_act (Some kinds.Text ∷ []) (values.Text (codes "a") ∷ []) (op.StrCat (Slot 0) (Slot 0) (Literal (values.Text (codes "b"))) ∷ op.Return (Slot 0) ∷ [])).request ≡ Return (values.Text (codes "ab"))
a_joined_text = refl

pub a_dropped_result : stands (first_act (None ∷ []) (none ∷ []) (op.IMul (Slot 0) (lit 2) (lit 3) ∷ op.Return (lit 1) ∷ [])) ≡ (Return (int 1), 1, none ∷ [])
a_dropped_result = refl

-- ---- jumps
pub a_jump_ahead : stands (first_act an_int (int 1 ∷ []) (op.JmpF (Literal (values.Bool false)) (pos 2) ∷ op.Assign (Slot 0) (lit 9) ∷ op.Return (Slot 0) ∷ [])) ≡ (Return (int 1), 2, int 1 ∷ [])
a_jump_ahead = refl

pub a_jump_not_taken : stands (first_act an_int (int 1 ∷ []) (op.JmpT (Literal (values.Text [])) (pos 2) ∷ op.Assign (Slot 0) (lit 9) ∷ op.Return (Slot 0) ∷ [])) ≡ (Return (int 9), 2, int 9 ∷ [])
a_jump_not_taken = refl

-- the function's end gives the default of the result
pub a_jump_to_the_end : stands (first_act an_int (int 1 ∷ []) (op.Jmp (pos 2) ∷ op.Return (Slot 0) ∷ [])) ≡ (Return (int 0), 2, int 1 ∷ [])
a_jump_to_the_end = refl

pub a_loop_pass : stands (first_act an_int (int 1 ∷ []) (op.Nop ∷ op.Assign (Slot 0) (lit 4) ∷ op.Jmp (negsuc 0) ∷ [])) ≡ (LoopPass, 1, int 4 ∷ [])
a_loop_pass = refl

pub a_jump_to_itself : stands (first_act an_int (int 1 ∷ []) (op.Nop ∷ op.Jmp (pos 0) ∷ [])) ≡ (LoopPass, 1, int 1 ∷ [])
a_jump_to_itself = refl

-- ---- calls
abbrev call : List Instruction
call = op.CallMethod (codes "G") Itself (Slot 0) (lit 1 ∷ Slot 0 ∷ []) ∷ op.Return (Slot 0) ∷ []

pub a_call : stands (first_act an_int (int 6 ∷ []) call) ≡ (Method 0 (codes "G") (int 1 ∷ int 6 ∷ []) (int 0), 0, int 6 ∷ [])
a_call = refl

pub its_reply : stands (act_after 0 (int 8) an_int (int 6 ∷ []) call) ≡ (Return (int 8), 1, int 8 ∷ [])
its_reply = refl

abbrev on_none : Stop Body
on_none = first_act an_int (int 6 ∷ []) (op.CallMethod (codes "G") (Literal none) (Slot 0) [] ∷ op.Return (Slot 0) ∷ [])

pub a_call_on_none : stands on_none ≡ (Return (int 0), 1, int 0 ∷ [])
a_call_on_none = refl

pub its_line : on_none.sight.output ≡ fault_at 11 faults.NoneCall ∷ []
its_line = refl

-- a prompt native is no act, and a Global function with a body is one
abbrev traced : Stop Body
traced =
    first_act (None ∷ []) (none ∷ []) (op.CallStatic 0 (codes "trace") (Slot 0) (Literal (values.Text (codes "x")) ∷ lit 0 ∷ []) ∷ op.CallStatic 1 (codes "F") (Slot 0) [] ∷ [])

pub a_prompt_trace : stands traced ≡ (GlobalFunction 1 (codes "F") [] none, 1, none ∷ [])
a_prompt_trace = refl

pub what_it_prints : traced.sight.output ≡ Traced 0 (codes "x") ∷ []
what_it_prints = refl

pub a_parent_call : (first_act an_int (int 0 ∷ []) (op.CallParent (codes "F") (Slot 0) [] ∷ [])).request ≡ ParentMethod 1 (codes "F") [] (int 0)
a_parent_call = refl

pub a_parent_reply : (act_after 0 (int 4) an_int (int 6 ∷ []) (op.CallParent (codes "F") (Slot 0) [] ∷ op.Return (Slot 0) ∷ [])).request ≡ Return (int 4)
a_parent_reply = refl

pub a_global_reply : (act_after 0 (int 5) an_int (int 6 ∷ []) (op.CallStatic 1 (codes "F") (Slot 0) [] ∷ op.Return (Slot 0) ∷ [])).request ≡ Return (int 5)
a_global_reply = refl

-- ---- properties, variables and the state
pub a_property_read : stands (act_after 0 (int 3) an_int (int 6 ∷ []) (op.PropGet (codes "P") Itself (Slot 0) ∷ op.PropSet (codes "P") Itself (Slot 0) ∷ [])) ≡ (Set 0 (codes "P") (int 3), 1, int 3 ∷ [])
a_property_read = refl

pub its_request : (first_act an_int (int 6 ∷ []) (op.PropGet (codes "P") Itself (Slot 0) ∷ [])).request ≡ Get 0 (codes "P") (int 0)
its_request = refl

abbrev switched : Sight
switched = (first_act [] [] (op.Assign StateText (Literal (values.Text (codes "On"))) ∷ op.Assign (Variable 0) (lit 2) ∷ [])).sight

pub a_switched_state : switched.state ≡ codes "On"
a_switched_state = refl

pub a_written_variable : switched.variables ≡ (1, int 2 ∷ []) ∷ []
a_written_variable = refl

-- ---- arrays
abbrev array_code : List Instruction
array_code =
    op.ArrayCreate (Slot 0) 3 ∷ op.ArraySetElement (Slot 0) (lit 1) (lit 5) ∷ op.ArrayRFindElement (Slot 0) (Slot 1) (lit 0) (Literal (values.Int (negsuc 0))) ∷ op.ArrayGetElement (Slot 1) (Slot 0) (Slot 1) ∷ op.ArrayFindElement (Slot 0) (Slot 1) (lit 5) (lit 0) ∷ op.Return (Slot 1) ∷ []

abbrev with_array : Stop Body
with_array = first_act (Some kinds.IntArray ∷ Some kinds.Int ∷ []) (none ∷ int 0 ∷ []) array_code

pub an_array : stands with_array ≡ (Return (int 1), 5, values.Array 0 ∷ int 1 ∷ [])
an_array = refl

pub its_elements : with_array.sight.arrays ≡ record { kind = kinds.Int; items = int 0 ∷ int 5 ∷ int 0 ∷ [] } ∷ []
its_elements = refl

abbrev past_the_end : Stop Body
past_the_end =
    first_act (Some kinds.IntArray ∷ Some kinds.Int ∷ []) (none ∷ int 6 ∷ []) (op.ArrayCreate (Slot 0) 2 ∷ op.ArrayGetElement (Slot 1) (Slot 0) (lit 2) ∷ op.ArraySetElement (Literal none) (lit 0) (lit 1) ∷ op.ArrayLength (Slot 1) (Slot 0) ∷ [])

pub an_index_past_the_end : stands past_the_end ≡ (Return (int 0), 4, values.Array 0 ∷ int 2 ∷ [])
an_index_past_the_end = refl

pub its_faults : past_the_end.sight.output ≡ fault_at 12 faults.IndexRange ∷ fault_at 13 faults.NoneArray ∷ []
its_faults = refl

-- ---- look-up: B stands above C, whose state On has a function of its own
abbrev named : List ℕ → Function
named name = function name [] (Some kinds.Text ∷ []) None [] []

abbrev family : List Script
family =
    record { properties = record { name = codes "N"; access = Auto 0 true false } ∷ record { name = codes "P"; access = Full (Some (named (codes "P"))) None } ∷ []; states = record { name = []; functions = named (codes "F") ∷ named (codes "G") ∷ [] } ∷ [] }
    ∷ record { properties = []; states = record { name = codes "On"; functions = named (codes "G") ∷ [] } ∷ record { name = []; functions = named (codes "G") ∷ [] } ∷ [] }
    ∷ []

abbrev family_outline : List ScriptShape
family_outline = shape (codes "B") None (number_variable ∷ []) [] ∷ shape (codes "C") (Some 0) [] [] ∷ []

pub of_a_state : enter_code family_outline family (Some 1) (codes "on") (ByMethod (codes "g")) [] ≡ Opened (record { place = OfState 1 0 0; instruction = 0; slots = values.Text [] ∷ [] })
of_a_state = refl

pub of_the_empty_state : enter_code family_outline family (Some 1) (codes "Off") (ByMethod (codes "G")) [] ≡ Opened (record { place = OfState 1 1 0; instruction = 0; slots = values.Text [] ∷ [] })
of_the_empty_state = refl

pub of_a_parent : enter_code family_outline family (Some 1) (codes "On") (ByParent 1 (codes "G")) [] ≡ Opened (record { place = OfState 0 0 1; instruction = 0; slots = values.Text [] ∷ [] })
of_a_parent = refl

pub of_an_auto_property : enter_code family_outline family (Some 1) [] (ByGet (codes "n")) [] ≡ ReadThere 0 0
of_an_auto_property = refl

-- which the file doesn't let be written
pub not_to_be_written : enter_code family_outline family (Some 1) [] (BySet (codes "n")) (int 1 ∷ []) ≡ NothingThere
not_to_be_written = refl

pub of_a_full_property : enter_code family_outline family (Some 1) [] (ByGet (codes "P")) [] ≡ Opened (record { place = OfGet 0 1; instruction = 0; slots = values.Text [] ∷ [] })
of_a_full_property = refl

-- a body opens only with as many arguments as its function has parameters
abbrev with_a_parameter : List Script
with_a_parameter =
    record { properties = []; states = record { name = []; functions = function (codes "F") (kinds.Int ∷ []) (Some kinds.Int ∷ []) (Some kinds.Int) [] [] ∷ [] } ∷ [] } ∷ []

pub without_its_argument : enter_code family_outline with_a_parameter (Some 0) [] (ByMethod (codes "F")) [] ≡ NothingThere
without_its_argument = refl

pub with_its_argument : enter_code family_outline with_a_parameter (Some 0) [] (ByMethod (codes "F")) (int 7 ∷ []) ≡ Opened (record { place = OfState 0 0 0; instruction = 0; slots = int 7 ∷ int 0 ∷ [] })
with_its_argument = refl

-- ---- a run: two calls of a function that reads a variable, traces and writes the variable. The trace lets
-- go, and one of the writes is lost
abbrev bump : Function
bump =
    function (codes "Bump") [] (Some kinds.Int ∷ None ∷ []) None (op.Assign (Slot 0) (Variable 0) ∷ op.CallStatic 0 (codes "Trace") (Slot 1) (Literal (values.Text (codes "x")) ∷ lit 0 ∷ []) ∷ op.IAdd (Variable 0) (Slot 0) (lit 1) ∷ []) (4 ∷ 5 ∷ 6 ∷ [])

abbrev bump_call : CallShape
bump_call = record { turn = 0; instance = 0; function = codes "Bump"; arguments = [] }

abbrev scene : SceneShape
scene =
    record { instances = record { name = codes "c"; script = 1; set = [] } ∷ []; calls = bump_call ∷ bump_call ∷ []; natives = record { script = 0; function = 0; binding = bindings.Trace 0 } ∷ []; tapes = []; devices = 0; order = Round; turns = 100; quantum = 1 }

-- the number of turns, owners, waiters, the stacks that are done, and the lines
abbrev glance : World → ℕ × List (ℕ × ℕ) × List (ℕ × ℕ) × List ℕ × List Line
glance world = (world.turn, world.owners, world.waiters, world.done, world.output)

abbrev x_by : ℕ → Line
x_by stack = Traced stack (codes "x")

abbrev lost_update : List World
lost_update = code_run outline (plain (trace ∷ []) ∷ plain (bump ∷ []) ∷ []) scene [] 6

pub a_lost_update : map glance lost_update ≡ (0, [], [], [], []) ∷ (1, [], (0, 1) ∷ (0, 0) ∷ [], [], x_by 0 ∷ []) ∷ (2, [], (0, 0) ∷ (0, 1) ∷ [], [], x_by 0 ∷ x_by 1 ∷ []) ∷ (3, [], (0, 1) ∷ [], 0 ∷ [], x_by 0 ∷ x_by 1 ∷ []) ∷ (4, [], [], 0 ∷ 1 ∷ [], x_by 0 ∷ x_by 1 ∷ []) ∷ []
a_lost_update = refl

abbrev first_values : World → List (List (ℕ × List Value))
first_values world = map (λ instance. instance.variables) world.instances

abbrev with_number : Value → List (List (ℕ × List Value))
with_number value = ((1, value ∷ []) ∷ []) ∷ []

abbrev wrapped_one : Value
wrapped_one = values.Int (int_wrap w32 (pos 0 +ℤ pos 1))

pub numbers_of_a_lost_update : map first_values lost_update ≡ with_number (int 0) ∷ with_number (int 0) ∷ with_number (int 0) ∷ with_number wrapped_one ∷ with_number wrapped_one ∷ []
numbers_of_a_lost_update = refl
