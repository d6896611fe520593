-- More runs of small scripts, computed from the definitions world by world.
use Rattle.std.proofs.Common.{◌≡◌, ℕ, false, List, [], ◌∷◌, map, Some, None, refl}
use Rattle.std.specs.Prelude.{codes, pos, ◌+ℤ◌}
use Rattle.std.specs.Fmt.{signed_decimal}
use Rattle.std.specs.Int.{w32, int_wrap}
use Rattle.core_tree.specs.declared.core_type.CoreType.TheVariants as kinds
use Rattle.core_tree.specs.declared.operator.Arith.TheVariants as signs
use Rattle.core_tree.specs.declared.scene.BoundNative.{BoundNative}
use Rattle.core_tree.specs.declared.scene_tree.Binding.TheVariants as bindings
use Rattle.core_tree.specs.declared.value.Value.{Value}
use Rattle.core_tree.specs.declared.value.Value.TheVariants as values
use Rattle.core_tree.specs.Scenes.{SceneShape, InstanceShape, CallShape, Round, Listed}
use Rattle.core_tree.specs.Set.{Script, Function, Auto}
use Rattle.core_tree.specs.Tree.{Expression, Literal, Local, Field, SelfValue, Apply, Calculate, Cast, CallMethod, CallNative, Statement, Do, StoreLocal, StoreField, StoreState, Drop, GiveBack, one, two, block}
use Rattle.papy_base.specs.declared.faults.StackFault.TheVariants as faults
use Rattle.script_meaning.specs.Evaluation.{Statements}
use Rattle.script_meaning.specs.Source.{Body, enter_body, source_run}
use Rattle.script_meaning.specs.Stacks.{ByMethod, Entered, Opened, NothingThere}
use Rattle.script_meaning.specs.World.{World, Line, Traced, Faulted}
use Rattle.script_meaning.proofs.Examples.{two_bumps, native, event, script, debug, debug_functions, outline, trace, glance}

abbrev text : List ℕ → Expression
text bytes = Literal (values.Text bytes)

abbrev call_on : ℕ → ℕ → List ℕ → CallShape
call_on turn instance name = record { turn = turn; instance = instance; function = name; arguments = [] }

abbrev instance : List ℕ → ℕ → List (ℕ × ℕ × Value) → InstanceShape
instance name script set = record { name = name; script = script; set = set }

abbrev trace_bound : BoundNative
trace_bound = record { script = 0; function = 0; binding = bindings.Trace 0 }

abbrev round_scene : List InstanceShape → List CallShape → List BoundNative → SceneShape
round_scene instances calls natives =
    record { instances = instances; calls = calls; natives = natives; tapes = []; devices = 0; order = Round; turns = 100; quantum = 1 }

-- ---- one trace, and none
abbrev on_init : List (ℕ × Statement) → Function
on_init body = event (codes "OnInit") [] body

abbrev one_script : List (ℕ × Statement) → Script
one_script body = script (codes "A") [] [] (on_init body ∷ [])

abbrev run_of_one : List (ℕ × Statement) → List World
run_of_one body =
    source_run (outline debug [] debug_functions ∷ outline (one_script body) [] (on_init body ∷ []) ∷ []) (debug ∷ one_script body ∷ []) (round_scene (instance (codes "it") 1 [] ∷ []) (call_on 0 0 (codes "OnInit") ∷ []) (trace_bound ∷ [])) [] 5

pub one_trace : map glance (run_of_one ((3, trace (text (codes "a"))) ∷ [])) ≡ (0, [], [], [], [], []) ∷ (1, [], (0, 0) ∷ [], [], [], Traced 0 (codes "a") ∷ []) ∷ (2, [], [], [], 0 ∷ [], Traced 0 (codes "a") ∷ []) ∷ []
one_trace = refl

pub no_trace : map glance (run_of_one []) ≡ (0, [], [], [], [], []) ∷ (1, [], [], [], 0 ∷ [], []) ∷ []
no_trace = refl

-- ---- an operand's value is taken before the call that follows it writes the variable
abbrev returning : Function
returning =
    record { name = codes "F"; parameters = []; locals = []; result = Some kinds.Int; is_global = false; is_native = false; doc = None; flags = 0; body = block ((4, Do (StoreField 0) (one (Literal (values.Int (pos 5))))) ∷ (5, Do GiveBack (one (Literal (values.Int (pos 1))))) ∷ []); end_line = 6 }

abbrev sum_of_both : Function
sum_of_both =
    on_init ((8, trace (Apply (Cast kinds.Text) (one (Apply (Calculate signs.Add) (two (Field 0) (Apply (CallMethod (codes "F") [] (Some kinds.Int)) (one SelfValue))))))) ∷ [])

abbrev summing : Script
summing = script (codes "A") (record { name = codes "N"; kind = kinds.Int; value = values.Int (pos 0); flags = 0 } ∷ []) [] (returning ∷ sum_of_both ∷ [])

abbrev summed : Line
summed = Traced 0 (signed_decimal (int_wrap w32 (pos 0 +ℤ pos 1)))

pub operands_in_order : map glance (source_run (outline debug [] debug_functions ∷ outline summing [] (returning ∷ sum_of_both ∷ []) ∷ []) (debug ∷ summing ∷ []) (round_scene (instance (codes "it") 1 [] ∷ []) (call_on 0 0 (codes "OnInit") ∷ []) (trace_bound ∷ [])) [] 6) ≡ (0, [], [], [], [], []) ∷ (1, (0, 0) ∷ [], [], [], [], []) ∷ (2, (0, 0) ∷ [], [], [], [], []) ∷ (3, [], (0, 0) ∷ [], [], [], summed ∷ []) ∷ (4, [], [], [], 0 ∷ [], summed ∷ []) ∷ []
operands_in_order = refl

-- ---- two instances that call each other
abbrev call : Expression → List ℕ → List Expression → Statement
call target name [] = Do Drop (one (Apply (CallMethod name [] None) (one target)))
call target name (argument ∷ rest) = Do Drop (one (Apply (CallMethod name (0 ∷ []) None) (two target argument)))

abbrev calls_other : Function
calls_other = on_init ((4, call (Field 0) (codes "Ping") (SelfValue ∷ [])) ∷ [])

abbrev pong : Function
pong = event (codes "Pong") [] ((7, trace (text (codes "pong"))) ∷ [])

abbrev caller : Script
caller = script (codes "A") (record { name = codes "::Other_var"; kind = kinds.Script 2; value = values.NoneValue; flags = 0 } ∷ []) (record { name = codes "Other"; kind = kinds.Script 2; access = Auto 0; doc = None; flags = 0 } ∷ []) (calls_other ∷ pong ∷ [])

abbrev ping : Function
ping =
    record { name = codes "Ping"; parameters = kinds.Script 1 ∷ []; locals = []; result = None; is_global = false; is_native = false; doc = None; flags = 0; body = block ((3, call (Local 0) (codes "Pong") []) ∷ []); end_line = 4 }

abbrev called : Script
called = script (codes "B") [] [] (ping ∷ [])

abbrev ponged : List Line
ponged = Traced 0 (codes "pong") ∷ []

pub ping_and_pong : map glance (source_run (outline debug [] debug_functions ∷ outline caller (record { name = codes "Other"; kind = kinds.Script 2; variable = 0 } ∷ []) (calls_other ∷ pong ∷ []) ∷ outline called [] (ping ∷ []) ∷ []) (debug ∷ caller ∷ called ∷ []) (round_scene (instance (codes "a") 1 ((1, 0, values.Instance 1) ∷ []) ∷ instance (codes "b") 2 [] ∷ []) (call_on 0 0 (codes "OnInit") ∷ []) (trace_bound ∷ [])) [] 8) ≡ (0, [], [], [], [], []) ∷ (1, [], (1, 0) ∷ [], [], [], []) ∷ (2, [], (0, 0) ∷ [], [], [], []) ∷ (3, [], (0, 0) ∷ [], [], [], ponged) ∷ (4, [], (1, 0) ∷ [], [], [], ponged) ∷ (5, [], (0, 0) ∷ [], [], [], ponged) ∷ (6, [], [], [], 0 ∷ [], ponged) ∷ []
ping_and_pong = refl

-- ---- a sleeper, in a listed order with idle turns
abbrev scene_script : Script
scene_script = script (codes "Scene") [] [] (native (codes "Sleep") (kinds.Int ∷ []) ∷ [])

abbrev sleep : ℕ → Statement
sleep turns = Do Drop (one (Apply (CallNative (record { script = 1; place = 0 }) (0 ∷ []) None) (one (Literal (values.Int (pos turns))))))

abbrev sleeper : Function
sleeper = on_init ((3, sleep 2) ∷ (4, trace (text (codes "up"))) ∷ [])

abbrev sleeping : Script
sleeping = script (codes "E") [] [] (sleeper ∷ [])

abbrev sleep_bound : BoundNative
sleep_bound = record { script = 1; function = 0; binding = bindings.Sleep }

abbrev listed_scene : SceneShape
listed_scene =
    record { instances = instance (codes "e") 2 [] ∷ []; calls = call_on 0 0 (codes "OnInit") ∷ []; natives = trace_bound ∷ sleep_bound ∷ []; tapes = []; devices = 0; order = Listed (0 ∷ 0 ∷ 7 ∷ 0 ∷ 0 ∷ []); turns = 5; quantum = 1 }

abbrev up : List Line
up = Traced 0 (codes "up") ∷ []

pub a_sleeper : map glance (source_run (outline debug [] debug_functions ∷ outline scene_script [] (native (codes "Sleep") (kinds.Int ∷ []) ∷ []) ∷ outline sleeping [] (sleeper ∷ []) ∷ []) (debug ∷ scene_script ∷ sleeping ∷ []) listed_scene [] 6) ≡ (0, [], [], [], [], []) ∷ (1, [], [], (0, 3) ∷ [], [], []) ∷ (2, [], [], (0, 3) ∷ [], [], []) ∷ (3, [], [], (0, 3) ∷ [], [], []) ∷ (4, [], (0, 0) ∷ [], [], [], up) ∷ (5, [], [], [], 0 ∷ [], up) ∷ []
a_sleeper = refl

-- ---- a state that is switched while a body of the old state sleeps
abbrev work : List (ℕ × Statement) → Function
work body = event (codes "Work") [] body

abbrev switch : Function
switch = event (codes "Switch") [] ((5, call SelfValue (codes "GotoState") (text (codes "Second") ∷ [])) ∷ [])

abbrev goto_state : Function
goto_state =
    record { name = codes "GotoState"; parameters = kinds.Text ∷ []; locals = []; result = None; is_global = false; is_native = false; doc = None; flags = 0; body = block ((0, call SelfValue (codes "OnEndState") []) ∷ (0, Do StoreState (one (Local 0))) ∷ (0, call SelfValue (codes "OnBeginState") []) ∷ []); end_line = 0 }

abbrev empty_functions_of_work : List Function
empty_functions_of_work =
    work [] ∷ switch ∷ goto_state ∷ event (codes "OnBeginState") [] [] ∷ event (codes "OnEndState") [] [] ∷ []

abbrev first_work : List (ℕ × Statement)
first_work = (9, sleep 3) ∷ (10, trace (text (codes "first"))) ∷ []

abbrev worker : Script
worker =
    record { file = []; name = codes "S"; parent = None; flags = 0; doc = None; auto_state = Some (codes "First"); variables = []; properties = []; states = record { name = []; functions = empty_functions_of_work } ∷ record { name = codes "First"; functions = work first_work ∷ [] } ∷ record { name = codes "Second"; functions = work ((15, trace (text (codes "second"))) ∷ []) ∷ [] } ∷ [] }

abbrev work_scene : SceneShape
work_scene =
    round_scene (instance (codes "x") 2 [] ∷ []) (call_on 0 0 (codes "Work") ∷ call_on 0 0 (codes "Switch") ∷ call_on 10 0 (codes "Work") ∷ []) (trace_bound ∷ sleep_bound ∷ [])

abbrev state_of : World → List (List ℕ)
state_of world = map (λ instance. instance.state) world.instances

abbrev worked : List World
worked =
    source_run (outline debug [] debug_functions ∷ outline scene_script [] (native (codes "Sleep") (kinds.Int ∷ []) ∷ []) ∷ outline worker [] empty_functions_of_work ∷ []) (debug ∷ scene_script ∷ worker ∷ []) work_scene [] 13

abbrev said_first : List Line
said_first = Traced 0 (codes "first") ∷ []

abbrev said_both : List Line
said_both = Traced 0 (codes "first") ∷ Traced 2 (codes "second") ∷ []

pub a_switched_state : map glance worked ≡ (0, [], [], [], [], []) ∷ (1, [], (0, 1) ∷ [], (0, 4) ∷ [], [], []) ∷ (2, (0, 1) ∷ [], [], (0, 4) ∷ [], [], []) ∷ (3, (0, 1) ∷ [], [], (0, 4) ∷ [], [], []) ∷ (4, (0, 1) ∷ [], [], (0, 4) ∷ [], [], []) ∷ (5, (0, 1) ∷ [], (0, 0) ∷ [], [], [], []) ∷ (6, (0, 1) ∷ [], (0, 0) ∷ [], [], [], []) ∷ (7, (0, 1) ∷ [], (0, 0) ∷ [], [], [], []) ∷ (8, [], (0, 0) ∷ [], [], 1 ∷ [], []) ∷ (9, [], (0, 0) ∷ [], [], 1 ∷ [], said_first) ∷ (10, [], [], [], 0 ∷ 1 ∷ [], said_first) ∷ (11, [], (0, 2) ∷ [], [], 0 ∷ 1 ∷ [], said_both) ∷ (12, [], [], [], 0 ∷ 1 ∷ 2 ∷ [], said_both) ∷ []
a_switched_state = refl

-- the state of the instance in each world
abbrev first_state_name : List (List ℕ)
first_state_name = codes "First" ∷ []

abbrev second_state_name : List (List ℕ)
second_state_name = codes "Second" ∷ []

pub states_of_a_switch : map state_of worked ≡ first_state_name ∷ first_state_name ∷ first_state_name ∷ first_state_name ∷ first_state_name ∷ second_state_name ∷ second_state_name ∷ second_state_name ∷ second_state_name ∷ second_state_name ∷ second_state_name ∷ second_state_name ∷ second_state_name ∷ []
states_of_a_switch = refl

-- ---- a call on None: its fault is printed, its default is taken, and no turn ends
abbrev one_function : Function
one_function =
    record { name = codes "One"; parameters = []; locals = []; result = Some kinds.Int; is_global = false; is_native = false; doc = None; flags = 0; body = block ((4, Do GiveBack (one (Literal (values.Int (pos 1))))) ∷ []); end_line = 5 }

abbrev calls_none : Function
calls_none =
    on_init ((7, trace (Apply (Cast kinds.Text) (one (Apply (Calculate signs.Add) (two (Literal (values.Int (pos 2))) (Apply (CallMethod (codes "One") [] (Some kinds.Int)) (one (Field 0)))))))) ∷ [])

abbrev calling_none : Script
calling_none = script (codes "D") (record { name = codes "::Other_var"; kind = kinds.Script 1; value = values.NoneValue; flags = 0 } ∷ []) (record { name = codes "Other"; kind = kinds.Script 1; access = Auto 0; doc = None; flags = 0 } ∷ []) (one_function ∷ calls_none ∷ [])

abbrev none_lines : List Line
none_lines =
    Faulted 0 (record { script = codes "D"; function = codes "OnInit"; line = 7 }) faults.NoneCall ∷ Traced 0 (signed_decimal (int_wrap w32 (pos 2 +ℤ pos 0))) ∷ []

pub a_call_on_none : map glance (source_run (outline debug [] debug_functions ∷ outline calling_none (record { name = codes "Other"; kind = kinds.Script 1; variable = 0 } ∷ []) (one_function ∷ calls_none ∷ []) ∷ []) (debug ∷ calling_none ∷ []) (round_scene (instance (codes "it") 1 [] ∷ []) (call_on 0 0 (codes "OnInit") ∷ []) (trace_bound ∷ [])) [] 5) ≡ (0, [], [], [], [], []) ∷ (1, [], (0, 0) ∷ [], [], [], none_lines) ∷ (2, [], [], [], 0 ∷ [], none_lines) ∷ []
a_call_on_none = refl

-- ---- without the trace no turn ends in the middle, and no write is lost
abbrev quiet_bump : Function
quiet_bump = event (codes "Bump") (kinds.Int ∷ []) ((4, Do (StoreLocal 0) (one (Field 0))) ∷ (5, Do (StoreField 0) (one (Apply (Calculate signs.Add) (two (Local 0) (Literal (values.Int (pos 1))))))) ∷ [])

abbrev quiet_counter : Script
quiet_counter = script (codes "C") (record { name = codes "::N_var"; kind = kinds.Int; value = values.Int (pos 0); flags = 0 } ∷ []) (record { name = codes "N"; kind = kinds.Int; access = Auto 0; doc = None; flags = 0 } ∷ []) (quiet_bump ∷ [])

pub no_lost_update : map glance (source_run (outline debug [] debug_functions ∷ outline quiet_counter (record { name = codes "N"; kind = kinds.Int; variable = 0 } ∷ []) (quiet_bump ∷ []) ∷ []) (debug ∷ quiet_counter ∷ []) two_bumps [] 4) ≡ (0, [], [], [], [], []) ∷ (1, [], (0, 1) ∷ [], [], 0 ∷ [], []) ∷ (2, [], [], [], 0 ∷ 1 ∷ [], []) ∷ []
no_lost_update = refl

-- ---- a body opens only with as many arguments as its function has parameters
abbrev with_a_parameter : Function
with_a_parameter =
    record { name = codes "F"; parameters = kinds.Int ∷ []; locals = kinds.Int ∷ []; result = Some kinds.Int; is_global = false; is_native = false; doc = None; flags = 0; body = block ((3, Do (StoreLocal 1) (one (Literal (values.Int (pos 5))))) ∷ (4, Do GiveBack (one (Apply (Calculate signs.Add) (two (Local 1) (Literal (values.Int (pos 1))))))) ∷ []); end_line = 5 }

abbrev entered_with : List Value → Entered Body
entered_with arguments =
    enter_body (outline (script (codes "A") [] [] (with_a_parameter ∷ [])) [] (with_a_parameter ∷ []) ∷ []) (script (codes "A") [] [] (with_a_parameter ∷ []) ∷ []) (Some 0) [] (ByMethod (codes "F")) arguments

pub without_its_argument : entered_with [] ≡ NothingThere
without_its_argument = refl

pub with_its_argument : entered_with (values.Int (pos 7) ∷ []) ≡ Opened (record { script = 0; function = codes "F"; ending = values.Int (pos 0); locals = values.Int (pos 7) ∷ values.Int (pos 0) ∷ []; line = 0; pending = Statements with_a_parameter.body ∷ [] })
with_its_argument = refl
