-- How a body of the typed trees comes to its next act. Each operand's value is taken before the next
-- operand is opened, from left to right. An evaluation gives a value, or it stops at an act with what is
-- pending, the innermost first.
use Rattle.std.specs.Prelude.{ℕ, ◌==◌, not, if◌then◌else◌, neg_ℤ, List, [], ◌∷◌, ◌++◌, map, length, drop, position, Option, Some, None, slice_index_or, slice_set}
use Rattle.std.specs.Int.{w32, int_wrap}
use Rattle.std.specs.List.{range_with_len}
use Rattle.core_tree.specs.declared.core_type.CoreType.{CoreType}
use Rattle.core_tree.specs.declared.operator.Arith.{Arith}
use Rattle.core_tree.specs.declared.value.Value.{Value}
use Rattle.core_tree.specs.declared.value.Value.TheVariants as values
use Rattle.core_tree.specs.Set.{Script, Function, empty_functions}
use Rattle.core_tree.specs.Tree.{Operation, Calculate, Negate, Not, Join, Equal, Compare, Cast, CallMethod, CallParent, CallGlobal, CallNative, GetProperty, NewArray, Length, Element, Find, FindBack, Expression, Literal, Local, Field, SelfValue, StateText, And, Or, Apply, Expressions, NoExpression, MoreExpressions, Effect, StoreLocal, StoreField, StoreState, StoreProperty, StoreElement, Drop, GiveBack, Statement, Do, ChangeProperty, ChangeElement, If, While, Block, NoStatement, MoreStatements, Branches, NoBranch, MoreBranches}
use Rattle.papy_base.specs.declared.faults.StackFault.{StackFault}
use Rattle.script_meaning.specs.Arrays.{with_array, new_array, length_of, element_of, write_fault, with_element, found, found_back}
use Rattle.script_meaning.specs.Requests.{Sight, Setting, Request, ParentMethod, GlobalFunction, GlobalNative, LoopPass, Return, Question, Asks, method_of, get_of, set_of, Answer, Reply, Act, answer, faulted_where}
use Rattle.script_meaning.specs.Values.{Result, number_of, text_of, instance_of, array_of, is_true, cast_to, equal, in_order, calculated, joined, script_name}
use Rattle.core_tree.specs.Values.{default_of, default_result}
use Rattle.script_meaning.specs.World.{Place, variable_of, with_variable}

-- ---- what stays and what changes while a body runs
-- the scripts of the set, and the script and name of the function or property
pub record Home : Type 0 where
  pub setting : Setting
  pub scripts : List Script
  pub script : ℕ
  pub function : List ℕ

-- the parameters and locals, the line of the statement or test, and what the body may see
pub record Inner : Type 0 where
  pub locals : List Value
  pub line : ℕ
  pub sight : Sight

-- an evaluation that waits for a value
pub data Pending : Type 0 where
  -- for the value of an operand: the values before it were taken, and these operands follow
  Operand : (operation : Operation) (taken : List Value) (rest : Expressions) → Pending
  EffectOperand : (effect : Effect) (taken : List Value) (rest : Expressions) → Pending
  -- for the left side of `&&` and `||`
  AndThen : (right : Expression) → Pending
  OrElse : (right : Expression) → Pending
  -- in `of.name += right`: for the target, for the old value, for the right side
  PropertyTarget : (name : List ℕ) (kind : CoreType) (operation : Arith) (right : Expression) → Pending
  PropertyOld : (target : Value) (name : List ℕ) (operation : Arith) (right : Expression) → Pending
  PropertyRight : (target : Value) (name : List ℕ) (operation : Arith) (old : Value) → Pending
  -- in `array[index] += right`: for the array, for the index, for the right side
  ElementArray : (index : Expression) (kind : CoreType) (operation : Arith) (right : Expression) → Pending
  ElementIndex : (array : Value) (kind : CoreType) (operation : Arith) (right : Expression) → Pending
  ElementRight : (array index : Value) (operation : Arith) (old : Value) → Pending
  -- for the test of an If: its statements, the tests that follow, and those of Else
  Test : (body : Block) (rest : Branches) (otherwise : Block) → Pending
  -- for the test of a While, for the end of its statements, and for the turn to go on after a pass
  LoopTest : (line : ℕ) (test : Expression) (body : Block) → Pending
  LoopBody : (line : ℕ) (test : Expression) (body : Block) → Pending
  Loop : (line : ℕ) (test : Expression) (body : Block) → Pending
  -- for the end of a statement: these follow
  Statements : (rest : Block) → Pending

pub data Outcome : Type 0 where
  Gives : (value : Value) (inner : Inner) → Outcome
  Stops : (request : Request) (pending : List Pending) (inner : Inner) → Outcome

-- goes on with the value, or stops with one more that waits
abbrev pub then_do : Outcome → (Value → Inner → Outcome) → Pending → Outcome
then_do (Gives value inner) go waiting = go value inner
then_do (Stops request pending inner) go waiting = Stops request (pending ++ waiting ∷ []) inner

abbrev pub place_of : Home → ℕ → Place
place_of home line =
    record { script = script_name home.setting.outline home.script; function = home.function; line = line }

abbrev pub asked : Inner → Answer → Outcome
asked inner (Reply value sight) = Gives value (record inner { sight = sight })
asked inner (Act request) = Stops request [] inner

-- a question, which may be answered at once
abbrev pub ask : Home → Question → Inner → Outcome
ask home question inner = asked inner (answer home.setting (place_of home inner.line) question inner.sight)

-- a result, whose fault is printed
abbrev pub noted : Home → Option StackFault → Inner → Inner
noted home fault inner =
    record inner { sight = faulted_where home.setting (place_of home inner.line) fault inner.sight }

abbrev pub settled : Home → Result → Inner → Outcome
settled home result inner = Gives result.0 (noted home result.1 inner)

abbrev pub at_line : ℕ → Inner → Inner
at_line line inner = record inner { line = line }

-- ---- operations
abbrev pub taken_at : List Value → ℕ → Value
taken_at taken place = slice_index_or taken place values.NoneValue

-- the arguments by parameter, where `places` has the parameter of each
abbrev pub place_or_zero : Option ℕ → ℕ
place_or_zero None = 0
place_or_zero (Some place) = place

abbrev pub by_parameter : List ℕ → List Value → List Value
by_parameter places arguments =
    map (λ number. taken_at arguments (place_or_zero (position (λ place. place == number) places))) (range_with_len 0 (length places))

abbrev pub self_value : Option ℕ → Value
self_value None = values.NoneValue
self_value (Some number) = values.Instance number

-- the functions of the empty state of the script of this number
abbrev pub functions_at : List Script → ℕ → List Function
functions_at scripts script = slice_index_or (map empty_functions scripts) script []

abbrev pub name_at : List Script → ℕ → ℕ → List ℕ
name_at scripts script place = slice_index_or (map (λ function. function.name) (functions_at scripts script)) place []

abbrev pub with_new_array : CoreType → ℕ → Inner → Inner
with_new_array kind count inner =
    record inner { sight = record inner.sight { arrays = with_array inner.sight.arrays kind count } }

-- an operation on the values of its operands
abbrev pub applied : Home → Operation → List Value → Inner → Outcome
applied home (Calculate operation) taken inner = settled home (calculated operation (taken_at taken 0) (taken_at taken 1)) inner
applied home Negate taken inner = Gives (values.Int (int_wrap w32 (neg_ℤ (number_of (taken_at taken 0))))) inner
applied home Not taken inner = Gives (values.Bool (not (is_true (taken_at taken 0)))) inner
applied home Join taken inner = settled home (joined (text_of (taken_at taken 0)) (text_of (taken_at taken 1))) inner
applied home Equal taken inner = Gives (values.Bool (equal (taken_at taken 0) (taken_at taken 1))) inner
applied home (Compare order) taken inner =
    Gives (values.Bool (in_order order (number_of (taken_at taken 0)) (number_of (taken_at taken 1)))) inner
applied home (Cast to) taken inner = Gives (cast_to home.setting.outline home.setting.instances to (taken_at taken 0)) inner
applied home (CallMethod name places result) taken inner =
    ask home (method_of (instance_of (taken_at taken 0)) name (by_parameter places (drop 1 taken)) (default_result result)) inner
applied home (CallParent name places result) taken inner =
    ask home (Asks (ParentMethod home.script name (by_parameter places taken) (default_result result))) inner
applied home (CallGlobal at places result) taken inner =
    ask home (Asks (GlobalFunction at.script (name_at home.scripts at.script at.place) (by_parameter places taken) (default_result result))) inner
applied home (CallNative at places result) taken inner = ask home (Asks (GlobalNative at (by_parameter places taken))) inner
applied home (GetProperty name kind) taken inner = ask home (get_of (instance_of (taken_at taken 0)) name (default_of kind)) inner
applied home (NewArray kind count) taken inner =
    settled home (new_array inner.sight.arrays) (with_new_array kind count inner)
applied home Length taken inner = settled home (length_of inner.sight.arrays (array_of (taken_at taken 0))) inner
applied home (Element kind) taken inner =
    settled home (element_of inner.sight.arrays (array_of (taken_at taken 0)) (number_of (taken_at taken 1)) (default_of kind)) inner
applied home Find taken inner =
    settled home (found inner.sight.arrays (array_of (taken_at taken 0)) (taken_at taken 1) (number_of (taken_at taken 2))) inner
applied home FindBack taken inner =
    settled home (found_back inner.sight.arrays (array_of (taken_at taken 0)) (taken_at taken 1) (number_of (taken_at taken 2))) inner

-- ---- expressions
-- the right side of `&&` or `||`, unless the left side decides
abbrev pub and_then : (Inner → Outcome) → Value → Inner → Outcome
and_then right left inner = if is_true left then right inner else Gives left inner

abbrev pub or_else : (Inner → Outcome) → Value → Inner → Outcome
or_else right left inner = if is_true left then Gives left inner else right inner

abbrev mutual
  pub evaluated : Home → Expression → Inner → Outcome
  evaluated home (Literal value) inner = Gives value inner
  evaluated home (Local number) inner = Gives (taken_at inner.locals number) inner
  evaluated home (Field number) inner = Gives (variable_of inner.sight.variables home.script number) inner
  evaluated home SelfValue inner = Gives (self_value home.setting.self) inner
  evaluated home StateText inner = Gives (values.Text inner.sight.state) inner
  evaluated home (And left right) inner = then_do (evaluated home left inner) (and_then (evaluated home right)) (AndThen right)
  evaluated home (Or left right) inner = then_do (evaluated home left inner) (or_else (evaluated home right)) (OrElse right)
  evaluated home (Apply operation operands) inner = with_operands home operation [] operands inner

  -- the operands from here on, after the values of those before were taken
  pub with_operands : Home → Operation → List Value → Expressions → Inner → Outcome
  with_operands home operation taken NoExpression inner = applied home operation taken inner
  with_operands home operation taken (MoreExpressions first rest) inner =
      then_do (evaluated home first inner) (λ value after. with_operands home operation (taken ++ value ∷ []) rest after) (Operand operation taken rest)

-- ---- what statements do with the values of their operands
abbrev pub with_local : ℕ → Value → Inner → Inner
with_local number value inner = record inner { locals = slice_set inner.locals number value }

abbrev pub with_field : ℕ → ℕ → Value → Inner → Inner
with_field script number value inner =
    record inner { sight = record inner.sight { variables = with_variable inner.sight.variables script number value } }

-- a body without an instance has no state
abbrev pub state_changed : Option ℕ → List ℕ → Sight → Sight
state_changed None state sight = sight
state_changed (Some own) state sight = record sight { state = state }

abbrev pub with_state : Home → List ℕ → Inner → Inner
with_state home state inner = record inner { sight = state_changed home.setting.self state inner.sight }

-- an element is written, unless that faults
abbrev pub with_stored : Home → Value → Value → Value → Inner → Inner
with_stored home array index value inner =
    noted home (write_fault inner.sight.arrays (array_of array) (number_of index)) (record inner { sight = record inner.sight { arrays = with_element inner.sight.arrays (array_of array) (number_of index) value } })

abbrev pub nothing : Inner → Outcome
nothing inner = Gives values.NoneValue inner

abbrev pub effected : Home → Effect → List Value → Inner → Outcome
effected home (StoreLocal number) taken inner = nothing (with_local number (taken_at taken 0) inner)
effected home (StoreField number) taken inner = nothing (with_field home.script number (taken_at taken 0) inner)
effected home StoreState taken inner = nothing (with_state home (text_of (taken_at taken 0)) inner)
effected home (StoreProperty name) taken inner = ask home (set_of (instance_of (taken_at taken 0)) name (taken_at taken 1)) inner
effected home StoreElement taken inner = nothing (with_stored home (taken_at taken 0) (taken_at taken 1) (taken_at taken 2) inner)
effected home Drop taken inner = nothing inner
effected home GiveBack taken inner = ask home (Asks (Return (taken_at taken 0))) inner

abbrev pub with_effect : Home → Effect → List Value → Expressions → Inner → Outcome
with_effect home effect taken NoExpression inner = effected home effect taken inner
with_effect home effect taken (MoreExpressions first rest) inner =
    then_do (evaluated home first inner) (λ value after. with_effect home effect (taken ++ value ∷ []) rest after) (EffectOperand effect taken rest)

-- ---- compound assignments
abbrev pub property_right : Home → Value → List ℕ → Arith → Value → Value → Inner → Outcome
property_right home target name operation old right inner =
    let result = calculated operation old right in
    ask home (set_of (instance_of target) name result.0) (noted home result.1 inner)

abbrev pub property_old : Home → Value → List ℕ → Arith → Expression → Value → Inner → Outcome
property_old home target name operation right old inner =
    then_do (evaluated home right inner) (property_right home target name operation old) (PropertyRight target name operation old)

abbrev pub property_target : Home → List ℕ → CoreType → Arith → Expression → Value → Inner → Outcome
property_target home name kind operation right target inner =
    then_do (ask home (get_of (instance_of target) name (default_of kind)) inner) (property_old home target name operation right) (PropertyOld target name operation right)

abbrev pub element_right : Home → Value → Value → Arith → Value → Value → Inner → Outcome
element_right home array index operation old right inner =
    let result = calculated operation old right in
    nothing (with_stored home array index result.0 (noted home result.1 inner))

abbrev pub element_index : Home → Value → CoreType → Arith → Expression → Value → Inner → Outcome
element_index home array kind operation right index inner =
    let old = element_of inner.sight.arrays (array_of array) (number_of index) (default_of kind) in
    then_do (evaluated home right (noted home old.1 inner)) (element_right home array index operation old.0) (ElementRight array index operation old.0)

abbrev pub element_array : Home → Expression → CoreType → Arith → Expression → Value → Inner → Outcome
element_array home index kind operation right array inner =
    then_do (evaluated home index inner) (element_index home array kind operation right) (ElementIndex array kind operation right)

-- ---- statements
-- after the statements of a While: a loop pass, and then the While is opened again
abbrev pub passed : Home → ℕ → Expression → Block → Inner → Outcome
passed home line test body inner = Stops LoopPass (Loop line test body ∷ []) inner

-- after the test of a While
abbrev pub tested : Home → ℕ → Expression → Block → (Inner → Outcome) → Value → Inner → Outcome
tested home line test body run value inner =
    if is_true value then then_do (run inner) (λ done after. passed home line test body after) (LoopBody line test body) else nothing inner

abbrev pub looped : Home → ℕ → Expression → Block → (Inner → Outcome) → Inner → Outcome
looped home line test body run inner =
    then_do (evaluated home test (at_line line inner)) (tested home line test body run) (LoopTest line test body)

abbrev mutual
  pub done : Home → ℕ → Statement → Inner → Outcome
  done home line (Do effect operands) inner = with_effect home effect [] operands inner
  done home line (ChangeProperty of name kind operation right) inner =
      then_do (evaluated home of inner) (property_target home name kind operation right) (PropertyTarget name kind operation right)
  done home line (ChangeElement array index kind operation right) inner =
      then_do (evaluated home array inner) (element_array home index kind operation right) (ElementArray index kind operation right)
  done home line (If branches otherwise) inner = chosen home otherwise (all_done home otherwise) branches inner
  done home line (While test body end_line) inner = looped home line test body (all_done home body) inner

  -- statements in a row
  pub all_done : Home → Block → Inner → Outcome
  all_done home NoStatement inner = nothing inner
  all_done home (MoreStatements line first rest) inner =
      then_do (done home line first (at_line line inner)) (λ value after. all_done home rest after) (Statements rest)

  -- the statements of the first test that holds, or those of Else
  pub chosen : Home → Block → (Inner → Outcome) → Branches → Inner → Outcome
  chosen home otherwise run_otherwise NoBranch inner = run_otherwise inner
  chosen home otherwise run_otherwise (MoreBranches line test body rest) inner =
      then_do (evaluated home test (at_line line inner)) (λ value after. if is_true value then all_done home body after else chosen home otherwise run_otherwise rest after) (Test body rest otherwise)

-- ---- going on
-- what waits for a value gets it
abbrev pub given : Home → Pending → Value → Inner → Outcome
given home (Operand operation taken rest) value inner = with_operands home operation (taken ++ value ∷ []) rest inner
given home (EffectOperand effect taken rest) value inner = with_effect home effect (taken ++ value ∷ []) rest inner
given home (AndThen right) value inner = and_then (evaluated home right) value inner
given home (OrElse right) value inner = or_else (evaluated home right) value inner
given home (PropertyTarget name kind operation right) value inner = property_target home name kind operation right value inner
given home (PropertyOld target name operation right) value inner = property_old home target name operation right value inner
given home (PropertyRight target name operation old) value inner = property_right home target name operation old value inner
given home (ElementArray index kind operation right) value inner = element_array home index kind operation right value inner
given home (ElementIndex array kind operation right) value inner = element_index home array kind operation right value inner
given home (ElementRight array index operation old) value inner = element_right home array index operation old value inner
given home (Test body rest otherwise) value inner =
    if is_true value then all_done home body inner else chosen home otherwise (all_done home otherwise) rest inner
given home (LoopTest line test body) value inner = tested home line test body (all_done home body) value inner
given home (LoopBody line test body) value inner = passed home line test body inner
given home (Loop line test body) value inner = looped home line test body (all_done home body) inner
given home (Statements rest) value inner = all_done home rest inner

-- goes on with the value, or stops with those that wait outside
abbrev pub onward : Outcome → (Value → Inner → Outcome) → List Pending → Outcome
onward (Gives value inner) go outside = go value inner
onward (Stops request pending inner) go outside = Stops request (pending ++ outside) inner

-- all that waits, the innermost first
abbrev pub resumed : Home → List Pending → Value → Inner → Outcome
resumed home [] value inner = Gives value inner
resumed home (first ∷ rest) value inner =
    onward (given home first value inner) (λ next after. resumed home rest next after) rest
