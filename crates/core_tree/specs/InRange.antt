-- That each number in a set of scripts names what is there: a script, a function of an empty state, a
-- variable, a parameter or local, or the parameter of an argument; and that each call passes as many
-- arguments as the function has parameters.
use Rattle.std.specs.Prelude.{◌≡◌, ℕ, suc, pred, ◌+◌, ◌<◌, List, map, length, Option, Some, None, option_and_then, nat_eq, slice_get, All}
use Rattle.std.specs.List.{IsDistinct}
use Rattle.core_tree.specs.declared.core_type.CoreType.{CoreType}
use Rattle.core_tree.specs.declared.core_type.CoreType.TheVariants as kinds
use Rattle.core_tree.specs.declared.expression.FunctionPlace.{FunctionPlace}
use Rattle.core_tree.specs.declared.script.CoreSet.{CoreSet}
use Rattle.core_tree.specs.declared.script.CoreVariable.{CoreVariable}
use Rattle.core_tree.specs.declared.value.Value.{Value}
use Rattle.core_tree.specs.declared.value.Value.TheVariants as values
use Rattle.papy_base.specs.Case.{SameIgnoringCase}
use Rattle.core_tree.specs.Set.{Function, Access, Auto, Full, Property, State, Script, empty_functions, scripts_of}
use Rattle.core_tree.specs.Tree.{Operation, Cast, CallMethod, CallParent, CallGlobal, CallNative, GetProperty, NewArray, Element, Expression, Literal, Local, Field, SelfValue, StateText, And, Or, Apply, Expressions, NoExpression, MoreExpressions, Effect, StoreLocal, StoreField, Statement, Do, ChangeProperty, ChangeElement, If, While, Block, NoStatement, MoreStatements, Branches, NoBranch, MoreBranches}

-- a function's name, and how many parameters it has
pub record Signature : Type 0 where
  pub name : List ℕ
  pub parameters : ℕ

-- for each script of a set the functions of its empty state, in order of place
abbrev pub Signatures : Type 0
Signatures = List (List Signature)

-- what a function may name: the functions of the set's empty states, and by number the variables of the
-- function's script and its own parameters and locals
pub record Bounds : Type 0 where
  pub functions : Signatures
  pub variables : ℕ
  pub locals : ℕ

-- ---- types, literals and functions
abbrev pub TypeInRange : Signatures → CoreType → Type 0
TypeInRange functions (kinds.Script number) = number < length functions
TypeInRange functions (kinds.ScriptArray number) = number < length functions
TypeInRange functions _ = Unit {0}

abbrev pub ResultInRange : Signatures → Option CoreType → Type 0
ResultInRange functions None = Unit {0}
ResultInRange functions (Some kind) = TypeInRange functions kind

-- a set has no instances and no arrays, so no literal is one
abbrev pub LiteralInRange : Value → Type 0
LiteralInRange (values.Instance number) = ⊥
LiteralInRange (values.Array number) = ⊥
LiteralInRange _ = Unit {0}

-- the function of an empty state that stands at this place
abbrev pub function_at : Signatures → FunctionPlace → Option Signature
function_at functions at = option_and_then (λ own. slice_get own at.place) (slice_get functions at.script)

-- a function stands at this place that has so many parameters
abbrev pub PlaceTakes : Signatures → FunctionPlace → (arguments : ℕ) → Type 0
PlaceTakes functions at arguments =
    (own : Signature) × (function_at functions at ≡ Some own) × (own.parameters ≡ arguments)

-- a function of the set has this name, with the case ignored, and so many parameters
abbrev pub NameTakes : Signatures → (name : List ℕ) → (arguments : ℕ) → Type 0
NameTakes functions name arguments =
    (at : FunctionPlace) × (own : Signature) × (function_at functions at ≡ Some own) × SameIgnoringCase own.name name × (own.parameters ≡ arguments)

-- of as many parameters as arguments each has one argument: the parameters' places are different
pub record PlacesInRange (places : List ℕ) (arguments : ℕ) : Type 0 where
  pub one_each : length places ≡ arguments
  pub within : All (λ place. place < arguments) places
  pub different : IsDistinct nat_eq places

-- ---- expressions
abbrev pub count_of : Expressions → ℕ
count_of NoExpression = 0
count_of (MoreExpressions first rest) = suc (count_of rest)

-- an operation on so many operands
abbrev pub OperationInRange : Signatures → Operation → (operands : ℕ) → Type 0
OperationInRange functions (Cast to) operands = TypeInRange functions to
OperationInRange functions (CallMethod name places result) operands =
    NameTakes functions name (pred operands) × PlacesInRange places (pred operands) × ResultInRange functions result
OperationInRange functions (CallParent name places result) operands =
    NameTakes functions name operands × PlacesInRange places operands × ResultInRange functions result
OperationInRange functions (CallGlobal at places result) operands =
    PlaceTakes functions at operands × PlacesInRange places operands × ResultInRange functions result
OperationInRange functions (CallNative at places result) operands =
    PlaceTakes functions at operands × PlacesInRange places operands × ResultInRange functions result
OperationInRange functions (GetProperty name kind) operands = TypeInRange functions kind
OperationInRange functions (NewArray kind count) operands = TypeInRange functions kind
OperationInRange functions (Element kind) operands = TypeInRange functions kind
OperationInRange functions _ operands = Unit {0}

abbrev mutual
  pub ExpressionInRange : Bounds → Expression → Type 0
  ExpressionInRange b (Literal value) = LiteralInRange value
  ExpressionInRange b (Local number) = number < b.locals
  ExpressionInRange b (Field number) = number < b.variables
  ExpressionInRange b SelfValue = Unit {0}
  ExpressionInRange b StateText = Unit {0}
  ExpressionInRange b (And left right) = ExpressionInRange b left × ExpressionInRange b right
  ExpressionInRange b (Or left right) = ExpressionInRange b left × ExpressionInRange b right
  ExpressionInRange b (Apply operation operands) =
      OperationInRange b.functions operation (count_of operands) × ExpressionsInRange b operands

  pub ExpressionsInRange : Bounds → Expressions → Type 0
  ExpressionsInRange b NoExpression = Unit {0}
  ExpressionsInRange b (MoreExpressions first rest) = ExpressionInRange b first × ExpressionsInRange b rest

-- ---- statements
abbrev pub EffectInRange : Bounds → Effect → Type 0
EffectInRange b (StoreLocal number) = number < b.locals
EffectInRange b (StoreField number) = number < b.variables
EffectInRange b _ = Unit {0}

abbrev mutual
  pub StatementInRange : Bounds → Statement → Type 0
  StatementInRange b (Do effect operands) = EffectInRange b effect × ExpressionsInRange b operands
  StatementInRange b (ChangeProperty of name kind operation right) =
      ExpressionInRange b of × TypeInRange b.functions kind × ExpressionInRange b right
  StatementInRange b (ChangeElement array index kind operation right) =
      ExpressionInRange b array × ExpressionInRange b index × TypeInRange b.functions kind × ExpressionInRange b right
  StatementInRange b (If branches otherwise) = BranchesInRange b branches × BlockInRange b otherwise
  StatementInRange b (While test body end_line) = ExpressionInRange b test × BlockInRange b body

  pub BlockInRange : Bounds → Block → Type 0
  BlockInRange b NoStatement = Unit {0}
  BlockInRange b (MoreStatements line first rest) = StatementInRange b first × BlockInRange b rest

  pub BranchesInRange : Bounds → Branches → Type 0
  BranchesInRange b NoBranch = Unit {0}
  BranchesInRange b (MoreBranches line test body rest) =
      ExpressionInRange b test × BlockInRange b body × BranchesInRange b rest

-- ---- scripts
-- a function of a script with so many variables
pub record FunctionInRange (functions : Signatures) (variables : ℕ) (f : Function) : Type 0 where
  pub parameters : All (TypeInRange functions) f.parameters
  pub locals : All (TypeInRange functions) f.locals
  pub result : ResultInRange functions f.result
  pub body : BlockInRange (record { functions = functions; variables = variables; locals = length f.parameters + length f.locals }) f.body

abbrev pub AccessorInRange : Signatures → ℕ → Option Function → Type 0
AccessorInRange functions variables None = Unit {0}
AccessorInRange functions variables (Some f) = FunctionInRange functions variables f

abbrev pub AccessInRange : Signatures → ℕ → Access → Type 0
AccessInRange functions variables (Auto variable) = variable < variables
AccessInRange functions variables (Full read write) =
    AccessorInRange functions variables read × AccessorInRange functions variables write

abbrev pub VariableInRange : Signatures → CoreVariable → Type 0
VariableInRange functions v = TypeInRange functions v.kind × LiteralInRange v.value

abbrev pub PropertyInRange : Signatures → ℕ → Property → Type 0
PropertyInRange functions variables p = TypeInRange functions p.kind × AccessInRange functions variables p.access

abbrev pub StateInRange : Signatures → ℕ → State → Type 0
StateInRange functions variables s = All (FunctionInRange functions variables) s.functions

abbrev pub ParentInRange : Signatures → Option ℕ → Type 0
ParentInRange functions None = Unit {0}
ParentInRange functions (Some number) = number < length functions

-- a script of a set whose scripts have these functions in their empty states
pub record ScriptInRange (functions : Signatures) (s : Script) : Type 0 where
  pub parent : ParentInRange functions s.parent
  pub variables : All (VariableInRange functions) s.variables
  pub properties : All (PropertyInRange functions (length s.variables)) s.properties
  pub states : All (StateInRange functions (length s.variables)) s.states

abbrev pub signature_of : Function → Signature
signature_of f = record { name = f.name; parameters = length f.parameters }

-- the functions of each script's empty state
abbrev pub signatures : List Script → Signatures
signatures scripts = map (λ script. map signature_of (empty_functions script)) scripts

-- each number in the set is in range, and each call passes an argument for each parameter
abbrev pub InRange : CoreSet → Type 0
InRange set = All (ScriptInRange (signatures (scripts_of set))) (scripts_of set)
