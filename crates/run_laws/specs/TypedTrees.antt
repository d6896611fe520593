-- Typed trees: by cases on forms, each part is of the type that its place asks for. Conversions are written
-- out, so types are the same, and only None is of several.
use Rattle.std.specs.Prelude.{◌≡◌, ℕ, ◌≤◌, ◌==◌, Bool, true, false, List, [], ◌∷◌, ◌++◌, map, length, position, Option, Some, None, slice_get}
use Rattle.std.specs.List.{range_with_len, AllByRecursion}
use Rattle.core_tree.specs.declared.core_type.CoreType.{CoreType}
use Rattle.core_tree.specs.declared.core_type.CoreType.TheVariants as kinds
use Rattle.core_tree.specs.declared.operator.Arith.{Arith}
use Rattle.core_tree.specs.Outlines.{ScriptShape, FunctionShape}
use Rattle.core_tree.specs.Set.{Script, Function, Property, Access, Auto, Full}
use Rattle.core_tree.specs.Tree.{Operation, Calculate, Negate, Not, Join, Equal, Compare, Cast, CallMethod, CallParent, CallGlobal, CallNative, GetProperty, NewArray, Length, Element, Find, FindBack, Expression, Literal, Local, Field, SelfValue, StateText, And, Or, Apply, Expressions, NoExpression, MoreExpressions, Effect, StoreLocal, StoreField, StoreState, StoreProperty, StoreElement, Drop, GiveBack, Statement, Do, ChangeProperty, ChangeElement, If, While, Block, NoStatement, MoreStatements, Branches, NoBranch, MoreBranches}
use Rattle.script_meaning.specs.Evaluation.{Pending, Operand, EffectOperand, AndThen, OrElse, PropertyTarget, PropertyOld, PropertyRight, ElementArray, ElementIndex, ElementRight, Test, LoopTest, LoopBody, Loop, Statements, place_or_zero, name_at}
use Rattle.run_laws.specs.Fits.{Known, known, HasType, IsResult, HaveTypes, typed, is_native_at, Types}
use Rattle.run_laws.specs.Keeps.{IsVariable, IsOn}
use Rattle.script_meaning.specs.Requests.{functions_in, result_of}
use Rattle.script_meaning.specs.Source.{Body, first_empty, method_in, native_there, first_property}
use Rattle.script_meaning.specs.Stacks.{Way, ByMethod, ByParent, ByGlobal, ByGet, BySet}
use Rattle.script_meaning.specs.Values.{arith_kind, is_child, lineage, parent_in}
use Rattle.core_tree.specs.Values.{element_kind}

-- ---- calls
-- parameters and result, as `is_global` wants it; a native function stands in the outline
abbrev pub FunctionMeets : List ScriptShape → List Script → Bool → List CoreType → Option CoreType → Option (ℕ × Function) → Type 0
FunctionMeets outline scripts is_global parameters result None = ⊥
FunctionMeets outline scripts is_global parameters result (Some (script, function)) =
    (function.parameters ≡ parameters) × (function.result ≡ result) × (function.is_global ≡ is_global) × (function.is_native ≡ true → (is_native_at outline (native_there scripts script function.name) ≡ true) × (result_of outline (native_there scripts script function.name) ≡ result))

abbrev pub AccessorMeets : List CoreType → Option CoreType → Option Function → Type 0
AccessorMeets parameters result None = ⊥
AccessorMeets parameters result (Some function) =
    (function.parameters ≡ parameters) × (function.result ≡ result) × (function.is_global ≡ false)

abbrev pub GetMeets : List ScriptShape → Option CoreType → ℕ → Access → Type 0
GetMeets outline result script (Auto variable) =
    (kind : CoreType) × (result ≡ Some kind) × IsVariable outline script variable kind
GetMeets outline result script (Full read write) = AccessorMeets [] result read

abbrev pub SetMeets : List ScriptShape → List CoreType → Option CoreType → ℕ → Access → Type 0
SetMeets outline parameters result script (Auto variable) =
    (result ≡ None) × ((kind : CoreType) × (parameters ≡ kind ∷ []) × IsVariable outline script variable kind)
SetMeets outline parameters result script (Full read write) = AccessorMeets parameters result write

abbrev pub WhereFound : Option (ℕ × Property) → (ℕ → Access → Type 0) → Type 0
WhereFound None meets = ⊥
WhereFound (Some (script, property)) meets = meets script property.access

-- what is found by a way, whatever the state of the instance is, has these parameters and this result
abbrev pub Calls : List ScriptShape → List Script → Option ℕ → Way → List CoreType → Option CoreType → Type 0
Calls outline scripts own (ByMethod name) parameters result =
    (state : List ℕ) → FunctionMeets outline scripts false parameters result (method_in scripts (lineage outline own) state name)
Calls outline scripts own (ByParent script name) parameters result =
    IsOn outline own script false × ((state : List ℕ) → FunctionMeets outline scripts false parameters result (method_in scripts (lineage outline (parent_in (slice_get outline script))) state name))
Calls outline scripts own (ByGlobal script name) parameters result =
    (own ≡ None) × FunctionMeets outline scripts true parameters result (first_empty scripts (lineage outline (Some script)) name)
Calls outline scripts own (ByGet name) parameters result =
    (parameters ≡ []) × WhereFound (first_property scripts (lineage outline own) name) (GetMeets outline result)
Calls outline scripts own (BySet name) parameters result =
    WhereFound (first_property scripts (lineage outline own) name) (SetMeets outline parameters result)

-- ---- where a part stands
pub record Scope : Type 0 where
  pub outline : List ScriptShape
  pub scripts : List Script
  pub script : ℕ
  pub is_global : Bool
  -- of the parameters and the locals
  pub locals : List CoreType
  pub result : Option CoreType

-- so on each instance of this script
abbrev pub CallsOn : Scope → ℕ → Way → List CoreType → Option CoreType → Type 0
CallsOn scope script way parameters result =
    (own : ℕ) → is_child scope.outline own script ≡ true → Calls scope.outline scope.scripts (Some own) way parameters result

-- each parameter has the argument that is written for it
abbrev pub ArePlaced : List ℕ → List CoreType → List CoreType → Type 0
ArePlaced places written parameters =
    map (λ number. slice_get written (place_or_zero (position (λ place. place == number) places))) (range_with_len 0 (length places)) ≡ map (λ kind. Some kind) parameters

abbrev pub parameters_in : Option FunctionShape → List CoreType
parameters_in None = []
parameters_in (Some function) = function.parameters

-- ---- operations
-- what `as` allows
abbrev pub CanCast : CoreType → CoreType → Type 0
CanCast kinds.Int kinds.Bool = Unit {0}
CanCast kinds.Int kinds.Text = Unit {0}
CanCast kinds.Bool from = Unit {0}
CanCast kinds.Text kinds.IntArray = ⊥
CanCast kinds.Text kinds.BoolArray = ⊥
CanCast kinds.Text kinds.TextArray = ⊥
CanCast kinds.Text (kinds.ScriptArray script) = ⊥
CanCast kinds.Text from = Unit {0}
CanCast (kinds.Script to) (kinds.Script from) = Unit {0}
CanCast to from = from ≡ to

-- an array of elements of this type
abbrev pub IsArrayOf : CoreType → CoreType → Type 0
IsArrayOf array element = element_kind array ≡ Some element

-- an operation takes operands of these types and gives a value of this type
abbrev pub Operates : Scope → Operation → List (Option CoreType) → Option CoreType → Type 0
Operates scope (Calculate operation) taken result =
    (taken ≡ typed (arith_kind operation ∷ arith_kind operation ∷ [])) × (result ≡ Some (arith_kind operation))
Operates scope Negate taken result = (taken ≡ typed (kinds.Int ∷ [])) × (result ≡ Some kinds.Int)
Operates scope Not taken result = (taken ≡ typed (kinds.Bool ∷ [])) × (result ≡ Some kinds.Bool)
Operates scope Join taken result = (taken ≡ typed (kinds.Text ∷ kinds.Text ∷ [])) × (result ≡ Some kinds.Text)
Operates scope Equal taken result = (kind : CoreType) × (taken ≡ typed (kind ∷ kind ∷ [])) × (result ≡ Some kinds.Bool)
Operates scope (Compare order) taken result =
    (taken ≡ typed (kinds.Int ∷ kinds.Int ∷ [])) × (result ≡ Some kinds.Bool)
Operates scope (Cast to) taken result =
    (from : CoreType) × (taken ≡ typed (from ∷ [])) × CanCast to from × (result ≡ Some to)
Operates scope (CallMethod name places given) taken result =
    (script : ℕ) × (written : List CoreType) × (parameters : List CoreType) × (taken ≡ typed (kinds.Script script ∷ written)) × ArePlaced places written parameters × CallsOn scope script (ByMethod name) parameters given × (result ≡ given)
Operates scope (CallParent name places given) taken result =
    (written : List CoreType) × (parameters : List CoreType) × (taken ≡ typed written) × ArePlaced places written parameters × (scope.is_global ≡ false) × CallsOn scope scope.script (ByParent scope.script name) parameters given × (result ≡ given)
Operates scope (CallGlobal at places given) taken result =
    (written : List CoreType) × (parameters : List CoreType) × (taken ≡ typed written) × ArePlaced places written parameters × Calls scope.outline scope.scripts None (ByGlobal at.script (name_at scope.scripts at.script at.place)) parameters given × (result ≡ given)
Operates scope (CallNative at places given) taken result =
    (written : List CoreType) × (taken ≡ typed written) × ArePlaced places written (parameters_in (slice_get (functions_in (slice_get scope.outline at.script)) at.place)) × (is_native_at scope.outline at ≡ true) × (result_of scope.outline at ≡ given) × (result ≡ given)
Operates scope (GetProperty name kind) taken result =
    (script : ℕ) × (taken ≡ typed (kinds.Script script ∷ [])) × CallsOn scope script (ByGet name) [] (Some kind) × (result ≡ Some kind)
Operates scope (NewArray kind count) taken result =
    (array : CoreType) × (taken ≡ []) × (count ≤ 128) × IsArrayOf array kind × (result ≡ Some array)
Operates scope Length taken result =
    (array : CoreType) × (element : CoreType) × (taken ≡ typed (array ∷ [])) × IsArrayOf array element × (result ≡ Some kinds.Int)
Operates scope (Element kind) taken result =
    (array : CoreType) × (taken ≡ typed (array ∷ kinds.Int ∷ [])) × IsArrayOf array kind × (result ≡ Some kind)
Operates scope Find taken result =
    (array : CoreType) × (element : CoreType) × (taken ≡ typed (array ∷ element ∷ kinds.Int ∷ [])) × IsArrayOf array element × (result ≡ Some kinds.Int)
Operates scope FindBack taken result =
    (array : CoreType) × (element : CoreType) × (taken ≡ typed (array ∷ element ∷ kinds.Int ∷ [])) × IsArrayOf array element × (result ≡ Some kinds.Int)

-- ---- expressions. A call of a function without result has no type
abbrev mutual
  pub HasKind : Scope → Expression → Option CoreType → Type 0
  HasKind scope (Literal value) kind = IsResult (known scope.outline [] []) kind value
  HasKind scope (Local number) kind = slice_get (typed scope.locals) number ≡ Some kind
  HasKind scope (Field number) kind =
      (scope.is_global ≡ false) × ((of : CoreType) × (kind ≡ Some of) × IsVariable scope.outline scope.script number of)
  HasKind scope SelfValue kind = kind ≡ Some (kinds.Script scope.script)
  HasKind scope StateText kind = kind ≡ Some kinds.Text
  HasKind scope (And left right) kind =
      (kind ≡ Some kinds.Bool) × HasKind scope left (Some kinds.Bool) × HasKind scope right (Some kinds.Bool)
  HasKind scope (Or left right) kind =
      (kind ≡ Some kinds.Bool) × HasKind scope left (Some kinds.Bool) × HasKind scope right (Some kinds.Bool)
  HasKind scope (Apply operation operands) kind =
      (taken : List (Option CoreType)) × HaveKinds scope operands taken × Operates scope operation taken kind

  pub HaveKinds : Scope → Expressions → List (Option CoreType) → Type 0
  HaveKinds scope NoExpression kinds = kinds ≡ []
  HaveKinds scope (MoreExpressions first rest) [] = ⊥
  HaveKinds scope (MoreExpressions first rest) (kind ∷ kinds) = HasKind scope first kind × HaveKinds scope rest kinds

-- ---- statements
abbrev pub returned_kinds : Option CoreType → List (Option CoreType)
returned_kinds None = []
returned_kinds (Some kind) = Some kind ∷ []

-- operands of these types are what is stored, dropped or returned
abbrev pub Affects : Scope → Effect → List (Option CoreType) → Type 0
Affects scope (StoreLocal number) taken =
    (kind : CoreType) × (taken ≡ typed (kind ∷ [])) × (slice_get (typed scope.locals) number ≡ Some (Some kind))
Affects scope (StoreField number) taken =
    (kind : CoreType) × (taken ≡ typed (kind ∷ [])) × (scope.is_global ≡ false) × IsVariable scope.outline scope.script number kind
Affects scope StoreState taken = (taken ≡ typed (kinds.Text ∷ [])) × (scope.is_global ≡ false)
Affects scope (StoreProperty name) taken =
    (script : ℕ) × (kind : CoreType) × (taken ≡ typed (kinds.Script script ∷ kind ∷ [])) × CallsOn scope script (BySet name) (kind ∷ []) None
Affects scope StoreElement taken =
    (array : CoreType) × (element : CoreType) × (taken ≡ typed (array ∷ kinds.Int ∷ element ∷ [])) × IsArrayOf array element
Affects scope Drop taken = (kind : Option CoreType) × (taken ≡ kind ∷ [])
Affects scope GiveBack taken = taken ≡ returned_kinds scope.result

-- `name op= right` on an instance of the script
abbrev pub ChangesProperty : Scope → ℕ → List ℕ → CoreType → Arith → Expression → Type 0
ChangesProperty scope script name kind operation right =
    (kind ≡ arith_kind operation) × CallsOn scope script (ByGet name) [] (Some kind) × CallsOn scope script (BySet name) (arith_kind operation ∷ []) None × HasKind scope right (Some (arith_kind operation))

abbrev mutual
  pub IsTyped : Scope → Statement → Type 0
  IsTyped scope (Do effect operands) =
      (taken : List (Option CoreType)) × HaveKinds scope operands taken × Affects scope effect taken
  IsTyped scope (ChangeProperty of name kind operation right) =
      (script : ℕ) × HasKind scope of (Some (kinds.Script script)) × ChangesProperty scope script name kind operation right
  IsTyped scope (ChangeElement array index kind operation right) =
      (of : CoreType) × HasKind scope array (Some of) × IsArrayOf of kind × (kind ≡ arith_kind operation) × HasKind scope index (Some kinds.Int) × HasKind scope right (Some (arith_kind operation))
  IsTyped scope (If branches otherwise) = BranchesTyped scope branches × BlockTyped scope otherwise
  IsTyped scope (While test body end_line) = HasKind scope test (Some kinds.Bool) × BlockTyped scope body

  pub BlockTyped : Scope → Block → Type 0
  BlockTyped scope NoStatement = Unit {0}
  BlockTyped scope (MoreStatements line first rest) = IsTyped scope first × BlockTyped scope rest

  pub BranchesTyped : Scope → Branches → Type 0
  BranchesTyped scope NoBranch = Unit {0}
  BranchesTyped scope (MoreBranches line test body rest) =
      HasKind scope test (Some kinds.Bool) × BlockTyped scope body × BranchesTyped scope rest

-- ---- sets
abbrev pub scope_of : List ScriptShape → List Script → ℕ → Function → Scope
scope_of outline scripts script function =
    record { outline = outline; scripts = scripts; script = script; is_global = function.is_global; locals = function.parameters ++ function.locals; result = function.result }

abbrev pub IsTypedFunction : List ScriptShape → List Script → ℕ → Function → Type 0
IsTypedFunction outline scripts script function = BlockTyped (scope_of outline scripts script function) function.body

abbrev pub IsTypedAccessor : List ScriptShape → List Script → ℕ → Option Function → Type 0
IsTypedAccessor outline scripts script None = Unit {0}
IsTypedAccessor outline scripts script (Some function) = IsTypedFunction outline scripts script function

abbrev pub IsTypedAccess : List ScriptShape → List Script → ℕ → Access → Type 0
IsTypedAccess outline scripts script (Auto variable) = Unit {0}
IsTypedAccess outline scripts script (Full read write) =
    IsTypedAccessor outline scripts script read × IsTypedAccessor outline scripts script write

pub record IsTypedScript (outline : List ScriptShape) (scripts : List Script) (number : ℕ) (script : Script) : Type 0 where
  pub functions : AllByRecursion (λ state. AllByRecursion (IsTypedFunction outline scripts number) state.functions) script.states
  pub accessors : AllByRecursion (λ property. IsTypedAccess outline scripts number property.access) script.properties

-- each function of each script is typed, and no script is above itself
pub record IsTypedSet (outline : List ScriptShape) (scripts : List Script) : Type 0 where
  pub each : (number : ℕ) (script : Script) → slice_get scripts number ≡ Some script → IsTypedScript outline scripts number script
  pub above : (script : ℕ) (shape : ScriptShape) → slice_get outline script ≡ Some shape → lineage outline (Some script) ≡ script ∷ lineage outline shape.parent

-- ---- bodies
-- what is pending takes a value of the one type and gives one of the other; the values that were taken are of
-- their types
abbrev pub PendingFits : Scope → Known → Pending → Option CoreType → Option CoreType → Type 0
PendingFits scope now (Operand operation taken rest) inside outside =
    (before : List (Option CoreType)) × (after : List (Option CoreType)) × HaveTypes now before taken × HaveKinds scope rest after × Operates scope operation (before ++ inside ∷ after) outside
PendingFits scope now (EffectOperand effect taken rest) inside outside =
    (before : List (Option CoreType)) × (after : List (Option CoreType)) × HaveTypes now before taken × HaveKinds scope rest after × Affects scope effect (before ++ inside ∷ after) × (outside ≡ None)
PendingFits scope now (AndThen right) inside outside =
    (inside ≡ Some kinds.Bool) × (outside ≡ Some kinds.Bool) × HasKind scope right (Some kinds.Bool)
PendingFits scope now (OrElse right) inside outside =
    (inside ≡ Some kinds.Bool) × (outside ≡ Some kinds.Bool) × HasKind scope right (Some kinds.Bool)
PendingFits scope now (PropertyTarget name kind operation right) inside outside =
    (script : ℕ) × (inside ≡ Some (kinds.Script script)) × ChangesProperty scope script name kind operation right × (outside ≡ None)
PendingFits scope now (PropertyOld target name operation right) inside outside =
    (script : ℕ) × HasType now (kinds.Script script) target × (inside ≡ Some (arith_kind operation)) × CallsOn scope script (BySet name) (arith_kind operation ∷ []) None × HasKind scope right (Some (arith_kind operation)) × (outside ≡ None)
PendingFits scope now (PropertyRight target name operation old) inside outside =
    (script : ℕ) × HasType now (kinds.Script script) target × HasType now (arith_kind operation) old × (inside ≡ Some (arith_kind operation)) × CallsOn scope script (BySet name) (arith_kind operation ∷ []) None × (outside ≡ None)
PendingFits scope now (ElementArray index kind operation right) inside outside =
    (of : CoreType) × (inside ≡ Some of) × IsArrayOf of kind × (kind ≡ arith_kind operation) × HasKind scope index (Some kinds.Int) × HasKind scope right (Some (arith_kind operation)) × (outside ≡ None)
PendingFits scope now (ElementIndex array kind operation right) inside outside =
    (of : CoreType) × HasType now of array × (inside ≡ Some kinds.Int) × IsArrayOf of kind × (kind ≡ arith_kind operation) × HasKind scope right (Some (arith_kind operation)) × (outside ≡ None)
PendingFits scope now (ElementRight array index operation old) inside outside =
    (of : CoreType) × HasType now of array × HasType now kinds.Int index × HasType now (arith_kind operation) old × (inside ≡ Some (arith_kind operation)) × IsArrayOf of (arith_kind operation) × (outside ≡ None)
PendingFits scope now (Test body rest otherwise) inside outside =
    (inside ≡ Some kinds.Bool) × BlockTyped scope body × BranchesTyped scope rest × BlockTyped scope otherwise × (outside ≡ None)
PendingFits scope now (LoopTest line test body) inside outside =
    (inside ≡ Some kinds.Bool) × HasKind scope test (Some kinds.Bool) × BlockTyped scope body × (outside ≡ None)
PendingFits scope now (LoopBody line test body) inside outside =
    (inside ≡ None) × HasKind scope test (Some kinds.Bool) × BlockTyped scope body × (outside ≡ None)
PendingFits scope now (Loop line test body) inside outside =
    (inside ≡ None) × HasKind scope test (Some kinds.Bool) × BlockTyped scope body × (outside ≡ None)
PendingFits scope now (Statements rest) inside outside = (inside ≡ None) × BlockTyped scope rest × (outside ≡ None)

-- all that is pending, the innermost first
abbrev pub AllPendingFits : Scope → Known → List Pending → Option CoreType → Option CoreType → Type 0
AllPendingFits scope now [] inside outside = inside ≡ outside
AllPendingFits scope now (first ∷ rest) inside outside =
    (between : Option CoreType) × PendingFits scope now first inside between × AllPendingFits scope now rest between outside

-- the type of the reply, or of the None that a body goes on with that waits for nothing
abbrev pub awaited_kind : Option (Option CoreType) → Option CoreType
awaited_kind None = None
awaited_kind (Some kind) = kind

pub record Holds (outline : List ScriptShape) (scripts : List Script) (now : Known) (own : Option ℕ) (body : Body) (awaited : Option (Option CoreType)) (result : Option CoreType) : Type 0 where
  pub is_global : Bool
  pub locals : List CoreType
  pub on : IsOn outline own body.script is_global
  pub values : HaveTypes now (typed locals) body.locals
  pub ending : IsResult now result body.ending
  pub pending : AllPendingFits (record { outline = outline; scripts = scripts; script = body.script; is_global = is_global; locals = locals; result = result }) now body.pending (awaited_kind awaited) None

abbrev pub source_types : List ScriptShape → List Script → Types Body
source_types outline scripts =
    record { outline = outline; calls = Calls outline scripts; holds = Holds outline scripts }
