-- That each number in judged trees names what is there.
use Rattle.std.specs.Prelude.{◌≡◌, ◌<◌, ℕ, true, List, length, All, IfSome, Some, nat_eq, slice_get, vec_len}
use Rattle.std.specs.List.{IsDistinct}
use Rattle.core_tree.specs.declared.expression.Core.{Core}
use Rattle.core_tree.specs.declared.statement.CoreStatement.{CoreStatement}
use Rattle.core_tree.specs.InRange.{Bounds, NameTakes, PlaceTakes, ResultInRange, TypeInRange, PlacesInRange, ExpressionInRange, StatementInRange}
use Rattle.core_tree.specs.Tree.{expression_of, statement_of}
use Rattle.line_parser.specs.declared.tree.Heading.{Heading}
use Rattle.type_scope.specs.Scope.{KindInRange}
use Rattle.type_scope.specs.Types.{signatures}
use Rattle.expression_rules.specs.declared.calls.Given.{Given}
use Rattle.expression_rules.specs.declared.calls.Arguments.{Arguments}
use Rattle.expression_rules.specs.declared.assignment.Target.{Target}
use Rattle.expression_rules.specs.declared.assignment.Target.TheVariants as targets
use Rattle.expression_rules.specs.declared.calls.CallForm.{CallForm}
use Rattle.expression_rules.specs.declared.calls.CallForm.TheVariants as calls
use Rattle.expression_rules.specs.declared.scope.Context.{Context}
use Rattle.expression_rules.specs.declared.scope.Typed.{Typed}
use Rattle.expression_rules.specs.declared.calls.Parameters.{Parameters}
use Rattle.expression_rules.specs.declared.calls.Parameters.TheVariants as parameters
use Rattle.expression_rules.specs.declared.names.Resolved.{Resolved}
use Rattle.expression_rules.specs.declared.names.Resolved.TheVariants as words

abbrev pub CoreInRange : Bounds → Core → Type 0
CoreInRange b core = ExpressionInRange b (expression_of core)

abbrev pub FormInRange : Bounds → CoreStatement → Type 0
FormInRange b form = StatementInRange b (statement_of form)

pub record TypedInRange (b : Bounds) (typed : Typed) : Type 0 where
  pub core : CoreInRange b typed.core.value
  pub kind : KindInRange b.functions typed.kind

-- the values of arguments as they are written
abbrev pub GivenInRange : Bounds → List Given → Type 0
GivenInRange b given = All (λ one. TypedInRange b one.value) given

-- what expressions may name where they stand
abbrev pub bounds_of : Context → Bounds
bounds_of context = record {
  functions = signatures context.catalog.now.set.now;
  variables = vec_len context.layout.now.sources;
  locals = vec_len context.locals.now.kinds;
}

-- the script is one of the set, and so are those that the types of locals name
pub record ContextInRange (context : Context) : Type 0 where
  pub script : context.script < length (bounds_of context).functions
  pub locals : All (ResultInRange (bounds_of context).functions) context.locals.now.kinds.items

abbrev pub ResolvedInRange : Bounds → Resolved → Type 0
ResolvedInRange b (words.Local number kind) = (number < b.locals) × ResultInRange b.functions kind
ResolvedInRange b (words.Field number kind) = (number < b.variables) × ResultInRange b.functions kind
ResolvedInRange b _ = Unit {0}

abbrev pub heading_count : Heading → ℕ
heading_count heading = length heading.parameters.items

abbrev pub parameter_count : Parameters → ℕ
parameter_count (parameters.Declared declared) = length declared.now
parameter_count (parameters.Search element start) = 2

-- a search is for a value of the elements' type
abbrev pub ParametersInRange : Bounds → Parameters → Type 0
ParametersInRange b (parameters.Declared declared) = Unit {0}
ParametersInRange b (parameters.Search element start) = TypeInRange b.functions element

-- arguments of some of so many parameters, each of another one, which is marked
pub record ArgumentsInRange (b : Bounds) (count : ℕ) (found : Arguments) : Type 0 where
  pub cores : All (CoreInRange b) found.cores.items
  pub numbered : length found.places.items ≡ length found.cores.items
  pub marked : All (λ place. slice_get found.filled.items place ≡ Some true) found.places.items
  pub different : IsDistinct nat_eq found.places.items
  pub counted : length found.filled.items ≡ count

-- an argument for each of so many parameters
pub record CompleteInRange (b : Bounds) (count : ℕ) (found : Arguments) : Type 0 where
  pub cores : All (CoreInRange b) found.cores.items
  pub counted : length found.cores.items ≡ count
  pub places : PlacesInRange found.places.items count

-- what is called has so many parameters
abbrev pub CallFormInRange : Bounds → ℕ → CallForm → Type 0
CallFormInRange b count (calls.Method of name) = CoreInRange b of.value × NameTakes b.functions name.now count
CallFormInRange b count (calls.Parent name) = NameTakes b.functions name.now count
CallFormInRange b count (calls.Global at) = PlaceTakes b.functions at count
CallFormInRange b count (calls.Native at) = PlaceTakes b.functions at count

-- what is assigned to
abbrev pub TargetInRange : Bounds → Target → Type 0
TargetInRange b (targets.Local number kind) = (number < b.locals) × ResultInRange b.functions kind
TargetInRange b (targets.Field number kind) = (number < b.variables) × ResultInRange b.functions kind
TargetInRange b targets.State = Unit {0}
TargetInRange b targets.Broken = Unit {0}
TargetInRange b (targets.Property of name kind) = CoreInRange b of.value × ResultInRange b.functions kind
TargetInRange b (targets.Element array at kind) =
    CoreInRange b array.value × CoreInRange b at.value × TypeInRange b.functions kind
