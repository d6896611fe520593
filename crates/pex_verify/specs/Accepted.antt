-- What instructions ask of their operands, by what they do.
use Rattle.std.specs.Prelude.{◌≡◌, ◌⊎◌, ℕ, ◌<◌, false, List, Option, Some, None, IsSome, MatchOption, length, slice_get, slice_index_or}
use Rattle.std.specs.Option.{IsSomeAnd}
use Rattle.core_tree.specs.declared.core_type.CoreType.{CoreType}
use Rattle.core_tree.specs.declared.core_type.CoreType.TheVariants as kinds
use Rattle.pex_verify.specs.declared.action.Action.{Action}
use Rattle.pex_verify.specs.declared.action.Action.TheVariants as action
use Rattle.pex_verify.specs.declared.judged.JudgedOperand.{JudgedOperand as Operand}
use Rattle.pex_verify.specs.declared.judged.JudgedOperand.TheVariants as loaded
use Rattle.pex_verify.specs.declared.operand_rules.Lookup.{Lookup}
use Rattle.pex_verify.specs.declared.operand_rules.Lookup.TheVariants.{Function, Property}
use Rattle.pex_verify.specs.declared.scope.FunctionScope.{FunctionScope}
use Rattle.pex_verify.specs.declared.scripts.SetHeads.{SetHeads}
use Rattle.pex_verify.specs.declared.value_type.ValueType.{ValueType}
use Rattle.pex_verify.specs.declared.value_type.ValueType.TheVariants.{Of}
use Rattle.pex_verify.specs.Judgement.{IsFor, IsOf, Takes, TakesCast, type_by}
use Rattle.pex_verify.specs.Meanings.{element_type, script_type, result_meaning, value_meaning}
use Rattle.pex_verify.specs.Soundness.{IsSize}

-- the operand at a place
abbrev pub at : List Operand → ℕ → Operand
at operands place = slice_index_or operands place loaded.NoneValue

-- ---- values
-- two values of a type give one of another
abbrev pub Computes : FunctionScope → CoreType → CoreType → Operand → Operand → Operand → Type 0
Computes scope taken given to left right =
    Takes scope to (Of given) × (IsOf scope taken left × IsOf scope taken right)

-- one of two values fits the other's type
abbrev pub Compare : FunctionScope → Operand → Operand → Type 0
Compare scope left right = IsFor scope (type_by scope right) left ⊎ IsFor scope (type_by scope left) right

-- ---- arrays
-- the operand is an array, with such elements
abbrev pub IsArrayWith : FunctionScope → Operand → (ValueType → Type 0) → Type 0
IsArrayWith scope array holds = IsSomeAnd (element_type (type_by scope array)) holds

abbrev pub IsArray : FunctionScope → Operand → Type 0
IsArray scope array = IsSome (element_type (type_by scope array))

abbrev pub Creates : FunctionScope → Operand → Operand → Type 0
Creates scope to size = IsArray scope to × IsSize size

abbrev pub Measures : FunctionScope → Operand → Operand → Type 0
Measures scope to array = Takes scope to (Of kinds.Int) × IsArray scope array

abbrev pub GetsElement : FunctionScope → Operand → Operand → Operand → Type 0
GetsElement scope to array index =
    IsOf scope kinds.Int index × IsArrayWith scope array (λ element. Takes scope to element)

abbrev pub SetsElement : FunctionScope → Operand → Operand → Operand → Type 0
SetsElement scope array index value =
    IsOf scope kinds.Int index × IsArrayWith scope array (λ element. IsFor scope element value)

abbrev pub Finds : FunctionScope → Operand → Operand → Operand → Operand → Type 0
Finds scope array to value start =
    Takes scope to (Of kinds.Int) × (IsOf scope kinds.Int start × IsArrayWith scope array (λ element. IsFor scope element value))

-- ---- actions that look nothing up
abbrev pub ElementsFit : FunctionScope → Action → List Operand → Type 0
ElementsFit scope action.CreateArray fixed = Creates scope (at fixed 0) (at fixed 1)
ElementsFit scope action.ArrayLength fixed = Measures scope (at fixed 0) (at fixed 1)
ElementsFit scope action.GetElement fixed = GetsElement scope (at fixed 0) (at fixed 1) (at fixed 2)
ElementsFit scope action.SetElement fixed = SetsElement scope (at fixed 0) (at fixed 1) (at fixed 2)
ElementsFit scope action.FindElement fixed = Finds scope (at fixed 0) (at fixed 1) (at fixed 2) (at fixed 3)
ElementsFit scope _ fixed = ⊥

abbrev pub ValuesFit : FunctionScope → Action → List Operand → Type 0
ValuesFit scope action.Nothing fixed = Unit {0}
ValuesFit scope action.Arithmetic fixed = Computes scope kinds.Int kinds.Int (at fixed 0) (at fixed 1) (at fixed 2)
ValuesFit scope action.Order fixed = Computes scope kinds.Int kinds.Bool (at fixed 0) (at fixed 1) (at fixed 2)
ValuesFit scope action.Join fixed = Computes scope kinds.Text kinds.Text (at fixed 0) (at fixed 1) (at fixed 2)
ValuesFit scope action.Negate fixed = Takes scope (at fixed 0) (Of kinds.Int) × IsOf scope kinds.Int (at fixed 1)
ValuesFit scope action.Invert fixed = Takes scope (at fixed 0) (Of kinds.Bool)
ValuesFit scope action.Assign fixed = Takes scope (at fixed 0) (type_by scope (at fixed 1))
ValuesFit scope action.Cast fixed = TakesCast scope (at fixed 0) (type_by scope (at fixed 1))
ValuesFit scope action.Equal fixed = Takes scope (at fixed 0) (Of kinds.Bool) × Compare scope (at fixed 1) (at fixed 2)
ValuesFit scope action.Jump fixed = Unit {0}
ValuesFit scope action.JumpIf fixed = Unit {0}
ValuesFit scope action.Return fixed = IsFor scope scope.answer (at fixed 0)
ValuesFit scope other fixed = ElementsFit scope other fixed

-- ---- actions that look something up
-- an argument fits the type of its parameter, where there is one
abbrev pub ParameterFits : FunctionScope → Option ℕ → Operand → Type 0
ParameterFits scope None argument = Unit {0}
ParameterFits scope (Some kind) argument = IsFor scope (value_meaning scope.home.now.set.now.types kind) argument

abbrev pub EachFits : FunctionScope → List ℕ → List Operand → Type 0
EachFits scope kinds arguments =
    (k : ℕ) (d : Operand) → k < length arguments → ParameterFits scope (slice_get kinds k) (slice_index_or arguments k d)

-- the type of the result or of the property that was found
abbrev pub found_type : SetHeads → Lookup → Option ValueType
found_type set (Function callee) = Some (result_meaning set.types callee.signature.now.answer)
found_type set (Property property) = Some (value_meaning set.types property.kind)
found_type set _ = None

abbrev pub ArgumentsFit : FunctionScope → List Operand → Lookup → Type 0
ArgumentsFit scope more (Function callee) = EachFits scope callee.signature.now.parameters.items more
ArgumentsFit scope more _ = Unit {0}

-- the result and the arguments are of the types of what was found, if anything was
abbrev pub TakesFound : FunctionScope → Operand → List Operand → Lookup → Type 0
TakesFound scope to more found =
    MatchOption (found_type scope.home.now.set.now found) (Unit {0}) (λ value. Takes scope to value × ArgumentsFit scope more found)

abbrev pub FitsFound : FunctionScope → Operand → Lookup → Type 0
FitsFound scope value found =
    MatchOption (found_type scope.home.now.set.now found) (Unit {0}) (λ wanted. IsFor scope wanted value)

abbrev pub IsObject : FunctionScope → Operand → Type 0
IsObject scope object = IsSome (script_type (type_by scope object))

-- what the operands and arguments are where this was looked up
abbrev pub OperandsFit : FunctionScope → Action → List Operand → List Operand → Lookup → Type 0
OperandsFit scope action.CallMethod fixed more found =
    IsObject scope (at fixed 1) × TakesFound scope (at fixed 2) more found
OperandsFit scope action.CallParent fixed more found = TakesFound scope (at fixed 1) more found
OperandsFit scope action.CallStatic fixed more found = TakesFound scope (at fixed 2) more found
OperandsFit scope action.GetProperty fixed more found =
    IsObject scope (at fixed 1) × TakesFound scope (at fixed 2) more found
OperandsFit scope action.SetProperty fixed more found =
    IsObject scope (at fixed 1) × FitsFound scope (at fixed 2) found
OperandsFit scope other fixed more found = ValuesFit scope other fixed

-- a call of a parent's method uses the instance, and a Global function has none
abbrev pub HasInstance : FunctionScope → Action → Type 0
HasInstance scope action.CallParent = scope.is_global ≡ false
HasInstance scope _ = Unit {0}
