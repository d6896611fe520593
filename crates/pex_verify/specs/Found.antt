-- What is looked up by name while code is judged.
use Rattle.std.specs.Prelude.{◌≡◌, ℕ, ◌<◌, ◌==◌, Bool, true, false, not, bit_and, List, [], length, Option, Some, None, slice_get, slice_index_or}
use Rattle.std.specs.Option.{option_and_then}
use Rattle.pex_set.specs.Inherited.{found_in}
use Rattle.pex_set.specs.Names.{empty_name}
use Rattle.pex_set.specs.Objects.{first_named}
use Rattle.papy_base.specs.Ranks.{span_at}
use Rattle.pex_set.specs.declared.inherited.MemberPlace.{MemberPlace}
use Rattle.pex_values.specs.declared.values.Datum.{Datum}
use Rattle.pex_values.specs.declared.values.Datum.TheVariants.{Word}
use Rattle.pex_verify.specs.declared.action.Action.{Action}
use Rattle.pex_verify.specs.declared.action.Action.TheVariants as actions
use Rattle.pex_verify.specs.declared.action.Use.{Use}
use Rattle.pex_verify.specs.declared.action.Use.TheVariants as purpose
use Rattle.pex_verify.specs.declared.judged.JudgedOperand.{JudgedOperand as Operand}
use Rattle.pex_verify.specs.declared.judged.JudgedOperand.TheVariants as loaded
use Rattle.pex_verify.specs.declared.operand_rules.Lookup.{Lookup}
use Rattle.pex_verify.specs.declared.operand_rules.Lookup.TheVariants.{Unsought, Missing, Function, Property}
use Rattle.pex_verify.specs.declared.scope.FunctionScope.{FunctionScope}
use Rattle.pex_verify.specs.declared.scripts.PropertySignature.{PropertySignature}
use Rattle.pex_verify.specs.declared.scripts.SetHeads.{SetHeads}
use Rattle.pex_verify.specs.declared.scripts.Signature.{Signature}
use Rattle.pex_verify.specs.Accepted.{at}
use Rattle.pex_verify.specs.Judgement.{type_by, IsSeenIn}
use Rattle.pex_verify.specs.Meanings.{script_type}
use Rattle.pex_verify.specs.Uses.{use_at}

-- ---- in the tables of a set
-- the ranks of a script and of all below it begin here
abbrev pub rank_of : SetHeads → ℕ → ℕ
rank_of set script = (span_at set.table.descent script).start

abbrev pub function_at : SetHeads → MemberPlace → Option Signature
function_at set place =
    option_and_then (λ head. slice_get head.functions.items place.place) (slice_get set.heads.items place.object)

abbrev pub property_at : SetHeads → MemberPlace → Option PropertySignature
property_at set place =
    option_and_then (λ head. slice_get head.properties.items place.place) (slice_get set.heads.items place.object)

-- the nearest function of this name in the empty states, from a script upward
abbrev pub function_found : SetHeads → ℕ → ℕ → Option Signature
function_found set script name =
    option_and_then (function_at set) (found_in set.table.methods (empty_name, name) (rank_of set script))

-- the nearest property of this name, from a script upward
abbrev pub property_found : SetHeads → ℕ → ℕ → Option PropertySignature
property_found set script name =
    option_and_then (property_at set) (found_in set.table.properties (empty_name, name) (rank_of set script))

abbrev pub parent_of : SetHeads → ℕ → Option ℕ
parent_of set script = option_and_then (λ head. head.parent) (slice_get set.heads.items script)

-- ---- by an instruction
abbrev pub word_number : List ℕ → Option Datum → Option ℕ
word_number numbers (Some (Word reference)) = Some (slice_index_or numbers reference empty_name)
word_number numbers _ = None

-- the number of the name that the operand at this place gives
abbrev pub name_by : FunctionScope → List Datum → ℕ → Option ℕ
name_by scope given place = word_number scope.source.now.names.now (slice_get given place)

-- the script of the object that is the second operand
abbrev pub object_by : FunctionScope → List Operand → Option ℕ
object_by scope fixed = script_type (type_by scope (at fixed 1))

abbrev pub script_named_by : SetHeads → Option ℕ → Option ℕ
script_named_by set name = option_and_then (first_named set.objects) name

-- a function or a property that was found, where it was sought
pub record IsFunctionFound (set : SetHeads) (script name : Option ℕ) (signature : Signature) : Type 0 where
  pub from : ℕ
  pub number : ℕ
  pub sought : script ≡ Some from
  pub named : name ≡ Some number
  pub found : function_found set from number ≡ Some signature

pub record IsPropertyFound (set : SetHeads) (script name : Option ℕ) (property : PropertySignature) : Type 0 where
  pub from : ℕ
  pub number : ℕ
  pub sought : script ≡ Some from
  pub named : name ≡ Some number
  pub found : property_found set from number ≡ Some property

abbrev pub IsFoundBy : SetHeads → Option ℕ → Option ℕ → Lookup → Type 0
IsFoundBy set script name Unsought = ⊥
IsFoundBy set script name Missing = Unit {0}
IsFoundBy set script name (Function callee) = IsFunctionFound set script name callee.signature.now
IsFoundBy set script name (Property property) = IsPropertyFound set script name property

abbrev pub IsFunction : Lookup → Type 0
IsFunction (Property property) = ⊥
IsFunction _ = Unit {0}

abbrev pub IsProperty : Lookup → Type 0
IsProperty (Function callee) = ⊥
IsProperty _ = Unit {0}

-- what the instruction looks up
abbrev pub LooksUp : FunctionScope → Action → List Datum → List Operand → Lookup → Type 0
LooksUp scope actions.CallMethod given fixed found =
    IsFoundBy scope.home.now.set.now (object_by scope fixed) (name_by scope given 0) found × IsFunction found
LooksUp scope actions.CallParent given fixed found =
    IsFoundBy scope.home.now.set.now (parent_of scope.home.now.set.now scope.home.now.here) (name_by scope given 0) found × IsFunction found
LooksUp scope actions.CallStatic given fixed found =
    IsFoundBy scope.home.now.set.now (script_named_by scope.home.now.set.now (name_by scope given 0)) (name_by scope given 1) found × IsFunction found
LooksUp scope actions.GetProperty given fixed found =
    IsFoundBy scope.home.now.set.now (object_by scope fixed) (name_by scope given 0) found × IsProperty found
LooksUp scope actions.SetProperty given fixed found =
    IsFoundBy scope.home.now.set.now (object_by scope fixed) (name_by scope given 0) found × IsProperty found
LooksUp scope _ given fixed found = Unit {0}

-- ---- what was found can be used so
-- bit 1 of a function is global
abbrev pub is_global : Signature → Bool
is_global signature = not (bit_and signature.bits 1 == 0)

-- bits 1 and 2 of a property: it can be read, and written
abbrev pub is_readable : PropertySignature → Bool
is_readable property = not (bit_and property.bits 1 == 0)

abbrev pub is_writable : PropertySignature → Bool
is_writable property = not (bit_and property.bits 2 == 0)

abbrev pub is_static : Action → Bool
is_static actions.CallStatic = true
is_static _ = false

abbrev pub PropertyAllows : Action → PropertySignature → Type 0
PropertyAllows actions.GetProperty property = is_readable property ≡ true
PropertyAllows _ property = is_writable property ≡ true

-- with so many arguments
abbrev pub Allows : Action → ℕ → Lookup → Type 0
Allows action arguments Unsought = Unit {0}
Allows action arguments Missing = ⊥
Allows action arguments (Function callee) =
    (arguments ≡ length callee.signature.now.parameters.items) × (is_global callee.signature.now ≡ is_static action)
Allows action arguments (Property property) = PropertyAllows action property

-- ---- names that stand for themselves
-- the operand of a name, as the file spells it
abbrev pub IsSpelled : FunctionScope → Use → Datum → Operand → Type 0
IsSpelled scope purpose.Name (Word reference) operand =
    operand ≡ loaded.Word (slice_index_or scope.source.now.titles.now reference [])
IsSpelled scope _ datum operand = Unit {0}

-- a Global function names no variable, and a name is spelled as in the file
pub record IsTold (scope : FunctionScope) (usage : Use) (datum : Datum) (operand : Operand) : Type 0 where
  pub seen : IsSeenIn scope.is_global operand
  pub spelled : IsSpelled scope usage datum operand

pub record AreTold (scope : FunctionScope) (uses : List Use) (given : List Datum) (operands : List Operand) : Type 0 where
  pub count : length operands ≡ length given
  pub each : (k : ℕ) (d : Operand) (e : Datum) → k < length operands → IsTold scope (use_at uses k) (slice_index_or given k e) (slice_index_or operands k d)
