-- The methods of scripts by the numbers of names, as they are looked up by others.
use Rattle.std.specs.Prelude.{◌≡◌, ◌≢◌, ℕ, ◌==◌, true, List, [], ◌∷◌, map, Option, Some, None, slice_get, slice_index_or}
use Rattle.std.specs.List.{AllZip}
use Rattle.std.specs.Option.{option_and_then, option_or, option_map}
use Rattle.core_tree.specs.Outlines.{ScriptShape}
use Rattle.core_tree.specs.declared.core_type.CoreType.{CoreType}
use Rattle.run_laws.specs.Fits.{is_native_at}
use Rattle.script_meaning.specs.Requests.{result_of}
use Rattle.script_meaning.specs.Values.{lineage, parent_in}
use Rattle.code_meaning.specs.Code.{Function, Property, State, Script}
use Rattle.code_meaning.specs.LookUp.{numbered, properties_in, states_in}
use Rattle.run_laws.specs.TypedCode.{GetMeets, SetMeets}
use Rattle.pex_set.specs.Names.{number_in}
use Rattle.pex_set.specs.declared.inherited.MemberPlace.{MemberPlace}
use Rattle.pex_set.specs.declared.inherited.OwnMember.{OwnMember}
use Rattle.pex_set.specs.Nearest.{nearest, own_member}
use Rattle.pex_verify.specs.declared.scripts.PropertySignature.{PropertySignature}
use Rattle.pex_verify.specs.declared.scripts.Signature.{Signature}
use Rattle.pex_verify.specs.declared.value_type.ValueType.TheVariants.{Of}
use Rattle.pex_verify.specs.Found.{is_readable, is_writable}
use Rattle.pex_verify.specs.Meanings.{Meanings, of_result, result_meaning, value_meaning}
use Rattle.pex_verify.specs.Signatures.{Declared, declared_of, AreAlike, has_bit}

-- ---- states and functions by numbers
pub record StateView : Type 0 where
  pub name : ℕ
  pub functions : List Declared

-- what a function declares
pub record Declares (types : Meanings) (names : List (List ℕ)) (declared : Declared) (function : Function) : Type 0 where
  pub name : number_in names function.name ≡ Some declared.name
  pub parameters : map (λ kind. Of kind) function.parameters ≡ map (value_meaning types) declared.parameters
  pub result : of_result function.result ≡ result_meaning types declared.answer
  pub is_global : function.is_global ≡ has_bit declared.bits 1
  pub is_native : function.is_native ≡ has_bit declared.bits 2

pub record IsViewed (types : Meanings) (names : List (List ℕ)) (view : StateView) (state : State) : Type 0 where
  pub name : number_in names state.name ≡ Some view.name
  pub functions : AllZip (Declares types names) view.functions state.functions

-- the states of a script
abbrev pub view_of : List (List StateView) → ℕ → List StateView
view_of views script = slice_index_or views script []

-- ---- what is found by numbers
-- a function that a script has in a state, by its numbers
pub record OwnFound : Type 0 where
  pub state : ℕ
  pub number : ℕ
  pub declared : Declared

abbrev pub own_at : ℕ → Option (ℕ × Declared) → Option OwnFound
own_at state None = None
own_at state (Some (number, declared)) = Some (record { state = state; number = number; declared = declared })

abbrev pub own_of_state : ℕ → Option (ℕ × StateView) → Option OwnFound
own_of_state name None = None
own_of_state name (Some (number, view)) = own_at number (numbered (λ declared. declared.name == name) view.functions)

-- the first of the name in the first state of this name
abbrev pub own_found : List StateView → ℕ → ℕ → Option OwnFound
own_found views state name = own_of_state name (numbered (λ view. view.name == state) views)

pub record ViewFound : Type 0 where
  pub script : ℕ
  pub own : OwnFound

abbrev pub found_of_script : ℕ → Option OwnFound → Option ViewFound
found_of_script script None = None
found_of_script script (Some own) = Some (record { script = script; own = own })

-- the function that the state of this name has in the first of these scripts that has one
abbrev pub first_found : List (List StateView) → List ℕ → ℕ → ℕ → Option ViewFound
first_found views [] state name = None
first_found views (script ∷ above) state name =
    option_or (found_of_script script (own_found (view_of views script) state name)) (first_found views above state name)

-- what the empty states offer from a script upward
abbrev pub offered : List ScriptShape → List (List StateView) → Option ℕ → ℕ → Option Declared
offered outline views script name = option_map (λ found. found.own.declared) (first_found views (lineage outline script) 0 name)

-- ---- facts of the scripts of a set
-- the scripts have these views, and no script is above itself
pub record AreViewed (types : Meanings) (names : List (List ℕ)) (outline : List ScriptShape) (scripts : List Script) (views : List (List StateView)) : Type 0 where
  pub empty : number_in names [] ≡ Some 0
  pub states : (script : ℕ) → AllZip (IsViewed types names) (view_of views script) (states_in (slice_get scripts script))
  pub rooted : (script parent : ℕ) → parent_in (slice_get outline script) ≡ Some parent → lineage outline (Some script) ≡ script ∷ lineage outline (Some parent)

-- a function of an empty state is alike what the scripts above offer by its name, and one of any other state what is offered
-- from the script itself upward; it is neither global nor native
pub record Replaces (outline : List ScriptShape) (views : List (List StateView)) : Type 0 where
  pub empty_states : (script parent name : ℕ) (own : OwnFound) (above : Declared) → own_found (view_of views script) 0 name ≡ Some own → parent_in (slice_get outline script) ≡ Some parent → offered outline views (Some parent) name ≡ Some above → AreAlike own.declared above
  pub other_states : (script state name : ℕ) (own : OwnFound) → state ≢ 0 → own_found (view_of views script) state name ≡ Some own → (own.declared.bits ≡ 0) × ((here : Declared) × (offered outline views (Some script) name ≡ Some here) × AreAlike own.declared here)

-- the outline tells what empty states declare
abbrev pub IsOutlined : Meanings → List ScriptShape → List (List StateView) → Type 0
IsOutlined types outline views =
    (script name : ℕ) (own : OwnFound) → own_found (view_of views script) 0 name ≡ Some own → (is_native_at outline (record { script = script; place = own.number }) ≡ has_bit own.declared.bits 2) × (of_result (result_of outline (record { script = script; place = own.number })) ≡ result_meaning types own.declared.answer)

-- ---- a script below another
pub data StandsBelow (outline : List ScriptShape) : ℕ → ℕ → Type 0 where
  itself : {script : ℕ} → StandsBelow outline script script
  below_parent : {script parent above : ℕ} → parent_in (slice_get outline script) ≡ Some parent → StandsBelow outline parent above → StandsBelow outline script above

-- ---- what the tables of a set have
abbrev pub place_of : ℕ → OwnFound → MemberPlace
place_of script own = record { object = script; state = own.state; place = own.number }

-- the members by the numbers of names are what the scripts have
abbrev pub AreMembersOf : List (List StateView) → List OwnMember → Type 0
AreMembersOf views members =
    (script state name : ℕ) → own_member members script (state, name) ≡ option_map (place_of script) (own_found (view_of views script) state name)

-- the signature at the place of a function of an empty state is what the function declares
abbrev pub HaveSignatures : List (List StateView) → (MemberPlace → Option Signature) → Type 0
HaveSignatures views signature_at =
    (script name : ℕ) (own : OwnFound) → own_found (view_of views script) 0 name ≡ Some own → option_map declared_of (signature_at (place_of script own)) ≡ Some own.declared

-- what tables find by the number of a name, from a script upward
abbrev pub sought : List ScriptShape → List OwnMember → (MemberPlace → Option Signature) → ℕ → ℕ → Option Signature
sought outline members signature_at script name =
    option_and_then signature_at (nearest members (lineage outline (Some script)) (0, name))

-- each function by what the tables find (V11): one of an empty state is alike what is found from the parent upward, and one of any
-- other state what is found from the script itself upward
pub record KeepsAbove (outline : List ScriptShape) (views : List (List StateView)) (found : ℕ → ℕ → Option Signature) : Type 0 where
  pub empty_states : (script parent : ℕ) (i j : ℕ) (view : StateView) (declared : Declared) (above : Signature) → slice_get (view_of views script) i ≡ Some view → view.name ≡ 0 → slice_get view.functions j ≡ Some declared → parent_in (slice_get outline script) ≡ Some parent → found parent declared.name ≡ Some above → AreAlike declared (declared_of above)
  pub other_states : (script : ℕ) (i j : ℕ) (view : StateView) (declared : Declared) → slice_get (view_of views script) i ≡ Some view → view.name ≢ 0 → slice_get view.functions j ≡ Some declared → (declared.bits ≡ 0) × ((here : Signature) × (found script declared.name ≡ Some here) × AreAlike declared (declared_of here))

-- ---- properties
-- a property, as its head says: it is read and written so
pub record IsPropertyViewed (types : Meanings) (names : List (List ℕ)) (outline : List ScriptShape) (script : ℕ) (head : PropertySignature) (property : Property) : Type 0 where
  pub name : number_in names property.name ≡ Some head.name
  pub kind : CoreType
  pub kind_is : value_meaning types head.kind ≡ Of kind
  pub gets : is_readable head ≡ true → (number : ℕ) → GetMeets outline (Some kind) (Some (script, number, property.access))
  pub sets : is_writable head ≡ true → (number : ℕ) → SetMeets outline (kind ∷ []) None (Some (script, number, property.access))

-- the heads of the properties of a script
abbrev pub heads_of : List (List PropertySignature) → ℕ → List PropertySignature
heads_of heads script = slice_index_or heads script []

-- a property that a script has, by its numbers
pub record PropertyFound : Type 0 where
  pub script : ℕ
  pub number : ℕ
  pub head : PropertySignature

abbrev pub property_of_script : ℕ → Option (ℕ × PropertySignature) → Option PropertyFound
property_of_script script None = None
property_of_script script (Some (number, head)) = Some (record { script = script; number = number; head = head })

abbrev pub own_property : List PropertySignature → ℕ → Option (ℕ × PropertySignature)
own_property heads name = numbered (λ head. head.name == name) heads

-- the first of these scripts that has a property of the name
abbrev pub first_head : List (List PropertySignature) → List ℕ → ℕ → Option PropertyFound
first_head heads [] name = None
first_head heads (script ∷ above) name =
    option_or (property_of_script script (own_property (heads_of heads script) name)) (first_head heads above name)

-- the scripts have these properties
pub record HaveProperties (types : Meanings) (names : List (List ℕ)) (outline : List ScriptShape) (scripts : List Script) (heads : List (List PropertySignature)) : Type 0 where
  pub viewed : (script : ℕ) → AllZip (IsPropertyViewed types names outline script) (heads_of heads script) (properties_in (slice_get scripts script))
  pub rooted : (script parent : ℕ) → parent_in (slice_get outline script) ≡ Some parent → lineage outline (Some script) ≡ script ∷ lineage outline (Some parent)

-- no property has the name of one of a script above (V5)
abbrev pub AreNew : List ScriptShape → List (List PropertySignature) → Type 0
AreNew outline heads =
    (script parent name : ℕ) (own : ℕ × PropertySignature) → own_property (heads_of heads script) name ≡ Some own → parent_in (slice_get outline script) ≡ Some parent → first_head heads (lineage outline (Some parent)) name ≡ None

-- the members by the numbers of names are the properties
abbrev pub ArePropertyMembers : List (List PropertySignature) → List OwnMember → Type 0
ArePropertyMembers heads members =
    (script name : ℕ) → own_member members script (0, name) ≡ option_map (λ (own : ℕ × PropertySignature). record { object = script; state = 0; place = own.0 }) (own_property (heads_of heads script) name)

-- what the table finds by the number of a name, from a script upward
abbrev pub head_at : List (List PropertySignature) → MemberPlace → Option PropertySignature
head_at heads place = slice_get (heads_of heads place.object) place.place

abbrev pub head_sought : List ScriptShape → List (List PropertySignature) → List OwnMember → ℕ → ℕ → Option PropertySignature
head_sought outline heads members script name =
    option_and_then (head_at heads) (nearest members (lineage outline (Some script)) (0, name))
