-- The members of scripts, by their names and places, as they are collected.
use Rattle.std.specs.Prelude.{ℕ, suc, ◌==◌, List, [], ◌∷◌, ◌++◌, if◌then◌else◌}
use Rattle.pex_set.specs.Names.{empty_name}
use Rattle.papy_base.specs.Ranks.{span_at}
use Rattle.papy_base.specs.declared.descent.Span.{Span}
use Rattle.pex_set.specs.declared.inherited.OwnMember.{OwnMember}
use Rattle.pex_values.specs.declared.values.PexFunction.{PexFunction}
use Rattle.pex_values.specs.declared.values.PexObject.{PexObject}
use Rattle.pex_values.specs.declared.values.PexState.{PexState}
use Rattle.pex_verify.specs.declared.members.MemberLists.{MemberLists}
use Rattle.pex_verify.specs.declared.scripts.PropertySignature.{PropertySignature}
use Rattle.pex_verify.specs.declared.scripts.ScriptHead.{ScriptHead}
use Rattle.pex_verify.specs.declared.scripts.Signature.{Signature}
use Rattle.pex_verify.specs.Signatures.{number_at}

-- a script by its number, with the ranks of those below it
pub record Owner : Type 0 where
  pub number : ℕ
  pub span : Span

abbrev pub owner_in : MemberLists → ℕ → Owner
owner_in lists number = record { number = number; span = span_at lists.descent number }

-- a member at a place of a state
abbrev pub member_of : Owner → ℕ → ℕ × ℕ → ℕ → OwnMember
member_of owner state names place =
    record { names = names; span = owner.span; place = record { object = owner.number; state = state; place = place } }

-- what is made of each item of a list and its place, which begins with this one
abbrev pub with_places : {X Y : Type 0} → (ℕ → X → Y) → ℕ → List X → List Y
with_places f place [] = []
with_places f place (x ∷ xs) = f place x ∷ with_places f (suc place) xs

abbrev pub properties_of : Owner → List PropertySignature → List OwnMember
properties_of owner properties =
    with_places (λ place (property : PropertySignature). member_of owner 0 (empty_name, property.name) place) 0 properties

abbrev pub functions_of : Owner → ℕ → List Signature → List OwnMember
functions_of owner state functions =
    with_places (λ place (function : Signature). member_of owner state (empty_name, function.name) place) 0 functions

-- the functions of a state of this name
abbrev pub methods_in : Owner → List ℕ → ℕ → ℕ → List (ℕ × PexFunction) → List OwnMember
methods_in owner numbers state name functions =
    with_places (λ place (function : ℕ × PexFunction). member_of owner state (name, number_at numbers function.0) place) 0 functions

-- the same of any state: those of an empty one are left out
abbrev pub methods_of_state : Owner → List ℕ → ℕ → PexState → List OwnMember
methods_of_state owner numbers place state =
    if number_at numbers state.name == 0 then [] else methods_in owner numbers place (number_at numbers state.name) state.functions.items

abbrev pub methods_of_states : Owner → List ℕ → ℕ → List PexState → List OwnMember
methods_of_states owner numbers place [] = []
methods_of_states owner numbers place (state ∷ states) =
    methods_of_state owner numbers place state ++ methods_of_states owner numbers (suc place) states

-- ---- the lists with more members
abbrev pub with_methods : MemberLists → List OwnMember → MemberLists
with_methods lists members = record lists { methods = lists.methods ++ members }

abbrev pub with_properties : MemberLists → List OwnMember → MemberLists
with_properties lists members = record lists { properties = lists.properties ++ members }

-- those of a script of this number
abbrev pub with_script : MemberLists → ℕ → List ℕ → PexObject → ScriptHead → MemberLists
with_script lists number numbers object head =
    with_methods (with_properties lists (properties_of (owner_in lists number) head.properties.items)) (functions_of (owner_in lists number) head.empty_state head.functions.items ++ methods_of_states (owner_in lists number) numbers 0 object.states.items)
