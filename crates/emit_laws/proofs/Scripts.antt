-- A whole script: its variables, its members, and none that it lacks.
use Rattle.std.proofs.Common.{◌≡◌, ℕ, Bool, true, false, ◌&&◌, not, cond, List, [], ◌∷◌, ◌++◌, map, Option, None, Some, refl, sym, ap, subst, ◌∙◌, inl, inr}
use Rattle.std.specs.Prelude.{filter, IfSome, if◌then◌else◌}
use Rattle.std.specs.List.{AllByRecursion, flat_map, list_any}
use Rattle.std.specs.Option.{option_map, unwrap_or}
use Rattle.std.proofs.lemmas.List.{append-nil, map-append}
use Rattle.std.proofs.lemmas.Option.{get_or_from_slice_get}
use Rattle.core_tree.specs.declared.script.CoreVariable.{CoreVariable}
use Rattle.core_tree.specs.Set as trees
use Rattle.pex_values.specs.declared.values.PexVariable.{PexVariable}
use Rattle.pex_values.specs.Plain.{PlainDebug, PlainFunction, PlainLines, PlainPex}
use Rattle.code_meaning.specs.Code.{Function, State}
use Rattle.pex_meaning.specs.Functions.{Home, entries_of, string}
use Rattle.pex_meaning.specs.Meant.{empty_state, empty_state_functions, is_empty_state, lacking, lacks, member_meant, own_states, script_meant, states_meant, with_last}
use Rattle.pex_meaning.specs.Names.{is_among, is_empty, string_at}
use Rattle.pex_meaning.specs.Prelude.{libraries, members, prelude}
use Rattle.code_emit.specs.Spelled.{Each, SpellsScript, SpellsVariable, parent_name}
use Rattle.code_emit.specs.Strings.{Origin, ReadsName, Table, home_of}
use Rattle.emit_laws.specs.Members.{HasMembers, IsCodeOf, ScriptFits, ScriptMeans, StateMeans, empty_names, table_of}
use Rattle.emit_laws.specs.Readable.{IsHome}
use Rattle.emit_laws.proofs.Members.{no_state, no_states, none_before, properties_read, states_read}

pub variables_are : (table : Table) (variables : List PexVariable) (more : List CoreVariable) → Each (SpellsVariable table) variables more → map (λ (v : PexVariable). string_at table.strings v.name) variables ≡ map (λ (v : CoreVariable). v.name) more
variables_are table [] [] spells = refl
variables_are table [] (tree ∷ more) spells = absurd spells
variables_are table (v ∷ variables) [] spells = absurd spells
variables_are table (v ∷ variables) (tree ∷ more) spells =
    let first = get_or_from_slice_get table.strings v.name tree.name [] spells.0.name.there in
    let others = variables_are table variables more spells.1 in
    λ j. first j ∷ others j

-- ---- members that a script lacks
names_are : (from : Origin) (more : List trees.Function) (functions : List Function) → Each (λ (t : trees.Function) (f : Function). IsCodeOf from t.name t f) more functions → map (λ (f : Function). f.name) functions ≡ map (λ (f : trees.Function). f.name) more
names_are from [] [] means = refl
names_are from [] (f ∷ functions) means = absurd means
names_are from (tree ∷ more) [] means = absurd means
names_are from (tree ∷ more) (f ∷ functions) means =
    let first = ap (λ (g : Function). g.name) means.0.is in
    let others = names_are from more functions means.1 in
    λ j. first j ∷ others j

abbrev names_with : Bool → List Function → List (List ℕ) → List (List ℕ)
names_with b functions rest = cond b (map (λ (f : Function). f.name) functions ++ rest) rest

empty_by : (b : Bool) (s : State) (states : List State) → map (λ (f : Function). f.name) (flat_map (λ (s : State). s.functions) (cond b (s ∷ filter is_empty_state states) (filter is_empty_state states))) ≡ names_with b s.functions (map (λ (f : Function). f.name) (empty_state_functions states))
empty_by true s states = map-append (λ (f : Function). f.name) s.functions (empty_state_functions states)
empty_by false s states = refl

also_by : (b : Bool) (t : trees.State) (more : List trees.State) → cond b (map (λ (f : trees.Function). f.name) t.functions ++ empty_names more) (empty_names more) ≡ flat_map (λ (s : trees.State). map (λ (f : trees.Function). f.name) s.functions) (cond b (t ∷ filter (λ (s : trees.State). is_empty s.name) more) (filter (λ (s : trees.State). is_empty s.name) more))
also_by true t more = refl
also_by false t more = refl

empty_are : (from : Origin) (more : List trees.State) (states : List State) → Each (StateMeans from) more states → map (λ (f : Function). f.name) (empty_state_functions states) ≡ empty_names more
empty_are from [] [] means = refl
empty_are from [] (s ∷ states) means = absurd means
empty_are from (t ∷ more) [] means = absurd means
empty_are from (t ∷ more) (s ∷ states) means =
    let named = means.0.name in
    let functions = names_are from t.functions s.functions means.0.functions in
    let others = empty_are from more states means.1 in
    empty_by (is_empty s.name) s states
    ∙ (λ j. cond (is_empty (named j)) (functions j ++ others j) (others j))
    ∙ also_by (is_empty t.name) t more

has_parent : (a b c : Bool) → a ≡ false → (a && b && c) ≡ false
has_parent a b c e = ap (λ (x : Bool). x && b && c) e

has_member : (a b c : Bool) → c ≡ true → (a && b && not c) ≡ false
has_member true true c e = ap not e
has_member true false true e = refl
has_member true false false e = absurd (cc)
has_member false b c e = refl

all_false : {X : Type 0} (p : X → Bool) (xs : List X) → AllByRecursion (λ x. p x ≡ false) xs → filter p xs ≡ []
all_false p [] none = refl
all_false p (x ∷ xs) none = ap (λ (b : Bool). cond b (x ∷ filter p xs) (filter p xs)) none.0 ∙ all_false p xs none.1

lacks_none : (home : Home) (names : List (List ℕ)) → map (λ (f : Function). f.name) (empty_state_functions (own_states home)) ≡ names → (some : List (ℕ × PlainFunction)) → AllByRecursion (λ member. is_among member names ≡ true) (map (λ (member : ℕ × PlainFunction). string_at prelude.strings member.0) some) → AllByRecursion (λ f. lacks home f ≡ false) (map (member_meant home) some)
lacks_none home names e [] there = tt
lacks_none home names e (member ∷ some) there =
    (has_member (is_empty (string home home.object.parent)) (not (is_among (string home home.object.name) libraries)) (is_among (string_at prelude.strings member.0) (map (λ (f : Function). f.name) (empty_state_functions (own_states home)))) (ap (λ (l : List (List ℕ)). is_among (string_at prelude.strings member.0) l) e ∙ there.0), lacks_none home names e some there.1)

parent_there : (home : Home) → is_empty (string home home.object.parent) ≡ false → (some : List (ℕ × PlainFunction)) → AllByRecursion (λ f. lacks home f ≡ false) (map (member_meant home) some)
parent_there home e [] = tt
parent_there home e (member ∷ some) =
    (has_parent (is_empty (string home home.object.parent)) (not (is_among (string home home.object.name) libraries)) (not (is_among (string_at prelude.strings member.0) (map (λ (f : Function). f.name) (empty_state_functions (own_states home))))) e, parent_there home e some)

parent_by : (strings : List (List ℕ)) (reference : ℕ) (o : Option (List ℕ)) → ReadsName strings reference o → IfSome o (λ name. is_empty name ≡ false) → is_empty (string_at strings reference) ≡ false
parent_by strings reference None reads e = absurd reads
parent_by strings reference (Some name) reads e = ap is_empty (get_or_from_slice_get strings reference name [] reads.there) ∙ e

nothing_lacks : (from : Origin) (home : Home) (tree : trees.Script) → ReadsName home.file.strings home.object.parent (parent_name (home_of from).scripts tree.parent) → Each (StateMeans from) tree.states (own_states home) → HasMembers from tree → lacking home ≡ []
nothing_lacks from home tree parent means (inl named) =
    all_false (lacks home) (map (member_meant home) members) (parent_there home (parent_by home.file.strings home.object.parent (parent_name (home_of from).scripts tree.parent) parent named) members)
nothing_lacks from home tree parent means (inr there) =
    all_false (lacks home) (map (member_meant home) members) (lacks_none home (empty_names tree.states) (empty_are from tree.states (own_states home) means) members there)

last_by : (b : Bool) (s : State) → cond b (record s { functions = s.functions ++ [] }) s ≡ s
last_by true s = ap (λ (l : List Function). record s { functions = l }) (append-nil s.functions)
last_by false s = refl

none_last : (states : List State) → map (with_last []) states ≡ states
none_last [] = refl
none_last (s ∷ states) =
    let first = last_by (is_empty_state s) s in
    let others = none_last states in
    λ j. first j ∷ others j

states_by : (b : Bool) (states : List State) → cond b (map (with_last []) states) (states ++ empty_state []) ≡ states
states_by true states = none_last states
states_by false states = append-nil states

states_are : (home : Home) → lacking home ≡ [] → states_meant home ≡ own_states home
states_are home e =
    ap (λ (l : List Function). if list_any is_empty_state (own_states home) then map (with_last l) (own_states home) else own_states home ++ empty_state l) e
    ∙ states_by (list_any is_empty_state (own_states home)) (own_states home)

-- ---- the whole
pub script_read : (from : Origin) (file : PlainPex) (spells : SpellsScript from file) → ScriptFits from (table_of from file) spells.object (trees.script_of from.script) → ScriptMeans from (trees.script_of from.script) (script_meant (record { scripts = (home_of from).scripts; file = file; object = spells.object }))
script_read from file spells fits =
    let tree = trees.script_of from.script in
    let home : Home = record { scripts = (home_of from).scripts; file = file; object = spells.object } in
    let parts = spells.spelled in
    let object = get_or_from_slice_get file.strings spells.object.name from.script.name [] parts.name.there in
    let table = table_of from file in
    let is : IsHome home table = record { scripts = refl; variables = variables_are table spells.object.variables tree.variables parts.variables } in
    let told : entries_of home ≡ parts.of_properties ++ parts.of_states = ap (λ (o : Option PlainDebug). unwrap_or (option_map (λ (d : PlainDebug). d.functions) o) []) spells.debug ∙ parts.both in
    let behind : entries_of home ≡ parts.of_properties ++ (parts.of_states ++ []) = told ∙ ap (λ (l : List PlainLines). parts.of_properties ++ l) (sym (append-nil parts.of_states)) in
    let properties = properties_read from home object is spells.object.properties tree.properties [] parts.of_properties parts.of_states fits.names told (none_before from home object is (map (λ (p : trees.Property). p.name) tree.properties)) fits.property_names fits.properties parts.properties in
    let apart = no_states from home object is parts.of_properties (no_state from home object is spells.object.properties tree.properties parts.of_properties parts.properties) (map (λ (s : trees.State). s.name) tree.states) in
    let states = states_read from home object is spells.object.states tree.states parts.of_properties parts.of_states [] behind apart fits.state_names fits.states parts.states in
    record {
      properties = properties;
      states = subst (λ (l : List State). Each (StateMeans from) tree.states l) (sym (states_are home (nothing_lacks from home tree parts.parent states fits.members))) states;
    }
