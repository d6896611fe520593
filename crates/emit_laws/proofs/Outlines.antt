-- The outline of a script from its file.
use Rattle.std.proofs.Common.{◌≡◌, ℕ, Bool, true, false, cond, List, [], ◌∷◌, ◌++◌, map, Option, None, Some, refl, sym, ap, subst, ◌∙◌}
use Rattle.std.specs.Prelude.{slice_get, filter, IfSome, if◌then◌else◌}
use Rattle.std.specs.List.{AllByRecursion, cons_option, filter_map, flat_map}
use Rattle.std.specs.Option.{option_and_then, option_map, unwrap_or}
use Rattle.std.proofs.lemmas.List.{append-nil}
use Rattle.std.proofs.lemmas.Option.{get_or_from_slice_get}
use Rattle.core_tree.specs.declared.core_type.CoreType.{CoreType}
use Rattle.core_tree.specs.declared.core_type.CoreType.TheVariants as kinds
use Rattle.core_tree.specs.declared.outline.OutlineProperty.{OutlineProperty}
use Rattle.core_tree.specs.declared.script.CoreAccess.{CoreAccess}
use Rattle.core_tree.specs.declared.script.CoreAccess.TheVariants as access
use Rattle.core_tree.specs.declared.script.CoreFunction.{CoreFunction}
use Rattle.core_tree.specs.declared.script.CoreProperty.{CoreProperty}
use Rattle.core_tree.specs.declared.script.CoreState.{CoreState}
use Rattle.core_tree.specs.declared.script.CoreVariable.{CoreVariable}
use Rattle.core_tree.specs.declared.value.Value.{Value}
use Rattle.core_tree.specs.declared.value.Value.TheVariants as values
use Rattle.core_tree.specs.Outlines.{FunctionShape, ScriptShape, auto_property, function_outline, script_outline, variable_outline}
use Rattle.core_tree.specs.Outlines as outlines
use Rattle.core_tree.specs.Set as trees
use Rattle.core_tree.specs.Values.{default_of}
use Rattle.pex_values.specs.declared.values.Datum.{Datum}
use Rattle.pex_values.specs.declared.values.PexVariable.{PexVariable}
use Rattle.pex_values.specs.Plain.{PlainLines, PlainPex, PlainProperty}
use Rattle.code_meaning.specs.Code.{Function, State}
use Rattle.pex_meaning.specs.Functions.{Home, string}
use Rattle.pex_meaning.specs.Meant.{empty_state_functions, function_outlined, is_empty_state, property_outlined, script_outlined, states_meant, unless_empty, value_meant, variable_meant, variable_outlined}
use Rattle.pex_meaning.specs.Names.{first_named, is_empty, string_at, value_type}
use Rattle.code_emit.specs.Spelled.{Each, EachWith, SpellsAccess, SpellsLiteral, SpellsProperty, SpellsScript, SpellsVariable, parent_name}
use Rattle.code_emit.specs.Strings.{Origin, ReadsName, Table, home_of, type_name}
use Rattle.emit_laws.specs.Members.{IsCodeOf, ScriptFits, StateMeans, table_of}
use Rattle.emit_laws.specs.Outlines.{AreEmptyFirst, OutlineFits, VariableFits}
use Rattle.emit_laws.specs.Readable.{AreDistinct, HomeFits, IsHome, KindFits}
use Rattle.emit_laws.proofs.Entries.{table}
use Rattle.emit_laws.proofs.Functions.{type_there}
use Rattle.emit_laws.proofs.Members.{variable_by}
use Rattle.emit_laws.proofs.Operands.{distinct_found}
use Rattle.emit_laws.proofs.Scripts.{script_read, variables_are}

-- ---- names that may be empty
named : (name : List ℕ) → is_empty name ≡ false → unless_empty name ≡ Some name
named name e = ap (λ (b : Bool). if b then None else Some name) e

parent_by : (scripts strings : List (List ℕ)) (reference number : ℕ) (o : Option (List ℕ)) → AreDistinct scripts → ((k : ℕ) (name : List ℕ) → slice_get scripts k ≡ Some name → is_empty name ≡ false) → slice_get scripts number ≡ o → ReadsName strings reference o → option_and_then (λ parent. first_named parent scripts) (unless_empty (string_at strings reference)) ≡ Some number
parent_by scripts strings reference number None distinct full e reads = absurd reads
parent_by scripts strings reference number (Some name) distinct full e reads =
    ap (λ (n : List ℕ). option_and_then (λ parent. first_named parent scripts) (unless_empty n)) (get_or_from_slice_get strings reference name [] reads.there)
    ∙ ap (λ (o : Option (List ℕ)). option_and_then (λ parent. first_named parent scripts) o) (named name (full number name e))
    ∙ distinct_found scripts distinct number name e

parent_read : (scripts strings : List (List ℕ)) (reference : ℕ) (parent : Option ℕ) → AreDistinct scripts → ((k : ℕ) (name : List ℕ) → slice_get scripts k ≡ Some name → is_empty name ≡ false) → ReadsName strings reference (parent_name scripts parent) → option_and_then (λ parent. first_named parent scripts) (unless_empty (string_at strings reference)) ≡ parent
parent_read scripts strings reference None distinct full reads =
    ap (λ (n : List ℕ). option_and_then (λ parent. first_named parent scripts) (unless_empty n)) (get_or_from_slice_get strings reference [] [] reads.there)
parent_read scripts strings reference (Some number) distinct full reads =
    parent_by scripts strings reference number (slice_get scripts number) distinct full refl reads

auto_read : (text : List ℕ) (state : Option (List ℕ)) → IfSome state (λ name. is_empty name ≡ false) → text ≡ unwrap_or state [] → unless_empty text ≡ state
auto_read text None full e = ap unless_empty e
auto_read text (Some name) full e = ap unless_empty e ∙ named name full

-- ---- variables
value_read : (home : Home) (at : Table) (kind : CoreType) (d : Datum) (value : Value) → at.strings ≡ home.file.strings → (value ≡ values.NoneValue → default_of kind ≡ values.NoneValue) → SpellsLiteral at d value → value_meant home kind d ≡ value
value_read home at kind d values.NoneValue same none is = ap (value_meant home kind) is ∙ none refl
value_read home at kind d (values.Int number) same none is = ap (value_meant home kind) is
value_read home at kind d (values.Bool true) same none is = ap (value_meant home kind) is
value_read home at kind d (values.Bool false) same none is = ap (value_meant home kind) is
value_read home at kind d (values.Text text) same none is =
    ap (value_meant home kind) is.1
    ∙ ap (λ (l : List (List ℕ)). values.Text (string_at l is.0)) (sym same)
    ∙ ap (λ (t : List ℕ). values.Text t) (get_or_from_slice_get at.strings is.0 text [] is.2.there)
value_read home at kind d (values.Instance number) same none is = absurd is
value_read home at kind d (values.Array number) same none is = absurd is

module _ (from : Origin) (home : Home) (object : string home home.object.name ≡ from.script.name) (is : IsHome home (table from home object)) (names : HomeFits (home_of from)) where
  kind_read : (reference : ℕ) (kind : CoreType) → KindFits (home_of from).scripts (Some kind) → ReadsName home.file.strings reference (type_name (home_of from).scripts (Some kind)) → value_type home.scripts (string home reference) ≡ kind
  kind_read reference kind fits reads =
      ap (λ (l : List (List ℕ)). value_type l (string home reference)) is.scripts
      ∙ ap (λ (o : Option CoreType). unwrap_or o kinds.Int) (type_there (table from home object) reference (Some kind) names.scripts fits reads)

  variables_read : (variables : List PexVariable) (more : List CoreVariable) → AllByRecursion (VariableFits (home_of from).scripts) more → Each (SpellsVariable (table from home object)) variables more → map (variable_outlined home) variables ≡ map variable_outline more
  variables_read [] [] fits spells = refl
  variables_read [] (tree ∷ more) fits spells = absurd spells
  variables_read (v ∷ variables) [] fits spells = absurd spells
  variables_read (v ∷ variables) (tree ∷ more) fits spells =
      let called = get_or_from_slice_get home.file.strings v.name tree.name [] spells.0.name.there in
      let kind = kind_read v.kind tree.kind fits.0.kind spells.0.kind in
      let value = ap (λ (k : CoreType). value_meant home k v.value) kind ∙ value_read home (table from home object) tree.kind v.value tree.value refl fits.0.none spells.0.value in
      let others = variables_read variables more fits.1 spells.1 in
      λ j. record { name = called j; kind = kind j; value = value j } ∷ others j

  -- ---- properties
  abbrev outlined : PlainProperty → ℕ → OutlineProperty
  outlined p x = record { name = string home p.name; kind = value_type home.scripts (string home p.kind); variable = variable_meant home x }

  property_read : (p : PlainProperty) (tree : CoreProperty) (of : CoreAccess) (entries : List PlainLines) → tree.access ≡ of → KindFits (home_of from).scripts (Some tree.kind) → SpellsProperty from (table from home object) p (trees.property_of tree) entries → (rest : List OutlineProperty) → cons_option (property_outlined home p) rest ≡ auto_property tree ++ rest
  property_read p tree (access.Auto variable) entries e fits spells rest =
      let spelled = subst (λ (a : CoreAccess). SpellsAccess from (table from home object) p tree.name (trees.access_of a) entries) e spells.access in
      let called = get_or_from_slice_get home.file.strings p.name tree.name [] spells.name.there in
      let kind = kind_read p.kind tree.kind fits spells.kind in
      let number = variable_by from home object is spelled.reference variable (slice_get (home_of from).variables variable) names refl spelled.names in
      ap (λ (o : Option ℕ). cons_option (option_map (λ (x : ℕ). outlined p x) o) rest) spelled.variable_is
      ∙ (λ j. record { name = called j; kind = kind j; variable = number j } ∷ rest)
      ∙ ap (λ (a : CoreAccess). outlines.auto_only tree.name tree.kind a ++ rest) (sym e)
  property_read p tree (access.Full read write) entries e fits spells rest =
      let spelled = subst (λ (a : CoreAccess). SpellsAccess from (table from home object) p tree.name (trees.access_of a) entries) e spells.access in
      ap (λ (o : Option ℕ). cons_option (option_map (λ (x : ℕ). outlined p x) o) rest) spelled.variable
      ∙ ap (λ (a : CoreAccess). outlines.auto_only tree.name tree.kind a ++ rest) (sym e)

  properties_read : (properties : List PlainProperty) (more : List CoreProperty) (entries : List PlainLines) → AllByRecursion (λ (p : trees.Property). KindFits (home_of from).scripts (Some p.kind)) (map trees.property_of more) → EachWith (SpellsProperty from (table from home object)) properties (map trees.property_of more) entries → filter_map (property_outlined home) properties ≡ flat_map auto_property more
  properties_read [] [] entries fits spells = refl
  properties_read [] (tree ∷ more) entries fits spells = absurd spells
  properties_read (p ∷ properties) [] entries fits spells = absurd spells
  properties_read (p ∷ properties) (tree ∷ more) entries fits spells =
      property_read p tree tree.access spells.0 refl fits.0 spells.3 (filter_map (property_outlined home) properties)
      ∙ ap (λ (l : List OutlineProperty). auto_property tree ++ l) (properties_read properties more spells.1 fits.1 spells.4)

-- ---- functions of the empty state
shapes_are : (from : Origin) (more : List CoreFunction) (functions : List Function) → Each (λ (t : trees.Function) (f : Function). IsCodeOf from t.name t f) (map trees.function_of more) functions → map function_outlined functions ≡ map function_outline more
shapes_are from [] [] means = refl
shapes_are from [] (f ∷ functions) means = absurd means
shapes_are from (tree ∷ more) [] means = absurd means
shapes_are from (tree ∷ more) (f ∷ functions) means =
    let first = ap function_outlined means.0.is in
    let others = shapes_are from more functions means.1 in
    λ j. first j ∷ others j

none_empty : (from : Origin) (more : List trees.State) (states : List State) → AllByRecursion (λ (s : trees.State). is_empty s.name ≡ false) more → Each (StateMeans from) more states → empty_state_functions states ≡ []
none_empty from [] [] full means = refl
none_empty from [] (s ∷ states) full means = absurd means
none_empty from (t ∷ more) [] full means = absurd means
none_empty from (t ∷ more) (s ∷ states) full means =
    ap (λ (b : Bool). flat_map (λ (x : State). x.functions) (cond b (s ∷ filter is_empty_state states) (filter is_empty_state states))) (ap is_empty means.0.name ∙ full.0)
    ∙ none_empty from more states full.1 means.1

functions_read : (from : Origin) (more : List CoreState) (states : List State) → AreEmptyFirst (map trees.state_of more) → Each (StateMeans from) (map trees.state_of more) states → map function_outlined (empty_state_functions states) ≡ map function_outline (outlines.empty_state_functions more)
functions_read from [] [] first means = refl
functions_read from [] (s ∷ states) first means = absurd means
functions_read from (t ∷ more) [] first means = absurd means
functions_read from (t ∷ more) (s ∷ states) first means =
    ap (λ (b : Bool). map function_outlined (flat_map (λ (x : State). x.functions) (cond b (s ∷ filter is_empty_state states) (filter is_empty_state states)))) (ap is_empty (means.0.name ∙ first.0))
    ∙ ap (λ (l : List Function). map function_outlined (s.functions ++ l)) (none_empty from (map trees.state_of more) states first.1 means.1)
    ∙ ap (λ (l : List Function). map function_outlined l) (append-nil s.functions)
    ∙ shapes_are from t.functions.items s.functions means.0.functions

-- ---- the whole
pub outline_read : (from : Origin) (file : PlainPex) (spells : SpellsScript from file) → ScriptFits from (table_of from file) spells.object (trees.script_of from.script) → OutlineFits (home_of from).scripts (trees.script_of from.script) → script_outlined (record { scripts = (home_of from).scripts; file = file; object = spells.object }) ≡ script_outline from.script
outline_read from file spells fits outline =
    let tree = trees.script_of from.script in
    let home : Home = record { scripts = (home_of from).scripts; file = file; object = spells.object } in
    let parts = spells.spelled in
    let object = get_or_from_slice_get file.strings spells.object.name from.script.name [] parts.name.there in
    let is : IsHome home (table_of from file) = record { scripts = refl; variables = variables_are (table_of from file) spells.object.variables tree.variables parts.variables } in
    let means = script_read from file spells fits in
    let parent = parent_read (home_of from).scripts file.strings spells.object.parent tree.parent fits.names.scripts outline.parents parts.parent in
    let auto = auto_read (string home spells.object.auto_state) tree.auto_state outline.auto_state (get_or_from_slice_get file.strings spells.object.auto_state (unwrap_or tree.auto_state []) [] parts.auto_state.there) in
    let variables = variables_read from home object is fits.names spells.object.variables tree.variables outline.variables parts.variables in
    let properties = properties_read from home object is fits.names spells.object.properties from.script.properties.items parts.of_properties outline.properties parts.properties in
    let functions = functions_read from from.script.states.items (states_meant home) outline.states means.states in
    λ j. record {
      name = object j;
      parent = parent j;
      auto_state = auto j;
      variables = variables j;
      properties = properties j;
      functions = functions j;
    }
