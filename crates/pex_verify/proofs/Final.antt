-- A set whose tables agree with its scripts is typed.
use Rattle.std.proofs.Common.{◌≡◌, ℕ, ◌<◌, Bool, true, false, cond, List, [], ◌∷◌, length, Option, Some, None, map, All, refl, sym, ap, subst, ◌∙◌, arith}
use Rattle.std.specs.Prelude.{vec_len, slice_get, slice_index_or}
use Rattle.std.specs.List.{AllByRecursion, flat_map, list_any}
use Rattle.std.specs.Option.{option_and_then, option_map}
use Rattle.std.specs.declared.alloc.Global.{Global}
use Rattle.std.specs.declared.vec.Vec.{Vec}
use Rattle.std.proofs.lemmas.List.Elements.{All-append, All-map, All-cons, All-nil}
use Rattle.std.proofs.lemmas.Option.{get_or_from_slice_get, none-some, same_Some, slice_get-map, slice_get_within}
use Rattle.core_tree.specs.declared.outline.OutlineScript.{OutlineScript}
use Rattle.core_tree.specs.declared.outline.OutlineVariable.{OutlineVariable}
use Rattle.core_tree.specs.Outlines.{ScriptShape, script_shape}
use Rattle.papy_base.specs.declared.name.Name.{Name}
use Rattle.run_laws.specs.Fits.{variable_kinds}
use Rattle.script_meaning.specs.Values.{lineage, parent_in}
use Rattle.code_meaning.specs.Code.{Function, Access, Property, State}
use Rattle.code_meaning.specs.LookUp.{BodyPlace, OfState, OfGet, OfSet, script_of, states_in, properties_in, functions_in, reader_in, writer_in, function_at}
use Rattle.run_laws.specs.TypedCode.{IsTyped, IsTypedSet}
use Rattle.papy_base.specs.Lineage as objects_above
use Rattle.pex_values.specs.declared.values.PexFunction.{PexFunction}
use Rattle.pex_values.specs.declared.values.PexProperty.{PexProperty}
use Rattle.pex_values.specs.declared.values.PexState.{PexState}
use Rattle.pex_verify.specs.declared.judged.JudgedFunction.{JudgedFunction}
use Rattle.pex_verify.specs.declared.judged.JudgedProperty.{JudgedProperty}
use Rattle.pex_verify.specs.declared.judged.JudgedScript.{JudgedScript}
use Rattle.pex_verify.specs.declared.scope.Home.{Home}
use Rattle.pex_verify.specs.declared.scripts.SetHeads.{SetHeads}
use Rattle.pex_verify.specs.declared.sources.DefaultMembers.{DefaultMembers}
use Rattle.pex_verify.specs.Agreement.{Agrees}
use Rattle.pex_verify.specs.Loading.{AreProperties}
use Rattle.pex_verify.specs.Matching.{Written, IsWritten}
use Rattle.pex_verify.specs.JudgedCode.{outline_of, scripts_of, function_of, function_where, property_of, access_of, script_of as plain_script_of}
use Rattle.pex_verify.specs.Properties.{AreAccessors, IsProperty, Reads, Writes}
use Rattle.pex_verify.specs.Sets.{JudgedSet}
use Rattle.pex_verify.specs.Signatures.{number_at}
use Rattle.pex_verify.specs.Sites.{site_of, AreNumberedIn, FinalAt}
use Rattle.pex_verify.specs.Sources.{IsNamed}
use Rattle.pex_verify.specs.States.{WrittenState, IsState, AreStates, own_written, written_member, member_written, member_in, lacking_written, lacking_places, is_empty_state, state_functions, state_written, added_state, states_written}
use Rattle.pex_verify.specs.Types.{IsTypeAmong}
use Rattle.pex_verify.specs.Whole.{IsJudgedSet}
use Rattle.pex_verify.proofs.Context.{tables, parents, objects}
use Rattle.pex_verify.proofs.Facts.{outline_count, parents_count, object_is, source_named, title_number, outline_parent, item_at}
use Rattle.pex_verify.proofs.Relatives.{heads_length}
use Rattle.pex_verify.proofs.Upward.{same_lineage}

-- ---- what stands where
pub record IsMade {X Y : Type 0} (f : X → Y) (xs : List X) (place : ℕ) (y : Y) : Type 0 where
  pub item : X
  pub stands : slice_get xs place ≡ Some item
  pub is : f item ≡ y

-- what stands in a list that was made item by item was made of the item there
made_at : {X Y : Type 0} (f : X → Y) (xs : List X) (place : ℕ) (y : Y) → slice_get (map f xs) place ≡ Some y → IsMade f xs place y
made_at f xs place y e = by (slice_get xs place) refl (sym (slice_get-map f xs place) ∙ e)
  where
    by : (o : Option _) → slice_get xs place ≡ o → option_map f o ≡ Some y → IsMade f xs place y
    by None at found = absurd (none-some y found)
    by (Some x) at found = record { item = x; stands = at; is = same_Some (f x) y found }

abbrev plain_state_of : List ScriptShape → Name × Vec JudgedFunction Global → State
plain_state_of outline state = record { name = state.0; functions = map (function_of outline) state.1.items }

-- ---- the strings of functions have their numbers
module _ (names : List (List ℕ)) (home : Home) (own : AreNumberedIn names home.source.now.titles.now home.source.now.names.now) (members : AreNumberedIn names home.members.now.source.now.titles.now home.members.now.source.now.names.now) where
  abbrev IsNumberedIn : Written → Type 0
  IsNumberedIn written = AreNumberedIn names written.titles written.numbers

  abbrev IsNumberedState : WrittenState → Type 0
  IsNumberedState state = All IsNumberedIn state.functions

  member_numbered : (member : Option (ℕ × PexFunction)) → All IsNumberedIn (member_written home member)
  member_numbered None = All-nil IsNumberedIn
  member_numbered (Some member) = All-cons IsNumberedIn (written_member home member) [] members (All-nil IsNumberedIn)

  members_numbered : (places : List ℕ) → All IsNumberedIn (flat_map (member_in home) places)
  members_numbered [] = All-nil IsNumberedIn
  members_numbered (place ∷ places) =
      All-append IsNumberedIn (member_in home place) (flat_map (member_in home) places) (member_numbered (slice_get home.members.now.list.now place)) (members_numbered places)

  lacking_numbered : (is_empty : Bool) → All IsNumberedIn (cond is_empty (lacking_written home) [])
  lacking_numbered true = members_numbered (lacking_places home)
  lacking_numbered false = All-nil IsNumberedIn

  state_numbered : (state : PexState) → All IsNumberedIn (state_functions home state)
  state_numbered state =
      All-append IsNumberedIn (map (own_written home) state.functions.items) (cond (is_empty_state home state) (lacking_written home) [])
      (All-map IsNumberedIn (own_written home) state.functions.items (λ k function h. own))
      (lacking_numbered (is_empty_state home state))

  added_numbered : (lacking : List Written) → All IsNumberedIn lacking → All IsNumberedState (added_state lacking)
  added_numbered [] each = All-nil IsNumberedState
  added_numbered (first ∷ rest) each =
      All-cons IsNumberedState (record { name = []; functions = first ∷ rest }) [] each (All-nil IsNumberedState)

  behind_numbered : (has_empty : Bool) → All IsNumberedState (cond has_empty [] (added_state (lacking_written home)))
  behind_numbered true = All-nil IsNumberedState
  behind_numbered false = added_numbered (lacking_written home) (members_numbered (lacking_places home))

  states_numbered : (states : List PexState) → All IsNumberedState (states_written home states)
  states_numbered states =
      All-append IsNumberedState (map (state_written home) states) (cond (list_any (is_empty_state home) states) [] (added_state (lacking_written home)))
      (All-map IsNumberedState (state_written home) states (λ k state h. state_numbered (slice_index_or states k state)))
      (behind_numbered (list_any (is_empty_state home) states))

-- ---- accessors
accessor_written : (home : Home) (name : ℕ) (HasForm : PexFunction → Type 0) (function : Option PexFunction) (loaded : JudgedFunction) → AreAccessors home name HasForm function (Some loaded)
    → (written : PexFunction) × IsWritten (site_of home) (own_written home (name, written)) loaded
accessor_written home name HasForm None loaded are = absurd are
accessor_written home name HasForm (Some function) loaded are = (function, are.0.written)

function_made : (outline : List ScriptShape) (loaded : Option JudgedFunction) (function : Function) → function_where outline loaded ≡ Some function
    → (found : JudgedFunction) × (loaded ≡ Some found) × (function_of outline found ≡ function)
function_made outline None function e = absurd (none-some function e)
function_made outline (Some loaded) function e = (loaded, refl, same_Some (function_of outline loaded) function e)

reader_made : (outline : List ScriptShape) (property : JudgedProperty) (variable : Option ℕ) (function : Function) → reader_in (access_of outline property variable) ≡ Some function
    → function_where outline property.read ≡ Some function
reader_made outline property None function e = e
reader_made outline property (Some variable) function e = absurd (none-some function e)

writer_made : (outline : List ScriptShape) (property : JudgedProperty) (variable : Option ℕ) (function : Function) → writer_in (access_of outline property variable) ≡ Some function
    → function_where outline property.write ≡ Some function
writer_made outline property None function e = e
writer_made outline property (Some variable) function e = absurd (none-some function e)

-- ---- a set
module _ {set : JudgedSet} (whole : IsJudgedSet set) where
  abbrev outline : List ScriptShape
  outline = outline_of set

  -- what is known of the script of this number
  record IsLoadedAt (n : ℕ) (script : JudgedScript) : Type 0 where
    pub home : Home
    pub set_is : home.set.now ≡ tables whole
    pub number : home.here ≡ n
    pub properties : AreProperties home script.properties.items
    pub states : AreStates (site_of home) (states_written home home.object.now.states.items) script.states.items
    pub own : AreNumberedIn whole.judged.names home.source.now.titles.now home.source.now.names.now
    pub members : AreNumberedIn whole.judged.names home.members.now.source.now.titles.now home.members.now.source.now.names.now
    pub within : n < vec_len (tables whole).heads
    pub variables : map (λ variable. variable.kind) home.variables.now.list.items ≡ variable_kinds (slice_get outline n)
    pub variables_among : All (λ variable. IsTypeAmong (vec_len (tables whole).heads) variable.kind) home.variables.now.list.items

  loaded_at : (n : ℕ) (script : JudgedScript) → slice_get set.scripts n ≡ Some script → IsLoadedAt n script
  loaded_at n script stands =
      let within : n < length set.scripts = slice_get_within set.scripts n script stands in
      let is_object : n < length (objects whole) = omega (arith, whole.judged.loaded.objects.script_count, within) in
      let o = item_at (objects whole) n is_object in
      let l = item_at set.outline n (omega (arith, whole.judged.loaded.objects.outline_count, is_object)) in
      let is = object_is whole n o.item script l.item is_object in
      let script_is : slice_index_or set.scripts n script ≡ script = get_or_from_slice_get set.scripts n script script stands in
      let loaded = is.object.loaded in
      let same_variables : l.item.variables.items ≡ is.object.home.variables.now.list.items = ap (λ (o : OutlineScript). o.variables.items) (sym l.is) ∙ loaded.shape.variables in
      let count : length set.scripts ≡ vec_len (tables whole).heads = omega (arith, whole.judged.loaded.objects.script_count, heads_length whole) in
      record {
        home = is.object.home;
        set_is = is.object.set;
        number = is.object.number;
        properties = subst (λ (s : JudgedScript). AreProperties is.object.home s.properties.items) script_is loaded.properties;
        states = subst (λ (s : JudgedScript). AreStates (site_of is.object.home) (states_written is.object.home is.object.home.object.now.states.items) s.states.items) script_is loaded.states;
        own = title_number whole is.object.home.source.now (subst (IsNamed whole.judged.names) (sym is.object.source) (source_named whole n o.item is_object));
        members = title_number whole is.object.home.members.now.source.now (subst (λ (m : DefaultMembers). IsNamed whole.judged.names m.source.now) (sym is.object.members) whole.judged.members_named);
        within = omega (arith, heads_length whole, is_object);
        variables = ap (map (λ (variable : OutlineVariable). variable.kind)) (sym same_variables) ∙ sym (ap variable_kinds (slice_get-map script_shape set.outline n ∙ ap (option_map script_shape) l.stands));
        variables_among = subst (λ (vs : List OutlineVariable). All (λ variable. IsTypeAmong (vec_len (tables whole).heads) variable.kind) vs) (ap (λ (o : OutlineScript). o.variables.items) l.is ∙ same_variables)
            (subst (λ (count : ℕ). All (λ (variable : OutlineVariable). IsTypeAmong count variable.kind) (slice_index_or set.outline n l.item).variables.items) count (whole.sound.scripts.each n l.item script within).outline.variables);
      }

  module _ (agrees : Agrees (tables whole) whole.judged.names outline (scripts_of set)) where
    abbrev IsTypedAt : ℕ → Function → Type 0
    IsTypedAt n function =
        AllByRecursion (IsTyped (record { outline = outline; scripts = scripts_of set; script = n; function = function })) function.code

    final : (n : ℕ) (script : JudgedScript) (is : IsLoadedAt n script) (numbers : List ℕ) (titles : List (List ℕ)) → AreNumberedIn whole.judged.names titles numbers → FinalAt (site_of is.home) numbers titles
    final n script is numbers titles numbered = record {
      names = whole.judged.names;
      outline = outline;
      scripts = scripts_of set;
      agrees = subst (λ (s : SetHeads). Agrees s whole.judged.names outline (scripts_of set)) (sym is.set_is) agrees;
      numbered = numbered;
      here = subst (λ (s : SetHeads). is.home.here < vec_len s.heads) (sym is.set_is) (omega (arith, is.number, is.within));
      variables = is.variables ∙ ap (λ here. variable_kinds (slice_get outline here)) (sym is.number);
      variables_among = subst (λ (s : SetHeads). All (λ variable. IsTypeAmong (vec_len s.heads) variable.kind) is.home.variables.now.list.items) (sym is.set_is) is.variables_among;
    }

    -- the code of what is loaded for a function is typed
    typed_written : (n : ℕ) (script : JudgedScript) (is : IsLoadedAt n script) (written : Written) (loaded : JudgedFunction) → IsWritten (site_of is.home) written loaded
        → AreNumberedIn whole.judged.names written.titles written.numbers → IsTypedAt n (function_of outline loaded)
    unfolding final
    typed_written n script is written loaded are numbered =
        subst (λ here. IsTypedAt here (function_of outline loaded)) is.number (are.typed (final n script is written.numbers written.titles numbered))

    -- ---- functions of states
    typed_in_state : (n : ℕ) (script : JudgedScript) → IsLoadedAt n script → (place k : ℕ) (state : Name × Vec JudgedFunction Global) (loaded : JudgedFunction)
        → slice_get script.states.items place ≡ Some state → slice_get state.1.items k ≡ Some loaded → IsTypedAt n (function_of outline loaded)
    typed_in_state n script is place k state loaded state_stands stands =
        let all = states_written is.home is.home.object.now.states.items in
        let none : WrittenState = record { name = []; functions = [] } in
        let state_within : place < length script.states.items = slice_get_within script.states.items place state state_stands in
        let within : k < length state.1.items = slice_get_within state.1.items k loaded stands in
        let here = slice_index_or all place none in
        let of_state : IsState (site_of is.home) here state = subst (IsState (site_of is.home) here) (get_or_from_slice_get script.states.items place state state state_stands) (is.states.each place none state state_within) in
        let number_within : k < length here.functions = omega (arith, of_state.functions.count, within) in
        let written = item_at here.functions k number_within in
        let are = subst (IsWritten (site_of is.home) (slice_index_or here.functions k written.item)) (get_or_from_slice_get state.1.items k loaded loaded stands) (of_state.functions.each k written.item loaded within) in
        typed_written n script is (slice_index_or here.functions k written.item) loaded are
        (states_numbered whole.judged.names is.home is.own is.members is.home.object.now.states.items place none (omega (arith, is.states.count, state_within)) k written.item number_within)

    -- ---- functions of properties
    property_is : (n : ℕ) (script : JudgedScript) (is : IsLoadedAt n script) (k : ℕ) (property : JudgedProperty) → slice_get script.properties.items k ≡ Some property
        → (written : PexProperty) × IsProperty is.home k written property
    property_is n script is k property stands =
        let within : k < length script.properties.items = slice_get_within script.properties.items k property stands in
        let written = item_at is.home.object.now.properties.items k (omega (arith, is.properties.count, within)) in
        let here = slice_index_or is.home.object.now.properties.items k written.item in
        (here, subst (IsProperty is.home k here) (get_or_from_slice_get script.properties.items k property property stands) (is.properties.each k written.item property within))

    typed_accessor : (n : ℕ) (script : JudgedScript) (is : IsLoadedAt n script) (name : ℕ) (HasForm : PexFunction → Type 0) (function : Option PexFunction) (loaded : Option JudgedFunction) (found : JudgedFunction)
        → loaded ≡ Some found → AreAccessors is.home name HasForm function loaded → IsTypedAt n (function_of outline found)
    typed_accessor n script is name HasForm function loaded found e are =
        let written = accessor_written is.home name HasForm function found (subst (AreAccessors is.home name HasForm function) e are) in
        typed_written n script is (own_written is.home (name, written.0)) found written.1 is.own

    -- ---- functions by their places
    typed_of_state : (script state k : ℕ) (function : Function) → slice_get (functions_in (slice_get (states_in (slice_get (scripts_of set) script)) state)) k ≡ Some function → IsTypedAt script function
    typed_of_state script state k function e =
        in_script (slice_get set.scripts script) refl (ap (λ o. slice_get (functions_in (slice_get (states_in o) state)) k) (sym (slice_get-map (plain_script_of outline) set.scripts script)) ∙ e)
      where
        in_state : (s : JudgedScript) → slice_get set.scripts script ≡ Some s → (o : Option (Name × Vec JudgedFunction Global)) → slice_get s.states.items state ≡ o
            → slice_get (functions_in (option_map (plain_state_of outline) o)) k ≡ Some function → IsTypedAt script function
        in_state s at None stands found = absurd (none-some function found)
        in_state s at (Some t) stands found =
            let made = made_at (function_of outline) t.1.items k function found in
            subst (IsTypedAt script) made.is (typed_in_state script s (loaded_at script s at) state k t made.item stands made.stands)

        in_script : (o : Option JudgedScript) → slice_get set.scripts script ≡ o
            → slice_get (functions_in (slice_get (states_in (option_map (plain_script_of outline) o)) state)) k ≡ Some function → IsTypedAt script function
        in_script None at found = absurd (none-some function found)
        in_script (Some s) at found =
            in_state s at (slice_get s.states.items state) refl (ap (λ o. slice_get (functions_in o) k) (sym (slice_get-map (plain_state_of outline) s.states.items state)) ∙ found)

    -- one of the two functions that a property may have
    typed_of_property : (pick : Access → Option Function) (picked : JudgedProperty → Option JudgedFunction)
        → ((property : JudgedProperty) (function : Function) → pick (access_of outline property property.variable) ≡ Some function → function_where outline (picked property) ≡ Some function)
        → ((n : ℕ) (script : JudgedScript) → IsLoadedAt n script → (k : ℕ) (property : JudgedProperty) (loaded : JudgedFunction) → slice_get script.properties.items k ≡ Some property → picked property ≡ Some loaded → IsTypedAt n (function_of outline loaded))
        → (script k : ℕ) (function : Function) → option_and_then (λ (found : Property). pick found.access) (slice_get (properties_in (slice_get (scripts_of set) script)) k) ≡ Some function → IsTypedAt script function
    typed_of_property pick picked made typed script k function e =
        in_script (slice_get set.scripts script) refl (ap (λ o. option_and_then (λ (found : Property). pick found.access) (slice_get (properties_in o) k)) (sym (slice_get-map (plain_script_of outline) set.scripts script)) ∙ e)
      where
        in_property : (s : JudgedScript) → slice_get set.scripts script ≡ Some s → (o : Option JudgedProperty) → slice_get s.properties.items k ≡ o
            → option_and_then (λ (found : Property). pick found.access) (option_map (property_of outline) o) ≡ Some function → IsTypedAt script function
        in_property s at None stands found = absurd (none-some function found)
        in_property s at (Some p) stands found =
            let loaded = function_made outline (picked p) function (made p function found) in
            subst (IsTypedAt script) loaded.2 (typed script s (loaded_at script s at) k p loaded.0 stands loaded.1)

        in_script : (o : Option JudgedScript) → slice_get set.scripts script ≡ o
            → option_and_then (λ (found : Property). pick found.access) (slice_get (properties_in (option_map (plain_script_of outline) o)) k) ≡ Some function → IsTypedAt script function
        in_script None at found = absurd (none-some function found)
        in_script (Some s) at found =
            in_property s at (slice_get s.properties.items k) refl (ap (option_and_then (λ (found : Property). pick found.access)) (sym (slice_get-map (property_of outline) s.properties.items k)) ∙ found)

    typed_at : (place : BodyPlace) (function : Function) → function_at (scripts_of set) place ≡ Some function → IsTypedAt (script_of place) function
    typed_at (OfState script state k) function e = typed_of_state script state k function e
    typed_at (OfGet script k) function e =
        typed_of_property reader_in (λ property. property.read) (λ property. reader_made outline property property.variable)
        (λ n s is k property loaded stands read.
        let p = property_is n s is k property stands in
        typed_accessor n s is p.0.name (Reads is.home.source.now.names.now (number_at is.home.source.now.names.now p.0.kind)) p.0.read property.read loaded read p.1.read)
        script k function e
    typed_at (OfSet script k) function e =
        typed_of_property writer_in (λ property. property.write) (λ property. writer_made outline property property.variable)
        (λ n s is k property loaded stands write.
        let p = property_is n s is k property stands in
        typed_accessor n s is p.0.name (Writes is.home.set.now.types is.home.source.now.names.now (number_at is.home.source.now.names.now p.0.kind)) p.0.write property.write loaded write p.1.write)
        script k function e

    -- ---- no script is above itself
    rooted_at : (script : ℕ) (shape : ScriptShape) → slice_get outline script ≡ Some shape → lineage outline (Some script) ≡ script ∷ lineage outline shape.parent
    rooted_at script shape stands =
        let same = same_lineage outline (parents whole) (outline_count whole ∙ sym (parents_count whole)) (outline_parent whole) in
        let within : script < length outline = slice_get_within outline script shape stands in
        same (Some script)
        ∙ whole.judged.loaded.rooted script (omega (arith, outline_count whole, parents_count whole, within))
        ∙ ap (λ o. script ∷ objects_above.lineage (parents whole) o) (sym (outline_parent whole script) ∙ ap parent_in stands)
        ∙ ap (λ l. script ∷ l) (sym (same shape.parent))

    pub set_is_typed : IsTypedSet outline (scripts_of set)
    set_is_typed = record { functions = typed_at; above = rooted_at }
