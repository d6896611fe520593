-- The members that were collected of a verified set are what its scripts have, and the tables find the nearest of them.
use Rattle.std.proofs.Common.{◌≡◌, ℕ, zero, suc, ◌<◌, ◌≤◌, List, [], ◌∷◌, length, None, Some, map, refl, sym, ap, subst, ◌∙◌, ⊎_elim, arith}
use Rattle.std.specs.Prelude.{slice_get, slice_index, slice_index_or}
use Rattle.std.specs.Option.{option_map}
use Rattle.std.proofs.lemmas.Bool.{cases_lt}
use Rattle.std.proofs.lemmas.List.{length-map}
use Rattle.std.proofs.lemmas.Option.{slice_get-get_or}
use Rattle.core_tree.specs.Outlines.{script_shape}
use Rattle.core_tree.specs.declared.outline.OutlineScript.{OutlineScript}
use Rattle.pex_set.specs.Inherited.{found_in}
use Rattle.papy_base.specs.Lineage.{lineage, parent_of}
use Rattle.pex_set.specs.Names.{empty_name}
use Rattle.pex_set.specs.Nearest.{nearest, own_member, AreRanked}
use Rattle.papy_base.specs.Orders.{IsForest}
use Rattle.papy_base.specs.Ranks.{span_at}
use Rattle.papy_base.proofs.Lists.{In, Differ}
use Rattle.pex_set.proofs.NearestLemmas.{nearest_in}
use Rattle.pex_values.specs.declared.values.PexObject.{PexObject}
use Rattle.pex_values.specs.declared.values.PexState.{PexState}
use Rattle.pex_verify.specs.declared.judged.JudgedScript.{JudgedScript}
use Rattle.pex_verify.specs.declared.scripts.PropertySignature.{PropertySignature}
use Rattle.pex_verify.specs.declared.scripts.ScriptHead.{ScriptHead}
use Rattle.pex_verify.specs.declared.sources.SetFile.{SetFile}
use Rattle.pex_verify.specs.Found.{rank_of}
use Rattle.pex_verify.specs.Heads.{Placed, Members, IsHeadOf, parent_at}
use Rattle.pex_verify.specs.Loading.{IsWholeObject}
use Rattle.pex_verify.specs.JudgedCode.{outline_of, script_of}
use Rattle.pex_verify.specs.Rules.{AreDistinct}
use Rattle.pex_verify.specs.Sets.{JudgedSet}
use Rattle.pex_verify.specs.Signatures.{number_at}
use Rattle.pex_verify.specs.Tables.{no_members}
use Rattle.pex_verify.specs.Whole.{IsJudgedSet}
use Rattle.pex_verify.proofs.Collecting.{joined, joined_at, joined_past, all_ranked, methods_of, properties_in, collected_methods, collected_properties}
use Rattle.pex_verify.proofs.Context.{tables, parents, objects, heads, members, views, views_of, views_of_object, property_heads, collected_members}
use Rattle.pex_verify.proofs.Facts.{scripts_count, outline_count, heads_count, parents_count, object_is, head_is, no_parent, parents_among}
use Rattle.pex_verify.proofs.OwnMembers.{methods_are_own, properties_are_own, own_methods, own_properties, state_names}
use Rattle.pex_verify.proofs.Views.{view_of, own_found, place_of, heads_of, own_property, AreMembersOf, ArePropertyMembers}

-- ---- lists
-- a list with places has an item
pub item_of : {A : Type 0} (xs : List A) (k : ℕ) → k < length xs → A
item_of [] k h = absurd (omega arith)
item_of (x ∷ xs) k h = x

stands_at : (x : ℕ) (xs : List ℕ) → In x xs → (k : ℕ) × (k < length xs) × (slice_index xs k ≡ x)
stands_at x [] h = absurd h
stands_at x (y ∷ xs) h =
    ⊎_elim
    (λ (e : x ≡ y). (0, omega arith, sym e))
    (λ (g : In x xs). let w = stands_at x xs g in let l = w.1 in (suc w.0, omega arith, w.2))
    h

pub differ_from : (xs : List ℕ) → AreDistinct xs → Differ xs
differ_from [] distinct = tt
differ_from (x ∷ xs) distinct = (
  λ h. let w = stands_at x xs h in let l = w.1 in distinct 0 (suc w.0) (omega arith) (omega arith) (sym w.2),
  differ_from xs (λ a b less within. distinct (suc a) (suc b) (omega arith) (omega arith)),
)

views_at : (members : Members) (objects : List Placed) (heads : List ScriptHead) (k : ℕ) (o : Placed) (head : ScriptHead) → length heads ≡ length objects → k < length objects
    → slice_index_or (views_of members objects heads) k [] ≡ views_of_object members (slice_index_or objects k o) (slice_index_or heads k head).lacking.items
views_at members [] heads k o head count within = absurd (omega arith)
views_at members (x ∷ objects) [] k o head count within = absurd (omega arith)
views_at members (x ∷ objects) (h ∷ heads) zero o head count within = refl
views_at members (x ∷ objects) (h ∷ heads) (suc k) o head count within = views_at members objects heads k o head (omega arith) (omega arith)

pub views_past : (members : Members) (objects : List Placed) (heads : List ScriptHead) (k : ℕ) → length objects ≤ k → slice_index_or (views_of members objects heads) k [] ≡ []
views_past members [] heads k past = refl
views_past members (x ∷ objects) [] k past = refl
views_past members (x ∷ objects) (h ∷ heads) zero past = absurd (omega arith)
views_past members (x ∷ objects) (h ∷ heads) (suc k) past = views_past members objects heads k (omega arith)

heads_at : (heads : List ScriptHead) (k : ℕ) (head : ScriptHead) → k < length heads
    → slice_index_or (map (λ (h : ScriptHead). h.properties.items) heads) k [] ≡ (slice_index_or heads k head).properties.items
heads_at [] k head within = absurd (omega arith)
heads_at (h ∷ heads) zero head within = refl
heads_at (h ∷ heads) (suc k) head within = heads_at heads k head (omega arith)

heads_past : (heads : List ScriptHead) (k : ℕ) → length heads ≤ k → slice_index_or (map (λ (h : ScriptHead). h.properties.items) heads) k [] ≡ []
heads_past [] k past = refl
heads_past (h ∷ heads) zero past = absurd (omega arith)
heads_past (h ∷ heads) (suc k) past = heads_past heads k (omega arith)

-- ---- a set
module _ {set : JudgedSet} (whole : IsJudgedSet set) where
  -- a script of the set
  pub record IsScriptAt (script : ℕ) : Type 0 where
    pub o : Placed
    pub head : ScriptHead
    pub loaded : JudgedScript
    pub outline : OutlineScript
    pub is_head : IsHeadOf (members whole) (parent_at (parents whole) script) o.source.names.now o.object head
    pub is_object : IsWholeObject (record { set = tables whole; members = whole.judged.members }) script o loaded outline
    pub has_no_parent : number_at o.source.names.now o.object.parent ≡ 0 → parent_of (parents whole) script ≡ None
    pub head_stands : slice_get (heads whole) script ≡ Some head
    pub views_are : view_of (views whole) script ≡ views_of_object (members whole) o head.lacking.items
    pub properties_are : heads_of (property_heads whole) script ≡ head.properties.items
    pub methods_at : (names : ℕ × ℕ)
        → own_member (collected_members whole).methods script names ≡ own_member (methods_of (record { number = script; span = span_at (tables whole).table.descent script }) o head) script names
    pub properties_at : (names : ℕ × ℕ)
        → own_member (collected_members whole).properties script names
        ≡ own_member (properties_in (record { number = script; span = span_at (tables whole).table.descent script }) o head) script names

  all_methods : (collected_members whole).methods ≡ joined methods_of (tables whole).table.descent 0 (objects whole) (heads whole)
  all_methods = collected_methods (no_members (tables whole).table.descent) 0 (objects whole) (heads whole)

  all_properties : (collected_members whole).properties ≡ joined properties_in (tables whole).table.descent 0 (objects whole) (heads whole)
  all_properties = collected_properties (no_members (tables whole).table.descent) 0 (objects whole) (heads whole)

  loaded_count : length set.scripts ≡ length (objects whole)
  loaded_count = sym (length-map set.scripts (script_of (outline_of set))) ∙ scripts_count whole

  outlines_are : length set.outline ≡ length (objects whole)
  outlines_are = sym (length-map set.outline script_shape) ∙ outline_count whole

  pub script_at : (script : ℕ) → script < length (objects whole) → IsScriptAt script
  script_at script within =
      let heads_within : script < length (heads whole) = omega (arith, heads_count whole) in
      let scripts_within : script < length set.scripts = omega (arith, loaded_count) in
      let outlines_within : script < length set.outline = omega (arith, outlines_are) in
      let o = item_of (objects whole) script within in
      let head = item_of (heads whole) script heads_within in
      let loaded = item_of set.scripts script scripts_within in
      let outline = item_of set.outline script outlines_within in
      record {
        o = slice_index_or (objects whole) script o;
        head = slice_index_or (heads whole) script head;
        loaded = slice_index_or set.scripts script loaded;
        outline = slice_index_or set.outline script outline;
        is_head = head_is whole script o head within;
        is_object = object_is whole script o loaded outline within;
        has_no_parent = no_parent whole script o within;
        head_stands = slice_get-get_or (heads whole) script head heads_within;
        views_are = views_at (members whole) (objects whole) (heads whole) script o head (heads_count whole) within;
        properties_are = heads_at (heads whole) script head heads_within;
        methods_at = λ names. ap (λ l. own_member l script names) all_methods ∙ joined_at methods_of methods_are_own (tables whole).table.descent (objects whole) (heads whole) script names o head (heads_count whole) within;
        properties_at = λ names. ap (λ l. own_member l script names) all_properties ∙ joined_at properties_in properties_are_own (tables whole).table.descent (objects whole) (heads whole) script names o head (heads_count whole) within;
      }

  -- no two states of a script have one name
  pub states_differ : (script : ℕ) (at : IsScriptAt script) → Differ (state_names at.o.source.names.now at.o.object.states.items)
  states_differ script at =
      let is = at.is_object.object in
      let source : is.home.source.now.names.now ≡ at.o.source.names.now = ap (λ (s : SetFile). s.names.now) is.source in
      let states : is.home.object.now.states.items ≡ at.o.object.states.items = ap (λ (object : PexObject). object.states.items) is.object in
      subst (λ (numbers : List ℕ). Differ (state_names numbers at.o.object.states.items)) source
      (subst (λ (l : List PexState). Differ (state_names is.home.source.now.names.now l)) states (differ_from _ is.loaded.distinct))

  -- ---- what scripts have
  pub methods_collected : AreMembersOf (views whole) (collected_members whole).methods
  methods_collected script state name =
      ⊎_elim
      (λ (within : script < length (objects whole)).
      let at = script_at script within in
      at.methods_at (state, name)
      ∙ own_methods (members whole) (parent_at (parents whole) script) (record { number = script; span = span_at (tables whole).table.descent script }) at.o at.head at.is_head
      (states_differ script at) state name
      ∙ ap (λ v. option_map (place_of script) (own_found v state name)) (sym at.views_are))
      (λ (past : length (objects whole) ≤ script).
      ap (λ l. own_member l script (state, name)) all_methods
      ∙ joined_past methods_of methods_are_own (tables whole).table.descent (objects whole) (heads whole) script (state, name) past
      ∙ ap (λ v. option_map (place_of script) (own_found v state name)) (sym (views_past (members whole) (objects whole) (heads whole) script past)))
      (cases_lt script (length (objects whole)))

  pub properties_collected : ArePropertyMembers (property_heads whole) (collected_members whole).properties
  properties_collected script name =
      ⊎_elim
      (λ (within : script < length (objects whole)).
      let at = script_at script within in
      at.properties_at (0, name)
      ∙ own_properties (record { number = script; span = span_at (tables whole).table.descent script }) at.o at.head name
      ∙ ap (λ l. option_map (λ (own : ℕ × PropertySignature). record { object = script; state = 0; place = own.0 }) (own_property l name)) (sym at.properties_are))
      (λ (past : length (objects whole) ≤ script).
      ap (λ l. own_member l script (0, name)) all_properties
      ∙ joined_past properties_in properties_are_own (tables whole).table.descent (objects whole) (heads whole) script (0, name) past
      ∙ ap (λ l. option_map (λ (own : ℕ × PropertySignature). record { object = script; state = 0; place = own.0 }) (own_property l name))
      (sym (heads_past (heads whole) script (omega (arith, heads_count whole)))))
      (cases_lt script (length (objects whole)))

  -- ---- what tables find
  forest : IsForest (parents whole)
  forest = record { among = parents_among whole; rooted = whole.judged.loaded.rooted }

  pub methods_found : (script name : ℕ) → script < length (parents whole)
      → found_in (tables whole).table.methods (empty_name, name) (rank_of (tables whole) script) ≡ nearest (collected_members whole).methods (lineage (parents whole) (Some script)) (0, name)
  methods_found script name within =
      nearest_in (parents whole) (tables whole).table.descent (collected_members whole).methods forest whole.judged.loaded.is_table.descent ranked script within (0, name)
      (tables whole).table.methods whole.judged.loaded.is_table.methods
    where
      ranked : AreRanked (tables whole).table.descent (length (parents whole)) (collected_members whole).methods
      ranked = subst (AreRanked (tables whole).table.descent (length (parents whole))) (sym all_methods) (all_ranked methods_of methods_are_own (tables whole).table.descent (objects whole) (heads whole) (length (parents whole)) (sym (parents_count whole)))

  pub properties_found : (script name : ℕ) → script < length (parents whole)
      → found_in (tables whole).table.properties (empty_name, name) (rank_of (tables whole) script)
      ≡ nearest (collected_members whole).properties (lineage (parents whole) (Some script)) (0, name)
  properties_found script name within =
      nearest_in (parents whole) (tables whole).table.descent (collected_members whole).properties forest whole.judged.loaded.is_table.descent ranked script within (0, name)
      (tables whole).table.properties whole.judged.loaded.is_table.properties
    where
      ranked : AreRanked (tables whole).table.descent (length (parents whole)) (collected_members whole).properties
      ranked = subst (AreRanked (tables whole).table.descent (length (parents whole))) (sym all_properties) (all_ranked properties_in properties_are_own (tables whole).table.descent (objects whole) (heads whole) (length (parents whole)) (sym (parents_count whole)))
