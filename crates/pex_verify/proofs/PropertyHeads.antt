-- The properties of a set that was verified are what its tables say.
use Rattle.std.proofs.Common.{◌≡◌, ℕ, zero, suc, ◌<◌, ◌≤◌, List, [], ◌∷◌, length, Option, None, Some, map, refl, sym, ap, subst, ◌∙◌, arith, ⊎_elim}
use Rattle.std.specs.Prelude.{slice_get, slice_index_or, vec_len, All}
use Rattle.std.specs.List.{AllZip}
use Rattle.std.specs.Option.{option_and_then, option_map}
use Rattle.std.proofs.lemmas.Bool.{cases_lt}
use Rattle.std.proofs.lemmas.List.{get_or_past, length-map}
use Rattle.std.proofs.lemmas.List.Elements.{All-head, All-tail}
use Rattle.std.proofs.lemmas.Option.{none-some, same_Some, slice_get-map, get_or_from_slice_get, slice_get_past, slice_get_within}
use Rattle.core_tree.specs.declared.outline.OutlineScript.{OutlineScript}
use Rattle.core_tree.specs.Outlines.{ScriptShape, script_shape}
use Rattle.script_meaning.specs.Values.{parent_in}
use Rattle.code_meaning.specs.Code.{Property}
use Rattle.code_meaning.specs.LookUp.{properties_in}
use Rattle.pex_set.specs.Inherited.{found_in}
use Rattle.pex_set.specs.Names.{empty_name, number_in}
use Rattle.pex_set.specs.declared.inherited.MemberPlace.{MemberPlace}
use Rattle.pex_values.specs.declared.values.Pex.{Pex}
use Rattle.pex_values.specs.declared.values.PexObject.{PexObject}
use Rattle.pex_values.specs.declared.values.PexProperty.{PexProperty}
use Rattle.pex_verify.specs.declared.judged.JudgedProperty.{JudgedProperty}
use Rattle.pex_verify.specs.declared.judged.JudgedScript.{JudgedScript}
use Rattle.pex_verify.specs.declared.scope.Home.{Home}
use Rattle.pex_verify.specs.declared.scripts.PropertySignature.{PropertySignature}
use Rattle.pex_verify.specs.declared.scripts.ScriptHead.{ScriptHead}
use Rattle.pex_verify.specs.declared.scripts.SetHeads.{SetHeads}
use Rattle.pex_verify.specs.declared.sources.SetFile.{SetFile}
use Rattle.pex_verify.specs.Agreement.{IsPropertyOffered}
use Rattle.pex_verify.specs.Found.{rank_of, property_at, property_found, parent_of as table_parent}
use Rattle.pex_verify.specs.Heads.{Placed, IsHeadOf, parent_at, property_by}
use Rattle.pex_verify.specs.Loading.{AreProperties, IsObjectOf, IsWholeObject, Judged}
use Rattle.pex_verify.specs.Pairs.{Paired}
use Rattle.pex_verify.specs.JudgedCode.{outline_of, scripts_of, property_of, script_of}
use Rattle.pex_verify.specs.Properties.{IsProperty}
use Rattle.pex_verify.specs.Sets.{JudgedSet}
use Rattle.pex_verify.specs.Signatures.{number_at}
use Rattle.pex_verify.specs.Sources.{HasParts, HaveParts, IsNamed}
use Rattle.pex_verify.specs.Variables.{variable_type, type_of_variable}
use Rattle.pex_verify.specs.Whole.{IsJudgedSet}
use Rattle.pex_verify.proofs.Agreeing.{properties_agree, new_by_table, head_at_map}
use Rattle.pex_verify.proofs.Collected.{properties_collected, properties_found}
use Rattle.pex_verify.proofs.Context.{tables, parents, objects, heads, members, property_heads, collected_members}
use Rattle.pex_verify.proofs.Facts.{outline_count, heads_count, parents_count, object_is, head_is, source_named, source_has_parts, object_stands, title_number, outline_parent, parent_within, rooted_in_outline}
use Rattle.pex_verify.proofs.PropertyViews.{AreVariablesOf, AreTitlesNumbered, IsPropertyViewed-from_file}
use Rattle.pex_verify.proofs.Views.{IsPropertyViewed, HaveProperties, AreNew, head_at, heads_of}

-- the item at a place of a list
item_at : {A : Type 0} (xs : List A) (k : ℕ) → k < length xs → (x : A) × (slice_get xs k ≡ Some x)
item_at [] k h = absurd (omega arith)
item_at (x ∷ xs) zero h = (x, refl)
item_at (x ∷ xs) (suc k) h = item_at xs k (omega arith)

-- ---- the properties of an object
module _ (home : Home) (outline : List ScriptShape) (script : ℕ) (outlined : OutlineScript) (stands : slice_get outline script ≡ Some (script_shape outlined)) (variables : AreVariablesOf home outlined) (names : List (List ℕ)) (numbered : AreTitlesNumbered names home.source.now) where
  viewed_from : (properties : List PexProperty) (loaded : List JudgedProperty)
      → Paired PexProperty JudgedProperty (λ n p l. (place : ℕ) × IsProperty home place p l) properties loaded
      → All HasParts properties
      → AllZip (IsPropertyViewed home.set.now.types names outline script) (map (property_by home.source.now.names.now) properties) (map (property_of outline) loaded)
  viewed_from [] [] are parts = tt
  viewed_from [] (l ∷ loaded) are parts = let e = are.count in absurd (omega arith)
  viewed_from (p ∷ properties) [] are parts = let e = are.count in absurd (omega arith)
  viewed_from (p ∷ properties) (l ∷ loaded) are parts =
      let e = are.count in
      let first = are.each 0 p l (omega arith) in
      let viewed = IsPropertyViewed-from_file home outline script outlined stands variables names numbered first.0 p l first.1 (All-head HasParts p properties parts) in
      (viewed, viewed_from properties loaded (record { count = omega arith; each = λ k a b h. are.each (suc k) a b (omega arith) }) (All-tail HasParts p properties parts))

-- the properties of an object of this file are viewed
abbrev AreViewedAt : List ScriptShape → List (List ℕ) → ℕ → JudgedScript → OutlineScript → SetHeads → SetFile → PexObject → Type 0
AreViewedAt outline names script loaded outlined t source object =
    map variable_type outlined.variables.items ≡ map (type_of_variable t.types source.names.now) object.variables.items
    → AreTitlesNumbered names source
    → All HasParts object.properties.items
    → AllZip (IsPropertyViewed t.types names outline script) (map (property_by source.names.now) object.properties.items) (map (property_of outline) loaded.properties.items)

viewed_by_home : (outline : List ScriptShape) (names : List (List ℕ)) (script : ℕ) (home : Home) (loaded : JudgedScript) (outlined : OutlineScript)
    → AreProperties home loaded.properties.items → slice_get outline script ≡ Some (script_shape outlined)
    → AreViewedAt outline names script loaded outlined home.set.now home.source.now home.object.now
viewed_by_home outline names script home loaded outlined are stands variables numbered parts =
    viewed_from home outline script outlined stands variables names numbered home.object.now.properties.items loaded.properties.items
    (record { count = are.count; each = λ k a b h. (k, are.each k a b h) })
    parts

viewed_at : (outline : List ScriptShape) (names : List (List ℕ)) (judged : Judged) (script : ℕ) (o : Placed) (loaded : JudgedScript) (outlined : OutlineScript)
    → IsObjectOf judged script o loaded outlined → slice_get outline script ≡ Some (script_shape outlined)
    → AreViewedAt outline names script loaded outlined judged.set o.source o.object
viewed_at outline names judged script o loaded outlined is stands =
    let here = viewed_by_home outline names script is.home loaded outlined is.loaded.properties stands in
    let with_set = subst (λ (t : SetHeads). AreViewedAt outline names script loaded outlined t is.home.source.now is.home.object.now) is.set here in
    let with_source = subst (λ (f : SetFile). AreViewedAt outline names script loaded outlined judged.set f is.home.object.now) is.source with_set in
    subst (λ (b : PexObject). AreViewedAt outline names script loaded outlined judged.set o.source b) is.object with_source

-- no property has the name of one of a script above, as it was judged
abbrev AreNewAt : SetHeads → ℕ → SetFile → PexObject → Type 0
AreNewAt t here source object =
    (k : ℕ) (property : PexProperty) → slice_get object.properties.items k ≡ Some property
    → (parent : ℕ) → table_parent t here ≡ Some parent → property_found t parent (number_at source.names.now property.name) ≡ None

new_by_home : (home : Home) (loaded : List JudgedProperty) → AreProperties home loaded → AreNewAt home.set.now home.here home.source.now home.object.now
new_by_home home loaded are k property e parent above =
    let within = slice_get_within home.object.now.properties.items k property e in
    let count = are.count in
    let l = item_at loaded k (omega arith) in
    let is = are.each k property l.0 (omega arith) in
    let same = get_or_from_slice_get home.object.now.properties.items k property property e in
    subst (λ (p : PexProperty). property_found home.set.now parent (number_at home.source.now.names.now p.name) ≡ None) same (is.new.above parent above)

new_at : (judged : Judged) (script : ℕ) (o : Placed) (loaded : JudgedScript) (outlined : OutlineScript)
    → IsObjectOf judged script o loaded outlined → AreNewAt judged.set script o.source o.object
new_at judged script o loaded outlined is =
    let here = new_by_home is.home loaded.properties.items is.loaded.properties in
    let with_set = subst (λ (t : SetHeads). AreNewAt t is.home.here is.home.source.now is.home.object.now) is.set here in
    let with_number = subst (λ (n : ℕ). AreNewAt judged.set n is.home.source.now is.home.object.now) is.number with_set in
    let with_source = subst (λ (f : SetFile). AreNewAt judged.set script f is.home.object.now) is.source with_number in
    subst (λ (b : PexObject). AreNewAt judged.set script o.source b) is.object with_source

-- the property that a head tells of
property_behind : (numbers : List ℕ) (head : PropertySignature) (o : Option PexProperty) → option_map (property_by numbers) o ≡ Some head
    → (property : PexProperty) × (o ≡ Some property) × (property_by numbers property ≡ head)
property_behind numbers head None e = absurd (none-some head e)
property_behind numbers head (Some property) e = (property, refl, same_Some (property_by numbers property) head e)

-- ---- a set
module _ {set : JudgedSet} (whole : IsJudgedSet set) where
  abbrev judged : Judged
  judged = record { set = tables whole; members = whole.judged.members }

  -- what stands at the number of a script
  record Stands (n : ℕ) : Type 0 where
    pub placed : Placed
    pub head : ScriptHead
    pub loaded : JudgedScript
    pub outlined : OutlineScript
    pub heads_have : slice_get (heads whole) n ≡ Some head
    pub scripts_have : slice_get set.scripts n ≡ Some loaded
    pub outline_has : slice_get set.outline n ≡ Some outlined
    pub is_object : IsWholeObject judged n placed loaded outlined
    pub is_head : IsHeadOf (members whole) (parent_at (parents whole) n) placed.source.names.now placed.object head
    pub named : IsNamed whole.judged.names placed.source
    pub parts : All HasParts placed.object.properties.items

  parts_of : (file : Pex) (place : ℕ) (object : PexObject) → HaveParts file → slice_get file.objects.items place ≡ Some object → All HasParts object.properties.items
  parts_of file place object have is =
      let same = get_or_from_slice_get file.objects.items place object object is in
      subst (λ (x : PexObject). All HasParts x.properties.items) same (have place object (slice_get_within file.objects.items place object is))

  stands : (n : ℕ) → n < length (objects whole) → Stands n
  stands n within =
      let o = item_at (objects whole) n within in
      let e = whole.judged.loaded.objects.script_count in
      let f = whole.judged.loaded.objects.outline_count in
      let g = heads_count whole in
      let h = item_at (heads whole) n (omega arith) in
      let s = item_at set.scripts n (omega arith) in
      let l = item_at set.outline n (omega arith) in
      let at = slice_index_or (objects whole) n o.0 in
      let part = object_stands whole n o.0 within in
      let IsHead = λ (x : ScriptHead). IsHeadOf (members whole) (parent_at (parents whole) n) at.source.names.now at.object x in
      let IsObject = λ (x : OutlineScript). IsWholeObject judged n at (slice_index_or set.scripts n s.0) x in
      let with_outline = subst IsObject (get_or_from_slice_get set.outline n l.0 l.0 l.1) (object_is whole n o.0 s.0 l.0 within) in
      record {
        placed = at;
        head = h.0;
        loaded = s.0;
        outlined = l.0;
        heads_have = h.1;
        scripts_have = s.1;
        outline_has = l.1;
        is_object = subst (λ (x : JudgedScript). IsWholeObject judged n at x l.0) (get_or_from_slice_get set.scripts n s.0 s.0 s.1) with_outline;
        is_head = subst IsHead (get_or_from_slice_get (heads whole) n h.0 h.0 h.1) (head_is whole n o.0 h.0 within);
        named = source_named whole n o.0 within;
        parts = parts_of at.source.pex.now part.0 at.object (source_has_parts whole n o.0 within) part.1;
      }

  -- ---- the heads of a script
  heads_by : (n : ℕ) (head : ScriptHead) → slice_get (heads whole) n ≡ Some head → heads_of (property_heads whole) n ≡ head.properties.items
  heads_by n head e =
      let of_head = λ (h : ScriptHead). h.properties.items in
      get_or_from_slice_get (property_heads whole) n head.properties.items [] (slice_get-map of_head (heads whole) n ∙ ap (option_map of_head) e)

  properties_by : (n : ℕ) (loaded : JudgedScript) → slice_get set.scripts n ≡ Some loaded → properties_in (slice_get (scripts_of set) n) ≡ map (property_of (outline_of set)) loaded.properties.items
  properties_by n loaded e =
      ap properties_in (slice_get-map (script_of (outline_of set)) set.scripts n ∙ ap (option_map (script_of (outline_of set))) e)

  abbrev AreViewedOf : ℕ → List PropertySignature → List Property → Type 0
  AreViewedOf script = AllZip (IsPropertyViewed (tables whole).types whole.judged.names (outline_of set) script)

  abbrev AreViewed : ℕ → Type 0
  AreViewed script = AreViewedOf script (heads_of (property_heads whole) script) (properties_in (slice_get (scripts_of set) script))

  viewed_within : (script : ℕ) → Stands script → AreViewed script
  viewed_within script at =
      let outlined = slice_get-map script_shape set.outline script ∙ ap (option_map script_shape) at.outline_has in
      let viewed_of = viewed_at (outline_of set) whole.judged.names judged script at.placed at.loaded at.outlined at.is_object.object outlined in
      let viewed = viewed_of at.is_object.variables (title_number whole at.placed.source at.named) at.parts in
      let of_head = sym (heads_by script at.head at.heads_have ∙ at.is_head.properties) in
      let with_heads = subst (λ (l : List PropertySignature). AreViewedOf script l (map (property_of (outline_of set)) at.loaded.properties.items)) of_head viewed in
      subst (AreViewedOf script (heads_of (property_heads whole) script)) (sym (properties_by script at.loaded at.scripts_have)) with_heads

  viewed_past : (script : ℕ) → length (objects whole) ≤ script → AreViewed script
  viewed_past script past =
      let e = whole.judged.loaded.objects.script_count in
      let f = heads_count whole in
      let heads_past : heads_of (property_heads whole) script ≡ [] = get_or_past (property_heads whole) script [] (simp length-map (omega arith)) in
      let scripts_past : properties_in (slice_get (scripts_of set) script) ≡ [] = ap properties_in (slice_get_past (scripts_of set) script (simp length-map (omega arith))) in
      let none = subst (AreViewedOf script []) (sym scripts_past) tt in
      subst (λ (l : List PropertySignature). AreViewedOf script l (properties_in (slice_get (scripts_of set) script))) (sym heads_past) none

  viewed : (script : ℕ) → AreViewed script
  viewed script =
      ⊎_elim
      (λ (within : script < length (objects whole)). viewed_within script (stands script within))
      (λ (past : length (objects whole) ≤ script). viewed_past script past)
      (cases_lt script (length (objects whole)))

  pub have_properties : HaveProperties (tables whole).types whole.judged.names (outline_of set) (scripts_of set) (property_heads whole)
  have_properties = record { viewed = viewed; rooted = rooted_in_outline whole }

  -- ---- properties of scripts above
  abbrev found : ℕ → ℕ → Option MemberPlace
  found script name = found_in (tables whole).table.properties (empty_name, name) (rank_of (tables whole) script)

  same_count : length (outline_of set) ≡ length (parents whole)
  same_count = outline_count whole ∙ sym (parents_count whole)

  at_heads : (place : MemberPlace) → property_at (tables whole) place ≡ head_at (property_heads whole) place
  at_heads place = head_at_map (λ (h : ScriptHead). h.properties.items) (heads whole) place

  above_within : (script parent : ℕ) → parent_in (slice_get (outline_of set) script) ≡ Some parent → parent < length (parents whole)
  above_within script parent p =
      let w = parent_within whole script parent (sym (outline_parent whole script) ∙ p) in
      let e = parents_count whole in
      omega (arith, w.1)

  new_behind : (script parent : ℕ) (at : Stands script) → at.head.parent ≡ Some parent
      → (k : ℕ) (property : PexProperty) → slice_get at.placed.object.properties.items k ≡ Some property
      → (head : PropertySignature) → property_by at.placed.source.names.now property ≡ head → property_found (tables whole) parent head.name ≡ None
  new_behind script parent at above k property e head same =
      let told : table_parent (tables whole) script ≡ Some parent = ap (option_and_then (λ (h : ScriptHead). h.parent)) at.heads_have ∙ above in
      let none = new_at judged script at.placed at.loaded at.outlined at.is_object.object k property e parent told in
      subst (λ (h : PropertySignature). property_found (tables whole) parent h.name ≡ None) same none

  new_in_table : (script parent k : ℕ) (head : PropertySignature) → slice_get (heads_of (property_heads whole) script) k ≡ Some head
      → parent_in (slice_get (outline_of set) script) ≡ Some parent → property_found (tables whole) parent head.name ≡ None
  new_in_table script parent k head e p =
      let above = sym (outline_parent whole script) ∙ p in
      let at = stands script (parent_within whole script parent above).0 in
      let numbers = at.placed.source.names.now in
      let written = heads_by script at.head at.heads_have ∙ at.is_head.properties in
      let of_file = sym (slice_get-map (property_by numbers) at.placed.object.properties.items k) ∙ sym (ap (λ (l : List PropertySignature). slice_get l k) written) ∙ e in
      let behind = property_behind numbers head (slice_get at.placed.object.properties.items k) of_file in
      new_behind script parent at (at.is_head.parent ∙ above) k behind.0 behind.1 head behind.2

  new : AreNew (outline_of set) (property_heads whole)
  new =
      new_by_table (tables whole).types whole.judged.names (outline_of set) (scripts_of set) (parents whole) same_count (outline_parent whole)
      (collected_members whole).properties found (properties_found whole) (property_heads whole) (property_at (tables whole)) at_heads (properties_collected whole) above_within new_in_table

  pub properties_are_offered : (script number : ℕ) (name : List ℕ) (property : PropertySignature)
      → script < vec_len (tables whole).heads → number_in whole.judged.names name ≡ Some number → property_found (tables whole) script number ≡ Some property
      → IsPropertyOffered (tables whole).types (outline_of set) (scripts_of set) script name property
  properties_are_offered script number name property within named e =
      let one_each = (tables whole).heads.ok.0 in
      let count = heads_count whole in
      let same = parents_count whole in
      properties_agree (tables whole).types whole.judged.names (outline_of set) (scripts_of set) (parents whole) same_count (outline_parent whole)
      (collected_members whole).properties found (properties_found whole) (property_heads whole) (property_at (tables whole)) at_heads (properties_collected whole)
      have_properties new script number name property (omega arith) named e
