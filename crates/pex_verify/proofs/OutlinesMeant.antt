-- That outlines are what their files say.
use Rattle.std.proofs.Common.{◌≡◌, ℕ, ◌<◌, ◌==◌, zero, suc, Bool, true, false, cond, List, [], ◌∷◌, ◌++◌, length, get_or, map, Option, Some, None, IfSome, refl, sym, ap, subst, ◌∙◌, arith}
use Rattle.std.specs.Prelude.{slice_get, bytes_eq, codes, position, unwrap_or}
use Rattle.std.specs.Cmp.Lexicographic.{bytes_decides}
use Rattle.std.specs.Str.{str_to_ascii_lowercase}
use Rattle.std.specs.List.{AllByRecursion, AllZip, filter_map, flat_map}
use Rattle.std.specs.Option.{option_and_then, option_map}
use Rattle.std.proofs.lemmas.Bool.{eq-eqb, eqb-false, eqb-true}
use Rattle.std.proofs.lemmas.List.{get_or-map, length-map, map-append}
use Rattle.std.proofs.lemmas.Option.{none-some, same_Some, slice_get-get_or, slice_get-map}
use Rattle.std.proofs.lemmas.Simd.{map-map}
use Rattle.core_tree.specs.declared.core_type.CoreType.{CoreType}
use Rattle.core_tree.specs.declared.core_type.CoreType.TheVariants as core
use Rattle.core_tree.specs.declared.outline.OutlineProperty.{OutlineProperty}
use Rattle.core_tree.specs.declared.outline.OutlineScript.{OutlineScript}
use Rattle.core_tree.specs.declared.outline.OutlineVariable.{OutlineVariable}
use Rattle.core_tree.specs.Outlines.{ScriptShape, script_shape}
use Rattle.pex_meaning.specs.Functions.{Home as Meant, string}
use Rattle.pex_meaning.specs.Meant.{unless_empty, value_meant, homes_in, homes_of}
use Rattle.pex_meaning.specs.Names.{are_same, first_named as first_meant, object_names, script_names, string_at, value_type}
use Rattle.pex_meaning.specs.Prelude as meant
use Rattle.pex_values.specs.declared.values.Datum.{Datum}
use Rattle.pex_values.specs.declared.values.Datum.TheVariants as datum
use Rattle.pex_values.specs.declared.values.Pex.{Pex}
use Rattle.pex_values.specs.declared.values.PexObject.{PexObject}
use Rattle.pex_values.specs.declared.values.PexProperty.{PexProperty}
use Rattle.pex_values.specs.declared.values.PexVariable.{PexVariable}
use Rattle.pex_values.specs.Plain.{PlainPex, plain, plain_object}
use Rattle.pex_set.specs.Names.{empty_name, number_in}
use Rattle.pex_set.specs.Objects.{first_named, parent_in as parent_of_head}
use Rattle.pex_set.specs.declared.objects.Head.{Head}
use Rattle.pex_set.proofs.Positions.{falsely}
use Rattle.script_meaning.specs.Values.{parent_in}
use Rattle.pex_verify.specs.declared.judged.JudgedProperty.{JudgedProperty}
use Rattle.pex_verify.specs.declared.judged.JudgedScript.{JudgedScript}
use Rattle.pex_verify.specs.declared.scope.Home.{Home}
use Rattle.pex_verify.specs.declared.scripts.SetHeads.{SetHeads}
use Rattle.pex_verify.specs.declared.sources.SetFile.{SetFile}
use Rattle.pex_verify.specs.AsMeant.{IsVariableMeant, IsOutlineMeant, BeginsFit, HasVariable, IsReady}
use Rattle.pex_verify.specs.Heads.{Placed, placed, placed_in, placed_objects}
use Rattle.pex_verify.specs.Loading.{Judged, AreProperties, IsObjectOf, IsWholeObject}
use Rattle.pex_verify.specs.Outlining.{property_with, auto_property}
use Rattle.pex_verify.specs.Pairs.{Paired}
use Rattle.pex_verify.specs.Properties.{IsOfKind, IsProperty}
use Rattle.pex_verify.specs.Sets.{JudgedSet}
use Rattle.pex_verify.specs.Signatures.{number_at, title_at}
use Rattle.pex_verify.specs.Sources.{IsNamed}
use Rattle.pex_verify.specs.Meanings.{result_meaning, value_meaning, where_none_is_none}
use Rattle.pex_verify.specs.TypesMeant.{kind_of, AreScripts}
use Rattle.pex_verify.specs.declared.value_type.ValueType.{ValueType}
use Rattle.pex_verify.specs.declared.value_type.ValueType.TheVariants.{Nothing, Float, Unknown, Of}
use Rattle.pex_verify.specs.Variables.{variable_type, type_of_variable, initial_value, IsVariable, AreVariables}
use Rattle.pex_verify.specs.Whole.{IsJudgedSet}
use Rattle.pex_verify.proofs.Context.{tables, objects}
use Rattle.pex_verify.proofs.Agreeing.{zip_from_paired}
use Rattle.pex_verify.proofs.Facts.{item_at, object_is, outline_parent, source_named, title_number}
use Rattle.pex_verify.proofs.LookUps.{same_test}
use Rattle.pex_verify.proofs.Naming.{no_place, position-zip}
use Rattle.pex_verify.proofs.PropertyViews.{variable_is}

-- ---- lists
-- what holds of two lists place by place
zipped : {A B X Y : Type 0} (P : X → Y → Type 0) (f : A → X) (g : B → Y) (xs : List A) (ys : List B) → length xs ≡ length ys → ((n : ℕ) (x : A) (y : B) → n < length xs → P (f (get_or xs n x)) (g (get_or ys n y))) → AllZip P (map f xs) (map g ys)
zipped P f g [] [] count each = tt
zipped P f g [] (y ∷ ys) count each = absurd (omega arith)
zipped P f g (x ∷ xs) [] count each = absurd (omega arith)
zipped P f g (x ∷ xs) (y ∷ ys) count each =
    (each 0 x y (omega arith), zipped P f g xs ys (omega arith) (λ n a b h. each (suc n) a b (omega arith)))

-- what holds of each item
all_by_places : {A X : Type 0} (P : X → Type 0) (f : A → X) (xs : List A) → ((n : ℕ) (x : A) → n < length xs → P (f (get_or xs n x))) → AllByRecursion P (map f xs)
all_by_places P f [] each = tt
all_by_places P f (x ∷ xs) each = (each 0 x (omega arith), all_by_places P f xs (λ n a h. each (suc n) a (omega arith)))

each_by_places : {X : Type 0} (P : X → Type 0) (xs : List X) → ((n : ℕ) (x : X) → n < length xs → P (get_or xs n x)) → AllByRecursion P xs
each_by_places P [] each = tt
each_by_places P (x ∷ xs) each = (each 0 x (omega arith), each_by_places P xs (λ n a h. each (suc n) a (omega arith)))

-- what holds of each item that a list keeps
kept : {A X : Type 0} (P : X → Type 0) (f : A → Option X) (xs : List A) → ((n : ℕ) (x : A) → n < length xs → IfSome (f (get_or xs n x)) P) → AllByRecursion P (filter_map f xs)
kept P f [] each = tt
kept {A} {X} P f (x ∷ xs) each = by (f x) refl (kept P f xs (λ n a h. each (suc n) a (omega arith)))
  where
    by : (o : Option X) → f x ≡ o → AllByRecursion P (filter_map f xs) → AllByRecursion P (filter_map f (x ∷ xs))
    by None e rest = rw e rest
    by (Some y) e rest = rw e (subst (λ (o : Option X). IfSome o P) e (each 0 x (omega arith)), rest)

-- ---- homes
-- the home of an object
abbrev home_at : List (List ℕ) → Placed → Meant
home_at scripts o =
    record { scripts = scripts; file = plain o.source.pex.now; object = plain_object o.object }

homes_in_file : (scripts : List (List ℕ)) (source : SetFile) → homes_in scripts (plain source.pex.now) ≡ map (home_at scripts) (placed_in source)
homes_in_file scripts source =
    map-map (λ object. record { scripts = scripts; file = plain source.pex.now; object = object }) plain_object source.pex.now.objects.items
    ∙ sym (map-map (home_at scripts) (placed source) source.pex.now.objects.items)

homes_in_files : (scripts : List (List ℕ)) (sources : List SetFile) → flat_map (homes_in scripts) (map (λ source. plain source.pex.now) sources) ≡ map (home_at scripts) (placed_objects sources)
homes_in_files scripts [] = refl
homes_in_files scripts (source ∷ sources) =
    ap (λ (l : List Meant). l ++ flat_map (homes_in scripts) (map (λ source. plain source.pex.now) sources)) (homes_in_file scripts source)
    ∙ ap (λ (l : List Meant). map (home_at scripts) (placed_in source) ++ l) (homes_in_files scripts sources)
    ∙ sym (map-append (home_at scripts) (placed_in source) (placed_objects sources))

-- ---- variables
values_same : (home : Meant) (kind : CoreType) (value : Datum) → initial_value home.file.strings kind value ≡ value_meant home kind value
values_same home kind datum.NoneValue = refl
values_same home kind (datum.Word reference) = refl
values_same home kind (datum.Quoted reference) = refl
values_same home kind (datum.Int number) = refl
values_same home kind (datum.Float bits) = refl
values_same home kind (datum.Bool byte) = refl

-- the variables' types are those that their names mean
abbrev AreOfKinds : List (List ℕ) → Placed → List OutlineVariable → Type 0
AreOfKinds scripts o loaded =
    (n : ℕ) (l : OutlineVariable) (v : PexVariable) → n < length loaded → (get_or loaded n l).kind ≡ value_type scripts (string (home_at scripts o) (get_or o.object.variables.items n v).kind)

variables_meant : (scripts : List (List ℕ)) (o : Placed) (loaded : List OutlineVariable) → o.source.titles.now ≡ o.source.pex.now.strings.items → AreOfKinds scripts o loaded → AreVariables o.source o.object.variables.items loaded → AllZip (IsVariableMeant (home_at scripts o)) loaded o.object.variables.items
variables_meant scripts o loaded titles kinds are =
    by loaded o.object.variables.items are.count kinds (λ n l v h. are.each n v l h)
  where
    by : (ls : List OutlineVariable) (vs : List PexVariable) → length vs ≡ length ls → ((n : ℕ) (l : OutlineVariable) (v : PexVariable) → n < length ls → (get_or ls n l).kind ≡ value_type scripts (string (home_at scripts o) (get_or vs n v).kind)) → ((n : ℕ) (l : OutlineVariable) (v : PexVariable) → n < length ls → IsVariable o.source (get_or vs n v) (get_or ls n l)) → AllZip (IsVariableMeant (home_at scripts o)) ls vs
    by [] [] count kind each = tt
    by [] (v ∷ vs) count kind each = absurd (omega arith)
    by (l ∷ ls) [] count kind each = absurd (omega arith)
    by (l ∷ ls) (v ∷ vs) count kind each =
        let is : IsVariable o.source v l = each 0 l v (omega arith) in (
          record {
            name = is.name ∙ ap (λ (t : List (List ℕ)). title_at t v.name) titles;
            kind = kind 0 l v (omega arith);
            value = is.value ∙ values_same (home_at scripts o) l.kind v.value;
          },
          by ls vs (omega arith) (λ n a b h. kind (suc n) a b (omega arith)) (λ n a b h. each (suc n) a b (omega arith)),
        )

-- a type that is one of values
kind_known : (meaning : ValueType) (kind : CoreType) → Of kind ≡ where_none_is_none meaning → kind_of meaning ≡ Some kind
kind_known Nothing kind is = absurd (cc)
kind_known Float kind is = absurd (cc)
kind_known Unknown kind is = absurd (cc)
kind_known (Of other) kind is = cc

-- ---- properties
property_ready : (home : Home) (outlined : List OutlineVariable) (place : ℕ) (property : PexProperty) (loaded : JudgedProperty)
    → map variable_type outlined ≡ map (type_of_variable home.set.now.types home.source.now.names.now) home.object.now.variables.items
    → IsProperty home place property loaded → IfSome (auto_property loaded) (HasVariable outlined)
property_ready home outlined place property loaded types is =
    by property.variable loaded.variable is.variable
  where
    by : (given variable : Option ℕ) → IsOfKind home property given variable → IfSome (property_with loaded variable) (HasVariable outlined)
    by None None h = tt
    by None (Some variable) h = absurd h
    by (Some reference) None h = absurd h
    by (Some reference) (Some variable) h =
        sym (slice_get-map (λ (v : OutlineVariable). v.kind) outlined variable)
        ∙ variable_is home.set.now.types home.source.now.names.now (number_at home.source.now.names.now property.kind) loaded.kind outlined home.object.now.variables.items variable types h is.kind

-- ---- objects
-- the types of the variables of an object of this file
abbrev AreKinds : OutlineScript → SetHeads → SetFile → PexObject → Type 0
AreKinds outlined t source object =
    map variable_type outlined.variables.items ≡ map (type_of_variable t.types source.names.now) object.variables.items

properties_ready : (judged : Judged) (here : ℕ) (o : Placed) (loaded : JudgedScript) (outlined : OutlineScript) → IsWholeObject judged here o loaded outlined → AllByRecursion (HasVariable outlined.variables.items) outlined.properties.items
properties_ready judged here o loaded outlined whole =
    let is = whole.object in
    let with_set : AreKinds outlined is.home.set.now o.source o.object = subst (λ (t : SetHeads). AreKinds outlined t o.source o.object) (sym is.set) whole.variables in
    let with_source : AreKinds outlined is.home.set.now is.home.source.now o.object = subst (λ (f : SetFile). AreKinds outlined is.home.set.now f o.object) (sym is.source) with_set in
    let kinds : AreKinds outlined is.home.set.now is.home.source.now is.home.object.now = subst (λ (b : PexObject). AreKinds outlined is.home.set.now is.home.source.now b) (sym is.object) with_source in
    subst (λ (l : List OutlineProperty). AllByRecursion (HasVariable outlined.variables.items) l) (sym is.loaded.shape.properties)
    (kept (HasVariable outlined.variables.items) auto_property loaded.properties.items
    (λ n l h.
    let count = is.loaded.properties.count in
    let p = item_at is.home.object.now.properties.items n (omega arith) in
    property_ready is.home outlined.variables.items n (get_or is.home.object.now.properties.items n p.item) (get_or loaded.properties.items n l) kinds (is.loaded.properties.each n p.item l h)))

script_ready : (judged : Judged) (here : ℕ) (o : Placed) (loaded : JudgedScript) (outlined : OutlineScript) → IsWholeObject judged here o loaded outlined → IsReady (script_shape outlined)
script_ready judged here o loaded outlined whole = record {
  variables = each_by_places BeginsFit outlined.variables.items
      (λ n l h.
      let count = whole.initial.count in
      let v = item_at o.object.variables.items n (omega arith) in
      (whole.initial.each n v.item l h).fits);
  properties = properties_ready judged here o loaded outlined whole;
}

-- the parent of a script, by the names of all scripts
abbrev parent_named : List (List ℕ) → List ℕ → Option ℕ
parent_named scripts name = option_and_then (λ parent. first_meant parent scripts) (unless_empty name)

script_meant : (scripts : List (List ℕ)) (judged : Judged) (here : ℕ) (o : Placed) (loaded : JudgedScript) (outlined : OutlineScript) → o.source.titles.now ≡ o.source.pex.now.strings.items → outlined.parent ≡ parent_named scripts (string (home_at scripts o) o.object.parent) → AreOfKinds scripts o outlined.variables.items → IsWholeObject judged here o loaded outlined → IsOutlineMeant (script_shape outlined) (home_at scripts o)
script_meant scripts judged here o loaded outlined titles parent kinds whole =
    let is = whole.object in
    let title : (reference : PexObject → ℕ) → title_at is.home.source.now.titles.now (reference is.home.object.now) ≡ string (home_at scripts o) (reference o.object) =
    λ reference. ap (λ (f : SetFile). title_at f.titles.now (reference is.home.object.now)) is.source
    ∙ ap (λ (b : PexObject). title_at o.source.titles.now (reference b)) is.object
    ∙ ap (λ (t : List (List ℕ)). title_at t (reference o.object)) titles in
    record {
      name = is.loaded.shape.name ∙ title (λ object. object.name);
      parent = parent;
      auto_state = is.loaded.shape.auto_state ∙ ap unless_empty (title (λ object. object.auto_state));
      variables = variables_meant scripts o outlined.variables.items titles kinds whole.initial;
    }

-- ---- names
abbrev title_of : Placed → List ℕ
title_of o = title_at o.source.pex.now.strings.items o.object.name

names_of_file : (source : SetFile) → map title_of (placed_in source) ≡ object_names (plain source.pex.now)
names_of_file source =
    map-map title_of (placed source) source.pex.now.objects.items
    ∙ sym (map-map (λ object. string_at (plain source.pex.now).strings object.name) plain_object source.pex.now.objects.items)

names_of_files : (sources : List SetFile) → map title_of (placed_objects sources) ≡ flat_map object_names (map (λ source. plain source.pex.now) sources)
names_of_files [] = refl
names_of_files (source ∷ sources) =
    map-append title_of (placed_in source) (placed_objects sources)
    ∙ ap (λ (l : List (List ℕ)). l ++ map title_of (placed_objects sources)) (names_of_file source)
    ∙ ap (λ (l : List (List ℕ)). object_names (plain source.pex.now) ++ l) (names_of_files sources)

same_either_way : (a b : ℕ) → (a == b) ≡ (b == a)
same_either_way a b = by (a == b) refl
  where
    by : (truth : Bool) → (a == b) ≡ truth → truth ≡ (b == a)
    by true e = sym (eq-eqb b a (sym (eqb-true a b e)))
    by false e = sym (falsely (b == a) (λ h. eqb-false a b e (sym (eqb-true b a h))))

no_bytes : (byte : ℕ) (bytes : List ℕ) → length (byte ∷ bytes) ≡ 0 → ⊥
no_bytes byte bytes e = absurd (omega arith)

not_empty : (byte : ℕ) (bytes : List ℕ) → (length (byte ∷ bytes) == 0) ≡ false
not_empty byte bytes =
    falsely (length (byte ∷ bytes) == 0) (λ h. no_bytes byte bytes (eqb-true (length (byte ∷ bytes)) 0 h))

-- a text is the empty name where it has its number
empty_by_number : (names : List (List ℕ)) (name : List ℕ) (number : ℕ) → number_in names [] ≡ Some empty_name → number_in names name ≡ Some number → (number == empty_name) ≡ (length name == 0)
empty_by_number names [] number empty named = eq-eqb number empty_name (same_Some number empty_name (sym named ∙ empty))
empty_by_number names (byte ∷ bytes) number empty named =
    sym (same_test names (byte ∷ bytes) [] number empty_name named empty) ∙ sym (not_empty byte bytes)

-- ---- a set
module _ {set : JudgedSet} (whole : IsJudgedSet set) where
  files_meant : map (λ source. plain source.pex.now) whole.judged.sources ≡ meant.prelude ∷ map plain set.files
  files_meant =
      sym (map-map plain (λ (source : SetFile). source.pex.now) whole.judged.sources)
      ∙ ap (map plain) whole.judged.files_are
      ∙ ap (λ (first : PlainPex). first ∷ map plain set.files) whole.judged.is_prelude.file

  abbrev scripts : List (List ℕ)
  scripts = script_names (map plain set.files)

  homes_are : map (home_at scripts) (objects whole) ≡ homes_of (map plain set.files)
  homes_are =
      sym (homes_in_files scripts whole.judged.sources) ∙ ap (flat_map (homes_in scripts)) files_meant

  titles_are : map title_of (objects whole) ≡ scripts
  titles_are = names_of_files whole.judged.sources ∙ ap (flat_map object_names) files_meant

  heads_named : AllZip (λ (head : Head) (name : List ℕ). number_in whole.judged.names name ≡ Some head.name) (tables whole).objects (map title_of (objects whole))
  heads_named =
      zip_from_paired (λ (head : Head) (name : List ℕ). number_in whole.judged.names name ≡ Some head.name) (tables whole).objects (map title_of (objects whole)) (record {
        count = sym whole.judged.loaded.numbered.count ∙ sym (length-map (objects whole) title_of);
        each = λ k head name h.
            let within : k < length (objects whole) = omega (arith, length-map (objects whole) title_of, h) in
            let o = item_at (objects whole) k within in
            let at = get_or (objects whole) k o.item in
            let named = source_named whole k o.item within in
            ap (number_in whole.judged.names) (get_or-map title_of (objects whole) k o.item name within ∙ ap (λ (t : List (List ℕ)). title_at t at.object.name) (sym named.titles))
            ∙ title_number whole at.source named at.object.name
            ∙ ap Some (sym (whole.judged.loaded.numbered.each k o.item head (omega (arith, sym whole.judged.loaded.numbered.count, within))).name);
      })

  -- the first object of a number is the first script of the name
  first_is : (name : List ℕ) (number : ℕ) → number_in whole.judged.names name ≡ Some number → first_named (tables whole).objects number ≡ first_meant name scripts
  first_is name number named =
      sym (position-zip (λ (head : Head) (title : List ℕ). number_in whole.judged.names title ≡ Some head.name) (λ head. head.name == number) (are_same name) (λ head title r. same_test whole.judged.names name title number head.name named r ∙ same_either_way number head.name) (tables whole).objects (map title_of (objects whole)) heads_named)
      ∙ ap (first_meant name) titles_are

  parent_by_name : (name : List ℕ) (number : ℕ) → number_in whole.judged.names name ≡ Some number → cond (number == empty_name) None (first_named (tables whole).objects number) ≡ parent_named scripts name
  parent_by_name name number named =
      ap (λ (b : Bool). cond b None (first_named (tables whole).objects number)) (empty_by_number whole.judged.names name number whole.judged.empty named)
      ∙ by (length name == 0)
    where
      by : (is_empty : Bool) → cond is_empty None (first_named (tables whole).objects number) ≡ option_and_then (λ parent. first_meant parent scripts) (cond is_empty None (Some name))
      by true = refl
      by false = first_is name number named

  parent_meant : (n : ℕ) (o : Placed) (l : OutlineScript) → n < length (objects whole) → n < length set.outline
      → (get_or set.outline n l).parent ≡ parent_named scripts (string (home_at scripts (get_or (objects whole) n o)) (get_or (objects whole) n o).object.parent)
  parent_meant n o l within outlined =
      let at = get_or (objects whole) n o in
      let named = source_named whole n o within in
      let list = (tables whole).objects in
      let numbered_count = whole.judged.loaded.numbered.count in
      let h = item_at list n (omega arith) in
      let number = number_at at.source.names.now at.object.parent in
      let of_head : h.item.parent ≡ number = ap (λ (head : Head). head.parent) (sym h.is) ∙ (whole.judged.loaded.numbered.each n o h.item (omega arith)).parent in
      let titled : number_in whole.judged.names (title_at at.source.pex.now.strings.items at.object.parent) ≡ Some number = ap (λ (t : List (List ℕ)). number_in whole.judged.names (title_at t at.object.parent)) (sym named.titles) ∙ title_number whole at.source named at.object.parent in
      ap parent_in (sym (slice_get-map script_shape set.outline n ∙ ap (option_map script_shape) (slice_get-get_or set.outline n l outlined)))
      ∙ outline_parent whole n
      ∙ ap (option_and_then (λ (parent : Option ℕ). parent)) (slice_get-map (parent_of_head list) list n ∙ ap (option_map (parent_of_head list)) h.stands)
      ∙ ap (λ (p : ℕ). cond (p == empty_name) None (first_named list p)) of_head
      ∙ parent_by_name (title_at at.source.pex.now.strings.items at.object.parent) number titled

  -- ---- types
  no_script : (name : List ℕ) → number_in whole.judged.names name ≡ None → first_meant name scripts ≡ None
  no_script name missing =
      ap (first_meant name) (sym titles_are)
      ∙ position-zip (λ (head : Head) (title : List ℕ). number_in whole.judged.names title ≡ Some head.name) (λ head. false) (are_same name) (λ head title r. apart title head.name r) (tables whole).objects (map title_of (objects whole)) heads_named
      ∙ no_place (tables whole).objects
    where
      apart : (title : List ℕ) (number : ℕ) → number_in whole.judged.names title ≡ Some number → are_same name title ≡ false
      apart title number r =
          falsely (are_same name title) (λ same.
          let folded = (bytes_decides (str_to_ascii_lowercase name) (str_to_ascii_lowercase title)).0 same in
          none-some number (sym missing ∙ ap (λ (l : List ℕ). position (bytes_eq l) whole.judged.names) folded ∙ r))

  script_found : (name : List ℕ) (number : Option ℕ) → number_in whole.judged.names name ≡ number → option_and_then (first_named (tables whole).objects) number ≡ first_meant name scripts
  script_found name None missing = sym (no_script name missing)
  script_found name (Some number) named = first_is name number named

  -- the objects by the numbers of their names are the scripts by their names
  pub are_scripts : AreScripts whole.judged.names (tables whole).objects scripts
  are_scripts = record {
    each = λ name. script_found name (number_in whole.judged.names name) refl;
    few = omega (arith, whole.sound.scripts.numbered, whole.judged.loaded.numbered.count, whole.judged.loaded.objects.script_count);
    rest = codes "Form" ∷ codes "Quest" ∷ codes "ObjectReference" ∷ flat_map object_names (map plain set.files);
    first = refl;
  }

  -- a type whose name is a string of a file
  pub kind_meant : (source : SetFile) → IsNamed whole.judged.names source → (reference : ℕ) (kind : CoreType) → Of kind ≡ value_meaning (tables whole).types (number_at source.names.now reference) → kind ≡ value_type scripts (title_at source.titles.now reference)
  kind_meant source named reference kind is =
      let number = number_at source.names.now reference in
      let meant = whole.judged.types scripts (title_at source.titles.now reference) number are_scripts (title_number whole source named reference) in
      sym (ap (λ (o : Option CoreType). unwrap_or o core.Int) (sym meant ∙ kind_known (result_meaning (tables whole).types number) kind is))

  kinds_meant : (n : ℕ) (o : Placed) (s : JudgedScript) (l : OutlineScript) → n < length (objects whole) → AreOfKinds scripts (get_or (objects whole) n o) (get_or set.outline n l).variables.items
  kinds_meant n o s l within = λ k v f below.
      let at = get_or (objects whole) n o in
      let named = source_named whole n o within in
      let is = object_is whole n o s l within in
      let outlined = (get_or set.outline n l).variables.items in
      let given = at.object.variables.items in
      let of_variable = type_of_variable (tables whole).types at.source.names.now in
      let counted : length (map variable_type outlined) ≡ length (map of_variable given) = ap length is.variables in
      let other : k < length given = omega (arith, below, length-map outlined variable_type, length-map given of_variable) in
      let known : Of (get_or outlined k v).kind ≡ of_variable (get_or given k f) =
      sym (get_or-map variable_type outlined k v Unknown below)
      ∙ ap (λ (ts : List ValueType). get_or ts k Unknown) is.variables
      ∙ get_or-map of_variable given k f Unknown other in
      kind_meant at.source named (get_or given k f).kind (get_or outlined k v).kind known
      ∙ ap (λ (t : List (List ℕ)). value_type scripts (title_at t (get_or given k f).kind)) named.titles

  pub outlines_meant : AllZip IsOutlineMeant (map script_shape set.outline) (homes_of (map plain set.files))
  outlines_meant =
      let script_count = whole.judged.loaded.objects.script_count in
      let outline_count = whole.judged.loaded.objects.outline_count in
      subst (λ (l : List Meant). AllZip IsOutlineMeant (map script_shape set.outline) l) homes_are
      (zipped IsOutlineMeant script_shape (home_at scripts) set.outline (objects whole) (sym outline_count)
      (λ n l o h.
      let s = item_at set.scripts n (omega arith) in
      script_meant scripts _ n (get_or (objects whole) n o) (get_or set.scripts n s.item) (get_or set.outline n l) (source_named whole n o (omega arith)).titles (parent_meant n o l (omega arith) h) (kinds_meant n o s.item l (omega arith)) (object_is whole n o s.item l (omega arith))))

  pub outlines_ready : AllByRecursion IsReady (map script_shape set.outline)
  outlines_ready =
      let script_count = whole.judged.loaded.objects.script_count in
      let outline_count = whole.judged.loaded.objects.outline_count in
      all_by_places IsReady script_shape set.outline
      (λ n l h.
      let s = item_at set.scripts n (omega arith) in
      let o = item_at (objects whole) n (omega arith) in
      script_ready _ n (get_or (objects whole) n o.item) (get_or set.scripts n s.item) (get_or set.outline n l) (object_is whole n o.item s.item l (omega arith)))
