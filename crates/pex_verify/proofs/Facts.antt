-- What is known of the scripts of a set that was verified.
use Rattle.std.proofs.Common.{◌≡◌, ℕ, zero, suc, ◌<◌, ◌≤◌, ◌^◌, Bool, true, cond, ltb, List, [], ◌∷◌, length, Option, Some, None, IfSome, map, All, refl, sym, ap, subst, ◌∙◌, ⊎_elim, arith}
use Rattle.std.specs.Prelude.{slice_get, slice_index_or}
use Rattle.std.specs.Option.{option_and_then, option_map}
use Rattle.std.proofs.lemmas.Bool.{cases_lt, eq-eqb, lt-ltb}
use Rattle.std.proofs.lemmas.List.{get_or-map, get_or_past, length-map}
use Rattle.std.proofs.lemmas.List.Elements.{All-append, All-head, All-map, All-nil, All-tail}
use Rattle.std.proofs.lemmas.Option.{none-some, slice_get-get_or, slice_get-map, slice_get_past}
use Rattle.core_tree.specs.Outlines.{script_shape}
use Rattle.core_tree.specs.declared.outline.OutlineScript.{OutlineScript}
use Rattle.script_meaning.specs.Values.{lineage, parent_in}
use Rattle.papy_base.specs.Lineage.{AreAmong, parent_of}
use Rattle.pex_set.specs.Names.{empty_name, number_in}
use Rattle.pex_set.specs.Objects.{first_named, parent_in as parent_of_head}
use Rattle.pex_set.specs.declared.objects.Head.{Head}
use Rattle.pex_set.proofs.ObjectLemmas.{AreAmong-parents_in}
use Rattle.pex_verify.specs.declared.judged.JudgedScript.{JudgedScript}
use Rattle.pex_verify.specs.declared.scripts.ScriptHead.{ScriptHead}
use Rattle.pex_verify.specs.declared.scripts.SetHeads.{SetHeads}
use Rattle.pex_verify.specs.declared.sources.SetFile.{SetFile}
use Rattle.pex_verify.specs.Heads.{Placed, placed, placed_in, placed_objects, IsHeadOf, parent_at}
use Rattle.pex_verify.specs.Loading.{IsWholeObject}
use Rattle.pex_verify.specs.Parents.{parent_among, parent_in as parent_in_heads}
use Rattle.pex_verify.specs.JudgedCode.{outline_of, script_of, scripts_of}
use Rattle.pex_verify.specs.Sets.{JudgedSet}
use Rattle.pex_verify.specs.Signatures.{number_at, title_at}
use Rattle.pex_verify.specs.Sources.{HaveParts, IsNamed}
use Rattle.pex_verify.specs.Whole.{IsJudgedSet}
use Rattle.pex_verify.proofs.Context.{tables, parents, objects, heads, members}
use Rattle.pex_verify.proofs.Upward.{rooted_from_objects}

-- ---- what holds of files holds of the objects in them
objects_of_file : (P : Placed → Type 0) (source : SetFile) → All (λ object. P (placed source object)) source.pex.now.objects.items → All P (placed_in source)
objects_of_file P source each = All-map P (placed source) source.pex.now.objects.items each

pub objects_of_files : (P : Placed → Type 0) (sources : List SetFile) → All (λ source. All (λ object. P (placed source object)) source.pex.now.objects.items) sources → All P (placed_objects sources)
objects_of_files P [] each = All-nil P
objects_of_files P (source ∷ sources) each =
    All-append P (placed_in source) (placed_objects sources)
    (objects_of_file P source (All-head (λ source. All (λ object. P (placed source object)) source.pex.now.objects.items) source sources each))
    (objects_of_files P sources (All-tail (λ source. All (λ object. P (placed source object)) source.pex.now.objects.items) source sources each))

-- ---- items by their places
-- the item at a place
pub record IsItem {X : Type 0} (xs : List X) (place : ℕ) : Type 0 where
  pub item : X
  pub stands : slice_get xs place ≡ Some item
  pub is : slice_index_or xs place item ≡ item

pub item_at : {X : Type 0} (xs : List X) (place : ℕ) → place < length xs → IsItem xs place
item_at [] place within = absurd (omega arith)
item_at (x ∷ xs) zero within = record { item = x; stands = refl; is = refl }
item_at (x ∷ xs) (suc place) within =
    let found = item_at xs place (omega arith) in record { item = found.item; stands = found.stands; is = found.is }

pub item_within : {X : Type 0} (xs : List (Option X)) (place : ℕ) (item : X) → option_and_then (λ x. x) (slice_get xs place) ≡ Some item → place < length xs
item_within [] place item e = absurd (none-some item e)
item_within (x ∷ xs) zero item e = omega arith
item_within (x ∷ xs) (suc place) item e = let l = item_within xs place item e in omega arith

pub item_is : {X : Type 0} (P : X → Type 0) (xs : List (Option X)) → All (λ item. IfSome item P) xs → (place : ℕ) (item : X) → option_and_then (λ x. x) (slice_get xs place) ≡ Some item → P item
item_is P [] each place item e = absurd (none-some item e)
item_is P (x ∷ xs) each zero item e =
    subst (λ o. IfSome o P) e (All-head (λ o. IfSome o P) x xs each)
item_is P (x ∷ xs) each (suc place) item e = item_is P xs (All-tail (λ o. IfSome o P) x xs each) place item e

-- ---- parents
-- the parent that an outline keeps is the head's, where that is one of so many scripts
among_itself : (count : ℕ) (parent : Option ℕ) → count < 2 ^ 16 → ((script : ℕ) → parent ≡ Some script → script < count) → parent_among count parent ≡ parent
among_itself count None few within = refl
among_itself count (Some script) few within =
    let below = within script refl in
    let first : ltb script count ≡ true = lt-ltb script count below in
    let second : ltb script (2 ^ 16) ≡ true = lt-ltb script (2 ^ 16) (omega arith) in
    ap (λ (b : Bool). cond b (cond (ltb script (2 ^ 16)) (Some script) None) None) first ∙ ap (λ (b : Bool). cond b (Some script) None) second

without_parent : (list : List Head) (head : Head) → head.parent ≡ empty_name → parent_of_head list head ≡ None
without_parent list head e = ap (λ (b : Bool). cond b None (first_named list head.parent)) (eq-eqb head.parent empty_name e)

parent_of_item : {X : Type 0} (f : X → Option ℕ) (xs : List X) (place : ℕ) (x : X) → slice_get xs place ≡ Some x → parent_of (map f xs) place ≡ f x
parent_of_item f xs place x e =
    ap (option_and_then (λ parent. parent)) (slice_get-map f xs place ∙ ap (option_map f) e)

module _ {set : JudgedSet} (whole : IsJudgedSet set) where
  -- ---- as many of each
  pub scripts_count : length (scripts_of set) ≡ length (objects whole)
  scripts_count = length-map set.scripts (script_of (outline_of set)) ∙ sym whole.judged.loaded.objects.script_count

  pub outline_count : length (outline_of set) ≡ length (objects whole)
  outline_count = length-map set.outline script_shape ∙ sym whole.judged.loaded.objects.outline_count

  pub heads_count : length (heads whole) ≡ length (objects whole)
  heads_count = sym whole.judged.loaded.heads.count

  pub parents_count : length (parents whole) ≡ length (objects whole)
  parents_count =
      length-map (tables whole).objects (parent_of_head (tables whole).objects) ∙ sym whole.judged.loaded.numbered.count

  -- ---- of each number
  pub object_is : (n : ℕ) (o : Placed) (s : JudgedScript) (l : OutlineScript) → n < length (objects whole)
      → IsWholeObject (record { set = tables whole; members = whole.judged.members }) n (slice_index_or (objects whole) n o) (slice_index_or set.scripts n s) (slice_index_or set.outline n l)
  object_is n o s l within = whole.judged.loaded.objects.each n o s l within

  pub head_is : (n : ℕ) (o : Placed) (h : ScriptHead) → n < length (objects whole)
      → IsHeadOf (members whole) (parent_at (parents whole) n) (slice_index_or (objects whole) n o).source.names.now (slice_index_or (objects whole) n o).object (slice_index_or (heads whole) n h)
  head_is n o h within = let e = heads_count in whole.judged.loaded.heads.each n o h (omega arith)

  pub source_named : (n : ℕ) (o : Placed) → n < length (objects whole) → IsNamed whole.judged.names (slice_index_or (objects whole) n o).source
  source_named n o within =
      objects_of_files (λ placed. IsNamed whole.judged.names placed.source) whole.judged.sources (λ k source h. λ j object g. whole.judged.named k source h) n o within

  pub source_has_parts : (n : ℕ) (o : Placed) → n < length (objects whole) → HaveParts (slice_index_or (objects whole) n o).source.pex.now
  source_has_parts n o within =
      objects_of_files (λ placed. HaveParts placed.source.pex.now) whole.judged.sources (λ k source h. λ j object g. whole.judged.parts k source h) n o within

  -- the object is one of its file
  pub object_stands : (n : ℕ) (o : Placed) → n < length (objects whole)
      → (place : ℕ) × (slice_get (slice_index_or (objects whole) n o).source.pex.now.objects.items place ≡ Some (slice_index_or (objects whole) n o).object)
  object_stands n o within =
      objects_of_files (λ placed. (place : ℕ) × (slice_get placed.source.pex.now.objects.items place ≡ Some placed.object)) whole.judged.sources (λ k source h. λ j object g. (j, slice_get-get_or _ j object g)) n o within

  -- a string of a file has its number in the table of names
  pub title_number : (source : SetFile) → IsNamed whole.judged.names source → (reference : ℕ)
      → number_in whole.judged.names (title_at source.titles.now reference) ≡ Some (number_at source.names.now reference)
  title_number source named reference =
      let titled : title_at source.titles.now reference ≡ title_at source.pex.now.strings.items reference = ap (λ l. title_at l reference) named.titles in
      let count : length source.names.now ≡ length source.pex.now.strings.items =
      sym (length-map source.names.now Some) ∙ ap length named.numbers ∙ length-map source.pex.now.strings.items (number_in whole.judged.names) in
      ⊎_elim
      (λ (within : reference < length source.pex.now.strings.items).
      ap (number_in whole.judged.names) titled
      ∙ sym (get_or-map (number_in whole.judged.names) source.pex.now.strings.items reference [] None within)
      ∙ ap (λ l. slice_index_or l reference None) (sym named.numbers)
      ∙ get_or-map Some source.names.now reference 0 None (omega (arith, count, within)))
      (λ (past : length source.pex.now.strings.items ≤ reference).
      ap (number_in whole.judged.names) (titled ∙ get_or_past source.pex.now.strings.items reference [] past)
      ∙ whole.judged.empty
      ∙ ap Some (sym (get_or_past source.names.now reference 0 (omega (arith, count, past)))))
      (cases_lt reference (length source.pex.now.strings.items))

  -- ---- parents
  pub parents_among : AreAmong (parents whole)
  parents_among = AreAmong-parents_in (tables whole).objects

  pub parent_within : (script parent : ℕ) → parent_of (parents whole) script ≡ Some parent → (script < length (objects whole)) × (parent < length (objects whole))
  parent_within script parent e =
      let count = parents_count in
      let lower = item_within (parents whole) script parent e in
      let upper = item_is (λ n. n < length (parents whole)) (parents whole) parents_among script parent e in
      (omega arith, omega arith)

  -- a script's parent by its head
  pub parent_by_heads : (script : ℕ) → script < length (objects whole) → parent_in_heads (heads whole) script ≡ parent_of (parents whole) script
  parent_by_heads script within =
      let o = item_at (objects whole) script within in
      let h = item_at (heads whole) script (omega (arith, heads_count, within)) in
      ap (option_and_then (λ (head : ScriptHead). head.parent)) h.stands
      ∙ ap (λ (head : ScriptHead). head.parent) (sym h.is)
      ∙ (head_is script o.item h.item within).parent

  -- there are at most 4,102 scripts
  few : length (heads whole) < 2 ^ 16
  few = omega (arith, whole.sound.scripts.numbered, heads_count, whole.judged.loaded.objects.script_count)

  parent_within_shape : (script : ℕ) (l : OutlineScript) → script < length (objects whole) → (slice_index_or set.outline script l).parent ≡ parent_of (parents whole) script
  parent_within_shape script l within =
      let o = item_at (objects whole) script within in
      let s = item_at set.scripts script (omega (arith, sym whole.judged.loaded.objects.script_count, within)) in
      let is = object_is script o.item s.item l within in
      let count = length (heads whole) in
      is.object.loaded.shape.parent
      ∙ ap (λ (judged_by : SetHeads). parent_among (length judged_by.heads.items) (parent_in_heads judged_by.heads.items is.object.home.here)) is.object.set
      ∙ ap (λ here. parent_among count (parent_in_heads (heads whole) here)) is.object.number
      ∙ ap (parent_among count) (parent_by_heads script within)
      ∙ among_itself count (parent_of (parents whole) script) few (λ parent e. omega (arith, (parent_within script parent e).1, heads_count))

  pub outline_parent : (script : ℕ) → parent_in (slice_get (outline_of set) script) ≡ parent_of (parents whole) script
  outline_parent script =
      ap parent_in (slice_get-map script_shape set.outline script)
      ∙ ⊎_elim
      (λ (within : script < length (objects whole)).
      let l = item_at set.outline script (omega (arith, sym whole.judged.loaded.objects.outline_count, within)) in
      ap (λ o. parent_in (option_map script_shape o)) l.stands ∙ ap (λ (l : OutlineScript). l.parent) (sym l.is) ∙ parent_within_shape script l.item within)
      (λ (past : length (objects whole) ≤ script).
      ap (λ o. parent_in (option_map script_shape o)) (slice_get_past set.outline script (omega (arith, whole.judged.loaded.objects.outline_count, past)))
      ∙ ap (option_and_then (λ parent. parent)) (sym (slice_get_past (parents whole) script (omega (arith, parents_count, past)))))
      (cases_lt script (length (objects whole)))

  pub rooted_in_outline : (script parent : ℕ) → parent_in (slice_get (outline_of set) script) ≡ Some parent → lineage (outline_of set) (Some script) ≡ script ∷ lineage (outline_of set) (Some parent)
  rooted_in_outline script parent e =
      rooted_from_objects (outline_of set) (parents whole) (outline_count ∙ sym parents_count) outline_parent whole.judged.loaded.rooted script parent e

  -- an object whose file names no parent has none
  pub no_parent : (n : ℕ) (o : Placed) → n < length (objects whole)
      → number_at (slice_index_or (objects whole) n o).source.names.now (slice_index_or (objects whole) n o).object.parent ≡ 0 → parent_of (parents whole) n ≡ None
  no_parent n o within none =
      let h = item_at (tables whole).objects n (omega (arith, sym whole.judged.loaded.numbered.count, within)) in
      let numbered = whole.judged.loaded.numbered.each n o h.item (omega (arith, sym whole.judged.loaded.numbered.count, within)) in
      parent_of_item (parent_of_head (tables whole).objects) (tables whole).objects n h.item h.stands
      ∙ without_parent (tables whole).objects h.item (ap (λ (head : Head). head.parent) (sym h.is) ∙ numbered.parent ∙ none)
