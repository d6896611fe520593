-- Types, parents and names of a set that was verified are those of its outline.
use Rattle.std.proofs.Common.{◌≡◌, ℕ, ◌<◌, ◌≤◌, ◌==◌, true, false, nat_le, nat_lt, List, [], ◌∷◌, length, position, Some, sym, ap, subst, ◌∙◌, ⊎_elim, arith}
use Rattle.std.specs.Prelude.{vec_len, slice_get, slice_index_or}
use Rattle.std.specs.List.{AllZip}
use Rattle.std.specs.Option.{option_and_then}
use Rattle.std.specs.Str.{str_eq_ignore_ascii_case}
use Rattle.std.proofs.lemmas.Bool.{and_right, cases_lt, eqb-true, false≢true, le-ltb, or_cases}
use Rattle.std.proofs.lemmas.List.{get_or-map, get_or_past, length-map}
use Rattle.std.proofs.lemmas.List.Quantifiers.{position-Some}
use Rattle.std.proofs.lemmas.Option.{none-some, slice_get_past}
use Rattle.core_tree.specs.declared.outline.OutlineScript.{OutlineScript}
use Rattle.core_tree.specs.Outlines.{ScriptShape, script_shape}
use Rattle.script_meaning.specs.Values.{is_child, parent_in}
use Rattle.pex_set.specs.Names.{number_in}
use Rattle.pex_set.specs.Objects.{first_named}
use Rattle.papy_base.specs.Ranks.{has, no_ranks, span_at}
use Rattle.papy_base.specs.declared.descent.Span.{Span}
use Rattle.pex_set.specs.declared.objects.Head.{Head}
use Rattle.pex_values.specs.declared.values.PexObject.{PexObject}
use Rattle.pex_verify.specs.declared.scripts.ScriptHead.{ScriptHead}
use Rattle.pex_verify.specs.declared.sources.SetFile.{SetFile}
use Rattle.pex_verify.specs.Agreement.{HaveTypesOf}
use Rattle.pex_verify.specs.Found.{parent_of}
use Rattle.pex_verify.specs.Heads.{Placed, AreNumbered}
use Rattle.pex_verify.specs.JudgedCode.{outline_of, script_named, script_or}
use Rattle.pex_verify.specs.Naming.{NameScripts}
use Rattle.pex_verify.specs.Sets.{JudgedSet}
use Rattle.pex_verify.specs.Signatures.{title_at}
use Rattle.pex_verify.specs.Whole.{IsJudgedSet}
use Rattle.pex_verify.proofs.Agreeing.{zip_from_paired}
use Rattle.pex_verify.proofs.Context.{tables, parents, objects, heads}
use Rattle.pex_verify.proofs.Facts.{outline_count, heads_count, parents_count, object_is, source_named, title_number, parent_within, parent_by_heads, outline_parent, item_at}
use Rattle.pex_verify.proofs.Naming.{named_agrees, named_exactly, child_agrees, child_itself, parent_agrees}

-- with no ranks for what is no object, nothing stands below it
no_rank_past : (spans : List Span) (above rank : ℕ) → length spans ≤ above → has (span_at spans above) rank ≡ true → ⊥
no_rank_past spans above rank past h =
    false≢true (sym (none rank) ∙ ap (λ span. has span rank) (sym (get_or_past spans above no_ranks past)) ∙ h)
  where
    none : (rank : ℕ) → has no_ranks rank ≡ false
    none rank = and_right (nat_le 0 rank) (nat_lt rank 0) (le-ltb rank 0 (omega arith))

module _ {set : JudgedSet} (whole : IsJudgedSet set) where
  pub heads_length : vec_len (tables whole).heads ≡ length (objects whole)
  heads_length = (tables whole).heads.ok.0 ∙ heads_count whole

  abbrev same_count : length (outline_of set) ≡ length (parents whole)
  same_count = outline_count whole ∙ sym (parents_count whole)

  -- ---- types
  child_below : (child above : ℕ) → child < length (parents whole) → has (span_at (tables whole).table.descent above) (span_at (tables whole).table.descent child).start ≡ true
      → is_child (outline_of set) child above ≡ true
  child_below child above within h =
      ⊎_elim
      (λ (among : above < length (parents whole)).
      child_agrees (outline_of set) (parents whole) same_count (outline_parent whole) child above (whole.judged.loaded.is_table.descent.only child above within among h))
      (λ (past : length (parents whole) ≤ above).
      absurd (no_rank_past (tables whole).table.descent above (span_at (tables whole).table.descent child).start (omega (arith, whole.judged.loaded.is_table.count, past)) h))
      (cases_lt above (length (parents whole)))

  pub have_types : HaveTypesOf (tables whole) (outline_of set)
  have_types = record {
    meanings = whole.judged.loaded.meanings;
    children = λ child above within below.
        ⊎_elim
        (λ (same : (child == above) ≡ true). subst (λ n. is_child (outline_of set) child n ≡ true) (eqb-true child above same) (child_itself (outline_of set) child (omega (arith, heads_length, outline_count whole))))
        (λ (further : has (span_at (tables whole).table.descent above) (span_at (tables whole).table.descent child).start ≡ true). child_below child above (omega (arith, heads_length, parents_count whole)) further)
        (or_cases (child == above) (has (span_at (tables whole).table.descent above) (span_at (tables whole).table.descent child).start) below);
  }

  -- ---- parents
  parent_of_heads : (script parent : ℕ) → parent_of (tables whole) script ≡ Some parent → script < length (objects whole)
  parent_of_heads script parent e =
      ⊎_elim
      (λ (within : script < length (objects whole)). within)
      (λ (past : length (objects whole) ≤ script).
      absurd (none-some parent (ap (option_and_then (λ (head : ScriptHead). head.parent)) (sym (slice_get_past (heads whole) script (omega (arith, heads_count whole)))) ∙ e)))
      (cases_lt script (length (objects whole)))

  pub parents_agree : (script parent : ℕ) → parent_of (tables whole) script ≡ Some parent
      → (parent < vec_len (tables whole).heads) × (parent_in (slice_get (outline_of set) script) ≡ Some parent) × (is_child (outline_of set) parent parent ≡ true)
  parents_agree script parent e =
      let by_objects = sym (parent_by_heads whole script (parent_of_heads script parent e)) ∙ e in
      let among = parent_within whole script parent by_objects in
      let agree = parent_agrees (outline_of set) (parents whole) same_count (outline_parent whole) script parent (omega (arith, parents_count whole, among.1)) by_objects in
      (omega (arith, heads_length, among.1), agree.0, agree.1)

  -- ---- names
  -- a script of the outline has its object's name
  shape_title : (k : ℕ) (o : Placed) (l : OutlineScript) → k < length (objects whole)
      → (slice_index_or set.outline k l).name ≡ title_at (slice_index_or (objects whole) k o).source.titles.now (slice_index_or (objects whole) k o).object.name
  shape_title k o l within =
      let s = item_at set.scripts k (omega (arith, sym whole.judged.loaded.objects.script_count, within)) in
      let is = object_is whole k o s.item l within in
      is.object.loaded.shape.name
      ∙ ap (λ (file : SetFile). title_at file.titles.now is.object.home.object.now.name) is.object.source
      ∙ ap (λ (object : PexObject). title_at (slice_index_or (objects whole) k o).source.titles.now object.name) is.object.object

  module _ (heads : List Head) (numbered : AreNumbered (objects whole) heads) where
    shape_named : (k : ℕ) (head : Head) (shape : ScriptShape) → k < length (outline_of set)
        → number_in whole.judged.names (slice_index_or (outline_of set) k shape).name ≡ Some (slice_index_or heads k head).name
    shape_named k head shape h =
        let within : k < length (objects whole) = omega (arith, outline_count whole, h) in
        let outlined : k < length set.outline = omega (arith, sym whole.judged.loaded.objects.outline_count, within) in
        let o = item_at (objects whole) k within in
        let l = item_at set.outline k outlined in
        let placed = slice_index_or (objects whole) k o.item in
        let is = numbered.each k o.item head (omega (arith, sym numbered.count, within)) in
        ap (λ (s : ScriptShape). number_in whole.judged.names s.name) (get_or-map script_shape set.outline k l.item shape outlined)
        ∙ ap (number_in whole.judged.names) (shape_title k o.item l.item within)
        ∙ title_number whole placed.source (source_named whole k o.item within) placed.object.name
        ∙ ap Some (sym is.name)

    shapes_named : AllZip (λ (head : Head) (shape : ScriptShape). number_in whole.judged.names shape.name ≡ Some head.name) heads (outline_of set)
    shapes_named =
        zip_from_paired (λ (head : Head) (shape : ScriptShape). number_in whole.judged.names shape.name ≡ Some head.name) heads (outline_of set) (record {
          count = sym numbered.count ∙ sym (outline_count whole);
          each = λ k head shape h. shape_named k head shape h;
        })

    -- scripts are named by the numbers of their objects
    pub scripts_named : NameScripts whole.judged.names heads set.outline
    scripts_named = record {
      each = λ name.
          ap (λ o. script_or o (length set.outline)) (named_exactly whole.judged.names heads (outline_of set) shapes_named name)
          ∙ ap (λ n. script_or (position (λ (shape : ScriptShape). str_eq_ignore_ascii_case shape.name name) (outline_of set)) n) (sym (length-map set.outline script_shape));
      few = omega (arith, whole.sound.scripts.one_each, whole.sound.scripts.numbered);
    }

  first_within : (list : List Head) (number script : ℕ) → first_named list number ≡ Some script → script < length list
  first_within [] number script e = absurd (cc)
  first_within (head ∷ list) number script e = (position-Some (λ (other : Head). other.name == number) (head ∷ list) script head e).0

  pub names_agree : (number script : ℕ) (name : List ℕ) → number_in whole.judged.names name ≡ Some number → first_named (tables whole).objects number ≡ Some script
      → (script < vec_len (tables whole).heads) × (script_named (outline_of set) name ≡ script)
  names_agree number script name named found = (
    omega (arith, first_within (tables whole).objects number script found, whole.judged.loaded.numbered.count, heads_length),
    ap (λ o. script_or o (length (outline_of set))) (named_agrees whole.judged.names (tables whole).objects (outline_of set) (shapes_named (tables whole).objects whole.judged.loaded.numbered) number script name named found),
  )
