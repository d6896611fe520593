-- The states of the scripts of a set that was verified, by numbers and by texts.
use Rattle.std.proofs.Common.{◌≡◌, ℕ, zero, suc, ◌<◌, ◌≤◌, List, [], ◌∷◌, length, Option, Some, map, refl, sym, ap, subst, ◌∙◌, ⊎_elim, arith}
use Rattle.std.specs.Prelude.{slice_get, slice_index_or}
use Rattle.std.specs.List.{AllZip}
use Rattle.std.specs.Option.{option_and_then, option_map}
use Rattle.std.proofs.lemmas.Bool.{cases_lt}
use Rattle.std.proofs.lemmas.List.{length-map}
use Rattle.std.proofs.lemmas.Option.{none-some, same_Some, slice_get-map, slice_get_past, get_or_from_slice_get}
use Rattle.core_tree.specs.declared.outline.OutlineScript.{OutlineScript}
use Rattle.core_tree.specs.Outlines.{ScriptShape, script_shape, FunctionShape}
use Rattle.run_laws.specs.Fits.{is_native_in}
use Rattle.script_meaning.specs.Requests.{functions_in, result_in}
use Rattle.code_meaning.specs.Code.{State, Script}
use Rattle.code_meaning.specs.LookUp.{states_in}
use Rattle.pex_verify.specs.declared.judged.JudgedScript.{JudgedScript}
use Rattle.pex_verify.specs.declared.scope.Home.{Home}
use Rattle.pex_verify.specs.declared.scripts.ScriptHead.{ScriptHead}
use Rattle.pex_verify.specs.declared.scripts.SetHeads.{SetHeads}
use Rattle.pex_verify.specs.declared.sources.DefaultMembers.{DefaultMembers}
use Rattle.pex_verify.specs.Found.{function_at}
use Rattle.pex_verify.specs.Heads.{Placed, Members, members_of, member_at, empty_functions, lacking_in, parent_at, IsHeadOf}
use Rattle.pex_verify.specs.Loading.{IsWholeObject, placed_at}
use Rattle.pex_verify.specs.Meanings.{of_result}
use Rattle.pex_verify.specs.Outlining.{functions_without_state, loaded_shape}
use Rattle.pex_verify.specs.JudgedCode.{outline_of, scripts_of, script_of}
use Rattle.pex_verify.specs.Sets.{JudgedSet}
use Rattle.pex_verify.specs.Signatures.{declared_of, declared_by}
use Rattle.pex_verify.specs.Sites.{site_of}
use Rattle.pex_verify.specs.Sources.{IsNamed}
use Rattle.pex_verify.specs.States.{lacking_places, states_written}
use Rattle.pex_verify.specs.Whole.{IsJudgedSet}
use Rattle.pex_verify.proofs.Context.{tables, parents, objects, heads, members, views, views_of, views_of_object}
use Rattle.pex_verify.proofs.EmptyStates.{in_first, loaded_at, same_there, first_functions}
use Rattle.pex_verify.proofs.Facts.{scripts_count, outline_count, heads_count, object_is, head_is, source_named, title_number, rooted_in_outline}
use Rattle.pex_verify.proofs.Views.{StateView, view_of, IsViewed, OwnFound, own_found, AreViewed, IsOutlined, HaveSignatures}
use Rattle.pex_verify.proofs.Written.{plain_state, viewed_states, views_with, home_viewed}

-- ---- items at numbers
item_within : {X : Type 0} (xs : List X) (n : ℕ) → n < length xs → (x : X) × (slice_get xs n ≡ Some x)
item_within [] n h = absurd (omega arith)
item_within (x ∷ xs) zero h = (x, refl)
item_within (x ∷ xs) (suc n) h = item_within xs n (omega arith)

pub views_at : (given : Members) (placed : List Placed) (offers : List ScriptHead) (n : ℕ) (o : Placed) (h : ScriptHead)
    → slice_get placed n ≡ Some o → slice_get offers n ≡ Some h → view_of (views_of given placed offers) n ≡ views_of_object given o h.lacking.items
views_at given [] offers n o h e f = absurd (none-some o e)
views_at given (x ∷ placed) [] n o h e f = absurd (none-some h f)
views_at given (x ∷ placed) (y ∷ offers) zero o h e f =
    ap (λ (z : Placed). views_of_object given z y.lacking.items) (same_Some x o e) ∙ ap (λ (z : ScriptHead). views_of_object given o z.lacking.items) (same_Some y h f)
views_at given (x ∷ placed) (y ∷ offers) (suc n) o h e f = views_at given placed offers n o h e f

views_past : (given : Members) (placed : List Placed) (offers : List ScriptHead) (n : ℕ) → length placed ≤ n → view_of (views_of given placed offers) n ≡ []
views_past given [] offers n h = refl
views_past given (x ∷ placed) [] n h = refl
views_past given (x ∷ placed) (y ∷ offers) zero h = absurd (omega arith)
views_past given (x ∷ placed) (y ∷ offers) (suc n) h = views_past given placed offers n (omega arith)

module _ {set : JudgedSet} (whole : IsJudgedSet set) where
  abbrev IsObject : ℕ → Placed → JudgedScript → OutlineScript → Type 0
  IsObject n o s l = IsWholeObject (record { set = tables whole; members = whole.judged.members }) n o s l

  abbrev IsHead : ℕ → Placed → ScriptHead → Type 0
  IsHead n o h = IsHeadOf (members whole) (parent_at (parents whole) n) o.source.names.now o.object h

  abbrev AreViews : SetHeads → List StateView → List State → Type 0
  AreViews tables seen states = AllZip (IsViewed tables.types whole.judged.names) seen states

  -- ---- what stands at a number
  pub record IsAt (n : ℕ) : Type 0 where
    pub object : Placed
    pub head : ScriptHead
    pub script : JudgedScript
    pub shape : OutlineScript
    pub object_at : slice_get (objects whole) n ≡ Some object
    pub head_at : slice_get (heads whole) n ≡ Some head
    pub script_at : slice_get set.scripts n ≡ Some script
    pub shape_at : slice_get set.outline n ≡ Some shape
    pub viewed : view_of (views whole) n ≡ views_of_object (members whole) object head.lacking.items
    pub is : IsObject n object script shape
    pub head_of : IsHead n object head
    pub named : IsNamed whole.judged.names object.source

  pub at_number : (n : ℕ) → n < length (objects whole) → IsAt n
  at_number n within =
      let o = item_within (objects whole) n within in
      let h = item_within (heads whole) n (omega (arith, heads_count whole)) in
      let s = item_within set.scripts n (omega (arith, scripts_count whole, length-map set.scripts (script_of (outline_of set)))) in
      let l = item_within set.outline n (omega (arith, outline_count whole, length-map set.outline script_shape)) in
      let same_object = get_or_from_slice_get (objects whole) n o.0 o.0 o.1 in
      let same_head = get_or_from_slice_get (heads whole) n h.0 h.0 h.1 in
      let same_script = get_or_from_slice_get set.scripts n s.0 s.0 s.1 in
      let same_shape = get_or_from_slice_get set.outline n l.0 l.0 l.1 in
      let of_object = subst (λ z. IsObject n z (slice_index_or set.scripts n s.0) (slice_index_or set.outline n l.0)) same_object (object_is whole n o.0 s.0 l.0 within) in
      let of_script = subst (λ z. IsObject n o.0 z (slice_index_or set.outline n l.0)) same_script of_object in
      let of_head = subst (λ z. IsHead n z (slice_index_or (heads whole) n h.0)) same_object (head_is whole n o.0 h.0 within) in
      record {
        object = o.0;
        head = h.0;
        script = s.0;
        shape = l.0;
        object_at = o.1;
        head_at = h.1;
        script_at = s.1;
        shape_at = l.1;
        viewed = views_at (members whole) (objects whole) (heads whole) n o.0 h.0 o.1 h.1;
        is = subst (IsObject n o.0 s.0) same_shape of_script;
        head_of = subst (IsHead n o.0) same_head of_head;
        named = subst (λ (z : Placed). IsNamed whole.judged.names z.source) same_object (source_named whole n o.0 within);
      }

  views_none : (n : ℕ) → length (objects whole) ≤ n → view_of (views whole) n ≡ []
  views_none n past = views_past (members whole) (objects whole) (heads whole) n past

  within_by : (script name : ℕ) (own : OwnFound) (list : List StateView) → own_found list 0 name ≡ Some own → list ≡ [] → ⊥
  within_by script name own list h e = none-some own (subst (λ (l : List StateView). own_found l 0 name ≡ Some own) e h)

  -- a script that has a function is one of the set
  pub found_within : (script name : ℕ) (own : OwnFound) → own_found (view_of (views whole) script) 0 name ≡ Some own → IsAt script
  found_within script name own h =
      ⊎_elim (at_number script) (λ past. absurd (within_by script name own (view_of (views whole) script) h (views_none script past))) (cases_lt script (length (objects whole)))

  -- ---- states
  module _ (n : ℕ) (at : IsAt n) where
    abbrev home : Home
    home = at.is.object.home

    abbrev loaded_states : List State
    loaded_states = map (plain_state (outline_of set)) at.script.states.items

    lacking_same : lacking_places home ≡ at.head.lacking.items
    lacking_same =
        ap (λ m. lacking_in (slice_get home.set.now.heads.items m)) at.is.object.number
        ∙ ap (λ (s : SetHeads). lacking_in (slice_get s.heads.items n)) at.is.object.set
        ∙ ap lacking_in at.head_at

    views_same : views_with home (lacking_places home) ≡ view_of (views whole) n
    views_same =
        ap (views_with home) lacking_same
        ∙ ap (λ (m : DefaultMembers). views_of_object (members_of m) (placed_at home) at.head.lacking.items) at.is.object.members
        ∙ ap (λ (o : Placed). views_of_object (members whole) o at.head.lacking.items) (λ i. record { source = at.is.object.source i; object = at.is.object.object i })
        ∙ sym at.viewed

    home_states : AreViews home.set.now (views_with home (lacking_places home)) loaded_states
    home_states =
        let names = whole.judged.names in
        let own = title_number whole home.source.now (subst (IsNamed names) (sym at.is.object.source) at.named) in
        let members_named = subst (λ (m : DefaultMembers). IsNamed names m.source.now) (sym at.is.object.members) whole.judged.members_named in
        let written = home_viewed names home whole.judged.empty own (title_number whole home.members.now.source.now members_named) in
        viewed_states names (outline_of set) (site_of home) (views_with home (lacking_places home)) (states_written home home.object.now.states.items) at.script.states.items written at.is.object.loaded.states

    pub at_viewed : AreViews (tables whole) (view_of (views whole) n) loaded_states
    at_viewed =
        subst (λ (v : List StateView). AreViews (tables whole) v loaded_states) views_same
        (subst (λ (s : SetHeads). AreViews s (views_with home (lacking_places home)) loaded_states) at.is.object.set home_states)

    states_at : AreViews (tables whole) (view_of (views whole) n) (states_in (slice_get (scripts_of set) n))
    states_at =
        let plain = slice_get-map (script_of (outline_of set)) set.scripts n ∙ ap (option_map (script_of (outline_of set))) at.script_at in
        subst (λ (s : Option Script). AreViews (tables whole) (view_of (views whole) n) (states_in s)) (sym plain) at_viewed

  states_past : (n : ℕ) → length (objects whole) ≤ n → AreViews (tables whole) (view_of (views whole) n) (states_in (slice_get (scripts_of set) n))
  states_past n past =
      let none = slice_get_past (scripts_of set) n (omega (arith, scripts_count whole)) in
      subst (λ (v : List StateView). AreViews (tables whole) v (states_in (slice_get (scripts_of set) n))) (sym (views_none n past))
      (subst (λ (s : Option Script). AreViews (tables whole) [] (states_in s)) (sym none) tt)

  pub views_viewed : AreViewed (tables whole).types whole.judged.names (outline_of set) (scripts_of set) (views whole)
  views_viewed = record {
    empty = whole.judged.empty;
    states = λ script. ⊎_elim (λ within. states_at script (at_number script within)) (states_past script) (cases_lt script (length (objects whole)));
    rooted = rooted_in_outline whole;
  }

  -- ---- outline
  pub views_outlined : IsOutlined (tables whole).types (outline_of set) (views whole)
  views_outlined script name own h =
      let at = found_within script name own h in
      let loaded = at.script.states.items in
      let first = in_first (view_of (views whole) script) name own h in
      let l = loaded_at (tables whole).types whole.judged.names (outline_of set) whole.judged.empty (view_of (views whole) script) loaded own (at_viewed script at) first in
      let shape : slice_get (functions_in (slice_get (outline_of set) script)) own.number ≡ Some (loaded_shape l.loaded) =
      ap (λ (o : Option ScriptShape). slice_get (functions_in o) own.number) (slice_get-map script_shape set.outline script ∙ ap (option_map script_shape) at.shape_at)
      ∙ ap (λ (fs : List FunctionShape). slice_get fs own.number) at.is.object.loaded.shape.functions
      ∙ slice_get-map loaded_shape (functions_without_state loaded) own.number
      ∙ ap (option_map loaded_shape) l.stands in
      (ap is_native_in shape ∙ l.declares.is_native, ap (λ (f : Option FunctionShape). of_result (result_in f)) shape ∙ l.declares.result)

  -- ---- heads
  pub have_signatures : HaveSignatures (views whole) (function_at (tables whole))
  have_signatures script name own h =
      let at = found_within script name own h in
      let numbers = at.object.source.names.now in
      let f = in_first (views_of_object (members whole) at.object at.head.lacking.items) name own (subst (λ (v : List StateView). own_found v 0 name ≡ Some own) at.viewed h) in
      let in_view = first_functions (members whole) numbers at.head.lacking.items at.object.object.states.items f.number f.view f.first in
      let declared = map (declared_by numbers) (empty_functions numbers at.object.object) in
      let in_head = same_there (map declared_of at.head.functions.items) declared (member_at (members whole)) at.head.lacking.items at.head_of.functions in
      ap (λ (o : Option ScriptHead). option_map declared_of (option_and_then (λ (head : ScriptHead). slice_get head.functions.items own.number) o)) at.head_at
      ∙ sym (slice_get-map declared_of at.head.functions.items own.number)
      ∙ ap (λ fs. slice_get fs own.number) (in_head ∙ sym in_view)
      ∙ f.stands
