-- The functions that the tables of a verified set find are what its scripts offer.
use Rattle.std.proofs.Common.{◌≡◌, ◌≢◌, ℕ, zero, suc, ◌<◌, ◌≤◌, ◌⊎◌, ◌==◌, Bool, true, false, List, [], ◌∷◌, ◌++◌, length, Option, Some, map, refl, sym, ap, subst, ◌∙◌, inl, inr, ⊎_elim, arith}
use Rattle.std.specs.Prelude.{slice_get, bit_and, if◌then◌else◌, vec_len, All}
use Rattle.std.specs.List.{list_any}
use Rattle.std.specs.Option.{option_and_then}
use Rattle.std.proofs.lemmas.Bool.{cases_lt, eq-eqb, eqb-true, ne_eqb}
use Rattle.std.proofs.lemmas.Option.{none-some, same_Some, slice_get_within, get_or_from_slice_get}
use Rattle.script_meaning.specs.Values.{parent_in}
use Rattle.pex_set.specs.Inherited.{found_in}
use Rattle.pex_set.specs.Names.{empty_name, number_in}
use Rattle.pex_values.specs.declared.values.PexFunction.{PexFunction}
use Rattle.pex_values.specs.declared.values.PexObject.{PexObject}
use Rattle.pex_values.specs.declared.values.PexState.{PexState}
use Rattle.pex_verify.specs.declared.scope.Home.{Home}
use Rattle.pex_verify.specs.declared.scripts.ScriptHead.{ScriptHead}
use Rattle.pex_verify.specs.declared.scripts.SetHeads.{SetHeads}
use Rattle.pex_verify.specs.declared.scripts.Signature.{Signature}
use Rattle.pex_verify.specs.declared.sources.SetFile.{SetFile}
use Rattle.pex_verify.specs.Agreement.{IsOffered}
use Rattle.pex_verify.specs.Found.{function_at, function_found, parent_of, rank_of}
use Rattle.pex_verify.specs.Heads.{Placed, Members}
use Rattle.pex_verify.specs.JudgedCode.{outline_of, scripts_of}
use Rattle.pex_verify.specs.Rules.{Replaces, ReplacesIn, EachReplaces}
use Rattle.pex_verify.specs.Sets.{JudgedSet}
use Rattle.pex_verify.specs.Signatures.{Declared, declared_of, declared_by, AreAlike, number_at}
use Rattle.pex_verify.specs.Whole.{IsJudgedSet}
use Rattle.pex_verify.proofs.Agreeing.{functions_agree, views_replace}
use Rattle.pex_verify.proofs.Collected.{IsScriptAt, script_at, views_past, methods_collected, methods_found}
use Rattle.pex_verify.proofs.Context.{tables, parents, objects, heads, members, views, views_of_object, state_view, added_view, lacking_declared, collected_members}
use Rattle.pex_verify.proofs.Facts.{outline_count, heads_count, parents_count, parent_within, outline_parent}
use Rattle.pex_verify.proofs.Viewed.{views_viewed, views_outlined, have_signatures}
use Rattle.pex_verify.proofs.Views.{StateView, view_of, KeepsAbove, Replaces as AreReplacing}

-- ---- items of lists
pub item_from_all : {A : Type 0} (P : A → Type 0) (xs : List A) (k : ℕ) (x : A) → All P xs → slice_get xs k ≡ Some x → P x
item_from_all P xs k x all e = subst P (get_or_from_slice_get xs k x x e) (all k x (slice_get_within xs k x e))

pub item_of_map : {A B : Type 0} (f : A → B) (xs : List A) (k : ℕ) (y : B) → slice_get (map f xs) k ≡ Some y → (x : A) × (slice_get xs k ≡ Some x) × (f x ≡ y)
item_of_map f [] k y e = absurd (none-some y e)
item_of_map f (x ∷ xs) zero y e = (x, refl, same_Some (f x) y e)
item_of_map f (x ∷ xs) (suc k) y e = item_of_map f xs k y e

pub item_of_joined : {A : Type 0} (xs ys : List A) (k : ℕ) (z : A) → slice_get (xs ++ ys) k ≡ Some z → (slice_get xs k ≡ Some z) ⊎ ((j : ℕ) × (slice_get ys j ≡ Some z))
item_of_joined [] ys k z e = inr (k, e)
item_of_joined (x ∷ xs) ys zero z e = inl e
item_of_joined (x ∷ xs) ys (suc k) z e = item_of_joined xs ys k z e

-- ---- the views of an object
-- one of its states, or one that is added for the members that the script lacks
record IsOfState (members : Members) (numbers lacking : List ℕ) (states : List PexState) (view : StateView) : Type 0 where
  state : PexState
  number : ℕ
  stands : slice_get states number ≡ Some state
  is : state_view members numbers lacking state ≡ view

record IsAdded (declared : List Declared) (view : StateView) : Type 0 where
  name : view.name ≡ 0
  functions : view.functions ≡ declared

added : (b : Bool) (declared : List Declared) (k : ℕ) (view : StateView) → slice_get (if b then [] else added_view declared) k ≡ Some view → IsAdded declared view
added true declared k view e = absurd (none-some view e)
added false [] k view e = absurd (none-some view e)
added false (first ∷ rest) zero view e =
    let same = same_Some (record { name = 0; functions = first ∷ rest }) view e in
    subst (IsAdded (first ∷ rest)) same (record { name = refl; functions = refl })
added false (first ∷ rest) (suc k) view e = absurd (none-some view e)

view_cases : (members : Members) (o : Placed) (lacking : List ℕ) (k : ℕ) (view : StateView) → slice_get (views_of_object members o lacking) k ≡ Some view
    → IsOfState members o.source.names.now lacking o.object.states.items view ⊎ IsAdded (lacking_declared members lacking) view
view_cases members o lacking k view e =
    let numbers = o.source.names.now in
    let states = o.object.states.items in
    let any = list_any (λ (state : PexState). number_at numbers state.name == empty_name) states in
    ⊎_elim
    (λ (own : slice_get (map (state_view members numbers lacking) states) k ≡ Some view).
    let w = item_of_map (state_view members numbers lacking) states k view own in
    inl (record { state = w.0; number = k; stands = w.1; is = w.2 }))
    (λ (last : (j : ℕ) × (slice_get (if any then [] else added_view (lacking_declared members lacking)) j ≡ Some view)).
    inr (added any (lacking_declared members lacking) last.0 view last.1))
    (item_of_joined (map (state_view members numbers lacking) states) (if any then [] else added_view (lacking_declared members lacking)) k view e)

-- a function of a state, or a member that the script lacks
record IsDeclared (numbers : List ℕ) (state : PexState) (declared : Declared) : Type 0 where
  function : ℕ × PexFunction
  number : ℕ
  stands : slice_get state.functions.items number ≡ Some function
  is : declared_by numbers function ≡ declared

in_empty : (b : Bool) (places : List Declared) (j : ℕ) (declared : Declared) → slice_get (if b then places else []) j ≡ Some declared → (b ≡ true) × (slice_get places j ≡ Some declared)
in_empty true places j declared e = (refl, e)
in_empty false places j declared e = absurd (none-some declared e)

function_cases : (members : Members) (numbers lacking : List ℕ) (state : PexState) (k : ℕ) (declared : Declared)
    → slice_get (state_view members numbers lacking state).functions k ≡ Some declared
    → IsDeclared numbers state declared ⊎ ((number_at numbers state.name == 0) ≡ true) × ((j : ℕ) × (slice_get (lacking_declared members lacking) j ≡ Some declared))
function_cases members numbers lacking state k declared e =
    ⊎_elim
    (λ (own : slice_get (map (declared_by numbers) state.functions.items) k ≡ Some declared).
    let w = item_of_map (declared_by numbers) state.functions.items k declared own in
    inl (record { function = w.0; number = k; stands = w.1; is = w.2 }))
    (λ (last : (j : ℕ) × (slice_get (if number_at numbers state.name == empty_name then lacking_declared members lacking else []) j ≡ Some declared)).
    let w = in_empty (number_at numbers state.name == empty_name) (lacking_declared members lacking) last.0 declared last.1 in
    inr (w.0, (last.0, w.1)))
    (item_of_joined (map (declared_by numbers) state.functions.items) (if number_at numbers state.name == empty_name then lacking_declared members lacking else []) k declared e)

-- ---- V11, by the tables of a set
abbrev AreAlikeIn : List ℕ → PexFunction → Signature → Type 0
AreAlikeIn numbers function signature = AreAlike (declared_of signature) (declared_by numbers (0, function))

abbrev ReplacesBy : Bool → SetHeads → ℕ → List ℕ → ℕ × PexFunction → Type 0
ReplacesBy true set here numbers function =
    (parent : ℕ) (signature : Signature) → parent_of set here ≡ Some parent → function_found set parent (number_at numbers function.0) ≡ Some signature → AreAlikeIn numbers function.1 signature
ReplacesBy false set here numbers function =
    (signature : Signature) × (function_found set here (number_at numbers function.0) ≡ Some signature) × AreAlikeIn numbers function.1 signature × (bit_and function.1.bits 3 ≡ 0)

by_home : (b : Bool) (home : Home) (function : ℕ × PexFunction) → ReplacesIn b home (number_at home.source.now.names.now function.0) function.1
    → ReplacesBy b home.set.now home.here home.source.now.names.now function
by_home true home function h = h
by_home false home function h = (h.signature, h.found, h.alike, h.plain)

alike_from : (numbers : List ℕ) (function : ℕ × PexFunction) (signature : Signature) (declared : Declared) → declared_by numbers function ≡ declared
    → AreAlikeIn numbers function.1 signature → AreAlike declared (declared_of signature)
alike_from numbers function signature declared is alike =
    subst (λ (d : Declared). AreAlike d (declared_of signature)) is (record { answer = sym alike.answer; parameters = sym alike.parameters; bits = sym alike.bits })

module _ {set : JudgedSet} (whole : IsJudgedSet set) where
  replaced : (script : ℕ) (at : IsScriptAt whole script) (state : PexState) (i j : ℕ) (function : ℕ × PexFunction) → slice_get at.o.object.states.items i ≡ Some state
      → slice_get state.functions.items j ≡ Some function → ReplacesBy (number_at at.o.source.names.now state.name == 0) (tables whole) script at.o.source.names.now function
  replaced script at state i j function s f =
      let is = at.is_object.object in
      let home = is.home in
      let numbers : home.source.now.names.now ≡ at.o.source.names.now = ap (λ (file : SetFile). file.names.now) is.source in
      let states : home.object.now.states.items ≡ at.o.object.states.items = ap (λ (object : PexObject). object.states.items) is.object in
      let each = item_from_all (EachReplaces home) home.object.now.states.items i state is.loaded.replaces (ap (λ (l : List PexState). slice_get l i) states ∙ s) in
      let one = item_from_all (Replaces home state.name) state.functions.items j function each.replaces f in
      let here = by_home (number_at home.source.now.names.now state.name == 0) home function one in
      subst (λ (n : List ℕ). ReplacesBy (number_at n state.name == 0) (tables whole) script n function) numbers
      (subst (λ (k : ℕ). ReplacesBy (number_at home.source.now.names.now state.name == 0) (tables whole) k home.source.now.names.now function) is.number
      (subst (λ (t : SetHeads). ReplacesBy (number_at home.source.now.names.now state.name == 0) t home.here home.source.now.names.now function) is.set here))

  within_views : (script i : ℕ) (view : StateView) → slice_get (view_of (views whole) script) i ≡ Some view → script < length (objects whole)
  within_views script i view e =
      ⊎_elim
      (λ (within : script < length (objects whole)). within)
      (λ (past : length (objects whole) ≤ script).
      absurd (none-some view (ap (λ (l : List StateView). slice_get l i) (sym (views_past (members whole) (objects whole) (heads whole) script past)) ∙ e)))
      (cases_lt script (length (objects whole)))

  -- a script that lacks members has no parent
  lacks_no_parent : (script parent : ℕ) (at : IsScriptAt whole script) (j : ℕ) (declared : Declared)
      → slice_get (lacking_declared (members whole) at.head.lacking.items) j ≡ Some declared → parent_in (slice_get (outline_of set) script) ≡ Some parent → ⊥
  lacks_no_parent script parent at j declared e above =
      ⊎_elim
      (λ (none : at.head.lacking.items ≡ []).
      none-some declared (ap (λ (l : List ℕ). slice_get (lacking_declared (members whole) l) j) (sym none) ∙ e))
      (λ (root : number_at at.o.source.names.now at.o.object.parent ≡ empty_name).
      none-some parent (sym (at.has_no_parent root) ∙ sym (outline_parent whole script) ∙ above))
      at.is_head.lacks

  parent_by_table : (script parent : ℕ) (at : IsScriptAt whole script) → parent_in (slice_get (outline_of set) script) ≡ Some parent → parent_of (tables whole) script ≡ Some parent
  parent_by_table script parent at above =
      ap (option_and_then (λ (head : ScriptHead). head.parent)) at.head_stands ∙ at.is_head.parent ∙ sym (outline_parent whole script) ∙ above

  abbrev found : ℕ → ℕ → Option Signature
  found script name = option_and_then (function_at (tables whole)) (found_in (tables whole).table.methods (empty_name, name) (rank_of (tables whole) script))

  -- a function of a state of the object
  module _ (script : ℕ) (at : IsScriptAt whole script) (state : PexState) (i : ℕ) (stands : slice_get at.o.object.states.items i ≡ Some state) (declared : Declared) (d : IsDeclared at.o.source.names.now state declared) where
    abbrev numbers : List ℕ
    numbers = at.o.source.names.now

    name_is : number_at numbers d.function.0 ≡ declared.name
    name_is = ap (λ (x : Declared). x.name) d.is

    in_empty_state : number_at numbers state.name ≡ 0 → (parent : ℕ) (above : Signature) → parent_in (slice_get (outline_of set) script) ≡ Some parent
        → found parent declared.name ≡ Some above → AreAlike declared (declared_of above)
    in_empty_state unnamed parent above p e =
        let overrides = subst (λ (b : Bool). ReplacesBy b (tables whole) script numbers d.function) (eq-eqb (number_at numbers state.name) 0 unnamed) (replaced script at state i d.number d.function stands d.stands) in
        alike_from numbers d.function above declared d.is (overrides parent above (parent_by_table script parent at p) (ap (found parent) name_is ∙ e))

    in_named_state : number_at numbers state.name ≢ 0 → (declared.bits ≡ 0) × ((here : Signature) × (found script declared.name ≡ Some here) × AreAlike declared (declared_of here))
    in_named_state other =
        let varies = subst (λ (b : Bool). ReplacesBy b (tables whole) script numbers d.function) (ne_eqb (number_at numbers state.name) 0 other) (replaced script at state i d.number d.function stands d.stands) in
        (ap (λ (x : Declared). x.bits) (sym d.is) ∙ varies.3, (varies.0, ap (found script) (sym name_is) ∙ varies.1, alike_from numbers d.function varies.0 declared d.is varies.2))

  view_at : (script i : ℕ) (view : StateView) (at : IsScriptAt whole script) → slice_get (view_of (views whole) script) i ≡ Some view
      → IsOfState (members whole) at.o.source.names.now at.head.lacking.items at.o.object.states.items view ⊎ IsAdded (lacking_declared (members whole) at.head.lacking.items) view
  view_at script i view at v =
      view_cases (members whole) at.o at.head.lacking.items i view (ap (λ (l : List StateView). slice_get l i) (sym at.views_are) ∙ v)

  above_empty : (script parent i j : ℕ) (view : StateView) (declared : Declared) (above : Signature) → slice_get (view_of (views whole) script) i ≡ Some view → view.name ≡ 0
      → slice_get view.functions j ≡ Some declared → parent_in (slice_get (outline_of set) script) ≡ Some parent → found parent declared.name ≡ Some above
      → AreAlike declared (declared_of above)
  above_empty script parent i j view declared above v unnamed f p e =
      let at = script_at whole script (within_views script i view v) in
      let numbers = at.o.source.names.now in
      ⊎_elim
      (λ (w : IsOfState (members whole) numbers at.head.lacking.items at.o.object.states.items view).
      ⊎_elim
      (λ (d : IsDeclared numbers w.state declared).
      in_empty_state script at w.state w.number w.stands declared d (ap (λ (x : StateView). x.name) w.is ∙ unnamed) parent above p e)
      (λ (last : ((number_at numbers w.state.name == 0) ≡ true) × ((k : ℕ) × (slice_get (lacking_declared (members whole) at.head.lacking.items) k ≡ Some declared))).
      absurd (lacks_no_parent script parent at last.1.0 declared last.1.1 p))
      (function_cases (members whole) numbers at.head.lacking.items w.state j declared (ap (λ (x : StateView). slice_get x.functions j) w.is ∙ f)))
      (λ (w : IsAdded (lacking_declared (members whole) at.head.lacking.items) view).
      absurd (lacks_no_parent script parent at j declared (ap (λ (l : List Declared). slice_get l j) (sym w.functions) ∙ f) p))
      (view_at script i view at v)

  above_named : (script i j : ℕ) (view : StateView) (declared : Declared) → slice_get (view_of (views whole) script) i ≡ Some view → view.name ≢ 0
      → slice_get view.functions j ≡ Some declared → (declared.bits ≡ 0) × ((here : Signature) × (found script declared.name ≡ Some here) × AreAlike declared (declared_of here))
  above_named script i j view declared v other f =
      let at = script_at whole script (within_views script i view v) in
      let numbers = at.o.source.names.now in
      ⊎_elim
      (λ (w : IsOfState (members whole) numbers at.head.lacking.items at.o.object.states.items view).
      let named : number_at numbers w.state.name ≢ 0 = λ e. other (ap (λ (x : StateView). x.name) (sym w.is) ∙ e) in
      ⊎_elim
      (λ (d : IsDeclared numbers w.state declared). in_named_state script at w.state w.number w.stands declared d named)
      (λ (last : ((number_at numbers w.state.name == 0) ≡ true) × ((k : ℕ) × (slice_get (lacking_declared (members whole) at.head.lacking.items) k ≡ Some declared))).
      absurd (named (eqb-true (number_at numbers w.state.name) 0 last.0)))
      (function_cases (members whole) numbers at.head.lacking.items w.state j declared (ap (λ (x : StateView). slice_get x.functions j) w.is ∙ f)))
      (λ (w : IsAdded (lacking_declared (members whole) at.head.lacking.items) view). absurd (other w.name))
      (view_at script i view at v)

  pub keeps_above : KeepsAbove (outline_of set) (views whole) (λ script name. option_and_then (function_at (tables whole)) (found_in (tables whole).table.methods (empty_name, name) (rank_of (tables whole) script)))
  keeps_above = record { empty_states = above_empty; other_states = above_named }

  above_within : (script parent : ℕ) → parent_in (slice_get (outline_of set) script) ≡ Some parent → parent < length (parents whole)
  above_within script parent e =
      let both = parent_within whole script parent (sym (outline_parent whole script) ∙ e) in
      let less = both.1 in
      omega (arith, parents_count whole)

  views_within : (script i : ℕ) (view : StateView) → slice_get (view_of (views whole) script) i ≡ Some view → script < length (parents whole)
  views_within script i view e =
      let less = within_views script i view e in
      omega (arith, parents_count whole)

  pub replaces_whole : AreReplacing (outline_of set) (views whole)
  replaces_whole =
      views_replace (tables whole).types whole.judged.names (outline_of set) (scripts_of set) (parents whole) (outline_count whole ∙ sym (parents_count whole)) (outline_parent whole)
      (collected_members whole).methods (λ script name. found_in (tables whole).table.methods (empty_name, name) (rank_of (tables whole) script)) (methods_found whole)
      (views whole) (function_at (tables whole)) (views_viewed whole) (views_outlined whole) (methods_collected whole) (have_signatures whole) above_within views_within keeps_above

  pub functions_are_offered : (script number : ℕ) (name : List ℕ) (signature : Signature) → script < vec_len (tables whole).heads → number_in whole.judged.names name ≡ Some number
      → function_found (tables whole) script number ≡ Some signature → IsOffered (tables whole).types (outline_of set) (scripts_of set) script name signature
  functions_are_offered script number name signature within named e =
      let less : script < length (parents whole) = omega (arith, within, heads_count whole, parents_count whole) in
      functions_agree (tables whole).types whole.judged.names (outline_of set) (scripts_of set) (parents whole) (outline_count whole ∙ sym (parents_count whole)) (outline_parent whole)
      (collected_members whole).methods (λ script name. found_in (tables whole).table.methods (empty_name, name) (rank_of (tables whole) script)) (methods_found whole)
      (views whole) (function_at (tables whole)) (views_viewed whole) (views_outlined whole) (methods_collected whole) (have_signatures whole) above_within views_within keeps_above script number name signature less named e
