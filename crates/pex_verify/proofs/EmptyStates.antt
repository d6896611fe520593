-- The first empty state of a script, by numbers and by texts.
use Rattle.std.proofs.Common.{◌≡◌, ℕ, zero, suc, ◌+◌, ◌==◌, not, cond, ◌||◌, Bool, true, false, List, [], ◌∷◌, ◌++◌, length, Option, None, Some, map}
use Rattle.std.proofs.Common.{refl, sym, ap, subst, ◌∙◌, arith}
use Rattle.std.specs.Prelude.{slice_get, if◌then◌else◌, option_to_list}
use Rattle.std.specs.List.{AllZip, flat_map, list_any, position_or_len}
use Rattle.std.specs.Option.{option_map}
use Rattle.std.specs.Str.{str_eq_ignore_ascii_case}
use Rattle.std.specs.declared.alloc.Global.{Global}
use Rattle.std.specs.declared.vec.Vec.{Vec}
use Rattle.std.proofs.lemmas.Bool.Decides.{nat_tests}
use Rattle.std.proofs.lemmas.Grind.{flat_map-append}
use Rattle.std.proofs.lemmas.List.Folds.{flat_map-map}
use Rattle.std.proofs.lemmas.Option.{none-some, same_Some, slice_get-map}
use Rattle.core_tree.specs.Outlines.{ScriptShape}
use Rattle.papy_base.specs.declared.name.Name.{Name}
use Rattle.pex_set.specs.Names.{number_in}
use Rattle.pex_values.specs.declared.values.PexState.{PexState}
use Rattle.code_meaning.specs.LookUp.{numbered, one_on}
use Rattle.pex_verify.specs.declared.judged.JudgedFunction.{JudgedFunction}
use Rattle.pex_verify.specs.Heads.{Members, functions_of_state}
use Rattle.pex_verify.specs.Meanings.{Meanings}
use Rattle.pex_verify.specs.Outlining.{functions_without_state}
use Rattle.pex_verify.specs.JudgedCode.{function_of}
use Rattle.pex_verify.specs.Signatures.{Declared, declared_by, number_at}
use Rattle.pex_verify.proofs.Context.{lacking_declared, state_view, added_view}
use Rattle.pex_verify.proofs.LookUps.{same_test}
use Rattle.pex_verify.proofs.Views.{StateView, Declares, IsViewed, OwnFound, own_at, own_of_state, own_found}
use Rattle.pex_verify.proofs.Sought.{numbered_is}
use Rattle.pex_verify.proofs.Written.{plain_state}

-- ---- the first that passes a test
one_on_some : {X : Type 0} (o : Option (ℕ × X)) (i : ℕ) (x : X) → one_on o ≡ Some (i, x) → (j : ℕ) × (o ≡ Some (j, x))
one_on_some None i x e = absurd (none-some (i, x) e)
one_on_some {X} (Some (k, y)) i x e =
    let same = same_Some {A = ℕ × X} (suc k, y) (i, x) e in
    (k, ap (λ (z : X). Some (k, z)) (ap (λ p. p.1) same))

-- a view without name
abbrev pub is_empty : StateView → Bool
is_empty view = view.name == 0

-- the first empty state has what is found in it, at its place
pub record IsInFirst (views : List StateView) (own : OwnFound) : Type 0 where
  pub number : ℕ
  pub view : StateView
  pub first : numbered is_empty views ≡ Some (number, view)
  pub stands : slice_get view.functions own.number ≡ Some own.declared

in_first_at : (views : List StateView) (name i : ℕ) (view : StateView) (own : OwnFound) (o : Option (ℕ × Declared))
    → numbered is_empty views ≡ Some (i, view) → numbered (λ declared. declared.name == name) view.functions ≡ o → own_at i o ≡ Some own → IsInFirst views own
in_first_at views name i view own None f e h = absurd (none-some own h)
in_first_at views name i view own (Some (k, declared)) f e h =
    let r = numbered_is (λ (d : Declared). d.name == name) view.functions (k, declared) e in
    subst (IsInFirst views) (same_Some _ own h) (record { number = i; view = view; first = f; stands = r.stands })

in_first_by : (views : List StateView) (name : ℕ) (own : OwnFound) (o : Option (ℕ × StateView)) → numbered is_empty views ≡ o → own_of_state name o ≡ Some own → IsInFirst views own
in_first_by views name own None e h = absurd (none-some own h)
in_first_by views name own (Some (i, view)) e h =
    in_first_at views name i view own (numbered (λ declared. declared.name == name) view.functions) e refl h

pub in_first : (views : List StateView) (name : ℕ) (own : OwnFound) → own_found views 0 name ≡ Some own → IsInFirst views own
in_first views name own h = in_first_by views name own (numbered is_empty views) refl h

-- ---- by texts
pub no_bytes_test : (name : List ℕ) → str_eq_ignore_ascii_case name [] ≡ (length name == 0)
no_bytes_test [] = refl
no_bytes_test (byte ∷ name) = grind (arith, nat_tests)

pub zip_at : {X Y : Type 0} (R : X → Y → Type 0) (xs : List X) (ys : List Y) (k : ℕ) (x : X) → AllZip R xs ys → slice_get xs k ≡ Some x → (y : Y) × (slice_get ys k ≡ Some y) × R x y
zip_at R [] ys k x h e = absurd (none-some x e)
zip_at R (a ∷ xs) [] k x h e = absurd h
zip_at R (a ∷ xs) (b ∷ ys) zero x h e = (b, refl, subst (λ z. R z b) (same_Some a x e) h.0)
zip_at R (a ∷ xs) (b ∷ ys) (suc k) x h e = zip_at R xs ys k x h.1 e

map_some : {X Y : Type 0} (f : X → Y) (o : Option X) (y : Y) → option_map f o ≡ Some y → (x : X) × (o ≡ Some x) × (f x ≡ y)
map_some f None y e = absurd (none-some y e)
map_some f (Some x) y e = (x, refl, same_Some (f x) y e)

module _ (types : Meanings) (names : List (List ℕ)) (outline : List ScriptShape) (empty : number_in names [] ≡ Some 0) where
  abbrev AreDeclared : List Declared → List JudgedFunction → Type 0
  AreDeclared declared loaded = AllZip (Declares types names) declared (map (function_of outline) loaded)

  first_by : (v : StateView) (views : List StateView) (state : Name × Vec JudgedFunction Global) (states : List (Name × Vec JudgedFunction Global)) (i : ℕ) (view : StateView) (b : Bool)
      → IsViewed types names v (plain_state outline state)
      → ((j : ℕ) → numbered is_empty views ≡ Some (j, view) → AreDeclared view.functions (functions_without_state states))
      → (if b then Some (0, v) else one_on (numbered is_empty views)) ≡ Some (i, view)
      → AreDeclared view.functions (if b then state.1.items else functions_without_state states)
  first_by v views state states i view true h rec e =
      subst (λ (w : StateView). AreDeclared w.functions state.1.items) (ap (λ (p : ℕ × StateView). p.1) (same_Some {A = ℕ × StateView} (0, v) (i, view) e)) h.functions
  first_by v views state states i view false h rec e =
      let o = one_on_some (numbered is_empty views) i view e in rec o.0 o.1

  -- the functions of the first empty state are those of the first state whose name has no bytes
  pub first_declared : (views : List StateView) (states : List (Name × Vec JudgedFunction Global)) (i : ℕ) (view : StateView)
      → AllZip (IsViewed types names) views (map (plain_state outline) states) → numbered is_empty views ≡ Some (i, view) → AreDeclared view.functions (functions_without_state states)
  first_declared [] states i view h e = absurd (none-some (i, view) e)
  first_declared (v ∷ views) [] i view h e = absurd h
  first_declared (v ∷ views) (state ∷ states) i view h e =
      let same : (length state.0 == 0) ≡ (v.name == 0) = sym (no_bytes_test state.0) ∙ same_test names state.0 [] v.name 0 h.0.name empty in
      rw same (first_by v views state states i view (v.name == 0) h.0 (λ j. first_declared views states j view h.1) e)

  -- what is found in the first empty state is what was loaded at its place
  pub record IsLoadedAt (states : List (Name × Vec JudgedFunction Global)) (own : OwnFound) : Type 0 where
    pub loaded : JudgedFunction
    pub stands : slice_get (functions_without_state states) own.number ≡ Some loaded
    pub declares : Declares types names own.declared (function_of outline loaded)

  pub loaded_at : (views : List StateView) (states : List (Name × Vec JudgedFunction Global)) (own : OwnFound)
      → AllZip (IsViewed types names) views (map (plain_state outline) states) → IsInFirst views own → IsLoadedAt states own
  loaded_at views states own h f =
      let functions = functions_without_state states in
      let z = zip_at (Declares types names) f.view.functions (map (function_of outline) functions) own.number own.declared (first_declared views states f.number f.view h f.first) f.stands in
      let m = map_some (function_of outline) (slice_get functions own.number) z.0 (sym (slice_get-map (function_of outline) functions own.number) ∙ z.1) in
      record { loaded = m.0; stands = m.1; declares = subst (Declares types names own.declared) (sym m.2) z.2 }

-- ---- by numbers
-- lists of what is there
abbrev there : {X : Type 0} → List (Option X) → List X
there xs = flat_map option_to_list xs

there_some : {X : Type 0} (xs : List X) → there (map Some xs) ≡ xs
there_some [] = refl
there_some (x ∷ xs) = ap (λ l. x ∷ l) (there_some xs)

-- where all are there, the last ones too
pub same_there : {X : Type 0} (xs own : List X) (f : ℕ → Option X) (places : List ℕ)
    → map Some xs ≡ map Some own ++ map f places → xs ≡ own ++ flat_map (λ place. option_to_list (f place)) places
same_there {X} xs own f places e =
    sym (there_some xs)
    ∙ ap there e
    ∙ flat_map-append option_to_list (map Some own) (map f places)
    ∙ ap (λ (l : List X). l ++ there (map f places)) (there_some own)
    ∙ ap (λ (l : List X). own ++ l) (flat_map-map option_to_list f places)

module _ (members : Members) (numbers lacking : List ℕ) where
  abbrev is_without_name : PexState → Bool
  is_without_name state = number_at numbers state.name == 0

  abbrev lacked : List Declared
  lacked = lacking_declared members lacking

  -- where one of them, or another, is empty
  abbrev views_where : Bool → List PexState → List StateView
  views_where b states = map (state_view members numbers lacking) states ++ (if b then [] else added_view lacked)

  abbrev views_by : List PexState → List StateView
  views_by states = views_where (list_any is_without_name states) states

  abbrev view_where : Bool → PexState → StateView
  view_where b state = record {
    name = number_at numbers state.name;
    functions = map (declared_by numbers) state.functions.items ++ (if b then lacked else []);
  }

  -- the functions of a state, and behind them the members that the script lacks
  abbrev all_functions : Option PexState → List Declared
  all_functions state = map (declared_by numbers) (functions_of_state state) ++ lacked

  added_functions : (declared : List Declared) (i : ℕ) (view : StateView) → numbered is_empty (added_view declared) ≡ Some (i, view) → view.functions ≡ declared
  added_functions [] i view e = absurd (none-some (i, view) e)
  added_functions (first ∷ rest) i view e =
      sym (ap (λ (p : ℕ × StateView). p.1.functions) (same_Some {A = ℕ × StateView} (0, record { name = 0; functions = first ∷ rest }) (i, view) e))

  functions_by : (state : PexState) (states : List PexState) (i : ℕ) (view : StateView) (b : Bool)
      → ((j : ℕ) → numbered is_empty (views_by states) ≡ Some (j, view) → view.functions ≡ all_functions (slice_get states (position_or_len is_without_name states)))
      → (if b then Some (0, view_where b state) else one_on (numbered is_empty (views_where (b || list_any is_without_name states) states))) ≡ Some (i, view)
      → view.functions ≡ all_functions (slice_get (state ∷ states) (cond (not b) (1 + position_or_len is_without_name states) 0))
  functions_by state states i view true rec e =
      sym (ap (λ (p : ℕ × StateView). p.1.functions) (same_Some {A = ℕ × StateView} (0, view_where true state) (i, view) e))
  functions_by state states i view false rec e =
      let o = one_on_some (numbered is_empty (views_by states)) i view e in
      let next : suc (position_or_len is_without_name states) ≡ 1 + position_or_len is_without_name states = omega arith in
      rec o.0 o.1 ∙ ap (λ k. all_functions (slice_get (state ∷ states) k)) next

  -- those of an object's first empty state
  pub first_functions : (states : List PexState) (i : ℕ) (view : StateView)
      → numbered is_empty (views_by states) ≡ Some (i, view) → view.functions ≡ all_functions (slice_get states (position_or_len is_without_name states))
  first_functions [] i view e = added_functions lacked i view e
  first_functions (state ∷ states) i view e =
      functions_by state states i view (number_at numbers state.name == 0) (λ j. first_functions states j view) e
