-- The states of a script by numbers are those that are loaded.
use Rattle.std.proofs.Common.{◌≡◌, ℕ, ◌==◌, Bool, true, false, not, List, [], ◌∷◌, ◌++◌, Option, None, Some, map, refl, sym, ap, subst, ◌∙◌}
use Rattle.std.specs.Prelude.{bit_and, slice_get, if◌then◌else◌, option_to_list}
use Rattle.std.specs.List.{AllZip, flat_map, list_any}
use Rattle.std.specs.Option.{option_map}
use Rattle.std.specs.declared.alloc.Global.{Global}
use Rattle.std.specs.declared.vec.Vec.{Vec}
use Rattle.std.proofs.lemmas.Nat.{and_assoc}
use Rattle.std.proofs.lemmas.Simd.{map-map}
use Rattle.core_tree.specs.Outlines.{ScriptShape}
use Rattle.papy_base.specs.declared.name.Name.{Name}
use Rattle.pex_set.specs.Names.{number_in}
use Rattle.pex_values.specs.declared.values.PexFunction.{PexFunction}
use Rattle.pex_values.specs.declared.values.PexState.{PexState}
use Rattle.code_meaning.specs.Code.{State}
use Rattle.pex_verify.specs.declared.judged.JudgedFunction.{JudgedFunction}
use Rattle.pex_verify.specs.declared.scope.Home.{Home}
use Rattle.pex_verify.specs.declared.value_type.ValueType.TheVariants.{Of}
use Rattle.pex_verify.specs.Heads.{Members, members_of, member_at}
use Rattle.pex_verify.specs.Loading.{placed_at}
use Rattle.pex_verify.specs.Matching.{Written, IsWritten}
use Rattle.pex_verify.specs.Meanings.{value_meaning}
use Rattle.pex_verify.specs.JudgedCode.{function_of}
use Rattle.pex_verify.specs.Signatures.{Declared, declared_by, number_at, title_at, kind_at, has_bit}
use Rattle.pex_verify.specs.Sites.{Site}
use Rattle.pex_verify.specs.States.{own_written, member_written, member_in, lacking_places, lacking_written}
use Rattle.pex_verify.specs.States.{WrittenState, is_empty_state, state_written, added_state, states_written, IsState, AreStates}
use Rattle.pex_verify.proofs.Agreeing.{zip_from_paired}
use Rattle.pex_verify.proofs.Context.{lacking_declared, state_view, added_view, views_of_object}
use Rattle.pex_verify.proofs.Views.{StateView, Declares, IsViewed}

-- ---- lists side by side
pub zip-append : {X Y : Type 0} (R : X → Y → Type 0) (xs more : List X) (ys rest : List Y) → AllZip R xs ys → AllZip R more rest → AllZip R (xs ++ more) (ys ++ rest)
zip-append R [] more [] rest h k = k
zip-append R [] more (y ∷ ys) rest h k = absurd h
zip-append R (x ∷ xs) more [] rest h k = absurd h
zip-append R (x ∷ xs) more (y ∷ ys) rest h k = (h.0, zip-append R xs more ys rest h.1 k)

pub zip-maps : {A X Y : Type 0} (R : X → Y → Type 0) (f : A → X) (g : A → Y) → ((a : A) → R (f a) (g a)) → (items : List A) → AllZip R (map f items) (map g items)
zip-maps R f g each [] = tt
zip-maps R f g each (a ∷ items) = (each a, zip-maps R f g each items)

pub zip-joined : {X Y Z W : Type 0} (R : X → Y → Type 0) (S : Y → Z → Type 0) (T : X → W → Type 0) (f : Z → W)
    → ((x : X) (y : Y) (z : Z) → R x y → S y z → T x (f z))
    → (xs : List X) (ys : List Y) (zs : List Z) → AllZip R xs ys → AllZip S ys zs → AllZip T xs (map f zs)
zip-joined R S T f join [] [] [] h k = tt
zip-joined R S T f join [] [] (z ∷ zs) h k = absurd k
zip-joined R S T f join [] (y ∷ ys) zs h k = absurd h
zip-joined R S T f join (x ∷ xs) [] zs h k = absurd h
zip-joined R S T f join (x ∷ xs) (y ∷ ys) [] h k = absurd k
zip-joined R S T f join (x ∷ xs) (y ∷ ys) (z ∷ zs) h k =
    (join x y z h.0 k.0, zip-joined R S T f join xs ys zs h.1 k.1)

zip-then : {X Y : Type 0} (R : X → Y → Type 0) (b : Bool) (xs : List X) (ys : List Y) → AllZip R xs ys → AllZip R (if b then xs else []) (if b then ys else [])
zip-then R true xs ys h = h
zip-then R false xs ys h = tt

zip-else : {X Y : Type 0} (R : X → Y → Type 0) (b : Bool) (xs : List X) (ys : List Y) → AllZip R xs ys → AllZip R (if b then [] else xs) (if b then [] else ys)
zip-else R true xs ys h = tt
zip-else R false xs ys h = h

-- ---- functions
-- bits 1 and 2 are among the two that are declared
declared_bit : (bits bit : ℕ) → bit_and 3 bit ≡ bit → has_bit bits bit ≡ has_bit (bit_and bits 3) bit
declared_bit bits bit e = ap (λ n. not (n == 0)) (sym (and_assoc bit bits 3 ∙ ap (bit_and bits) e))

-- a function of a file, by the number of its name
pub record IsNumberedAs (names : List (List ℕ)) (declared : Declared) (written : Written) : Type 0 where
  pub name : number_in names (title_at written.titles written.name) ≡ Some (number_at written.numbers written.name)
  pub is : declared_by written.numbers (written.name, written.function) ≡ declared

module _ (names : List (List ℕ)) (outline : List ScriptShape) (site : Site) where
  declares : (declared : Declared) (written : Written) (loaded : JudgedFunction)
      → IsNumberedAs names declared written → IsWritten site written loaded → Declares site.set.types names declared (function_of outline loaded)
  declares declared written loaded h k =
      subst (λ d. Declares site.set.types names d (function_of outline loaded)) h.is
      (record {
        name = ap (number_in names) k.name ∙ h.name;
        parameters = map-map (λ kind. Of kind) (λ (p : _). p.1) loaded.parameters.items
            ∙ k.parameters
            ∙ sym (map-map (value_meaning site.set.types) (kind_at written.numbers) written.function.parameters.items);
        result = k.result;
        is_global = k.is_global ∙ declared_bit written.function.bits 1 refl;
        is_native = k.is_native ∙ declared_bit written.function.bits 2 refl;
      })

-- ---- states
pub record IsViewOf (names : List (List ℕ)) (view : StateView) (written : WrittenState) : Type 0 where
  pub name : number_in names written.name ≡ Some view.name
  pub functions : AllZip (IsNumberedAs names) view.functions written.functions

-- a state as code has it
abbrev pub plain_state : List ScriptShape → Name × Vec JudgedFunction Global → State
plain_state outline state = record { name = state.0; functions = map (function_of outline) state.1.items }

module _ (names : List (List ℕ)) (outline : List ScriptShape) (site : Site) where
  viewed_state : (view : StateView) (written : WrittenState) (loaded : Name × Vec JudgedFunction Global)
      → IsViewOf names view written → IsState site written loaded → IsViewed site.set.types names view (plain_state outline loaded)
  viewed_state view written loaded h k = record {
    name = ap (number_in names) k.name ∙ h.name;
    functions = zip-joined (IsNumberedAs names) (IsWritten site) (Declares site.set.types names) (function_of outline) (declares names outline site) view.functions written.functions loaded.1.items h.functions
        (zip_from_paired (IsWritten site) written.functions loaded.1.items k.functions);
  }

  pub viewed_states : (views : List StateView) (written : List WrittenState) (loaded : List (Name × Vec JudgedFunction Global))
      → AllZip (IsViewOf names) views written → AreStates site written loaded → AllZip (IsViewed site.set.types names) views (map (plain_state outline) loaded)
  viewed_states views written loaded h k =
      zip-joined (IsViewOf names) (IsState site) (IsViewed site.set.types names) (plain_state outline) viewed_state views written loaded h (zip_from_paired (IsState site) written loaded k)

-- ---- the states of an object
abbrev pub AreTitled : List (List ℕ) → List (List ℕ) → List ℕ → Type 0
AreTitled names titles numbers =
    (reference : ℕ) → number_in names (title_at titles reference) ≡ Some (number_at numbers reference)

-- where these places of members are lacking
abbrev pub views_with : Home → List ℕ → List StateView
views_with home lacking = views_of_object (members_of home.members.now) (placed_at home) lacking

module _ (names : List (List ℕ)) (home : Home) (empty : number_in names [] ≡ Some 0) where
  abbrev own_numbers : List ℕ
  own_numbers = home.source.now.names.now

  abbrev member_numbers : List ℕ
  member_numbers = home.members.now.source.now.names.now

  abbrev given : Members
  given = members_of home.members.now

  abbrev lacking : List Declared
  lacking = lacking_declared given (lacking_places home)

  abbrev state_viewed : PexState → StateView
  state_viewed state = state_view given own_numbers (lacking_places home) state

  added_named : (declared : List Declared) (written : List Written) → AllZip (IsNumberedAs names) declared written → AllZip (IsViewOf names) (added_view declared) (added_state written)
  added_named [] [] h = tt
  added_named [] (w ∷ written) h = absurd h
  added_named (d ∷ declared) [] h = absurd h
  added_named (d ∷ declared) (w ∷ written) h = (record { name = empty; functions = h }, tt)

  module _ (own : AreTitled names home.source.now.titles.now own_numbers) (of_members : AreTitled names home.members.now.source.now.titles.now member_numbers) where
    member_named : (o : Option (ℕ × PexFunction)) → AllZip (IsNumberedAs names) (option_to_list (option_map (declared_by member_numbers) o)) (member_written home o)
    member_named None = tt
    member_named (Some member) = (record { name = of_members member.0; is = refl }, tt)

    lacking_named : (places : List ℕ) → AllZip (IsNumberedAs names) (lacking_declared given places) (flat_map (member_in home) places)
    lacking_named [] = tt
    lacking_named (place ∷ places) =
        zip-append (IsNumberedAs names) (option_to_list (member_at given place)) (lacking_declared given places) (member_in home place) (flat_map (member_in home) places)
        (member_named (slice_get home.members.now.list.now place))
        (lacking_named places)

    functions_named : (functions : List (ℕ × PexFunction)) → AllZip (IsNumberedAs names) (map (declared_by own_numbers) functions) (map (own_written home) functions)
    functions_named functions =
        zip-maps (IsNumberedAs names) (declared_by own_numbers) (own_written home) (λ (f : ℕ × PexFunction). record { name = own f.0; is = refl }) functions

    state_named : (state : PexState) → IsViewOf names (state_viewed state) (state_written home state)
    state_named state = record {
      name = own state.name;
      functions =
          let b = is_empty_state home state in
          let functions = state.functions.items in
          zip-append (IsNumberedAs names) (map (declared_by own_numbers) functions) (if b then lacking else []) (map (own_written home) functions) (if b then lacking_written home else [])
          (functions_named functions)
          (zip-then (IsNumberedAs names) b lacking (lacking_written home) (lacking_named (lacking_places home)));
    }

    -- the views of the states of an object are those of the states that are to be loaded for it
    pub home_viewed : AllZip (IsViewOf names) (views_with home (lacking_places home)) (states_written home home.object.now.states.items)
    home_viewed =
        let states = home.object.now.states.items in
        let b = list_any (is_empty_state home) states in
        zip-append (IsViewOf names) (map state_viewed states) (if b then [] else added_view lacking) (map (state_written home) states) (if b then [] else added_state (lacking_written home))
        (zip-maps (IsViewOf names) state_viewed (state_written home) state_named states)
        (zip-else (IsViewOf names) b (added_view lacking) (added_state (lacking_written home)) (added_named lacking (lacking_written home) (lacking_named (lacking_places home))))
