-- The members of one script are what its states have.
use Rattle.std.proofs.Common.{◌≡◌, ℕ, suc, ◌+◌, ◌==◌, Bool, true, false, List, [], ◌∷◌, ◌++◌, Option, None, Some, map, find, refl, sym, ap, subst, ◌∙◌, inl, inr, ⊎_elim, arith, one-add}
use Rattle.std.specs.Prelude.{slice_get, if◌then◌else◌, ◌&&◌}
use Rattle.std.specs.List.{AllByRecursion, list_any}
use Rattle.std.specs.Option.{option_map, option_or}
use Rattle.std.proofs.lemmas.Bool.{eqb-true, eqb-false, eq-eqb, ne_eqb, cases_eq}
use Rattle.std.proofs.lemmas.List.{append-nil}
use Rattle.std.proofs.lemmas.List.Folds.{find-append}
use Rattle.code_meaning.specs.LookUp.{numbered, one_on}
use Rattle.pex_set.specs.Names.{empty_name}
use Rattle.pex_set.specs.Nearest.{is_own, own_member}
use Rattle.pex_set.specs.declared.inherited.MemberPlace.{MemberPlace}
use Rattle.pex_set.specs.declared.inherited.OwnMember.{OwnMember}
use Rattle.papy_base.proofs.Lists.{In, Differ}
use Rattle.pex_values.specs.declared.values.PexFunction.{PexFunction}
use Rattle.pex_values.specs.declared.values.PexState.{PexState}
use Rattle.pex_verify.specs.declared.scripts.PropertySignature.{PropertySignature}
use Rattle.pex_verify.specs.declared.scripts.ScriptHead.{ScriptHead}
use Rattle.pex_verify.specs.declared.scripts.Signature.{Signature}
use Rattle.pex_verify.specs.Heads.{Placed, Members, member_at, empty_state_of, empty_functions, functions_of_state, IsHeadOf}
use Rattle.pex_verify.specs.Members.{Owner, member_of, with_places, functions_of, methods_in, methods_of_state, methods_of_states}
use Rattle.pex_verify.specs.Signatures.{Declared, declared_of, declared_by, number_at}
use Rattle.pex_verify.proofs.Collecting.{at_place, numbered-map, find_places, all_places, own_test, IsOf, option_or-none, methods_of, properties_in}
use Rattle.pex_verify.proofs.Context.{lacking_declared, state_view, added_view, views_of_object}
use Rattle.pex_verify.proofs.Views.{StateView, OwnFound, own_at, own_of_state, own_found, own_property, place_of}

abbrev place : OwnMember → MemberPlace
place member = member.place

-- ---- whose members they are
all_append : {X : Type 0} (P : X → Type 0) (xs ys : List X) → AllByRecursion P xs → AllByRecursion P ys → AllByRecursion P (xs ++ ys)
all_append P [] ys h k = k
all_append P (x ∷ xs) ys h k = (h.0, all_append P xs ys h.1 k)

all_of_state : (owner : Owner) (numbers : List ℕ) (k : ℕ) (state : PexState) → AllByRecursion (IsOf owner) (methods_of_state owner numbers k state)
all_of_state owner numbers k state = by (number_at numbers state.name == 0)
  where
    by : (b : Bool) → AllByRecursion (IsOf owner) (if b then [] else methods_in owner numbers k (number_at numbers state.name) state.functions.items)
    by true = tt
    by false = all_places (IsOf owner) (λ p (function : ℕ × PexFunction). member_of owner k (number_at numbers state.name, number_at numbers function.0) p) (λ p x. (refl, refl)) 0
        state.functions.items

all_of_states : (owner : Owner) (numbers : List ℕ) (k : ℕ) (states : List PexState) → AllByRecursion (IsOf owner) (methods_of_states owner numbers k states)
all_of_states owner numbers k [] = tt
all_of_states owner numbers k (state ∷ states) =
    all_append (IsOf owner) (methods_of_state owner numbers k state) (methods_of_states owner numbers (suc k) states) (all_of_state owner numbers k state) (all_of_states owner numbers (suc k) states)

pub methods_are_own : (owner : Owner) (o : Placed) (head : ScriptHead) → AllByRecursion (IsOf owner) (methods_of owner o head)
methods_are_own owner o head =
    all_append (IsOf owner) (functions_of owner head.empty_state head.functions.items) (methods_of_states owner o.source.names.now 0 o.object.states.items)
    (all_places (IsOf owner) (λ p (function : Signature). member_of owner head.empty_state (empty_name, function.name) p) (λ p x. (refl, refl)) 0 head.functions.items)
    (all_of_states owner o.source.names.now 0 o.object.states.items)

pub properties_are_own : (owner : Owner) (o : Placed) (head : ScriptHead) → AllByRecursion (IsOf owner) (properties_in owner o head)
properties_are_own owner o head =
    all_places (IsOf owner) (λ p (property : PropertySignature). member_of owner 0 (empty_name, property.name) p) (λ p x. (refl, refl)) 0 head.properties.items

-- ---- properties
property_placed : (owner : Owner) (o : Option (ℕ × PropertySignature))
    → option_map place (option_map (λ (f : ℕ × PropertySignature). member_of owner 0 (empty_name, f.1.name) f.0) o)
    ≡ option_map (λ (own : ℕ × PropertySignature). record { object = owner.number; state = 0; place = own.0 }) o
property_placed owner None = refl
property_placed owner (Some found) = refl

pub own_properties : (owner : Owner) (o : Placed) (head : ScriptHead) (name : ℕ)
    → own_member (properties_in owner o head) owner.number (0, name)
    ≡ option_map (λ (own : ℕ × PropertySignature). record { object = owner.number; state = 0; place = own.0 }) (own_property head.properties.items name)
own_properties owner o head name =
    ap (option_map place)
    (find_places (λ p (property : PropertySignature). member_of owner 0 (empty_name, property.name) p) (is_own owner.number (0, name)) (λ property. property.name == name) (λ p property. own_test owner 0 (0, name) (empty_name, property.name) p) head.properties.items)
    ∙ property_placed owner (own_property head.properties.items name)

-- the numbers of the names of states
abbrev pub state_names : List ℕ → List PexState → List ℕ
state_names numbers states = map (λ (state : PexState). number_at numbers state.name) states

-- ---- the first empty state
module _ (members : Members) (numbers lacking : List ℕ) where
  abbrev later : OwnFound → OwnFound
  later own = record { state = suc own.state; number = own.number; declared = own.declared }

  own_of_state-later : (name : ℕ) (o : Option (ℕ × StateView)) → own_of_state name (one_on o) ≡ option_map later (own_of_state name o)
  own_of_state-later name None = refl
  own_of_state-later name (Some (k, view)) = by (numbered (λ declared. declared.name == name) view.functions)
    where
      by : (o : Option (ℕ × Declared)) → own_at (suc k) o ≡ option_map later (own_at k o)
      by None = refl
      by (Some found) = refl

  own_at-later : (k : ℕ) (o : Option (ℕ × Declared)) → own_at (suc k) o ≡ option_map later (own_at k o)
  own_at-later k None = refl
  own_at-later k (Some found) = refl

  abbrev all_views : List PexState → List StateView
  all_views states =
      map (state_view members numbers lacking) states ++
      (if list_any (λ (state : PexState). number_at numbers state.name == empty_name) states then [] else added_view (lacking_declared members lacking))

  -- what its functions are, and where it stands
  abbrev empty_declared : Option PexState → List Declared
  empty_declared state = map (declared_by numbers) (functions_of_state state) ++ lacking_declared members lacking

  added_found : (name : ℕ) (declared : List Declared) → own_found (added_view declared) 0 name ≡ own_at 0 (numbered (λ d. d.name == name) declared)
  added_found name [] = refl
  added_found name (first ∷ rest) = refl

  pub empty_found : (name : ℕ) (states : List PexState)
      → own_found (all_views states) 0 name ≡ own_at (empty_state_of numbers states) (numbered (λ d. d.name == name) (empty_declared (slice_get states (empty_state_of numbers states))))
  empty_found name [] = added_found name (lacking_declared members lacking)
  empty_found name (state ∷ states) = by (number_at numbers state.name == 0) refl (empty_found name states)
    where
      by : (b : Bool) → (number_at numbers state.name == 0) ≡ b
          → own_found (all_views states) 0 name ≡ own_at (empty_state_of numbers states) (numbered (λ d. d.name == name) (empty_declared (slice_get states (empty_state_of numbers states))))
          → own_found (all_views (state ∷ states)) 0 name
          ≡ own_at (empty_state_of numbers (state ∷ states)) (numbered (λ d. d.name == name) (empty_declared (slice_get (state ∷ states) (empty_state_of numbers (state ∷ states)))))
      by true e further = rw e refl
      by false e further =
          rw e (rw (one-add (empty_state_of numbers states)) (
          own_of_state-later name (numbered (λ (view : StateView). view.name == 0) (all_views states))
          ∙ ap (option_map later) further
          ∙ sym (own_at-later (empty_state_of numbers states) (numbered (λ (d : Declared). d.name == name) (empty_declared (slice_get states (empty_state_of numbers states)))))
          ))

  -- ---- states with a name
  none_made : (owner : Owner) (name state k n from : ℕ) (functions : List (ℕ × PexFunction)) → (name ≡ state → ⊥)
      → find (is_own owner.number (state, n)) (with_places (λ p (function : ℕ × PexFunction). member_of owner k (name, number_at numbers function.0) p) from functions) ≡ None
  none_made owner name state k n from [] other = refl
  none_made owner name state k n from (function ∷ functions) other =
      let fails = own_test owner k (state, n) (name, number_at numbers function.0) from ∙ ap (λ (b : Bool). b && number_at numbers function.0 == n) (ne_eqb name state other) in
      rw fails (none_made owner name state k n (suc from) functions other)

  none_of_state : (owner : Owner) (state k n : ℕ) (s : PexState) → (number_at numbers s.name ≡ state → state ≡ 0)
      → find (is_own owner.number (state, n)) (methods_of_state owner numbers k s) ≡ None
  none_of_state owner state k n s only = by (number_at numbers s.name == 0) refl
    where
      by : (b : Bool) → (number_at numbers s.name == 0) ≡ b
          → find (is_own owner.number (state, n)) (if b then [] else methods_in owner numbers k (number_at numbers s.name) s.functions.items) ≡ None
      by true e = refl
      by false e = none_made owner (number_at numbers s.name) state k n 0 s.functions.items (λ same. eqb-false (number_at numbers s.name) 0 e (same ∙ only same))

  -- no state has this name, or it is the empty one
  none_of_states : (owner : Owner) (state k n : ℕ) (states : List PexState) → (In state (state_names numbers states) → state ≡ 0)
      → find (is_own owner.number (state, n)) (methods_of_states owner numbers k states) ≡ None
  none_of_states owner state k n [] only = refl
  none_of_states owner state k n (s ∷ states) only =
      find-append (is_own owner.number (state, n)) (methods_of_state owner numbers k s) (methods_of_states owner numbers (suc k) states)
      ∙ ap (λ f. option_or f (find (is_own owner.number (state, n)) (methods_of_states owner numbers (suc k) states))) (none_of_state owner state k n s (λ same. only (inl (sym same))))
      ∙ none_of_states owner state (suc k) n states (λ stands. only (inr stands))

  abbrev place_from : Owner → ℕ → OwnFound → MemberPlace
  place_from owner k own = record { object = owner.number; state = own.state + k; place = own.number }

  place_from-later : (owner : Owner) (k : ℕ) (o : Option OwnFound) → option_map (place_from owner (suc k)) o ≡ option_map (place_from owner k) (option_map later o)
  place_from-later owner k None = refl
  place_from-later owner k (Some own) =
      let e : own.state + suc k ≡ suc own.state + k = omega arith in
      ap (λ (n : ℕ). Some (record { object = owner.number; state = n; place = own.number })) e

  made_in_state : (owner : Owner) (k name : ℕ) (o : Option (ℕ × (ℕ × PexFunction)))
      → option_map place (option_map (λ (f : ℕ × (ℕ × PexFunction)). member_of owner k (name, number_at numbers f.1.0) f.0) o)
      ≡ option_map (place_from owner k) (own_at 0 (option_map (at_place (declared_by numbers)) o))
  made_in_state owner k name None = refl
  made_in_state owner k name (Some f) =
      let e : k ≡ 0 + k = omega arith in
      ap (λ (n : ℕ). Some (record { object = owner.number; state = n; place = f.0 })) e

  found_in_state : (owner : Owner) (state k n : ℕ) (s : PexState) → number_at numbers s.name ≡ state → (state ≡ 0 → ⊥)
      → own_member (methods_of_state owner numbers k s) owner.number (state, n)
      ≡ option_map (place_from owner k) (own_at 0 (numbered (λ (d : Declared). d.name == n) (state_view members numbers lacking s).functions))
  found_in_state owner state k n s named other =
      let name = number_at numbers s.name in
      let full : (number_at numbers s.name == 0) ≡ false = ne_eqb (number_at numbers s.name) 0 (λ e. other (sym named ∙ e)) in
      let same = λ (p : ℕ) (f : ℕ × PexFunction). own_test owner k (state, n) (name, number_at numbers f.0) p ∙ ap (λ (b : Bool). b && number_at numbers f.0 == n) (eq-eqb name state named) in
      rw full (
      ap (option_map place)
      (find_places (λ p (f : ℕ × PexFunction). member_of owner k (name, number_at numbers f.0) p) (is_own owner.number (state, n)) (λ f. number_at numbers f.0 == n) same s.functions.items)
      ∙ made_in_state owner k name (numbered (λ (f : ℕ × PexFunction). number_at numbers f.0 == n) s.functions.items)
      ∙ ap (λ o. option_map (place_from owner k) (own_at 0 o)) (sym (numbered-map (declared_by numbers) (λ (d : Declared). d.name == n) s.functions.items))
      ∙ ap (λ l. option_map (place_from owner k) (own_at 0 (numbered (λ (d : Declared). d.name == n) l))) (sym (append-nil (map (declared_by numbers) s.functions.items)))
      )

  abbrev viewed : List PexState → List StateView → List StateView
  viewed states rest = map (state_view members numbers lacking) states ++ rest

  named_found : (owner : Owner) (state k n : ℕ) (rest : List StateView) → (state ≡ 0 → ⊥) → own_found rest state n ≡ None → (states : List PexState)
      → Differ (state_names numbers states)
      → own_member (methods_of_states owner numbers k states) owner.number (state, n) ≡ option_map (place_from owner k) (own_found (viewed states rest) state n)
  named_found owner state k n rest other none [] differ = ap (option_map (place_from owner k)) (sym none)
  named_found owner state k n rest other none (s ∷ states) differ = by (number_at numbers s.name == state) refl (named_found owner state (suc k) n rest other none states differ.1)
    where
      parted : own_member (methods_of_states owner numbers k (s ∷ states)) owner.number (state, n)
          ≡ option_map place (option_or (find (is_own owner.number (state, n)) (methods_of_state owner numbers k s)) (find (is_own owner.number (state, n)) (methods_of_states owner numbers (suc k) states)))
      parted = ap (option_map place) (find-append (is_own owner.number (state, n)) (methods_of_state owner numbers k s) (methods_of_states owner numbers (suc k) states))

      by : (b : Bool) → (number_at numbers s.name == state) ≡ b
          → own_member (methods_of_states owner numbers (suc k) states) owner.number (state, n) ≡ option_map (place_from owner (suc k)) (own_found (viewed states rest) state n)
          → own_member (methods_of_states owner numbers k (s ∷ states)) owner.number (state, n)
          ≡ option_map (place_from owner k) (own_of_state n (if number_at numbers s.name == state then Some (0, state_view members numbers lacking s) else one_on (numbered (λ view. view.name == state) (viewed states rest))))
      by true e further =
          let named = eqb-true (number_at numbers s.name) state e in
          parted
          ∙ ap (λ o. option_map place (option_or (find (is_own owner.number (state, n)) (methods_of_state owner numbers k s)) o))
          (none_of_states owner state (suc k) n states (λ stands. absurd (differ.0 (subst (λ m. In m (state_names numbers states)) (sym named) stands))))
          ∙ ap (option_map place) (option_or-none (find (is_own owner.number (state, n)) (methods_of_state owner numbers k s)))
          ∙ found_in_state owner state k n s named other
          ∙ ap
          (λ (b : Bool). option_map (place_from owner k) (own_of_state n (if b then Some (0, state_view members numbers lacking s) else one_on (numbered (λ view. view.name == state) (viewed states rest)))))
          (sym e)
      by false e further =
          parted
          ∙ ap (λ o. option_map place (option_or o (find (is_own owner.number (state, n)) (methods_of_states owner numbers (suc k) states))))
          (none_of_state owner state k n s (λ same. absurd (eqb-false (number_at numbers s.name) state e same)))
          ∙ further
          ∙ place_from-later owner k (own_found (viewed states rest) state n)
          ∙ ap (option_map (place_from owner k)) (sym (own_of_state-later n (numbered (λ (view : StateView). view.name == state) (viewed states rest))))
          ∙ ap
          (λ (b : Bool). option_map (place_from owner k) (own_of_state n (if b then Some (0, state_view members numbers lacking s) else one_on (numbered (λ view. view.name == state) (viewed states rest)))))
          (sym e)

  -- ---- a script
  functions_placed : (owner : Owner) (k : ℕ) (o : Option (ℕ × Signature))
      → option_map place (option_map (λ (f : ℕ × Signature). member_of owner k (empty_name, f.1.name) f.0) o) ≡ option_map (place_of owner.number) (own_at k (option_map (at_place declared_of) o))
  functions_placed owner k None = refl
  functions_placed owner k (Some f) = refl

  none_in_empty : (owner : Owner) (state k n from : ℕ) (functions : List Signature) → (state ≡ 0 → ⊥)
      → find (is_own owner.number (state, n)) (with_places (λ p (function : Signature). member_of owner k (empty_name, function.name) p) from functions) ≡ None
  none_in_empty owner state k n from [] other = refl
  none_in_empty owner state k n from (function ∷ functions) other =
      let fails = own_test owner k (state, n) (0, function.name) from ∙ ap (λ (b : Bool). b && function.name == n) (ne_eqb 0 state (λ e. other (sym e))) in
      rw fails (none_in_empty owner state k n (suc from) functions other)

  offered_functions : (own xs : List Declared) (places : List ℕ) → map Some xs ≡ map Some own ++ map (member_at members) places → xs ≡ own ++ lacking_declared members places
  offered_functions [] [] [] e = refl
  offered_functions [] (x ∷ xs) [] e = absurd (cc)
  offered_functions [] [] (p ∷ places) e = absurd (cc)
  offered_functions [] (x ∷ xs) (p ∷ places) e =
      let first : member_at members p ≡ Some x = cc in
      let more : map Some xs ≡ map (member_at members) places = cc in
      rw first (ap (λ (l : List Declared). x ∷ l) (offered_functions [] xs places more))
  offered_functions (d ∷ own) [] places e = absurd (cc)
  offered_functions (d ∷ own) (x ∷ xs) places e =
      let first : x ≡ d = cc in
      let more : map Some xs ≡ map Some own ++ map (member_at members) places = cc in
      ap (λ (y : Declared). y ∷ xs) first ∙ ap (λ (l : List Declared). d ∷ l) (offered_functions own xs places more)

  place_from-zero : (owner : Owner) (o : Option OwnFound) → option_map (place_from owner 0) o ≡ option_map (place_of owner.number) o
  place_from-zero owner None = refl
  place_from-zero owner (Some own) =
      let e : own.state + 0 ≡ own.state = omega arith in
      ap (λ (n : ℕ). Some (record { object = owner.number; state = n; place = own.number })) e

  none_added : (state name : ℕ) (b : Bool) (declared : List Declared) → (state ≡ 0 → ⊥) → own_found (if b then [] else added_view declared) state name ≡ None
  none_added state name true declared other = refl
  none_added state name false [] other = refl
  none_added state name false (first ∷ rest) other = rw (ne_eqb 0 state (λ e. other (sym e))) refl

module _ (members : Members) (above : Option ℕ) (owner : Owner) (o : Placed) (head : ScriptHead) (is : IsHeadOf members above o.source.names.now o.object head) (differ : Differ (state_names o.source.names.now o.object.states.items)) where
  abbrev numbers : List ℕ
  numbers = o.source.names.now

  abbrev lacking : List ℕ
  lacking = head.lacking.items

  abbrev functions : List OwnMember
  functions = functions_of owner head.empty_state head.functions.items

  abbrev of_states : List OwnMember
  of_states = methods_of_states owner numbers 0 o.object.states.items

  parted : (state name : ℕ)
      → own_member (methods_of owner o head) owner.number (state, name)
      ≡ option_map place (option_or (find (is_own owner.number (state, name)) functions) (find (is_own owner.number (state, name)) of_states))
  parted state name = ap (option_map place) (find-append (is_own owner.number (state, name)) functions of_states)

  own_empty : (name : ℕ) → own_member (methods_of owner o head) owner.number (0, name) ≡ option_map (place_of owner.number) (own_found (views_of_object members o lacking) 0 name)
  own_empty name =
      parted 0 name
      ∙ ap (λ f. option_map place (option_or (find (is_own owner.number (0, name)) functions) f)) (none_of_states members numbers lacking owner 0 0 name o.object.states.items (λ _. refl))
      ∙ ap (option_map place) (option_or-none (find (is_own owner.number (0, name)) functions))
      ∙ ap (option_map place)
      (find_places (λ p (function : Signature). member_of owner head.empty_state (empty_name, function.name) p) (is_own owner.number (0, name)) (λ function. function.name == name) (λ p function. own_test owner head.empty_state (0, name) (empty_name, function.name) p) head.functions.items)
      ∙ functions_placed members numbers lacking owner head.empty_state (numbered (λ (function : Signature). function.name == name) head.functions.items)
      ∙ ap (λ f. option_map (place_of owner.number) (own_at head.empty_state f)) (sym (numbered-map declared_of (λ (d : Declared). d.name == name) head.functions.items))
      ∙ ap (λ l. option_map (place_of owner.number) (own_at head.empty_state (numbered (λ (d : Declared). d.name == name) l)))
      (offered_functions members numbers lacking (map (declared_by numbers) (empty_functions numbers o.object)) (map declared_of head.functions.items) lacking is.functions)
      ∙ ap
      (λ k. option_map (place_of owner.number) (own_at k (numbered (λ (d : Declared). d.name == name) (map (declared_by numbers) (empty_functions numbers o.object) ++ lacking_declared members lacking))))
      is.empty_state
      ∙ ap (option_map (place_of owner.number)) (sym (empty_found members numbers lacking name o.object.states.items))

  own_named : (state name : ℕ) → (state ≡ 0 → ⊥)
      → own_member (methods_of owner o head) owner.number (state, name) ≡ option_map (place_of owner.number) (own_found (views_of_object members o lacking) state name)
  own_named state name other =
      let any = list_any (λ (s : PexState). number_at numbers s.name == empty_name) o.object.states.items in
      let rest = if any then [] else added_view (lacking_declared members lacking) in
      parted state name
      ∙ ap (λ f. option_map place (option_or f (find (is_own owner.number (state, name)) of_states)))
      (none_in_empty members numbers lacking owner state head.empty_state name 0 head.functions.items other)
      ∙ named_found members numbers lacking owner state 0 name rest other (none_added members numbers lacking state name any (lacking_declared members lacking) other) o.object.states.items differ
      ∙ place_from-zero members numbers lacking owner (own_found (views_of_object members o lacking) state name)

  pub own_methods : (state name : ℕ)
      → own_member (methods_of owner o head) owner.number (state, name) ≡ option_map (place_of owner.number) (own_found (views_of_object members o lacking) state name)
  own_methods state name =
      ⊎_elim
      (λ (e : state ≡ 0). subst (λ s. own_member (methods_of owner o head) owner.number (s, name) ≡ option_map (place_of owner.number) (own_found (views_of_object members o lacking) s name)) (sym e) (own_empty name))
      (own_named state name)
      (cases_eq state 0)
