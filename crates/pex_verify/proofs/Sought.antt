-- What the tables of a set find is what the scripts offer.
use Rattle.std.proofs.Common.{◌≡◌, ℕ, suc, ◌==◌, Bool, true, false, List, [], ◌∷◌, Option, None, Some, refl, sym, ap, subst, ◌∙◌, length}
use Rattle.std.specs.Prelude.{slice_get, if◌then◌else◌}
use Rattle.std.specs.Option.{option_and_then, option_or, option_map}
use Rattle.std.proofs.lemmas.Bool.{eqb-true}
use Rattle.std.proofs.lemmas.Option.{none-some, same_Some}
use Rattle.core_tree.specs.Outlines.{ScriptShape}
use Rattle.script_meaning.specs.Values.{lineage}
use Rattle.code_meaning.specs.LookUp.{numbered, one_on}
use Rattle.pex_set.specs.declared.inherited.MemberPlace.{MemberPlace}
use Rattle.pex_set.specs.declared.inherited.OwnMember.{OwnMember}
use Rattle.pex_set.specs.Nearest.{nearest}
use Rattle.pex_verify.specs.declared.scripts.Signature.{Signature}
use Rattle.pex_verify.specs.Signatures.{Declared, declared_of, AreAlike}
use Rattle.pex_verify.proofs.Views.{StateView, view_of, OwnFound, own_at, own_of_state, own_found, ViewFound, found_of_script, first_found, offered, Replaces, place_of, AreMembersOf, HaveSignatures, sought, KeepsAbove}
use Rattle.pex_verify.proofs.Offers.{found_above}

abbrev pub found_place : ViewFound → MemberPlace
found_place found = place_of found.script found.own

pub map-or : {A B : Type 0} (f : A → B) (a b : Option A) → option_or (option_map f a) (option_map f b) ≡ option_map f (option_or a b)
map-or f None b = refl
map-or f (Some a) b = refl

place_in : (script : ℕ) (o : Option OwnFound) → option_map (place_of script) o ≡ option_map found_place (found_of_script script o)
place_in script None = refl
place_in script (Some own) = refl

pub nearest_found : (views : List (List StateView)) (members : List OwnMember) → AreMembersOf views members → (upward : List ℕ) (state name : ℕ) → nearest members upward (state, name) ≡ option_map found_place (first_found views upward state name)
nearest_found views members are [] state name = refl
nearest_found views members are (script ∷ above) state name =
    ap (λ o. option_or o (nearest members above (state, name))) (are script state name ∙ place_in script (own_found (view_of views script) state name))
    ∙ ap (option_or (option_map found_place (found_of_script script (own_found (view_of views script) state name)))) (nearest_found views members are above state name)
    ∙ map-or found_place (found_of_script script (own_found (view_of views script) state name)) (first_found views above state name)

-- ---- what is found stands at its place
pub record IsNumbered {A : Type 0} (p : A → Bool) (xs : List A) (found : ℕ × A) : Type 0 where
  pub stands : slice_get xs found.0 ≡ Some found.1
  pub passes : p found.1 ≡ true

one_on_is : {A : Type 0} (p : A → Bool) (x : A) (xs : List A) (o : Option (ℕ × A)) (found : ℕ × A) → one_on o ≡ Some found → ((f : ℕ × A) → o ≡ Some f → IsNumbered p xs f) → IsNumbered p (x ∷ xs) found
one_on_is p x xs None found h rec = absurd (none-some found h)
one_on_is p x xs (Some (k, y)) found h rec =
    let same = same_Some (suc k, y) found h in
    let r = rec (k, y) refl in
    subst (IsNumbered p (x ∷ xs)) same (record { stands = r.stands; passes = r.passes })

numbered_by : {A : Type 0} (p : A → Bool) (x : A) (xs : List A) (b : Bool) (found : ℕ × A) → p x ≡ b → (if b then Some (0, x) else one_on (numbered p xs)) ≡ Some found → ((f : ℕ × A) → numbered p xs ≡ Some f → IsNumbered p xs f) → IsNumbered p (x ∷ xs) found
numbered_by p x xs true found e h rec =
    subst (IsNumbered p (x ∷ xs)) (same_Some (0, x) found h) (record { stands = refl; passes = e })
numbered_by p x xs false found e h rec = one_on_is p x xs (numbered p xs) found h rec

pub numbered_is : {A : Type 0} (p : A → Bool) (xs : List A) (found : ℕ × A) → numbered p xs ≡ Some found → IsNumbered p xs found
numbered_is p [] found h = absurd (none-some found h)
numbered_is p (x ∷ xs) found h = numbered_by p x xs (p x) found refl h (numbered_is p xs)

-- a function that is found is one of a state of its name
pub record IsOwn (views : List StateView) (state name : ℕ) (own : OwnFound) : Type 0 where
  pub view : StateView
  pub stands : slice_get views own.state ≡ Some view
  pub state_name : view.name ≡ state
  pub function : slice_get view.functions own.number ≡ Some own.declared
  pub name_is : own.declared.name ≡ name

own_at_is : (views : List StateView) (state name i : ℕ) (view : StateView) (own : OwnFound) (o : Option (ℕ × Declared)) → slice_get views i ≡ Some view → view.name ≡ state → numbered (λ declared. declared.name == name) view.functions ≡ o → own_at i o ≡ Some own → IsOwn views state name own
own_at_is views state name i view own None s n e h = absurd (none-some own h)
own_at_is views state name i view own (Some (j, declared)) s n e h =
    let r = numbered_is (λ (d : Declared). d.name == name) view.functions (j, declared) e in
    subst (IsOwn views state name) (same_Some _ own h) (record { view = view; stands = s; state_name = n; function = r.stands; name_is = eqb-true declared.name name r.passes })

own_is_by : (views : List StateView) (state name : ℕ) (own : OwnFound) (o : Option (ℕ × StateView)) → numbered (λ view. view.name == state) views ≡ o → own_of_state name o ≡ Some own → IsOwn views state name own
own_is_by views state name own None e h = absurd (none-some own h)
own_is_by views state name own (Some (i, view)) e h =
    let r = numbered_is (λ (v : StateView). v.name == state) views (i, view) e in
    own_at_is views state name i view own (numbered (λ declared. declared.name == name) view.functions) r.stands (eqb-true view.name state r.passes) refl h

pub own_is : (views : List StateView) (state name : ℕ) (own : OwnFound) → own_found views state name ≡ Some own → IsOwn views state name own
own_is views state name own h = own_is_by views state name own (numbered (λ view. view.name == state) views) refl h

-- ---- what tables find is what is offered
module _ (outline : List ScriptShape) (views : List (List StateView)) (members : List OwnMember) (signature_at : MemberPlace → Option Signature) (are : AreMembersOf views members) (have : HaveSignatures views signature_at) where
  sought_by : (script name : ℕ) (o : Option ViewFound) → first_found views (lineage outline (Some script)) 0 name ≡ o → option_map declared_of (option_and_then signature_at (option_map found_place o)) ≡ option_map (λ (found : ViewFound). found.own.declared) o
  sought_by script name None e = refl
  sought_by script name (Some found) e =
      have found.script name found.own (found_above (length outline) outline views script 0 name found e).own

  pub sought_is_offered : (script name : ℕ) → option_map declared_of (sought outline members signature_at script name) ≡ offered outline views (Some script) name
  sought_is_offered script name =
      ap (λ o. option_map declared_of (option_and_then signature_at o)) (nearest_found views members are (lineage outline (Some script)) 0 name) ∙ sought_by script name (first_found views (lineage outline (Some script)) 0 name) refl

  pub offered_from_sought : (script name : ℕ) (signature : Signature) → sought outline members signature_at script name ≡ Some signature → offered outline views (Some script) name ≡ Some (declared_of signature)
  offered_from_sought script name signature e = sym (sought_is_offered script name) ∙ ap (option_map declared_of) e

  signature_of : (declared : Declared) (o : Option Signature) → option_map declared_of o ≡ Some declared → (signature : Signature) × (o ≡ Some signature) × (declared_of signature ≡ declared)
  signature_of declared None h = absurd (none-some declared h)
  signature_of declared (Some signature) h = (signature, refl, same_Some (declared_of signature) declared h)

  pub sought_from_offered : (script name : ℕ) (declared : Declared) → offered outline views (Some script) name ≡ Some declared → (signature : Signature) × (sought outline members signature_at script name ≡ Some signature) × (declared_of signature ≡ declared)
  sought_from_offered script name declared e =
      signature_of declared (sought outline members signature_at script name) (sought_is_offered script name ∙ e)

  -- V11 as the tables judge it is V11 of the scripts
  pub Replaces-from_tables : KeepsAbove outline views (sought outline members signature_at) → Replaces outline views
  Replaces-from_tables keeps = record {
    empty_states = λ script parent name own above f p o.
        let i = own_is (view_of views script) 0 name own f in
        let s = sought_from_offered parent name above o in
        let at : sought outline members signature_at parent own.declared.name ≡ Some s.0 = subst (λ n. sought outline members signature_at parent n ≡ Some s.0) (sym i.name_is) s.1 in
        subst (AreAlike own.declared) s.2 (keeps.empty_states script parent own.state own.number i.view own.declared s.0 i.stands i.state_name i.function p at);
    other_states = λ script state name own other f.
        let i = own_is (view_of views script) state name own f in
        let k = keeps.other_states script own.state own.number i.view own.declared i.stands (λ zero. other (sym i.state_name ∙ zero)) i.function in
        let here = k.1 in
        (k.0, (declared_of here.0, subst (λ n. offered outline views (Some script) n ≡ Some (declared_of here.0)) i.name_is (offered_from_sought script own.declared.name here.0 here.1), here.2));
  }
