-- What the heads of properties say is what scripts offer by texts.
use Rattle.std.proofs.Common.{◌≡◌, ℕ, ◌==◌, List, [], ◌∷◌, Option, None, Some, refl, sym, ap, subst, ◌∙◌}
use Rattle.std.specs.Prelude.{slice_get}
use Rattle.std.specs.Option.{option_and_then, option_or, option_map}
use Rattle.std.specs.Str.{str_eq_ignore_ascii_case}
use Rattle.std.proofs.lemmas.Option.{none-some, same_Some}
use Rattle.core_tree.specs.Outlines.{ScriptShape}
use Rattle.script_meaning.specs.Values.{lineage, parent_in}
use Rattle.code_meaning.specs.Code.{Access, Property, Script}
use Rattle.code_meaning.specs.LookUp.{numbered, properties_in, property_at, first_property}
use Rattle.run_laws.specs.TypedCode.{GetMeets, SetMeets}
use Rattle.pex_set.specs.Names.{number_in}
use Rattle.pex_set.specs.declared.inherited.MemberPlace.{MemberPlace}
use Rattle.pex_set.specs.declared.inherited.OwnMember.{OwnMember}
use Rattle.pex_set.specs.Nearest.{nearest}
use Rattle.pex_verify.specs.declared.scripts.PropertySignature.{PropertySignature}
use Rattle.pex_verify.specs.declared.value_type.ValueType.TheVariants.{Of}
use Rattle.pex_verify.specs.Meanings.{Meanings}
use Rattle.pex_verify.specs.Agreement.{IsPropertyOffered}
use Rattle.pex_verify.proofs.Views.{StandsBelow, itself, below_parent, IsPropertyViewed, heads_of, PropertyFound, property_of_script, own_property, first_head, HaveProperties, AreNew, ArePropertyMembers, head_at, head_sought}
use Rattle.pex_verify.proofs.LookUps.{same_test, AreFound, numbered-zip}
use Rattle.pex_verify.proofs.Offers.{below_from_child}
use Rattle.pex_verify.proofs.Sought.{numbered_is, map-or}

module _ (types : Meanings) (names : List (List ℕ)) (outline : List ScriptShape) where
  -- a property that is found, and what is found by numbers
  pub record IsPropertyOf (found : PropertyFound) (property : ℕ × ℕ × Access) : Type 0 where
    pub whole : Property
    pub is : property ≡ (found.script, found.number, whole.access)
    pub viewed : IsPropertyViewed types names outline found.script found.head whole

  abbrev pub AreProperties : Option PropertyFound → Option (ℕ × ℕ × Access) → Type 0
  AreProperties None None = Unit {0}
  AreProperties None (Some property) = ⊥
  AreProperties (Some found) None = ⊥
  AreProperties (Some found) (Some property) = IsPropertyOf found property

  of_script : (script : ℕ) (a : Option (ℕ × PropertySignature)) (b : Option (ℕ × Property)) → AreFound (IsPropertyViewed types names outline script) a b → AreProperties (property_of_script script a) (property_at script b)
  of_script script None None h = tt
  of_script script None (Some y) h = absurd h
  of_script script (Some x) None h = absurd h
  of_script script (Some (m, head)) (Some (n, property)) h =
      record { whole = property; is = ap (λ (k : ℕ). (script, k, property.access)) (sym h.0); viewed = h.1 }

  or_properties : (a c : Option PropertyFound) (b d : Option (ℕ × ℕ × Access)) → AreProperties a b → AreProperties c d → AreProperties (option_or a c) (option_or b d)
  or_properties None c None d h k = k
  or_properties None c (Some b) d h k = absurd h
  or_properties (Some a) c None d h k = absurd h
  or_properties (Some a) c (Some b) d h k = h

  module _ (scripts : List Script) (heads : List (List PropertySignature)) (have : HaveProperties types names outline scripts heads) where
    -- what is found by a text is what is found by its number
    pub properties_by_numbers : (upward : List ℕ) (n : ℕ) (text : List ℕ) → number_in names text ≡ Some n → AreProperties (first_head heads upward n) (first_property scripts upward text)
    properties_by_numbers [] n text e = tt
    properties_by_numbers (script ∷ above) n text e =
        let found = numbered-zip (IsPropertyViewed types names outline script) (λ head. head.name == n) (λ (p : Property). str_eq_ignore_ascii_case p.name text) (λ head p r. same_test names p.name text head.name n r.name e) (heads_of heads script) (properties_in (slice_get scripts script)) (have.viewed script) in
        or_properties (property_of_script script (own_property (heads_of heads script) n)) (first_head heads above n) (property_at script (numbered (λ (p : Property). str_eq_ignore_ascii_case p.name text) (properties_in (slice_get scripts script)))) (first_property scripts above text) (of_script script (own_property (heads_of heads script) n) (numbered (λ (p : Property). str_eq_ignore_ascii_case p.name text) (properties_in (slice_get scripts script))) found) (properties_by_numbers above n text e)

    module _ (new : AreNew outline heads) where
      same_by : (script parent name : ℕ) (found : PropertyFound) → parent_in (slice_get outline script) ≡ Some parent → first_head heads (lineage outline (Some parent)) name ≡ Some found → (o : Option (ℕ × PropertySignature)) → own_property (heads_of heads script) name ≡ o → option_or (property_of_script script o) (first_head heads (lineage outline (Some parent)) name) ≡ Some found
      same_by script parent name found p h None e = h
      same_by script parent name found p h (Some own) e = absurd (none-some found (sym (new script parent name own e p) ∙ h))

      -- scripts below find the same property
      pub same_below : {script above : ℕ} → StandsBelow outline script above → (name : ℕ) (found : PropertyFound) → first_head heads (lineage outline (Some above)) name ≡ Some found → first_head heads (lineage outline (Some script)) name ≡ Some found
      same_below (itself {script}) name found h = h
      same_below (below_parent {script} {parent} {above} p b) name found h =
          ap (λ l. first_head heads l name) (have.rooted script parent p) ∙ same_by script parent name found p (same_below b name found h) (own_property (heads_of heads script) name) refl

      gets_by : (found : PropertyFound) (kind : _) (a : Option PropertyFound) (b : Option (ℕ × ℕ × Access)) → a ≡ Some found → AreProperties a b → ((property : Property) → IsPropertyViewed types names outline found.script found.head property → GetMeets outline kind (Some (found.script, found.number, property.access))) → GetMeets outline kind b
      gets_by found kind None b e h meets = absurd (none-some found e)
      gets_by found kind (Some x) None e h meets = absurd h
      gets_by found kind (Some x) (Some property) e h meets =
          let same = same_Some x found e in
          let of_found : IsPropertyOf found property = subst (λ f. IsPropertyOf f property) same h in
          subst (λ p. GetMeets outline kind (Some p)) (sym of_found.is) (meets of_found.whole of_found.viewed)

      sets_by : (found : PropertyFound) (kinds : _) (a : Option PropertyFound) (b : Option (ℕ × ℕ × Access)) → a ≡ Some found → AreProperties a b → ((property : Property) → IsPropertyViewed types names outline found.script found.head property → SetMeets outline kinds None (Some (found.script, found.number, property.access))) → SetMeets outline kinds None b
      sets_by found kinds None b e h meets = absurd (none-some found e)
      sets_by found kinds (Some x) None e h meets = absurd h
      sets_by found kinds (Some x) (Some property) e h meets =
          let same = same_Some x found e in
          let of_found : IsPropertyOf found property = subst (λ f. IsPropertyOf f property) same h in
          subst (λ p. SetMeets outline kinds None (Some p)) (sym of_found.is) (meets of_found.whole of_found.viewed)

      -- a property has one type, whichever way it is found
      same_kind : (head : PropertySignature) (script other : ℕ) (a b : Property) (x : IsPropertyViewed types names outline script head a) (y : IsPropertyViewed types names outline other head b) → x.kind ≡ y.kind
      same_kind head script other a b x y =
          let e : Of x.kind ≡ Of y.kind = sym x.kind_is ∙ y.kind_is in
          cc

      offered_by : (script name : ℕ) (text : List ℕ) (found : PropertyFound) (a : Option PropertyFound) (b : Option (ℕ × ℕ × Access)) → number_in names text ≡ Some name → first_head heads (lineage outline (Some script)) name ≡ Some found → a ≡ Some found → AreProperties a b → IsPropertyOffered types outline scripts script text found.head
      offered_by script name text found None b n e s h = absurd (none-some found s)
      offered_by script name text found (Some x) None n e s h = absurd h
      offered_by script name text found (Some x) (Some property) n e s h =
          let of_found : IsPropertyOf found property = subst (λ f. IsPropertyOf f property) (same_Some x found s) h in
          let v = of_found.viewed in
          record {
            kind = v.kind;
            kind_is = v.kind_is;
            gets = λ readable own child. gets_by found (Some v.kind) (first_head heads (lineage outline (Some own)) name) (first_property scripts (lineage outline (Some own)) text) (same_below (below_from_child outline own script child) name found e) (properties_by_numbers (lineage outline (Some own)) name text n) (λ p w. subst (λ k. GetMeets outline (Some k) (Some (found.script, found.number, p.access))) (same_kind found.head found.script found.script p of_found.whole w v) (w.gets readable found.number));
            sets = λ writable own child. sets_by found (v.kind ∷ []) (first_head heads (lineage outline (Some own)) name) (first_property scripts (lineage outline (Some own)) text) (same_below (below_from_child outline own script child) name found e) (properties_by_numbers (lineage outline (Some own)) name text n) (λ p w. subst (λ k. SetMeets outline (k ∷ []) None (Some (found.script, found.number, p.access))) (same_kind found.head found.script found.script p of_found.whole w v) (w.sets writable found.number));
          }

      pub IsPropertyOffered-from_heads : (script name : ℕ) (text : List ℕ) (found : PropertyFound) → number_in names text ≡ Some name → first_head heads (lineage outline (Some script)) name ≡ Some found → IsPropertyOffered types outline scripts script text found.head
      IsPropertyOffered-from_heads script name text found n e =
          offered_by script name text found (first_head heads (lineage outline (Some script)) name) (first_property scripts (lineage outline (Some script)) text) n e e (properties_by_numbers (lineage outline (Some script)) name text n)

-- ---- tables
abbrev pub found_property : PropertyFound → MemberPlace
found_property found = record { object = found.script; state = 0; place = found.number }

property_place : (script : ℕ) (o : Option (ℕ × PropertySignature)) → option_map (λ (own : ℕ × PropertySignature). record { object = script; state = 0; place = own.0 }) o ≡ option_map found_property (property_of_script script o)
property_place script None = refl
property_place script (Some own) = refl

nearest_property : (heads : List (List PropertySignature)) (members : List OwnMember) → ArePropertyMembers heads members → (upward : List ℕ) (name : ℕ) → nearest members upward (0, name) ≡ option_map found_property (first_head heads upward name)
nearest_property heads members are [] name = refl
nearest_property heads members are (script ∷ above) name =
    ap (λ o. option_or o (nearest members above (0, name))) (are script name ∙ property_place script (own_property (heads_of heads script) name))
    ∙ ap (option_or (option_map found_property (property_of_script script (own_property (heads_of heads script) name)))) (nearest_property heads members are above name)
    ∙ map-or found_property (property_of_script script (own_property (heads_of heads script) name)) (first_head heads above name)

head_by : (heads : List (List PropertySignature)) (script name : ℕ) (o : Option (ℕ × PropertySignature)) (rest : Option PropertyFound) (found : PropertyFound) → own_property (heads_of heads script) name ≡ o → option_or (property_of_script script o) rest ≡ Some found → (rest ≡ Some found → head_at heads (found_property found) ≡ Some found.head) → head_at heads (found_property found) ≡ Some found.head
head_by heads script name None rest found e h rec = rec h
head_by heads script name (Some (number, head)) rest found e h rec =
    let r = numbered_is (λ (p : PropertySignature). p.name == name) (heads_of heads script) (number, head) e in
    subst (λ f. head_at heads (found_property f) ≡ Some f.head) (same_Some _ found h) r.stands

first_head_is : (heads : List (List PropertySignature)) (upward : List ℕ) (name : ℕ) (found : PropertyFound) → first_head heads upward name ≡ Some found → head_at heads (found_property found) ≡ Some found.head
first_head_is heads [] name found h = absurd (none-some found h)
first_head_is heads (script ∷ above) name found h =
    head_by heads script name (own_property (heads_of heads script) name) (first_head heads above name) found refl h (first_head_is heads above name found)

head_sought_by : (heads : List (List PropertySignature)) (upward : List ℕ) (name : ℕ) (o : Option PropertyFound) → first_head heads upward name ≡ o → option_and_then (head_at heads) (option_map found_property o) ≡ option_map (λ (found : PropertyFound). found.head) o
head_sought_by heads upward name None e = refl
head_sought_by heads upward name (Some found) e = first_head_is heads upward name found e

-- what the table finds is the head of the first property
pub head_sought_is : (outline : List ScriptShape) (heads : List (List PropertySignature)) (members : List OwnMember) → ArePropertyMembers heads members → (script name : ℕ) → head_sought outline heads members script name ≡ option_map (λ (found : PropertyFound). found.head) (first_head heads (lineage outline (Some script)) name)
head_sought_is outline heads members are script name =
    ap (option_and_then (head_at heads)) (nearest_property heads members are (lineage outline (Some script)) name) ∙ head_sought_by heads (lineage outline (Some script)) name (first_head heads (lineage outline (Some script)) name) refl
