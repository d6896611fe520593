-- Native functions while they are bound, and the rules that their bindings break.
use Rattle.std.proofs.Common.{ℕ, zero, suc, ◌≡◌, ◌<◌, ◌≤◌, ◌+◌, ◌⊎◌, ⊎_elim, inl, inr, nat_lt, Bool, true, false, cond, not, ◌&&◌, ◌||◌, Option, Some, None, is_some, is_none, IfSome, List, [], ◌∷◌, ◌++◌, map, length, get_or, append_assoc, refl, sym, ap, subst, ◌∙◌, arith}
use Rattle.std.specs.List.{All, find, flat_map, position, position_or_len, slice_get}
use Rattle.std.specs.Option.{option_and_then, option_map, option_or}
use Rattle.std.specs.Str.{bytes_eq}
use Rattle.std.specs.Cmp.Lexicographic.{bytes_decides}
use Rattle.std.proofs.Math.ListN.{set}
use Rattle.std.proofs.lemmas.Bool.{cases_Bool, cases_lt, cond-false, cond-true, le-ltb, lt-ltb, true≢false}
use Rattle.std.proofs.lemmas.List.{length-append, map-append}
use Rattle.std.proofs.lemmas.List.Elements.{All-get_or, All-head, All-push, All-tail}
use Rattle.std.proofs.lemmas.Option.{none-some, same_Some, slice_get-get_or}
use Rattle.papy_base.specs.Case.{folded}
use Rattle.papy_base.specs.Table.{number_in}
use Rattle.core_tree.specs.Outlines.{name_in}
use Rattle.core_tree.specs.declared.outline.OutlineFunction.{OutlineFunction}
use Rattle.core_tree.specs.declared.outline.OutlineScript.{OutlineScript}
use Rattle.core_tree.specs.declared.scene_tree.Binding.{Binding}
use Rattle.scene_reader.specs.declared.fault.SceneFault.{SceneFault}
use Rattle.scene_reader.specs.declared.fault.SceneFault.TheVariants as faults
use Rattle.scene_reader.specs.declared.fault.SceneRule.{SceneRule}
use Rattle.scene_reader.specs.declared.fault.SceneRule.TheVariants as rules
use Rattle.scene_binder.specs.declared.natives.Native.{Native}
use Rattle.scene_binder.specs.declared.natives.Natives.{Natives}
use Rattle.scene_binder.specs.Faults.{IsFirst, IsFirstBroken, allows, binding_breaks, broken, default_breaks, default_for, has_device, in_turn, is_bound, is_taken, kept_if, name_at, native_at, native_breaks, native_named, own_name, unbound_breaks}
use Rattle.scene_binder.specs.Meant.{binding_in, default_entries, full_name}
use Rattle.scene_binder.specs.Names.{entry_name, first_of}
use Rattle.scene_binder.specs.NativeList.{AreNatives, HoldsNative, IsUnbound, native_key, native_name, native_place}
use Rattle.scene_binder.specs.NativeState.{AreSettled, Binds, BindsDefault, IsLeftOut, IsSettled, IsSettledBy, default_known_breaks, known_breaks, leaves_out, left_breaks, native_under}
use Rattle.scene_binder.specs.Natives.{native_places}
use Rattle.scene_binder.proofs.NameLemmas.{IsPlaceTable-first, IsPlaceTable-named}
use Rattle.scene_binder.proofs.NativeLemmas.{binding_in-other, binding_in-push, binding_in-this}
use Rattle.scene_binder.proofs.ValueLemmas.{and_false}

-- ---- one native

pub bound_breaks : (native : Native) (binding : Binding) → native.binding ≡ Some binding → left_breaks native ≡ []
bound_breaks native binding is = ap (λ o. broken rules.UnboundNative (is_none o)) is

none_left : (o : Option Binding) → ((b : Binding) → o ≡ Some b → ⊥) → o ≡ None
none_left None other = refl
none_left (Some b) other = absurd (other b refl)

pub unbound_broken : (native : Native) (fault : SceneFault) → ((b : Binding) → native.binding ≡ Some b → ⊥) → fault ≡ faults.Broken rules.UnboundNative → IsFirstBroken fault (left_breaks native)
unbound_broken native fault other is =
    subst (λ f. IsFirstBroken f (left_breaks native)) (sym is) (subst (λ o. IsFirst (broken rules.UnboundNative (is_none o)) rules.UnboundNative) (sym (none_left native.binding other)) refl)

-- a default binding that is left out
left_out_of : (taken has may : Bool) (rule : SceneRule) → IsFirst (broken rules.DuplicateName taken ++ (broken rules.NoDevice (not has) ++ broken rules.UnboundNative (not may))) rule → leaves_out (faults.Broken rule) ≡ true → (taken || not may) ≡ true
left_out_of true has may rule h leaves = refl
left_out_of false false may rule h leaves = absurd (true≢false (sym leaves ∙ ap (λ r. leaves_out (faults.Broken r)) h))
left_out_of false true false rule h leaves = refl
left_out_of false true true rule h leaves = absurd h

pub left_out : (devices : ℕ) (known : Option Native) (binding : Binding) (fault : SceneFault) → IsFirstBroken fault (known_breaks devices known binding) → leaves_out fault ≡ true → IsLeftOut known binding
left_out devices None binding fault h leaves = tt
left_out devices (Some native) binding (faults.Broken rule) h leaves =
    left_out_of (is_some native.binding) (has_device devices binding) (allows native.function.now binding) rule h leaves
left_out devices (Some native) binding faults.OutOfMemory h leaves = absurd (true≢false (sym leaves))

-- ---- entries of lists

some_mapped : {X Y : Type 0} (f : X → Y) (o : Option X) → is_some (option_map f o) ≡ is_some o
some_mapped f None = refl
some_mapped f (Some x) = refl

set_here : {X : Type 0} (xs : List X) (n : ℕ) (y : X) → n < length xs → slice_get (set xs n y) n ≡ Some y
set_here [] n y lt = absurd (omega arith)
set_here (x ∷ xs) zero y lt = refl
set_here (x ∷ xs) (suc n) y lt = set_here xs n y (omega arith)

set_apart : {X : Type 0} (xs : List X) (n k : ℕ) (y : X) → (k ≡ n → ⊥) → slice_get (set xs n y) k ≡ slice_get xs k
set_apart [] n k y other = refl
set_apart (x ∷ xs) zero zero y other = absurd (other refl)
set_apart (x ∷ xs) zero (suc k) y other = refl
set_apart (x ∷ xs) (suc n) zero y other = refl
set_apart (x ∷ xs) (suc n) (suc k) y other = set_apart xs n k y (λ e. other (ap suc e))

set_split : {X : Type 0} (xs : List X) (n k : ℕ) (y x : X) → slice_get (set xs n y) k ≡ Some x → ((k ≡ n) × (y ≡ x)) ⊎ (slice_get xs k ≡ Some x)
set_split [] n k y x e = inr e
set_split (w ∷ xs) zero zero y x e = inl (refl, same_Some y x e)
set_split (w ∷ xs) zero (suc k) y x e = inr e
set_split (w ∷ xs) (suc n) zero y x e = inr e
set_split (w ∷ xs) (suc n) (suc k) y x e =
    ⊎_elim (λ (h : (k ≡ n) × (y ≡ x)). inl (ap suc h.0, h.1)) (λ (h : slice_get xs k ≡ Some x). inr h) (set_split xs n k y x e)

-- ---- natives by name

found_step : {P X F : Type 0} (at : P → Option F) (f : X → F) (b : Bool) (p : P) (x : X) (o : Option P) (r : Option X) → at p ≡ Some (f x) → option_and_then at o ≡ option_map f r → option_and_then at (cond b (Some p) o) ≡ option_map f (cond b (Some x) r)
found_step at f false p x o r here more = more
found_step at f true p x o r here more = here

taken_step : {P X : Type 0} (b : Bool) (p : P) (x : X) (o : Option P) (r : Option X) → is_some o ≡ is_some r → is_some (cond b (Some p) o) ≡ is_some (cond b (Some x) r)
taken_step false p x o r more = more
taken_step true p x o r more = refl

abbrev function_of : Native → OutlineFunction
function_of native = native.function.now

module _ (scripts : List OutlineScript) (devices : ℕ) where
  same_name : (x : Native) → HoldsNative scripts devices x → name_at scripts (native_place x) ≡ native_name scripts x
  same_name x own = ap (λ o. full_name (name_in (slice_get scripts x.script)) (own_name o)) own.there

  first_named : (xs : List Native) (bytes : List ℕ) → All (HoldsNative scripts devices) xs → option_and_then (native_at scripts) (first_of (name_at scripts) (map native_place xs) bytes) ≡ option_map function_of (first_of (native_name scripts) xs bytes)
  first_named [] bytes h = refl
  first_named (x ∷ xs) bytes h =
      let own = All-head (HoldsNative scripts devices) x xs h in
      let rest = first_of (name_at scripts) (map native_place xs) bytes in
      ap (λ name. option_and_then (native_at scripts) (cond (bytes_eq bytes (folded name)) (Some (native_place x)) rest)) (same_name x own) ∙ found_step (native_at scripts) function_of (bytes_eq bytes (folded (native_name scripts x))) (native_place x) x rest (first_of (native_name scripts) xs bytes) own.there (first_named xs bytes (All-tail (HoldsNative scripts devices) x xs h))

  taken_named : (xs : List Native) (bytes : List ℕ) → All (HoldsNative scripts devices) xs → is_some (first_of (name_at scripts) (map native_place xs) bytes) ≡ is_some (first_of (native_name scripts) xs bytes)
  taken_named [] bytes h = refl
  taken_named (x ∷ xs) bytes h =
      let own = All-head (HoldsNative scripts devices) x xs h in
      let rest = first_of (name_at scripts) (map native_place xs) bytes in
      ap (λ name. is_some (cond (bytes_eq bytes (folded name)) (Some (native_place x)) rest)) (same_name x own) ∙ taken_step (bytes_eq bytes (folded (native_name scripts x))) (native_place x) x rest (first_of (native_name scripts) xs bytes) (taken_named xs bytes (All-tail (HoldsNative scripts devices) x xs h))

native_named-same : (scripts : List OutlineScript) (natives : Natives) (name : List ℕ) → AreNatives scripts natives → native_named scripts name ≡ option_map function_of (native_under natives (folded name))
native_named-same scripts natives name h =
    let bytes = folded name in
    ap (λ places. option_and_then (native_at scripts) (first_of (name_at scripts) places bytes)) (sym h.each_once) ∙ (first_named scripts natives.devices natives.natives.items bytes h.hold ∙ ap (option_map function_of) (IsPlaceTable-first (native_name scripts) natives.natives.items natives.names bytes h.tabled))

-- ---- what entries and default bindings break

or_none : (o : Option Binding) → option_or o None ≡ o
or_none None = refl
or_none (Some b) = refl

settled_entry : (entry default : Option Binding) (native : Native) → default ≡ None → IsSettledBy entry default (Some native) → native.binding ≡ entry
settled_entry entry default native none h =
    h ∙ (ap (λ o. option_or entry (kept_if (allows native.function.now) o)) none ∙ or_none entry)

known_as : (devices : ℕ) (entry default : Option Binding) (known : Option Native) (b : Binding) → default ≡ None → IsSettledBy entry default known → known_breaks devices known b ≡ broken rules.DuplicateName (is_some entry) ++ binding_breaks devices (option_map function_of known) b
known_as devices entry default None b none h = ap (λ o. broken rules.DuplicateName (is_some o) ++ rules.NoFunction ∷ []) (sym h)
known_as devices entry default (Some native) b none h =
    ap (λ o. broken rules.DuplicateName (is_some o) ++ binding_breaks devices (Some native.function.now) b) (settled_entry entry default native none h)

default_as : (devices : ℕ) (entry default : Option Binding) (known : Option Native) (b : Binding) → default ≡ None → IsSettledBy entry default known → default_known_breaks devices known b ≡ broken rules.NoDevice (not (has_device devices b) && (is_some (option_map function_of known) && not (is_some entry)))
default_as devices entry default None b none h = sym (ap (broken rules.NoDevice) (and_false (not (has_device devices b))))
default_as devices entry default (Some native) b none h =
    ap (λ o. broken rules.NoDevice (not (has_device devices b) && not (is_some o))) (settled_entry entry default native none h)

taken_entry : (entries : List (List ℕ × Binding)) (name : List ℕ) → is_some (binding_in entries (folded name)) ≡ is_taken entry_name entries name
taken_entry entries name = some_mapped (λ (entry : List ℕ × Binding). entry.1) (first_of entry_name entries (folded name))

module _ (scripts : List OutlineScript) (natives : Natives) (entries : List (List ℕ × Binding)) (name : List ℕ) (b : Binding) (h : AreNatives scripts natives) where
  pub known_same : AreSettled scripts entries [] natives → known_breaks natives.devices (native_under natives (folded name)) b ≡ native_breaks scripts natives.devices entries (name, b)
  known_same state =
      let bytes = folded name in
      known_as natives.devices (binding_in entries bytes) (binding_in [] bytes) (native_under natives bytes) b refl (state.settled bytes) ∙ (ap (λ t. broken rules.DuplicateName t ++ binding_breaks natives.devices (option_map function_of (native_under natives bytes)) b) (taken_entry entries name) ∙ ap (λ o. broken rules.DuplicateName (is_taken entry_name entries name) ++ binding_breaks natives.devices o b) (sym (native_named-same scripts natives name h)))

  pub default_same : (defaults : List (List ℕ × Binding)) → binding_in defaults (folded name) ≡ None → AreSettled scripts entries defaults natives → default_known_breaks natives.devices (native_under natives (folded name)) b ≡ default_breaks scripts natives.devices entries (name, b)
  default_same defaults none state =
      let bytes = folded name in
      let has = not (has_device natives.devices b) in
      default_as natives.devices (binding_in entries bytes) (binding_in defaults bytes) (native_under natives bytes) b none (state.settled bytes) ∙ (ap (λ t. broken rules.NoDevice (has && (is_some (option_map function_of (native_under natives bytes)) && not t))) (taken_entry entries name) ∙ ap (λ o. broken rules.NoDevice (has && (is_some o && not (is_taken entry_name entries name)))) (sym (native_named-same scripts natives name h)))

-- the same at the number of devices at the start
pub default_told : (scripts : List OutlineScript) (natives : Natives) (devices : ℕ) (entries : List (List ℕ × Binding)) (name : List ℕ) (b : Binding) (defaults : List (List ℕ × Binding)) → AreNatives scripts natives → natives.devices ≡ devices → binding_in defaults (folded name) ≡ None → AreSettled scripts entries defaults natives
    → default_known_breaks natives.devices (native_under natives (folded name)) b ≡ default_breaks scripts devices entries (name, b)
default_told scripts natives devices entries name b defaults h same none state =
    default_same scripts natives entries name b h defaults none state ∙ ap (λ d. default_breaks scripts d entries (name, b)) same

-- ---- after one binding

no_entry : (entry default : Option Binding) → option_or entry default ≡ None → entry ≡ None
no_entry None default e = refl
no_entry (Some b) default e = e

keeps_other : (entries : List (List ℕ × Binding)) (entry : List ℕ × Binding) (bytes : List ℕ) → bytes_eq bytes (folded (entry_name entry)) ≡ false → binding_in (entries ++ entry ∷ []) bytes ≡ binding_in entries bytes
keeps_other entries entry bytes other =
    binding_in-push entries entry bytes ∙ (ap (option_or (binding_in entries bytes)) (binding_in-other entry bytes other) ∙ or_none (binding_in entries bytes))

gives_this : (entries : List (List ℕ × Binding)) (name : List ℕ) (b : Binding) → binding_in entries (folded name) ≡ None → binding_in (entries ++ (name, b) ∷ []) (folded name) ≡ Some b
gives_this entries name b none =
    let bytes = folded name in
    binding_in-push entries (name, b) bytes ∙ (ap (λ o. option_or o (binding_in ((name, b) ∷ []) bytes)) none ∙ binding_in-this (name, b) bytes ((bytes_decides bytes bytes).1 refl))

-- by whether two names are one
by_name : (bytes name : List ℕ) (P : List ℕ → Type 0) → P name → (bytes_eq bytes name ≡ false → P bytes) → P bytes
by_name bytes name P here other =
    ⊎_elim (λ (e : bytes_eq bytes name ≡ true). subst P (sym ((bytes_decides bytes name).0 e)) here) other (cases_Bool (bytes_eq bytes name))

kept_allowed : (function : OutlineFunction) (b : Binding) → allows function b ≡ true → kept_if (allows function) (Some b) ≡ Some b
kept_allowed function b may = cond-true (allows function b) (Some b) None may

module _ (scripts : List OutlineScript) (old new : Natives) (name : List ℕ) (b : Binding) (natives : AreNatives scripts old) (h : Binds old new (folded name) b) where
  abbrev bound : Native
  bound = record h.native { binding = Some b }

  was_here : native_under old (folded name) ≡ Some h.native
  was_here = ap (option_and_then (slice_get old.natives.items)) h.found ∙ (slice_get-get_or old.natives.items h.number h.native h.inside ∙ ap Some (sym h.is))

  under_here : native_under new (folded name) ≡ Some bound
  under_here =
      ap (λ t. option_and_then (slice_get new.natives.items) (number_in t (folded name))) h.names ∙ (ap (option_and_then (slice_get new.natives.items)) h.found ∙ (ap (λ xs. slice_get xs h.number) h.items ∙ set_here old.natives.items h.number bound h.inside))

  key_is : native_key scripts h.native ≡ folded name
  key_is =
      ap (native_key scripts) h.is ∙ IsPlaceTable-named (native_name scripts) old.natives.items old.names (folded name) h.number h.native natives.tabled h.found

  other_number : (bytes : List ℕ) (k : Option ℕ) → bytes_eq bytes (folded name) ≡ false → number_in old.names bytes ≡ k → option_and_then (slice_get (set old.natives.items h.number bound)) k ≡ option_and_then (slice_get old.natives.items) k
  other_number bytes None other is = refl
  other_number bytes (Some k) other is =
      let apart : k ≡ h.number → ⊥ = λ e.
      let there = IsPlaceTable-named (native_name scripts) old.natives.items old.names bytes k h.native natives.tabled is in
      let here = IsPlaceTable-named (native_name scripts) old.natives.items old.names (folded name) h.number h.native natives.tabled h.found in
      let same : bytes ≡ folded name = sym there ∙ (ap (λ n. folded (native_name scripts (get_or old.natives.items n h.native))) e ∙ here) in
      true≢false (sym ((bytes_decides bytes (folded name)).1 same) ∙ other) in
      set_apart old.natives.items h.number k bound apart

  under_other : (bytes : List ℕ) → bytes_eq bytes (folded name) ≡ false → native_under new bytes ≡ native_under old bytes
  under_other bytes other =
      ap (λ t. option_and_then (slice_get new.natives.items) (number_in t bytes)) h.names ∙ (ap (λ xs. option_and_then (slice_get xs) (number_in old.names bytes)) h.items ∙ other_number bytes (number_in old.names bytes) other refl)

  firsts : (entries defaults : List (List ℕ × Binding)) → AreSettled scripts entries defaults old → (n : ℕ) (native : Native) → slice_get new.natives.items n ≡ Some native → IfSome native.binding (λ _. number_in new.names (native_key scripts native) ≡ Some n)
  firsts entries defaults state n native at =
      let there : slice_get (set old.natives.items h.number bound) n ≡ Some native = ap (λ xs. slice_get xs n) (sym h.items) ∙ at in
      ⊎_elim
      (λ (here : (n ≡ h.number) × (bound ≡ native)).
      let known : number_in new.names (native_key scripts bound) ≡ Some n = ap (λ t. number_in t (native_key scripts bound)) h.names ∙ (ap (number_in old.names) key_is ∙ (h.found ∙ ap Some (sym here.0))) in
      subst (λ (x : Native). IfSome x.binding (λ _. number_in new.names (native_key scripts x) ≡ Some n)) here.1 known)
      (λ (e : slice_get old.natives.items n ≡ Some native). subst (λ t. IfSome native.binding (λ _. number_in t (native_key scripts native) ≡ Some n)) (sym h.names) (state.first n native e))
      (set_split old.natives.items h.number n bound native there)

  no_entry_here : (entries defaults : List (List ℕ × Binding)) → AreSettled scripts entries defaults old → binding_in entries (folded name) ≡ None
  no_entry_here entries defaults state =
      let bytes = folded name in
      let own = subst (IsSettled entries defaults bytes) was_here (state.settled bytes) in
      no_entry (binding_in entries bytes) (kept_if (allows h.native.function.now) (binding_in defaults bytes)) (sym own ∙ h.unbound)

  -- an entry more was tried
  pub AreSettled-entry : (entries : List (List ℕ × Binding)) → AreSettled scripts entries [] old → AreSettled scripts (entries ++ (name, b) ∷ []) [] new
  AreSettled-entry entries state =
      let more = entries ++ (name, b) ∷ [] in
      let given : binding_in more (folded name) ≡ Some b = gives_this entries name b (no_entry_here entries [] state) in
      let here : Some b ≡ option_or (binding_in more (folded name)) None = sym (ap (λ o. option_or o None) given) in
      record {
        settled = λ bytes. by_name bytes (folded name) (λ bs. IsSettled more [] bs (native_under new bs))
            (subst (IsSettled more [] (folded name)) (sym under_here) here)
            (λ other. subst (IsSettled more [] bytes) (sym (under_other bytes other)) (subst (λ o. IsSettledBy o None (native_under old bytes)) (sym (keeps_other entries (name, b) bytes other)) (state.settled bytes)));
        first = firsts entries [] state;
      }

  -- a default binding more was tried, and given
  AreSettled-given : (entries defaults : List (List ℕ × Binding)) → binding_in defaults (folded name) ≡ None → AreSettled scripts entries defaults old → AreSettled scripts entries (defaults ++ (name, b) ∷ []) new
  AreSettled-given entries defaults none state =
      let more = defaults ++ (name, b) ∷ [] in
      let kept : kept_if (allows h.native.function.now) (binding_in more (folded name)) ≡ Some b = ap (kept_if (allows h.native.function.now)) (gives_this defaults name b none) ∙ kept_allowed h.native.function.now b h.allowed in
      let here : Some b ≡ option_or (binding_in entries (folded name)) (kept_if (allows h.native.function.now) (binding_in more (folded name))) =
      sym (ap (λ o. option_or o (kept_if (allows h.native.function.now) (binding_in more (folded name)))) (no_entry_here entries defaults state) ∙ kept) in
      record {
        settled = λ bytes. by_name bytes (folded name) (λ bs. IsSettled entries more bs (native_under new bs))
            (subst (IsSettled entries more (folded name)) (sym under_here) here)
            (λ other. subst (IsSettled entries more bytes) (sym (under_other bytes other)) (subst (λ o. IsSettledBy (binding_in entries bytes) o (native_under old bytes)) (sym (keeps_other defaults (name, b) bytes other)) (state.settled bytes)));
        first = firsts entries defaults state;
      }

-- a default binding that is left out leaves the native as it is
left_native : (native : Native) (entry : Option Binding) (b : Binding) (may : Bool) → allows native.function.now b ≡ may → native.binding ≡ entry → (is_some native.binding || not may) ≡ true → native.binding ≡ option_or entry (kept_if (allows native.function.now) (Some b))
left_native native (Some e) b may is own out = own
left_native native None b false is own out = own ∙ sym (cond-false (allows native.function.now b) (Some b) None is)
left_native native None b true is own out = absurd (true≢false (sym out ∙ ap (λ o. is_some o || false) own))

left_known : (entry default : Option Binding) (known : Option Native) (b : Binding) → default ≡ None → IsLeftOut known b → IsSettledBy entry default known → IsSettledBy entry (Some b) known
left_known entry default None b none out h = h
left_known entry default (Some native) b none out h =
    left_native native entry b (allows native.function.now b) refl (settled_entry entry default native none h) out

AreSettled-left : (scripts : List OutlineScript) (natives : Natives) (name : List ℕ) (b : Binding) (entries defaults : List (List ℕ × Binding)) → binding_in defaults (folded name) ≡ None → IsLeftOut (native_under natives (folded name)) b → AreSettled scripts entries defaults natives → AreSettled scripts entries (defaults ++ (name, b) ∷ []) natives
AreSettled-left scripts natives name b entries defaults none out state =
    let more = defaults ++ (name, b) ∷ [] in
    let known = native_under natives (folded name) in
    record {
      settled = λ bytes. by_name bytes (folded name) (λ bs. IsSettled entries more bs (native_under natives bs))
          (subst (λ o. IsSettledBy (binding_in entries (folded name)) o known) (sym (gives_this defaults name b none)) (left_known (binding_in entries (folded name)) (binding_in defaults (folded name)) known b none out (state.settled (folded name))))
          (λ other. subst (λ o. IsSettledBy (binding_in entries bytes) o (native_under natives bytes)) (sym (keeps_other defaults (name, b) bytes other)) (state.settled bytes));
      first = state.first;
    }

-- a default binding more was tried
pub AreSettled-default : (scripts : List OutlineScript) (old new : Natives) (name : List ℕ) (b : Binding) (entries defaults : List (List ℕ × Binding)) → AreNatives scripts old → binding_in defaults (folded name) ≡ None → BindsDefault old new (folded name) b → AreSettled scripts entries defaults old
    → AreSettled scripts entries (defaults ++ (name, b) ∷ []) new
AreSettled-default scripts old new name b entries defaults natives none (inl h) state =
    AreSettled-given scripts old new name b natives h entries defaults none state
AreSettled-default scripts old new name b entries defaults natives none (inr h) state =
    subst (AreSettled scripts entries (defaults ++ (name, b) ∷ [])) (sym h.0) (AreSettled-left scripts old name b entries defaults none h.1 state)

-- natives without bindings, before any was tried
unbound_under : (items : List Native) (n : Option ℕ) → All IsUnbound items → IsSettledBy None None (option_and_then (slice_get items) n)
unbound_under items None h = refl
unbound_under [] (Some n) h = refl
unbound_under (x ∷ xs) (Some zero) h = All-head IsUnbound x xs h
unbound_under (x ∷ xs) (Some (suc n)) h = unbound_under xs (Some n) (All-tail IsUnbound x xs h)

unbound_at : (items : List Native) (n : ℕ) (native : Native) → slice_get items n ≡ Some native → All IsUnbound items → native.binding ≡ None
unbound_at [] n native at h = absurd (none-some native at)
unbound_at (x ∷ xs) zero native at h = subst (λ (y : Native). y.binding ≡ None) (same_Some x native at) (All-head IsUnbound x xs h)
unbound_at (x ∷ xs) (suc n) native at h = unbound_at xs n native at (All-tail IsUnbound x xs h)

pub AreSettled-none : (scripts : List OutlineScript) (natives : Natives) → All IsUnbound natives.natives.items → AreSettled scripts [] [] natives
AreSettled-none scripts natives h = record {
  settled = λ bytes. unbound_under natives.natives.items (number_in natives.names bytes) h;
  first = λ n native at. subst (λ o. IfSome o (λ _. number_in natives.names (native_key scripts native) ≡ Some n)) (sym (unbound_at natives.natives.items n native at h)) tt;
}

-- ---- natives without binding

early_place : {X : Type 0} (p : X → Bool) (before rest : List X) → is_some (find p before) ≡ true → position_or_len p (before ++ rest) < length before
early_place p [] rest h = absurd (true≢false (sym h))
early_place p (x ∷ xs) rest h =
    ⊎_elim
    (λ (e : p x ≡ true). let first : position_or_len p (x ∷ (xs ++ rest)) ≡ 0 = cond-false (not (p x)) (1 + position_or_len p (xs ++ rest)) 0 (ap not e) in omega arith)
    (λ (e : p x ≡ false).
    let more = early_place p xs rest (ap is_some (sym (cond-false (p x) (Some x) (find p xs) e)) ∙ h) in
    let first : position_or_len p (x ∷ (xs ++ rest)) ≡ 1 + position_or_len p (xs ++ rest) = cond-true (not (p x)) (1 + position_or_len p (xs ++ rest)) 0 (ap not e) in
    omega arith)
    (cases_Bool (p x))

own_place : {X : Type 0} (p : X → Bool) (before : List X) (x : X) (rest : List X) → is_some (find p before) ≡ false → p x ≡ true → position_or_len p (before ++ x ∷ rest) ≡ length before
own_place p [] x rest h own = cond-false (not (p x)) (1 + position_or_len p rest) 0 (ap not own)
own_place p (y ∷ ys) x rest h own =
    ⊎_elim
    (λ (e : p y ≡ true). absurd (true≢false (sym (ap is_some (cond-true (p y) (Some y) (find p ys) e)) ∙ h)))
    (λ (e : p y ≡ false).
    let more = own_place p ys x rest (ap is_some (sym (cond-false (p y) (Some y) (find p ys) e)) ∙ h) own in
    let first : position_or_len p (y ∷ (ys ++ x ∷ rest)) ≡ 1 + position_or_len p (ys ++ x ∷ rest) = cond-true (not (p y)) (1 + position_or_len p (ys ++ x ∷ rest)) 0 (ap not e) in
    omega arith)
    (cases_Bool (p y))

seam : {X : Type 0} (before : List X) (x : X) (rest : List X) → slice_get (before ++ x ∷ rest) (length before) ≡ Some x
seam [] x rest = refl
seam (y ∷ ys) x rest = seam ys x rest

seam_or : {X : Type 0} (before : List X) (x : X) (rest : List X) → x ≡ get_or (before ++ x ∷ rest) (length before) x
seam_or [] x rest = refl
seam_or (y ∷ ys) x rest = seam_or ys x rest

position_is : {X : Type 0} (p : X → Bool) (xs : List X) (n : ℕ) → position p xs ≡ Some n → position_or_len p xs ≡ n
position_is p xs n e =
    ⊎_elim
    (λ (lt : position_or_len p xs < length xs). same_Some _ n (sym (cond-true (nat_lt (position_or_len p xs) (length xs)) (Some (position_or_len p xs)) None (lt-ltb _ _ lt)) ∙ e))
    (λ (le : length xs ≤ position_or_len p xs). absurd (none-some n (sym (cond-false (nat_lt (position_or_len p xs) (length xs)) (Some (position_or_len p xs)) None (le-ltb _ _ le)) ∙ e)))
    (cases_lt (position_or_len p xs) (length xs))

position_at : {X : Type 0} (p : X → Bool) (xs : List X) (n : ℕ) → position_or_len p xs ≡ n → n < length xs → position p xs ≡ Some n
position_at p xs n e lt =
    let inside : position_or_len p xs < length xs = omega arith in
    cond-true (nat_lt (position_or_len p xs) (length xs)) (Some (position_or_len p xs)) None (lt-ltb _ _ inside) ∙ ap Some e

unbound_later : (o : Option Binding) (P : Type 0) → IfSome o (λ _. P) → (P → ⊥) → o ≡ None
unbound_later None P h other = refl
unbound_later (Some b) P h other = absurd (other h)

module _ (scripts : List OutlineScript) (entries : List (List ℕ × Binding)) (natives : Natives) (h : AreNatives scripts natives) (state : AreSettled scripts entries default_entries natives) where
  module _ (before : List Native) (x : Native) (rest : List Native) (whole : before ++ x ∷ rest ≡ natives.natives.items) where
    inside : length before < length natives.natives.items
    inside = subst (λ xs. length before < length xs) whole (omega (arith, length-append before (x ∷ rest)))

    holds : HoldsNative scripts natives.devices x
    holds =
        let own = All-get_or (HoldsNative scripts natives.devices) natives.natives.items (length before) x inside h.hold in
        subst (HoldsNative scripts natives.devices) (sym (seam_or before x rest ∙ ap (λ xs. get_or xs (length before) x) whole)) own

    abbrev bears : Native → Bool
    bears y = bytes_eq (native_key scripts x) (native_key scripts y)

    place_here : (n : ℕ) → number_in natives.names (native_key scripts x) ≡ Some n → position_or_len bears (before ++ x ∷ rest) ≡ n
    place_here n known =
        position_is bears (before ++ x ∷ rest) n (ap (position bears) whole ∙ (sym (h.tabled (native_key scripts x)) ∙ known))

    at_here : slice_get natives.natives.items (length before) ≡ Some x
    at_here = subst (λ xs. slice_get xs (length before) ≡ Some x) whole (seam before x rest)

    -- a native of a name that an earlier one has is unbound
    shadowed : is_some (find bears before) ≡ true → x.binding ≡ None
    shadowed taken =
        unbound_later x.binding (number_in natives.names (native_key scripts x) ≡ Some (length before)) (state.first (length before) x at_here)
        (λ known. let early = early_place bears before (x ∷ rest) taken in let here = place_here (length before) known in absurd (omega arith))

    -- another one has the binding of its name
    own_binding : is_some (find bears before) ≡ false → x.binding ≡ option_or (binding_in entries (native_key scripts x)) (default_for (native_key scripts x) x.function.now)
    own_binding free =
        let key = native_key scripts x in
        let place : position_or_len bears natives.natives.items ≡ length before = ap (position_or_len bears) (sym whole) ∙ own_place bears before x rest free ((bytes_decides key key).1 refl) in
        let known : number_in natives.names key ≡ Some (length before) = h.tabled key ∙ position_at bears natives.natives.items (length before) place inside in
        let under : native_under natives key ≡ Some x = ap (option_and_then (slice_get natives.natives.items)) known ∙ at_here in
        subst (IsSettled entries default_entries key) under (state.settled key)

    unbound_here : (taken : Bool) → is_some (find bears before) ≡ taken → is_none x.binding ≡ (taken || not (is_bound entries (native_key scripts x) (Some x.function.now)))
    unbound_here true is = ap is_none (shadowed is)
    unbound_here false is = ap is_none (own_binding is)

    left_same : All (HoldsNative scripts natives.devices) before → unbound_breaks scripts entries (map native_place before) (native_place x) ≡ left_breaks x
    left_same held =
        let key = native_key scripts x in
        let named = same_name scripts natives.devices x holds in
        let judge = λ (name : List ℕ) (function : Option OutlineFunction). broken rules.UnboundNative (is_taken (name_at scripts) (map native_place before) name || not (is_bound entries (folded name) function)) in
        let bound = not (is_bound entries key (Some x.function.now)) in
        ap (λ name. judge name (native_at scripts (native_place x))) named ∙ (ap (judge (native_name scripts x)) holds.there ∙ (ap (λ taken. broken rules.UnboundNative (taken || bound)) (taken_named scripts natives.devices before key held) ∙ ap (broken rules.UnboundNative) (sym (unbound_here (is_some (find bears before)) refl))))

  left_from : (before rest : List Native) → before ++ rest ≡ natives.natives.items → All (HoldsNative scripts natives.devices) before → in_turn (unbound_breaks scripts entries) (map native_place before) (map native_place rest) ≡ flat_map left_breaks rest
  left_from before [] whole held = refl
  left_from before (x ∷ rest) whole held =
      let own = holds before x rest whole in
      let later = left_from (before ++ x ∷ []) rest (append_assoc before (x ∷ []) rest ∙ whole) (All-push (HoldsNative scripts natives.devices) before x held own) in
      ap (λ rules. rules ++ in_turn (unbound_breaks scripts entries) (map native_place before ++ native_place x ∷ []) (map native_place rest)) (left_same before x rest whole held) ∙ ap (λ rules. left_breaks x ++ rules) (ap (λ places. in_turn (unbound_breaks scripts entries) places (map native_place rest)) (sym (map-append native_place before (x ∷ []))) ∙ later)

  pub unbound_same : in_turn (unbound_breaks scripts entries) [] (native_places scripts) ≡ flat_map left_breaks natives.natives.items
  unbound_same =
      ap (in_turn (unbound_breaks scripts entries) []) (sym h.each_once) ∙ left_from [] natives.natives.items refl (λ k d lt. absurd (omega arith))
