-- The list of natives after one was bound.
use Rattle.std.proofs.Common.{ℕ, zero, suc, ◌≡◌, ◌<◌, ◌+◌, ◌⊎◌, ⊎_elim, inl, inr, Bool, true, false, cond, Option, List, [], ◌∷◌, ◌++◌, map, drop, length, get_or, nat_lt, ◌&&◌, Some, None, is_some, IfSome, refl, ap, sym, subst, ◌∙◌, append_assoc, arith}
use Rattle.std.specs.List.{All, find, slice_get}
use Rattle.std.proofs.Math.ListN.{set}
use Rattle.std.specs.Cmp.Lexicographic.{bytes_decides}
use Rattle.std.specs.Option.{option_map, option_or}
use Rattle.std.specs.Str.{bytes_eq}
use Rattle.std.proofs.lemmas.Bool.{true≢false, cases_Bool, cond-false, cond-true, lt-ltb}
use Rattle.std.proofs.lemmas.List.{drop_more, map-set, set-get_or, get_or-map}
use Rattle.std.proofs.lemmas.List.Elements.{All-get_or, All-set, All-weaker}
use Rattle.std.proofs.lemmas.Option.{IfSome_then, none-some, same_Some, slice_get_read}
use Rattle.papy_base.specs.Case.{folded}
use Rattle.papy_base.specs.Table.{IsPlaceTable, Notes, number_in}
use Rattle.papy_base.proofs.TableLemmas.{IsPlaceTable-push}
use Rattle.core_tree.specs.declared.outline.OutlineFunction.{OutlineFunction}
use Rattle.core_tree.specs.declared.outline.OutlineScript.{OutlineScript}
use Rattle.core_tree.specs.declared.scene_tree.Binding.{Binding}
use Rattle.scene_binder.specs.declared.natives.Native.{Native}
use Rattle.scene_binder.specs.declared.natives.Natives.{Natives}
use Rattle.scene_binder.specs.Bound.{IsBoundNative}
use Rattle.scene_binder.specs.Meant.{IsNativeMeant, binding_in, binding_meant, default_entries, full_name}
use Rattle.core_tree.specs.Outlines.{name_in}
use Rattle.scene_binder.specs.Names.{entry_name}
use Rattle.scene_binder.specs.NativeList.{Adds, AreBoundBy, AreLeft, AreMeant, AreNatives, AreTabled, HasEntry, HasMeaning, HoldsNative, IsUnbound, MayDo, native_key, native_name, native_place}
use Rattle.scene_binder.specs.Natives.{native_place_here, native_places_from, native_places_in, native_places_of}
use Rattle.scene_binder.proofs.NameLemmas.{IsPlaceTable-named, IsPlaceTable-set}

-- after one native got a binding that its types allow
pub AreNatives-bind : (scripts : List OutlineScript) (old new : Natives) (n : ℕ) (native : Native) (b : Binding) → n < length old.natives.items → native ≡ get_or old.natives.items n native
    → new.natives.items ≡ set old.natives.items n (record native { binding = Some b }) → new.names ≡ old.names → new.devices ≡ old.devices → MayDo old.devices native.function.now b → AreNatives scripts old → AreNatives scripts new
AreNatives-bind scripts old new n native b lt is now names same may h =
    let items = old.natives.items in
    let holds = HoldsNative scripts old.devices in
    let bound = record native { binding = Some b } in
    let own : HoldsNative scripts old.devices native = subst holds (sym is) (All-get_or holds items n native lt h.hold) in
    let put : HoldsNative scripts old.devices bound = record { there = own.there; is_native = own.is_native; binding = may } in
    let place : native_place bound ≡ get_or (map native_place items) n (native_place native) =
    ap native_place is ∙ sym (get_or-map native_place items n native (native_place native) lt) in
    record {
      each_once = ap (map native_place) now ∙ (map-set native_place items n bound ∙ (ap (λ p. set (map native_place items) n p) place ∙ (set-get_or (map native_place items) n (native_place native) ∙ h.each_once)));
      hold = subst (λ d. All (HoldsNative scripts d) new.natives.items) (sym same) (subst (All holds) (sym now) (All-set holds items n bound put h.hold));
      tabled = subst (λ table. IsPlaceTable (native_name scripts) new.natives.items table) (sym names) (subst (λ natives. IsPlaceTable (native_name scripts) natives old.names) (sym now) (IsPlaceTable-set (native_name scripts) items n bound native old.names (ap (native_name scripts) is) h.tabled));
    }

-- a native that has a binding is a bound one
pub IsBoundNative-from : (scripts : List OutlineScript) (devices : ℕ) (native : Native) (b : Binding) → native.binding ≡ Some b → HoldsNative scripts devices native
    → IsBoundNative scripts devices (record { script = native.script; function = native.place; binding = b })
IsBoundNative-from scripts devices native b is h =
    let may : MayDo devices native.function.now b = subst (λ o. IfSome o (MayDo devices native.function.now)) is h.binding in
    record { function = native.function.now; there = h.there; is_native = h.is_native; types = may.types; device = may.device }

-- the place of a native function
pub native_place_here-is : (number place : ℕ) (function : OutlineFunction) → function.is_native ≡ true → place < 65536 → native_place_here number place function ≡ (number, place) ∷ []
native_place_here-is number place function is fits =
    cond-true (function.is_native && nat_lt place 65536) _ _ (ap (λ b. b && nat_lt place 65536) is ∙ lt-ltb place 65536 fits)

-- the places of one function more, and of those after it
pub places-step : (xs ys : List (ℕ × ℕ)) (number place : ℕ) (functions : List OutlineFunction) (f : OutlineFunction) → place < length functions → f ≡ get_or functions place f → ys ≡ xs ++ native_place_here number place f
    → ys ++ native_places_from number (place + 1) (drop (place + 1) functions) ≡ xs ++ native_places_from number place (drop place functions)
places-step xs ys number place functions f lt is now =
    let rest = native_places_from number (place + 1) (drop (place + 1) functions) in
    let at : drop place functions ≡ f ∷ drop (place + 1) functions = drop_more functions place f lt ∙ ap (λ g. g ∷ drop (place + 1) functions) (sym is) in
    ap (λ zs. zs ++ rest) now ∙ (append_assoc xs (native_place_here number place f) rest ∙ ap (λ fs. xs ++ native_places_from number place fs) (sym at))

-- the same of scripts
pub scripts-step : (xs ys : List (ℕ × ℕ)) (number : ℕ) (scripts : List OutlineScript) (s : OutlineScript) → number < length scripts → s ≡ get_or scripts number s → ys ≡ xs ++ native_places_in number s
    → ys ++ native_places_of (number + 1) (drop (number + 1) scripts) ≡ xs ++ native_places_of number (drop number scripts)
scripts-step xs ys number scripts s lt is now =
    let rest = native_places_of (number + 1) (drop (number + 1) scripts) in
    let at : drop number scripts ≡ s ∷ drop (number + 1) scripts = drop_more scripts number s lt ∙ ap (λ g. g ∷ drop (number + 1) scripts) (sym is) in
    ap (λ zs. zs ++ rest) now ∙ (append_assoc xs (native_places_in number s) rest ∙ ap (λ ss. xs ++ native_places_of number ss) (sym at))

-- what holds after one more was added, at the number of devices at the start
pub hold-step : (scripts : List OutlineScript) (old mid new : Natives) → mid.devices ≡ old.devices → (All (HoldsNative scripts mid.devices) mid.natives.items → All (HoldsNative scripts mid.devices) new.natives.items)
    → All (HoldsNative scripts old.devices) mid.natives.items → All (HoldsNative scripts old.devices) new.natives.items
hold-step scripts old mid new same step h =
    subst (λ d. All (HoldsNative scripts d) new.natives.items) same (step (subst (λ d. All (HoldsNative scripts d) mid.natives.items) (sym same) h))

-- the number of a script that fits, as a number of 16 bits
pub native_places_in-fits : (number fitting : ℕ) (script : OutlineScript) → fitting ≡ number → number < 65536 → native_places_in number script ≡ native_places_from fitting 0 script.functions.items
native_places_in-fits number fitting script same fits =
    cond-true (nat_lt number 65536) _ _ (lt-ltb number 65536 fits) ∙ ap (λ n. native_places_from n 0 script.functions.items) (sym same)

-- the same additions, told by a number of another width
pub Adds-same : (old new : Natives) (script : OutlineScript) (fitting number : ℕ) → fitting ≡ number → native_places_in number script ≡ native_places_from fitting 0 script.functions.items
    → Adds old new (native_places_from fitting 0 script.functions.items) (λ scripts. slice_get scripts fitting ≡ Some script) → Adds old new (native_places_in number script) (λ scripts. slice_get scripts number ≡ Some script)
Adds-same old new script fitting number same places h = record {
  each_once = h.each_once ∙ ap (λ ps. map native_place old.natives.items ++ ps) (sym places);
  hold = λ scripts there. h.hold scripts (ap (slice_get scripts) same ∙ there);
  tabled = λ scripts there. h.tabled scripts (ap (slice_get scripts) same ∙ there);
  unbound = h.unbound;
  devices = h.devices;
  limits = h.limits;
}

-- a table of natives is one of one native more, once its name was noted
pub AreTabled-notes : (scripts : List OutlineScript) (old new : Natives) (native : Native) (script : OutlineScript) → slice_get scripts native.script ≡ Some script → Notes old.names new.names (full_name script.name native.function.now.name) (length old.natives.items)
    → new.natives.items ≡ old.natives.items ++ native ∷ [] → AreTabled scripts old → AreTabled scripts new
AreTabled-notes scripts old new native script there noted grown h =
    let here = subst (λ s. Notes old.names new.names (full_name (name_in s) native.function.now.name) (length old.natives.items)) (sym there) noted in
    subst (λ natives. IsPlaceTable (native_name scripts) natives new.names) (sym grown) (IsPlaceTable-push (native_name scripts) old.natives.items native old.names new.names h here)

cond_or : {X : Type 0} (b : Bool) (x : X) (o other : Option X) → cond b (Some x) (option_or o other) ≡ option_or (cond b (Some x) o) other
cond_or false x o other = refl
cond_or true x o other = refl

find-push : {X : Type 0} (p : X → Bool) (xs : List X) (y : X) → find p (xs ++ y ∷ []) ≡ option_or (find p xs) (find p (y ∷ []))
find-push p [] y = refl
find-push p (x ∷ xs) y =
    ap (cond (p x) (Some x)) (find-push p xs y) ∙ cond_or (p x) x (find p xs) (find p (y ∷ []))

option_map-or : {X Y : Type 0} (f : X → Y) (o other : Option X) → option_map f (option_or o other) ≡ option_or (option_map f o) (option_map f other)
option_map-or f None other = refl
option_map-or f (Some x) other = refl

-- what entries say of a name, with one entry more
pub binding_in-push : (entries : List (List ℕ × Binding)) (entry : List ℕ × Binding) (bytes : List ℕ) → binding_in (entries ++ entry ∷ []) bytes ≡ option_or (binding_in entries bytes) (binding_in (entry ∷ []) bytes)
binding_in-push entries entry bytes =
    let test = λ (e : List ℕ × Binding). bytes_eq bytes (folded (entry_name e)) in
    ap (option_map (λ (e : List ℕ × Binding). e.1)) (find-push test entries entry) ∙ option_map-or (λ (e : List ℕ × Binding). e.1) (find test entries) (find test (entry ∷ []))

pub binding_in-this : (entry : List ℕ × Binding) (bytes : List ℕ) → bytes_eq bytes (folded (entry_name entry)) ≡ true → binding_in (entry ∷ []) bytes ≡ Some entry.1
binding_in-this entry bytes e = ap (option_map (λ x. x.1)) (cond-true (bytes_eq bytes (folded (entry_name entry))) (Some entry) None e)

pub binding_in-other : (entry : List ℕ × Binding) (bytes : List ℕ) → bytes_eq bytes (folded (entry_name entry)) ≡ false → binding_in (entry ∷ []) bytes ≡ None
binding_in-other entry bytes e = ap (option_map (λ x. x.1)) (cond-false (bytes_eq bytes (folded (entry_name entry))) (Some entry) None e)

-- an item of a list of which one was replaced
set_item : {X : Type 0} (xs : List X) (i n : ℕ) (y x : X) → slice_get (set xs i y) n ≡ Some x → (y ≡ x) ⊎ (slice_get xs n ≡ Some x)
set_item [] i n y x e = inr e
set_item (w ∷ xs) zero zero y x e = inl (same_Some y x e)
set_item (w ∷ xs) zero (suc n) y x e = inr e
set_item (w ∷ xs) (suc i) zero y x e = inr e
set_item (w ∷ xs) (suc i) (suc n) y x e = set_item xs i n y x e

set_same : {X : Type 0} (xs : List X) (i : ℕ) (y x : X) → i < length xs → slice_get (set xs i y) i ≡ Some x → y ≡ x
set_same [] i y x lt e = absurd (omega (arith, lt))
set_same (w ∷ xs) zero y x lt e = same_Some y x e
set_same (w ∷ xs) (suc i) y x lt e = set_same xs i y x (omega arith) e

pub none_from : {X : Type 0} (o : Option X) → is_some o ≡ false → o ≡ None
none_from None e = refl
none_from (Some x) e = absurd (true≢false e)

-- a native of a name that is in the table got a binding
module _ (scripts : List OutlineScript) (entries : List (List ℕ × Binding)) (old new : Natives) (n : ℕ) (native : Native) (name : List ℕ) (b : Binding) (lt : n < length old.natives.items) (is : native ≡ get_or old.natives.items n native) (now : new.natives.items ≡ set old.natives.items n (record native { binding = Some b })) (names : new.names ≡ old.names) (found : number_in old.names (folded name) ≡ Some n) (none : native.binding ≡ None) (tabled : AreTabled scripts old) where
  abbrev bound_native : Native
  bound_native = record native { binding = Some b }

  key_is : native_key scripts native ≡ folded name
  key_is = ap (native_key scripts) is ∙ IsPlaceTable-named (native_name scripts) old.natives.items old.names (folded name) n native tabled found

  was_left : AreLeft entries old → binding_in entries (folded name) ≡ None
  was_left left = left (folded name) n native found (slice_get_read old.natives.items (length old.natives.items) n native refl lt is) none

  is_bound : (bytes : List ℕ) (k : ℕ) (other : Native) → number_in new.names bytes ≡ Some k → slice_get new.natives.items k ≡ Some other → other.binding ≡ None → (bytes_eq bytes (folded name) ≡ false) × (slice_get old.natives.items k ≡ Some other) × (number_in old.names bytes ≡ Some k)
  is_bound bytes k other known at left =
      let told : number_in old.names bytes ≡ Some k = ap (λ table. number_in table bytes) (sym names) ∙ known in
      let here : slice_get (set old.natives.items n bound_native) k ≡ Some other = ap (λ xs. slice_get xs k) (sym now) ∙ at in
      let apart : bytes_eq bytes (folded name) ≡ false =
      ⊎_elim
      (λ e.
      let same : bytes ≡ folded name = (bytes_decides bytes (folded name)).0 e in
      let place : n ≡ k = same_Some n k (sym found ∙ (ap (number_in old.names) (sym same) ∙ told)) in
      let this : bound_native ≡ other = set_same old.natives.items n bound_native other lt (ap (λ m. slice_get (set old.natives.items n bound_native) m) place ∙ here) in
      absurd (none-some b (sym (ap (λ x. x.binding) this ∙ left))))
      (λ e. e)
      (cases_Bool (bytes_eq bytes (folded name))) in
      ⊎_elim
      (λ this. absurd (none-some b (sym (ap (λ x. x.binding) this ∙ left))))
      (λ there. (apart, there, told))
      (set_item old.natives.items n k bound_native other here)

  pub AreBoundBy-bind : AreBoundBy scripts entries old → AreBoundBy scripts (entries ++ (name, b) ∷ []) new
  AreBoundBy-bind h =
      let more = entries ++ (name, b) ∷ [] in
      let this : binding_in more (native_key scripts bound_native) ≡ Some b =
      ap (binding_in more) key_is ∙ (binding_in-push entries (name, b) (folded name) ∙ (ap (λ o. option_or o (binding_in ((name, b) ∷ []) (folded name))) (was_left h.left) ∙ binding_in-this (name, b) (folded name) ((bytes_decides (folded name) (folded name)).1 refl))) in
      let keeps = λ (x : Native) (own : HasEntry scripts entries x). IfSome_then x.binding {P = λ v. binding_in entries (native_key scripts x) ≡ Some v} own (λ v e. binding_in-push entries (name, b) (native_key scripts x) ∙ ap (λ o. option_or o (binding_in ((name, b) ∷ []) (native_key scripts x))) e) in
      record {
        bound = subst (All (HasEntry scripts more)) (sym now) (All-set (HasEntry scripts more) old.natives.items n bound_native this (All-weaker (HasEntry scripts entries) (HasEntry scripts more) keeps old.natives.items h.bound));
        left = λ bytes k other known at left.
            let facts = is_bound bytes k other known at left in
            binding_in-push entries (name, b) bytes ∙ (ap (λ o. option_or o (binding_in ((name, b) ∷ []) bytes)) (h.left bytes k other facts.2 facts.1 left) ∙ binding_in-other (name, b) bytes facts.0);
      }

  pub AreMeant-bind : binding_in default_entries (folded name) ≡ Some b → AreMeant scripts entries old → AreMeant scripts entries new
  AreMeant-bind default h =
      let this : binding_meant entries (native_key scripts bound_native) ≡ Some b =
      ap (binding_meant entries) key_is ∙ (ap (λ o. option_or o (binding_in default_entries (folded name))) (was_left h.left) ∙ default) in
      record {
        bound = subst (All (HasMeaning scripts entries)) (sym now) (All-set (HasMeaning scripts entries) old.natives.items n bound_native this h.bound);
        left = λ bytes k other known at left.
            let facts = is_bound bytes k other known at left in
            h.left bytes k other facts.2 facts.1 left;
      }

-- natives without bindings are bound by no entry
pub AreBoundBy-none : (scripts : List OutlineScript) (natives : Natives) → All IsUnbound natives.natives.items → AreBoundBy scripts [] natives
AreBoundBy-none scripts natives h = record {
  bound = All-weaker IsUnbound (HasEntry scripts []) (λ x none. subst (λ o. IfSome o (λ v. binding_in [] (native_key scripts x) ≡ Some v)) (sym none) tt) natives.natives.items h;
  left = λ bytes n native known at left. refl;
}

-- what entries say stands before what is said without an entry
pub AreMeant-from : (scripts : List OutlineScript) (entries : List (List ℕ × Binding)) (natives : Natives) → AreBoundBy scripts entries natives → AreMeant scripts entries natives
AreMeant-from scripts entries natives h = record {
  bound = All-weaker (HasEntry scripts entries) (HasMeaning scripts entries) (λ x own. IfSome_then x.binding {P = λ v. binding_in entries (native_key scripts x) ≡ Some v} own (λ v e. ap (λ o. option_or o (binding_in default_entries (native_key scripts x))) e)) natives.natives.items h.bound;
  left = h.left;
}

-- a native that has a binding does what is said of its name
pub IsNativeMeant-from : (scripts : List OutlineScript) (devices : ℕ) (entries : List (List ℕ × Binding)) (native : Native) (b : Binding) → native.binding ≡ Some b → HoldsNative scripts devices native → HasMeaning scripts entries native
    → IsNativeMeant scripts entries (record { script = native.script; function = native.place; binding = b })
IsNativeMeant-from scripts devices entries native b is h own = record {
  function = native.function.now;
  there = h.there;
  binding = subst (λ o. IfSome o (λ v. binding_meant entries (native_key scripts native) ≡ Some v)) is own;
}
