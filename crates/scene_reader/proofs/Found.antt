-- What parts are read as, put together.
use Rattle.std.proofs.Common.{ℕ, zero, suc, ◌≡◌, ◌<◌, ◌||◌, Bool, true, false, List, [], ◌∷◌, ◌++◌, length, get_or, map, Option, Some, None, refl, sym, ap, subst, ◌∙◌, arith}
use Rattle.std.specs.Prelude.{nat_le, nat_lt, string_bytes, Result, Ok, Err, drop}
use Rattle.std.proofs.lemmas.Bool.{cond-false, cond-true, le-leb, lt-leb, ltb-false, ltb-true}
use Rattle.std.specs.List.{list_any}
use Rattle.serde_json.specs.Find.{as_object}
use Rattle.serde_json.specs.Data.{Data}
use Rattle.serde_json.specs.View.{items_view, members_view, view}
use Rattle.serde_json.specs.declared.value.Value.{Value}
use Rattle.serde_json.proofs.Views.{Entry}
use Rattle.scene_reader.specs.declared.fault.PartFault.{PartFault}
use Rattle.scene_reader.specs.declared.fault.PartFault.TheVariants as faults
use Rattle.core_tree.specs.declared.scene_tree.SceneTree.{SceneTree}
use Rattle.std.specs.Prelude.{if◌then◌else◌}
use Rattle.std.proofs.lemmas.Bool.{true≢false}
use Rattle.std.proofs.lemmas.Option.{none-some}
use Rattle.scene_reader.specs.Plan.{ScenePlan, scene_plan}
use Rattle.scene_reader.specs.SceneOf.{keys, of_version, scene, version_in}
use Rattle.scene_reader.specs.SceneText.{IsFaultByRule, IsRefusedBy, IsScene, IsTextFault, json_in, json_rule, judged, part_fault, scene_of_json, scene_of_text, text_rule}
use Rattle.scene_reader.specs.declared.fault.SceneFault.{SceneFault}
use Rattle.scene_reader.specs.declared.fault.SceneFault.TheVariants as told
use Rattle.scene_reader.specs.declared.fault.SceneRule.{SceneRule}
use Rattle.scene_reader.specs.declared.fault.SceneRule.TheVariants.{Limit, Shape}
use Rattle.scene_reader.specs.Reading.{Reading, Misshapen, Excessive, Fits, Finds, IsFound, IsPartFault, both, closed, has_only, each_item, each_member, limited, reading_map, within}

-- ---- a part without its form

pub lost : {A B : Type 0} (r : Reading A) (whole : Reading B) (e : PartFault) → (r ≡ Misshapen → whole ≡ Misshapen) → IsPartFault r e → IsPartFault whole e
lost r whole faults.Shape h is = h is
lost r whole faults.OutOfMemory h is = tt

pub map_lost : {A B : Type 0} (f : A → B) (r : Reading A) → r ≡ Misshapen → reading_map f r ≡ Misshapen
map_lost f r is = ap (reading_map f) is

pub both_lost : {A B : Type 0} (r : Reading A) (s : Reading B) → r ≡ Misshapen → both r s ≡ Misshapen
both_lost r s is = ap (λ x. both x s) is

both_then : {A B : Type 0} (r : Reading A) → both {B = B} r Misshapen ≡ Misshapen
both_then Misshapen = refl
both_then Excessive = refl
both_then (Fits a) = refl

pub then_lost : {A B : Type 0} (r : Reading A) (s : Reading B) → s ≡ Misshapen → both r s ≡ Misshapen
then_lost r s is = ap (both r) is ∙ both_then r

-- ---- parts that are found

pub found_map : {A B : Type 0} (f : A → B) (before after : Bool) (r : Reading A) (a : A) → IsFound before after r a → IsFound before after (reading_map f r) (f a)
found_map f before after Misshapen a h = h
found_map f before after Excessive a h = h
found_map f before after (Fits x) a h = (ap f h.0, h.1)

pub found_both : {A B : Type 0} (b0 b1 b2 : Bool) (r : Reading A) (s : Reading B) (x : A) (y : B) → IsFound b0 b1 r x → IsFound b1 b2 s y → IsFound b0 b2 (both r s) (x, y)
found_both b0 b1 b2 Misshapen s x y h k = h
found_both b0 b1 b2 Excessive Misshapen x y h k = k
found_both b0 b1 b2 Excessive Excessive x y h k = k
found_both b0 b1 b2 Excessive (Fits b) x y h k = k.1 ∙ h
found_both b0 b1 b2 (Fits a) Misshapen x y h k = k
found_both b0 b1 b2 (Fits a) Excessive x y h k = k
found_both b0 b1 b2 (Fits a) (Fits b) x y h k = (rw (h.0, k.0), k.1 ∙ h.1)

pub found_three : {A B C D : Type 0} (f : A × (B × C) → D) (b0 b1 b2 b3 : Bool) (r : Reading A) (s : Reading B) (t : Reading C) (x : A) (y : B) (z : C)
    → IsFound b0 b1 r x → IsFound b1 b2 s y → IsFound b2 b3 t z → IsFound b0 b3 (reading_map f (both r (both s t))) (f (x, (y, z)))
found_three f b0 b1 b2 b3 r s t x y z h k l = found_map f b0 b3 (both r (both s t)) (x, (y, z)) (found_both b0 b1 b3 r (both s t) x (y, z) h (found_both b1 b2 b3 s t y z k l))

pub found_four : {A B C D E : Type 0} (f : A × (B × (C × D)) → E) (b0 b1 b2 b3 b4 : Bool) (r : Reading A) (s : Reading B) (t : Reading C) (u : Reading D) (x : A) (y : B) (z : C) (v : D)
    → IsFound b0 b1 r x → IsFound b1 b2 s y → IsFound b2 b3 t z → IsFound b3 b4 u v → IsFound b0 b4 (reading_map f (both r (both s (both t u)))) (f (x, (y, (z, v))))
found_four f b0 b1 b2 b3 b4 r s t u x y z v h k l m =
    found_map f b0 b4 (both r (both s (both t u))) (x, (y, (z, v)))
    (found_both b0 b1 b4 r (both s (both t u)) x (y, (z, v)) h (found_both b1 b2 b4 s (both t u) y (z, v) k (found_both b2 b3 b4 t u z v l m)))

-- a part that passes no limit: nothing is noted, whatever was before
pub found_plain : {A : Type 0} (b : Bool) (r : Reading A) (a : A) → IsFound false false r a → IsFound b b r a
found_plain b Misshapen a h = h
found_plain b Excessive a h = absurd (cc)
found_plain b (Fits x) a h = (h.0, refl)

pub found_as : {A : Type 0} (before after : Bool) (r s : Reading A) (a b : A) → r ≡ s → a ≡ b → IsFound before after r a → IsFound before after s b
found_as before after r s a b same is h = rw (sym same, sym is) h

-- a fault is the same whatever was noted
pub finds_plain : {A B : Type 0} (b : Bool) (r : Reading B) (plan : A → B) (result : Result A PartFault) → Finds false false r plan result → Finds b b r plan result
finds_plain b r plan (Ok a) h = found_plain b r (plan a) h
finds_plain b r plan (Err e) h = h

pub map_same : {A : Type 0} (xs : List A) → map (λ x. x) xs ≡ xs
map_same [] = refl
map_same (x ∷ xs) = ap (λ ys. x ∷ ys) (map_same xs)

pub map_pairs : {A B : Type 0} (xs : List (A × B)) → map (λ e. (e.0, e.1)) xs ≡ xs
map_pairs [] = refl
map_pairs (x ∷ xs) = ap (λ ys. x ∷ ys) (map_pairs xs)

pub found_same : {A : Type 0} (before after : Bool) (r : Reading (List A)) (xs : List A) → IsFound before after r (map (λ x. x) xs) → IsFound before after r xs
found_same before after r xs h = subst (IsFound before after r) (map_same xs) h

pub found_pairs : {A B : Type 0} (before after : Bool) (r : Reading (List (A × B))) (xs : List (A × B)) → IsFound before after r (map (λ e. (e.0, e.1)) xs) → IsFound before after r xs
found_pairs before after r xs h = subst (IsFound before after r) (map_pairs xs) h

pub any_map : {A B : Type 0} (test : B → Bool) (f : A → B) (xs : List A) → list_any test (map f xs) ≡ list_any (λ x. test (f x)) xs
any_map test f [] = refl
any_map test f (x ∷ xs) = ap (λ b. test (f x) || b) (any_map test f xs)

-- ---- objects

pub closed_is : {T : Type 0} (keys : List (List ℕ)) (read : Data → Reading T) (d : Data) → has_only keys (as_object d) ≡ true → closed keys read d ≡ read d
closed_is keys read d is = cond-true (has_only keys (as_object d)) (read d) Misshapen is

pub closed_not : {T : Type 0} (keys : List (List ℕ)) (read : Data → Reading T) (d : Data) → has_only keys (as_object d) ≡ false → closed keys read d ≡ Misshapen
closed_not keys read d is = cond-false (has_only keys (as_object d)) (read d) Misshapen is

pub lost_keys : {T : Type 0} (keys : List (List ℕ)) (read : Data → Reading T) (d : Data) (e : PartFault) → (e ≡ faults.Shape) × (has_only keys (as_object d) ≡ false) → IsPartFault (closed keys read d) e
lost_keys keys read d e h = subst (IsPartFault (closed keys read d)) (sym h.0) (closed_not keys read d h.1)

pub lost_closed : {T : Type 0} (keys : List (List ℕ)) (read : Data → Reading T) (d : Data) → has_only keys (as_object d) ≡ true → read d ≡ Misshapen → closed keys read d ≡ Misshapen
lost_closed keys read d is h = closed_is keys read d is ∙ h

pub found_closed : {T : Type 0} (keys : List (List ℕ)) (read : Data → Reading T) (d : Data) (before after : Bool) (x : T) → has_only keys (as_object d) ≡ true → IsFound before after (read d) x → IsFound before after (closed keys read d) x
found_closed keys read d before after x is h = subst (λ r. IsFound before after r x) (sym (closed_is keys read d is)) h

-- ---- limits

-- the test of a limit, beside the note of one that is passed
within_by : {A : Type 0} (before after keeps : Bool) (a : A) → keeps ≡ true → after ≡ before → IsFound before after (within keeps a) a
within_by before after keeps a is same = rw is (refl, same)

passed_by : {A : Type 0} (before after keeps : Bool) (a x : A) → keeps ≡ false → after ≡ true → IsFound before after (within keeps a) x
passed_by before after keeps a x is same = rw is same

-- more than a limit allows
noted : {A : Type 0} (before after more : Bool) (n most : ℕ) (a : A) → nat_lt most n ≡ more → after ≡ (more || before) → IsFound before after (within (nat_le n most) a) a
noted before after true n most a is same = passed_by before after (nat_le n most) a a (lt-leb n most (ltb-true most n is)) same
noted before after false n most a is same = within_by before after (nat_le n most) a (le-leb n most (ltb-false most n is)) same

pub found_short : {A : Type 0} (before after : Bool) (n most : ℕ) (a : A) → after ≡ (nat_lt most n || before) → IsFound before after (within (nat_le n most) a) a
found_short before after n most a same = noted before after (nat_lt most n) n most a refl same

pub limited_lost : {A : Type 0} (keeps : A → Bool) (r : Reading A) → r ≡ Misshapen → limited keeps r ≡ Misshapen
limited_lost keeps r is = ap (limited keeps) is

kept_true : (b : Bool) → (b || true) ≡ true
kept_true true = refl
kept_true false = refl

pub found_limited : {A : Type 0} (n : A → ℕ) (most : ℕ) (b0 b1 b2 : Bool) (r : Reading A) (a : A) → IsFound b0 b1 r a → b2 ≡ (nat_lt most (n a) || b1) → IsFound b0 b2 (limited (λ x. nat_le (n x) most) r) a
found_limited n most b0 b1 b2 Misshapen a h same = h
found_limited n most b0 b1 b2 Excessive a h same = same ∙ ap (λ b. nat_lt most (n a) || b) h ∙ kept_true (nat_lt most (n a))
found_limited n most b0 b1 b2 (Fits x) a h same =
    subst (λ y. IsFound b0 b2 (within (nat_le (n y) most) y) a) (sym h.0) (found_short b0 b2 (n a) most a (same ∙ ap (λ b. nat_lt most (n a) || b) h.1))

-- ---- lists

module _ {T : Type 0} (read : Data → Reading T) where
  pub item_lost : (vs : List Value) (k : ℕ) (d : Value) → k < length vs → read (view (get_or vs k d)) ≡ Misshapen → each_item read (items_view vs) ≡ Misshapen
  item_lost [] k d h is = absurd (omega arith)
  item_lost (v ∷ vs) zero d h is = map_lost _ _ (both_lost _ _ is)
  item_lost (v ∷ vs) (suc k) d h is = map_lost _ _ (then_lost _ _ (item_lost vs k d (omega arith) is))

  pub items_step : (b b1 b2 : Bool) (vs rest : List Value) (v : Value) (k : ℕ) (x : T) (ys : List T) → drop k vs ≡ v ∷ rest → IsFound b b1 (read (view v)) x → IsFound b1 b2 (each_item read (items_view rest)) ys
      → IsFound b b2 (each_item read (items_view (drop k vs))) (x ∷ ys)
  items_step b b1 b2 vs rest v k x ys here h more =
      subst (λ l. IsFound b b2 (each_item read (items_view l)) (x ∷ ys)) (sym here) (found_map _ _ _ _ _ (found_both b b1 b2 _ _ _ _ h more))

pub pushed : {A B : Type 0} (plan : A → B) (xs : List A) (x : A) (ys : List B) → map plan (xs ++ x ∷ []) ++ ys ≡ map plan xs ++ plan x ∷ ys
pushed plan [] x ys = refl
pushed plan (y ∷ xs) x ys = ap (λ l. plan y ∷ l) (pushed plan xs x ys)

-- ---- entries

module _ {T : Type 0} (name : List ℕ → Reading (List ℕ)) (read : Data → Reading T) where
  pub member_lost : (done : List Entry) (e : Entry) (left : List Entry) → both (name (string_bytes e.0)) (read (view e.1)) ≡ Misshapen → each_member name read (members_view (done ++ e ∷ left)) ≡ Misshapen
  member_lost [] e left is = map_lost _ _ (both_lost _ _ is)
  member_lost (d ∷ done) e left is = map_lost _ _ (then_lost _ _ (member_lost done e left is))

-- ---- the scene of a text

pub without_memory : (r : Reading ScenePlan) → IsScene (judged r) (Err told.OutOfMemory)
without_memory Misshapen = tt
without_memory Excessive = tt
without_memory (Fits plan) = refl

pub judged_lost : (r : Reading ScenePlan) (e : PartFault) → IsPartFault r e → IsScene (judged r) (Err (part_fault e))
judged_lost r faults.Shape is = subst (λ x. IsScene (judged x) (Err (part_fault faults.Shape))) (sym is) refl
judged_lost r faults.OutOfMemory is = without_memory r

pub judged_past : (r : Reading ScenePlan) (b : Bool) (plan : ScenePlan) → b ≡ true → IsFound false b r plan → IsScene (judged r) (Err (told.Broken Limit))
judged_past Misshapen b plan is h = absurd h
judged_past Excessive b plan is h = refl
judged_past (Fits x) b plan is h = absurd (true≢false (sym is ∙ h.1))

pub judged_found : (r : Reading ScenePlan) (b : Bool) (tree : SceneTree) → b ≡ false → IsFound false b r (scene_plan tree) → IsScene (judged r) (Ok tree)
judged_found Misshapen b tree is h = absurd h
judged_found Excessive b tree is h = absurd (true≢false (sym h ∙ is))
judged_found (Fits x) b tree is h = h.0

refused_by : (large : Bool) (json : Option Data) (f : SceneFault) → IsFaultByRule (if large then Some Limit else json_rule json) f → IsScene (if large then Err Limit else scene_of_json json) (Err f)
refused_by true json f h = h
refused_by false None f h = h
refused_by false (Some value) f h = subst (λ x. IsScene (judged (scene value)) (Err x)) (sym h) (without_memory (scene value))

pub text_refused : (bytes : List ℕ) (f : SceneFault) → IsTextFault bytes f → IsScene (scene_of_text bytes) (Err f)
text_refused bytes f h = refused_by (nat_lt 16777216 (length bytes)) (json_in bytes) f h

scene_by : (large : Bool) (json : Option Data) (value : Data) → (if large then Some Limit else json_rule json) ≡ None → json ≡ Some value → (if large then Err Limit else scene_of_json json) ≡ judged (scene value)
scene_by true json value none is = absurd (none-some Limit (sym none))
scene_by false json value none is = ap scene_of_json is

pub scene_of_value : (bytes : List ℕ) (value : Data) (result : Result SceneTree SceneFault) → text_rule bytes ≡ None → json_in bytes ≡ Some value → IsScene (judged (scene value)) result → IsScene (scene_of_text bytes) result
scene_of_value bytes value result none is h =
    subst (λ x. IsScene x result) (sym (scene_by (nat_lt 16777216 (length bytes)) (json_in bytes) value none is)) h

-- ---- what is made of a scene

pub memory_refusal : (T : Type 0) (found : Result ScenePlan SceneRule) → IsRefusedBy {T = T} found (Err told.OutOfMemory)
memory_refusal T (Ok plan) = refl
memory_refusal T (Err rule) = tt

pub refusal_of : (T : Type 0) (found : Result ScenePlan SceneRule) (f : SceneFault) → IsScene found (Err f) → IsRefusedBy {T = T} found (Err f)
refusal_of T (Ok plan) f h = h
refusal_of T (Err rule) f h = h

accepted_of : {T : Type 0} (found : Result ScenePlan SceneRule) (tree : SceneTree) (made : T) → IsScene found (Ok tree) → IsRefusedBy found (Ok made)
accepted_of (Ok plan) tree made h = tt
accepted_of (Err rule) tree made h = h

pub accepted : {T : Type 0} (bytes : List ℕ) (value : Data) (tree : SceneTree) (made : T) → text_rule bytes ≡ None → json_in bytes ≡ Some value → IsScene (judged (scene value)) (Ok tree) → IsRefusedBy (scene_of_text bytes) (Ok made)
accepted bytes value tree made none is h = accepted_of (scene_of_text bytes) tree made (scene_of_value bytes value (Ok tree) none is h)

pub refused : (T : Type 0) (bytes : List ℕ) (value : Data) (f : SceneFault) → text_rule bytes ≡ None → json_in bytes ≡ Some value → IsScene (judged (scene value)) (Err f) → IsRefusedBy {T = T} (scene_of_text bytes) (Err f)
refused T bytes value f none is h = refusal_of T (scene_of_text bytes) f (scene_of_value bytes value (Err f) none is h)

-- what is no object is no scene
pub no_object : (value : Data) → as_object value ≡ None → IsScene (judged (scene value)) (Err (told.Broken Shape))
no_object value is =
    subst (λ r. IsScene (judged r) (Err (told.Broken Shape))) (sym (closed_not keys (λ v. of_version (version_in v) v) value (ap (has_only keys) is))) refl
