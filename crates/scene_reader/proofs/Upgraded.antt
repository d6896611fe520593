-- What is written of the value of a scene, with version 2.
use Rattle.std.proofs.Common.{ℕ, ◌≡◌, ◌≤◌, Bool, true, false, List, length, Option, Some, None, option_map, if◌then◌else◌, refl, sym, ap, subst, ◌∙◌}
use Rattle.std.specs.Prelude.{codes, nat_lt, Ok, Err}
use Rattle.std.specs.Str.{IsUtf8}
use Rattle.std.proofs.lemmas.Bool.{cond-false, le-ltb}
use Rattle.core_tree.specs.declared.scene_tree.SceneTree.{SceneTree}
use Rattle.serde_json.specs.Data.{Data, null, boolean, number, string, array, object, depth, unsigned}
use Rattle.serde_json.specs.Read.{max_depth, read}
use Rattle.serde_json.specs.Written.{compact_text, has_float}
use Rattle.scene_reader.specs.KeyOrder.{IsOrdered}
use Rattle.scene_reader.specs.Plan.{ScenePlan}
use Rattle.scene_reader.specs.Reading.{Reading, Misshapen, Excessive, Fits}
use Rattle.scene_reader.specs.SceneOf.{scene}
use Rattle.scene_reader.specs.SceneText.{IsScene, IsUpgraded, json_in, json_rule, judged, scene_of_json, scene_of_text, text_rule, with_version_2}
use Rattle.scene_reader.specs.declared.fault.SceneRule.{SceneRule}
use Rattle.scene_reader.specs.declared.fault.SceneRule.TheVariants.{Limit}
use Rattle.scene_reader.proofs.KeyOrder.{ordered-json_in, ordered_put}
use Rattle.scene_reader.proofs.NoFloat.{IsFit, free_scene}
use Rattle.scene_reader.proofs.SameScene.{same_scene}
use Rattle.scene_reader.proofs.Texts.{depth-json_in, json_in-read}

ordered_upgraded : (d : Data) → IsOrdered d → IsOrdered (with_version_2 d)
ordered_upgraded null h = tt
ordered_upgraded (boolean b) h = tt
ordered_upgraded (number n) h = tt
ordered_upgraded (string s) h = tt
ordered_upgraded (array ds) h = h
ordered_upgraded (object ms) h = ordered_put (codes "version") (number (unsigned 2)) ms tt h

fit_by : (r : Reading ScenePlan) (tree : SceneTree) → IsScene (judged r) (Ok tree) → IsFit r
fit_by Misshapen tree h = h
fit_by Excessive tree h = h
fit_by (Fits plan) tree h = tt

-- the scene of a text that isn't too large is that of its value
small_scene : (bytes : List ℕ) (value : Data) → nat_lt 16777216 (length bytes) ≡ false → json_in bytes ≡ Some value → scene_of_text bytes ≡ judged (scene value)
small_scene bytes value small is = cond-false (nat_lt 16777216 (length bytes)) (Err Limit) (scene_of_json (json_in bytes)) small ∙ ap scene_of_json is

small_by : (large : Bool) (o : Option SceneRule) → (if large then Some Limit else o) ≡ None → large ≡ false
small_by true o is = absurd (cc)
small_by false o is = refl

module _ (bytes text : List ℕ) (value new : Data) (tree : SceneTree) where
  pub is_upgraded : text_rule bytes ≡ None → json_in bytes ≡ Some value → IsScene (judged (scene value)) (Ok tree) → new ≡ with_version_2 value → IsUtf8 text → (depth new ≤ max_depth → read text ≡ Some new)
      → (has_float new ≡ false → text ≡ compact_text new) → IsUpgraded bytes text
  is_upgraded rule json found is utf8 reads compact =
      let fit : IsFit (scene value) = fit_by (scene value) tree found in
      let same : scene (with_version_2 value) ≡ scene value = same_scene value fit in
      let ordered : IsOrdered (with_version_2 value) = ordered_upgraded value (ordered-json_in bytes value json) in
      let free : has_float (with_version_2 value) ≡ false = free_scene (with_version_2 value) ordered (subst IsFit (sym same) fit) in
      let exact : text ≡ compact_text (with_version_2 value) = subst (λ d. has_float d ≡ false → text ≡ compact_text d) is compact free in
      let deep : depth new ≤ max_depth = subst (λ d. depth d ≤ max_depth) (sym is) (depth-json_in bytes value json) in
      let back : json_in text ≡ Some (with_version_2 value) = subst (λ d. json_in text ≡ Some d) is (json_in-read text new utf8 (reads deep)) in
      let small : nat_lt 16777216 (length bytes) ≡ false = small_by (nat_lt 16777216 (length bytes)) (json_rule (json_in bytes)) rule in
      record {
        value = value;
        json = json;
        exact = ap (option_map (λ v. compact_text (with_version_2 v))) json ∙ ap Some (sym exact);
        reads = back;
        in_order = ordered;
        scene = λ few. small_scene text (with_version_2 value) (le-ltb 16777216 (length text) few) back ∙ ap judged same ∙ sym (small_scene bytes value small json);
      }
