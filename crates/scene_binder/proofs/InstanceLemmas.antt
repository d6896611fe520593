-- The instances that a table knows are those of the scene, and what is broken is the same by both.
use Rattle.std.proofs.Common.{ℕ, zero, suc, ◌≡◌, List, [], ◌∷◌, map, Option, Some, refl, ap, ◌∙◌}
use Rattle.std.proofs.Math.Path.{fun_ext}
use Rattle.std.specs.List.{flat_map, slice_get}
use Rattle.std.specs.Option.{option_and_then}
use Rattle.papy_base.specs.Case.{folded}
use Rattle.core_tree.specs.declared.outline.OutlineScript.{OutlineScript}
use Rattle.core_tree.specs.declared.scene_tree.SceneCall.{SceneCall}
use Rattle.core_tree.specs.declared.scene_tree.SceneInstance.{SceneInstance}
use Rattle.scene_binder.specs.declared.binder.NamedInstances.{NamedInstances}
use Rattle.scene_binder.specs.Faults.{call_breaks, in_turn, instance_breaks, instance_script, is_number, kept_if, set_breaks}
use Rattle.scene_binder.specs.Instances.{tree_script}
use Rattle.scene_binder.specs.Meant.{instance_named}
use Rattle.scene_binder.specs.Scope.{AreNamed, known_script}

script_at : {X : Type 0} (h : X → Option ℕ) (numbers : List ℕ) (xs : List X) → map (λ n. Some n) numbers ≡ map h xs → (n : ℕ) → slice_get numbers n ≡ option_and_then h (slice_get xs n)
script_at h [] [] same n = refl
script_at h [] (x ∷ xs) same n = cc
script_at h (m ∷ ms) [] same n = cc
script_at h (m ∷ ms) (x ∷ xs) same zero = cc
script_at h (m ∷ ms) (x ∷ xs) same (suc n) = script_at h ms xs (cc) n

module _ (ss scripts : List OutlineScript) (given instances : List SceneInstance) (known : NamedInstances) (same : ss ≡ scripts) (also : given ≡ instances) where
  pub instances_same : in_turn (instance_breaks ss) [] given ≡ in_turn (instance_breaks scripts) [] instances
  instances_same = ap (λ s. in_turn (instance_breaks s) [] given) same ∙ ap (in_turn (instance_breaks scripts) []) also

  module _ (named : AreNamed known given) (numbers : map (λ n. Some n) known.scripts.items ≡ map (tree_script ss) given) where
    -- the script of the instance of a name
    script_same : (name : List ℕ) → known_script known name ≡ instance_script scripts instances name
    script_same name =
        let by = λ (s : List OutlineScript) (xs : List SceneInstance) (n : ℕ). option_and_then (tree_script s) (slice_get xs n) in
        ap (λ o. option_and_then (slice_get known.scripts.items) (kept_if is_number o)) (named (folded name)) ∙ (ap (λ f. option_and_then f (kept_if is_number (instance_named given name))) (fun_ext (script_at (tree_script ss) known.scripts.items given numbers)) ∙ (ap (λ s. option_and_then (by s given) (kept_if is_number (instance_named given name))) same ∙ ap (λ xs. option_and_then (by scripts xs) (kept_if is_number (instance_named xs name))) also))

    known_same : known_script known ≡ instance_script scripts instances
    known_same = fun_ext script_same

    pub sets_same : flat_map (set_breaks ss (known_script known)) given ≡ flat_map (set_breaks scripts (instance_script scripts instances)) instances
    sets_same =
        ap (λ f. flat_map (set_breaks ss f) given) known_same ∙ (ap (λ s. flat_map (set_breaks s (instance_script scripts instances)) given) same ∙ ap (flat_map (set_breaks scripts (instance_script scripts instances))) also)

    pub calls_same : (listed calls : List SceneCall) → listed ≡ calls → flat_map (call_breaks ss (known_script known)) listed ≡ flat_map (call_breaks scripts (instance_script scripts instances)) calls
    calls_same listed calls third =
        ap (λ f. flat_map (call_breaks ss f) listed) known_same ∙ (ap (λ s. flat_map (call_breaks s (instance_script scripts instances)) listed) same ∙ ap (flat_map (call_breaks scripts (instance_script scripts instances))) third)
