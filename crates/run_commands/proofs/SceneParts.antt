-- How many instances and calls a scene has, and how a command ends that is refused one.
use Rattle.std.proofs.Common.{arith, ◌≡◌, ◌<◌, ◌∙◌, ℕ, List, [], ◌∷◌, map, length, sym, ap, refl}
use Rattle.std.proofs.lemmas.List.{length-map}
use Rattle.std.specs.Prelude.{Option, Err}
use Rattle.core_tree.specs.declared.scene.Scene.{Scene}
use Rattle.core_tree.specs.declared.scene_tree.SceneTree.{SceneTree}
use Rattle.scene_binder.specs.Bound.{instance_name, call_parts}
use Rattle.scene_binder.specs.Instances.{tree_name, tree_call_parts}
use Rattle.scene_binder.specs.Kept.{IsOfTree}
use Rattle.scene_reader.specs.Default.{IsDefaultScene, instance_plan, call_plan}
use Rattle.scene_reader.specs.Limits.{KeepsLimits}
use Rattle.scene_reader.specs.declared.fault.SceneFault.{SceneFault}
use Rattle.scene_reader.specs.declared.fault.SceneFault.TheVariants.{Broken, OutOfMemory}
use Rattle.command_files.specs.declared.ending.Ending.{Ending}
use Rattle.command_files.specs.declared.ending.Ending.TheVariants as ending
use Rattle.command_files.specs.Ending.{CountsWrites}
use Rattle.command_files.specs.FileFault.{ending_at}
use Rattle.command_files.specs.SceneFile.{scene_fault}
use Rattle.papy_io.proofs.Appending.{appends_nothing}
use Rattle.run_commands.specs.Play.{HasFewParts, Plays, Starts}

same-length : {A B C : Type 0} (f : A → C) (g : B → C) (xs : List A) (ys : List B) → map f xs ≡ map g ys → length xs ≡ length ys
same-length f g xs ys same = sym (length-map xs f) ∙ ap length same ∙ length-map ys g

-- the parts of a bound scene
pub few_instances : (tree : SceneTree) (count : ℕ) (scene : Scene) → HasFewParts tree → IsOfTree tree count scene → length scene.instances.items < 65536
few_instances tree count scene few kept =
    let same = same-length instance_name tree_name scene.instances.items tree.instances.items kept.names in
    omega (arith, few.few_instances)

pub few_calls : (tree : SceneTree) (count : ℕ) (scene : Scene) → HasFewParts tree → IsOfTree tree count scene → length scene.calls.items < 65536
few_calls tree count scene few kept =
    let same = same-length call_parts tree_call_parts scene.calls.items tree.calls.items kept.calls in
    omega (arith, few.few_calls)

one-long : {A B : Type 0} (f : A → B) (xs : List A) (y : B) → map f xs ≡ y ∷ [] → length xs ≡ 1
one-long f xs y is = sym (length-map xs f) ∙ ap length is

-- the parts of a scene that was read, and of the one of one script
pub read_has_few : (tree : SceneTree) → KeepsLimits tree → HasFewParts tree
read_has_few tree keeps = record { few_instances = keeps.few_instances; few_calls = keeps.few_calls }

pub default_has_few : (script : List ℕ) (tree : SceneTree) → IsDefaultScene script tree → HasFewParts tree
default_has_few script tree default =
    let instances = one-long instance_plan tree.instances.items _ default.instances in
    let calls = one-long call_plan tree.calls.items _ default.calls in
    record { few_instances = omega arith; few_calls = omega arith }

-- a scene that can't be bound
pub refused_starts : (tree : SceneTree) (named : ℕ) (fault : SceneFault) → Starts tree named (Err (ending_at named (scene_fault fault)))
refused_starts tree named (Broken rule) = record { word_is = refl; refusal = record { broken = rule; place_is = refl; rule_is = refl } }
refused_starts tree named OutOfMemory = tt

pub unstarted_plays : (tree : SceneTree) (named : ℕ) (ending : Ending) (written : Option (List ℕ)) → Starts tree named (Err ending) → Plays tree named ending written written
unstarted_plays tree named (ending.Refused word place rule) written starts = (starts, refl)
unstarted_plays tree named ending.OutOfMemory written starts = appends_nothing written written refl
unstarted_plays tree named ending.Done written starts = absurd starts
unstarted_plays tree named ending.Usage written starts = absurd starts
unstarted_plays tree named ending.WriteFault written starts = absurd starts
unstarted_plays tree named ending.NotBuilt written starts = absurd starts
unstarted_plays tree named (ending.ReadFault word) written starts = absurd starts

pub unstarted_writes : (tree : SceneTree) (named : ℕ) (ending : Ending) (count : ℕ) → Starts tree named (Err ending) → CountsWrites ending count count
unstarted_writes tree named (ending.Refused word place rule) count starts = refl
unstarted_writes tree named ending.OutOfMemory count starts = refl
unstarted_writes tree named ending.Done count starts = absurd starts
unstarted_writes tree named ending.Usage count starts = absurd starts
unstarted_writes tree named ending.WriteFault count starts = absurd starts
unstarted_writes tree named ending.NotBuilt count starts = absurd starts
unstarted_writes tree named (ending.ReadFault word) count starts = absurd starts
