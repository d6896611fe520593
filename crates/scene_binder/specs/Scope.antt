-- What is said of a part of a scene while its instances are known by a table alone: it holds of each list that has the table.
use Rattle.std.specs.Prelude.{ℕ, List, Option, option_and_then, slice_get}
use Rattle.std.specs.List.{AllZip}
use Rattle.papy_base.specs.Case.{folded}
use Rattle.papy_base.specs.Table.{IsPlaceTable, number_in}
use Rattle.core_tree.specs.declared.outline.OutlineScript.{OutlineScript}
use Rattle.core_tree.specs.declared.scene.BoundCall.{BoundCall}
use Rattle.core_tree.specs.declared.scene.BoundInstance.{BoundInstance}
use Rattle.core_tree.specs.declared.scene_tree.SceneCall.{SceneCall}
use Rattle.core_tree.specs.declared.scene_tree.SceneInstance.{SceneInstance}
use Rattle.core_tree.specs.declared.scene_tree.SceneValue.{SceneValue}
use Rattle.core_tree.specs.declared.scene_tree.SceneValue.TheVariants as written
use Rattle.core_tree.specs.declared.value.Value.{Value}
use Rattle.scene_binder.specs.declared.binder.NamedInstances.{NamedInstances}
use Rattle.scene_binder.specs.Faults.{is_number, kept_if}
use Rattle.scene_binder.specs.Instances.{tree_name}
use Rattle.scene_binder.specs.Meant.{IsCallMeant, IsEntryMeant, IsValueMeant}

-- these are the instances that the table names
abbrev pub AreNamed : NamedInstances → List SceneInstance → Type 0
AreNamed known instances = IsPlaceTable tree_name instances known.names

-- the number of the instance that the table has for a name, and its script
abbrev pub known_number : NamedInstances → List ℕ → Option ℕ
known_number known name = kept_if is_number (number_in known.names (folded name))

abbrev pub known_script : NamedInstances → List ℕ → Option ℕ
known_script known name = option_and_then (slice_get known.scripts.items) (known_number known name)

abbrev pub ValueIs : NamedInstances → SceneValue → Value → Type 0
ValueIs known value bound = (instances : List SceneInstance) → AreNamed known instances → IsValueMeant instances value bound

-- the same of the instance of this name
abbrev pub InstanceIs : NamedInstances → List ℕ → Value → Type 0
InstanceIs known name bound = ValueIs known (written.Instance name) bound

abbrev pub ValuesAre : NamedInstances → List SceneValue → List Value → Type 0
ValuesAre known listed bound =
    (instances : List SceneInstance) → AreNamed known instances → AllZip (IsValueMeant instances) listed bound

abbrev pub EntryIs : List OutlineScript → NamedInstances → ℕ → List ℕ × SceneValue → ℕ × ℕ × Value → Type 0
EntryIs scripts known script entry bound =
    (instances : List SceneInstance) → AreNamed known instances → IsEntryMeant scripts instances script entry bound

abbrev pub EntriesAre : List OutlineScript → NamedInstances → ℕ → List (List ℕ × SceneValue) → List (ℕ × ℕ × Value) → Type 0
EntriesAre scripts known script listed bound =
    (instances : List SceneInstance) → AreNamed known instances → AllZip (IsEntryMeant scripts instances script) listed bound

abbrev pub IsSetOf : List OutlineScript → List SceneInstance → SceneInstance → BoundInstance → Type 0
IsSetOf scripts instances instance bound =
    AllZip (IsEntryMeant scripts instances bound.script) instance.set.items bound.set.items

abbrev pub SetIs : List OutlineScript → NamedInstances → SceneInstance → BoundInstance → Type 0
SetIs scripts known instance bound =
    (instances : List SceneInstance) → AreNamed known instances → IsSetOf scripts instances instance bound

abbrev pub SetsAre : List OutlineScript → NamedInstances → List SceneInstance → List BoundInstance → Type 0
SetsAre scripts known listed bound =
    (instances : List SceneInstance) → AreNamed known instances → AllZip (IsSetOf scripts instances) listed bound

abbrev pub CallIs : NamedInstances → SceneCall → BoundCall → Type 0
CallIs known call bound = (instances : List SceneInstance) → AreNamed known instances → IsCallMeant instances call bound

abbrev pub CallsAre : NamedInstances → List SceneCall → List BoundCall → Type 0
CallsAre known listed bound =
    (instances : List SceneInstance) → AreNamed known instances → AllZip (IsCallMeant instances) listed bound
