-- The scripts and the scene of a sample of so many workers, and what it writes.
use Rattle.std.specs.Prelude.{◌≡◌, ℕ, List, [], ◌∷◌, ◌++◌, map, codes}
use Rattle.std.specs.Fmt.{decimal}
use Rattle.std.specs.List.{range_with_len}
use Rattle.core_tree.specs.declared.scene_tree.SceneTree.{SceneTree}
use Rattle.core_tree.specs.declared.scene_tree.SceneValue.TheVariants as values
use Rattle.core_tree.specs.declared.scene_tree.TurnOrder.TheVariants as orders
use Rattle.scene_reader.specs.Default.{CallPlan, InstancePlan, call_plan, instance_plan}
use Rattle.command_files.specs.declared.ending.Ending.{Ending}
use Rattle.command_files.specs.declared.ending.Ending.TheVariants.{Done, OutOfMemory, Usage, ReadFault, WriteFault, Refused, NotBuilt}
use Rattle.run_commands.specs.Play.{RefusesScene}

abbrev line : List ℕ → List ℕ
line text = text ++ 10 ∷ []

-- the hub adds what it is given to its total
unfoldable pub hub_text : List ℕ
hub_text =
    line (codes "ScriptName Hub")
    ++ line (codes "Int Property Total Auto")
    ++ line (codes "Function Add(Int n)")
    ++ line (codes "    Total += n")
    ++ line (codes "EndFunction")

-- what stands between a worker's name and the number that it adds
abbrev up_to_number : List ℕ
up_to_number =
    line []
    ++ line (codes "Hub Property Target Auto")
    ++ line (codes "Event OnInit()")
    ++ line (codes "    Int i = 0")
    ++ line (codes "    While i < 1000")
    ++ codes "        Target.Add("

-- what stands behind that number
abbrev from_number_on : List ℕ
from_number_on =
    line (codes ")")
    ++ line (codes "        i += 1")
    ++ line (codes "    EndWhile")
    ++ line (codes "EndEvent")

-- a worker adds its number to the hub's total a thousand times
unfoldable pub worker_text : ℕ → List ℕ
worker_text number = codes "ScriptName W" ++ (decimal number ++ (up_to_number ++ (decimal number ++ from_number_on)))

abbrev pub sample_texts : ℕ → List (List ℕ)
sample_texts workers = hub_text ∷ map worker_text (range_with_len 0 workers)

abbrev pub worker_name : ℕ → List ℕ
worker_name number = codes "w" ++ decimal number

abbrev pub worker_script : ℕ → List ℕ
worker_script number = codes "W" ++ decimal number

abbrev pub hub_plan : InstancePlan
hub_plan = record { name = codes "hub"; script = codes "Hub"; set = [] }

-- the worker's property Target is the hub
abbrev pub worker_plan : ℕ → InstancePlan
worker_plan number = record { name = worker_name number; script = worker_script number; set = (codes "Target", values.Instance (codes "hub")) ∷ [] }

-- its event OnInit at turn 0
abbrev pub start_plan : ℕ → CallPlan
start_plan number = record { turn = 0; instance = worker_name number; function = codes "OnInit"; arguments = [] }

pub record IsSampleScene (workers : ℕ) (tree : SceneTree) : Type 0 where
  pub instances : map instance_plan tree.instances.items ≡ hub_plan ∷ map worker_plan (range_with_len 0 workers)
  pub calls : map call_plan tree.calls.items ≡ map start_plan (range_with_len 0 workers)
  pub natives : tree.natives.items ≡ []
  pub tapes : tree.tapes.items ≡ []
  pub order : tree.order ≡ orders.Round
  pub turns : tree.turns ≡ 1000000
  pub quantum : tree.quantum ≡ 1

-- how a sample ends that wasn't run to its end
abbrev pub EndsUnreported : Ending → Type 0
EndsUnreported (Refused word place rule) = RefusesScene 0 word place rule
EndsUnreported OutOfMemory = Unit {0}
EndsUnreported NotBuilt = Unit {0}
EndsUnreported Done = ⊥
EndsUnreported Usage = ⊥
EndsUnreported (ReadFault word) = ⊥
EndsUnreported WriteFault = ⊥
