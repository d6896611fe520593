-- The JSON value that a scene's text is, the rule that a text breaks before its form is judged, and the text of an upgraded scene.
use Rattle.std.specs.Prelude.{◌≡◌, ◌≤◌, ℕ, List, length, codes, nat_lt, if◌then◌else◌, Option, Some, None, option_map, Result, Ok, Err}
use Rattle.core_tree.specs.declared.scene_tree.SceneTree.{SceneTree}
use Rattle.std.specs.Str.{is_utf8}
use Rattle.serde_json.specs.Data.{Data, null, boolean, number, string, array, object, put, unsigned}
use Rattle.serde_json.specs.Read.{read as read_text}
use Rattle.serde_json.specs.Written.{compact_text}
use Rattle.scene_reader.specs.KeyOrder.{IsOrdered}
use Rattle.scene_reader.specs.Plan.{ScenePlan, scene_plan}
use Rattle.scene_reader.specs.Reading.{Reading, Misshapen, Excessive, Fits}
use Rattle.scene_reader.specs.SceneOf.{scene}
use Rattle.scene_reader.specs.declared.fault.PartFault.{PartFault}
use Rattle.scene_reader.specs.declared.fault.PartFault.TheVariants as part
use Rattle.scene_reader.specs.declared.fault.ReadFault.{ReadFault}
use Rattle.scene_reader.specs.declared.fault.ReadFault.TheVariants as read
use Rattle.scene_reader.specs.declared.fault.SceneFault.{SceneFault}
use Rattle.scene_reader.specs.declared.fault.SceneFault.TheVariants as faults
use Rattle.scene_reader.specs.declared.fault.SceneRule.{SceneRule}
use Rattle.scene_reader.specs.declared.fault.SceneRule.TheVariants.{NotJson, Shape, Limit}

-- the JSON value that the bytes are, by RFC 8259; of equal keys the last counts
abbrev pub json_in : List ℕ → Option Data
json_in bytes = if is_utf8 bytes then read_text bytes else None

-- ---- rules

abbrev pub json_rule : Option Data → Option SceneRule
json_rule None = Some NotJson
json_rule (Some value) = None

-- the rule that a text breaks before its form is judged: it has more than 16 MiB, whatever else it breaks, or is no JSON
abbrev pub text_rule : List ℕ → Option SceneRule
text_rule bytes = if nat_lt 16777216 (length bytes) then Some Limit else json_rule (json_in bytes)

-- a fault of form: the value isn't of the form of a scene, or passes a limit
abbrev pub IsFormFault : SceneFault → Type 0
IsFormFault (faults.Broken Shape) = Unit {0}
IsFormFault (faults.Broken Limit) = Unit {0}
IsFormFault (faults.Broken _) = ⊥
IsFormFault faults.OutOfMemory = Unit {0}

abbrev pub ByForm : {T : Type 0} → Result T SceneFault → Type 0
ByForm (Ok found) = Unit {0}
ByForm (Err fault) = IsFormFault fault

-- the fault is that of the rule
abbrev pub IsFaultOf : SceneRule → SceneFault → Type 0
IsFaultOf rule (faults.Broken broken) = broken ≡ rule
IsFaultOf rule faults.OutOfMemory = Unit {0}

-- a text that breaks a rule before its form is judged is refused by it, and no other text is refused by a rule that isn't of the
-- form
abbrev pub ByText : {T : Type 0} → Option SceneRule → Result T SceneFault → Type 0
ByText None result = ByForm result
ByText (Some rule) (Ok found) = ⊥
ByText (Some rule) (Err fault) = IsFaultOf rule fault

-- why a text has no JSON value
abbrev pub IsFaultByRule : Option SceneRule → SceneFault → Type 0
IsFaultByRule None fault = fault ≡ faults.OutOfMemory
IsFaultByRule (Some rule) fault = IsFaultOf rule fault

abbrev pub IsTextFault : List ℕ → SceneFault → Type 0
IsTextFault bytes fault = IsFaultByRule (text_rule bytes) fault

-- ---- the scene of a text

abbrev pub judged : Reading ScenePlan → Result ScenePlan SceneRule
judged Misshapen = Err Shape
judged Excessive = Err Limit
judged (Fits plan) = Ok plan

abbrev pub scene_of_json : Option Data → Result ScenePlan SceneRule
scene_of_json None = Err NotJson
scene_of_json (Some value) = judged (scene value)

-- the scene of a text, or the first rule that it breaks: it has more than 16 MiB, is no JSON, hasn't the form of a scene, or passes a
-- limit
abbrev pub scene_of_text : List ℕ → Result ScenePlan SceneRule
scene_of_text bytes = if nat_lt 16777216 (length bytes) then Err Limit else scene_of_json (json_in bytes)

-- what was found is the scene, or the fault that of the rule
abbrev pub IsScene : Result ScenePlan SceneRule → Result SceneTree SceneFault → Type 0
IsScene (Ok plan) (Ok tree) = plan ≡ scene_plan tree
IsScene (Ok plan) (Err fault) = fault ≡ faults.OutOfMemory
IsScene (Err rule) (Ok tree) = ⊥
IsScene (Err rule) (Err fault) = IsFaultOf rule fault

-- what is made of a scene is refused exactly where there is none, and by its rule
abbrev pub IsRefusedBy : {T : Type 0} → Result ScenePlan SceneRule → Result T SceneFault → Type 0
IsRefusedBy (Ok plan) (Ok made) = Unit {0}
IsRefusedBy (Ok plan) (Err fault) = fault ≡ faults.OutOfMemory
IsRefusedBy (Err rule) (Ok made) = ⊥
IsRefusedBy (Err rule) (Err fault) = IsFaultOf rule fault

-- the fault of a text without a JSON value
abbrev pub text_fault : ReadFault → SceneFault
text_fault read.Invalid = faults.Broken NotJson
text_fault read.OutOfMemory = faults.OutOfMemory

-- a part's fault as the scene's
abbrev pub part_fault : PartFault → SceneFault
part_fault part.Shape = faults.Broken Shape
part_fault part.OutOfMemory = faults.OutOfMemory

-- ---- upgraded scenes

-- an object with `version` 2
abbrev pub with_version_2 : Data → Data
with_version_2 null = null
with_version_2 (boolean b) = boolean b
with_version_2 (number n) = number n
with_version_2 (string s) = string s
with_version_2 (array ds) = array ds
with_version_2 (object ms) = object (put (codes "version") (number (unsigned 2)) ms)

-- the compact text of the JSON value that the bytes are, with `version` 2
abbrev pub upgraded_text : List ℕ → Option (List ℕ)
upgraded_text bytes = option_map (λ value. compact_text (with_version_2 value)) (json_in bytes)

-- the text is that of the value with `version` 2, reads as it, and has the keys of each object in the order of their bytes; where it has
-- at most 16 MiB, it has the same scene
pub record IsUpgraded (bytes text : List ℕ) : Type 0 where
  pub value : Data
  pub json : json_in bytes ≡ Some value
  pub exact : upgraded_text bytes ≡ Some text
  pub reads : json_in text ≡ Some (with_version_2 value)
  pub in_order : IsOrdered (with_version_2 value)
  pub scene : length text ≤ 16777216 → scene_of_text text ≡ scene_of_text bytes
