-- Which bytes are a held file, and what saving and loading one answer.
use Rattle.std.specs.Prelude.{◌≡◌, ℕ, ◌<◌, ◌≤◌, List, ◌++◌, length, Result, Ok, Err}
use Rattle.std.specs.List.{AllByRecursion, AllZip}
use Rattle.std.specs.declared.alloc.Global.{Global}
use Rattle.std.specs.declared.vec.Vec.{Vec}
use Rattle.machine_state.specs.Plain.{PlainState, plain}
use Rattle.machine_state.specs.Ranges.{IsInRange}
use Rattle.machine_state.specs.Savable.{FitsTwoBytes, FitsFourBytes, IsSavable}
use Rattle.pex_codec.specs.Spells as pex
use Rattle.pex_values.specs.declared.values.Pex.{Pex}
use Rattle.pex_values.specs.Plain.{plain as plain_pex}
use Rattle.stack_save.specs.Spelling.{heading, spelling}
use Rattle.stack_save.specs.declared.fault.HeldFault.{HeldFault}
use Rattle.stack_save.specs.declared.fault.HeldFault.TheVariants.{Broken, OutOfMemory}
use Rattle.stack_save.specs.declared.fault.HeldRule.TheVariants as rules
use Rattle.stack_save.specs.declared.fault.SaveFault.{SaveFault}
use Rattle.stack_save.specs.declared.fault.SaveFault.TheVariants.{TooLarge, OutOfMemory as NoMemory}
use Rattle.stack_save.specs.declared.loading.Held.{Held}

-- the most bytes of a held file
abbrev pub limit : ℕ
limit = 67108864

-- there are no more files than a count can say, and each fits its length, as does the scene
pub record HasFiles (files : List (List ℕ)) (scene : List ℕ) : Type 0 where
  pub count : FitsTwoBytes files
  pub each_length : AllByRecursion FitsFourBytes files
  pub scene_length : FitsFourBytes scene

-- the bytes are the fields of these files, this scene and this state in a row
pub record Spells (files : List (List ℕ)) (scene : List ℕ) (state : PlainState) (bytes : List ℕ) : Type 0 where
  pub fit : HasFiles files scene
  pub savable : IsSavable state
  pub in_range : IsInRange state
  pub spelled : bytes ≡ spelling files scene state

-- ---- saving

abbrev pub SaveGives : List (List ℕ) → List ℕ → PlainState → Result (Vec ℕ Global) SaveFault → Type 0
SaveGives files scene state (Ok bytes) = Spells files scene state bytes.items × (length bytes.items ≤ limit)
SaveGives files scene state (Err TooLarge) = limit < length (spelling files scene state)
SaveGives files scene state (Err NoMemory) = Unit {0}

-- ---- loading

-- the bytes are a compiled file, which spells this value
abbrev pub IsFile : List ℕ → Pex → Type 0
IsFile bytes value = pex.Spells (plain_pex value) bytes

-- each value is that of a file
abbrev pub AreFiles : List (List ℕ) → List Pex → Type 0
AreFiles files values = AllZip IsFile files values

-- the bytes are those of some files, a scene and a state
abbrev pub HasLayout : List ℕ → Type 0
HasLayout bytes = (files : List (List ℕ)) × (scene : List ℕ) × (state : PlainState) × Spells files scene state bytes

-- the files of which the values are, with the scene and the state, are spelled by the bytes
abbrev pub IsHeld : List ℕ → Held → Type 0
IsHeld bytes held =
    (files : List (List ℕ)) × Spells files held.scene.items (plain held.state) bytes × AreFiles files held.files.items

abbrev pub HasHeading : List ℕ → Type 0
HasHeading bytes = (rest : List ℕ) × (bytes ≡ heading ++ rest)

-- the first rule that is broken, where one is
abbrev pub LoadGives : List ℕ → Result Held HeldFault → Type 0
LoadGives bytes (Ok held) = (length bytes ≤ limit) × IsHeld bytes held
LoadGives bytes (Err (Broken rules.TooLarge)) = limit < length bytes
LoadGives bytes (Err (Broken rules.BadMagic)) = (length bytes ≤ limit) × ¬ HasHeading bytes
LoadGives bytes (Err (Broken rules.BadLayout)) = (length bytes ≤ limit) × HasHeading bytes × ¬ HasLayout bytes
LoadGives bytes (Err (Broken rules.BadFiles)) = (length bytes ≤ limit) × HasLayout bytes
LoadGives bytes (Err (Broken _)) = ⊥
LoadGives bytes (Err OutOfMemory) = Unit {0}
