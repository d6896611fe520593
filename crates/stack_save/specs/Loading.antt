-- What reading the layout of a held file and decoding its PEX files answer.
use Rattle.std.specs.Prelude.{◌≡◌, ℕ, List, ◌++◌, map, Result, Ok, Err}
use Rattle.std.specs.declared.alloc.Global.{Global}
use Rattle.std.specs.declared.vec.Vec.{Vec}
use Rattle.std.specs.Borrow.{Bor}
use Rattle.machine_state.specs.Plain.{plain}
use Rattle.machine_state.specs.Ranges.{IsInRange}
use Rattle.machine_state.specs.Savable.{IsSavable}
use Rattle.pex_values.specs.declared.values.Pex.{Pex}
use Rattle.stack_save.specs.Held.{HasFiles, Spells, HasLayout, AreFiles}
use Rattle.stack_save.specs.Reading.{PlainHeld}
use Rattle.pex_values.specs.Spelling.{list}
use Rattle.stack_save.specs.Spelling.{heading, long_string, state}
use Rattle.stack_save.specs.declared.fault.HeldFault.{HeldFault}
use Rattle.stack_save.specs.declared.fault.HeldFault.TheVariants.{Broken, OutOfMemory}
use Rattle.stack_save.specs.declared.fault.HeldRule.TheVariants as rules
use Rattle.stack_save.specs.declared.loading.HeldParts.{HeldParts}

-- ---- the layout

abbrev pub lent : Bor (List ℕ) → List ℕ
lent bytes = bytes.now

abbrev pub plain_layout : HeldParts → PlainHeld
plain_layout layout = record { files = map lent layout.files.items; scene = layout.scene.now; state = plain layout.state }

pub record IsLayout (held : PlainHeld) : Type 0 where
  pub fit : HasFiles held.files held.scene
  pub savable : IsSavable held.state
  pub in_range : IsInRange held.state

-- the bytes behind the heading
abbrev pub held_fields : PlainHeld → List ℕ
held_fields held = list long_string held.files ++ long_string held.scene ++ state held.state

-- these bytes stand behind the heading
abbrev pub ReadsLayout : List ℕ → Result HeldParts HeldFault → Type 0
ReadsLayout bytes (Ok layout) =
    Spells (map lent layout.files.items) layout.scene.now (plain layout.state) (heading ++ bytes)
ReadsLayout bytes (Err (Broken rule)) = (rule ≡ rules.BadLayout) × ¬ HasLayout (heading ++ bytes)
ReadsLayout bytes (Err OutOfMemory) = Unit {0}

-- ---- the PEX files

-- a file that isn't decoded breaks this rule alone
abbrev pub BreaksFiles : HeldFault → Type 0
BreaksFiles (Broken rules.BadFiles) = Unit {0}
BreaksFiles (Broken _) = ⊥
BreaksFiles OutOfMemory = Unit {0}

abbrev pub DecodesFiles : List (List ℕ) → Result (Vec Pex Global) HeldFault → Type 0
DecodesFiles files (Ok values) = AreFiles files values.items
DecodesFiles files (Err fault) = BreaksFiles fault
