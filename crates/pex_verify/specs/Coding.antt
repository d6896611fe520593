-- What the last step of loading keeps: loaded code means what the judged code means of which it is made.
use Rattle.std.specs.Prelude.{◌≡◌, ℕ, List, map, Option, Some, None, slice_get}
use Rattle.std.specs.List.{AllZip}
use Rattle.std.specs.declared.alloc.Global.{Global}
use Rattle.std.specs.declared.vec.Vec.{Vec}
use Rattle.core_tree.specs.Outlines.{ScriptShape, script_shape}
use Rattle.loaded_code.specs.declared.instruction.LoadedInstruction.{LoadedInstruction}
use Rattle.loaded_code.specs.declared.operand.Operand.{Operand}
use Rattle.loaded_code.specs.declared.script.LoadedFunction.{LoadedFunction}
use Rattle.loaded_code.specs.declared.script.LoadedProperty.{LoadedProperty}
use Rattle.loaded_code.specs.declared.script.LoadedScript.{LoadedScript}
use Rattle.loaded_code.specs.Plain as loaded
use Rattle.papy_base.specs.declared.name.Name.{Name}
use Rattle.pex_verify.specs.declared.coded.ScriptNames.{ScriptNames}
use Rattle.pex_verify.specs.declared.form.PlainForm.{PlainForm}
use Rattle.pex_verify.specs.declared.form.PlainForm.TheVariants as plain
use Rattle.pex_verify.specs.declared.judged.JudgedFunction.{JudgedFunction}
use Rattle.pex_verify.specs.declared.judged.JudgedInstruction.{JudgedInstruction}
use Rattle.pex_verify.specs.declared.judged.JudgedOperand.{JudgedOperand}
use Rattle.pex_verify.specs.declared.judged.JudgedProperty.{JudgedProperty}
use Rattle.pex_verify.specs.declared.judged.JudgedScript.{JudgedScript}
use Rattle.pex_verify.specs.Accepted.{at}
use Rattle.pex_verify.specs.Coded.{CodePlace, IsCoded, IsCodedFunction, IsCodedProperty, IsCodedScript}
use Rattle.pex_verify.specs.JudgedCode as judged
use Rattle.pex_verify.specs.Naming.{NameScripts}
use Rattle.pex_verify.specs.Soundness.{Bounds, IsSoundFunction, IsSoundInstruction, IsSoundProperty, IsSoundScript, IsSize, LeadsBy}

-- ---- scripts by name
abbrev pub outline_in : ScriptNames → List ScriptShape
outline_in scripts = map script_shape scripts.outline.now

abbrev pub AreNamed : ScriptNames → Type 0
AreNamed scripts = NameScripts scripts.names.now scripts.objects.now scripts.outline.now

-- ---- code
-- what is known of the operands and of where a jump leads, where the instruction stands at a place
abbrev pub FitsPlain : CodePlace → PlainForm → List JudgedOperand → Option ℕ → Type 0
FitsPlain place plain.Jmp operands landing = LeadsBy place.place place.count (slice_get operands 0) landing
FitsPlain place plain.JmpT operands landing = LeadsBy place.place place.count (slice_get operands 1) landing
FitsPlain place plain.JmpF operands landing = LeadsBy place.place place.count (slice_get operands 1) landing
FitsPlain place plain.ArrayCreate operands landing = IsSize (at operands 1)
FitsPlain place _ operands landing = Unit {0}

abbrev pub CodesOperand : JudgedOperand → Operand → Type 0
CodesOperand operand coded = loaded.operand_of coded ≡ judged.operand_of operand

pub record CodesInstruction (outline : List ScriptShape) (instruction : JudgedInstruction) (coded : LoadedInstruction) : Type 0 where
  pub means : loaded.instruction_of coded ≡ judged.instruction_of outline instruction
  pub sound : (bounds : Bounds) (slots count place : ℕ) → IsSoundInstruction bounds slots count place instruction → IsCoded (record { scripts = bounds.scripts; count = count; place = place }) coded

pub record CodesFunction (outline : List ScriptShape) (function : JudgedFunction) (coded : LoadedFunction) : Type 0 where
  pub means : loaded.function_of coded ≡ judged.function_of outline function
  pub sound : (bounds : Bounds) → IsSoundFunction bounds function → IsCodedFunction bounds.scripts coded

pub record CodesProperty (outline : List ScriptShape) (property : JudgedProperty) (coded : LoadedProperty) : Type 0 where
  pub means : loaded.property_of coded ≡ judged.property_of outline property
  pub sound : (bounds : Bounds) → IsSoundProperty bounds property → IsCodedProperty bounds coded

pub record CodesScript (outline : List ScriptShape) (script : JudgedScript) (coded : LoadedScript) : Type 0 where
  pub means : loaded.script_of coded ≡ judged.script_of outline script
  pub sound : (bounds : Bounds) → IsSoundScript bounds script → IsCodedScript bounds coded

-- a function that may be there
abbrev pub CodesWhere : List ScriptShape → Option JudgedFunction → Option LoadedFunction → Type 0
CodesWhere outline None None = Unit {0}
CodesWhere outline (Some function) (Some coded) = CodesFunction outline function coded
CodesWhere outline _ _ = ⊥

abbrev pub AreCodesOf : List ScriptShape → List JudgedFunction → List LoadedFunction → Type 0
AreCodesOf outline functions coded = AllZip (CodesFunction outline) functions coded

-- a state by its name
abbrev pub CodesState : List ScriptShape → Name × Vec JudgedFunction Global → Name × Vec LoadedFunction Global → Type 0
CodesState outline state coded = (coded.0 ≡ state.0) × AreCodesOf outline state.1.items coded.1.items
