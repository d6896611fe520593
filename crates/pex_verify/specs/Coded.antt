-- What holds of loaded code in the scripts of a set.
use Rattle.std.specs.Prelude.{◌≡◌, ℕ, ◌<◌, ◌≤◌, ℤ, pos, ◌+ℤ◌, List, length, vec_len, slice_index_or, All, IfSome}
use Rattle.core_tree.specs.declared.outline.OutlineScript.{OutlineScript}
use Rattle.loaded_code.specs.declared.instruction.LoadedInstruction.{LoadedInstruction}
use Rattle.loaded_code.specs.declared.instruction.LoadedInstruction.TheVariants as loaded
use Rattle.loaded_code.specs.declared.script.LoadedFunction.{LoadedFunction}
use Rattle.loaded_code.specs.declared.script.LoadedProperty.{LoadedProperty}
use Rattle.loaded_code.specs.declared.script.LoadedScript.{LoadedScript}
use Rattle.pex_verify.specs.Soundness.{Bounds, bounds_with}
use Rattle.pex_verify.specs.Types.{IsTypeAmong}

-- a place among so many instructions, in a set of so many scripts
pub record CodePlace : Type 0 where
  pub scripts : ℕ
  pub count : ℕ
  pub place : ℕ

-- a jump leads so far from its own place: to a place of the code, or to its end
abbrev pub Lands : CodePlace → ℤ → ℕ → Type 0
Lands at offset landing = (pos landing ≡ pos at.place +ℤ offset) × (landing ≤ at.count)

-- the instruction at a place
abbrev pub IsCoded : CodePlace → LoadedInstruction → Type 0
IsCoded at (loaded.Jmp offset landing) = Lands at offset landing
IsCoded at (loaded.JmpT condition offset landing) = Lands at offset landing
IsCoded at (loaded.JmpF condition offset landing) = Lands at offset landing
IsCoded at (loaded.CallStatic script name function result arguments) = IfSome function (λ f. f.script < at.scripts)
IsCoded at (loaded.ArrayCreate result size) = (1 ≤ size) × (size ≤ 128)
IsCoded at _ = Unit {0}

abbrev pub AreCoded : ℕ → ℕ → List LoadedInstruction → Type 0
AreCoded scripts count code =
    (k : ℕ) (d : LoadedInstruction) → k < length code → IsCoded (record { scripts = scripts; count = count; place = k }) (slice_index_or code k d)

-- a function of a set of so many scripts
pub record IsCodedFunction (scripts : ℕ) (f : LoadedFunction) : Type 0 where
  pub answer : IfSome f.result (IsTypeAmong scripts)
  pub parameters : All (λ p. IsTypeAmong scripts p.1) f.parameters.items
  pub locals : All (λ l. IfSome l.1 (IsTypeAmong scripts)) f.locals.items
  pub lines : vec_len f.lines ≡ vec_len f.code
  pub code : AreCoded scripts (vec_len f.code) f.code.items

pub record IsCodedProperty (bounds : Bounds) (p : LoadedProperty) : Type 0 where
  pub kind : IsTypeAmong bounds.scripts p.kind
  pub variable : IfSome p.variable (λ n. n < bounds.variables)
  pub read : IfSome p.read (IsCodedFunction bounds.scripts)
  pub write : IfSome p.write (IsCodedFunction bounds.scripts)

pub record IsCodedScript (bounds : Bounds) (s : LoadedScript) : Type 0 where
  pub properties : All (IsCodedProperty bounds) s.properties.items
  pub states : All (λ state. All (IsCodedFunction bounds.scripts) state.1.items) s.states.items

-- the scripts of a set with these outlines
abbrev pub AreCodedScripts : List OutlineScript → List LoadedScript → Type 0
AreCodedScripts outlines scripts =
    (n : ℕ) (o : OutlineScript) (s : LoadedScript) → n < length scripts → IsCodedScript (bounds_with (length scripts) (vec_len (slice_index_or outlines n o).variables)) (slice_index_or scripts n s)
