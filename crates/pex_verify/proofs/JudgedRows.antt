-- What judged instructions are as plain data, computed from the definitions.
use Rattle.std.proofs.Common.{◌≡◌, List, [], ◌∷◌, None, refl}
use Rattle.std.specs.Prelude.{ℕ, codes, pos, negsuc}
use Rattle.core_tree.specs.declared.value.Value.TheVariants as values
use Rattle.core_tree.specs.Outlines.{ScriptShape}
use Rattle.pex_verify.specs.declared.judged.JudgedOperand.{JudgedOperand as Loaded}
use Rattle.pex_verify.specs.declared.judged.JudgedOperand.TheVariants as loaded
use Rattle.code_meaning.specs.Code.{Instruction, Literal, Slot, Variable, Itself, StateText}
use Rattle.code_meaning.specs.Code as op
use Rattle.pex_verify.specs.JudgedCode.{instruction_by}

abbrev named : List ℕ → ScriptShape
named name =
    record { name = name; parent = None; auto_state = None; variables = []; properties = []; functions = [] }

abbrev plain : ℕ → List Loaded → List Loaded → Instruction
plain opcode fixed more =
    instruction_by opcode (record { outline = named (codes "Debug") ∷ named (codes "Utility") ∷ []; fixed = fixed; more = more })

add : plain 1 (loaded.Slot 2 ∷ loaded.Variable 0 ∷ loaded.Int (pos 5) ∷ []) [] ≡ op.IAdd (Slot 2) (Variable 0) (Literal (values.Int (pos 5)))
add = refl

remainder : plain 9 (loaded.Slot 2 ∷ loaded.Slot 1 ∷ loaded.Slot 0 ∷ []) [] ≡ op.IMod (Slot 2) (Slot 1) (Slot 0)
remainder = refl

no_float : plain 2 [] [] ≡ op.Nop
no_float = refl

cast : plain 14 (loaded.Slot 1 ∷ loaded.Instance ∷ []) [] ≡ op.Cast (Slot 1) Itself
cast = refl

at_least : plain 19 (loaded.Slot 0 ∷ loaded.Slot 1 ∷ loaded.Slot 2 ∷ []) [] ≡ op.CmpGe (Slot 0) (Slot 1) (Slot 2)
at_least = refl

back : plain 22 (loaded.Slot 0 ∷ loaded.Int (negsuc 2) ∷ []) [] ≡ op.JmpF (Slot 0) (negsuc 2)
back = refl

called : plain 23 (loaded.Word (codes "F") ∷ loaded.Instance ∷ loaded.Slot 3 ∷ []) (loaded.Quoted (codes "a") ∷ loaded.NoneValue ∷ []) ≡ op.CallMethod (codes "F") Itself (Slot 3) (Literal (values.Text (codes "a")) ∷ Literal values.NoneValue ∷ [])
called = refl

-- a script is named with case ignored
static : plain 25 (loaded.Word (codes "UTILITY") ∷ loaded.Word (codes "Wait") ∷ loaded.Slot 0 ∷ []) (loaded.Slot 1 ∷ []) ≡ op.CallStatic 1 (codes "Wait") (Slot 0) (Slot 1 ∷ [])
static = refl

written : plain 29 (loaded.Word (codes "P") ∷ loaded.Slot 0 ∷ loaded.State ∷ []) [] ≡ op.PropSet (codes "P") (Slot 0) StateText
written = refl

made : plain 30 (loaded.Slot 0 ∷ loaded.Int (pos 128) ∷ []) [] ≡ op.ArrayCreate (Slot 0) 128
made = refl

found : plain 35 (loaded.Slot 0 ∷ loaded.Slot 1 ∷ loaded.Slot 2 ∷ loaded.Slot 3 ∷ []) [] ≡ op.ArrayRFindElement (Slot 0) (Slot 1) (Slot 2) (Slot 3)
found = refl
