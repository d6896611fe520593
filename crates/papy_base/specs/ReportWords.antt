-- How lines of a run spell texts and the faults of stacks.
use Rattle.std.specs.Prelude.{ℕ, ◌==◌, List, [], ◌∷◌, codes, flat_map, if◌then◌else◌}
use Rattle.papy_base.specs.declared.faults.StackFault.{StackFault}
use Rattle.papy_base.specs.declared.faults.StackFault.TheVariants as faults

-- a line feed stands as `\n`, and a backslash as two
abbrev pub escaped_byte : ℕ → List ℕ
escaped_byte byte = if byte == 10 then 92 ∷ 110 ∷ [] else (if byte == 92 then 92 ∷ 92 ∷ [] else byte ∷ [])

abbrev pub escaped : List ℕ → List ℕ
escaped text = flat_map escaped_byte text

abbrev pub fault_name : StackFault → List ℕ
fault_name faults.NoneCall = codes "NoneCall"
fault_name faults.NoneProperty = codes "NoneProperty"
fault_name faults.NoneArray = codes "NoneArray"
fault_name faults.IndexRange = codes "IndexRange"
fault_name faults.DivideZero = codes "DivideZero"
fault_name faults.TextTooLong = codes "TextTooLong"
fault_name faults.FrameLimit = codes "FrameLimit"
fault_name faults.ArrayLimit = codes "ArrayLimit"
