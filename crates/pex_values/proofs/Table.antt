-- The table of the program has the operands of the definition's table, entry for entry.
use Rattle.std.proofs.Common.{◌≡◌, ℕ, ◌<◌, ◌≤◌, Bool, List, length, get_or, map, Some, None, sym, ap, ◌∙◌, arith}
use Rattle.std.specs.Prelude.{slice_get, option_map}
use Rattle.std.proofs.lemmas.List.{length-map}
use Rattle.std.proofs.lemmas.Option.{slice_get-map, slice_get-get_or, slice_get_past}
use Rattle.pex_values.specs.declared.opcodes.Opcode.{Opcode}
use Rattle.pex_values.specs.Opcodes.{operand_table, operands_of}

abbrev pub numbers : Opcode → ℕ × Bool
numbers e = (e.fixed, e.more)

pub entry_at : (entries : List Opcode) (k : ℕ) (d : Opcode) → map numbers entries ≡ operand_table → k ≤ 35 → Some ((get_or entries k d).fixed, (get_or entries k d).more) ≡ operands_of k
entry_at entries k d same most =
    let long : length entries ≡ 36 = sym (length-map entries numbers) ∙ ap length same in
    let below : k < length entries = omega arith in
    sym (ap (λ (t : List (ℕ × Bool)). slice_get t k) (sym same) ∙ slice_get-map numbers entries k ∙ ap (option_map numbers) (slice_get-get_or entries k d below))

pub no_entry : (k : ℕ) → 35 < k → None ≡ operands_of k
no_entry k past = sym (slice_get_past operand_table k (omega arith))
