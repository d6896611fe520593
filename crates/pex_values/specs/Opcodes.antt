-- The operands of each opcode.
use Rattle.std.specs.Prelude.{ℕ, Bool, true, false, List, [], ◌∷◌, Option, slice_get}

-- n fixed operands and no others
abbrev only : ℕ → ℕ × Bool
only n = (n, false)

-- n fixed operands, then a count and that many more
abbrev with_more : ℕ → ℕ × Bool
with_more n = (n, true)

-- by the code: nop; iadd to imod; not to cast; cmp_eq to cmp_ge; jmp, jmpt, jmpf; callmethod, callparent,
-- callstatic; return, strcat, propget, propset; array_create, array_length, array_getelement,
-- array_setelement; array_findelement, array_rfindelement
abbrev pub operand_table : List (ℕ × Bool)
operand_table =
    only 0 ∷ only 3 ∷ only 3 ∷ only 3 ∷ only 3 ∷ only 3 ∷ only 3 ∷ only 3 ∷ only 3 ∷ only 3
    ∷ only 2 ∷ only 2 ∷ only 2 ∷ only 2 ∷ only 2
    ∷ only 3 ∷ only 3 ∷ only 3 ∷ only 3 ∷ only 3
    ∷ only 1 ∷ only 2 ∷ only 2
    ∷ with_more 3 ∷ with_more 2 ∷ with_more 3
    ∷ only 1 ∷ only 3 ∷ only 3 ∷ only 3
    ∷ only 2 ∷ only 2 ∷ only 3 ∷ only 3
    ∷ only 4 ∷ only 4 ∷ []

-- how many operands the opcode always has, and whether more follow; None where it is no opcode
abbrev pub operands_of : ℕ → Option (ℕ × Bool)
operands_of opcode = slice_get operand_table opcode
