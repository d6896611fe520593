-- A text of at most 1 MiB has few lines.
use Rattle.std.proofs.Common.{arith, ◌≡◌, ℕ, suc, ◌+◌, ◌<◌, ◌≤◌, ◌^◌, ◌==◌, Bool, true, false, List, [], ◌∷◌, length, length-drop}
use Rattle.std.specs.Prelude.{if◌then◌else◌}
use Rattle.script_lexer.specs.Lines.{LogicalLine, Lexes, physical_lines, text_of, mark_len}

one-more : (t : Bool) (n m : ℕ) → n ≤ m → (if t then 1 else 0) + n ≤ suc m
one-more true n m small = omega arith
one-more false n m small = omega arith

few-physical : (text : List ℕ) → physical_lines text ≤ length text
few-physical [] = omega arith
few-physical (b ∷ []) = omega arith
few-physical (b ∷ c ∷ bytes) = one-more (b == 10) (physical_lines (c ∷ bytes)) (length (c ∷ bytes)) (few-physical (c ∷ bytes))

pub few_lines : (text : List ℕ) (lines : List LogicalLine) (last : ℕ) → Lexes text lines last → length text ≤ 1048576 → last + 1 < 2 ^ 32
few_lines text lines last lexes small =
    let counted : last ≡ physical_lines (text_of text) = lexes.as_last in
    let few = few-physical (text_of text) in
    let shorter = length-drop (mark_len text) text in
    omega arith
