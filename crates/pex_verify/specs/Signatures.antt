-- Functions as other scripts see them, by the numbers of names.
use Rattle.std.specs.Prelude.{◌≡◌, ℕ, ◌==◌, Bool, not, List, [], map, bit_and, slice_index_or}
use Rattle.pex_values.specs.declared.values.PexFunction.{PexFunction}
use Rattle.pex_verify.specs.declared.scripts.Signature.{Signature}

-- the number of the string at a reference of a file, with the numbers of its strings
abbrev pub number_at : List ℕ → ℕ → ℕ
number_at numbers reference = slice_index_or numbers reference 0

-- the string itself, with the file's strings
abbrev pub title_at : List (List ℕ) → ℕ → List ℕ
title_at titles reference = slice_index_or titles reference []

-- the type of a parameter or local, beside its name
abbrev pub kind_at : List ℕ → ℕ × ℕ → ℕ
kind_at numbers pair = number_at numbers pair.1

-- whether a bit is set
abbrev pub has_bit : ℕ → ℕ → Bool
has_bit bits bit = not (bit_and bits bit == 0)

-- a function without its code. Bit 1 is global and bit 2 is native
pub record Declared : Type 0 where
  pub name : ℕ
  pub answer : ℕ
  pub parameters : List ℕ
  pub bits : ℕ

abbrev pub declared_of : Signature → Declared
declared_of signature =
    record { name = signature.name; answer = signature.answer; parameters = signature.parameters.items; bits = signature.bits }

-- what a function of a file, beside its name, declares
abbrev pub declared_by : List ℕ → ℕ × PexFunction → Declared
declared_by numbers function =
    record { name = number_at numbers function.0; answer = number_at numbers function.1.result; parameters = map (kind_at numbers) function.1.parameters.items; bits = bit_and function.1.bits 3 }

-- the same result, parameter types and kind of function
pub record AreAlike (one other : Declared) : Type 0 where
  pub answer : one.answer ≡ other.answer
  pub parameters : one.parameters ≡ other.parameters
  pub bits : one.bits ≡ other.bits
