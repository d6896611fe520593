-- The first fields of a part stay read, too.
use Rattle.std.specs.Prelude.{zero, suc, Bool, true, false, Option, Some, None}
use Rattle.std.proofs.Common.{ℕ, List, refl}
use Rattle.pex_values.specs.Opcodes.{operands_of}
use Rattle.pex_codec.specs.declared.scan.Part.TheVariants as part
use Rattle.pex_codec.specs.Opening.{fixed_with, fixed_at, state_count_at, debug_count_with, debug_count_at}
use Rattle.pex_codec.specs.Reading.{number_at, reference_at, opcode_at, count_at, debug_flag_at}
use Rattle.pex_codec.specs.Scanning.{times_at}
use Rattle.pex_codec.proofs.Stable.{IsStable, then_stable, as_stable, number_stable, reference_stable, opcode_stable, count_stable, debug_flag_stable}
use Rattle.pex_codec.proofs.StableTasks.{times_stable}

fixed_with_stable : (strings : ℕ) (operands : Option (ℕ × Bool)) → IsStable (fixed_with strings operands)
fixed_with_stable strings (Some (n, true)) = then_stable (times_at part.Operand n strings) (λ fixed at1 rest1. count_at at1 rest1) (times_stable part.Operand n strings) (λ fixed. count_stable)
fixed_with_stable strings (Some (n, false)) = as_stable (λ fixed. 0) (times_at part.Operand n strings) (times_stable part.Operand n strings)
fixed_with_stable strings None = λ at bytes x. tt

pub fixed_stable : (strings : ℕ) → IsStable (fixed_at strings)
unfolding fixed_at
fixed_stable strings = then_stable opcode_at (λ opcode at1 rest1. fixed_with strings (operands_of opcode) at1 rest1) opcode_stable (λ opcode. fixed_with_stable strings (operands_of opcode))

pub state_count_stable : (strings : ℕ) → IsStable (state_count_at strings)
unfolding state_count_at
state_count_stable strings = then_stable (reference_at strings) (λ name at1 rest1. number_at 2 at1 rest1) (reference_stable strings) (λ name. number_stable 2)

debug_with_stable : (flag : ℕ) → IsStable (debug_count_with flag)
debug_with_stable zero = λ at bytes x. refl
debug_with_stable (suc flag) = then_stable (number_at 8) (λ time at1 rest1. number_at 2 at1 rest1) (number_stable 8) (λ time. number_stable 2)

pub debug_count_stable : IsStable debug_count_at
unfolding debug_count_at
debug_count_stable = then_stable debug_flag_at debug_count_with debug_flag_stable debug_with_stable
