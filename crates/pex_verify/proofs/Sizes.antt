-- Numbers of elements that stand in the code.
use Rattle.std.proofs.Common.{◌≡◌, ℕ, ◌≤◌, Bool, true, false, List, Some, ℤ, pos, ◌≤ℤ◌, nat_le, refl, subst, sym, arith}
use Rattle.std.specs.Prelude.{unsigned_abs, if◌then◌else◌}
use Rattle.std.proofs.lemmas.Bool.Decides.{nat_tests}
use Rattle.std.proofs.lemmas.Int.{ints}
use Rattle.pex_verify.specs.declared.action.Action.{Action}
use Rattle.pex_verify.specs.declared.action.Action.TheVariants as action
use Rattle.pex_verify.specs.declared.judged.JudgedOperand.{JudgedOperand as Operand}
use Rattle.pex_verify.specs.declared.judged.JudgedOperand.TheVariants as loaded
use Rattle.pex_verify.specs.declared.operand_rules.Lookup.{Lookup}
use Rattle.pex_verify.specs.declared.scope.FunctionScope.{FunctionScope}
use Rattle.pex_verify.specs.Accepted.{OperandsFit}
use Rattle.pex_verify.specs.JudgedCode.{number_of, size_of}
use Rattle.pex_verify.specs.Soundness.{HasSize, IsSize}

few_elements : (number : ℤ) → pos 1 ≤ℤ number → number ≤ℤ pos 128 → (1 ≤ unsigned_abs number) × (unsigned_abs number ≤ 128)
few_elements number least most = (omega (arith, ints), omega (arith, ints))

kept : (b : Bool) (x : ℕ) → nat_le x 255 ≡ b → x ≤ 128 → (if b then x else 0) ≡ x
kept true x e h = refl
kept false x e h = absurd (grind (arith, nat_tests))

-- it is a byte
int_size : (number : ℤ) → pos 1 ≤ℤ number → number ≤ℤ pos 128 → (1 ≤ size_of number) × (size_of number ≤ 128)
int_size number least most =
    let few = few_elements number least most in
    let same = kept (nat_le (unsigned_abs number) 255) (unsigned_abs number) refl few.1 in
    subst (λ (n : ℕ). (1 ≤ n) × (n ≤ 128)) (sym same) few

pub size_in_range : (o : Operand) → IsSize o → (1 ≤ size_of (number_of o)) × (size_of (number_of o) ≤ 128)
size_in_range loaded.NoneValue h = absurd h
size_in_range (loaded.Word name) h = absurd h
size_in_range (loaded.Quoted text) h = absurd h
size_in_range (loaded.Int number) h = int_size number h.0 h.1
size_in_range (loaded.Bool truth) h = absurd h
size_in_range (loaded.Slot number) h = absurd h
size_in_range (loaded.Variable number) h = absurd h
size_in_range loaded.Instance h = absurd h
size_in_range loaded.State h = absurd h

-- the operands of an instruction that makes an array have such a number
pub size_fits : (scope : FunctionScope) (a : Action) (fixed more : List Operand) (found : Lookup) → OperandsFit scope a fixed more found → HasSize (Some a) fixed
size_fits scope action.CreateArray fixed more found h = h.1
size_fits scope action.Nothing fixed more found h = tt
size_fits scope action.Float fixed more found h = tt
size_fits scope action.Arithmetic fixed more found h = tt
size_fits scope action.Invert fixed more found h = tt
size_fits scope action.Negate fixed more found h = tt
size_fits scope action.Assign fixed more found h = tt
size_fits scope action.Cast fixed more found h = tt
size_fits scope action.Equal fixed more found h = tt
size_fits scope action.Order fixed more found h = tt
size_fits scope action.Jump fixed more found h = tt
size_fits scope action.JumpIf fixed more found h = tt
size_fits scope action.CallMethod fixed more found h = tt
size_fits scope action.CallParent fixed more found h = tt
size_fits scope action.CallStatic fixed more found h = tt
size_fits scope action.Return fixed more found h = tt
size_fits scope action.Join fixed more found h = tt
size_fits scope action.GetProperty fixed more found h = tt
size_fits scope action.SetProperty fixed more found h = tt
size_fits scope action.ArrayLength fixed more found h = tt
size_fits scope action.GetElement fixed more found h = tt
size_fits scope action.SetElement fixed more found h = tt
size_fits scope action.FindElement fixed more found h = tt
