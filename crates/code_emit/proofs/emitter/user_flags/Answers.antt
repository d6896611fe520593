use Rattle.std.proofs.Common.{ℕ, List, length, refl, sym, subst, arith}
use Rattle.std.specs.List.{AllByRecursion}
use Rattle.pex_values.specs.Shape.{IsShapedFlag}
use Rattle.code_emit.specs.Spelled.{Each, SpellsFlag, user_flags}
use Rattle.code_emit.specs.Strings.{Table}
use Rattle.code_emit.proofs.Goes.{more}
use Rattle.code_emit.proofs.Later.{reference_later}
use Rattle.code_emit.proofs.Spelling.{reads_on}
use Rattle.code_emit.proofs.emitter.user_flags.Goals as goal

pub returns-clause-flags : goal.returns-clause-flags
returns-clause-flags c =
    let n = length c.place_of-2.new.self.strings in
    let P : List (ℕ × ℕ) → Type 0 = λ flags. AllByRecursion (IsShapedFlag n) flags in
    subst P (sym c.in_ok-flags.ensures.items) (
      record { name = reference_later (length c.place_of.new.self.strings) n (more c.in_ok-conditional.ensures.goes) c.in_ok-hidden.hidden c.in_ok-hidden.ensures.place; index = omega arith },
      (record { name = c.in_ok-conditional.ensures.place; index = omega arith }, tt),
    )

pub returns-clause-spelled : goal.returns-clause-spelled
returns-clause-spelled c =
    let after : Table = c.place_of-2.new.self in
    let P : List (ℕ × ℕ) → Type 0 = λ flags. Each (SpellsFlag after) flags user_flags in
    subst P (sym c.in_ok-flags.ensures.items) (
      record { name = reads_on _ _ c.in_ok-conditional.ensures.goes c.in_ok-hidden.hidden _ c.in_ok-hidden.ensures.named; index = refl },
      (record { name = c.in_ok-conditional.ensures.named; index = refl }, tt),
    )
