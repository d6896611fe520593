use Rattle.std.proofs.Common.{◌≡◌, ℕ, sym, subst}
use Rattle.pex_codec.specs.Opening.{PassesIf, PassesOne, fixed_at}
use Rattle.pex_codec.specs.Reading.{Got}
use Rattle.pex_codec.specs.declared.scan.Part.{Part}
use Rattle.pex_codec.proofs.Passing.{operand_if, instruction_passed}
use Rattle.pex_codec.proofs.cursor.Cursor.passes.Goals as goal

pub returns-in-Operand : goal.returns-in-Operand
returns-in-Operand c =
    subst (λ (p : Part). PassesIf c.is_ok.result p c.args.strings c.args.self.now c.datum.new.self) (sym c.in-Operand.is)
    (operand_if c.datum.result c.is_ok.result c.args.strings c.args.self.now c.datum.new.self c.is_ok.ensures.value c.datum.ensures)

pub returns-in-Ok-eq0 : goal.returns-in-Ok-eq0
returns-in-Ok-eq0 c =
    let old = c.args.self.now in
    let new = c.fixed.new.self in
    subst (λ (p : Part). PassesOne p c.args.strings old new) (sym c.in-Instruction.is)
    (instruction_passed c.args.strings old new (subst (λ (n : ℕ). fixed_at c.args.strings old.at old.rest.now ≡ Got n new.at new.rest.now) c.in-Ok-eq0.field-0-test c.in-Ok-eq0.ensures))
