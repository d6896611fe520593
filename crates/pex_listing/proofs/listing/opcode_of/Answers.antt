use Rattle.std.proofs.Common.{◌≡◌, ◌<◌, ◌≤◌, sym, ap, ◌∙◌, ⊎_elim, arith}
use Rattle.std.specs.Str.{bytes_eq}
use Rattle.std.specs.Cmp.Lexicographic.{bytes_decides}
use Rattle.std.proofs.lemmas.Bool.{cases_lt}
use Rattle.pex_listing.specs.Listing.{opcode_name}
use Rattle.pex_listing.proofs.OpcodeNames.{first_opcode, other_word}
use Rattle.pex_listing.proofs.listing.opcode_of.Goals as goal

pub loop-code-preserved : goal.loop-code-preserved
loop-code-preserved c = λ k below. ⊎_elim
    (λ (before : k < c.loop-code.code). c.loop-code.invariant k before)
    (λ (here : c.loop-code.code ≤ k). let same : k ≡ c.loop-code.code = omega arith in ap (λ n. bytes_eq c.args.word.now (opcode_name n)) same ∙ sym c.if-is_name_of.ensures)
    (cases_lt k c.loop-code.code)

pub returns-then-is_name_of-clause-name : goal.returns-then-is_name_of-clause-name
returns-then-is_name_of-clause-name c = (bytes_decides c.args.word.now (opcode_name c.loop-code.code)).0 (sym c.if-is_name_of.ensures)

pub returns-then-is_name_of-clause-place : goal.returns-then-is_name_of-clause-place
returns-then-is_name_of-clause-place c = sym (first_opcode c.args.word.now c.loop-code.code (omega arith) c.loop-code.invariant (sym c.if-is_name_of.ensures))

pub returns-clause-place : goal.returns-clause-place
returns-clause-place c = sym (other_word c.args.word.now c.loop-code.code (omega arith) c.loop-code.invariant)
