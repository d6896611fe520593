use Rattle.std.proofs.Common.{◌≡◌, ◌++◌, List, ℕ, vec_len, append_assoc, arith, rules, [], ◌∷◌, ◌∙◌}
use Rattle.pex_values.specs.declared.values.PexFunction.{PexFunction}
use Rattle.pex_values.specs.Fit.{FitsInstruction}
use Rattle.pex_values.specs.Plain.{plain_instruction, plain_function}
use Rattle.pex_values.specs.Shape.{IsShapedInstruction}
use Rattle.pex_values.specs.Spelling as spell
use Rattle.pex_values.proofs.Sizes.{function_size}
use Rattle.pex_listing.specs.Lines.{line_end, number}
use Rattle.pex_listing.specs.Listing as form
use Rattle.pex_listing.specs.Spelled.{spelled_in}
use Rattle.pex_listing.proofs.Parts.{viewed}
use Rattle.pex_listing.proofs.Taken.{begun_more, ended, lines_more, lines_as}
use Rattle.std.specs.Prelude.{codes}
use Rattle.pex_listing.specs.Breaks.{Many, a_name, a_byte, some_flags, done, function_lines, any_number_of}
use Rattle.pex_listing.specs.Listing.{opcode_names}
use Rattle.pex_listing.proofs.Opening.{line_read, read_err, param_form, local_form}
use Rattle.pex_listing.proofs.objects.read_function.Goals as goal

-- a text before a function's line, and the lines behind it
joined : (t a b c d e x y z : List ℕ) → (((((((t ++ a) ++ b) ++ c) ++ d) ++ e) ++ x) ++ y) ++ z ≡ t ++ (((((((a ++ b) ++ c) ++ d) ++ e) ++ x) ++ y) ++ z)
joined t a b c d e x y z = simp append_assoc

pub returns : goal.returns
unfolding form.function
returns c =
    let n = vec_len c.args.names.now.spelled in
    let s = spelled_in c.args.names.now in
    let result = c.reference-result.ensures.gives in
    let doc = c.reference-doc.ensures.gives in
    let flags = c.unsigned_32-flags.ensures.taken in
    let bits = c.unsigned_8-bits.ensures.taken in
    let end = c.in_ok-next_line.ensures.ends in
    let good = flags.good (bits.good end.good) in
    let ps = c.in_ok-parameters.ensures.all in
    let ls = c.in_ok-locals.ensures.all in
    let code = viewed (IsShapedInstruction n) FitsInstruction spell.instruction (form.instruction s) plain_instruction _ _ c.in_ok-code.code.items c.in_ok-code.ensures.all in
    let f : PexFunction = record { result = c.reference-result.result; doc = c.reference-doc.result; flags = c.unsigned_32-flags.result; bits = c.unsigned_8-bits.result; parameters = c.in_ok-parameters.parameters; locals = c.in_ok-locals.locals; code = c.in_ok-code.code } in
    record {
      holds = (
        record { result = result.holds (doc.takes.good good); doc = doc.holds good; flags = search rules; bits = search rules; parameters = ps.each; locals = ls.each; code = code.shaped },
        record { parameters = ps.counted; locals = ls.counted; code = code.counted; instructions = code.fits },
      );
      good = result.takes.good (doc.takes.good good);
      lines = λ text first m k begun bytes.
          let line = ended (begun_more (begun_more (begun_more (begun_more begun result.takes) doc.takes) flags) bits) end in
          let all = lines_more (lines_more (lines_more line ps.takes) ls.takes) code.takes in
          lines_as (joined text (form.name s f.result) (form.name s f.doc) (number f.flags) (number f.bits) line_end _ _ _) (omega (arith, function_size (plain_function f), bytes)) all;
      left = λ strings awaited table.
          let read =
          (c.reference-result.ensures.tested strings table).left strings awaited (a_name strings (some_flags (a_byte (done function_lines []))))
          ∙ (c.reference-doc.ensures.tested strings table).left strings awaited (some_flags (a_byte (done function_lines [])))
          ∙ c.unsigned_32-flags.ensures.counted.left strings awaited (λ _. a_byte (done function_lines []))
          ∙ c.unsigned_8-bits.ensures.counted.left strings awaited (λ _. done function_lines []) in
          let line = line_read strings awaited function_lines _ _ read (c.in_ok-next_line.ensures.left strings awaited function_lines []) in
          let parameters = c.in_ok-parameters.ensures.left (λ s t. param_form s t) strings (any_number_of (codes "local") ∷ Many opcode_names 0 ∷ awaited) table line.1 in
          let locals = c.in_ok-locals.ensures.left (λ s t. local_form s t) strings (Many opcode_names 0 ∷ awaited) table parameters.1 in
          let instructions = c.in_ok-code.ensures.left strings awaited table locals.1 in
          (line.0 ∙ parameters.0 ∙ locals.0 ∙ instructions.0, instructions.1);
    }

pub returns-in_err-next_line-clause-left : goal.returns-in_err-next_line-clause-left
returns-in_err-next_line-clause-left c = λ strings awaited table.
    let read =
    (c.reference-result.ensures.tested strings table).left strings awaited (a_name strings (some_flags (a_byte (done function_lines []))))
    ∙ (c.reference-doc.ensures.tested strings table).left strings awaited (some_flags (a_byte (done function_lines [])))
    ∙ c.unsigned_32-flags.ensures.counted.left strings awaited (λ _. a_byte (done function_lines []))
    ∙ c.unsigned_8-bits.ensures.counted.left strings awaited (λ _. done function_lines []) in
    read_err _ _ c.in_err-next_line.field-0.0 c.from_residual.result (search rules) read (c.in_err-next_line.ensures.left strings awaited function_lines [])

pub returns-in_err-parameters-clause-left : goal.returns-in_err-parameters-clause-left
returns-in_err-parameters-clause-left c = λ strings awaited table.
    let read =
    (c.reference-result.ensures.tested strings table).left strings awaited (a_name strings (some_flags (a_byte (done function_lines []))))
    ∙ (c.reference-doc.ensures.tested strings table).left strings awaited (some_flags (a_byte (done function_lines [])))
    ∙ c.unsigned_32-flags.ensures.counted.left strings awaited (λ _. a_byte (done function_lines []))
    ∙ c.unsigned_8-bits.ensures.counted.left strings awaited (λ _. done function_lines []) in
    let line = line_read strings awaited function_lines _ _ read (c.in_ok-next_line.ensures.left strings awaited function_lines []) in
    read_err _ _ c.in_err-parameters.field-0.0 c.from_residual-in_err-parameters.result (search rules) line.0 (c.in_err-parameters.ensures.left (λ s t. param_form s t) strings (any_number_of (codes "local") ∷ Many opcode_names 0 ∷ awaited) table line.1)

pub returns-in_err-locals-clause-left : goal.returns-in_err-locals-clause-left
returns-in_err-locals-clause-left c = λ strings awaited table.
    let read =
    (c.reference-result.ensures.tested strings table).left strings awaited (a_name strings (some_flags (a_byte (done function_lines []))))
    ∙ (c.reference-doc.ensures.tested strings table).left strings awaited (some_flags (a_byte (done function_lines [])))
    ∙ c.unsigned_32-flags.ensures.counted.left strings awaited (λ _. a_byte (done function_lines []))
    ∙ c.unsigned_8-bits.ensures.counted.left strings awaited (λ _. done function_lines []) in
    let line = line_read strings awaited function_lines _ _ read (c.in_ok-next_line.ensures.left strings awaited function_lines []) in
    let parameters = c.in_ok-parameters.ensures.left (λ s t. param_form s t) strings (any_number_of (codes "local") ∷ Many opcode_names 0 ∷ awaited) table line.1 in
    read_err _ _ c.in_err-locals.field-0.0 c.from_residual-in_err-locals.result (search rules) (line.0 ∙ parameters.0) (c.in_err-locals.ensures.left (λ s t. local_form s t) strings (Many opcode_names 0 ∷ awaited) table parameters.1)

pub returns-in_err-code-clause-left : goal.returns-in_err-code-clause-left
returns-in_err-code-clause-left c = λ strings awaited table.
    let read =
    (c.reference-result.ensures.tested strings table).left strings awaited (a_name strings (some_flags (a_byte (done function_lines []))))
    ∙ (c.reference-doc.ensures.tested strings table).left strings awaited (some_flags (a_byte (done function_lines [])))
    ∙ c.unsigned_32-flags.ensures.counted.left strings awaited (λ _. a_byte (done function_lines []))
    ∙ c.unsigned_8-bits.ensures.counted.left strings awaited (λ _. done function_lines []) in
    let line = line_read strings awaited function_lines _ _ read (c.in_ok-next_line.ensures.left strings awaited function_lines []) in
    let parameters = c.in_ok-parameters.ensures.left (λ s t. param_form s t) strings (any_number_of (codes "local") ∷ Many opcode_names 0 ∷ awaited) table line.1 in
    let locals = c.in_ok-locals.ensures.left (λ s t. local_form s t) strings (Many opcode_names 0 ∷ awaited) table parameters.1 in
    read_err _ _ c.in_err-code.field-0.0 c.from_residual-in_err-code.result (search rules) (line.0 ∙ parameters.0 ∙ locals.0) (c.in_err-code.ensures.left strings awaited table locals.1)
