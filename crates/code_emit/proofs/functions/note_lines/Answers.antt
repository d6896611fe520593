use Rattle.std.proofs.Common.{◌≡◌, ℕ, Bool, false, List, length, map, sym, ap, subst, ◌∙◌, arith}
use Rattle.std.specs.Prelude.{IfOk}
use Rattle.code_lower.specs.declared.place.Coded.{Coded}
use Rattle.pex_values.specs.Plain.{plain_lines}
use Rattle.code_emit.specs.Spelled.{Each, SpellsLines, lines_told, part_named}
use Rattle.code_emit.specs.Writing.{Notes}
use Rattle.code_emit.proofs.Spelling.{taken_all}
use Rattle.code_emit.proofs.functions.note_lines.Goals as goal

pub returns-clause-told : goal.returns-clause-told
returns-clause-told c =
    let coded : List (Coded × ℕ) = c.args.coded.now in
    let after = c.note_lines.new.self in
    let lines : c.loop-each.lines.items ≡ map (λ (i : Coded × ℕ). i.1) coded = c.loop-each.invariant.each ∙ ap (map (λ (i : Coded × ℕ). i.1)) (taken_all coded c.loop-each.each-index (omega arith)) in
    let P : Bool → List ℕ → Type 0 = λ native ls. IfOk c.note_lines.result (λ _. Notes (length after.strings.strings) (map plain_lines c.args.writer.now.debug.items) (map plain_lines after.debug.items) (λ added. Each (SpellsLines after.strings (part_named c.args.place)) added (lines_told native ls))) in
    subst (λ (native : Bool). P native (map (λ (i : Coded × ℕ). i.1) coded)) (sym c.if-of.false) (subst (P false) lines c.note_lines.ensures.notes)
