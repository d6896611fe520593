use Rattle.std.proofs.Common.{ℕ, List, length, map, subst}
use Rattle.code_lower.specs.declared.place.Coded.{Coded}
use Rattle.pex_values.specs.Plain.{PlainLines, plain_lines}
use Rattle.code_emit.specs.Spelled.{Each, Part, SpellsLines, lines_told, part_named}
use Rattle.code_emit.specs.Strings.{Table}
use Rattle.code_emit.specs.Writing.{Notes}
use Rattle.code_emit.proofs.Goes.{more}
use Rattle.code_emit.proofs.Noting.{ok_always, notes_later}
use Rattle.code_emit.proofs.Spelling.{told_on}
use Rattle.code_emit.proofs.functions.written.Goals as goal

pub returns-clause-told : goal.returns-clause-told
returns-clause-told c =
    let last = c.coded.ensures.goes in
    let part : Part = part_named c.args.place in
    let before : Table = c.note_lines.new.writer.strings in
    let after : Table = c.coded.new.strings in
    let a : List PlainLines = map plain_lines c.args.writer.now.debug.items in
    let b : List PlainLines = map plain_lines c.note_lines.new.writer.debug.items in
    let Told : Table → List (Coded × ℕ) → List PlainLines → Type 0 = λ t cs es. Each (SpellsLines t part) es (lines_told c.args.of.now.is_native (map (λ (i : Coded × ℕ). i.1) cs)) in
    let code : List (Coded × ℕ) = c.args.lowered.now.code.items in
    let told : Notes (length before.strings) a b (Told before code) = subst (λ (cs : List (Coded × ℕ)). Notes (length before.strings) a b (Told before cs)) c.deref.ensures.value c.in_ok-note_lines.ensures.told in
    ok_always _ c.coded.result (notes_later (length before.strings) (length after.strings) (more last) a b (Told before code) (Told after code) (λ es is. told_on before after last part es _ is) told)
