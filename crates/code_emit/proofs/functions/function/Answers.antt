use Rattle.std.proofs.Common.{ℕ, List, length, map}
use Rattle.core_tree.specs.Set as trees
use Rattle.code_lower.specs.declared.place.Coded.{Coded}
use Rattle.code_lower.specs.declared.place.Lowered.{Lowered}
use Rattle.pex_values.specs.declared.values.PexFunction.{PexFunction}
use Rattle.pex_values.specs.Plain.{PlainLines, plain_function, plain_lines}
use Rattle.code_emit.specs.Spelled.{Each, Part, SpellsCode, SpellsFunction, SpellsLines, lines_told, part_named}
use Rattle.code_emit.specs.Strings.{Table, origin_of}
use Rattle.code_emit.specs.Writing.{Notes}
use Rattle.code_emit.proofs.Noting.{ok_both, notes_changed}
use Rattle.code_emit.proofs.functions.function.Goals as goal

pub returns-clause-spelled : goal.returns-clause-spelled
returns-clause-spelled c =
    let part : Part = part_named c.args.place in
    let after : Table = c.written-written.new.writer.strings in
    let a : List PlainLines = map plain_lines c.args.writer.now.debug.items in
    let b : List PlainLines = map plain_lines c.written-written.new.writer.debug.items in
    let tree : trees.Function = trees.function_of c.args.of.now in
    let lowered : Lowered = c.in_ok-lowered.lowered in
    let Told : List PlainLines → Type 0 = λ es. Each (SpellsLines after part) es (lines_told tree.is_native (map (λ (i : Coded × ℕ). i.1) lowered.code.items)) in
    let Spelled : PexFunction → List PlainLines → Type 0 = λ f es. SpellsFunction (origin_of c.args.source.now) after part (plain_function f) tree es in
    let n = length after.strings in
    ok_both (λ (f : PexFunction). Notes n a b Told) (λ (f : PexFunction). SpellsCode after tree lowered (plain_function f)) (λ (f : PexFunction). Notes n a b (Spelled f)) c.written-written.result c.written-written.ensures.told c.written-written.ensures.spelled (λ f told spelled. notes_changed n a b Told (Spelled f) (λ es is. record { lowered = lowered; is_lowered = c.in_ok-lowered.ensures; spelled = spelled; told = is }) told)
