use Rattle.std.proofs.Common.{ℕ, ◌+◌, List, [], ◌∷◌, ◌++◌, length, map, take, sym, subst}
use Rattle.std.specs.List.{AllByRecursion}
use Rattle.core_tree.specs.declared.script.CoreFunction.{CoreFunction}
use Rattle.core_tree.specs.Set.{function_of}
use Rattle.pex_values.specs.declared.values.PexFunction.{PexFunction}
use Rattle.pex_values.specs.Plain.{PlainLines, plain_named, plain_lines}
use Rattle.pex_values.specs.Shape.{IsShapedNamed}
use Rattle.code_emit.specs.Spelled.{EachWith, SpellsNamed}
use Rattle.code_emit.specs.Strings.{Origin, Table, origin_of}
use Rattle.code_emit.specs.Writing.{Notes}
use Rattle.code_emit.proofs.Goes.{more, goes_further}
use Rattle.code_emit.proofs.Later.{each_grown, named_later}
use Rattle.code_emit.proofs.Noting.{notes_then}
use Rattle.code_emit.proofs.Spelling.{views_with, named_on}
use Rattle.code_emit.proofs.emitter.state_functions.Goals as goal

pub loop-each-preserved : goal.loop-each-preserved
loop-each-preserved c =
    let from : Origin = origin_of c.args.source.now in
    let old : Table = c.loop-each.writer.strings in
    let new : Table = c.named_function.new.writer.strings in
    let goes = c.in_ok-named_function.ensures.goes in
    let found : List (ℕ × PexFunction) = c.loop-each.found.items in
    let one : ℕ × PexFunction = c.in_ok-named_function.field-0 in
    let items : List CoreFunction = c.args.functions.now in
    let at = c.loop-each.each-index in
    let a : List PlainLines = map plain_lines c.args.writer.now.debug.items in
    let b : List PlainLines = map plain_lines c.loop-each.writer.debug.items in
    let d : List PlainLines = map plain_lines c.named_function.new.writer.debug.items in
    let n = length old.strings in
    let m = length new.strings in
    let P : List (ℕ × PexFunction) → Type 0 = λ xs. AllByRecursion (IsShapedNamed m) (map plain_named xs) in
    let Q : List (ℕ × PexFunction) → Type 0 = λ xs. Notes m a d (EachWith (SpellsNamed from new c.args.state.now) (map plain_named xs) (map function_of (take (at + 1) items))) in
    record {
      goes = goes_further c.args.writer.now.strings old new c.loop-each.invariant.goes goes;
      each = subst P (sym c.in_ok-push.ensures.items) (each_grown (IsShapedNamed n) (IsShapedNamed m) plain_named (named_later n m (more goes)) found one c.loop-each.invariant.each c.in_ok-named_function.ensures.function);
      spelled = subst Q (sym c.in_ok-push.ensures.items) (notes_then n m (more goes) a b d _ _ _ (λ es fs all is. views_with (SpellsNamed from old c.args.state.now) (SpellsNamed from new c.args.state.now) (named_on old new goes from c.args.state.now) plain_named function_of found items at one c.each-item.result es fs c.loop-each-test.true c.each-item.is all is) c.loop-each.invariant.spelled c.in_ok-named_function.ensures.spelled);
    }
