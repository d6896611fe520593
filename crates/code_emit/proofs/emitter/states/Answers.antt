use Rattle.std.proofs.Common.{ℕ, ◌+◌, List, [], ◌∷◌, ◌++◌, length, map, take, sym, subst}
use Rattle.std.specs.List.{AllByRecursion}
use Rattle.core_tree.specs.declared.script.CoreState.{CoreState}
use Rattle.core_tree.specs.Set.{state_of}
use Rattle.pex_values.specs.declared.values.PexState.{PexState}
use Rattle.pex_values.specs.Plain.{PlainLines, plain_state, plain_lines}
use Rattle.pex_values.specs.Shape.{IsShapedState}
use Rattle.code_emit.specs.Spelled.{EachWith, SpellsState}
use Rattle.code_emit.specs.Strings.{Origin, Table, origin_of}
use Rattle.code_emit.specs.Writing.{Notes}
use Rattle.code_emit.proofs.Goes.{more, goes_further}
use Rattle.code_emit.proofs.Later.{each_grown, state_later}
use Rattle.code_emit.proofs.Noting.{notes_then}
use Rattle.code_emit.proofs.Spelling.{views_with, state_on}
use Rattle.code_emit.proofs.emitter.states.Goals as goal

pub loop-state-preserved : goal.loop-state-preserved
loop-state-preserved c =
    let from : Origin = origin_of c.args.source.now in
    let old : Table = c.loop-state.writer.strings in
    let new : Table = c.one_state.new.writer.strings in
    let goes = c.in_ok-one_state.ensures.goes in
    let found : List PexState = c.loop-state.found.items in
    let one : PexState = c.in_ok-one_state.field-0 in
    let items : List CoreState = c.args.states.now in
    let at = c.loop-state.state-index in
    let a : List PlainLines = map plain_lines c.args.writer.now.debug.items in
    let b : List PlainLines = map plain_lines c.loop-state.writer.debug.items in
    let d : List PlainLines = map plain_lines c.one_state.new.writer.debug.items in
    let n = length old.strings in
    let m = length new.strings in
    let P : List PexState → Type 0 = λ xs. AllByRecursion (IsShapedState m) (map plain_state xs) in
    let Q : List PexState → Type 0 = λ xs. Notes m a d (EachWith (SpellsState from new) (map plain_state xs) (map state_of (take (at + 1) items))) in
    record {
      goes = goes_further c.args.writer.now.strings old new c.loop-state.invariant.goes goes;
      each = subst P (sym c.in_ok-push.ensures.items) (each_grown (IsShapedState n) (IsShapedState m) plain_state (state_later n m (more goes)) found one c.loop-state.invariant.each c.in_ok-one_state.ensures.state);
      spelled = subst Q (sym c.in_ok-push.ensures.items) (notes_then n m (more goes) a b d _ _ _ (λ es fs all is. views_with (SpellsState from old) (SpellsState from new) (state_on old new goes from) plain_state state_of found items at one c.state-item.result es fs c.loop-state-test.true c.state-item.is all is) c.loop-state.invariant.spelled c.in_ok-one_state.ensures.spelled);
    }
