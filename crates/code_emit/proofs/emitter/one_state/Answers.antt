use Rattle.std.proofs.Common.{ℕ, List, length, map, subst}
use Rattle.core_tree.specs.declared.script.CoreFunction.{CoreFunction}
use Rattle.core_tree.specs.Set.{function_of, state_of}
use Rattle.pex_values.specs.Plain.{PlainLines, plain_lines, plain_named, plain_state}
use Rattle.code_emit.specs.Spelled.{EachWith, SpellsNamed, SpellsState}
use Rattle.code_emit.specs.Strings.{Origin, Table, origin_of}
use Rattle.code_emit.specs.Writing.{Notes}
use Rattle.code_emit.proofs.Goes.{more}
use Rattle.code_emit.proofs.Later.{reference_later}
use Rattle.code_emit.proofs.Noting.{notes_changed}
use Rattle.code_emit.proofs.Spelling.{reads_on}
use Rattle.code_emit.proofs.emitter.one_state.Goals as goal

pub returns-clause-state : goal.returns-clause-state
returns-clause-state c = record {
  name = reference_later (length c.place_of.new.self.strings) (length c.state_functions.new.writer.strings.strings) (more c.in_ok-functions.ensures.goes) c.in_ok-name.name c.in_ok-name.ensures.place;
  functions = c.in_ok-functions.ensures.functions;
}

pub returns-clause-spelled : goal.returns-clause-spelled
returns-clause-spelled c =
    let from : Origin = origin_of c.args.source.now in
    let new : Table = c.state_functions.new.writer.strings in
    let state = c.args.state.now in
    let a : List PlainLines = map plain_lines c.args.writer.now.debug.items in
    let b : List PlainLines = map plain_lines c.state_functions.new.writer.debug.items in
    let functions = map plain_named c.in_ok-functions.functions.items in
    let Are : List ℕ → List CoreFunction → List PlainLines → Type 0 = λ name fs es. EachWith (SpellsNamed from new name) functions (map function_of fs) es in
    let noted : Notes (length new.strings) a b (Are state.name state.functions.items) = subst (λ (name : List ℕ). Notes (length new.strings) a b (Are name state.functions.items)) c.as_bytes-2.ensures (subst (λ (fs : List CoreFunction). Notes (length new.strings) a b (Are c.as_bytes-2.result.now fs)) c.deref.ensures.value c.in_ok-functions.ensures.spelled) in
    notes_changed (length new.strings) a b (Are state.name state.functions.items) _ (λ es is. record {
      name = reads_on c.place_of.new.self new c.in_ok-functions.ensures.goes c.in_ok-name.name state.name (rw c.as_bytes.ensures at c.in_ok-name.ensures.named);
      functions = is;
    }) noted
