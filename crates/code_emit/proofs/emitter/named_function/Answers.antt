use Rattle.std.proofs.Common.{List, length, map, refl, subst}
use Rattle.core_tree.specs.Set as trees
use Rattle.pex_values.specs.Plain.{PlainFunction, PlainLines, plain_function, plain_lines}
use Rattle.code_emit.specs.Spelled.{Part, SpellsFunction, SpellsNamed}
use Rattle.code_emit.specs.Strings.{Origin, Table, origin_of}
use Rattle.code_emit.proofs.Goes.{more}
use Rattle.code_emit.proofs.Later.{reference_later}
use Rattle.code_emit.proofs.Noting.{notes_changed}
use Rattle.code_emit.proofs.Spelling.{reads_on, part_is}
use Rattle.code_emit.proofs.emitter.named_function.Goals as goal

pub returns-clause-function : goal.returns-clause-function
returns-clause-function c = record {
  name = reference_later (length c.place_of.new.self.strings) (length c.function.new.writer.strings.strings) (more c.in_ok-function.ensures.goes) c.in_ok-name.name c.in_ok-name.ensures.place;
  function = c.in_ok-function.ensures.function;
}

pub returns-clause-spelled : goal.returns-clause-spelled
returns-clause-spelled c =
    let from : Origin = origin_of c.args.source.now in
    let new : Table = c.function.new.writer.strings in
    let tree : trees.Function = trees.function_of c.args.of.now in
    let f : PlainFunction = plain_function c.in_ok-function.field-0 in
    let place = part_is _ _ _ _ _ _ 0 c.as_bytes-2.ensures refl c.as_bytes-3.ensures in
    notes_changed (length new.strings) (map plain_lines c.args.writer.now.debug.items) (map plain_lines c.function.new.writer.debug.items) _ (SpellsNamed from new c.args.state.now (c.in_ok-name.name, f) tree) (λ es is. record {
      name = reads_on c.place_of.new.self new c.in_ok-function.ensures.goes c.in_ok-name.name tree.name (rw c.as_bytes.ensures at c.in_ok-name.ensures.named);
      function = subst (λ (part : Part). SpellsFunction from new part f tree es) place is;
    }) c.in_ok-function.ensures.spelled
