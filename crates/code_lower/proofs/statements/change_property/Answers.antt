use Rattle.std.proofs.Common.{[], ◌∷◌}
use Rattle.core_tree.specs.Tree.{expression_of}
use Rattle.code_lower.proofs.FormsEmit.{if_ok_then}
use Rattle.code_lower.proofs.Operands.{gives_one}
use Rattle.code_lower.proofs.EffectsEmit.{held_given, old_given, change_property_emits}
use Rattle.code_lower.proofs.statements.change_property.Goals as goal

pub changed-requires : goal.changed-requires
changed-requires c = old_given c.kept.new.self c.take.new.self c.add.new.self c.args.kind c.in_ok-old.old _ c.in_ok-old.ensures c.in_ok-add.ensures

pub instruct-requires : goal.instruct-requires
instruct-requires c =
    let keeps = c.in_ok-of-2.ensures in
    let emits = c.in_ok-of.ensures.emits in
    held_given (expression_of c.args.right.now) c.args.operation c.args.kind c.kept.new.self c.take.new.self c.add.new.self c.changed.new.writer (c.in_ok-of-2.of ∷ []) c.in_ok-old.old c.in_ok-new.new _ (gives_one c.kept.new.self.slots c.in_ok-of-2.of (keeps.given emits.given)) (keeps.out emits.out) c.in_ok-old.ensures c.in_ok-add.ensures c.in_ok-new.ensures

pub returns : goal.returns
returns c =
    if_ok_then c.instruct.result c.instruct.ensures (λ u i. change_property_emits (expression_of c.args.of.now) (expression_of c.args.right.now) c.args.name.now c.args.kind c.args.operation c.args.writer.now c.value.new.writer c.kept.new.self c.take.new.self c.add.new.self c.changed.new.writer c.instruct.new.self c.in_ok-of.of c.in_ok-of-2.of c.in_ok-old.old c.in_ok-new.new c.in_ok-of.ensures.emits c.in_ok-of.ensures.value c.in_ok-of-2.ensures c.in_ok-old.ensures c.in_ok-add.ensures c.in_ok-new.ensures i)
