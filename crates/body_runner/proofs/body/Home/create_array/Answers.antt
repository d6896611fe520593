use Rattle.std.proofs.Common.{◌≡◌, ◌∙◌, Option, Some, IfOk, ap, subst, sym}
use Rattle.std.specs.Option.{option_and_then}
use Rattle.core_tree.specs.declared.core_type.CoreType.{CoreType}
use Rattle.core_tree.specs.Values.{element_kind}
use Rattle.body_runner.specs.Instructions.{Creates}
use Rattle.body_runner.specs.Operands.{kind_of}
use Rattle.body_runner.proofs.ArraySteps.{added_then}
use Rattle.body_runner.proofs.body.Home.create_array.Goals as goal

pub returns : goal.returns
returns c =
    let kind : Some c.in-Some.kind ≡ option_and_then element_kind (kind_of c.args.self.now c.args.to.now) = sym c.in-Some.is ∙ (c.element_type.ensures.element ∙ ap (option_and_then element_kind) c.type_of.ensures) in
    λ sized. subst (λ (k : Option CoreType). IfOk c.answer.result (Creates c.args.self.now c.args.inner.now c.answer.new.inner c.args.to.now k c.args.size)) kind (added_then c.args.self.now c.args.inner.now c.make_array.new.inner c.answer.new.inner c.args.to.now c.in-Some.kind c.size_of_array.result c.args.size c.in_ok-value.value c.in_ok-value.fault c.answer.result (c.size_of_array.ensures.same sized) c.in_ok-value.ensures c.answer.ensures.stored c.answer.ensures.fault)
