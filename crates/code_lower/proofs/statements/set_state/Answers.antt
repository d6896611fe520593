use Rattle.std.proofs.Common.{refl}
use Rattle.core_tree.specs.Tree.{expression_of, StoreState}
use Rattle.code_lower.proofs.FormsEmit.{if_ok_then}
use Rattle.code_lower.proofs.Operands.{gives_one}
use Rattle.code_lower.proofs.EffectsEmit.{store_emits}
use Rattle.code_lower.proofs.statements.set_state.Goals as goal

pub store-requires : goal.store-requires
store-requires c = gives_one c.value.new.writer.slots c.in_ok-to.to c.in_ok-to.ensures.emits.given

pub returns : goal.returns
returns c =
    if_ok_then c.store.result c.store.ensures (λ u i. store_emits (expression_of c.args.to.now) StoreState c.args.writer.now c.value.new.writer c.store.new.self c.in_ok-to.to _ c.in_ok-to.ensures.emits c.in_ok-to.ensures.value i refl (λ r serves. tt))
