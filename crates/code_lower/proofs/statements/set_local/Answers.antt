use Rattle.std.proofs.Common.{[], ◌∷◌, sym, ap}
use Rattle.core_tree.specs.Tree.{expression_of, StoreLocal}
use Rattle.code_meaning.specs.Code as op
use Rattle.code_lower.specs.declared.place.Place.{Place}
use Rattle.code_lower.specs.Lowered.{operand_of}
use Rattle.code_lower.proofs.FormsEmit.{if_ok_then}
use Rattle.code_lower.proofs.Operands.{gives_one, grows_to}
use Rattle.code_lower.proofs.EffectsEmit.{store_emits, own_has}
use Rattle.code_lower.proofs.statements.set_local.Goals as goal

pub store-requires : goal.store-requires
store-requires c = gives_one c.value.new.writer.slots c.in_ok-to.to c.in_ok-to.ensures.emits.given

pub returns : goal.returns
returns c =
    if_ok_then c.store.result c.store.ensures (λ u i. store_emits (expression_of c.args.to.now) (StoreLocal c.args.number) c.args.writer.now c.value.new.writer c.store.new.self c.in_ok-to.to _ c.in_ok-to.ensures.emits c.in_ok-to.ensures.value i (ap (λ (p : Place). op.Assign (operand_of p) (operand_of c.in_ok-to.to) ∷ []) (sym c.in_ok-place.ensures.same)) (λ r serves. own_has c.value.new.writer c.store.new.self r c.args.number c.in_ok-place.ensures.own i.known (grows_to c.value.new.writer.slots c.store.new.self.slots i.gave.kinds i.gave.own) serves))
