use Rattle.std.proofs.Common.{◌∙◌, sym}
use Rattle.pex_verify.specs.Coding.{outline_in}
use Rattle.pex_verify.specs.declared.form.Form.TheVariants as form
use Rattle.pex_verify.proofs.Coding.{call_coded, plain_coded, static_coded}
use Rattle.pex_verify.proofs.coded.coded_instruction.Goals as goal

pub returns-in-Plain : goal.returns-in-Plain
returns-in-Plain c =
    plain_coded (outline_in c.args.scripts.now) c.args.instruction c.in-Plain.form c.plain.result c.of-operands.result c.of-operands.ensures (sym c.form_of.ensures ∙ c.in-Plain.is) c.plain.ensures.means c.plain.ensures.sound

pub returns-in-CallMethod : goal.returns-in-CallMethod
returns-in-CallMethod c =
    call_coded c.call_method.result (outline_in c.args.scripts.now) c.args.instruction form.CallMethod c.of-operands.result c.of-operands.ensures (sym c.form_of.ensures ∙ c.in-CallMethod.is) c.call_method.ensures.means c.call_method.ensures.sound

pub returns-in-CallParent : goal.returns-in-CallParent
returns-in-CallParent c =
    call_coded c.call_parent.result (outline_in c.args.scripts.now) c.args.instruction form.CallParent c.of-operands.result c.of-operands.ensures (sym c.form_of.ensures ∙ c.in-CallParent.is) c.call_parent.ensures.means c.call_parent.ensures.sound

pub returns-in-CallStatic : goal.returns-in-CallStatic
returns-in-CallStatic c =
    static_coded c.call_static.result (outline_in c.args.scripts.now) c.args.instruction form.CallStatic c.of-operands.result c.of-operands.ensures (sym c.form_of.ensures ∙ c.in-CallStatic.is) c.call_static.ensures.means c.call_static.ensures.sound

pub returns-in-PropGet : goal.returns-in-PropGet
returns-in-PropGet c =
    call_coded c.get_property.result (outline_in c.args.scripts.now) c.args.instruction form.PropGet c.of-operands.result c.of-operands.ensures (sym c.form_of.ensures ∙ c.in-PropGet.is) c.get_property.ensures.means c.get_property.ensures.sound

pub returns-in-PropSet : goal.returns-in-PropSet
returns-in-PropSet c =
    call_coded c.set_property.result (outline_in c.args.scripts.now) c.args.instruction form.PropSet c.of-operands.result c.of-operands.ensures (sym c.form_of.ensures ∙ c.in-PropSet.is) c.set_property.ensures.means c.set_property.ensures.sound
