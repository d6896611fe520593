use Rattle.std.proofs.Common.{IfOk, subst, sym}
use Rattle.std.proofs.lemmas.Result.{IfOk-weaker, on_ok_weaker}
use Rattle.body_runner.specs.Steps.{IsSized, Steps}
use Rattle.loaded_code.specs.declared.instruction.LoadedInstruction.TheVariants as loaded
use Rattle.body_runner.proofs.ArraySteps.{array_length, create, find_back, find_element, get_element, set_element}
use Rattle.body_runner.proofs.Steps.{answers, assign, cast, cmp_eq, cmp_ge, cmp_gt, cmp_le, cmp_lt, ends, iadd, idiv, imod, imul, ineg, invert, isub, jmpf, jmpt, strcat}
use Rattle.body_runner.proofs.body.Home.step.Goals as goal

pub returns-in-IAdd : goal.returns-in-IAdd
returns-in-IAdd c = λ there sized. ends c.args.self.now c.args.instruction.now (loaded.IAdd c.in-IAdd.result c.in-IAdd.left c.in-IAdd.right) c.args.inner.now c.iadd.new.inner c.iadd.result c.done.result c.in-IAdd.is c.done.ensures (on_ok_weaker c.iadd.result (iadd c.args.self.now c.args.inner.now c.iadd.new.inner there c.in-IAdd.result c.in-IAdd.left c.in-IAdd.right) c.iadd.ensures)

pub returns-in-ISub : goal.returns-in-ISub
returns-in-ISub c = λ there sized. ends c.args.self.now c.args.instruction.now (loaded.ISub c.in-ISub.result c.in-ISub.left c.in-ISub.right) c.args.inner.now c.isub.new.inner c.isub.result c.done-in-ISub.result c.in-ISub.is c.done-in-ISub.ensures (on_ok_weaker c.isub.result (isub c.args.self.now c.args.inner.now c.isub.new.inner there c.in-ISub.result c.in-ISub.left c.in-ISub.right) c.isub.ensures)

pub returns-in-IMul : goal.returns-in-IMul
returns-in-IMul c = λ there sized. ends c.args.self.now c.args.instruction.now (loaded.IMul c.in-IMul.result c.in-IMul.left c.in-IMul.right) c.args.inner.now c.imul.new.inner c.imul.result c.done-in-IMul.result c.in-IMul.is c.done-in-IMul.ensures (on_ok_weaker c.imul.result (imul c.args.self.now c.args.inner.now c.imul.new.inner there c.in-IMul.result c.in-IMul.left c.in-IMul.right) c.imul.ensures)

pub returns-in-Not : goal.returns-in-Not
returns-in-Not c = λ there sized. ends c.args.self.now c.args.instruction.now (loaded.Not c.in-Not.result c.in-Not.value) c.args.inner.now c.invert.new.inner c.invert.result c.done-in-Not.result c.in-Not.is c.done-in-Not.ensures (on_ok_weaker c.invert.result (invert c.args.self.now c.args.inner.now c.invert.new.inner there c.in-Not.result c.in-Not.value) c.invert.ensures)

pub returns-in-INeg : goal.returns-in-INeg
returns-in-INeg c = λ there sized. ends c.args.self.now c.args.instruction.now (loaded.INeg c.in-INeg.result c.in-INeg.value) c.args.inner.now c.ineg.new.inner c.ineg.result c.done-in-INeg.result c.in-INeg.is c.done-in-INeg.ensures (on_ok_weaker c.ineg.result (ineg c.args.self.now c.args.inner.now c.ineg.new.inner there c.in-INeg.result c.in-INeg.value) c.ineg.ensures)

pub returns-in-Assign : goal.returns-in-Assign
returns-in-Assign c = λ there sized. ends c.args.self.now c.args.instruction.now (loaded.Assign c.in-Assign.result c.in-Assign.value) c.args.inner.now c.assign.new.inner c.assign.result c.done-in-Assign.result c.in-Assign.is c.done-in-Assign.ensures (on_ok_weaker c.assign.result (assign c.args.self.now c.args.inner.now c.assign.new.inner there c.in-Assign.result c.in-Assign.value) c.assign.ensures)

pub returns-in-Cast : goal.returns-in-Cast
returns-in-Cast c = λ there sized. ends c.args.self.now c.args.instruction.now (loaded.Cast c.in-Cast.result c.in-Cast.value) c.args.inner.now c.cast.new.inner c.cast.result c.done-in-Cast.result c.in-Cast.is c.done-in-Cast.ensures (on_ok_weaker c.cast.result (cast c.args.self.now c.args.inner.now c.cast.new.inner there c.in-Cast.result c.in-Cast.value) c.cast.ensures)

pub returns-in-CmpEq : goal.returns-in-CmpEq
returns-in-CmpEq c = λ there sized. ends c.args.self.now c.args.instruction.now (loaded.CmpEq c.in-CmpEq.result c.in-CmpEq.left c.in-CmpEq.right) c.args.inner.now c.cmp_eq.new.inner c.cmp_eq.result c.done-in-CmpEq.result c.in-CmpEq.is c.done-in-CmpEq.ensures (on_ok_weaker c.cmp_eq.result (cmp_eq c.args.self.now c.args.inner.now c.cmp_eq.new.inner there c.in-CmpEq.result c.in-CmpEq.left c.in-CmpEq.right) c.cmp_eq.ensures)

pub returns-in-CmpLt : goal.returns-in-CmpLt
returns-in-CmpLt c = λ there sized. ends c.args.self.now c.args.instruction.now (loaded.CmpLt c.in-CmpLt.result c.in-CmpLt.left c.in-CmpLt.right) c.args.inner.now c.cmp_lt.new.inner c.cmp_lt.result c.done-in-CmpLt.result c.in-CmpLt.is c.done-in-CmpLt.ensures (on_ok_weaker c.cmp_lt.result (cmp_lt c.args.self.now c.args.inner.now c.cmp_lt.new.inner there c.in-CmpLt.result c.in-CmpLt.left c.in-CmpLt.right) c.cmp_lt.ensures)

pub returns-in-CmpLe : goal.returns-in-CmpLe
returns-in-CmpLe c = λ there sized. ends c.args.self.now c.args.instruction.now (loaded.CmpLe c.in-CmpLe.result c.in-CmpLe.left c.in-CmpLe.right) c.args.inner.now c.cmp_le.new.inner c.cmp_le.result c.done-in-CmpLe.result c.in-CmpLe.is c.done-in-CmpLe.ensures (on_ok_weaker c.cmp_le.result (cmp_le c.args.self.now c.args.inner.now c.cmp_le.new.inner there c.in-CmpLe.result c.in-CmpLe.left c.in-CmpLe.right) c.cmp_le.ensures)

pub returns-in-CmpGt : goal.returns-in-CmpGt
returns-in-CmpGt c = λ there sized. ends c.args.self.now c.args.instruction.now (loaded.CmpGt c.in-CmpGt.result c.in-CmpGt.left c.in-CmpGt.right) c.args.inner.now c.cmp_gt.new.inner c.cmp_gt.result c.done-in-CmpGt.result c.in-CmpGt.is c.done-in-CmpGt.ensures (on_ok_weaker c.cmp_gt.result (cmp_gt c.args.self.now c.args.inner.now c.cmp_gt.new.inner there c.in-CmpGt.result c.in-CmpGt.left c.in-CmpGt.right) c.cmp_gt.ensures)

pub returns-in-CmpGe : goal.returns-in-CmpGe
returns-in-CmpGe c = λ there sized. ends c.args.self.now c.args.instruction.now (loaded.CmpGe c.in-CmpGe.result c.in-CmpGe.left c.in-CmpGe.right) c.args.inner.now c.cmp_ge.new.inner c.cmp_ge.result c.done-in-CmpGe.result c.in-CmpGe.is c.done-in-CmpGe.ensures (on_ok_weaker c.cmp_ge.result (cmp_ge c.args.self.now c.args.inner.now c.cmp_ge.new.inner there c.in-CmpGe.result c.in-CmpGe.left c.in-CmpGe.right) c.cmp_ge.ensures)

pub returns-in-IDiv : goal.returns-in-IDiv
returns-in-IDiv c = λ there sized. answers c.args.self.now c.args.instruction.now (loaded.IDiv c.in-IDiv.result c.in-IDiv.left c.in-IDiv.right) c.args.inner.now c.idiv.new.inner c.idiv.result c.answered.result c.in-IDiv.is c.answered.ensures (IfOk-weaker c.idiv.result _ _ (idiv c.args.self.now c.args.inner.now c.idiv.new.inner there c.in-IDiv.result c.in-IDiv.left c.in-IDiv.right) c.idiv.ensures)

pub returns-in-IMod : goal.returns-in-IMod
returns-in-IMod c = λ there sized. answers c.args.self.now c.args.instruction.now (loaded.IMod c.in-IMod.result c.in-IMod.left c.in-IMod.right) c.args.inner.now c.imod.new.inner c.imod.result c.answered-in-IMod.result c.in-IMod.is c.answered-in-IMod.ensures (IfOk-weaker c.imod.result _ _ (imod c.args.self.now c.args.inner.now c.imod.new.inner there c.in-IMod.result c.in-IMod.left c.in-IMod.right) c.imod.ensures)

pub returns-in-StrCat : goal.returns-in-StrCat
returns-in-StrCat c = λ there sized. answers c.args.self.now c.args.instruction.now (loaded.StrCat c.in-StrCat.result c.in-StrCat.left c.in-StrCat.right) c.args.inner.now c.strcat.new.inner c.strcat.result c.answered-in-StrCat.result c.in-StrCat.is c.answered-in-StrCat.ensures (IfOk-weaker c.strcat.result _ _ (strcat c.args.self.now c.args.inner.now c.strcat.new.inner there c.in-StrCat.result c.in-StrCat.left c.in-StrCat.right) c.strcat.ensures)

pub returns-in-ArrayLength : goal.returns-in-ArrayLength
returns-in-ArrayLength c = λ there sized. answers c.args.self.now c.args.instruction.now (loaded.ArrayLength c.in-ArrayLength.result c.in-ArrayLength.array) c.args.inner.now c.array_length.new.inner c.array_length.result c.answered-in-ArrayLength.result c.in-ArrayLength.is c.answered-in-ArrayLength.ensures (IfOk-weaker c.array_length.result _ _ (array_length c.args.self.now c.args.inner.now c.array_length.new.inner there c.in-ArrayLength.result c.in-ArrayLength.array) c.array_length.ensures)

pub returns-in-ArrayGetElement : goal.returns-in-ArrayGetElement
returns-in-ArrayGetElement c = λ there sized. answers c.args.self.now c.args.instruction.now (loaded.ArrayGetElement c.in-ArrayGetElement.result c.in-ArrayGetElement.array c.in-ArrayGetElement.index) c.args.inner.now c.get_element.new.inner c.get_element.result c.answered-in-ArrayGetElement.result c.in-ArrayGetElement.is c.answered-in-ArrayGetElement.ensures (IfOk-weaker c.get_element.result _ _ (get_element c.args.self.now c.args.inner.now c.get_element.new.inner there c.in-ArrayGetElement.result c.in-ArrayGetElement.array c.in-ArrayGetElement.index) c.get_element.ensures)

pub returns-in-ArrayFindElement : goal.returns-in-ArrayFindElement
returns-in-ArrayFindElement c = λ there sized. answers c.args.self.now c.args.instruction.now (loaded.ArrayFindElement c.in-ArrayFindElement.array c.in-ArrayFindElement.result c.in-ArrayFindElement.value c.in-ArrayFindElement.start) c.args.inner.now c.find_element.new.inner c.find_element.result c.answered-in-ArrayFindElement.result c.in-ArrayFindElement.is c.answered-in-ArrayFindElement.ensures (IfOk-weaker c.find_element.result _ _ (find_element c.args.self.now c.args.inner.now c.find_element.new.inner there c.in-ArrayFindElement.array c.in-ArrayFindElement.result c.in-ArrayFindElement.value c.in-ArrayFindElement.start) c.find_element.ensures)

pub returns-in-ArrayRFindElement : goal.returns-in-ArrayRFindElement
returns-in-ArrayRFindElement c = λ there sized. answers c.args.self.now c.args.instruction.now (loaded.ArrayRFindElement c.in-ArrayRFindElement.array c.in-ArrayRFindElement.result c.in-ArrayRFindElement.value c.in-ArrayRFindElement.start) c.args.inner.now c.find_element-in-ArrayRFindElement.new.inner c.find_element-in-ArrayRFindElement.result c.answered-in-ArrayRFindElement.result c.in-ArrayRFindElement.is c.answered-in-ArrayRFindElement.ensures (IfOk-weaker c.find_element-in-ArrayRFindElement.result _ _ (find_back c.args.self.now c.args.inner.now c.find_element-in-ArrayRFindElement.new.inner there c.in-ArrayRFindElement.array c.in-ArrayRFindElement.result c.in-ArrayRFindElement.value c.in-ArrayRFindElement.start) c.find_element-in-ArrayRFindElement.ensures)

pub returns-in-ArraySetElement : goal.returns-in-ArraySetElement
returns-in-ArraySetElement c = λ there sized. answers c.args.self.now c.args.instruction.now (loaded.ArraySetElement c.in-ArraySetElement.array c.in-ArraySetElement.index c.in-ArraySetElement.value) c.args.inner.now c.set_element.new.inner c.set_element.result c.answered-in-ArraySetElement.result c.in-ArraySetElement.is c.answered-in-ArraySetElement.ensures (set_element c.args.self.now c.args.inner.now c.set_element.new.inner there c.in-ArraySetElement.array c.in-ArraySetElement.index c.in-ArraySetElement.value c.set_element.result c.set_element.ensures.arrays c.set_element.ensures.fault c.set_element.ensures.instances c.set_element.ensures.slots c.set_element.ensures.loans)

pub returns-in-ArrayCreate : goal.returns-in-ArrayCreate
returns-in-ArrayCreate c = λ there sized. answers c.args.self.now c.args.instruction.now (loaded.ArrayCreate c.in-ArrayCreate.result c.in-ArrayCreate.size) c.args.inner.now c.create_array.new.inner c.create_array.result c.answered-in-ArrayCreate.result c.in-ArrayCreate.is c.answered-in-ArrayCreate.ensures (IfOk-weaker c.create_array.result _ _ (create c.args.self.now c.args.inner.now c.create_array.new.inner there c.in-ArrayCreate.result c.in-ArrayCreate.size) (c.create_array.ensures (subst IsSized c.in-ArrayCreate.is sized)))

pub returns-in-JmpT : goal.returns-in-JmpT
returns-in-JmpT c = λ there sized. subst (λ i. IfOk c.jump_if.result (λ step. Steps c.args.self.now i step c.args.inner.now c.args.inner.now)) (sym c.in-JmpT.is) (IfOk-weaker c.jump_if.result _ _ (jmpt c.args.self.now c.args.inner.now c.in-JmpT.condition c.in-JmpT.offset c.in-JmpT.landing) c.jump_if.ensures)

pub returns-in-JmpF : goal.returns-in-JmpF
returns-in-JmpF c = λ there sized. subst (λ i. IfOk c.jump_if-in-JmpF.result (λ step. Steps c.args.self.now i step c.args.inner.now c.args.inner.now)) (sym c.in-JmpF.is) (IfOk-weaker c.jump_if-in-JmpF.result _ _ (jmpf c.args.self.now c.args.inner.now c.in-JmpF.condition c.in-JmpF.offset c.in-JmpF.landing) c.jump_if-in-JmpF.ensures)
