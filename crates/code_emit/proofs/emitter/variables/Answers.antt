use Rattle.std.proofs.Common.{ℕ, ◌+◌, List, [], ◌∷◌, ◌++◌, length, take, sym, subst}
use Rattle.std.specs.List.{AllByRecursion}
use Rattle.core_tree.specs.declared.script.CoreVariable.{CoreVariable}
use Rattle.pex_values.specs.declared.values.PexVariable.{PexVariable}
use Rattle.pex_values.specs.Shape.{IsShapedVariable}
use Rattle.code_emit.specs.Spelled.{Each, SpellsVariable}
use Rattle.code_emit.specs.Strings.{Table}
use Rattle.code_emit.proofs.Goes.{more, goes_further}
use Rattle.code_emit.proofs.Later.{list_grown, variable_later}
use Rattle.code_emit.proofs.Spelling.{each_more, item_taken, variable_on}
use Rattle.code_emit.proofs.emitter.variables.Goals as goal

pub loop-variable-preserved : goal.loop-variable-preserved
loop-variable-preserved c =
    let old : Table = c.loop-variable.strings in
    let new : Table = c.one_variable.new.strings in
    let goes = c.in_ok-one_variable.ensures.goes in
    let found : List PexVariable = c.loop-variable.found.items in
    let one : PexVariable = c.in_ok-one_variable.field-0 in
    let variables : List CoreVariable = c.args.variables.now in
    let at = c.loop-variable.variable-index in
    let P : List PexVariable → Type 0 = λ vs. AllByRecursion (IsShapedVariable (length new.strings)) vs in
    let Q : List PexVariable → Type 0 = λ vs. Each (SpellsVariable new) vs (take (at + 1) variables) in
    let R : List CoreVariable → Type 0 = λ vs. Each (SpellsVariable new) (found ++ one ∷ []) vs in
    record {
      goes = goes_further c.args.strings.now old new c.loop-variable.invariant.goes goes;
      each = subst P (sym c.in_ok-push.ensures.items) (list_grown (IsShapedVariable (length old.strings)) (IsShapedVariable (length new.strings)) (variable_later (length old.strings) (length new.strings) (more goes)) found one c.loop-variable.invariant.each c.in_ok-one_variable.ensures.variable);
      spelled = subst Q (sym c.in_ok-push.ensures.items) (subst R (sym (item_taken variables at c.variable-item.result c.loop-variable-test.true c.variable-item.is)) (each_more (SpellsVariable old) (SpellsVariable new) (variable_on old new goes) found (take at variables) one c.variable-item.result c.loop-variable.invariant.spelled c.in_ok-one_variable.ensures.spelled));
    }
