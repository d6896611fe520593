use Rattle.std.proofs.Common.{ℕ, List, subst, sym}
use Rattle.core_tree.specs.InRange.{NameTakes, PlaceTakes}
use Rattle.core_tree.proofs.Views.{expression_views}
use Rattle.expression_rules.proofs.CallLemmas.{operands-passed}
use Rattle.expression_rules.specs.Ranges.{CallFormInRange}
use Rattle.expression_rules.proofs.scope.Context.call_tree.Goals as goal

pub returns-in-Method : goal.returns-in-Method
returns-in-Method c = λ b count call found known.
    let here = subst (CallFormInRange b count) c.in-Method.is call in
    let named = subst (λ (name : List ℕ). NameTakes b.functions name count) (sym c.in_ok-try_clone-in-Method.ensures) here.1 in
    let p = operands-passed b count (NameTakes b.functions c.in_ok-try_clone-in-Method.field-0) c.args.found c.args.result_type named found known in
    simp expression_views (p.0, (here.0, p.1))

pub returns-in-Parent : goal.returns-in-Parent
returns-in-Parent c = λ b count call found known.
    let here = subst (CallFormInRange b count) c.in-Parent.is call in
    let named = subst (λ (name : List ℕ). NameTakes b.functions name count) (sym c.in_ok-try_clone-in-Parent.ensures) here in
    simp expression_views (operands-passed b count (NameTakes b.functions c.in_ok-try_clone-in-Parent.field-0) c.args.found c.args.result_type named found known)

pub returns-in-Global : goal.returns-in-Global
returns-in-Global c = λ b count call found known.
    let here = subst (CallFormInRange b count) c.in-Global.is call in
    simp expression_views (operands-passed b count (PlaceTakes b.functions c.in-Global.at) c.args.found c.args.result_type here found known)

pub returns : goal.returns
returns c = λ b count call found known.
    let here = subst (CallFormInRange b count) c.in-Native.is call in
    simp expression_views (operands-passed b count (PlaceTakes b.functions c.in-Native.at) c.args.found c.args.result_type here found known)
