use Rattle.std.proofs.Common.{◌≡◌, ◌+◌, ℕ, length, ap, ◌∙◌, arith, subst, vec_len}
use Rattle.std.specs.List.{All}
use Rattle.std.proofs.lemmas.List.{length-map}
use Rattle.std.proofs.lemmas.List.Elements.{All-drop, All-same}
use Rattle.core_tree.proofs.Ranges.{with_locals}
use Rattle.core_tree.specs.InRange.{BlockInRange, ResultInRange}
use Rattle.core_tree.specs.Tree.{block_of}
use Rattle.expression_rules.specs.Scopes.{scope_bounds}
use Rattle.type_rules.proofs.Types.{promised-in_range, types-in_range}
use Rattle.type_rules.specs.Ranges.{known}
use Rattle.type_rules.proofs.functions.assemble.Goals as goal

pub returns-clause-in_range : goal.returns-clause-in_range
returns-clause-in_range c = λ r few first p block.
    let bounds = scope_bounds c.args.scope.now in
    let split = c.split_at.ensures in
    let back = c.split_at.result.1.now in
    let parameters = c.args.parameters.items in
    let locals = c.in_ok-known_types.field-0.items in
    let all : All (ResultInRange bounds.functions) c.as_slice-kinds.result.now = rw c.as_slice-kinds.ensures.value r.locals in
    let others = All-same (ResultInRange bounds.functions) back _ split.back (All-drop (ResultInRange bounds.functions) _ c.as_slice-kinds.result.now all) in
    let other_count : length locals ≡ length back = ap length c.in_ok-known_types.ensures ∙ length-map back known in
    let count : vec_len c.args.scope.now.locals.kinds ≡ length parameters + length locals = omega (arith, few, other_count, split.front_len, split.back_len, c.as_slice-kinds.ensures.len, c.args.parameters.ok.0) in
    record {
      parameters = first;
      locals = types-in_range bounds.functions back locals c.in_ok-known_types.ensures others;
      result = rw c.result_of.ensures (promised-in_range bounds.functions c.args.promise p);
      body = subst (λ (n : ℕ). BlockInRange (with_locals bounds n) (block_of c.args.body.items)) count block;
    }
