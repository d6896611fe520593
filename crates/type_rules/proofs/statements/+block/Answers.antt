use Rattle.std.proofs.Common.{refl, ◌∙◌}
use Rattle.core_tree.proofs.StatementViews.{statement_views}
use Rattle.core_tree.specs.Tree.{block_of, branches_of, expression_of}
use Rattle.expression_rules.specs.Scopes.{scope_bounds}
use Rattle.type_rules.proofs.Scopes.{at_line, from_line, grown-block, grown-branches, grown-expression, grown-promise, grows-further, keeps-grows, keeps-in_range, kept-expression, kept-promise}
use Rattle.type_rules.proofs.Trees.{block_of-push, branches_of-push}
use Rattle.type_rules.proofs.statements.+block.Goals as goal

pub branches-loop-line-preserved : goal.branches-loop-line-preserved
branches-loop-line-preserved t c =
    let entry = c.args.scope.now in
    let s = c.loop-line.scope in
    let lined = record s { line = c.loop-line-item.result.0 } in
    let tested = c.truth.new.self in
    let after = c.core_block.new.scope in
    let so_far = c.loop-line.invariant in
    let kept = c.in_ok-test.ensures.kept in
    let inner = c.in_ok-body.ensures.grows in
    let grows = grows-further s tested after (from_line s c.loop-line-item.result.0 tested (keeps-grows lined tested kept)) inner in
    record {
      grows = grows-further entry s after so_far.grows grows;
      tests = λ r p.
          let here = at_line s c.loop-line-item.result.0 (so_far.grows.in_range r) in
          let promise = grown-promise entry s so_far.grows c.args.promise p in
          let tests = grown-branches s after grows (branches_of c.loop-line.found.items) (so_far.tests r p) in
          let test = grown-expression tested after inner (expression_of c.in_ok-test.test) (kept-expression lined tested kept (expression_of c.in_ok-test.test) (c.in_ok-test.ensures.in_range here)) in
          let body = c.in_ok-body.ensures.in_range (keeps-in_range lined tested kept here) (kept-promise lined tested kept c.args.promise promise) in
          rw c.push_reserved.ensures.items (branches_of-push (scope_bounds after) c.loop-line.found.items _ tests test body);
      count = rw (c.push_reserved.ensures.len, so_far.count) refl;
      room = c.push_reserved.ensures.capacity ∙ so_far.room;
    }

pub core_block-loop-statement-preserved : goal.core_block-loop-statement-preserved
core_block-loop-statement-preserved t c =
    let entry = c.args.scope.now in
    let s = c.loop-statement.scope in
    let after = c.core_statement.new.scope in
    let so_far = c.loop-statement.invariant in
    let grows = from_line s c.statement-item.result.line after c.in_ok-core_statement.ensures.grows in
    record {
      grows = grows-further entry s after so_far.grows grows;
      lines = λ r p.
          let lines = grown-block s after grows (block_of c.loop-statement.found.items) (so_far.lines r p) in
          let form = c.in_ok-core_statement.ensures.in_range (at_line s c.statement-item.result.line (so_far.grows.in_range r)) (grown-promise entry s so_far.grows c.args.promise p) in
          rw c.push_reserved.ensures.items (block_of-push (scope_bounds after) c.loop-statement.found.items _ lines (simp statement_views form));
      count = rw (c.push_reserved.ensures.len, so_far.count) refl;
      room = c.push_reserved.ensures.capacity ∙ so_far.room;
    }

pub core_statement-returns-in_ok-any-in-Plain-clause-in_range : goal.core_statement-returns-in_ok-any-in-Plain-clause-in_range
core_statement-returns-in_ok-any-in-Plain-clause-in_range t c = λ r p.
    let core = c.in_ok-any-in-Plain.ensures.in_range r in
    let tree = kept-expression c.args.scope.now c.any.new.self c.in_ok-any-in-Plain.ensures.kept (expression_of c.in_ok-any-in-Plain.field-0) core in
    simp statement_views (tt, (tree, tt))

pub core_statement-returns-in_ok-body-in-While-clause-in_range : goal.core_statement-returns-in_ok-body-in-While-clause-in_range
core_statement-returns-in_ok-body-in-While-clause-in_range t c = λ r p.
    let before = c.args.scope.now in
    let tested = c.truth.new.self in
    let after = c.core_block-in-While.new.scope in
    let kept = c.in_ok-test-in-While.ensures.kept in
    let grows = grows-further before tested after (keeps-grows before tested kept) c.in_ok-body-in-While.ensures.grows in
    let test = grown-expression before after grows (expression_of c.in_ok-test-in-While.test) (c.in_ok-test-in-While.ensures.in_range r) in
    let body = c.in_ok-body-in-While.ensures.in_range (keeps-in_range before tested kept r) (kept-promise before tested kept c.args.promise p) in
    simp statement_views (test, body)

pub core_statement-returns-in_ok-otherwise-in-If-clause-in_range : goal.core_statement-returns-in_ok-otherwise-in-If-clause-in_range
core_statement-returns-in_ok-otherwise-in-If-clause-in_range t c = λ r p.
    let before = c.args.scope.now in
    let tested = c.branches.new.scope in
    let after = c.core_block.new.scope in
    let first = c.in_ok-tests-in-If.ensures.grows in
    let tests = grown-branches tested after c.in_ok-otherwise-in-If.ensures.grows (branches_of c.in_ok-tests-in-If.tests.items) (c.in_ok-tests-in-If.ensures.in_range r p) in
    let otherwise = c.in_ok-otherwise-in-If.ensures.in_range (first.in_range r) (grown-promise before tested first c.args.promise p) in
    simp statement_views (tests, otherwise)
