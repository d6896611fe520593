use Rattle.std.proofs.lemmas.List.Elements.{All-nil}
use Rattle.core_tree.proofs.StatementViews.{statement_views}
use Rattle.core_tree.proofs.Views.{expression_views}
use Rattle.core_tree.specs.InRange.{TypeInRange}
use Rattle.type_rules.proofs.Trees.{block_of-push}
use Rattle.type_rules.proofs.Types.{known-in_range}
use Rattle.type_rules.specs.Ranges.{functions_of}
use Rattle.type_rules.proofs.members.constant_get.Goals as goal

pub returns-clause-in_range : goal.returns-clause-in_range
returns-clause-in_range c = λ k.
    let functions = functions_of c.args.work.now in
    record {
      parameters = rw c.new.ensures.items (All-nil (TypeInRange functions));
      locals = rw c.new-2.ensures.items (All-nil (TypeInRange functions));
      result = rw c.known.ensures (known-in_range functions c.args.kind k);
      body = rw c.in_ok-push.ensures.items (block_of-push _ c.in_ok-body.body.items _ (rw c.in_ok-body.ensures.items tt) (simp (statement_views, expression_views) (tt, (c.in_ok-value.ensures.in_range, tt))));
    }
