use Rattle.std.proofs.Common.{ℕ, drop, ap, ◌∙◌}
use Rattle.std.specs.Prelude.{◌++◌, ◌∷◌, []}
use Rattle.script_lexer.proofs.TextLemmas.{reads_more}
use Rattle.script_lexer.proofs.quoted.read_items.Goals.{then-good, else-good}
use Rattle.script_lexer.proofs.quoted.read_items.Goals as goal

pub loop-item-preserved : goal.loop-item-preserved
loop-item-preserved c =
    reads_more c.args.bytes.now c.loop-item.meant.items c.loop-item.good c.loop-item.rest.now c.in-Some.item c.push.new.self.items c.if-good.good c.split_at.result.1.now c.loop-item.invariant c.in-Some.ensures
    (c.in_ok-push.ensures.items ∙ ap (λ (n : ℕ). c.loop-item.meant.items ++ n ∷ []) c.value.ensures)
    (elim c.if-good.branch [
      | then-good w ↦ rw w.if-good.true (w.good-is ∙ w.is_good-good.ensures)
      | else-good w ↦ rw w.if-good.false (w.good-is ∙ w.if-good.false)
    ]) (c.split_at.ensures.back ∙ ap (λ (n : ℕ). drop n c.loop-item.rest.now) c.len.ensures)
