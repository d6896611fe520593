use Rattle.std.proofs.Common.{sym, ap, ◌∙◌, cond, eqb}
use Rattle.std.specs.Int.{bit_at}
use Rattle.lock_queue.proofs.ReadyLemmas.{bit_put, bit_taken}
use Rattle.lock_queue.proofs.ready.with_bit.Goals as goal

pub returns-then-is_set : goal.returns-then-is_set
returns-then-is_set c = λ k h. bit_put c.args.word c.args.place k c.requires ∙ ap (λ b. cond (eqb k c.args.place) b (eqb (bit_at c.args.word k) 1)) (sym c.if-is_set.true)

pub returns-else-is_set : goal.returns-else-is_set
returns-else-is_set c = λ k h. bit_taken c.args.word c.args.place k c.requires h ∙ ap (λ b. cond (eqb k c.args.place) b (eqb (bit_at c.args.word k) 1)) (sym c.if-is_set.false)
