use Rattle.std.proofs.Common.{rules, ◌∙◌, ap, cond, eqb, ◌%◌}
use Rattle.std.proofs.lemmas.List.{get_or_read}
use Rattle.std.specs.Int.{bit_at}
use Rattle.lock_queue.proofs.ReadyLemmas.{member-set}
use Rattle.lock_queue.proofs.ready.ReadySet.set.Goals as goal

pub returns-clause-members : goal.returns-clause-members
returns-clause-members c = λ k.
    member-set c.args.self.now.words.items c.from-place.result c.args.stack c.with_bit.result k c.args.is_in (search rules) (search rules)
    (λ p h. c.with_bit.ensures p h ∙ ap (λ w. cond (eqb p (c.args.stack % 64)) c.args.is_in (eqb (bit_at w p) 1)) (get_or_read c.args.self.now.words.items c.from-place.result c.index-word.result.now (search rules) c.index-word.ensures 0))
