use Rattle.std.proofs.Common.{length, ap, ◌∙◌}
use Rattle.stack_places.specs.Places.{PlaceTable}
use Rattle.stack_places.proofs.AllDone.{all_by_count}
use Rattle.stack_places.proofs.places.Places.are_all_done.Goals as goal

pub returns : goal.returns
returns c = λ world started.
    let i = c.self.inside in
    let count = c.self.invariant.3 ∙ ap (λ (t : PlaceTable). length t.lists.done) c.self.view_is in
    all_by_count c.args.self.now.lists c.args.started c.requires.once c.requires.none_else i.done_count count world started
