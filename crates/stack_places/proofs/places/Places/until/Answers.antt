use Rattle.std.proofs.Common.{◌≡◌, ◌+◌, sym, subst, ap, ◌∙◌, arith}
use Rattle.script_meaning.specs.Report.{due_of}
use Rattle.stack_places.specs.Lists.{pairs_from}
use Rattle.stack_places.specs.Places.{PlaceTable}
use Rattle.stack_places.proofs.Numbers.{due_there}
use Rattle.stack_places.proofs.places.Places.until.Goals as goal

pub returns : goal.returns
returns c =
    let i = c.self.inside in
    let here : 0 + c.args.stack ≡ c.args.stack = omega arith in
    subst (λ (t : PlaceTable). c.until.result ≡ due_of c.args.stack t.lists.asleep) c.self.view_is (c.until.ensures ∙ (sym (due_there 0 c.args.stack i.sleepers) ∙ ap (λ n. due_of n (pairs_from 0 i.sleepers)) here))
