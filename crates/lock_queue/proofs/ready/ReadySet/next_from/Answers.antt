use Rattle.lock_queue.proofs.ReadyLemmas.{next_found, next_wrapped}
use Rattle.lock_queue.specs.Ready.{is_member}
use Rattle.lock_queue.proofs.ready.ReadySet.next_from.Goals as goal

pub returns-in-Some : goal.returns-in-Some
returns-in-Some c = λ bound within past.
    next_found (is_member c.args.self.now.words.items) c.args.start bound c.in-Some.stack within past c.in-Some.ensures.found.0 c.in-Some.ensures.found.1 c.in-Some.ensures.least

pub returns-in-None : goal.returns-in-None
returns-in-None c = λ bound within past.
    next_wrapped (is_member c.args.self.now.words.items) c.args.start bound _ c.in-None.ensures.none c.first_from-in-None.ensures.found c.first_from-in-None.ensures.least c.first_from-in-None.ensures.none
