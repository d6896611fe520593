use Rattle.std.proofs.Common.{List, ℕ, ap, ◌∙◌, arith}
use Rattle.std.specs.Prelude.{slice_index}
use Rattle.run_replay.proofs.WaitedLemmas.{waited_is}
use Rattle.run_replay.proofs.LegalLemmas.{are_legal, is_legal, refused, turns_are, names_are}
use Rattle.run_replay.proofs.DisciplineLemmas.{one_holder, in_order, lets_go}
use Rattle.run_replay.proofs.journal.check_journal.Goals as goal

pub returns-in-Err-clause-refused : goal.returns-in-Err-clause-refused
returns-in-Err-clause-refused c = refused c.args.bytes.now c.in-Err.fault c.in-Err.ensures.read

pub returns-in-Ok : goal.returns-in-Ok
returns-in-Ok c =
    let bytes = c.args.bytes.now in
    let end = c.read_all.new.book in
    record {
      legal = is_legal bytes end (omega arith) c.in-Ok.ensures.read;
      refused = tt;
      broken = tt;
      turns = λ lines are. c.into_waits.ensures.turns ∙ turns_are bytes end lines c.in-Ok.ensures.read are;
      instances = λ lines are. c.into_waits.ensures.instances ∙ names_are bytes end lines c.in-Ok.ensures.read are;
      waited = λ lines are i named. ap (λ (counts : List ℕ). slice_index counts i) c.into_waits.ensures.counts ∙ waited_is bytes end lines c.in-Ok.ensures.read are i named;
      one_holder = λ lines are. one_holder lines (are_legal bytes end lines c.in-Ok.ensures.read are);
      in_order = λ lines are. in_order lines (are_legal bytes end lines c.in-Ok.ensures.read are);
      lets_go = λ lines are. lets_go lines (are_legal bytes end lines c.in-Ok.ensures.read are);
    }
