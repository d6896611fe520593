use Rattle.run_replay.proofs.LegalLemmas.{one_break}
use Rattle.run_replay.proofs.journal.one_break.Goals as goal

pub returns : goal.returns
returns c = one_break
