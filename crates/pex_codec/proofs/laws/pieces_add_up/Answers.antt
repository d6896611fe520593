use Rattle.pex_codec.proofs.Pieces as pieces
use Rattle.pex_codec.proofs.laws.pieces_add_up.Goals as goal

pub returns : goal.returns
returns c = record { goes_on = pieces.goes_on; stays_done = pieces.stays_done; stays_refused = pieces.stays_refused; one_answer = pieces.one_answer }
