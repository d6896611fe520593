use Rattle.pex_codec.proofs.Pieces.{encoded_fed, encoded_ended}
use Rattle.pex_codec.proofs.laws.encoded_is_decoded.Goals as goal

pub returns : goal.returns
returns c = record { fed = encoded_fed; ended = encoded_ended }
