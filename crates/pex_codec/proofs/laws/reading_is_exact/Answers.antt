use Rattle.pex_codec.proofs.ExactReading.{got_reading, spells_first}
use Rattle.pex_codec.proofs.laws.reading_is_exact.Goals as goal

pub returns : goal.returns
returns c = record { complete = got_reading; sound = spells_first }
