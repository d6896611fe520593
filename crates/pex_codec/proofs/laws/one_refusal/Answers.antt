use Rattle.pex_codec.proofs.OneRefusal.{one_refusal, spelling_breaks_none}
use Rattle.pex_codec.proofs.laws.one_refusal.Goals as goal

pub returns : goal.returns
returns c = record { one = one_refusal; none = spelling_breaks_none }
