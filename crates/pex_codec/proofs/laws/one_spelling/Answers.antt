use Rattle.std.proofs.Common.{◌∙◌, sym}
use Rattle.pex_codec.proofs.ExactReading.{first_part}
use Rattle.pex_codec.proofs.laws.one_spelling.Goals as goal

pub returns : goal.returns
returns c = record {
  one = λ v x y p q. p.spelled ∙ sym q.spelled;
  same = λ v w x rest p q. (first_part v w x rest p q).value;
  whole = λ v w x rest p q. (first_part v w x rest p q).none;
}
