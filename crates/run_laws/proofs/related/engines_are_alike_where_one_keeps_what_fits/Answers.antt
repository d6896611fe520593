use Rattle.run_laws.proofs.KeptAlike.{kept_alike}
use Rattle.run_laws.proofs.related.engines_are_alike_where_one_keeps_what_fits.Goals as goal

pub returns : goal.returns
returns g c = λ left right keeps alike. kept_alike g.B.Related.types g.B.Related.related left right keeps alike
