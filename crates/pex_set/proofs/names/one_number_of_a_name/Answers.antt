use Rattle.pex_set.proofs.NameLemmas.{alike-number, empty_number, position-grown, IsGrown-with_name}
use Rattle.std.specs.Str.{bytes_eq, str_to_ascii_lowercase}
use Rattle.pex_set.proofs.names.one_number_of_a_name.Goals as goal

pub returns-clause-alike : goal.returns-clause-alike
returns-clause-alike c = alike-number

pub returns-clause-stays : goal.returns-clause-stays
returns-clause-stays c =
    λ table more name number e. position-grown (bytes_eq (str_to_ascii_lowercase name)) table more number e

pub returns-clause-grows : goal.returns-clause-grows
returns-clause-grows c = IsGrown-with_name

pub returns-clause-empty : goal.returns-clause-empty
returns-clause-empty c = empty_number
