use Rattle.std.proofs.Common.{ap, ◌∙◌}
use Rattle.pex_set.specs.Names.{number_in}
use Rattle.pex_set.proofs.NameLemmas.{found_name}
use Rattle.pex_set.proofs.names.NameNumbers.find.Goals as goal

pub returns : goal.returns
returns c =
    c.get_index_of.ensures.index
    ∙ found_name c.self.inside.names.keys c.as_slice.result.now c.args.name.now (c.as_slice.ensures.value ∙ c.in_ok-folded.ensures)
    ∙ ap (λ table. number_in table c.args.name.now) c.self.view_is
