use Rattle.pex_values.specs.Plain.{plain}
use Rattle.listing_laws.proofs.Unrefused.{gives_back}
use Rattle.listing_laws.proofs.listings_give_their_values.Goals as goal

pub returns : goal.returns
returns c = λ v result shaped fits bytes good same told.
    gives_back v result (λ w other e. c.one_value.ensures v (plain w) shaped other e) (c.listings_break_no_rule.ensures v shaped fits bytes) good same told
