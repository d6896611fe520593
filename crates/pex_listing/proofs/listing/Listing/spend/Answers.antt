use Rattle.std.proofs.Common.{sym, ap, ◌∙◌, arith}
use Rattle.pex_listing.specs.Left.{line_left, view}
use Rattle.pex_listing.proofs.Leaving.{spend_fits, spend_over}
use Rattle.pex_listing.proofs.listing.Listing.spend.Goals as goal

pub returns-then-bytes-left-clause-pays : goal.returns-then-bytes-left-clause-pays
returns-then-bytes-left-clause-pays c = record {
  left = λ strings awaited form. spend_over strings awaited c.args.bytes form (view c.args.self.now) (omega arith) ∙ ap (line_left strings awaited form) (sym c.note.ensures.noted);
}

pub returns-clause-pays : goal.returns-clause-pays
returns-clause-pays c = record { left = λ strings awaited form. spend_fits strings awaited c.args.bytes form (view c.args.self.now) (omega arith) }
