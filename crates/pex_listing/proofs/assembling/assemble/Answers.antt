use Rattle.std.proofs.Common.{ℕ, [], sym, ◌∙◌, subst}
use Rattle.pex_listing.specs.Breaks.{all_parts, list_break}
use Rattle.pex_listing.specs.Left.{Refuses, lines_left, view}
use Rattle.pex_listing.proofs.Leaving.{refuses_from}
use Rattle.pex_listing.proofs.assembling.assemble.Goals as goal

pub returns-in-Ok-clause-first_break : goal.returns-in-Ok-clause-first_break
returns-in-Ok-clause-first_break c = sym c.new-listing.ensures.left.1 ∙ (c.in-Ok.ensures.left c.new-listing.ensures.left.0).0

pub returns-in-Err-clause-first_break : goal.returns-in-Err-clause-first_break
returns-in-Err-clause-first_break c =
    let n = c.number.result in
    c.at_line.ensures (list_break c.args.bytes.now)
    (refuses_from (sym c.new-listing.ensures.left.1) n c.in-Err.fault (subst (λ (k : ℕ). Refuses (lines_left [] all_parts (view c.new-listing.result)) k c.in-Err.fault) (sym c.number.ensures) (c.in-Err.ensures.left c.new-listing.ensures.left.0)))
