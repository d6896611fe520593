use Rattle.std.proofs.Common.{sym, ap}
use Rattle.std.specs.Prelude.{option_map}
use Rattle.pex_listing.specs.Left.{view}
use Rattle.pex_listing.proofs.Leaving.{nothing_awaited, text_ended, text_goes_on}
use Rattle.pex_listing.proofs.listing.Listing.end.Goals as goal

pub returns-in-Some-clause-left : goal.returns-in-Some-clause-left
returns-in-Some-clause-left c = λ strings good. nothing_awaited strings (view c.args.self.now) c.in-Some.field-0.now (ap (option_map (λ word. word.now)) c.in-Some.is)

pub returns-in-None-clause-left : goal.returns-in-None-clause-left
returns-in-None-clause-left c = λ strings good. (text_ended strings (view c.args.self.now) (ap (option_map (λ word. word.now)) c.in-None.is) (sym c.if-is_empty.ensures), good)

pub returns-in-None-2-clause-left : goal.returns-in-None-2-clause-left
returns-in-None-2-clause-left c = λ strings good. text_goes_on strings (view c.args.self.now) (ap (option_map (λ word. word.now)) c.in-None.is) (sym c.if-is_empty.ensures)
