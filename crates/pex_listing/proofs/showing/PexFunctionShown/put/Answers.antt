use Rattle.std.proofs.Common.{append_assoc, rules}
use Rattle.std.proofs.lemmas.Result.{IfOk-equal}
use Rattle.pex_listing.specs.Spelled.{spelled_in}
use Rattle.pex_listing.proofs.Shown.{function_text}
use Rattle.pex_listing.proofs.showing.PexFunctionShown.put.Goals as goal

pub returns : goal.returns
returns c = rw (function_text (spelled_in c.args.names.now) c.args.self.now) (search (rules, IfOk-equal, append_assoc))
