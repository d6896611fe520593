use Rattle.std.proofs.Common.{rules}
use Rattle.pex_listing.proofs.Shown.{name_at, no_name}
use Rattle.pex_listing.proofs.showing.opcode_name.Goals as goal

pub returns-then-opcode-gt-LAST : goal.returns-then-opcode-gt-LAST
returns-then-opcode-gt-LAST c = no_name c.args.opcode c.if-opcode-gt-LAST.true

pub returns : goal.returns
returns c = let most = c.if-opcode-gt-LAST.false in search (name_at, rules)
