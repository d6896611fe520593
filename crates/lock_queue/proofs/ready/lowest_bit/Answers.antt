use Rattle.std.proofs.Common.{◌*◌, ◌^◌, ◌%◌, arith}
use Rattle.std.proofs.lemmas.Nat.{and_le_l}
use Rattle.lock_queue.proofs.ReadyLemmas.{no_bit, lowest_is}
use Rattle.lock_queue.proofs.ready.lowest_bit.Goals as goal

pub returns-then-rest-eq0-clause-none : goal.returns-then-rest-eq0-clause-none
returns-then-rest-eq0-clause-none c = no_bit c.args.word c.args.from c.requires c.if-rest-eq0.true

pub returns-else-rest-eq0-clause-found : goal.returns-else-rest-eq0-clause-found
returns-else-rest-eq0-clause-found c =
    (lowest_is c.args.word c.args.from c.requires (omega (arith, and_le_l c.args.word (18446744073709551615 * 2 ^ c.args.from % 18446744073709551616))) c.if-rest-eq0.false).0

pub returns-else-rest-eq0-clause-least : goal.returns-else-rest-eq0-clause-least
returns-else-rest-eq0-clause-least c =
    (lowest_is c.args.word c.args.from c.requires (omega (arith, and_le_l c.args.word (18446744073709551615 * 2 ^ c.args.from % 18446744073709551616))) c.if-rest-eq0.false).1
