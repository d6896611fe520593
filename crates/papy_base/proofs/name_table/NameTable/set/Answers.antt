use Rattle.std.proofs.Common.{Some}
use Rattle.papy_base.proofs.TableLemmas.{get_by-updates}
use Rattle.papy_base.proofs.name_table.NameTable.set.Goals as goal

pub returns : goal.returns
returns c = λ bytes.
    get_by-updates (λ k. k.items) c.args.folded.items c.args.self.now.numbers c.insert.new.self (Some c.args.number) c.in_ok-insert.ensures.updates bytes
