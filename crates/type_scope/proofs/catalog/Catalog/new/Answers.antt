use Rattle.std.proofs.Common.{ℕ, subst, arith}
use Rattle.papy_base.specs.Table.{Notes}
use Rattle.type_scope.proofs.ScopeLemmas.{noted-more}
use Rattle.type_scope.proofs.catalog.Catalog.new.Goals as goal

pub loop-number-preserved : goal.loop-number-preserved
loop-number-preserved c =
    let old = c.loop-number.numbers in
    let new = c.note.new.self in
    let script = c.script.result.now in
    let noted = subst (λ (n : ℕ). Notes old new script.name n) c.from.ensures c.in_ok-note.ensures in
    noted-more c.args.set.now c.loop-number.number script old new (omega arith) c.script.ensures noted c.loop-number.invariant
