use Rattle.std.proofs.Common.{◌<◌, length, arith}
use Rattle.run_replay.proofs.CountLemmas.{count_of, names_stay, count_grows}
use Rattle.run_replay.proofs.waits.add_to.Goals as goal

pub overflow_add-index_mut : goal.overflow_add-index_mut
overflow_add-index_mut c =
    let inside : c.from-at.result < length c.args.instances.now.items = omega (arith, c.len.ensures, c.if-at-len.true) in
    let count = count_of c.args.instances.now.items c.from-at.result c.index_mut.result.now inside c.index_mut.ensures.value in
    omega (arith, count, c.requires c.from-at.result, c.from.ensures)

pub returns-then-at-len-clause-names : goal.returns-then-at-len-clause-names
returns-then-at-len-clause-names c = names_stay c.args.instances.now.items c.from-at.result c.index_mut.result.now _ c.index_mut.ensures.value

pub returns-then-at-len-clause-counts : goal.returns-then-at-len-clause-counts
returns-then-at-len-clause-counts c =
    let inside : c.from-at.result < length c.args.instances.now.items = omega (arith, c.len.ensures, c.if-at-len.true) in
    count_grows c.args.instances.now.items c.from-at.result c.args.instance c.index_mut.result.now c.from.result c.args.amount inside c.index_mut.ensures.value c.from-at.ensures c.from.ensures
