use Rattle.std.proofs.Common.{◌<◌, length, arith, rules}
use Rattle.script_linker.proofs.LinkLemmas.{AreCompleted-set}
use Rattle.script_linker.proofs.GeneratedLemmas.{HaveGivenBelow-more, HaveGivenBelow-none, HaveGiven-all}
use Rattle.script_linker.proofs.prelude.add_generated.Goals as goal

pub loop-number-init : goal.loop-number-init
loop-number-init c = record {
  completed = search rules;
  given = HaveGivenBelow-none c.args.files.now.items;
}

pub loop-number-preserved : goal.loop-number-preserved
loop-number-preserved c =
    let old = c.args.files.now.items in
    let new = c.loop-number.files.items in
    let i = c.loop-number.number in
    let before = c.index_mut-file.result.now in
    let after = c.complete.new.file in
    let inside : i < length new = omega arith in
    record {
      completed = AreCompleted-set old new i before after c.loop-number.invariant.completed inside c.index_mut-file.ensures.value c.in_ok-complete.ensures.completed;
      given = HaveGivenBelow-more old new i before after c.loop-number.invariant.given inside c.index_mut-file.ensures.value c.in_ok-complete.ensures.given;
    }

pub returns-clause-given : goal.returns-clause-given
returns-clause-given c =
    HaveGiven-all c.loop-number.number c.args.files.now.items c.loop-number.files.items (omega (arith, c.args.files.now.ok.0)) c.loop-number.invariant.given
