use Rattle.std.proofs.Common.{◌<◌, length, arith}
use Rattle.std.proofs.lemmas.Grind.{common_steps}
use Rattle.pex_verify.proofs.TypeNames.{meanings_more}
use Rattle.pex_verify.proofs.value_type.meanings_of_names.Goals as goal

pub loop-number-preserved : goal.loop-number-preserved
loop-number-preserved c = record {
  among = let before = c.loop-number.invariant.among in grind (arith, common_steps);
  count = grind (arith, common_steps);
  meant =
      let within : c.loop-number.number < length c.args.table.now = omega arith in
      meanings_more c.args.table.now c.args.objects.now c.loop-number.number c.loop-number.meanings.items c.push.new.self.items c.in_ok-meaning_of.field-0 c.in_ok-push.ensures.items c.loop-number.invariant.count c.loop-number.invariant.meant
      (λ scripts are. c.in_ok-meaning_of.ensures.meant scripts are (c.count.ensures.numbers.each c.loop-number.number within));
}
