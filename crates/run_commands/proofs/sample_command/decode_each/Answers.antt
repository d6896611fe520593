use Rattle.std.proofs.Common.{arith, List, sym, subst}
use Rattle.std.specs.List.{All}
use Rattle.std.proofs.lemmas.Grind.{common_steps}
use Rattle.std.proofs.lemmas.List.Elements.{All-push}
use Rattle.pex_values.specs.declared.values.Pex.{Pex}
use Rattle.pex_verify.specs.Files.{IsFile}
use Rattle.run_commands.proofs.SampleParts.{decoded_is_file}
use Rattle.run_commands.proofs.sample_command.decode_each.Goals as goal

pub loop-bytes-preserved : goal.loop-bytes-preserved
loop-bytes-preserved c =
    let file = decoded_is_file _ c.in_ok-value.value c.in_ok-value.ensures in
    let more = All-push IsFile c.loop-bytes.values.items c.in_ok-value.value c.loop-bytes.invariant.valid file in
    record {
      count = grind (arith, common_steps);
      valid = subst (λ (values : List Pex). All IsFile values) (sym c.in_ok-push.ensures.items) more;
    }
