use Rattle.std.proofs.Common.{◌≡◌, vec_len}
use Rattle.std.specs.List.{All}
use Rattle.pex_verify.specs.Files.{IsFile}
use Rattle.run_commands.proofs.sample_command.decode_each.Given as goal

abbrev pub invariant-loop-bytes : goal.invariant-loop-bytes
invariant-loop-bytes l = record {
  count : vec_len l.values ≡ l.bytes-index;
  valid : All IsFile l.values.items;
}
