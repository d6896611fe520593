use Rattle.std.proofs.Common.{◌≡◌, map}
use Rattle.command_files.specs.SourceTexts.{text_of}
use Rattle.run_commands.specs.Sample.{sample_texts}
use Rattle.run_commands.proofs.sample_scripts.sample_scripts.Given as goal

abbrev pub invariant-loop-number : goal.invariant-loop-number
invariant-loop-number l = map text_of l.scripts.items ≡ sample_texts l.number
