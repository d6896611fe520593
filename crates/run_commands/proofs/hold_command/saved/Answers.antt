use Rattle.std.proofs.Common.{arith, refl}
use Rattle.run_commands.proofs.hold_command.saved.Goals as goal

pub save-requires-clause-files : goal.save-requires-clause-files
save-requires-clause-files c = omega (arith, c.requires.few_files)

pub save-requires-clause-each_file : goal.save-requires-clause-each_file
save-requires-clause-each_file c = c.requires.small

pub returns-in-Err-TooLarge : goal.returns-in-Err-TooLarge
returns-in-Err-TooLarge c = let large = rw c.in-Err-TooLarge.field-0-is at c.in-Err-TooLarge.ensures in (record { word_is = refl; place_is = refl; rule_is = refl }, large)
