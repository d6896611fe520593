-- What `--help` and `--version` write.
use Rattle.std.specs.Prelude.{ℕ, List}
use Rattle.papyrus_cmd.specs.declared.help.TheConstants.{HELP, VERSION}

unfoldable pub help_text : List ℕ
help_text = HELP.now

unfoldable pub version_text : List ℕ
version_text = VERSION.now
