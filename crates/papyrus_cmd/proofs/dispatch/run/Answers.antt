use Rattle.std.proofs.Common.{sym, ◌∙◌, ap, map}
use Rattle.std.specs.Prelude.{Some}
use Rattle.std.specs.String.{string_bytes}
use Rattle.papyrus_cmd.specs.declared.command.Command.TheVariants.{Files, Play}
use Rattle.papyrus_cmd.proofs.OutputsOf.{command_outputs}
use Rattle.papyrus_cmd.proofs.Words.{files_missed, files_suit, play_misses, play_runs, play_suits}
use Rattle.papyrus_cmd.proofs.dispatch.run.Goals as goal

pub use_files-requires-clause-suits : goal.use_files-requires-clause-suits
use_files-requires-clause-suits g c =
    let is = sym c.in-Some-Files.ensures ∙ ap Some c.in-Some-Files.field-0-is in files_suit c.args.words.now c.in-Some-Files.command is

pub play-requires-clause-suits : goal.play-requires-clause-suits
play-requires-clause-suits g c =
    let is = sym c.in-Some-Play.ensures ∙ ap Some c.in-Some-Play.field-0-is in play_suits c.args.words.now c.in-Some-Play.command is

pub returns-in-Some-Files-clause-missed : goal.returns-in-Some-Files-clause-missed
returns-in-Some-Files-clause-missed g c =
    let is = sym c.in-Some-Files.ensures ∙ ap Some c.in-Some-Files.field-0-is in
    files_missed c.args.words.now c.in-Some-Files.command c.use_files.result _ is c.use_files.ensures.missed

pub returns-in-Some-Files-clause-output : goal.returns-in-Some-Files-clause-output
returns-in-Some-Files-clause-output g c =
    let is = sym c.in-Some-Files.ensures ∙ ap Some c.in-Some-Files.field-0-is in
    command_outputs (Files c.in-Some-Files.command) c.args.words.now (g.D.Desk.holds c.args.desk.now) c.use_files.result _ _ is c.use_files.ensures.output

pub returns-in-Some-Play-clause-missed : goal.returns-in-Some-Play-clause-missed
returns-in-Some-Play-clause-missed g c =
    let is = sym c.in-Some-Play.ensures ∙ ap Some c.in-Some-Play.field-0-is in
    play_misses c.args.words.now c.in-Some-Play.command c.play.result _ is c.play.ensures.missed

pub returns-in-Some-Play-clause-output : goal.returns-in-Some-Play-clause-output
returns-in-Some-Play-clause-output g c =
    let is = sym c.in-Some-Play.ensures ∙ ap Some c.in-Some-Play.field-0-is in
    command_outputs (Play c.in-Some-Play.command) c.args.words.now (g.D.Desk.holds c.args.desk.now) c.play.result _ _ is c.play.ensures.output

pub returns-in-Some-Play-clause-untouched : goal.returns-in-Some-Play-clause-untouched
returns-in-Some-Play-clause-untouched g c = λ none.
    let is = sym c.in-Some-Play.ensures ∙ ap Some c.in-Some-Play.field-0-is in
    absurd (play_runs (map string_bytes c.args.words.now) c.in-Some-Play.command is none)
