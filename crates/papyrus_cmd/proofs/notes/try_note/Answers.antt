use Rattle.papyrus_cmd.proofs.NotedLines.{tried_line}
use Rattle.papyrus_cmd.proofs.notes.try_note.Goals as goal

pub returns : goal.returns
returns g c = tried_line c.write.result _ _ _ c.write.ensures.written
