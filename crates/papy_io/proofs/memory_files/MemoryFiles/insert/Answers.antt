use Rattle.std.proofs.Common.{ap, ◌∙◌}
use Rattle.std.specs.FinMap.{insert}
use Rattle.papy_io.specs.MemoryFiles.{files_of}
use Rattle.papy_io.proofs.FileMap.{files_of-insert}
use Rattle.papy_io.proofs.memory_files.MemoryFiles.insert.Goals as goal

pub returns-clause-ok : goal.returns-clause-ok
returns-clause-ok c =
    ap files_of c.in_ok-insert.ensures.entries
    ∙ files_of-insert c.self.inside.tree.entries c.args.name c.args.bytes
    ∙ ap (λ m. insert m c.args.name.items c.args.bytes.items) c.self.view_is
