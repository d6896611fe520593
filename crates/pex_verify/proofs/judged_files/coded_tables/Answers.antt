use Rattle.std.proofs.Common.{◌∙◌, map, sym}
use Rattle.core_tree.specs.Outlines.{script_shape}
use Rattle.pex_verify.specs.Coding.{CodesScript}
use Rattle.pex_verify.proofs.Coding.{zip_count}
use Rattle.pex_verify.proofs.judged_files.coded_tables.Goals as goal

pub returns-clause-count : goal.returns-clause-count
returns-clause-count c =
    c.in_ok-scripts.scripts.ok.0
    ∙ sym (zip_count (CodesScript (map script_shape c.as_slice.result.now)) c.args.tables.parts.scripts.items c.in_ok-scripts.scripts.items c.in_ok-scripts.ensures)
    ∙ sym c.args.tables.parts.scripts.ok.0
