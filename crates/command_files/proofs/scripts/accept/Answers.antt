use Rattle.std.proofs.Common.{◌≡◌, arith, length, map}
use Rattle.std.proofs.lemmas.List.{length-map}
use Rattle.std.specs.String.{string_bytes}
use Rattle.command_files.proofs.SourceSets.{set_ends}
use Rattle.command_files.proofs.scripts.accept.Goals as goal

pub returns-in-Err-clause-ends : goal.returns-in-Err-clause-ends
returns-in-Err-clause-ends g c =
    let files = c.in_ok-files.files in
    let names = map string_bytes c.args.scripts.now in
    let same : length files.items ≡ length names = omega (arith, c.in_ok-files.ensures.each, files.ok.0, length-map c.args.scripts.now string_bytes) in
    set_ends (g.D.Desk.holds c.args.desk.now) names files.items c.in-Err.ending same c.in_ok-files.ensures.ends c.in_ok-files.ensures.read c.in-Err.ensures.ends
