use Rattle.std.proofs.Common.{◌≡◌, sym, subst, arith}
use Rattle.std.proofs.lemmas.Grind.{common_steps}
use Rattle.papy_base.specs.Lineage.{AreAmong}
use Rattle.script_linker.specs.Lookup.{parents_of}
use Rattle.script_linker.proofs.LookupLemmas.{AreAmong-parents_of}
use Rattle.script_linker.proofs.parents.parent_numbers.Goals as goal

pub returns-clause-among : goal.returns-clause-among
returns-clause-among c =
    let same : c.loop-file.parents.items ≡ parents_of c.args.files.now = grind (arith, common_steps) in
    subst AreAmong (sym same) (AreAmong-parents_of c.args.files.now)
