use Rattle.std.proofs.Common.{◌≡◌, All, vec_len, arith}
use Rattle.std.proofs.lemmas.Result.{IfOk-weaker}
use Rattle.script_linker.specs.Generated.{AreStandard, IsStandard, standard_scripts}
use Rattle.script_linker.specs.Lookup.{HasSmallScript, StartsWithPrelude}
use Rattle.script_linker.proofs.GeneratedLemmas.{Pairwise-length, StartsWithPrelude-standard, small_standard}
use Rattle.script_linker.proofs.prelude.prelude_files.Goals as goal

pub returns-clause-start : goal.returns-clause-start
returns-clause-start c =
    IfOk-weaker c.declared_files.result (λ files. AreStandard standard_scripts files.items) (λ files. StartsWithPrelude files.items) (λ files are. StartsWithPrelude-standard files.items are) c.declared_files.ensures

pub returns-clause-count : goal.returns-clause-count
returns-clause-count c =
    IfOk-weaker c.declared_files.result (λ files. AreStandard standard_scripts files.items) (λ files. vec_len files ≡ 6) (λ files are. let six = Pairwise-length IsStandard standard_scripts files.items are in omega (arith, six, files.ok.0)) c.declared_files.ensures

pub returns-clause-few : goal.returns-clause-few
returns-clause-few c =
    IfOk-weaker c.declared_files.result (λ files. AreStandard standard_scripts files.items) (λ files. All HasSmallScript files.items) (λ files are. small_standard files.items are) c.declared_files.ensures

pub returns-clause-standard : goal.returns-clause-standard
returns-clause-standard c = c.declared_files.ensures
