use Rattle.std.proofs.Common.{◌≡◌, ℕ, List, Option, IfOk, subst}
use Rattle.pex_set.specs.Names.{number_in}
use Rattle.pex_verify.specs.NameTables.{names_in}
use Rattle.pex_verify.specs.Sets.{LoadedSet}
use Rattle.pex_verify.proofs.loaded.Loaded.name_number.Goals as goal

pub returns : goal.returns
returns c =
    subst (λ (v : LoadedSet). IfOk c.find.result (λ (number : Option ℕ). number ≡ number_in (names_in v.files) c.args.name.now)) c.self.view_is
    (subst (λ (names : List (List ℕ)). IfOk c.find.result (λ (number : Option ℕ). number ≡ number_in names c.args.name.now)) c.self.invariant.by_files c.find.ensures)
