use Rattle.std.proofs.Common.{◌≡◌, ℕ, sym, ap, ◌∙◌, subst, Some}
use Rattle.std.specs.Prelude.{option_map}
use Rattle.papy_base.specs.declared.faults.Fault.{Fault}
use Rattle.pex_listing.specs.Assembled.{told_line}
use Rattle.pex_listing.specs.Breaks.{Break}
use Rattle.pex_listing.specs.Left.{Refuses}
use Rattle.pex_listing.specs.declared.faults.ListingRule.{ListingRule}
use Rattle.pex_listing.proofs.faults.at_line.Goals as goal

abbrev told : Break → Break
told first = option_map {U = ℕ × ListingRule} (λ b. (told_line b.0, b.1)) first

abbrev at : ListingRule → ℕ → Break
at rule n = Some (n, rule)

told_at : (first : Break) (line n : ℕ) (rule : ListingRule) → first ≡ at rule line → n ≡ told_line line → told first ≡ at rule n
told_at first line n rule is same = ap told is ∙ ap (at rule) (sym same)

pub returns-in-Broken : goal.returns-in-Broken
returns-in-Broken c = λ first refused. told_at first c.args.line c.told_line.result c.in-Broken.rule (subst (λ (f : Fault ListingRule). Refuses first c.args.line f) c.in-Broken.is refused) c.told_line.ensures

pub returns-in-OutOfMemory : goal.returns-in-OutOfMemory
returns-in-OutOfMemory c = λ first refused. tt
