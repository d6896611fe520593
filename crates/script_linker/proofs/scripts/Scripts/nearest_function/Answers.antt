use Rattle.std.proofs.Common.{◌≡◌, ◌∙◌, ap, get_or, length, sym, subst}
use Rattle.papy_base.specs.Case.{folded}
use Rattle.script_linker.specs.Lookup.{own_function}
use Rattle.papy_base.specs.Table.{number_in}
use Rattle.script_linker.proofs.LookupLemmas.{Nearest-function, own_function-read}
use Rattle.script_linker.proofs.scripts.Scripts.nearest_function.Goals as goal

pub nearest-requires : goal.nearest-requires
nearest-requires c =
    let now = c.args.self.now in
    let name = c.args.name.now in
    let count : length c.as_slice.result.now ≡ length now = ap length c.as_slice.ensures.value ∙ c.self.invariant.function_count ∙ ap length c.self.view_is in
    (c.requires, (count, λ n table lt. subst (λ ts. number_in (get_or ts n table) (folded name) ≡ own_function now name n) (sym c.as_slice.ensures.value) (own_function-read c.self.invariant c.self.view_is name n table lt)))

pub returns-clause-within : goal.returns-clause-within
returns-clause-within c = Nearest-function c.args.self.now c.args.name.now c.nearest.result c.nearest.ensures
