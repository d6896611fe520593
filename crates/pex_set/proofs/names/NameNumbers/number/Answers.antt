use Rattle.std.proofs.Common.{sym, ap, subst, ◌∙◌}
use Rattle.pex_set.specs.Names.{number_in, with_name, IsNumbered}
use Rattle.pex_set.proofs.NameLemmas.{shown, inserted_name, inserted_number, IsNumbered-with_name}
use Rattle.pex_set.proofs.names.NameNumbers.number.Goals as goal

pub invariant_of-self-2 : goal.invariant_of-self-2
invariant_of-self-2 c =
    let keys = c.self.inside.names.keys in
    subst IsNumbered
    (sym (inserted_name keys c.insert_full.new.self.keys c.in_ok-folded.folded c.args.name.now c.in_ok-folded.ensures c.in_ok-number.ensures.keys))
    (IsNumbered-with_name (shown keys) c.args.name.now c.self.invariant)

pub returns-clause-table : goal.returns-clause-table
returns-clause-table c =
    inserted_name c.self.inside.names.keys c.insert_full.new.self.keys c.in_ok-folded.folded c.args.name.now c.in_ok-folded.ensures c.in_ok-number.ensures.keys
    ∙ ap (λ table. with_name table c.args.name.now) c.self.view_is

pub returns-clause-number : goal.returns-clause-number
returns-clause-number c =
    let keys = c.self.inside.names.keys in
    let name = c.args.name.now in
    ap (λ table. number_in table name)
    (inserted_name keys c.insert_full.new.self.keys c.in_ok-folded.folded name c.in_ok-folded.ensures c.in_ok-number.ensures.keys)
    ∙ inserted_number keys c.in_ok-folded.folded name c.in_ok-number.number c.in_ok-folded.ensures c.in_ok-number.ensures.index
