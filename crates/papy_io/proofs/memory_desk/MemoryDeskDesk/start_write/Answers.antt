use Rattle.std.proofs.Common.{[], ap, ◌∙◌, sym, subst, refl}
use Rattle.std.specs.Prelude.{IsSome}
use Rattle.std.specs.FinMap.{get}
use Rattle.papy_io.specs.Desk.{Empties}
use Rattle.papy_io.specs.MemoryDesk.{MemoryState}
use Rattle.papy_io.proofs.DeskSteps.{insert_changes, is_held}
use Rattle.papy_io.proofs.memory_desk.MemoryDeskDesk.start_write.Goals as goal

pub invariant_of-self-2 : goal.invariant_of-self-2
invariant_of-self-2 c =
    let put = ap (λ (s : MemoryState). s.files) (c.self-2.view_is ∙ c.in_ok-put.ensures.ok) in
    subst (λ n. IsSome (get c.self-2.inside.files n)) (sym c.in_ok-kept.ensures.items) (is_held c.args.self.now.files c.self-2.inside.files c.args.name.now [] put)

pub returns-clause-holds : goal.returns-clause-holds
returns-clause-holds c =
    let put = ap (λ (s : MemoryState). s.files) (c.self-2.view_is ∙ c.in_ok-put.ensures.ok) in
    insert_changes c.args.name.now [] Empties c.args.self.now.files c.self-2.inside.files put refl
