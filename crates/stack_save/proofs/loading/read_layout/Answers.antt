use Rattle.std.specs.Prelude.{nat_eq, true, Err}
use Rattle.std.proofs.Common.{◌≡◌, ℕ, List, [], ◌++◌, length, refl, sym, ap, subst, ◌∙◌}
use Rattle.std.proofs.lemmas.Result.{err_from_is_err_and}
use Rattle.stack_save.proofs.HeldLemmas.{empty_from, not_whole, reads_fault, spells_layout}
use Rattle.stack_save.proofs.loading.read_layout.Goals as goal
use Rattle.stack_save.specs.Loading.{ReadsLayout, held_fields, plain_layout}
use Rattle.stack_save.specs.declared.fault.HeldFault.{HeldFault}

pub returns-in_err-layout : goal.returns-in_err-layout
returns-in_err-layout c =
    let p = err_from_is_err_and c.from_residual.result c.from_residual.ensures.1 in
    reads_fault c.in_err-layout.field-0.0 p.0 c.from_residual.result c.args.bytes.now c.take_layout.new.cursor.rest.now p.1 p.2 c.in_err-layout.ensures

pub returns-then-not-is_empty : goal.returns-then-not-is_empty
returns-then-not-is_empty c =
    let h = plain_layout c.in_ok-layout.layout in
    let rest = c.take_layout.new.cursor.rest.now in
    let taken = c.in_ok-layout.ensures in
    subst (λ (fault : HeldFault). ReadsLayout c.args.bytes.now (Err fault)) (sym c.refused.ensures) (
      refl,
      not_whole c.args.bytes.now h rest taken.found
          (λ (none : rest ≡ []).
          let passed : nat_eq (length rest) 0 ≡ true = ap (λ (b : List ℕ). nat_eq (length b) 0) none in
          let failed = sym c.is_empty.ensures ∙ c.if-not-is_empty.true in
          cc),
    )

pub returns : goal.returns
returns c =
    let h = plain_layout c.in_ok-layout.layout in
    let rest = c.take_layout.new.cursor.rest.now in
    let taken = c.in_ok-layout.ensures in
    let none = empty_from rest (sym c.is_empty.ensures ∙ c.if-not-is_empty.false) in
    spells_layout c.args.bytes.now h taken.may (taken.bytes ∙ ap (λ (b : List ℕ). held_fields h ++ b) none)
