use Rattle.std.specs.Prelude.{⊤}
use Rattle.std.proofs.Common.{ℕ, ◌+◌, List, map, subst, sym}
use Rattle.std.specs.Borrow.{Bor}
use Rattle.std.specs.List.{flat_map}
use Rattle.std.specs.declared.alloc.Global.{Global}
use Rattle.std.specs.declared.vec.Vec.{Vec}
use Rattle.std.proofs.lemmas.Result.{err_from_is_err_and}
use Rattle.machine_state.specs.Savable.{FitsFourBytes}
use Rattle.stack_save.proofs.Lists.{TookFirst, TookFirst-missing, TookFirst-more, err_taken}
use Rattle.stack_save.proofs.loading.take_each_file.Goals as goal
use Rattle.stack_save.specs.Loading.{lent}
use Rattle.stack_save.specs.Parts.{AreItems}
use Rattle.stack_save.specs.Reading.{items_at, long_string_at}
use Rattle.stack_save.specs.Spelling.{long_string}

pub returns-in_err-file : goal.returns-in_err-file
returns-in_err-file c =
    let old = c.args.cursor.now.rest.now in
    let rest = c.files.cursor.rest.now in
    let new = c.take_long_string.new.self.rest.now in
    let p = err_from_is_err_and c.from_residual.result c.from_residual.ensures.1 in
    err_taken c.in_err-file.field-0.0 p.0 c.from_residual.result lent (FitsFourBytes {A = ℕ}) long_string long_string_at
    (λ (files : Vec (Bor (List ℕ)) Global). map lent files.items) (AreItems c.args.count (FitsFourBytes {A = ℕ}) (λ (file : List ℕ). ⊤)) (flat_map long_string) (items_at long_string_at c.args.count)
    rest new old new p.1 p.2 c.in_err-file.ensures
    (TookFirst-missing (FitsFourBytes {A = ℕ}) (λ (file : List ℕ). ⊤) long_string long_string_at lent old c.args.count c.files.counter c.files.files.items rest c.files.invariant c.files-test.true)

pub files-preserved : goal.files-preserved
files-preserved c =
    let old = c.args.cursor.now.rest.now in
    let new = c.take_long_string.new.self.rest.now in
    let t = c.in_ok-file.ensures in
    subst (λ (files : List (Bor (List ℕ))). TookFirst (FitsFourBytes {A = ℕ}) (λ (file : List ℕ). ⊤) long_string long_string_at lent old c.args.count (c.files.counter + 1) files new) (sym c.in_ok-push.ensures.items)
    (TookFirst-more (FitsFourBytes {A = ℕ}) (λ (file : List ℕ). ⊤) long_string long_string_at lent old c.args.count c.files.counter c.files.files.items c.files.cursor.rest.now c.in_ok-file.file new c.files.invariant c.files-test.true
    (record { may = record { savable = t.may; in_range = tt }; found = t.found; bytes = t.bytes }))
