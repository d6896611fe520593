use Rattle.std.proofs.Common.{◌≡◌, ◌<◌, ap, arith, get_or, length, refl, sym, subst, ◌∙◌}
use Rattle.std.specs.Prelude.{Some, slice_get}
use Rattle.std.proofs.lemmas.Option.{slice_get_read}
use Rattle.script_linker.specs.declared.set.SourceFile.{SourceFile}
use Rattle.type_scope.proofs.CalleeLemmas.{callee-found}
use Rattle.type_scope.proofs.catalog.Catalog.find_function.Goals as goal

pub returns : goal.returns
returns c =
    let files = c.args.self.now.set.now in
    let found = c.in_ok-found.found in
    let function = c.in_ok-function.function.now in
    let items = c.as_slice-functions.result.now in
    let read : slice_get items found.place ≡ Some function = slice_get_read items (length items) found.place function refl (omega (arith, c.in_ok-function.ensures.lookup.3.0, c.from.ensures)) (cc (c.in_ok-function.ensures.lookup.1, c.from.ensures)) in
    let there : (file : SourceFile) → slice_get (get_or files found.script file).script.functions.items found.place ≡ Some function =
    λ file. ap (λ fs. slice_get fs found.place) (sym (c.as_slice-functions.ensures.value ∙ ap (λ s. s.functions.items) (c.in_ok-script.ensures.script file))) ∙ read in
    let both = callee-found files c.args.name.now c.args.script found.script found.place function c.in_ok-found.ensures c.in_ok-script.ensures.within there in
    record { there = both.0; named = both.1 }
