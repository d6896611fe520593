use Rattle.std.proofs.Common.{◌≡◌, ◌∷◌, ◌++◌, [], take, length, subst, sym, ap, ◌∙◌, arith, length-take}
use Rattle.std.proofs.lemmas.List.{take_more}
use Rattle.papy_base.specs.Table.{IsPlaceTable, Notes}
use Rattle.papy_base.proofs.TableLemmas.{IsPlaceTable-push}
use Rattle.papy_base.proofs.name_table.NameTable.of_places.Goals as goal

pub loop-place-preserved : goal.loop-place-preserved
loop-place-preserved g c =
    let name_of = g.T.Named.name_of in
    let things = c.args.things.now in
    let place = c.loop-place.place in
    let thing = c.index-things-place.result in
    let old = c.loop-place.table in
    let new = c.note.new.self in
    let grown = take_more things place thing c.loop-place-test.true ∙ ap (λ x. take place things ++ x ∷ []) (sym c.index-things-place.is) in
    let count : length (take place things) ≡ place = simp length-take (omega arith) in
    let noted = subst (λ n. Notes old new (name_of thing) n) (sym count) (subst (λ n. Notes old new n place) c.name.ensures c.in_ok-note.ensures) in
    subst (λ xs. IsPlaceTable name_of xs new) (sym grown) (IsPlaceTable-push name_of (take place things) thing old new c.loop-place.invariant noted)
