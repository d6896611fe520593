use Rattle.std.proofs.Common.{ℕ, ◌+◌, List, [], ◌∷◌, ◌++◌, length, map, take, sym, subst, ◌∙◌, refl, ap}
use Rattle.std.specs.List.{AllByRecursion}
use Rattle.code_lower.specs.declared.place.Place.{Place}
use Rattle.pex_values.specs.declared.values.Datum.{Datum}
use Rattle.pex_values.specs.Shape.{IsShapedDatum}
use Rattle.code_emit.specs.Spelled.{Each, Scope, SpellsPlace}
use Rattle.code_emit.proofs.Goes.{more, goes_further}
use Rattle.code_emit.proofs.Later.{datum_later, list_grown, pairs_later}
use Rattle.code_emit.proofs.Spelling.{each_more, place_on, item_taken}
use Rattle.code_emit.proofs.operands.place_data.Goals as goal

pub place_datum-requires : goal.place_datum-requires
place_datum-requires c =
    pairs_later (length c.args.strings.now.strings) (length c.loop-place.strings.strings) (more c.loop-place.invariant.goes) c.args.slots.now c.requires

pub loop-place-preserved : goal.loop-place-preserved
loop-place-preserved c =
    let n = length c.loop-place.strings.strings in
    let m = length c.place_datum.new.strings.strings in
    let slots = c.args.slots.now in
    let old : Scope = record { table = c.loop-place.strings; slots = slots } in
    let new : Scope = record { table = c.place_datum.new.strings; slots = slots } in
    let places : List Place = c.args.places.now in
    let at = c.loop-place.place-index in
    let P : List Datum → Type 0 = λ xs. AllByRecursion (IsShapedDatum m) xs in
    let Q : List Datum → Type 0 = λ xs. Each (SpellsPlace new) xs (take (at + 1) places) in
    let R : List Place → Type 0 = λ os. Each (SpellsPlace new) (c.loop-place.found.items ++ c.in_ok-place_datum.field-0 ∷ []) os in
    record {
      goes = goes_further c.args.strings.now c.loop-place.strings c.place_datum.new.strings c.loop-place.invariant.goes c.in_ok-place_datum.ensures.goes;
      each = subst P (sym c.in_ok-push.ensures.items) (list_grown (IsShapedDatum n) (IsShapedDatum m) (datum_later n m (more c.in_ok-place_datum.ensures.goes)) c.loop-place.found.items c.in_ok-place_datum.field-0 c.loop-place.invariant.each c.in_ok-place_datum.ensures.datum);
      spelled = subst Q (sym c.in_ok-push.ensures.items) (subst R (sym (item_taken places at _ c.loop-place-test.true c.place-item.is)) (each_more (SpellsPlace old) (SpellsPlace new) (place_on _ _ c.in_ok-place_datum.ensures.goes slots) c.loop-place.found.items (take at places) c.in_ok-place_datum.field-0 _ c.loop-place.invariant.spelled c.in_ok-place_datum.ensures.spelled));
    }
