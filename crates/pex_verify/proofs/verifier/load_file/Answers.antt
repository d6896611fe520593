use Rattle.std.proofs.Common.{◌≡◌, ◌+◌, ◌<◌, List, [], ◌∷◌, ◌++◌, length, get_or, map, take, refl, sym, subst, arith}
use Rattle.std.proofs.lemmas.List.{append-nil}
use Rattle.pex_values.specs.declared.values.PexObject.{PexObject}
use Rattle.pex_verify.specs.Heads.{Placed, placed}
use Rattle.pex_verify.specs.Loading.{judged_by, AreObjects}
use Rattle.pex_verify.proofs.Pairs.{behind_next, take_next}
use Rattle.pex_verify.proofs.verifier.load_file.Goals as goal

pub loop-object-init : goal.loop-object-init
loop-object-init c =
    (omega arith, λ sound. sound, λ before given. subst (λ (l : List Placed). AreObjects (judged_by c.args.loader.now) l c.args.parts.now.scripts.items c.args.parts.now.outlines.items) (sym (append-nil before)) given)

pub loop-object-preserved : goal.loop-object-preserved
loop-object-preserved c =
    let source = c.args.source.now in
    let objects = source.pex.now.objects.items in
    let i = c.loop-object.object-index in
    let object = c.object-item.result in
    let within : i < length objects = omega arith in
    let is : object ≡ get_or objects i object = subst (λ (l : List PexObject). object ≡ get_or l i object) c.deref-object-items.ensures.value c.object-item.is in
    let parts = c.load_next.new.parts in
    let ensured = c.in_ok-load_next.ensures in (
      omega (arith, ensured.count),
      λ sound. ensured.sound (c.loop-object.invariant.1 sound),
      λ before given.
          let done : List Placed = before ++ map (placed source) (take i objects) in
          let wider : done ++ placed source object ∷ [] ≡ before ++ map (placed source) (take (i + 1) objects) =
          behind_next (placed source) before done (done ++ placed source object ∷ []) (take i objects) (take (i + 1) objects) object refl (take_next objects i object object within is) refl in
          subst (λ (l : List Placed). AreObjects (judged_by c.args.loader.now) l parts.scripts.items parts.outlines.items) wider (ensured.objects done (c.loop-object.invariant.2 before given)),
    )
