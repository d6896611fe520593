use Rattle.std.proofs.Common.{◌≡◌, ◌<◌, true, false, length, map, refl, sym, ap, ◌∙◌, arith}
use Rattle.type_scope.proofs.SourceLemmas.{auto-added, auto-passed}
use Rattle.type_scope.specs.Sources.{declaration, is_auto}
use Rattle.type_scope.proofs.layout.add_auto_sources.Goals as goal
use Rattle.type_scope.proofs.layout.add_auto_sources.Goals.{then-is_auto+in_ok-push, else-is_auto}

pub loop-place-preserved : goal.loop-place-preserved
loop-place-preserved c =
    let first = map declaration c.args.sources.now.items in
    let sources = c.loop-place.sources.items in
    let properties = c.args.properties.now in
    let n = c.loop-place.place in
    let p = c.index-properties-place.result in
    let within : n < length properties = omega arith in
    elim c.if-is_auto.branch [
      | then-is_auto+in_ok-push w ↦
          let auto : is_auto p.form ≡ true = sym c.is_auto.ensures ∙ w.if-is_auto.true in
          rw w.sources-is (auto-added first sources w.push.new.self.items _ properties n p auto refl w.in_ok-push.ensures.items c.loop-place.invariant within c.index-properties-place.is)
      | else-is_auto w ↦
          let other : is_auto p.form ≡ false = sym c.is_auto.ensures ∙ w.if-is_auto.false in
          rw w.sources-is (auto-passed first sources properties n p other c.loop-place.invariant within c.index-properties-place.is)
    ]
