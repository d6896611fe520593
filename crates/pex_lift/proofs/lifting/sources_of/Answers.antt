use Rattle.std.proofs.Common.{ℕ, List, ◌+◌, sym, subst, take}
use Rattle.script_linker.specs.declared.set.SourceFile.{SourceFile}
use Rattle.pex_alike.specs.SameCode.{SameEach}
use Rattle.pex_alike.proofs.Lists.{each_more}
use Rattle.pex_lift.specs.Lifted.{IsRead}
use Rattle.pex_lift.proofs.Accepted.{each_none}
use Rattle.pex_lift.proofs.lifting.sources_of.Goals as goal

pub loop-text-init : goal.loop-text-init
loop-text-init c = rw c.in_ok-sources.ensures.items (each_none IsRead)

pub loop-text-preserved : goal.loop-text-preserved
loop-text-preserved c =
    let P : List SourceFile → Type 0 = λ files. SameEach IsRead (take (c.loop-text.text-index + 1) c.args.texts.now) files in
    let read : IsRead c.text-item.result c.in_ok-source.source = subst (λ (t : List ℕ). IsRead t c.in_ok-source.source) c.as_bytes.ensures c.in_ok-source.ensures in
    let more = each_more IsRead c.args.texts.now c.loop-text.sources.items c.loop-text.text-index c.text-item.result c.in_ok-source.source c.loop-text-test.true c.text-item.is c.loop-text.invariant read in
    subst P (sym c.in_ok-push.ensures.items) more
