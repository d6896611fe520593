use Rattle.std.proofs.Common.{◌<◌, length, arith, ◌∙◌}
use Rattle.pex_set.proofs.Made.{listed_more}
use Rattle.pex_set.proofs.prelude.strings.Goals as goal

pub loop-word-preserved : goal.loop-word-preserved
loop-word-preserved c =
    let less : c.loop-word.word-index < length c.args.words.now = omega arith in
    c.in_ok-push.ensures.items
    ∙ listed_more (λ word. word.now) c.loop-word.strings.items _ c.args.words.now c.loop-word.word-index _ less c.loop-word.invariant (c.in_ok-try_from_bytes.ensures ∙ c.as_bytes.ensures.value)
