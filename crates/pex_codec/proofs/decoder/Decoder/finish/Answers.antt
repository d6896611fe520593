use Rattle.std.proofs.Common.{arith, ap, length, ◌≡◌, ◌∙◌, subst, sym, List, ℕ}
use Rattle.pex_codec.specs.Decoding.{Progress, FinishFrom}
use Rattle.pex_codec.specs.DecoderState.{StandsAs, IsOpen}
use Rattle.pex_codec.specs.declared.faults.PexFault.TheVariants.{Broken}
use Rattle.pex_codec.specs.declared.faults.PexRule.TheVariants.{Truncated}
use Rattle.pex_codec.specs.declared.decoder.Standing.{Standing}
use Rattle.pex_codec.specs.declared.decoder.Standing.TheVariants as standing
use Rattle.pex_codec.proofs.Feeding.{finishes_open}
use Rattle.pex_codec.proofs.decoder.Decoder.finish.Goals as goal

pub returns-in-Reading : goal.returns-in-Reading
returns-in-Reading c =
    let t = c.self.inside.taken in
    let open_item : IsOpen t = subst (λ (s : Standing). StandsAs s t) c.in-Reading.is c.self.invariant in
    let count : c.len.result ≡ length t.bytes.items = omega (arith, c.len.ensures, t.bytes.ok.0) in
    rw c.broken_at.ensures (finishes_open t c.self.inside.standing c.args.self.now c.len.result open_item c.in-Reading.is c.self.view_is count)
