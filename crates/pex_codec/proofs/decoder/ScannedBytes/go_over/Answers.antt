use Rattle.std.proofs.Common.{refl, ap, drop, List, ℕ, ◌∙◌}
use Rattle.pex_codec.proofs.Feeding.{goes_over, rest_of}
use Rattle.pex_codec.proofs.decoder.ScannedBytes.go_over.Goals as goal

pub returns : goal.returns
returns c =
    goes_over c.args.self.now c.go_on-outcome.new.self _ c.go_on-outcome.new.cursor c.go_on-outcome.result c.go_on-outcome.ensures c.requires
    (record { at = refl; rest = rest_of c.args.self.now.open c.deref.result.now ∙ ap (λ (b : List ℕ). drop c.args.self.now.open b) c.deref.ensures.value })
