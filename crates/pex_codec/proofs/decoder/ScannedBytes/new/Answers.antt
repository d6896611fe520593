use Rattle.std.proofs.Common.{refl}
use Rattle.pex_codec.proofs.Feeding.{opens_whole}
use Rattle.pex_codec.proofs.decoder.ScannedBytes.new.Goals as goal

pub returns-clause-open : goal.returns-clause-open
returns-clause-open c =
    opens_whole (record { bytes = c.new-2.result; «open» = 0; scan = c.in_ok-scan.scan }) c.new-2.ensures.items refl c.in_ok-scan.ensures.tasks c.in_ok-scan.ensures.strings
