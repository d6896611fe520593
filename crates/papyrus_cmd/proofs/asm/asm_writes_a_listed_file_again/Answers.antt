use Rattle.std.proofs.Common.{◌≡◌, ℕ, List, Some, sym, ap, ◌∙◌}
use Rattle.papy_io.specs.Files.{Files, told_bytes}
use Rattle.pex_listing.specs.Listing.{listing}
use Rattle.pex_listing.proofs.OneValue.{one_value}
use Rattle.pex_values.specs.Spelling.{spelling}
use Rattle.papyrus_cmd.specs.Asm.{Writes}
use Rattle.papyrus_cmd.specs.Show.{Lists}
use Rattle.papyrus_cmd.proofs.asm.asm_writes_a_listed_file_again.Goals as goal

writes_again : (source name bytes text : List ℕ) (old new : Files) → Lists bytes text → told_bytes (Some old) source ≡ Some text → Writes source name (Some old) (Some new) → told_bytes (Some new) name ≡ Some bytes
writes_again source name bytes text old new (v, spelled, lists) held (written, assembled, changes) =
    let w = assembled.value in
    let both : Some (listing w) ≡ Some (listing v) = sym assembled.listed ∙ held ∙ ap Some lists in
    let same : listing w ≡ listing v = cc in
    let value = one_value w v assembled.spelled.shaped spelled.shaped same in
    changes.file ∙ ap Some (assembled.spelled.spelled ∙ ap spelling value ∙ sym spelled.spelled)

pub returns : goal.returns
returns c = writes_again
