use Rattle.std.proofs.Common.{◌≡◌, ◌∙◌, sym, ap, map, take, []}
use Rattle.std.specs.String.{string_bytes}
use Rattle.std.proofs.lemmas.List.{get_or-map}
use Rattle.pex_listing.specs.Listing.{listing}
use Rattle.pex_values.specs.Plain.{plain}
use Rattle.command_files.specs.Ending.{word_at}
use Rattle.papyrus_cmd.proofs.PexShown.{shown, partly_shown}
use Rattle.papyrus_cmd.proofs.show.show.Goals as goal

pub returns-in-Ok-write_listing-clause-output : goal.returns-in-Ok-write_listing-clause-output
returns-in-Ok-write_listing-clause-output g c =
    let file = c.index-files-0.result in
    let named : word_at (map string_bytes c.args.files.now) 0 ≡ string_bytes file =
    get_or-map string_bytes c.args.files.now 0 file [] c.requires.some ∙ ap string_bytes (sym c.index-files-0.is) in
    let read = rw c.as_bytes.ensures.value at c.in-Ok.ensures.read in
    let ends = shown (g.D.Desk.holds c.args.desk.now) (string_bytes file) c.in-Ok.pex read in
    rw named (listing (plain c.in-Ok.pex.value), c.in-Ok-write_listing.ensures.written, ends)

pub returns-in-Err-WriteFault-clause-output : goal.returns-in-Err-WriteFault-clause-output
returns-in-Err-WriteFault-clause-output g c =
    let file = c.index-files-0.result in
    let named : word_at (map string_bytes c.args.files.now) 0 ≡ string_bytes file =
    get_or-map string_bytes c.args.files.now 0 file [] c.requires.some ∙ ap string_bytes (sym c.index-files-0.is) in
    let read = rw c.as_bytes.ensures.value at c.in-Ok.ensures.read in
    let wrote = c.in-Err-WriteFault.ensures.written in
    let ends = partly_shown (g.D.Desk.holds c.args.desk.now) (string_bytes file) c.in-Ok.pex wrote.0 read in
    rw named (take wrote.0 (listing (plain c.in-Ok.pex.value)), wrote.1, ends)

pub returns-in-Err-OutOfMemory-clause-output : goal.returns-in-Err-OutOfMemory-clause-output
returns-in-Err-OutOfMemory-clause-output g c =
    let file = c.index-files-0.result in
    let named : word_at (map string_bytes c.args.files.now) 0 ≡ string_bytes file =
    get_or-map string_bytes c.args.files.now 0 file [] c.requires.some ∙ ap string_bytes (sym c.index-files-0.is) in
    let read = rw c.as_bytes.ensures.value at c.in-Ok.ensures.read in
    let wrote = c.in-Err-OutOfMemory.ensures.written in
    let ends = partly_shown (g.D.Desk.holds c.args.desk.now) (string_bytes file) c.in-Ok.pex wrote.0 read in
    rw named (take wrote.0 (listing (plain c.in-Ok.pex.value)), wrote.1, ends)
