-- What `asm` answers, by what reading its listing gave.
use Rattle.std.proofs.Common.{◌≡◌, ◌≤◌, ℕ, List, length, ap, ◌∙◌}
use Rattle.std.proofs.lemmas.Bool.{cond-true, cond-false, le-ltb, lt-ltb}
use Rattle.std.specs.Prelude.{Option, None, Some, Result, Ok, Err, IfOk}
use Rattle.std.specs.declared.alloc.Global.{Global}
use Rattle.std.specs.declared.vec.Vec.{Vec}
use Rattle.papy_io.specs.Files.{Files}
use Rattle.pex_listing.specs.declared.faults.ListingRule.TheVariants.{BadLine}
use Rattle.pex_listing.specs.Breaks.{list_break}
use Rattle.pex_listing.specs.Listing.{listing as listing_of}
use Rattle.pex_values.specs.Plain.{PlainPex}
use Rattle.command_files.specs.declared.file_fault.FileFault.{FileFault}
use Rattle.command_files.specs.declared.file_fault.FileFault.TheVariants as file
use Rattle.command_files.specs.declared.refusal.Place.TheVariants.{Line}
use Rattle.command_files.specs.declared.refusal.Rule.TheVariants.{Listing}
use Rattle.papyrus_cmd.specs.Asm.{Assembles, IsAssembled, ReadsListing, SpellsValue, first_break}
use Rattle.command_files.specs.TextFile.{ReadsText}

abbrev pub ReadsListed : Option Files → List ℕ → Result (Vec ℕ Global) FileFault → Type 0
ReadsListed holds name result = ReadsText holds name 134217728 (Line 0) (Listing BadLine) result

-- a text that was not read, or is too large
pub listing_unread : (holds : Option Files) (name : List ℕ) (fault : FileFault) → ReadsListed holds name (Err fault) → ReadsListing holds name (Err fault)
listing_unread None name fault read = tt
listing_unread (Some files) name (file.Refused place rule) (bytes, held, past, place_is, rule_is) =
    (bytes, held, record { line = 0; broken = BadLine; place_is = place_is; rule_is = rule_is; first_is = cond-true _ _ _ (lt-ltb 134217728 (length bytes) past) })
listing_unread (Some files) name file.ReadFault read = tt
listing_unread (Some files) name file.OutOfMemory read = tt

-- of a text that is not too large the lines tell the break
first_of_lines : (text : List ℕ) → length text ≤ 134217728 → first_break text ≡ list_break text
first_of_lines text small = cond-false _ _ _ (le-ltb 134217728 (length text) small)

-- a text that was assembled or refused
pub listing_read : (holds : Option Files) (name : List ℕ) (text : Vec ℕ Global) (result : Result (Vec ℕ Global) FileFault) → ReadsListed holds name (Ok text) → Assembles text.items result → ReadsListing holds name result
listing_read None name text result read assembles = tt
listing_read (Some files) name text (Ok bytes) read assembles = (text.items, read.1, first_of_lines text.items read.0 ∙ assembles.1)
listing_read (Some files) name text (Err (file.Refused place rule)) read assembles =
    (text.items, read.1, record { line = assembles.line; broken = assembles.broken; place_is = assembles.place_is; rule_is = assembles.rule_is; first_is = first_of_lines text.items read.0 ∙ assembles.first_is })
listing_read (Some files) name text (Err file.OutOfMemory) read assembles = tt
listing_read (Some files) name text (Err file.ReadFault) read assembles = tt

-- ---- the value of a listing

pub assembled : (value : PlainPex) (text : List ℕ) (result : Result (Vec ℕ Global) FileFault) → SpellsValue value result → text ≡ listing_of value → list_break text ≡ None → Assembles text result
assembled value text (Ok bytes) spells lists unbroken = ((value, spells, lists), unbroken)
assembled value text (Err file.OutOfMemory) spells lists unbroken = tt
assembled value text (Err file.ReadFault) spells lists unbroken = absurd spells
assembled value text (Err (file.Refused place rule)) spells lists unbroken = absurd spells

pub listing_spelled : (holds : Option Files) (name : List ℕ) (text : Vec ℕ Global) (result : Result (Vec ℕ Global) FileFault) → ReadsListed holds name (Ok text) → Assembles text.items result →
    IfOk result (λ bytes. IsAssembled name holds bytes.items)
listing_spelled None name text (Ok bytes) read ((value, spelled, lists), unbroken) = record { value = value; spelled = spelled; listed = tt }
listing_spelled (Some files) name text (Ok bytes) read ((value, spelled, lists), unbroken) = record { value = value; spelled = spelled; listed = read.1 ∙ ap Some lists }
listing_spelled holds name text (Err fault) read assembles = tt
