-- What reading a compiled file gives, by what reading its bytes and decoding them gave.
use Rattle.std.proofs.Common.{arith, ◌≡◌, ℕ, List, length, ap, refl, subst, sym}
use Rattle.std.specs.Prelude.{Option, None, Some, Ok, Err}
use Rattle.std.specs.declared.alloc.Global.{Global}
use Rattle.std.specs.declared.vec.Vec.{Vec}
use Rattle.papy_io.specs.Files.{Files}
use Rattle.pex_codec.specs.declared.faults.PexFault.{PexFault}
use Rattle.pex_codec.specs.declared.faults.PexFault.TheVariants as pex
use Rattle.pex_codec.specs.declared.faults.PexRule.TheVariants.{TooLarge}
use Rattle.pex_codec.specs.Decoding.{Decodes, IsSpelledBy, IsSpelling, SpellOne}
use Rattle.pex_codec.specs.Spells.{Spells}
use Rattle.pex_values.specs.declared.values.Pex.{Pex}
use Rattle.pex_values.specs.Plain.{PlainPex, plain}
use Rattle.command_files.specs.declared.file_fault.FileFault.{FileFault}
use Rattle.command_files.specs.declared.file_fault.FileFault.TheVariants.{ReadFault, OutOfMemory, Refused}
use Rattle.command_files.specs.PexFile.{IsRefusalOf, Reads, ReadsBytes, ReadsPex, CountsPex}

-- a value and the bytes that spell it
pub spelled_by : (v : PlainPex) (bytes : List ℕ) → Spells v bytes → IsSpelledBy (length bytes) v
spelled_by v bytes spells = record { shaped = spells.shaped; fits = spells.fits; size = ap length (sym spells.spelled) }

pub spelled_one : (bytes : List ℕ) → IsSpelling bytes → SpellOne (length bytes)
spelled_one bytes (v, spells) = (v, spelled_by v bytes spells)

-- a file that was not read whole
pub read_unread : {T : Type 0} (Says : T → List ℕ → Type 0) (holds : Option Files) (name : List ℕ) (fault : FileFault) → ReadsBytes holds name (Err fault) → Reads Says holds name (Err fault)
read_unread Says None name fault read = tt
read_unread Says (Some files) name ReadFault read = tt
read_unread Says (Some files) name OutOfMemory read = tt
read_unread Says (Some files) name (Refused place rule) (bytes, held, past, place_is, rule_is) =
    (bytes, held, record { breaks = λ few. absurd (omega (arith, past, few)); too_large = λ _. (place_is, rule_is) })

-- a file that was read and breaks a rule
pub read_refused : {T : Type 0} (Says : T → List ℕ → Type 0) (holds : Option Files) (name : List ℕ) (bytes : Vec ℕ Global) (fault : PexFault) (told : FileFault)
    → ReadsBytes holds name (Ok bytes) → Decodes bytes.items (Err fault) → IsRefusalOf fault told → Reads Says holds name (Err told)
read_refused Says None name bytes fault told read breaks is = tt
read_refused {T} Says (Some files) name bytes pex.OutOfMemory told read breaks is = subst (λ (f : FileFault). Reads {T = T} Says (Some files) name (Err f)) (sym is) tt
read_refused {T} Says (Some files) name bytes (pex.Broken offset rule) told read breaks is =
    subst (λ (f : FileFault). Reads {T = T} Says (Some files) name (Err f)) (sym is) (
      bytes.items,
      read.1,
      record {
        breaks = λ few. record { offset = offset; broken = rule; place_is = refl; rule_is = refl; breaks = breaks };
        too_large = λ past. absurd (omega (arith, past, read.0));
      },
    )

-- a file that was read and spells a value
pub read_decoded : (holds : Option Files) (name : List ℕ) (bytes : Vec ℕ Global) (value : Pex) → ReadsBytes holds name (Ok bytes) → Spells (plain value) bytes.items
    → ReadsPex holds name (Ok (record { value = value; bytes = bytes }))
read_decoded None name bytes value read spells = tt
read_decoded (Some files) name bytes value read spells = (bytes.items, read.1, record { spelled = spells; kept = refl })

pub read_counted : (holds : Option Files) (name : List ℕ) (bytes : Vec ℕ Global) (size : ℕ) → ReadsBytes holds name (Ok bytes) → IsSpelling bytes.items → size ≡ length bytes.items
    → CountsPex holds name (Ok size)
read_counted None name bytes size read spelled is = tt
read_counted (Some files) name bytes size read spelled is = (bytes.items, read.1, record { spelled = spelled; size = is })
