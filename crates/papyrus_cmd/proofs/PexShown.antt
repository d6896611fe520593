-- What `check` and `show` answer, by what reading their file gave.
use Rattle.std.proofs.Common.{ℕ, List, ap, take, inr, refl}
use Rattle.std.specs.Prelude.{Option, None, Some, Ok, IfSome}
use Rattle.papy_io.specs.Files.{Files}
use Rattle.pex_listing.specs.Listing.{listing}
use Rattle.pex_values.specs.Plain.{plain}
use Rattle.command_files.specs.declared.ending.Ending.TheVariants.{Done}
use Rattle.command_files.specs.declared.pex_file.PexFile.{PexFile}
use Rattle.command_files.specs.Outputs.{AnswersTo, IsPart}
use Rattle.command_files.specs.PexFile.{CountsPex, ReadsPex}
use Rattle.papyrus_cmd.specs.Answers.{CheckAnswers, ShowAnswers}
use Rattle.papyrus_cmd.specs.Check.{accepted_line}

pub checked : (holds : Option Files) (name : List ℕ) (size : ℕ) → CountsPex holds name (Ok size) →
    IfSome holds (λ files. AnswersTo CheckAnswers name files Done (accepted_line size))
checked None name size read = tt
checked (Some files) name size (bytes, held, counted) = (bytes, held, (counted.spelled, ap accepted_line counted.size))

-- all of the listing was shown
pub shown : (holds : Option Files) (name : List ℕ) (pex : PexFile) → ReadsPex holds name (Ok pex) →
    IfSome holds (λ files. AnswersTo ShowAnswers name files Done (listing (plain pex.value)))
shown None name pex read = tt
shown (Some files) name pex (bytes, held, read) = (bytes, held, (plain pex.value, read.spelled, refl))

-- so much of it was shown before the output failed
pub partly_shown : (holds : Option Files) (name : List ℕ) (pex : PexFile) (n : ℕ) → ReadsPex holds name (Ok pex) →
    IfSome holds (λ files. IsPart (AnswersTo ShowAnswers name files) (take n (listing (plain pex.value))))
partly_shown None name pex n read = tt
partly_shown (Some files) name pex n (bytes, held, read) =
    inr (listing (plain pex.value), n, (bytes, held, (plain pex.value, read.spelled, refl)), refl)
