-- How a command ends, and what the devices count and keep then.
use Rattle.std.specs.Prelude.{◌≡◌, ◌⊎◌, ℕ, suc, ◌<◌, List, [], ◌∷◌, ◌++◌, length, Option, Some, slice_index_or, codes}
use Rattle.papy_io.specs.declared.fault.IoFault.{IoFault}
use Rattle.papy_io.specs.declared.fault.IoFault.TheVariants as io
use Rattle.papy_io.specs.Count.{HasRisen}
use Rattle.command_files.specs.declared.compile_fault.CompileFault.{CompileFault}
use Rattle.command_files.specs.declared.compile_fault.CompileFault.TheVariants as compile
use Rattle.command_files.specs.declared.ending.Ending.{Ending}
use Rattle.command_files.specs.declared.ending.Ending.TheVariants.{Done, OutOfMemory, Usage, ReadFault, WriteFault, Refused, NotBuilt}
use Rattle.command_files.specs.Refusal.{refusal_line, rule_status}

-- how a command ends whose output was refused
abbrev pub write_ending : IoFault → Ending
write_ending io.Failed = WriteFault
write_ending io.OutOfMemory = OutOfMemory

-- how a command ends whose accepted scripts have no files
abbrev pub compile_ending : CompileFault → Ending
compile_ending compile.NotBuilt = NotBuilt
compile_ending compile.OutOfMemory = OutOfMemory

-- the same of words that stand one place later
abbrev pub one_later : Ending → Ending
one_later (ReadFault word) = ReadFault (suc word)
one_later (Refused word place rule) = Refused (suc word) place rule
one_later Done = Done
one_later OutOfMemory = OutOfMemory
one_later Usage = Usage
one_later WriteFault = WriteFault
one_later NotBuilt = NotBuilt

-- the status that each ending has
abbrev pub status_of : Ending → ℕ
status_of Done = 0
status_of OutOfMemory = 1
status_of Usage = 2
status_of (ReadFault word) = 3
status_of WriteFault = 4
status_of (Refused word place rule) = rule_status rule
status_of NotBuilt = 10

abbrev pub line : List ℕ → List ℕ
line text = text ++ 10 ∷ []

abbrev pub word_at : List (List ℕ) → ℕ → List ℕ
word_at words place = slice_index_or words place []

abbrev pub cannot_read : List ℕ → List ℕ
cannot_read file = line (codes "papyrus: cannot read " ++ file)

abbrev pub out_of_memory : List ℕ
out_of_memory = line (codes "papyrus: out of memory")

-- the line that tells of each ending
abbrev pub note_of : List (List ℕ) → Ending → List ℕ
note_of words Done = []
note_of words OutOfMemory = out_of_memory
note_of words Usage = line (codes "papyrus: usage")
note_of words (ReadFault word) = cannot_read (word_at words word)
note_of words WriteFault = line (codes "papyrus: cannot write")
note_of words (Refused word place rule) = refusal_line (word_at words word) place rule
note_of words NotBuilt = line (codes "papyrus: not built")

-- the count of failed reads rises where a file was not read, and nowhere else
abbrev pub CountsReads : Ending → ℕ → ℕ → Type 0
CountsReads (ReadFault word) before now = HasRisen before now
CountsReads Done before now = now ≡ before
CountsReads OutOfMemory before now = now ≡ before
CountsReads Usage before now = now ≡ before
CountsReads WriteFault before now = now ≡ before
CountsReads (Refused word place rule) before now = now ≡ before
CountsReads NotBuilt before now = now ≡ before

-- the count of failed writes rises where the output was not written, and nowhere else
abbrev pub CountsWrites : Ending → ℕ → ℕ → Type 0
CountsWrites WriteFault before now = HasRisen before now
CountsWrites Done before now = now ≡ before
CountsWrites OutOfMemory before now = now ≡ before
CountsWrites Usage before now = now ≡ before
CountsWrites (ReadFault word) before now = now ≡ before
CountsWrites (Refused word place rule) before now = now ≡ before
CountsWrites NotBuilt before now = now ≡ before

-- the same of the output and of the files that are written, one of which failed
abbrev pub CountsBoth : Ending → ℕ → ℕ → ℕ → ℕ → Type 0
CountsBoth WriteFault before now files_before files_now =
    (HasRisen before now × (files_now ≡ files_before)) ⊎ ((now ≡ before) × HasRisen files_before files_now)
CountsBoth Done before now files_before files_now = (now ≡ before) × (files_now ≡ files_before)
CountsBoth OutOfMemory before now files_before files_now = (now ≡ before) × (files_now ≡ files_before)
CountsBoth Usage before now files_before files_now = (now ≡ before) × (files_now ≡ files_before)
CountsBoth (ReadFault word) before now files_before files_now = (now ≡ before) × (files_now ≡ files_before)
CountsBoth (Refused word place rule) before now files_before files_now = (now ≡ before) × (files_now ≡ files_before)
CountsBoth NotBuilt before now files_before files_now = (now ≡ before) × (files_now ≡ files_before)

-- the file of this place is the one missed, and is the word behind it
abbrev pub MissesScript : List (List ℕ) → Ending → Option (List ℕ) → Type 0
MissesScript names (ReadFault word) missed =
    (place : ℕ) × (word ≡ suc place) × (place < length names) × (missed ≡ Some (word_at names place))
MissesScript names Done missed = Unit {0}
MissesScript names OutOfMemory missed = Unit {0}
MissesScript names Usage missed = Unit {0}
MissesScript names WriteFault missed = Unit {0}
MissesScript names (Refused word place rule) missed = Unit {0}
MissesScript names NotBuilt missed = Unit {0}

-- the word of this number is one of so many
abbrev pub IsWordBelow : ℕ → Ending → Type 0
IsWordBelow count (ReadFault word) = word < count
IsWordBelow count (Refused word place rule) = word < count
IsWordBelow count Done = Unit {0}
IsWordBelow count OutOfMemory = Unit {0}
IsWordBelow count Usage = Unit {0}
IsWordBelow count WriteFault = Unit {0}
IsWordBelow count NotBuilt = Unit {0}

-- the word of this number is one of the words
abbrev pub IsWordOf : List (List ℕ) → Ending → Type 0
IsWordOf words ending = IsWordBelow (length words) ending
