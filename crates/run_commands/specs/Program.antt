-- What reading and verifying a scene and compiled files gives. Words are counted from the command's own, which is 0: the scene's is `named`,
-- and those from `first` on name the compiled files.
use Rattle.std.specs.Prelude.{◌≡◌, ◌⊎◌, ℕ, suc, ◌+◌, ◌-◌, ◌<◌, ◌≤◌, ◌^◌, Bool, true, false, List, [], ◌∷◌, drop, length, map, Option, None, Some, Result, Ok, Err, IfSome}
use Rattle.std.specs.List.{AllByRecursion}
use Rattle.std.specs.declared.alloc.Global.{Global}
use Rattle.std.specs.declared.vec.Vec.{Vec}
use Rattle.papy_io.specs.Files.{Files, told_bytes}
use Rattle.pex_codec.specs.Spells.{Spells}
use Rattle.pex_values.specs.Plain.{plain}
use Rattle.pex_values.specs.declared.values.Pex.{Pex}
use Rattle.pex_verify.specs.declared.fault.VerifyRule.{VerifyRule}
use Rattle.command_files.specs.declared.ending.Ending.{Ending}
use Rattle.command_files.specs.declared.ending.Ending.TheVariants.{Done, OutOfMemory, Usage, ReadFault, WriteFault, Refused, NotBuilt}
use Rattle.command_files.specs.declared.file_fault.FileFault.{FileFault}
use Rattle.command_files.specs.declared.file_fault.FileFault.TheVariants as file
use Rattle.command_files.specs.declared.pex_file.PexFile.{PexFile}
use Rattle.command_files.specs.declared.refusal.Place.{Place}
use Rattle.command_files.specs.declared.refusal.Place.TheVariants.{Member}
use Rattle.command_files.specs.declared.refusal.Rule.{Rule}
use Rattle.command_files.specs.declared.refusal.Rule.TheVariants.{Verification}
use Rattle.papy_base.specs.Bytes.{bytes_of}
use Rattle.command_files.specs.Ending.{word_at}
use Rattle.command_files.specs.Held.{AreHeld, Hold, IsHeld}
use Rattle.command_files.specs.PexFile.{RefusesPex}
use Rattle.run_commands.specs.Play.{RefusesScene}
use Rattle.run_commands.specs.declared.program.Program.{Program}

-- the name of the scene, and those of the compiled files
abbrev pub scene_of : ℕ → List (List ℕ) → List ℕ
scene_of named words = word_at words (named - 1)

abbrev pub files_from : ℕ → List (List ℕ) → List (List ℕ)
files_from first words = drop (first - 1) words

-- ---- refusals

-- one of the files breaks a rule of compiled files
pub record RefusesValue (first : ℕ) (names : List (List ℕ)) (files : Files) (word : ℕ) (place : Place) (rule : Rule) : Type 0 where
  pub at : ℕ
  pub bytes : List ℕ
  pub within : at < length names
  pub word_is : word ≡ first + at
  pub held : told_bytes (Some files) (word_at names at) ≡ Some bytes
  pub refused : RefusesPex bytes place rule

-- one of so many files breaks a rule of files that run together; the place is told by an object's name, and perhaps by that of a part of it and
-- by the number of an instruction
pub record BreaksTogether (first count word : ℕ) (place : Place) (rule : Rule) : Type 0 where
  pub at : ℕ
  pub object : List ℕ
  pub member : Option (List ℕ)
  pub instruction : Option ℕ
  pub broken : VerifyRule
  pub within : at < count
  pub word_is : word ≡ first + at
  pub place_is : place ≡ Member object member instruction
  pub rule_is : rule ≡ Verification broken

-- one of the files is refused, by itself or among the others, all of which are held
abbrev pub RefusesSet : ℕ → List (List ℕ) → Files → ℕ → Place → Rule → Type 0
RefusesSet first names files word place rule =
    RefusesValue first names files word place rule ⊎ (BreaksTogether first (length names) word place rule × AreHeld names files)

-- the scene is refused, or one of the files
abbrev pub RefusesProgram : ℕ → ℕ → List (List ℕ) → Files → ℕ → Place → Rule → Type 0
RefusesProgram named first words files word place rule = IsHeld (scene_of named words) files
    × (RefusesScene named word place rule ⊎ RefusesSet first (files_from first words) files word place rule)

-- how a command ends early of whose refusals this holds
abbrev pub EndsOn : (ℕ → Place → Rule → Type 0) → Ending → Type 0
EndsOn Refuses (Refused word place rule) = Refuses word place rule
EndsOn Refuses OutOfMemory = Unit {0}
EndsOn Refuses (ReadFault word) = Unit {0}
EndsOn Refuses Done = ⊥
EndsOn Refuses Usage = ⊥
EndsOn Refuses WriteFault = ⊥
EndsOn Refuses NotBuilt = ⊥

-- no file is missed
abbrev pub EndsRead : Ending → Type 0
EndsRead (ReadFault word) = ⊥
EndsRead _ = Unit {0}

-- what reading these files answers early
abbrev pub EndsOnValues : ℕ → List (List ℕ) → Option Files → Ending → Type 0
EndsOnValues first names holds ending = EndsOn (λ word place rule. IfSome holds (λ files. RefusesValue first names files word place rule)) ending

-- what reading and verifying these files answers early
abbrev pub EndsOnSet : ℕ → List (List ℕ) → Option Files → Ending → Type 0
EndsOnSet first names holds ending = EndsOn (λ word place rule. IfSome holds (λ files. RefusesSet first names files word place rule)) ending

-- what verifying so many files answers early
abbrev pub EndsTogether : ℕ → ℕ → Ending → Type 0
EndsTogether first count ending = EndsOn (BreaksTogether first count) ending × EndsRead ending

abbrev pub Verifies : {T : Type 0} → ℕ → ℕ → Result T Ending → Type 0
Verifies first count (Ok _) = Unit {0}
Verifies first count (Err ending) = EndsTogether first count ending

-- what reading a scene and files answers early
abbrev pub EndsOnProgram : ℕ → ℕ → List (List ℕ) → Option Files → Ending → Type 0
EndsOnProgram named first words holds ending = EndsOn (λ word place rule. IfSome holds (λ files. RefusesProgram named first words files word place rule)) ending

-- ---- files that are held

-- the name is held, with these bytes where they were kept
abbrev pub IsKept : Bool → List ℕ → Vec ℕ Global → Files → Type 0
IsKept true name bytes files = told_bytes (Some files) name ≡ Some bytes.items
IsKept false name bytes files = IsHeld name files

-- the name is held, with bytes that spell the value
abbrev pub IsSpelled : List ℕ → Pex → Files → Type 0
IsSpelled name value files = (bytes : List ℕ) × (told_bytes (Some files) name ≡ Some bytes) × Spells (plain value) bytes

-- what reading one file gives
abbrev pub ReadsValue : Bool → Option Files → List ℕ → Result PexFile FileFault → Type 0
ReadsValue keep None name result = Unit {0}
ReadsValue keep (Some files) name (Ok file) = IsKept keep name file.bytes files
ReadsValue keep (Some files) name (Err (file.Refused place rule)) = (bytes : List ℕ) × (told_bytes (Some files) name ≡ Some bytes) × RefusesPex bytes place rule
ReadsValue keep (Some files) name (Err file.ReadFault) = Unit {0}
ReadsValue keep (Some files) name (Err file.OutOfMemory) = Unit {0}

-- each of these names is held, with these bytes where they were kept
abbrev pub AreKept : Bool → List (List ℕ) → List (Vec ℕ Global) → Files → Type 0
AreKept true names kept files = Hold files names (map bytes_of kept)
AreKept false names kept files = AreHeld names files

-- each of these names is held, with bytes that spell the value in its place
abbrev pub AreSpelled : List (List ℕ) → List Pex → Files → Type 0
AreSpelled [] [] files = Unit {0}
AreSpelled [] (value ∷ values) files = ⊥
AreSpelled (name ∷ names) [] files = ⊥
AreSpelled (name ∷ names) (value ∷ values) files = IsSpelled name value files × AreSpelled names values files

-- the scene is held with its text, and each compiled file
pub record IsHeldProgram (named first : ℕ) (keep : Bool) (words : List (List ℕ)) (program : Program) (files : Files) : Type 0 where
  pub scene : told_bytes (Some files) (scene_of named words) ≡ Some program.text.items
  pub values : AreKept keep (files_from first words) program.kept.items files

-- the length of each fits four bytes
abbrev pub AreSmall : List (Vec ℕ Global) → Type 0
AreSmall kept = AllByRecursion (λ bytes. length bytes < 2 ^ 32) (map bytes_of kept)

-- ---- a file that was missed

-- one of these files is the one missed
abbrev pub MissesValue : ℕ → List (List ℕ) → Ending → Option (List ℕ) → Type 0
MissesValue first names (ReadFault word) missed = (at : ℕ) × (word ≡ first + at) × (at < length names) × (missed ≡ Some (word_at names at))
MissesValue first names Done missed = Unit {0}
MissesValue first names OutOfMemory missed = Unit {0}
MissesValue first names Usage missed = Unit {0}
MissesValue first names WriteFault missed = Unit {0}
MissesValue first names (Refused word place rule) missed = Unit {0}
MissesValue first names NotBuilt missed = Unit {0}

-- the word of this number names the scene or a compiled file, and is the one missed
abbrev pub MissesRead : ℕ → ℕ → List (List ℕ) → Ending → Option (List ℕ) → Type 0
MissesRead named first words (ReadFault word) missed =
    (place : ℕ) × (word ≡ suc place) × (place < length words) × ((word ≡ named) ⊎ (first ≤ word)) × (missed ≡ Some (word_at words place))
MissesRead named first words Done missed = Unit {0}
MissesRead named first words OutOfMemory missed = Unit {0}
MissesRead named first words Usage missed = Unit {0}
MissesRead named first words WriteFault missed = Unit {0}
MissesRead named first words (Refused word place rule) missed = Unit {0}
MissesRead named first words NotBuilt missed = Unit {0}
