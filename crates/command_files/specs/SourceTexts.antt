-- What scripts whose texts are in memory give.
use Rattle.std.specs.Prelude.{◌≡◌, ◌⊎◌, ℕ, suc, ◌<◌, List, [], take, length, slice_index_or, All, Result, Ok, Err}
use Rattle.command_files.specs.declared.ending.Ending.{Ending}
use Rattle.command_files.specs.declared.ending.Ending.TheVariants.{Done, OutOfMemory, Usage, ReadFault, WriteFault, Refused, NotBuilt}
use Rattle.command_files.specs.declared.refusal.Place.{Place}
use Rattle.command_files.specs.declared.refusal.Rule.{Rule}
use Rattle.command_files.specs.declared.source_texts.NamedText.{NamedText}
use Rattle.command_files.specs.Scripts.{BeginsLine, IsScriptOf, KeepsForm, RefusesScript, RefusesSet}
use Rattle.script_linker.specs.Generated.{Pairwise}
use Rattle.script_linker.specs.declared.set.SourceFile.{SourceFile}

abbrev pub text_of : NamedText → List ℕ
text_of script = script.text.items

abbrev pub text_at : List (List ℕ) → ℕ → List ℕ
text_at texts place = slice_index_or texts place []

-- the scripts are those of the texts, one by one
abbrev pub AreScriptsOf : List (List ℕ) → List SourceFile → Type 0
AreScriptsOf = Pairwise (λ text source. IsScriptOf text source.script)

-- the texts before this one keep their lexical form, and this one breaks a rule of its own
pub record RefusesText (texts : List (List ℕ)) (word : ℕ) (place : Place) (rule : Rule) : Type 0 where
  pub at : ℕ
  pub word_is : word ≡ suc at
  pub within : at < length texts
  pub earlier : All KeepsForm (take at texts)
  pub refused : RefusesScript (text_at texts at) place rule

-- a logical line of the text of this number begins on this line
abbrev pub BeginsLineAt : List (List ℕ) → ℕ → ℕ → Type 0
BeginsLineAt texts at = BeginsLine (text_at texts at)

-- the scripts of these texts are refused so
abbrev pub RefusesTexts : List (List ℕ) → ℕ → Place → Rule → Type 0
RefusesTexts texts word place rule =
    RefusesText texts word place rule ⊎ (All KeepsForm texts × RefusesSet (length texts) (BeginsLineAt texts) word place rule)

-- how a call ends that doesn't accept the scripts of these texts
abbrev pub EndsOnTexts : List (List ℕ) → Ending → Type 0
EndsOnTexts texts (Refused word place rule) = RefusesTexts texts word place rule
EndsOnTexts texts OutOfMemory = Unit {0}
EndsOnTexts texts (ReadFault word) = ⊥
EndsOnTexts texts Done = ⊥
EndsOnTexts texts Usage = ⊥
EndsOnTexts texts WriteFault = ⊥
EndsOnTexts texts NotBuilt = ⊥

-- the texts keep their lexical form, or the call ends so
abbrev pub AcceptsTexts : {T : Type 0} → List (List ℕ) → Result T Ending → Type 0
AcceptsTexts texts (Ok _) = All KeepsForm texts
AcceptsTexts texts (Err found) = EndsOnTexts texts found
