-- What reading, parsing, linking and elaborating scripts gives.
use Rattle.std.specs.Prelude.{◌≡◌, ◌⊎◌, ℕ, suc, ◌+◌, ◌<◌, ◌≤◌, List, take, length, slice_index_or, Option, None, Some, Result, Ok, Err, IfSome, Contains}
use Rattle.std.specs.List.{All}
use Rattle.papy_io.specs.Files.{Files, told_bytes}
use Rattle.script_lexer.specs.declared.fault.LexRule.{LexRule}
use Rattle.script_lexer.specs.declared.line.Lines.{Lines}
use Rattle.script_lexer.specs.Lines.{IsUnbroken, LexBreak, Lexes, logical_lines, text_of}
use Rattle.script_linker.specs.declared.fault.LinkFault.{LinkFault}
use Rattle.script_linker.specs.declared.fault.LinkFault.TheVariants as link
use Rattle.script_linker.specs.declared.set.SourceFile.{SourceFile}
use Rattle.script_linker.specs.Generated.{Pairwise}
use Rattle.line_parser.specs.declared.fault.LineRule.{LineRule}
use Rattle.script_parser.specs.Faults.{IsFaultOf, IsNumberOf}
use Rattle.script_parser.specs.Lines.{lines_of}
use Rattle.script_parser.specs.declared.script.Script.{Script}
use Rattle.script_parser.specs.declared.fault.ParseFault.TheVariants as parse
use Rattle.type_rules.specs.declared.fault.TypeFault.{TypeFault}
use Rattle.type_rules.specs.declared.fault.TypeFault.TheVariants as typing
use Rattle.command_files.specs.declared.ending.Ending.{Ending}
use Rattle.command_files.specs.declared.ending.Ending.TheVariants as ending
use Rattle.command_files.specs.declared.file_fault.FileFault.{FileFault}
use Rattle.command_files.specs.declared.file_fault.FileFault.TheVariants.{ReadFault, OutOfMemory, Refused}
use Rattle.command_files.specs.declared.refusal.Place.{Place}
use Rattle.command_files.specs.declared.refusal.Place.TheVariants.{Line}
use Rattle.command_files.specs.declared.refusal.Rule.{Rule}
use Rattle.command_files.specs.declared.refusal.Rule.TheVariants.{Pex, Listing, Lexical, Grammar, Link, Typing, Scene, Verification, Held, Journal, Lifting}
use Rattle.command_files.specs.Ending.{CountsReads, word_at}

-- at most 1 MiB, and no rule of a script's lexical form is broken
pub record KeepsForm (text : List ℕ) : Type 0 where
  pub small : length text ≤ 1048576
  pub unbroken : IsUnbroken (text_of text)

-- the name holds such a text
abbrev pub HoldsScript : List ℕ → Files → Type 0
HoldsScript name files = (text : List ℕ) × (told_bytes (Some files) name ≡ Some text) × KeepsForm text

-- each of these names holds one
abbrev pub HoldScripts : List (List ℕ) → Files → Type 0
HoldScripts names files = All (λ name. HoldsScript name files) names

-- a logical line of the text begins on this line
pub record BeginsLine (text : List ℕ) (line : ℕ) : Type 0 where
  pub lines : Lines
  pub cut : Lexes text (logical_lines lines.lines.items) lines.last
  pub number : IsNumberOf lines.lines.items line

-- the text keeps its lexical form, and what the script declares stands on lines of it
pub record IsScriptOf (text : List ℕ) (script : Script) : Type 0 where
  pub form : KeepsForm text
  pub lines : All (BeginsLine text) (lines_of script)

-- the first rule that breaks the text's lexical form, at its line
pub record BreaksForm (text : List ℕ) (place : Place) (rule : LexRule) : Type 0 where
  pub line : ℕ
  pub place_is : place ≡ Line line
  pub broken : LexBreak text line rule

-- the rule of lines and blocks that a text breaks which keeps its lexical form: on a line of it or the one after the last, and where the line is too deep it is so
pub record BreaksLines (text : List ℕ) (place : Place) (rule : LineRule) : Type 0 where
  pub line : ℕ
  pub lines : Lines
  pub place_is : place ≡ Line line
  pub form : KeepsForm text
  pub cut : Lexes text (logical_lines lines.lines.items) lines.last
  pub fault : IsFaultOf lines (parse.Broken line rule)

-- a script of this text is refused so
abbrev pub RefusesScript : List ℕ → Place → Rule → Type 0
RefusesScript text place (Lexical rule) = BreaksForm text place rule
RefusesScript text place (Grammar rule) = BreaksLines text place rule
RefusesScript text place (Link rule) = ⊥
RefusesScript text place (Typing rule) = ⊥
RefusesScript text place (Pex rule) = ⊥
RefusesScript text place (Listing rule) = ⊥
RefusesScript text place (Scene rule) = ⊥
RefusesScript text place (Verification rule) = ⊥
RefusesScript text place (Held rule) = ⊥
RefusesScript text place (Journal rule) = ⊥
RefusesScript text place (Lifting rule) = ⊥

-- lines, or the rule that the text breaks
abbrev pub CutsLines : List ℕ → Result Lines FileFault → Type 0
CutsLines text (Ok lines) = KeepsForm text × Lexes text (logical_lines lines.lines.items) lines.last
CutsLines text (Err (Refused place rule)) = RefusesScript text place rule
CutsLines text (Err OutOfMemory) = Unit {0}
CutsLines text (Err ReadFault) = ⊥

-- the rule that the text breaks
abbrev pub EndsOnText : List ℕ → FileFault → Type 0
EndsOnText text (Refused place rule) = RefusesScript text place rule
EndsOnText text OutOfMemory = Unit {0}
EndsOnText text ReadFault = ⊥

-- a script of the text, or the rule that it breaks
abbrev pub ParsesScript : List ℕ → Result Script FileFault → Type 0
ParsesScript text (Ok script) = IsScriptOf text script
ParsesScript text (Err fault) = EndsOnText text fault

abbrev pub ParsesSource : List ℕ → Result SourceFile FileFault → Type 0
ParsesSource text (Ok source) = IsScriptOf text source.script
ParsesSource text (Err fault) = EndsOnText text fault

-- the name holds a text that breaks the rule
abbrev pub HoldsRefused : List ℕ → Files → Place → Rule → Type 0
HoldsRefused name files place rule = (text : List ℕ) × (told_bytes (Some files) name ≡ Some text) × RefusesScript text place rule

-- the name holds a text of this script
abbrev pub HoldsSource : Files → List ℕ → SourceFile → Type 0
HoldsSource files name source = (text : List ℕ) × (told_bytes (Some files) name ≡ Some text) × IsScriptOf text source.script

-- the names hold texts of these scripts, one by one
abbrev pub HoldSources : Files → List (List ℕ) → List SourceFile → Type 0
HoldSources files = Pairwise (HoldsSource files)

abbrev pub ReadsScript : Option Files → List ℕ → Result SourceFile FileFault → Type 0
ReadsScript None name result = Unit {0}
ReadsScript (Some files) name (Ok source) = HoldsSource files name source
ReadsScript (Some files) name (Err (Refused place rule)) = HoldsRefused name files place rule
ReadsScript (Some files) name (Err ReadFault) = Unit {0}
ReadsScript (Some files) name (Err OutOfMemory) = Unit {0}

-- the scripts before this one keep their lexical form, and this one breaks the rule
pub record RefusesFile (names : List (List ℕ)) (files : Files) (word : ℕ) (place : Place) (rule : Rule) : Type 0 where
  pub at : ℕ
  pub word_is : word ≡ suc at
  pub within : at < length names
  pub earlier : HoldScripts (take at names) files
  pub refused : HoldsRefused (word_at names at) files place rule

-- on this line of a script a rule of sets is broken: one of linking on a line of what the script declares, one of types and names on any
abbrev pub BreaksSet : (IsLine : ℕ → Type 0) → ℕ → Rule → Type 0
BreaksSet IsLine line (Link rule) = IsLine line
BreaksSet IsLine line (Typing rule) = Unit {0}
BreaksSet IsLine line (Lexical rule) = ⊥
BreaksSet IsLine line (Grammar rule) = ⊥
BreaksSet IsLine line (Pex rule) = ⊥
BreaksSet IsLine line (Listing rule) = ⊥
BreaksSet IsLine line (Scene rule) = ⊥
BreaksSet IsLine line (Verification rule) = ⊥
BreaksSet IsLine line (Held rule) = ⊥
BreaksSet IsLine line (Journal rule) = ⊥
BreaksSet IsLine line (Lifting rule) = ⊥

-- one of so many scripts breaks a rule of sets, and the lines of what the script of a number declares are such ones
pub record RefusesSet (count : ℕ) (IsLineIn : ℕ → ℕ → Type 0) (word : ℕ) (place : Place) (rule : Rule) : Type 0 where
  pub at : ℕ
  pub line : ℕ
  pub word_is : word ≡ suc at
  pub within : at < count
  pub place_is : place ≡ Line line
  pub broken : BreaksSet (IsLineIn at) line rule

-- a logical line of the text that the name holds begins on this line
abbrev pub HoldsLine : Files → List ℕ → ℕ → Type 0
HoldsLine files name line = (text : List ℕ) × (told_bytes (Some files) name ≡ Some text) × BeginsLine text line

-- the same of the name of this number
abbrev pub HoldsLineAt : List (List ℕ) → Files → ℕ → ℕ → Type 0
HoldsLineAt names files at = HoldsLine files (word_at names at)

-- the scripts of these names are refused so
abbrev pub RefusesScripts : List (List ℕ) → Files → ℕ → Place → Rule → Type 0
RefusesScripts names files word place rule =
    RefusesFile names files word place rule ⊎ (HoldScripts names files × RefusesSet (length names) (HoldsLineAt names files) word place rule)

-- how a command ends whose scripts' set is refused, whose words stand behind the command's name
abbrev pub link_ending : LinkFault → Ending
link_ending (link.Broken file line rule) = ending.Refused (file + 1) (Line line) (Link rule)
link_ending link.OutOfMemory = ending.OutOfMemory

-- the same where the types and names in the set are refused
abbrev pub type_ending : TypeFault → Ending
type_ending (typing.Broken file line rule) = ending.Refused (file + 1) (Line line) (Typing rule)
type_ending typing.OutOfMemory = ending.OutOfMemory

-- the script of this number declares something on this line
abbrev pub DeclaresOn : List SourceFile → ℕ → ℕ → Type 0
DeclaresOn sources at line = (source : SourceFile) → Contains (lines_of (slice_index_or sources at source).script) line

-- how a command ends whose scripts aren't accepted as a set
abbrev pub EndsOnSet : List SourceFile → Ending → Type 0
EndsOnSet sources (ending.Refused word place rule) = RefusesSet (length sources) (DeclaresOn sources) word place rule
EndsOnSet sources ending.OutOfMemory = Unit {0}
EndsOnSet sources (ending.ReadFault word) = ⊥
EndsOnSet sources ending.Done = ⊥
EndsOnSet sources ending.Usage = ⊥
EndsOnSet sources ending.WriteFault = ⊥
EndsOnSet sources ending.NotBuilt = ⊥

-- how a command ends whose scripts aren't accepted
abbrev pub EndsOnScripts : List (List ℕ) → Option Files → Ending → Type 0
EndsOnScripts names holds (ending.Refused word place rule) = IfSome holds (λ files. RefusesScripts names files word place rule)
EndsOnScripts names holds (ending.ReadFault word) = Unit {0}
EndsOnScripts names holds ending.OutOfMemory = Unit {0}
EndsOnScripts names holds ending.Done = ⊥
EndsOnScripts names holds ending.Usage = ⊥
EndsOnScripts names holds ending.WriteFault = ⊥
EndsOnScripts names holds ending.NotBuilt = ⊥

-- the scripts of these names are held and keep their lexical form, or the command ends so
abbrev pub Accepts : {T : Type 0} → List (List ℕ) → Option Files → Result T Ending → Type 0
Accepts names holds (Ok _) = IfSome holds (HoldScripts names)
Accepts names holds (Err found) = EndsOnScripts names holds found

-- the count of failed reads rises where a script was not read, and nowhere else
abbrev pub CountsScripts : {T : Type 0} → Result T Ending → ℕ → ℕ → Type 0
CountsScripts (Ok _) before now = now ≡ before
CountsScripts (Err found) before now = CountsReads found before now
