-- What texts are that were lifted from files: they are accepted as a set, and what they compile to has the files' code.
use Rattle.std.specs.Prelude.{◌≡◌, ℕ, ◌-◌, ◌≤◌, List, All, length, map, drop, take}
use Rattle.std.specs.List.{AllByRecursion}
use Rattle.script_lexer.specs.declared.line.Lines.{Lines}
use Rattle.script_lexer.specs.Lines.{IsUnbroken, Lexes, logical_lines, text_of}
use Rattle.script_lexer.specs.Spans.{LinesStand}
use Rattle.script_parser.specs.Faults.{IsNumberOf}
use Rattle.script_parser.specs.Lines.{lines_of}
use Rattle.script_parser.specs.Words.{CountsDifferent, words_of}
use Rattle.script_linker.specs.declared.set.SourceFile.{SourceFile}
use Rattle.script_linker.specs.Generated.{AreStandard, HaveGiven, standard_scripts}
use Rattle.script_linker.specs.Link.{AreFilesOf, AreResolved}
use Rattle.script_linker.specs.Lookup.{StartsWithPrelude}
use Rattle.core_tree.specs.declared.script.CoreSet.{CoreSet}
use Rattle.core_tree.specs.InRange.{InRange}
use Rattle.type_rules.specs.Heads.{core_script_head, script_head}
use Rattle.type_rules.specs.Variables.{HaveVariables}
use Rattle.pex_values.specs.declared.values.Pex.{Pex}
use Rattle.pex_values.specs.Plain.{PlainPex, plain}
use Rattle.pex_values.specs.Shape.{IsWellShaped}
use Rattle.pex_alike.specs.SameCode.{SameCode, SameEach}

-- the text keeps the rules of the lexical form, its tokens are spelled by its bytes, and its lines are those of the script
pub record IsRead (text : List ℕ) (file : SourceFile) : Type 0 where
  pub lines : Lines
  pub small : length text ≤ 1048576
  pub unbroken : IsUnbroken (text_of text)
  pub cut : Lexes text (logical_lines lines.lines.items) lines.last
  pub spelled : LinesStand text 0 1 (logical_lines lines.lines.items)
  pub declared : All (IsNumberOf lines.lines.items) (lines_of file.script)
  pub words : CountsDifferent (words_of lines.lines.items) file.script.words

-- these files are linked to this set, in which the prelude stands first
pub record AreLinked (files set : List SourceFile) : Type 0 where
  pub files_are : AreFilesOf files set
  pub given : HaveGiven files (drop 6 set)
  pub prelude : StartsWithPrelude set
  pub standard : AreStandard standard_scripts (take 6 set)
  pub resolved : AreResolved set

-- the set is elaborated to these trees, in which each number names what is there
pub record IsElaborated (set : List SourceFile) (core : CoreSet) : Type 0 where
  pub heads : map core_script_head core.scripts.items ≡ map (script_head set) set
  pub variables : HaveVariables set core.scripts.items
  pub in_range : InRange core

-- these files are accepted as a set with these trees
pub record HasCore (files : List SourceFile) (core : CoreSet) : Type 0 where
  pub set : List SourceFile
  pub linked : AreLinked files set
  pub elaborated : IsElaborated set core

-- the trees behind the prelude's are emitted as these values
pub record IsEmitted (core : CoreSet) (values : List Pex) : Type 0 where
  pub count : length values ≡ length core.scripts.items - 6
  pub shaped : AllByRecursion IsWellShaped (map plain values)

-- the texts are accepted as a set, and compile to these values
pub record CompileTo (texts : List (List ℕ)) (values : List Pex) : Type 0 where
  pub files : List SourceFile
  pub core : CoreSet
  pub read : SameEach IsRead texts files
  pub accepted : HasCore files core
  pub emitted : IsEmitted core values

-- the texts compile to values that have the same code as these files, one by one
pub record AreLifted (files : List PlainPex) (texts : List (List ℕ)) : Type 0 where
  pub values : List Pex
  pub compiled : CompileTo texts values
  pub same : SameEach SameCode files (map plain values)
