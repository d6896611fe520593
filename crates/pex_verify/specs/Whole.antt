-- What a whole set is, and was judged by.
use Rattle.std.specs.Prelude.{◌≡◌, ℕ, List, [], ◌∷◌, length, map, Some, All}
use Rattle.core_tree.specs.declared.outline.OutlineScript.{OutlineScript}
use Rattle.pex_set.specs.Names.{empty_name, number_in}
use Rattle.pex_meaning.specs.Prelude as meant
use Rattle.pex_values.specs.declared.values.Pex.{Pex}
use Rattle.pex_values.specs.Plain.{plain, plain_named}
use Rattle.pex_verify.specs.declared.judged.JudgedScript.{JudgedScript}
use Rattle.pex_verify.specs.declared.members.MemberTable.{MemberTable}
use Rattle.pex_verify.specs.declared.sources.DefaultMembers.{DefaultMembers}
use Rattle.pex_verify.specs.declared.sources.SetFile.{SetFile}
use Rattle.pex_verify.specs.Coded.{AreCodedScripts}
use Rattle.pex_verify.specs.JudgedCode.{script_of}
use Rattle.pex_verify.specs.Loading.{IsLoadedSet}
use Rattle.pex_verify.specs.Plain.{outline_of, scripts_of}
use Rattle.pex_verify.specs.Sets.{JudgedSet, LoadedSet, IsSoundSet}
use Rattle.pex_verify.specs.Sources.{HaveParts, IsNamed}
use Rattle.pex_verify.specs.TypesMeant.{AreTypes}

-- what stands before the files is the prelude of the meaning of files, with the members that each script without parent has
pub record IsPrelude (members : DefaultMembers) (first : Pex) : Type 0 where
  pub file : plain first ≡ meant.prelude
  pub list : map plain_named members.list.now ≡ meant.members
  pub source : members.source.now.pex.now ≡ first

-- what is loaded for the objects of these files, with the types that the names of this table mean
pub record IsSetByNames (names : List (List ℕ)) (members : DefaultMembers) (sources : List SetFile) (scripts : List JudgedScript) (outlines : List OutlineScript) (table : MemberTable) : Type 0 where
  pub loaded : IsLoadedSet members sources scripts outlines table
  pub types : AreTypes names loaded.set.objects loaded.set.types

-- the files, with the numbers of their strings in one table of names, and what is loaded for their objects
pub record IsJudged (files : List Pex) (scripts : List JudgedScript) (outlines : List OutlineScript) : Type 0 where
  pub names : List (List ℕ)
  pub members : DefaultMembers
  pub sources : List SetFile
  pub table : MemberTable
  pub prelude : Pex
  pub is_prelude : IsPrelude members prelude
  pub files_are : map (λ source. source.pex.now) sources ≡ prelude ∷ files
  pub empty : number_in names [] ≡ Some empty_name
  pub named : All (IsNamed names) sources
  pub members_named : IsNamed names members.source.now
  pub parts : All (λ source. HaveParts source.pex.now) sources
  pub loaded : IsLoadedSet members sources scripts outlines table
  pub types : AreTypes names loaded.set.objects loaded.set.types

-- a set before its code is made loaded code
pub record IsJudgedSet (set : JudgedSet) : Type 0 where
  pub sound : IsSoundSet set
  pub judged : IsJudged set.files set.scripts set.outline

-- a set that `verify` gives: what was judged, with loaded code that means the same
pub record IsWholeSet (set : LoadedSet) : Type 0 where
  pub scripts : List JudgedScript
  pub judged : IsJudgedSet (record { outline = set.outline; files = set.files; scripts = scripts })
  pub count : length scripts ≡ length set.scripts
  pub means : map (script_of (outline_of set)) scripts ≡ scripts_of set
  pub coded : AreCodedScripts set.outline set.scripts
