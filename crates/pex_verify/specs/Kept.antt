-- The tables by which files were judged, and what is kept with them.
use Rattle.std.specs.Prelude.{◌≡◌, ℕ, List}
use Rattle.core_tree.specs.declared.outline.OutlineScript.{OutlineScript}
use Rattle.pex_set.specs.declared.objects.Head.{Head}
use Rattle.pex_values.specs.declared.values.Pex.{Pex}
use Rattle.pex_verify.specs.declared.judged.JudgedScript.{JudgedScript}
use Rattle.pex_verify.specs.declared.members.MemberTable.{MemberTable}
use Rattle.pex_verify.specs.NameTables.{names_in}
use Rattle.pex_verify.specs.Naming.{NameScripts}
use Rattle.pex_verify.specs.Sets.{JudgedSet, LoadedSet}
use Rattle.pex_verify.specs.Whole.{IsJudged, IsJudgedSet, IsWholeSet}

-- files that were judged by this table of names and this one of members
pub record IsJudgedBy (files : List Pex) (scripts : List JudgedScript) (outlines : List OutlineScript) (names : List (List ℕ)) (members : MemberTable) : Type 0 where
  pub judged : IsJudged files scripts outlines
  pub names_are : judged.names ≡ names
  pub members_are : judged.table ≡ members

-- judged files are kept with these tables and the objects by name
pub record KeepsJudged (set : JudgedSet) (names : List (List ℕ)) (objects : List Head) (members : MemberTable) : Type 0 where
  pub whole : IsJudgedSet set
  pub scripts : NameScripts names objects set.outline
  pub by_files : names ≡ names_in set.files
  pub names_are : whole.judged.names ≡ names
  pub members_are : whole.judged.table ≡ members

-- and so is a whole set
pub record KeepsTables (set : LoadedSet) (names : List (List ℕ)) (members : MemberTable) : Type 0 where
  pub whole : IsWholeSet set
  pub by_files : names ≡ names_in set.files
  pub names_are : whole.judged.judged.names ≡ names
  pub members_are : whole.judged.judged.table ≡ members
