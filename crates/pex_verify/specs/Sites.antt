-- Where the code of a script is judged, and what holds of it in the end.
use Rattle.std.specs.Prelude.{◌≡◌, ℕ, ◌<◌, List, [], Some, map, vec_len, slice_get, slice_index_or, All}
use Rattle.std.specs.List.{AllByRecursion}
use Rattle.core_tree.specs.declared.outline.OutlineVariable.{OutlineVariable}
use Rattle.core_tree.specs.Outlines.{ScriptShape}
use Rattle.pex_set.specs.Names.{empty_name, number_in}
use Rattle.run_laws.specs.Fits.{variable_kinds}
use Rattle.code_meaning.specs.Code.{Script}
use Rattle.run_laws.specs.TypedCode.{IsTyped}
use Rattle.pex_verify.specs.declared.judged.JudgedFunction.{JudgedFunction}
use Rattle.pex_verify.specs.declared.scope.Home.{Home}
use Rattle.pex_verify.specs.declared.scripts.SetHeads.{SetHeads}
use Rattle.pex_verify.specs.Agreement.{Agrees}
use Rattle.pex_verify.specs.JudgedCode.{function_of, instruction_of}
use Rattle.pex_verify.specs.Types.{IsTypeAmong}

-- the tables of a set, and the script of this number with these variables
pub record Site : Type 0 where
  pub set : SetHeads
  pub here : ℕ
  pub variables : List OutlineVariable

abbrev pub site_of : Home → Site
site_of home =
    record { set = home.set.now; here = home.here; variables = home.variables.now.list.items }

-- these names have these numbers in a table of names
abbrev pub AreNumberedIn : List (List ℕ) → List (List ℕ) → List ℕ → Type 0
AreNumberedIn names titles numbers =
    (reference : ℕ) → number_in names (slice_index_or titles reference []) ≡ Some (slice_index_or numbers reference empty_name)

-- scripts that agree with the tables, and in which the script has these variables; and names of which a file's strings have
-- these numbers
pub record FinalAt (site : Site) (numbers : List ℕ) (titles : List (List ℕ)) : Type 0 where
  pub names : List (List ℕ)
  pub outline : List ScriptShape
  pub scripts : List Script
  pub agrees : Agrees site.set names outline scripts
  pub numbered : AreNumberedIn names titles numbers
  pub here : site.here < vec_len site.set.heads
  pub variables : map (λ variable. variable.kind) site.variables ≡ variable_kinds (slice_get outline site.here)
  pub variables_among : All (λ variable. IsTypeAmong (vec_len site.set.heads) variable.kind) site.variables

-- whichever scripts they are, the code of a loaded function is typed
abbrev pub HasTypedCode : Site → List ℕ → List (List ℕ) → JudgedFunction → Type 0
HasTypedCode site numbers titles loaded =
    (final : FinalAt site numbers titles) → AllByRecursion (IsTyped (record { outline = final.outline; scripts = final.scripts; script = site.here; function = function_of final.outline loaded })) (map (instruction_of final.outline) loaded.code.items)
