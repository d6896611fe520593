-- What is promised of the code of a whole function.
use Rattle.std.specs.Prelude.{◌≡◌, List, ◌++◌, length, map, Option, Some, slice_get}
use Rattle.core_tree.specs.declared.core_type.CoreType.{CoreType}
use Rattle.core_tree.specs.declared.script.CoreScript.{CoreScript}
use Rattle.core_tree.specs.declared.script.CoreSet.{CoreSet}
use Rattle.core_tree.specs.Set as trees
use Rattle.run_laws.specs.Fits.{typed}
use Rattle.code_meaning.specs.Code.{Function}
use Rattle.code_meaning.specs.LookUp.{BodyPlace, function_at, script_of}
use Rattle.code_meaning.specs.Operands.{variables_in}
use Rattle.emit_meaning.specs.Codes.{code_of}
use Rattle.emit_meaning.specs.Coded.{Set, IsCoded, routine_of}
use Rattle.code_lower.specs.declared.place.Lowered.{Lowered}
use Rattle.code_lower.specs.Lowered.{FindsEach}
use Rattle.code_lower.specs.Statements.{lines_of}

-- the function with the heading of a tree, and with temporaries behind its locals
abbrev pub function_with : trees.Function → List (Option CoreType) → Lowered → Function
function_with tree temporaries lowered =
    record { name = tree.name; parameters = tree.parameters; locals = typed tree.locals ++ temporaries; result = tree.result; is_global = tree.is_global; is_native = tree.is_native; code = code_of (lines_of lowered); lines = map (λ i. i.1) (lines_of lowered) }

-- a set of these trees, in which the function stands at a place of this script and each Global function is found by its name
pub record Stands (core : CoreSet) (script : CoreScript) (tree : trees.Function) (lowered : Lowered) (function : Function) (set : Set) (place : BodyPlace) : Type 0 where
  pub trees_are : set.trees ≡ trees.scripts_of core
  pub variables : length (variables_in (slice_get set.outline (script_of place))) ≡ length script.variables.items
  pub finds : FindsEach (routine_of set place tree function (lines_of lowered))
  pub there : function_at set.loaded place ≡ Some function

-- the function is coded wherever it stands
pub record IsLowered (core : CoreSet) (script : CoreScript) (tree : trees.Function) (lowered : Lowered) : Type 0 where
  pub temporaries : List (Option CoreType)
  pub kinds : lowered.kinds.items ≡ typed tree.parameters ++ (typed tree.locals ++ temporaries)
  pub coded : (set : Set) (place : BodyPlace) → Stands core script tree lowered (function_with tree temporaries lowered) set place → IsCoded set place tree.name tree (function_with tree temporaries lowered)
