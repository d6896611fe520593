-- What the types of a scene rest on, of a set of scripts.
use Rattle.std.specs.Prelude.{◌≡◌, ℕ, ◌<◌, List, [], ◌∷◌, length, map, true, Some, slice_get}
use Rattle.core_tree.specs.declared.outline.OutlineFunction.{OutlineFunction}
use Rattle.core_tree.specs.declared.outline.OutlineProperty.{OutlineProperty}
use Rattle.core_tree.specs.declared.outline.OutlineScript.{OutlineScript}
use Rattle.core_tree.specs.Outlines.{ScriptShape, script_shape}
use Rattle.scene_binder.specs.Members.{HasFunctionNamed, HasProperty}
use Rattle.scene_binder.specs.Natives.{IsFunctionAt}
use Rattle.script_meaning.specs.First.{initial_in}
use Rattle.run_laws.specs.Fits.{HaveTypes, known, typed, variable_kinds}
use Rattle.run_laws.specs.Keeps.{IsVariable}
use Rattle.script_meaning.specs.Values.{lineage}
use Rattle.code_meaning.specs.Code.{Script}
use Rattle.code_meaning.specs.LookUp.{method_in}
use Rattle.run_laws.specs.TypedCode.{MethodMeets}

abbrev pub shapes : List OutlineScript → List ScriptShape
shapes outlines = map script_shape outlines

-- places of native functions in an empty state have 16 bits
abbrev pub NativesHavePlaces : List OutlineScript → Type 0
NativesHavePlaces outlines =
    (script place : ℕ) (function : OutlineFunction) → IsFunctionAt outlines script place function → function.is_native ≡ true → place < 65536

pub record OutlineFits (outlines : List OutlineScript) : Type 0 where
  -- no script is above itself
  pub above : (script : ℕ) (shape : ScriptShape) → slice_get (shapes outlines) script ≡ Some shape → lineage (shapes outlines) (Some script) ≡ script ∷ lineage (shapes outlines) shape.parent
  -- the initial value of a variable is of its type
  pub initial : (script : ℕ) → HaveTypes (known (shapes outlines) [] []) (typed (variable_kinds (slice_get (shapes outlines) script))) (initial_in (slice_get (shapes outlines) script))
  -- the variable of an Auto property has the property's type
  pub properties : (script : ℕ) (property : OutlineProperty) → HasProperty outlines script property → IsVariable (shapes outlines) script property.variable property.kind
  -- numbers of scripts have 16 bits
  pub scripts : length outlines < 65536
  pub functions : NativesHavePlaces outlines

-- a function of an empty state has its parameters and its result in every state
abbrev pub Offers : List OutlineScript → List Script → Type 0
Offers outlines scripts =
    (script : ℕ) (name : List ℕ) (function : OutlineFunction) → HasFunctionNamed outlines script name function → (state : List ℕ) → MethodMeets (shapes outlines) function.is_global function.parameters.items function.result (method_in scripts (lineage (shapes outlines) (Some script)) state name)
