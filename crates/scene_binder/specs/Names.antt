-- The names under which things are found, and the first thing of a name in a list.
use Rattle.std.specs.Prelude.{ℕ, List, Option}
use Rattle.std.specs.List.{find}
use Rattle.std.specs.Str.{bytes_eq}
use Rattle.papy_base.specs.Case.{folded}
use Rattle.core_tree.specs.declared.outline.OutlineFunction.{OutlineFunction}
use Rattle.core_tree.specs.declared.outline.OutlineProperty.{OutlineProperty}
use Rattle.core_tree.specs.declared.outline.OutlineScript.{OutlineScript}
use Rattle.core_tree.specs.declared.scene_tree.Binding.{Binding}

abbrev pub script_name : OutlineScript → List ℕ
script_name script = script.name

abbrev pub property_name : OutlineProperty → List ℕ
property_name property = property.name

abbrev pub function_name : OutlineFunction → List ℕ
function_name function = function.name

-- of an entry of `natives`
abbrev pub entry_name : List ℕ × Binding → List ℕ
entry_name entry = entry.0

-- the first thing whose name has these folded bytes
abbrev pub first_of : {X : Type 0} → (X → List ℕ) → List X → List ℕ → Option X
first_of name_of items bytes = find (λ x. bytes_eq bytes (folded (name_of x))) items
