-- The texts of values, and what casts give.
use Rattle.std.specs.Prelude.{◌≡◌, ℕ, List, [], ◌∷◌, ◌++◌, Option, Some, None, codes, slice_get, if◌then◌else◌}
use Rattle.std.specs.Fmt.{signed_decimal}
use Rattle.core_tree.specs.Outlines.{name_in}
use Rattle.core_tree.specs.declared.outline.OutlineScript.{OutlineScript}
use Rattle.core_tree.specs.declared.scene.BoundInstance.{BoundInstance}
use Rattle.core_tree.specs.declared.scene.Scene.{Scene}
use Rattle.core_tree.specs.declared.value.Value.{Value}
use Rattle.core_tree.specs.declared.value.Value.TheVariants as values

-- `[Script <name>]`
abbrev pub named : List ℕ → List ℕ → List ℕ
named script name = 91 ∷ script ++ codes " <" ++ name ++ codes ">]"

abbrev pub text_of_bound : List OutlineScript → Option BoundInstance → List ℕ
text_of_bound scripts None = []
text_of_bound scripts (Some bound) = named (name_in (slice_get scripts bound.script)) bound.name

-- the text of a value that is no array
abbrev pub plain_text : List OutlineScript → Scene → Value → List ℕ
plain_text scripts scene values.NoneValue = codes "None"
plain_text scripts scene (values.Int number) = signed_decimal number
plain_text scripts scene (values.Bool truth) = if truth then codes "True" else codes "False"
plain_text scripts scene (values.Text text) = text
plain_text scripts scene (values.Instance instance) =
    text_of_bound scripts (slice_get scene.instances.items instance)
plain_text scripts scene (values.Array array) = codes "None"

-- nothing is told of an array's text here, since its elements stand elsewhere
abbrev pub IsTextOf : List OutlineScript → Scene → Value → List ℕ → Type 0
IsTextOf scripts scene values.NoneValue text = text ≡ codes "None"
IsTextOf scripts scene (values.Int number) text = text ≡ signed_decimal number
IsTextOf scripts scene (values.Bool truth) text = text ≡ (if truth then codes "True" else codes "False")
IsTextOf scripts scene (values.Text held) text = text ≡ held
IsTextOf scripts scene (values.Instance instance) text =
    text ≡ text_of_bound scripts (slice_get scene.instances.items instance)
IsTextOf scripts scene (values.Array array) text = Unit {0}
