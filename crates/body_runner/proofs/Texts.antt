-- The texts of values that are no arrays.
use Rattle.std.proofs.Common.{◌≡◌, ℕ, List}
use Rattle.core_tree.specs.declared.outline.OutlineScript.{OutlineScript}
use Rattle.core_tree.specs.declared.scene.Scene.{Scene}
use Rattle.core_tree.specs.declared.value.Value.{Value}
use Rattle.core_tree.specs.declared.value.Value.TheVariants as values
use Rattle.body_runner.specs.Casts.{plain_text, IsTextOf}

pub is_text : (scripts : List OutlineScript) (scene : Scene) (value : Value) (text : List ℕ) → text ≡ plain_text scripts scene value → IsTextOf scripts scene value text
is_text scripts scene values.NoneValue text h = h
is_text scripts scene (values.Int number) text h = h
is_text scripts scene (values.Bool truth) text h = h
is_text scripts scene (values.Text held) text h = h
is_text scripts scene (values.Instance instance) text h = h
is_text scripts scene (values.Array array) text h = tt
