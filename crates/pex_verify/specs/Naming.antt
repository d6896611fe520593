-- Scripts by name.
use Rattle.std.specs.Prelude.{◌≡◌, ℕ, ◌<◌, List, length, map}
use Rattle.std.specs.Option.{option_and_then}
use Rattle.core_tree.specs.declared.outline.OutlineScript.{OutlineScript}
use Rattle.core_tree.specs.Outlines.{script_shape}
use Rattle.pex_set.specs.Names.{number_in}
use Rattle.pex_set.specs.Objects.{first_named}
use Rattle.pex_set.specs.declared.objects.Head.{Head}
use Rattle.pex_verify.specs.JudgedCode.{script_named, script_or}

-- the first script of a name is the first object of the name's number
pub record NameScripts (names : List (List ℕ)) (objects : List Head) (outlines : List OutlineScript) : Type 0 where
  pub each : (name : List ℕ) → script_or (option_and_then (first_named objects) (number_in names name)) (length outlines) ≡ script_named (map script_shape outlines) name
  pub few : length outlines < 65536
