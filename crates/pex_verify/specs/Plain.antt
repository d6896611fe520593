-- What the scripts of a set that was verified mean.
use Rattle.std.specs.Prelude.{List, map}
use Rattle.code_meaning.specs.Code.{Script}
use Rattle.core_tree.specs.Outlines.{ScriptShape, script_shape}
use Rattle.loaded_code.specs.Plain.{script_of}
use Rattle.pex_verify.specs.Sets.{LoadedSet}

abbrev pub outline_of : LoadedSet → List ScriptShape
outline_of set = map script_shape set.outline

-- the scripts of a set, by number
abbrev pub scripts_of : LoadedSet → List Script
scripts_of set = map script_of set.scripts
