-- What the files of a set mean.
use Rattle.std.specs.Prelude.{◌≡◌, List, [], ◌∷◌}
use Rattle.std.specs.List.{AllByRecursion}
use Rattle.core_tree.specs.declared.script.CoreScript.{CoreScript}
use Rattle.core_tree.specs.declared.script.CoreSet.{CoreSet}
use Rattle.core_tree.specs.Set as trees
use Rattle.pex_values.specs.Plain.{PlainObject, PlainPex}
use Rattle.code_meaning.specs.Code.{Script}
use Rattle.code_emit.specs.Spelled.{Each, SpellsScript}
use Rattle.code_emit.specs.Strings.{Origin, home_of}
use Rattle.emit_laws.specs.Members.{ScriptFits, ScriptMeans, table_of}
use Rattle.emit_laws.specs.Outlines.{OutlineFits}

abbrev pub origin : CoreSet → CoreScript → Origin
origin set script = record { set = set; script = script }

-- each file is that of the script in its place
abbrev pub FilesSpell : CoreSet → List PlainPex → List CoreScript → Type 0
FilesSpell set files scripts = Each (λ file script. SpellsScript (origin set script) file) files scripts

abbrev pub FileFits : CoreSet → PlainPex → CoreScript → Type 0
FileFits set file script =
    (object : PlainObject) → file.objects ≡ object ∷ [] → ScriptFits (origin set script) (table_of (origin set script) file) object (trees.script_of script)

abbrev pub ScriptsMean : CoreSet → List CoreScript → List Script → Type 0
ScriptsMean set scripts loaded = Each (λ script s. ScriptMeans (origin set script) (trees.script_of script) s) scripts loaded

abbrev pub OutlinesFit : CoreSet → List CoreScript → Type 0
OutlinesFit set scripts = AllByRecursion (λ script. OutlineFits (home_of (origin set script)).scripts (trees.script_of script)) scripts
