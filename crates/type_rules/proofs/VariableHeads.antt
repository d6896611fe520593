-- The heads of variables by what declares them.
use Rattle.std.proofs.Common.{◌≡◌, List, map}
use Rattle.std.proofs.lemmas.Simd.{map-map}
use Rattle.script_linker.specs.declared.set.SourceFile.{SourceFile}
use Rattle.type_scope.specs.Sources.{declaration}
use Rattle.type_scope.specs.declared.layout.Source.{Source}
use Rattle.type_rules.specs.Variables.{VariableHead, variable_head}

abbrev pub source_head : List SourceFile → Source → VariableHead
source_head set source = variable_head set (declaration source)

pub heads-declared : (set : List SourceFile) (sources : List Source) → map (variable_head set) (map declaration sources) ≡ map (source_head set) sources
heads-declared set sources = map-map (variable_head set) declaration sources
