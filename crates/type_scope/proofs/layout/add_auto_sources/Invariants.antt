-- The Auto properties so far are behind what was there.
use Rattle.std.proofs.Common.{◌≡◌, ◌++◌, map, take}
use Rattle.type_scope.specs.Sources.{auto_declarations, declaration}
use Rattle.type_scope.proofs.layout.add_auto_sources.Given as goal

abbrev pub invariant-loop-place : goal.invariant-loop-place
invariant-loop-place l =
    map declaration l.sources.items ≡ map declaration l.fn.sources.items ++ auto_declarations (take l.place l.properties)
