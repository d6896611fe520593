use Rattle.std.proofs.Common.{◌≡◌, ◌++◌, List, map, ap, ◌∙◌, rules}
use Rattle.std.proofs.lemmas.List.Sorted.{IsNonDecreasingBy-from_sort_by_key}
use Rattle.script_parser.specs.declared.script.Property.{Property}
use Rattle.script_parser.specs.declared.script.Variable.{Variable}
use Rattle.type_scope.proofs.SourceLemmas.{sources-sorted}
use Rattle.type_scope.specs.Sources.{Declaration, auto_declarations, declaration, declarations, of_variable, source_line}
use Rattle.type_scope.proofs.layout.sources_of.Goals as goal

pub returns : goal.returns
returns c =
    let script = c.args.script.now in
    let found = c.add_auto_sources.new.sources.items in
    let are : map declaration found ≡ declarations script =
    c.in_ok-add_auto_sources.ensures
    ∙ ap (λ (ds : List Declaration). ds ++ auto_declarations c.as_slice-2.result.now) c.in_ok-sources.ensures
    ∙ ap (λ (vs : List Variable). map of_variable vs ++ auto_declarations c.as_slice-2.result.now) c.as_slice.ensures.value
    ∙ ap (λ (ps : List Property). map of_variable script.variables.items ++ auto_declarations ps) c.as_slice-2.ensures.value
    in
    let rising = IsNonDecreasingBy-from_sort_by_key source_line c.sort_by_key.new.self.items c.in_ok-sort_by_key.ensures.sorted (λ a r q k. search rules) in
    sources-sorted script found c.sort_by_key.new.self.items are c.in_ok-sort_by_key.ensures.permutation rising
