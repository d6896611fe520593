-- The function that a search from a script upward finds.
use Rattle.std.proofs.Common.{◌≡◌, ℕ, ◌<◌, Bool, true, List, length, get_or, refl, sym, ap, ◌∙◌, subst, arith, ⊎_elim}
use Rattle.std.specs.Prelude.{Option, Some, None, option_and_then, option_map, slice_get}
use Rattle.std.specs.List.{position}
use Rattle.std.specs.Str.{bytes_eq}
use Rattle.std.specs.Cmp.Lexicographic.{bytes_decides}
use Rattle.std.proofs.lemmas.List.Quantifiers.{position-Some}
use Rattle.std.proofs.lemmas.Option.{get_or_from_slice_get, slice_get-map, slice_get_cases}
use Rattle.core_tree.specs.InRange.{Signature, function_at}
use Rattle.papy_base.specs.Case.{SameIgnoringCase, folded}
use Rattle.papy_base.specs.Lineage.{Nearest}
use Rattle.script_linker.specs.Lookup.{function_name, own_function, parents_of}
use Rattle.papy_base.specs.Table.{place_of}
use Rattle.script_linker.proofs.LookupLemmas.{Nearest-own}
use Rattle.script_linker.specs.declared.set.SourceFile.{SourceFile}
use Rattle.script_parser.specs.declared.script.Function.{Function}
use Rattle.type_scope.specs.Types.{file_signatures, signature_of, signatures}

module _ (files : List SourceFile) (name : List ℕ) (k place : ℕ) (function : Function) (file : SourceFile) (is : slice_get files k ≡ Some file) (at : slice_get file.script.functions.items place ≡ Some function) where
  pub function-there : function_at (signatures files) (record { script = k; place = place }) ≡ Some (signature_of function.heading)
  function-there =
      ap (option_and_then (λ (own : List Signature). slice_get own place)) (slice_get-map file_signatures files k ∙ ap (option_map file_signatures) is)
      ∙ slice_get-map (λ (f : Function). signature_of f.heading) file.script.functions.items place
      ∙ ap (option_map (λ (f : Function). signature_of f.heading)) at

  pub function-named : own_function files name k ≡ Some place → SameIgnoringCase function.heading.name name
  function-named own =
      let items = file.script.functions.items in
      let p : Function → Bool = λ f. bytes_eq (folded name) (folded (function_name f)) in
      let first : position p items ≡ Some place = sym (ap (option_and_then (λ (f : SourceFile). place_of function_name f.script.functions.items (folded name))) is) ∙ own in
      let passes : p (get_or items place function) ≡ true = (position-Some p items place function first).1 in
      let same : get_or items place function ≡ function = get_or_from_slice_get items place function function at in
      sym ((bytes_decides (folded name) (folded function.heading.name)).0 (sym (ap p same) ∙ passes))

-- the nearest function of a name, read in its script
pub callee-found : (files : List SourceFile) (name : List ℕ) (start k place : ℕ) (function : Function) → Nearest (parents_of files) (own_function files name) start (Some (k, place)) →
    k < length files → ((file : SourceFile) → slice_get (get_or files k file).script.functions.items place ≡ Some function) →
    (function_at (signatures files) (record { script = k; place = place }) ≡ Some (signature_of function.heading)) × SameIgnoringCase function.heading.name name
callee-found files name start k place function nearest inside read =
    ⊎_elim
    (λ some.
    let file : SourceFile = some.0 in
    let at : slice_get file.script.functions.items place ≡ Some function = subst (λ (f : SourceFile). slice_get f.script.functions.items place ≡ Some function) some.3 (read file) in
    (function-there files name k place function file some.2 at, function-named files name k place function file some.2 at (Nearest-own nearest)))
    (λ none. absurd (omega (arith, none.0, inside)))
    (slice_get_cases files k).1
