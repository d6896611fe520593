-- What declares the variables of a script, one after another and in order of line.
use Rattle.std.proofs.Common.{◌≡◌, ◌+◌, ◌<◌, ◌≤◌, ℕ, Bool, true, false, List, [], ◌∷◌, ◌++◌, length, map, take, get_or, refl, sym, ap, ◌∙◌, subst, arith, append_assoc, append-nil, ⊎_elim}
use Rattle.std.specs.Prelude.{if◌then◌else◌}
use Rattle.std.specs.List.Sorted.{IsNonDecreasingBy, IsPermutation}
use Rattle.std.proofs.lemmas.List.{get_or-map, length-map, map-append, take_more}
use Rattle.std.proofs.lemmas.List.Sorted.{IsPermutation-map}
use Rattle.std.proofs.lemmas.Option.{slice_get_cases}
use Rattle.script_parser.specs.declared.script.Property.{Property}
use Rattle.script_parser.specs.declared.script.Script.{Script}
use Rattle.type_scope.specs.Sources.{Declaration, InOrderOfLine, auto_declarations, declaration, declarations, is_auto, of_property, source_line}
use Rattle.type_scope.specs.declared.layout.Source.{Source}

auto-behind : (b : Bool) (p : Property) (some more : List Declaration) → (if b then of_property p ∷ (some ++ more) else some ++ more) ≡ (if b then of_property p ∷ some else some) ++ more
auto-behind true p some more = refl
auto-behind false p some more = refl

auto-append : (ps qs : List Property) → auto_declarations (ps ++ qs) ≡ auto_declarations ps ++ auto_declarations qs
auto-append [] qs = refl
auto-append (p ∷ ps) qs =
    ap (λ (ds : List Declaration). if is_auto p.form then of_property p ∷ ds else ds) (auto-append ps qs)
    ∙ auto-behind (is_auto p.form) p (auto_declarations ps) (auto_declarations qs)

auto-more : (properties : List Property) (n : ℕ) (p : Property) → n < length properties → p ≡ get_or properties n p → auto_declarations (take (n + 1) properties) ≡ auto_declarations (take n properties) ++ auto_declarations (p ∷ [])
auto-more properties n p within is =
    ap auto_declarations (take_more properties n p within)
    ∙ auto-append (take n properties) (get_or properties n p ∷ [])
    ∙ ap (λ (q : Property). auto_declarations (take n properties) ++ auto_declarations (q ∷ [])) (sym is)

one-auto : (b : Bool) (p : Property) → is_auto p.form ≡ b → auto_declarations (p ∷ []) ≡ (if b then of_property p ∷ [] else [])
one-auto b p is = ap (λ (t : Bool). if t then of_property p ∷ [] else []) is

-- an Auto property adds what declares its variable
pub auto-added : (first : List Declaration) (sources all : List Source) (source : Source) (properties : List Property) (n : ℕ) (p : Property) → is_auto p.form ≡ true → declaration source ≡ of_property p → all ≡ sources ++ source ∷ [] →
    map declaration sources ≡ first ++ auto_declarations (take n properties) → n < length properties → p ≡ get_or properties n p → map declaration all ≡ first ++ auto_declarations (take (n + 1) properties)
auto-added first sources all source properties n p auto made pushed so_far within is =
    ap (map declaration) pushed
    ∙ map-append declaration sources (source ∷ [])
    ∙ ap (λ (ds : List Declaration). ds ++ declaration source ∷ []) so_far
    ∙ append_assoc first (auto_declarations (take n properties)) (declaration source ∷ [])
    ∙ ap (λ (d : Declaration). first ++ (auto_declarations (take n properties) ++ d ∷ [])) made
    ∙ ap (λ (ds : List Declaration). first ++ (auto_declarations (take n properties) ++ ds)) (sym (one-auto true p auto))
    ∙ ap (λ (ds : List Declaration). first ++ ds) (sym (auto-more properties n p within is))

-- and another property adds nothing
pub auto-passed : (first : List Declaration) (sources : List Source) (properties : List Property) (n : ℕ) (p : Property) → is_auto p.form ≡ false → map declaration sources ≡ first ++ auto_declarations (take n properties) →
    n < length properties → p ≡ get_or properties n p → map declaration sources ≡ first ++ auto_declarations (take (n + 1) properties)
auto-passed first sources properties n p other so_far within is =
    so_far
    ∙ ap (λ (ds : List Declaration). first ++ ds) (sym (append-nil (auto_declarations (take n properties))))
    ∙ ap (λ (ds : List Declaration). first ++ (auto_declarations (take n properties) ++ ds)) (sym (one-auto false p other))
    ∙ ap (λ (ds : List Declaration). first ++ ds) (sym (auto-more properties n p within is))

rising-map : (xs : List Source) → IsNonDecreasingBy source_line xs → IsNonDecreasingBy (λ (d : Declaration). d.line) (map declaration xs)
rising-map xs rising = λ i j d le within.
    let inside : j < length xs = omega (arith, length-map xs declaration) in
    ⊎_elim
    (λ some.
    let one = get_or-map declaration xs i some.0 d (omega (arith, inside)) in
    let other = get_or-map declaration xs j some.0 d inside in
    let less : source_line (get_or xs i some.0) ≤ source_line (get_or xs j some.0) = rising i j some.0 le inside in
    rw (one, other) less)
    (λ none. absurd (omega (arith, none.0, inside)))
    (slice_get_cases xs j).1

-- sorted by line they are the script's
pub sources-sorted : (script : Script) (found sorted : List Source) → map declaration found ≡ declarations script → IsPermutation found sorted → IsNonDecreasingBy source_line sorted → InOrderOfLine (declarations script) (map declaration sorted)
sources-sorted script found sorted are shuffled rising = record {
  all = subst (λ (ds : List Declaration). IsPermutation ds (map declaration sorted)) are (IsPermutation-map declaration found sorted shuffled);
  rising = rising-map sorted rising;
}
