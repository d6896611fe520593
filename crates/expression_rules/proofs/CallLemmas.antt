-- Arguments that are in range, as operands of a call.
use Rattle.std.proofs.Common.{◌≡◌, ℕ, suc, List, [], ◌∷◌, length, map, refl, sym, ap, subst, ◌∙◌, arith}
use Rattle.std.specs.List.{All}
use Rattle.std.specs.Prelude.{Option}
use Rattle.core_tree.specs.declared.core_type.CoreType.{CoreType}
use Rattle.core_tree.specs.declared.expression.Core.{Core}
use Rattle.core_tree.specs.InRange.{Bounds, NameTakes, PlaceTakes, PlacesInRange, ResultInRange, ExpressionsInRange, count_of}
use Rattle.core_tree.specs.Tree.{expression_of, expressions}
use Rattle.script_linker.specs.declared.set.SourceFile.{SourceFile}
use Rattle.type_scope.specs.declared.catalog.Callee.{Callee}
use Rattle.type_scope.specs.Scope.{IsCallee}
use Rattle.type_scope.specs.Types.{signature_of, signatures}
use Rattle.expression_rules.specs.Ranges.{CoreInRange, CompleteInRange, heading_count}
use Rattle.expression_rules.specs.declared.calls.Arguments.{Arguments}

expressions-all : (b : Bounds) (cores : List Core) → All (CoreInRange b) cores → ExpressionsInRange b (expressions (map expression_of cores))
expressions-all b [] all = tt
expressions-all b (core ∷ cores) all =
    (all 0 core (omega arith), expressions-all b cores (λ k d below. all (suc k) d (omega arith)))

count_of-expressions : (cores : List Core) → count_of (expressions (map expression_of cores)) ≡ length cores
count_of-expressions [] = refl
count_of-expressions (core ∷ cores) = ap suc (count_of-expressions cores)

-- what takes so many operands takes arguments for each parameter
pub operands-passed : (b : Bounds) (count : ℕ) (Takes : ℕ → Type 0) (found : Arguments) (result : Option CoreType) → Takes count → CompleteInRange b count found → ResultInRange b.functions result →
    (Takes (count_of (expressions (map expression_of found.cores.items))) × PlacesInRange found.places.items (count_of (expressions (map expression_of found.cores.items))) × ResultInRange b.functions result)
    × ExpressionsInRange b (expressions (map expression_of found.cores.items))
operands-passed b count Takes found result takes h known =
    let same : count ≡ count_of (expressions (map expression_of found.cores.items)) = sym (count_of-expressions found.cores.items ∙ h.counted) in
    ((subst Takes same takes, subst (PlacesInRange found.places.items) same h.places, known), expressions-all b found.cores.items h.cores)

-- the function at its place, and by its name
pub callee-at : (set : List SourceFile) (name : List ℕ) (callee : Callee) → IsCallee set name callee → PlaceTakes (signatures set) callee.at (heading_count callee.heading.now)
callee-at set name callee is = (signature_of callee.heading.now, is.there, refl)

pub callee-named : (set : List SourceFile) (name : List ℕ) (callee : Callee) → IsCallee set name callee → NameTakes (signatures set) name (heading_count callee.heading.now)
callee-named set name callee is = (callee.at, signature_of callee.heading.now, is.there, is.named, refl)
