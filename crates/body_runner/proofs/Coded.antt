-- The code of what is found in a set.
use Rattle.std.proofs.Common.{◌≡◌, ℕ, ◌<◌, List, [], ◌∷◌, length, Option, Some, None, All, get_or, sym, subst, arith}
use Rattle.std.specs.Prelude.{IfSome}
use Rattle.std.specs.Option.{MatchOption}
use Rattle.std.specs.declared.alloc.Global.{Global}
use Rattle.std.specs.declared.vec.Vec.{Vec}
use Rattle.loaded_code.specs.declared.script.LoadedFunction.{LoadedFunction}
use Rattle.loaded_code.specs.declared.script.LoadedProperty.{LoadedProperty}
use Rattle.loaded_code.specs.declared.script.LoadedScript.{LoadedScript}
use Rattle.pex_verify.specs.Coded.{IsCodedFunction, IsCodedProperty, IsCodedScript}
use Rattle.pex_verify.specs.Soundness.{Bounds}
use Rattle.body_runner.specs.Settings.{AreCodedAccessors}

-- what holds of all items holds of one that was found
pub each_found : {R X : Type 0} (now : R → X) (P : X → Type 0) (xs : List X) (k : ℕ) (Past : Type 0) (Here : R → Type 0) (r : Option R) → IfSome r (λ x. now x ≡ get_or xs k (now x)) → MatchOption r Past (λ x. (k < length xs) × Here x) → All P xs → IfSome r (λ x. P (now x))
each_found now P xs k Past Here None a m all = tt
each_found now P xs k Past Here (Some x) a m all = subst P (sym a) (all k (now x) m.0)

-- some item of a list that has one
pub an_item : {X : Type 0} (xs : List X) (n : ℕ) → n < length xs → X
an_item [] n h = absurd (omega (arith, h))
an_item (x ∷ xs) n h = x

pub coded_functions : (bounds : Bounds) (script : LoadedScript) (k : ℕ) (states : List (List ℕ × Vec LoadedFunction Global)) (state : List ℕ × Vec LoadedFunction Global) (functions : List LoadedFunction) → IsCodedScript bounds script → states ≡ script.states.items → k < length states → state ≡ get_or states k state → functions ≡ state.1.items → All (IsCodedFunction bounds.scripts) functions
coded_functions bounds script k states state functions coded same within is e =
    let all = subst (λ xs. All (λ x. All (IsCodedFunction bounds.scripts) x.1.items) xs) (sym same) coded.states in
    subst (λ xs. All (IsCodedFunction bounds.scripts) xs) (sym e) (subst (λ x. All (IsCodedFunction bounds.scripts) x.1.items) (sym is) (all k state within))

accessors : (bounds : Bounds) (property : LoadedProperty) → IsCodedProperty bounds property → AreCodedAccessors bounds.scripts property
accessors bounds property found = record { read = found.read; write = found.write }

pub coded_properties : (bounds : Bounds) (script : LoadedScript) (properties : List LoadedProperty) → IsCodedScript bounds script → properties ≡ script.properties.items → All (AreCodedAccessors bounds.scripts) properties
coded_properties bounds script properties coded e = λ k d h.
    let all = subst (λ xs. All (IsCodedProperty bounds) xs) (sym e) coded.properties in
    accessors bounds (get_or properties k d) (all k d h)
