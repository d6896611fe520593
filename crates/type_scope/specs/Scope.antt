-- What the numbers of types may name in a set of scripts, and what is known of a function that is found.
use Rattle.std.specs.Prelude.{◌≡◌, ℕ, List, Some}
use Rattle.core_tree.specs.InRange.{Signatures, TypeInRange, function_at}
use Rattle.papy_base.specs.Case.{SameIgnoringCase}
use Rattle.script_linker.specs.declared.set.SourceFile.{SourceFile}
use Rattle.type_scope.specs.Types.{signature_of, signatures}
use Rattle.type_scope.specs.declared.catalog.Callee.{Callee}
use Rattle.type_scope.specs.declared.catalog.Kind.{Kind}
use Rattle.type_scope.specs.declared.catalog.Kind.TheVariants.{Of}

-- a type that is known is one of the set
abbrev pub KindInRange : Signatures → Kind → Type 0
KindInRange functions (Of kind) = TypeInRange functions kind
KindInRange functions _ = Unit {0}

-- the function of the set that stands at the callee's place has the callee's heading, and this name
pub record IsCallee (set : List SourceFile) (name : List ℕ) (callee : Callee) : Type 0 where
  pub there : function_at (signatures set) callee.at ≡ Some (signature_of callee.heading.now)
  pub named : SameIgnoringCase callee.heading.now.name name
