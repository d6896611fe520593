-- Types that are known, and those that stand for others.
use Rattle.std.proofs.Common.{◌≡◌, List, map}
use Rattle.std.specs.Prelude.{Option, Some, None}
use Rattle.std.specs.List.{All}
use Rattle.std.proofs.lemmas.List.Elements.{All-map, All-same, All-weaker}
use Rattle.core_tree.specs.declared.core_type.CoreType.{CoreType}
use Rattle.core_tree.specs.InRange.{ResultInRange, Signatures, TypeInRange}
use Rattle.type_rules.specs.declared.statements.Promise.{Promise}
use Rattle.type_rules.specs.declared.statements.Promise.TheVariants.{Nothing, Value}
use Rattle.type_rules.specs.Ranges.{PromiseInRange, known, promised}

pub known-in_range : (functions : Signatures) (kind : Option CoreType) → ResultInRange functions kind → TypeInRange functions (known kind)
known-in_range functions None r = tt
known-in_range functions (Some kind) r = r

pub promised-in_range : (functions : Signatures) (p : Promise) → PromiseInRange functions p → ResultInRange functions (promised p)
promised-in_range functions Nothing r = tt
promised-in_range functions (Value kind) r = known-in_range functions kind r

pub types-in_range : (functions : Signatures) (kinds : List (Option CoreType)) (types : List CoreType) → types ≡ map known kinds → All (ResultInRange functions) kinds → All (TypeInRange functions) types
types-in_range functions kinds types is all =
    All-same (TypeInRange functions) types (map known kinds) is
    (All-map (TypeInRange functions) known kinds (All-weaker (ResultInRange functions) (λ (kind : Option CoreType). TypeInRange functions (known kind)) (known-in_range functions) kinds all))
