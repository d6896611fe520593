-- Which values convert to which types.
use Rattle.std.specs.Prelude.{Bool, true, false}
use Rattle.core_tree.specs.declared.core_type.CoreType.TheVariants as types
use Rattle.type_scope.specs.declared.catalog.Kind.{Kind}
use Rattle.type_scope.specs.declared.catalog.Kind.TheVariants as kinds

-- the values that convert to a text by themselves
abbrev pub prints : Kind → Bool
prints kinds.NoneLiteral = true
prints (kinds.Of types.Int) = true
prints (kinds.Of types.Bool) = true
prints (kinds.Of types.Text) = true
prints (kinds.Of (types.Script script)) = true
prints _ = false
