-- What stays the same in a scope while its lines are judged, and what its trees may name.
use Rattle.std.specs.Prelude.{◌≡◌, ◌<◌, length, All, vec_len}
use Rattle.core_tree.specs.InRange.{Bounds, ResultInRange}
use Rattle.type_scope.specs.Types.{signatures}
use Rattle.expression_rules.specs.declared.scope.Scope.{Scope}

-- what expressions may name in a scope
abbrev pub scope_bounds : Scope → Bounds
scope_bounds scope = record {
  functions = signatures scope.catalog.now.set.now;
  variables = vec_len scope.layout.now.sources;
  locals = vec_len scope.locals.kinds;
}

-- the script is one of the set, and so are those that the types of locals name
pub record ScopeInRange (scope : Scope) : Type 0 where
  pub script : scope.script < length (scope_bounds scope).functions
  pub locals : All (ResultInRange (scope_bounds scope).functions) scope.locals.kinds.items

-- only what is noted may change
pub record Keeps (before after : Scope) : Type 0 where
  pub catalog : after.catalog ≡ before.catalog
  pub layout : after.layout ≡ before.layout
  pub script : after.script ≡ before.script
  pub is_global : after.is_global ≡ before.is_global
  pub line : after.line ≡ before.line
  pub locals : after.locals ≡ before.locals
