-- What trees may name in a scope that grows.
use Rattle.std.proofs.Common.{◌≡◌, ◌<◌, ◌+◌, ℕ, [], ◌∷◌, ◌++◌, length, min, arith, sym, ap, ◌∙◌, subst, vec_len, length-append}
use Rattle.std.specs.Prelude.{Option}
use Rattle.std.proofs.lemmas.List.Elements.{All-nil, All-push}
use Rattle.core_tree.specs.declared.core_type.CoreType.{CoreType}
use Rattle.core_tree.proofs.Ranges.{with_locals, expression-more_locals, block-more_locals, branches-more_locals}
use Rattle.core_tree.specs.InRange.{Bounds, BlockInRange, BranchesInRange, ExpressionInRange, ResultInRange}
use Rattle.core_tree.specs.Tree.{Block, Branches, Expression}
use Rattle.expression_rules.specs.declared.scope.Scope.{Scope}
use Rattle.expression_rules.specs.Scopes.{Keeps, ScopeInRange, scope_bounds}
use Rattle.type_rules.specs.declared.statements.Promise.{Promise}
use Rattle.type_rules.specs.declared.work.ScriptRules.{ScriptRules}
use Rattle.type_rules.specs.Ranges.{Grows, PromiseInRange, WorkInRange}

-- ---- nothing changes but what is noted

pub keeps-bounds : (a b : Scope) → Keeps a b → scope_bounds b ≡ scope_bounds a
keeps-bounds a b k = cc

pub keeps-in_range : (a b : Scope) → Keeps a b → ScopeInRange a → ScopeInRange b
keeps-in_range a b k r = record {
  script = rw (k.script, k.catalog) r.script;
  locals = rw (k.catalog, k.locals) r.locals;
}

pub keeps-grows : (a b : Scope) → Keeps a b → Grows a b
keeps-grows a b k = record {
  catalog = k.catalog;
  layout = k.layout;
  script = k.script;
  locals = rw k.locals (omega arith);
  in_range = keeps-in_range a b k;
}

-- ---- locals are added

pub grows-further : (a b c : Scope) → Grows a b → Grows b c → Grows a c
grows-further a b c first second = record {
  catalog = cc;
  layout = cc;
  script = cc;
  locals = omega (arith, first.locals, second.locals);
  in_range = λ r. second.in_range (first.in_range r);
}

pub grows-bounds : (a b : Scope) → Grows a b → scope_bounds b ≡ with_locals (scope_bounds a) (vec_len b.locals.kinds)
grows-bounds a b g = cc (g.catalog, g.layout)

pub grown-expression : (a b : Scope) → Grows a b → (e : Expression) → ExpressionInRange (scope_bounds a) e → ExpressionInRange (scope_bounds b) e
grown-expression a b g e r =
    subst (λ (bounds : Bounds). ExpressionInRange bounds e) (sym (grows-bounds a b g)) (expression-more_locals (scope_bounds a) (vec_len b.locals.kinds) g.locals e r)

pub grown-block : (a b : Scope) → Grows a b → (s : Block) → BlockInRange (scope_bounds a) s → BlockInRange (scope_bounds b) s
grown-block a b g s r =
    subst (λ (bounds : Bounds). BlockInRange bounds s) (sym (grows-bounds a b g)) (block-more_locals (scope_bounds a) (vec_len b.locals.kinds) g.locals s r)

pub grown-branches : (a b : Scope) → Grows a b → (s : Branches) → BranchesInRange (scope_bounds a) s → BranchesInRange (scope_bounds b) s
grown-branches a b g s r =
    subst (λ (bounds : Bounds). BranchesInRange bounds s) (sym (grows-bounds a b g)) (branches-more_locals (scope_bounds a) (vec_len b.locals.kinds) g.locals s r)

pub grown-promise : (a b : Scope) → Grows a b → (p : Promise) → PromiseInRange (scope_bounds a).functions p → PromiseInRange (scope_bounds b).functions p
grown-promise a b g p r = rw g.catalog r

-- ---- the same of a scope in which only notes change

pub kept-promise : (a b : Scope) → Keeps a b → (p : Promise) → PromiseInRange (scope_bounds a).functions p → PromiseInRange (scope_bounds b).functions p
kept-promise a b k p r = grown-promise a b (keeps-grows a b k) p r

pub kept-expression : (a b : Scope) → Keeps a b → (e : Expression) → ExpressionInRange (scope_bounds a) e → ExpressionInRange (scope_bounds b) e
kept-expression a b k e r = grown-expression a b (keeps-grows a b k) e r

pub kept-back : (a b : Scope) → Keeps a b → (e : Expression) → ExpressionInRange (scope_bounds b) e → ExpressionInRange (scope_bounds a) e
kept-back a b k e r = subst (λ (bounds : Bounds). ExpressionInRange bounds e) (keeps-bounds a b k) r

-- ---- another line, and one more local

pub at_line : (s : Scope) (n : ℕ) → ScopeInRange s → ScopeInRange (record s { line = n })
at_line s n r = record { script = r.script; locals = r.locals }

pub from_line : (s : Scope) (n : ℕ) (b : Scope) → Grows (record s { line = n }) b → Grows s b
from_line s n b g = record { catalog = g.catalog; layout = g.layout; script = g.script; locals = g.locals; in_range = λ r. g.in_range (at_line s n r) }

-- one more local
pub added-below : (a b : Scope) (kind : Option CoreType) (number : ℕ) → b.locals.kinds.items ≡ a.locals.kinds.items ++ kind ∷ [] → number ≡ min (vec_len a.locals.kinds) 65535 → number < vec_len b.locals.kinds
added-below a b kind number added is =
    let longer : length b.locals.kinds.items ≡ length a.locals.kinds.items + 1 = ap length added ∙ length-append a.locals.kinds.items (kind ∷ []) in
    omega (arith, a.locals.kinds.ok.0, b.locals.kinds.ok.0, longer)

pub added-in_range : (a b : Scope) (kind : Option CoreType) → b.catalog ≡ a.catalog → b.script ≡ a.script → b.locals.kinds.items ≡ a.locals.kinds.items ++ kind ∷ [] →
    ResultInRange (scope_bounds a).functions kind → ScopeInRange a → ScopeInRange b
added-in_range a b kind catalog script added k r = record {
  script = rw (script, catalog) r.script;
  locals = rw (catalog, added) (All-push (ResultInRange (scope_bounds a).functions) a.locals.kinds.items kind r.locals k);
}

-- ---- a scope of a function of which nothing is judged yet

pub opened-in_range : (work : ScriptRules) (s : Scope) → s.catalog ≡ work.catalog → s.script ≡ work.number → s.locals.kinds.items ≡ [] → WorkInRange work → ScopeInRange s
opened-in_range work s catalog script none r = record {
  script = rw (script, catalog) r;
  locals = rw none (All-nil (ResultInRange (scope_bounds s).functions));
}
