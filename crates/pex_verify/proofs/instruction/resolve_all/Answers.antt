use Rattle.std.proofs.Common.{◌≡◌, ℕ, ◌<◌, List, length, get_or, vec_len, sym, subst, arith}
use Rattle.std.proofs.lemmas.List.{get_or_default}
use Rattle.pex_values.specs.declared.values.Datum.{Datum}
use Rattle.pex_verify.specs.declared.action.Use.{Use}
use Rattle.pex_verify.specs.declared.judged.JudgedOperand.{JudgedOperand as Operand}
use Rattle.pex_verify.specs.declared.scope.FunctionScope.{FunctionScope}
use Rattle.pex_verify.specs.Found.{IsTold}
use Rattle.pex_verify.specs.Soundness.{IsResolved}
use Rattle.pex_verify.specs.Uses.{use_at}
use Rattle.pex_verify.proofs.Lists.{each_grown}
use Rattle.pex_verify.proofs.instruction.resolve_all.Goals as goal

told_at : (scope : FunctionScope) (usage : Use) (given : List Datum) (place : ℕ) (d e : Datum) (operand : Operand) → place < length given → IsTold scope usage (get_or given place d) operand → IsTold scope usage (get_or given place e) operand
told_at scope usage given place d e operand within told =
    subst (λ (datum : Datum). IsTold scope usage datum operand) (get_or_default given place d e within) told

pub loop-place-preserved : goal.loop-place-preserved
loop-place-preserved c =
    let scope = c.args.scope.now in
    let uses = c.args.uses.now in
    let given = c.args.«data».now in
    let before = c.loop-place.invariant in
    let old = c.loop-place.operands in
    let place = c.loop-place.place in
    let found = c.in_ok-resolve.field-0 in
    let last : length old.items ≡ place = omega (arith, before.0) in
    let within : place < length given = omega (arith, c.loop-place-test.true) in
    let Resolved : ℕ → Operand → Type 0 = λ k operand. IsResolved (vec_len scope.slots.now.list) (vec_len scope.home.now.variables.now.list) (use_at uses k) operand in
    let Told : ℕ → Operand → Type 0 = λ k operand. (e : Datum) → IsTold scope (use_at uses k) (get_or given k e) operand in
    let resolved : Resolved (length old.items) found = subst (λ (k : ℕ). Resolved k found) (sym last) (subst (λ (usage : Use). IsResolved (vec_len scope.slots.now.list) (vec_len scope.home.now.variables.now.list) usage found) c.use_at.ensures c.in_ok-resolve.ensures.resolved) in
    let told : Told (length old.items) found = subst (λ (k : ℕ). Told k found) (sym last) (λ e. subst (λ (usage : Use). IsTold scope usage (get_or given place e) found) c.use_at.ensures (told_at scope c.use_at.result given place _ e found within c.in_ok-resolve.ensures.told)) in
    (omega (arith, before.0, c.push_reserved.ensures.len), (omega (arith, before.1.0, c.push_reserved.ensures.capacity), (each_grown Resolved old.items c.push_reserved.new.self.items found c.push_reserved.ensures.items before.1.1.0 resolved, λ k d e h. each_grown Told old.items c.push_reserved.new.self.items found c.push_reserved.ensures.items (λ i o i_below other. before.1.1.1 i o other i_below) told k d h e)))
