use Rattle.std.proofs.Common.{ℕ, sym, ap, ◌∙◌}
use Rattle.pex_verify.specs.Found.{function_found}
use Rattle.pex_verify.proofs.object.varies_alike.Goals as goal

pub returns-then-function-eq0 : goal.returns-then-function-eq0
returns-then-function-eq0 c = λ alike. record {
  signature = c.in-Some.replaced.signature.now;
  found = ap (λ (script : ℕ). function_found c.args.home.now.set.now script c.args.name) (sym c.from-here.ensures) ∙ c.in-Some.ensures.nearest;
  alike = c.is_of.ensures alike;
  plain = c.if-function-eq0.true;
}
