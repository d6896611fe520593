use Rattle.std.proofs.Common.{◌≡◌, ◌∙◌, IfSome, Some, sym, subst}
use Rattle.std.specs.List.{All, AllZip}
use Rattle.scene_reader.specs.Limits.{IsShort, ValueKeeps}
use Rattle.scene_binder.specs.Bound.{AreOfTypes, IsCallableOn}
use Rattle.papy_base.specs.Case.{folded}
use Rattle.scene_binder.specs.Meant.{IsValueMeant}
use Rattle.papy_base.specs.Table.{number_in}
use Rattle.scene_binder.proofs.binder.Known.bind_call.Goals as goal

pub returns-clause-bound : goal.returns-clause-bound
returns-clause-bound c =
    let scripts = c.args.self.scripts.now in
    let instances = c.args.self.instances.now.scripts.items in
    let function = c.in_ok-function.function.now in
    record {
      function = function;
      callable = subst (λ name. IsCallableOn scripts instances c.in-Some.instance name function) (sym c.in_ok-from_bytes.ensures) c.in_ok-function.ensures.callable;
      arguments = subst (λ kinds. AreOfTypes scripts instances kinds c.in_ok-arguments.arguments.items) c.deref.ensures.value c.in_ok-arguments.ensures.typed;
    }

pub returns-clause-limits : goal.returns-clause-limits
returns-clause-limits c = λ h. record {
  turn = h.turn;
  function = subst IsShort (sym (c.in_ok-from_bytes.ensures ∙ c.as_bytes-name.ensures)) h.function;
  arguments = c.in_ok-arguments.ensures.short (subst (All ValueKeeps) (sym c.deref-2.ensures.value) h.arguments);
}

pub returns-clause-meant : goal.returns-clause-meant
returns-clause-meant c = λ instances named.
    let bytes = folded c.args.call.now.instance in
    let found = subst (λ o. IfSome o (λ n. number_in c.args.self.instances.now.names bytes ≡ Some n)) c.in-Some.is c.in_ok-instance.ensures.named in
    record {
      instance = sym (named bytes) ∙ found;
      arguments = subst (λ written. AllZip (IsValueMeant instances) written c.in_ok-arguments.arguments.items) c.deref-2.ensures.value (c.in_ok-arguments.ensures.meant instances named);
    }
