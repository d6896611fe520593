-- What a body doesn't see stays.
use Rattle.std.proofs.Common.{◌≡◌, ℕ, zero, suc, List, [], ◌∷◌, Option, Some, None, refl, sym, ap, subst, ◌∙◌}
use Rattle.std.specs.Prelude.{slice_set}
use Rattle.core_tree.specs.declared.core_type.CoreType.{CoreType}
use Rattle.core_tree.specs.declared.value.Value.{Value}
use Rattle.instance_store.specs.Instances.{InstanceState, instance_at}
use Rattle.loaded_code.specs.declared.operand.Operand.{Operand}
use Rattle.loaded_code.specs.declared.operand.Operand.TheVariants as operands
use Rattle.body_runner.specs.declared.body.Home.{Home}
use Rattle.body_runner.specs.declared.body.Inner.{Inner}
use Rattle.body_runner.specs.Bodies.{KeepsOthers}
use Rattle.body_runner.specs.Operands.{instances_with, kind_of, KeepsLoans, Stores, StoresTyped}
use Rattle.body_runner.specs.Sights.{instances_after}

same_put : (xs : List InstanceState) (i : ℕ) → xs ≡ slice_set xs i (instance_at xs i)
same_put [] i = refl
same_put (x ∷ xs) zero = refl
same_put (x ∷ xs) (suc i) = ap (λ ys. x ∷ ys) (same_put xs i)

put_again : (xs : List InstanceState) (i : ℕ) (y : InstanceState) → slice_set xs i y ≡ slice_set xs i (instance_at (slice_set xs i y) i)
put_again [] i y = refl
put_again (x ∷ xs) zero y = refl
put_again (x ∷ xs) (suc i) y = ap (λ ys. x ∷ ys) (put_again xs i y)

pub same_after : (xs : List InstanceState) (own : Option ℕ) → xs ≡ instances_after xs own xs
same_after xs None = refl
same_after xs (Some i) = same_put xs i

variable_after : (xs : List InstanceState) (own : Option ℕ) (script n : ℕ) (value : Value) → instances_with xs own script (operands.Variable n) value ≡ instances_after xs own (instances_with xs own script (operands.Variable n) value)
variable_after xs None script n value = refl
variable_after xs (Some i) script n value = put_again xs i _

state_after : (xs : List InstanceState) (own : Option ℕ) (script : ℕ) (value : Value) → instances_with xs own script operands.State value ≡ instances_after xs own (instances_with xs own script operands.State value)
state_after xs None script value = refl
state_after xs (Some i) script value = put_again xs i _

put_after : (xs : List InstanceState) (own : Option ℕ) (script : ℕ) (o : Operand) (value : Value) → instances_with xs own script o value ≡ instances_after xs own (instances_with xs own script o value)
put_after xs own script operands.NoneValue value = same_after xs own
put_after xs own script (operands.Quoted text) value = same_after xs own
put_after xs own script (operands.Int n) value = same_after xs own
put_after xs own script (operands.Bool b) value = same_after xs own
put_after xs own script (operands.Slot n) value = same_after xs own
put_after xs own script (operands.Variable n) value = variable_after xs own script n value
put_after xs own script operands.Instance value = same_after xs own
put_after xs own script operands.State value = state_after xs own script value

pub same_loans : (inner : Inner) → KeepsLoans inner inner
same_loans inner = record { slots = refl; store = refl }

pub loans_twice : (old between new : Inner) → KeepsLoans old between → KeepsLoans between new → KeepsLoans old new
loans_twice old between new a b = record { slots = b.slots ∙ a.slots; store = b.store ∙ a.store }

pub same_kept : (home : Home) (old new : Inner) → new.store.now.instances ≡ old.store.now.instances → KeepsLoans old new → KeepsOthers home old new
same_kept home old new e loans = record {
  others = subst (λ xs. xs ≡ instances_after old.store.now.instances home.instance xs) (sym e) (same_after old.store.now.instances home.instance);
  loans = loans;
}

pub nothing_kept : (home : Home) (inner : Inner) → KeepsOthers home inner inner
nothing_kept home inner = same_kept home inner inner refl (same_loans inner)

typed_kept : (home : Home) (old new : Inner) (kind : Option CoreType) (o : Operand) (value : Value) → StoresTyped home old new kind o value → KeepsOthers home old new
typed_kept home old new None o value s = same_kept home old new s.instances s.loans
typed_kept home old new (Some kind) o value s = record {
  others = subst (λ xs. xs ≡ instances_after old.store.now.instances home.instance xs) (sym s.instances) (put_after old.store.now.instances home.instance home.script o value);
  loans = s.loans;
}

pub stored_kept : (home : Home) (old new : Inner) (o : Operand) (value : Value) → Stores home old new o value → KeepsOthers home old new
stored_kept home old new o value s = typed_kept home old new (kind_of home o) o value s
