-- What each instruction does, in the terms of the definitions.
use Rattle.std.proofs.Common.{◌≡◌, ℕ, ◌+◌, Bool, true, false, not, cond, List, [], ◌++◌, length, Option, Some, None, Result, Ok, Err, IfOk, OnOk, refl, sym, ap, subst, ◌∙◌, arith}
use Rattle.std.proofs.lemmas.Bool.Decides.{nat_tests}
use Rattle.std.specs.Prelude.{ℤ, pos, negsuc, nat_le, ◌+ℤ◌, ◌-ℤ◌, ◌*ℤ◌, neg_ℤ, int_div, int_rem, int_lt, int_le, nat_lt}
use Rattle.std.specs.Int.{w32, int_wrap}
use Rattle.std.specs.Ordering.{int_eq}
use Rattle.core_tree.specs.declared.value.Value.{Value}
use Rattle.core_tree.specs.declared.value.Value.TheVariants as values
use Rattle.papy_base.specs.declared.faults.StackFault.{StackFault}
use Rattle.papy_base.specs.declared.faults.StackFault.TheVariants.{DivideZero, TextTooLong}
use Rattle.instance_store.specs.Values.{equals}
use Rattle.script_meaning.specs.Values as meant
use Rattle.code_meaning.specs.Execution.{Step as Meant, cast_where, executed, gives, jumped, next, settled}
use Rattle.code_meaning.specs.Operands as code
use Rattle.loaded_code.specs.Plain.{instruction_of, operand_of}
use Rattle.loaded_code.specs.declared.instruction.LoadedInstruction.{LoadedInstruction}
use Rattle.loaded_code.specs.declared.instruction.LoadedInstruction.TheVariants as loaded
use Rattle.loaded_code.specs.declared.operand.Operand.{Operand}
use Rattle.body_runner.specs.declared.body.Home.{Home}
use Rattle.body_runner.specs.declared.body.Inner.{Inner}
use Rattle.body_runner.specs.declared.instructions.Step.{Step}
use Rattle.body_runner.specs.declared.instructions.Step.TheVariants.{Done, Jump}
use Rattle.body_runner.specs.Arithmetic.{joined, quotient, remainder}
use Rattle.body_runner.specs.Bodies.{home_of, inner_of, printing}
use Rattle.body_runner.specs.Instructions.{number_of, StoresQuotient, StoresText}
use Rattle.body_runner.specs.Operands.{kind_of, worth, Stores}
use Rattle.body_runner.specs.Sights.{IsThere, Rest}
use Rattle.body_runner.specs.Steps.{answered_of, done_of, jump_of, jump_step, same_truth, step_of, GoesOn, StepMeans, Steps}
use Rattle.body_runner.specs.Values.{is_true, text_in}
use Rattle.body_runner.proofs.Arrays.{equal_same}
use Rattle.body_runner.proofs.Kept.{nothing_kept, stored_kept}
use Rattle.body_runner.proofs.Meaning.{noted_same, number_same, stored_meant, text_same, truth_same, type_meant, worth_meant}

-- ---- a step by what was answered
pub by_fault : (home : Home) (i : LoadedInstruction) (fault : Option StackFault) (old new : Inner) → GoesOn home i fault old new → StepMeans home i (step_of fault) old new
by_fault home i None old new h = h
by_fault home i (Some fault) old new h = h

on_answer : {E : Type 0} (home : Home) (i : LoadedInstruction) (old new : Inner) (r : Result (Option StackFault) E) → IfOk r (λ fault. Steps home i (step_of fault) old new) → IfOk (answered_of r) (λ step. Steps home i step old new)
on_answer home i old new (Ok fault) h = h
on_answer home i old new (Err e) h = h

pub answers : {E : Type 0} (home : Home) (i j : LoadedInstruction) (old new : Inner) (r : Result (Option StackFault) E) (q : Result Step E) → i ≡ j → q ≡ answered_of r → IfOk r (λ fault. Steps home j (step_of fault) old new) → IfOk q (λ step. Steps home i step old new)
answers home i j old new r q is e h =
    subst (λ k. IfOk q (λ step. Steps home k step old new)) (sym is) (subst (λ x. IfOk x (λ step. Steps home j step old new)) (sym e) (on_answer home j old new r h))

on_done : {E : Type 0} (home : Home) (i : LoadedInstruction) (old new : Inner) (r : Result Unit E) → OnOk r (Steps home i Done old new) → IfOk (done_of r) (λ step. Steps home i step old new)
on_done home i old new (Ok nothing) h = h
on_done home i old new (Err e) h = h

pub ends : {E : Type 0} (home : Home) (i j : LoadedInstruction) (old new : Inner) (r : Result Unit E) (q : Result Step E) → i ≡ j → q ≡ done_of r → OnOk r (Steps home j Done old new) → IfOk q (λ step. Steps home i step old new)
ends home i j old new r q is e h =
    subst (λ k. IfOk q (λ step. Steps home k step old new)) (sym is) (subst (λ x. IfOk x (λ step. Steps home j step old new)) (sym e) (on_done home j old new r h))

-- ---- what is stored
-- an instruction that comes to a value that its result takes, and a fault
abbrev pub Comes : Home → LoadedInstruction → Operand → Value → Option StackFault → Inner → Type 0
Comes home i to value fault old =
    (at : ℕ) (rest : Rest) → executed (home_of home) at (instruction_of i) (inner_of home old rest) ≡ settled (home_of home) at (operand_of to) (value, fault) (inner_of home old rest)

pub settles : (home : Home) (i : LoadedInstruction) (to : Operand) (value : Value) (fault : Option StackFault) (old new : Inner) → IsThere home.instance old.store.now.instances → Comes home i to value fault old → Stores home old new to value → Steps home i (step_of fault) old new
settles home i to value fault old new there comes stored = record {
  means = by_fault home i fault old new (λ at rest. comes at rest ∙ (ap (λ inner. next (code.stored (home_of home) (operand_of to) value inner)) (noted_same home old rest at fault) ∙ ap next (sym (stored_meant home old new (printing home at fault rest) to value there stored))));
  kept = stored_kept home old new to value stored;
}

-- ---- numbers
not_below : (a b : ℕ) → not (nat_lt b a) ≡ nat_le a b
not_below a b = grind (arith, nat_tests)

le_by_lt : (a b : ℤ) → not (int_lt b a) ≡ int_le a b
le_by_lt (pos a) (pos b) = not_below a b
le_by_lt (pos a) (negsuc b) = refl
le_by_lt (negsuc a) (pos b) = refl
le_by_lt (negsuc a) (negsuc b) = not_below b a

abbrev as_quotient : Option ℤ → meant.Result
as_quotient None = (values.Int (pos 0), Some DivideZero)
as_quotient (Some n) = (values.Int n, None)

divided_by : (zero_there : Bool) (n : ℤ) → as_quotient (cond zero_there None (Some n)) ≡ cond zero_there (values.Int (pos 0), Some DivideZero) (values.Int n, None)
divided_by true n = refl
divided_by false n = refl

abbrev as_joined : Option (List ℕ) → meant.Result
as_joined None = (values.Text [], Some TextTooLong)
as_joined (Some text) = (values.Text text, None)

module _ (home : Home) (old new : Inner) (there : IsThere home.instance old.store.now.instances) (to left right : Operand) where
  abbrev within : Rest → code.Inner
  within rest = inner_of home old rest

  number_there : (rest : Rest) (o : Operand) → number_of home old o ≡ meant.number_of (code.worth (home_of home) (within rest) (operand_of o))
  number_there rest o = number_same (worth home old o) ∙ ap meant.number_of (worth_meant home old rest o)

  -- a function of both numbers that is what the operation calculates
  of_numbers : (rest : Rest) (f : ℤ → ℤ → meant.Result) → f (number_of home old left) (number_of home old right) ≡ f (meant.number_of (code.worth (home_of home) (within rest) (operand_of left))) (meant.number_of (code.worth (home_of home) (within rest) (operand_of right)))
  of_numbers rest f =
      ap (λ l. f l (number_of home old right)) (number_there rest left) ∙ ap (λ r. f (meant.number_of (code.worth (home_of home) (within rest) (operand_of left))) r) (number_there rest right)

  comes_by : (i : LoadedInstruction) (f : ℤ → ℤ → meant.Result) (value : Value) (fault : Option StackFault) → ((at : ℕ) (rest : Rest) → executed (home_of home) at (instruction_of i) (within rest) ≡ settled (home_of home) at (operand_of to) (f (meant.number_of (code.worth (home_of home) (within rest) (operand_of left))) (meant.number_of (code.worth (home_of home) (within rest) (operand_of right)))) (within rest)) → f (number_of home old left) (number_of home old right) ≡ (value, fault) → Comes home i to value fault old
  comes_by i f value fault form e at rest =
      form at rest ∙ ap (λ of. settled (home_of home) at (operand_of to) of (within rest)) (sym (of_numbers rest f) ∙ e)

  pub iadd : Stores home old new to (values.Int (int_wrap w32 (number_of home old left +ℤ number_of home old right))) → Steps home (loaded.IAdd to left right) Done old new
  iadd s = settles home (loaded.IAdd to left right) to _ None old new there (comes_by (loaded.IAdd to left right) (λ l r. meant.number (l +ℤ r)) _ None (λ at rest. refl) refl) s

  pub isub : Stores home old new to (values.Int (int_wrap w32 (number_of home old left -ℤ number_of home old right))) → Steps home (loaded.ISub to left right) Done old new
  isub s = settles home (loaded.ISub to left right) to _ None old new there (comes_by (loaded.ISub to left right) (λ l r. meant.number (l -ℤ r)) _ None (λ at rest. refl) refl) s

  pub imul : Stores home old new to (values.Int (int_wrap w32 (number_of home old left *ℤ number_of home old right))) → Steps home (loaded.IMul to left right) Done old new
  imul s = settles home (loaded.IMul to left right) to _ None old new there (comes_by (loaded.IMul to left right) (λ l r. meant.number (l *ℤ r)) _ None (λ at rest. refl) refl) s

  pub cmp_lt : Stores home old new to (values.Bool (int_lt (number_of home old left) (number_of home old right))) → Steps home (loaded.CmpLt to left right) Done old new
  cmp_lt s = settles home (loaded.CmpLt to left right) to _ None old new there (comes_by (loaded.CmpLt to left right) (λ l r. (values.Bool (int_lt l r), None)) _ None (λ at rest. refl) refl) s

  pub cmp_le : Stores home old new to (values.Bool (not (int_lt (number_of home old right) (number_of home old left)))) → Steps home (loaded.CmpLe to left right) Done old new
  cmp_le s = settles home (loaded.CmpLe to left right) to _ None old new there (comes_by (loaded.CmpLe to left right) (λ l r. (values.Bool (int_le l r), None)) _ None (λ at rest. refl) (ap (λ (b : Bool). (values.Bool b, None)) (sym (le_by_lt (number_of home old left) (number_of home old right))))) s

  pub cmp_gt : Stores home old new to (values.Bool (int_lt (number_of home old right) (number_of home old left))) → Steps home (loaded.CmpGt to left right) Done old new
  cmp_gt s = settles home (loaded.CmpGt to left right) to _ None old new there (comes_by (loaded.CmpGt to left right) (λ l r. (values.Bool (int_lt r l), None)) _ None (λ at rest. refl) refl) s

  pub cmp_ge : Stores home old new to (values.Bool (not (int_lt (number_of home old left) (number_of home old right)))) → Steps home (loaded.CmpGe to left right) Done old new
  cmp_ge s = settles home (loaded.CmpGe to left right) to _ None old new there (comes_by (loaded.CmpGe to left right) (λ l r. (values.Bool (int_le r l), None)) _ None (λ at rest. refl) (ap (λ (b : Bool). (values.Bool b, None)) (sym (le_by_lt (number_of home old right) (number_of home old left))))) s

  settles_quotient : (i : LoadedInstruction) (o : Option ℤ) (fault : Option StackFault) → ((value : Value) (fault : Option StackFault) → as_quotient o ≡ (value, fault) → Comes home i to value fault old) → StoresQuotient home old new to o fault → Steps home i (step_of fault) old new
  settles_quotient i None fault comes s =
      subst (λ f. Steps home i (step_of f) old new) (sym s.1) (settles home i to (values.Int (pos 0)) (Some DivideZero) old new there (comes _ _ refl) s.0)
  settles_quotient i (Some n) fault comes s =
      subst (λ f. Steps home i (step_of f) old new) (sym s.1) (settles home i to (values.Int n) None old new there (comes _ _ refl) s.0)

  pub idiv : (fault : Option StackFault) → StoresQuotient home old new to (quotient (number_of home old left) (number_of home old right)) fault → Steps home (loaded.IDiv to left right) (step_of fault) old new
  idiv fault s =
      settles_quotient (loaded.IDiv to left right) (quotient (number_of home old left) (number_of home old right)) fault (λ value f e. comes_by (loaded.IDiv to left right) (λ l r. meant.divided r (int_div l r)) value f (λ at rest. refl) (sym (divided_by (int_eq (number_of home old right) (pos 0)) _) ∙ e)) s

  pub imod : (fault : Option StackFault) → StoresQuotient home old new to (remainder (number_of home old left) (number_of home old right)) fault → Steps home (loaded.IMod to left right) (step_of fault) old new
  imod fault s =
      settles_quotient (loaded.IMod to left right) (remainder (number_of home old left) (number_of home old right)) fault (λ value f e. comes_by (loaded.IMod to left right) (λ l r. meant.divided r (int_rem l r)) value f (λ at rest. refl) (sym (divided_by (int_eq (number_of home old right) (pos 0)) _) ∙ e)) s

  -- ---- texts
  text_there : (rest : Rest) (o : Operand) → text_in (worth home old o) ≡ meant.text_of (code.worth (home_of home) (within rest) (operand_of o))
  text_there rest o = text_same (worth home old o) ∙ ap meant.text_of (worth_meant home old rest o)

  joins : (value : Value) (fault : Option StackFault) → meant.joined (text_in (worth home old left)) (text_in (worth home old right)) ≡ (value, fault) → Comes home (loaded.StrCat to left right) to value fault old
  joins value fault e at rest =
      ap (λ of. settled (home_of home) at (operand_of to) of (within rest)) (sym (ap (λ l. meant.joined l (text_in (worth home old right))) (text_there rest left) ∙ ap (λ r. meant.joined (meant.text_of (code.worth (home_of home) (within rest) (operand_of left))) r) (text_there rest right)) ∙ e)

  joined_by : (long : Bool) (text : List ℕ) → as_joined (cond long None (Some text)) ≡ cond long (values.Text [], Some TextTooLong) (values.Text text, None)
  joined_by true text = refl
  joined_by false text = refl

  strcat_by : (long : Bool) (text : List ℕ) (fault : Option StackFault) → ((value : Value) (f : Option StackFault) → as_joined (cond long None (Some text)) ≡ (value, f) → Comes home (loaded.StrCat to left right) to value f old) → StoresText home old new to (cond long None (Some text)) fault → Steps home (loaded.StrCat to left right) (step_of fault) old new
  strcat_by true text fault comes s =
      subst (λ f. Steps home (loaded.StrCat to left right) (step_of f) old new) (sym s.1) (settles home (loaded.StrCat to left right) to (values.Text []) (Some TextTooLong) old new there (comes _ _ refl) s.0)
  strcat_by false text fault comes s =
      subst (λ f. Steps home (loaded.StrCat to left right) (step_of f) old new) (sym s.1) (settles home (loaded.StrCat to left right) to (values.Text text) None old new there (comes _ _ refl) s.0)

  pub strcat : (fault : Option StackFault) → StoresText home old new to (joined (text_in (worth home old left)) (text_in (worth home old right))) fault → Steps home (loaded.StrCat to left right) (step_of fault) old new
  strcat fault s =
      strcat_by (nat_lt 1024 (length (text_in (worth home old left)) + length (text_in (worth home old right)))) (text_in (worth home old left) ++ text_in (worth home old right)) fault (λ value f e. joins value f (sym (joined_by (nat_lt 1024 (length (text_in (worth home old left)) + length (text_in (worth home old right)))) (text_in (worth home old left) ++ text_in (worth home old right))) ∙ e)) s

  -- ---- equality
  pub cmp_eq : Stores home old new to (values.Bool (equals (worth home old left) (worth home old right))) → Steps home (loaded.CmpEq to left right) Done old new
  cmp_eq s =
      settles home (loaded.CmpEq to left right) to _ None old new there (λ at rest. ap (λ (b : Bool). gives (home_of home) (operand_of to) (values.Bool b) (within rest)) (ap (λ l. meant.equal l (code.worth (home_of home) (within rest) (operand_of right))) (sym (worth_meant home old rest left)) ∙ ap (λ r. meant.equal (worth home old left) r) (sym (worth_meant home old rest right)) ∙ sym (equal_same (worth home old left) (worth home old right)))) s

-- ---- one value
module _ (home : Home) (old new : Inner) (there : IsThere home.instance old.store.now.instances) (to operand : Operand) where
  -- a function of the value
  comes_of : (i : LoadedInstruction) (f : Value → Value) → ((at : ℕ) (rest : Rest) → executed (home_of home) at (instruction_of i) (inner_of home old rest) ≡ gives (home_of home) (operand_of to) (f (code.worth (home_of home) (inner_of home old rest) (operand_of operand))) (inner_of home old rest)) → Comes home i to (f (worth home old operand)) None old
  comes_of i f form at rest =
      form at rest ∙ ap (λ v. gives (home_of home) (operand_of to) (f v) (inner_of home old rest)) (sym (worth_meant home old rest operand))

  pub assign : Stores home old new to (worth home old operand) → Steps home (loaded.Assign to operand) Done old new
  assign s = settles home (loaded.Assign to operand) to _ None old new there (comes_of (loaded.Assign to operand) (λ v. v) (λ at rest. refl)) s

  pub invert : Stores home old new to (values.Bool (not (is_true (worth home old operand)))) → Steps home (loaded.Not to operand) Done old new
  invert s =
      settles home (loaded.Not to operand) to (values.Bool (not (meant.is_true (worth home old operand)))) None old new there (comes_of (loaded.Not to operand) (λ v. values.Bool (not (meant.is_true v))) (λ at rest. refl)) (subst (λ b. Stores home old new to (values.Bool (not b))) (truth_same (worth home old operand)) s)

  pub ineg : Stores home old new to (values.Int (int_wrap w32 (neg_ℤ (number_of home old operand)))) → Steps home (loaded.INeg to operand) Done old new
  ineg s =
      settles home (loaded.INeg to operand) to (values.Int (int_wrap w32 (neg_ℤ (meant.number_of (worth home old operand))))) None old new there (comes_of (loaded.INeg to operand) (λ v. values.Int (int_wrap w32 (neg_ℤ (meant.number_of v)))) (λ at rest. refl)) (subst (λ n. Stores home old new to (values.Int (int_wrap w32 (neg_ℤ n)))) (number_same (worth home old operand)) s)

  pub cast : Stores home old new to (cast_where (home_of home) (kind_of home to) (worth home old operand)) → Steps home (loaded.Cast to operand) Done old new
  cast s =
      settles home (loaded.Cast to operand) to _ None old new there (comes_of (loaded.Cast to operand) (cast_where (home_of home) (kind_of home to)) (λ at rest. ap (λ k. gives (home_of home) (operand_of to) (cast_where (home_of home) k (code.worth (home_of home) (inner_of home old rest) (operand_of operand))) (inner_of home old rest)) (sym (type_meant home to)))) s

-- ---- jumps, and what does nothing
module _ (home : Home) (inner : Inner) where
  stays : (i : LoadedInstruction) (step : Step) → StepMeans home i step inner inner → Steps home i step inner inner
  stays i step h = record { means = h; kept = nothing_kept home inner }

  pub nop : Steps home loaded.Nop Done inner inner
  nop = stays loaded.Nop Done (λ at rest. refl)

  pub jmp : (offset : ℤ) (landing : ℕ) → Steps home (loaded.Jmp offset landing) (Jump landing) inner inner
  jmp offset landing = stays (loaded.Jmp offset landing) (Jump landing) (record { offset = offset; is = refl; taken = λ at rest. refl })

  -- a condition asks for a jump, or doesn't
  abbrev asked : Bool → ℕ → ℤ → code.Inner → Meant
  asked true at offset within = jumped at offset within
  asked false at offset within = next within

  jumps_where : (i : LoadedInstruction) (wanted : Bool) (offset : ℤ) (landing : ℕ) → jump_of i ≡ Some (offset, landing) → ((at : ℕ) (rest : Rest) → executed (home_of home) at (instruction_of i) (inner_of home inner rest) ≡ asked wanted at offset (inner_of home inner rest)) → Steps home i (jump_step wanted landing) inner inner
  jumps_where i true offset landing is e =
      stays i (Jump landing) (record { offset = offset; is = is; taken = e })
  jumps_where i false offset landing is e = stays i Done e

  truth_there : (rest : Rest) (o : Operand) → is_true (worth home inner o) ≡ meant.is_true (code.worth (home_of home) (inner_of home inner rest) (operand_of o))
  truth_there rest o = truth_same (worth home inner o) ∙ ap meant.is_true (worth_meant home inner rest o)

  then_jumps : (truth : Bool) (at : ℕ) (offset : ℤ) (within : code.Inner) → cond truth (jumped at offset within) (next within) ≡ asked truth at offset within
  then_jumps true at offset within = refl
  then_jumps false at offset within = refl

  else_jumps : (truth : Bool) (at : ℕ) (offset : ℤ) (within : code.Inner) → cond truth (next within) (jumped at offset within) ≡ asked (not truth) at offset within
  else_jumps true at offset within = refl
  else_jumps false at offset within = refl

  pub jmpt : (condition : Operand) (offset : ℤ) (landing : ℕ) (step : Step) → step ≡ jump_step (same_truth true (is_true (worth home inner condition))) landing → Steps home (loaded.JmpT condition offset landing) step inner inner
  jmpt condition offset landing step e =
      subst (λ s. Steps home (loaded.JmpT condition offset landing) s inner inner) (sym e) (jumps_where (loaded.JmpT condition offset landing) (is_true (worth home inner condition)) offset landing refl (λ at rest. then_jumps (meant.is_true (code.worth (home_of home) (inner_of home inner rest) (operand_of condition))) at offset (inner_of home inner rest) ∙ ap (λ t. asked t at offset (inner_of home inner rest)) (sym (truth_there rest condition))))

  pub jmpf : (condition : Operand) (offset : ℤ) (landing : ℕ) (step : Step) → step ≡ jump_step (same_truth false (is_true (worth home inner condition))) landing → Steps home (loaded.JmpF condition offset landing) step inner inner
  jmpf condition offset landing step e =
      subst (λ s. Steps home (loaded.JmpF condition offset landing) s inner inner) (sym e) (jumps_where (loaded.JmpF condition offset landing) (not (is_true (worth home inner condition))) offset landing refl (λ at rest. else_jumps (meant.is_true (code.worth (home_of home) (inner_of home inner rest) (operand_of condition))) at offset (inner_of home inner rest) ∙ ap (λ t. asked (not t) at offset (inner_of home inner rest)) (sym (truth_there rest condition))))
