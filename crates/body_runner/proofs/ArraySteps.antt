-- What instructions on arrays do, in the terms of the definitions.
use Rattle.std.proofs.Common.{◌≡◌, ℕ, true, false, List, Option, Some, None, Result, Ok, Err, IfOk, OnOk, refl, sym, ap, subst, ◌∙◌}
use Rattle.std.specs.Prelude.{ℤ, pos}
use Rattle.std.specs.Option.{option_and_then}
use Rattle.std.specs.Result.{result_err}
use Rattle.core_tree.specs.declared.core_type.CoreType.{CoreType}
use Rattle.core_tree.specs.declared.value.Value.{Value}
use Rattle.core_tree.specs.declared.value.Value.TheVariants as values
use Rattle.core_tree.specs.Values.{default_result, element_kind}
use Rattle.papy_base.specs.declared.faults.StackFault.{StackFault}
use Rattle.instance_store.specs.Arrays as store
use Rattle.instance_store.specs.Arrays.{ArrayState as Stored, arrays_with, write_answer}
use Rattle.instance_store.specs.Instances.{InstanceState}
use Rattle.script_meaning.specs.Arrays.{element_of, found_back, length_of, new_array, with_array, with_element, write_fault}
use Rattle.script_meaning.specs.Arrays as meant
use Rattle.script_meaning.specs.Values as meaning
use Rattle.script_meaning.specs.Requests.{Sight}
use Rattle.script_meaning.specs.World.{ArrayState}
use Rattle.code_meaning.specs.Execution.{created, executed, next, settled}
use Rattle.code_meaning.specs.Operands as code
use Rattle.loaded_code.specs.Plain.{instruction_of, operand_of}
use Rattle.loaded_code.specs.declared.instruction.LoadedInstruction.{LoadedInstruction}
use Rattle.loaded_code.specs.declared.instruction.LoadedInstruction.TheVariants as loaded
use Rattle.loaded_code.specs.declared.operand.Operand.{Operand}
use Rattle.body_runner.specs.declared.body.Home.{Home}
use Rattle.body_runner.specs.declared.body.Inner.{Inner}
use Rattle.body_runner.specs.Bodies.{KeepsOthers, home_of, inner_of, printing}
use Rattle.body_runner.specs.Instructions.{number_of, Adds, Creates, CreatesOf, StoresNumber, StoresValue}
use Rattle.body_runner.specs.Operands.{kind_of, worth, KeepsLoans, Stores}
use Rattle.body_runner.specs.Sights.{IsThere, Rest, arrays_of, instances_after, sight_of}
use Rattle.body_runner.specs.Steps.{step_of, Steps}
use Rattle.body_runner.specs.Values.{array_in, number_in}
use Rattle.body_runner.proofs.Arrays.{as_number, as_read, element_same, fault_of, found_back_same, found_same, length_same, with_same, write_same}
use Rattle.body_runner.proofs.Kept.{loans_twice, same_kept, stored_kept}
use Rattle.body_runner.proofs.Meaning.{array_same, inner_same, noted_same, number_same, seen_arrays, stored_meant, type_meant, worth_meant}
use Rattle.body_runner.proofs.Steps.{Comes, by_fault, settles}

-- the arrays that are seen, with others in their place
put_arrays : (own : Option ℕ) (instances : List InstanceState) (old new : List Stored) (rest : Rest) (arrays : List ArrayState) → arrays_of new ≡ arrays → record (sight_of instances old own rest) { arrays = arrays } ≡ sight_of instances new own rest
put_arrays None instances old new rest arrays e =
    ap (λ (xs : List ArrayState). record (sight_of instances old None rest) { arrays = xs }) (sym e)
put_arrays (Some i) instances old new rest arrays e =
    ap (λ (xs : List ArrayState). record (sight_of instances old (Some i) rest) { arrays = xs }) (sym e)

-- what is within a body whose arrays alone have changed
put_within : (home : Home) (old new : Inner) (rest : Rest) (arrays : List ArrayState) → new.slots.now.items ≡ old.slots.now.items → new.store.now.instances ≡ old.store.now.instances → arrays_of new.store.now.arrays ≡ arrays → record (inner_of home old rest) { sight = record (inner_of home old rest).sight { arrays = arrays } } ≡ inner_of home new rest
put_within home old new rest arrays s i a =
    ap (λ (sight : Sight). record { slots = old.slots.now.items; sight = sight }) (put_arrays home.instance old.store.now.instances old.store.now.arrays new.store.now.arrays rest arrays a)
    ∙ (ap (λ instances. record { slots = old.slots.now.items; sight = sight_of instances new.store.now.arrays home.instance rest }) (sym i)
    ∙ ap (λ (slots : List Value). record { slots = slots; sight = sight_of new.store.now.instances new.store.now.arrays home.instance rest }) (sym s))

module _ (home : Home) (old new : Inner) (there : IsThere home.instance old.store.now.instances) where
  abbrev within : Rest → code.Inner
  within rest = inner_of home old rest

  abbrev means : Rest → Operand → Value
  means rest o = code.worth (home_of home) (within rest) (operand_of o)

  array_there : (rest : Rest) (o : Operand) → array_in (worth home old o) ≡ meaning.array_of (means rest o)
  array_there rest o = array_same (worth home old o) ∙ ap meaning.array_of (worth_meant home old rest o)

  number_there : (rest : Rest) (o : Operand) → number_in (worth home old o) ≡ meaning.number_of (means rest o)
  number_there rest o = number_same (worth home old o) ∙ ap meaning.number_of (worth_meant home old rest o)

  -- what is found out of an array, an index and a value is what is found out of those that are meant
  of_all : {X : Type 0} (rest : Rest) (array index value : Operand) (f : List ArrayState → Option ℕ → ℤ → Value → X) → f (arrays_of old.store.now.arrays) (array_in (worth home old array)) (number_in (worth home old index)) (worth home old value) ≡ f (within rest).sight.arrays (meaning.array_of (means rest array)) (meaning.number_of (means rest index)) (means rest value)
  of_all rest array index value f =
      ap (λ xs. f xs (array_in (worth home old array)) (number_in (worth home old index)) (worth home old value)) (sym (seen_arrays home old rest))
      ∙ (ap (λ a. f (within rest).sight.arrays a (number_in (worth home old index)) (worth home old value)) (array_there rest array)
      ∙ (ap (λ n. f (within rest).sight.arrays (meaning.array_of (means rest array)) n (worth home old value)) (number_there rest index)
      ∙ ap (λ v. f (within rest).sight.arrays (meaning.array_of (means rest array)) (meaning.number_of (means rest index)) v) (worth_meant home old rest value)))

  comes_by : (i : LoadedInstruction) (to array index item : Operand) (f : List ArrayState → Option ℕ → ℤ → Value → meaning.Result) (value : Value) (fault : Option StackFault) → ((at : ℕ) (rest : Rest) → executed (home_of home) at (instruction_of i) (within rest) ≡ settled (home_of home) at (operand_of to) (f (within rest).sight.arrays (meaning.array_of (means rest array)) (meaning.number_of (means rest index)) (means rest item)) (within rest)) → f (arrays_of old.store.now.arrays) (array_in (worth home old array)) (number_in (worth home old index)) (worth home old item) ≡ (value, fault) → Comes home i to value fault old
  comes_by i to array index item f value fault form e at rest =
      form at rest ∙ ap (λ of. settled (home_of home) at (operand_of to) of (within rest)) (sym (of_all rest array index item f) ∙ e)

  settles_number : (i : LoadedInstruction) (to : Operand) (o : Result ℤ StackFault) (fault : Option StackFault) → ((value : Value) (f : Option StackFault) → as_number o ≡ (value, f) → Comes home i to value f old) → StoresNumber home old new to o fault → Steps home i (step_of fault) old new
  settles_number i to (Ok n) fault comes s =
      subst (λ f. Steps home i (step_of f) old new) (sym s.1) (settles home i to (values.Int n) None old new there (comes _ _ refl) s.0)
  settles_number i to (Err kind) fault comes s =
      subst (λ f. Steps home i (step_of f) old new) (sym s.1) (settles home i to (values.Int (pos 0)) (Some kind) old new there (comes _ _ refl) s.0)

  settles_value : (i : LoadedInstruction) (to : Operand) (o : Result Value StackFault) (fault : Option StackFault) → ((value : Value) (f : Option StackFault) → as_read (default_result (kind_of home to)) o ≡ (value, f) → Comes home i to value f old) → StoresValue home old new to o fault → Steps home i (step_of fault) old new
  settles_value i to (Ok v) fault comes s =
      subst (λ f. Steps home i (step_of f) old new) (sym s.1) (settles home i to v None old new there (comes _ _ refl) s.0)
  settles_value i to (Err kind) fault comes s =
      subst (λ f. Steps home i (step_of f) old new) (sym s.1) (settles home i to (default_result (kind_of home to)) (Some kind) old new there (comes _ _ refl) s.0)

  pub array_length : (to array : Operand) (fault : Option StackFault) → StoresNumber home old new to (store.length_of old.store.now.arrays (array_in (worth home old array))) fault → Steps home (loaded.ArrayLength to array) (step_of fault) old new
  array_length to array fault s =
      settles_number (loaded.ArrayLength to array) to _ fault (λ value f e. comes_by (loaded.ArrayLength to array) to array array array (λ xs a n v. length_of xs a) value f (λ at rest. refl) (sym (length_same old.store.now.arrays (array_in (worth home old array))) ∙ e)) s

  pub get_element : (to array index : Operand) (fault : Option StackFault) → StoresValue home old new to (store.read old.store.now.arrays (array_in (worth home old array)) (number_of home old index)) fault → Steps home (loaded.ArrayGetElement to array index) (step_of fault) old new
  get_element to array index fault s =
      settles_value (loaded.ArrayGetElement to array index) to _ fault (λ value f e. comes_by (loaded.ArrayGetElement to array index) to array index index (λ xs a n v. element_of xs a n (default_result (kind_of home to))) value f (λ at rest. ap (λ k. settled (home_of home) at (operand_of to) (element_of (within rest).sight.arrays (meaning.array_of (means rest array)) (meaning.number_of (means rest index)) (default_result k)) (within rest)) (sym (type_meant home to))) (sym (element_same old.store.now.arrays (array_in (worth home old array)) (number_of home old index) (default_result (kind_of home to))) ∙ e)) s

  pub find_element : (array to value start : Operand) (fault : Option StackFault) → StoresNumber home old new to (store.found old.store.now.arrays (array_in (worth home old array)) (worth home old value) (number_of home old start) false) fault → Steps home (loaded.ArrayFindElement array to value start) (step_of fault) old new
  find_element array to value start fault s =
      settles_number (loaded.ArrayFindElement array to value start) to _ fault (λ found f e. comes_by (loaded.ArrayFindElement array to value start) to array start value (λ xs a n v. meant.found xs a v n) found f (λ at rest. refl) (sym (found_same old.store.now.arrays (array_in (worth home old array)) (worth home old value) (number_of home old start)) ∙ e)) s

  pub find_back : (array to value start : Operand) (fault : Option StackFault) → StoresNumber home old new to (store.found old.store.now.arrays (array_in (worth home old array)) (worth home old value) (number_of home old start) true) fault → Steps home (loaded.ArrayRFindElement array to value start) (step_of fault) old new
  find_back array to value start fault s =
      settles_number (loaded.ArrayRFindElement array to value start) to _ fault (λ found f e. comes_by (loaded.ArrayRFindElement array to value start) to array start value (λ xs a n v. found_back xs a v n) found f (λ at rest. refl) (sym (found_back_same old.store.now.arrays (array_in (worth home old array)) (worth home old value) (number_of home old start)) ∙ e)) s

  -- ---- writes
  fault_same : (o : Result Unit StackFault) → result_err o ≡ fault_of o
  fault_same (Ok nothing) = refl
  fault_same (Err fault) = refl

  sets : (array index value : Operand) (fault : Option StackFault) → new.store.now.arrays ≡ arrays_with old.store.now.arrays (array_in (worth home old array)) (number_of home old index) (worth home old value) → fault ≡ result_err (write_answer old.store.now.arrays (array_in (worth home old array)) (number_of home old index)) → new.store.now.instances ≡ old.store.now.instances → new.slots.now.items ≡ old.slots.now.items → KeepsLoans old new → Steps home (loaded.ArraySetElement array index value) (step_of fault) old new
  sets array index value fault a f i s loans = record {
    means = by_fault home (loaded.ArraySetElement array index value) fault old new (λ at rest. ap next (
        ap (λ o. code.noted (home_of home) at o (record (within rest) { sight = record (within rest).sight { arrays = with_element (within rest).sight.arrays (meaning.array_of (means rest array)) (meaning.number_of (means rest index)) (means rest value) } })) (sym (f ∙ (fault_same (write_answer old.store.now.arrays (array_in (worth home old array)) (number_of home old index)) ∙ (write_same old.store.now.arrays (array_in (worth home old array)) (number_of home old index) ∙ of_all rest array index value (λ xs a n v. write_fault xs a n)))))
        ∙ (ap (code.noted (home_of home) at fault) (put_within home old new rest (with_element (within rest).sight.arrays (meaning.array_of (means rest array)) (meaning.number_of (means rest index)) (means rest value)) s i (ap arrays_of a ∙ (with_same old.store.now.arrays (array_in (worth home old array)) (number_of home old index) (worth home old value) ∙ of_all rest array index value (λ xs a n v. with_element xs a n v))))
        ∙ noted_same home new rest at fault)));
    kept = same_kept home old new i loans;
  }

  pub set_element : {E : Type 0} (array index value : Operand) (r : Result (Option StackFault) E) → OnOk r (new.store.now.arrays ≡ arrays_with old.store.now.arrays (array_in (worth home old array)) (number_of home old index) (worth home old value)) → IfOk r (λ fault. fault ≡ result_err (write_answer old.store.now.arrays (array_in (worth home old array)) (number_of home old index))) → new.store.now.instances ≡ old.store.now.instances → new.slots.now.items ≡ old.slots.now.items → KeepsLoans old new → IfOk r (λ fault. Steps home (loaded.ArraySetElement array index value) (step_of fault) old new)
  set_element array index value (Ok fault) a f i s loans = sets array index value fault a f i s loans
  set_element array index value (Err e) a f i s loans = tt

  -- ---- new arrays
  made : (to : Operand) (size : ℕ) (kind : CoreType) (fault : Option StackFault) → CreatesOf home old new to kind size fault → (at : ℕ) (rest : Rest) → created (home_of home) at (operand_of to) size (Some kind) (within rest) ≡ next (inner_of home new (printing home at fault rest))
  made to size kind fault c at rest =
      let a = c.added in
      let between_there : IsThere home.instance c.between.store.now.instances = subst (λ xs. IsThere home.instance xs) (sym a.instances) there in
      ap (λ xs. settled (home_of home) at (operand_of to) (new_array xs) (record (within rest) { sight = record (within rest).sight { arrays = with_array xs kind size } })) (seen_arrays home old rest)
      ∙ (ap (λ of. settled (home_of home) at (operand_of to) of (record (within rest) { sight = record (within rest).sight { arrays = with_array (arrays_of old.store.now.arrays) kind size } })) (sym a.made_is)
      ∙ (ap (λ inner. settled (home_of home) at (operand_of to) (c.value, fault) inner) (put_within home old c.between rest (with_array (arrays_of old.store.now.arrays) kind size) a.slots a.instances a.arrays)
      ∙ (ap (λ inner. next (code.stored (home_of home) (operand_of to) c.value inner)) (noted_same home c.between rest at fault)
      ∙ ap next (sym (stored_meant home c.between new (printing home at fault rest) to c.value between_there c.stored)))))

  creates : (to : Operand) (size : ℕ) (kind : Option CoreType) (fault : Option StackFault) → Creates home old new to kind size fault → (at : ℕ) (rest : Rest) → created (home_of home) at (operand_of to) size kind (within rest) ≡ next (inner_of home new (printing home at fault rest))
  creates to size None fault c at rest =
      ap next (sym (inner_same home old new rest c.0)) ∙ ap (λ f. next (inner_of home new (printing home at f rest))) (sym c.1)
  creates to size (Some kind) fault c at rest = made to size kind fault c at rest

  creates_kept : (to : Operand) (size : ℕ) (kind : Option CoreType) (fault : Option StackFault) → Creates home old new to kind size fault → KeepsOthers home old new
  creates_kept to size None fault c = same_kept home old new c.0.instances c.0.loans
  creates_kept to size (Some kind) fault c =
      let kept = stored_kept home c.between new to c.value c.stored in
      record {
        others = subst (λ xs. new.store.now.instances ≡ instances_after xs home.instance new.store.now.instances) c.added.instances kept.others;
        loans = loans_twice old c.between new c.added.loans kept.loans;
      }

  pub create : (to : Operand) (size : ℕ) (fault : Option StackFault) → Creates home old new to (option_and_then element_kind (kind_of home to)) size fault → Steps home (loaded.ArrayCreate to size) (step_of fault) old new
  create to size fault c = record {
    means = by_fault home (loaded.ArrayCreate to size) fault old new (λ at rest. ap (λ k. created (home_of home) at (operand_of to) size (option_and_then element_kind k) (within rest)) (sym (type_meant home to)) ∙ creates to size (option_and_then element_kind (kind_of home to)) fault c at rest);
    kept = creates_kept to size (option_and_then element_kind (kind_of home to)) fault c;
  }

-- an array that was added, and then stored
pub added_then : {E : Type 0} (home : Home) (old between new : Inner) (to : Operand) (kind : CoreType) (count size : ℕ) (value : Value) (fault : Option StackFault) (r : Result (Option StackFault) E) → count ≡ size → Adds old between kind count (value, fault) → OnOk r (Stores home between new to value) → IfOk r (λ answer. answer ≡ fault) → IfOk r (CreatesOf home old new to kind size)
added_then home old between new to kind count size value fault (Ok answer) same added stored is =
    subst (λ (f : Option StackFault). CreatesOf home old new to kind size f) (sym is) (record { between = between; value = value; added = subst (λ n. Adds old between kind n (value, fault)) same added; stored = stored })
added_then home old between new to kind count size value fault (Err e) same added stored is = tt
