-- Operands and stores in the terms of the definitions.
use Rattle.std.proofs.Common.{◌≡◌, ℕ, zero, suc, ◌-◌, ◌+◌, ◌<◌, Bool, true, false, not, cond, List, [], ◌∷◌, ◌++◌, map, length, Option, Some, None, refl, sym, ap, ◌∙◌, arith}
use Rattle.std.specs.Prelude.{slice_get, slice_index_or, slice_set}
use Rattle.std.specs.List.{position_from}
use Rattle.std.proofs.lemmas.Bool.{eqb-true}
use Rattle.std.proofs.lemmas.Iterator.Adapters.{position_from-zero}
use Rattle.std.specs.Option.{option_and_then, option_map, option_or}
use Rattle.std.proofs.lemmas.Option.{slice_get-map}
use Rattle.std.proofs.Math.Dec.{eqb}
use Rattle.core_tree.specs.declared.core_type.CoreType.{CoreType}
use Rattle.core_tree.specs.declared.outline.OutlineScript.{OutlineScript}
use Rattle.core_tree.specs.declared.outline.OutlineVariable.{OutlineVariable}
use Rattle.core_tree.specs.declared.value.Value.{Value}
use Rattle.core_tree.specs.declared.value.Value.TheVariants as values
use Rattle.core_tree.specs.Outlines.{script_shape}
use Rattle.papy_base.specs.declared.faults.StackFault.{StackFault}
use Rattle.instance_store.specs.Arrays.{ArrayState as Stored}
use Rattle.instance_store.specs.Instances.{InstanceState, ScriptValues, instance_at, instance_with, no_instance, place_of, scripts_with, scripts_with_at, values_at, values_of}
use Rattle.script_meaning.specs.Evaluation.{self_value, state_changed}
use Rattle.script_meaning.specs.Requests.{with_line}
use Rattle.script_meaning.specs.Values as meant
use Rattle.script_meaning.specs.World as world
use Rattle.script_meaning.specs.World.{Line, with_variable}
use Rattle.code_meaning.specs.Code as plain
use Rattle.code_meaning.specs.Operands as code
use Rattle.loaded_code.specs.Plain.{operand_of}
use Rattle.loaded_code.specs.declared.operand.Operand.{Operand}
use Rattle.loaded_code.specs.declared.operand.Operand.TheVariants as operands
use Rattle.body_runner.specs.declared.body.Home.{Home}
use Rattle.body_runner.specs.declared.body.Inner.{Inner}
use Rattle.body_runner.specs.Bodies.{home_of, inner_of, printing}
use Rattle.body_runner.specs.Operands.{own_instance, variable_in, state_in, worth, kind_of, instances_with, slots_with, Keeps, Stores, StoresNothing, StoresTyped}
use Rattle.body_runner.specs.Settings.{variable_type}
use Rattle.body_runner.specs.Sights.{IsThere, Rest, variables_of, arrays_of, sight_of}
use Rattle.body_runner.specs.Values.{number_in, is_true, text_in, array_in, instance_in}

-- ---- variables by script
abbrev is_script : ℕ → ScriptValues → Bool
is_script script part = eqb part.script script

next_by : (here : Bool) (i j : ℕ) (o p : Option ℕ) → j ≡ suc i → p ≡ option_map (λ n. suc n) o → cond here (Some j) p ≡ option_map (λ n. suc n) (cond here (Some i) o)
next_by true i j o p e f = ap (λ n. Some n) e
next_by false i j o p e f = f

pub later : {X : Type 0} (test : X → Bool) (i j : ℕ) (xs : List X) → j ≡ suc i → position_from test j xs ≡ option_map (λ n. suc n) (position_from test i xs)
later test i j [] e = refl
later test i j (x ∷ xs) e =
    let next : j + 1 ≡ suc (i + 1) = omega (arith, e) in
    next_by (test x) i j (position_from test (i + 1) xs) (position_from test (j + 1) xs) e (later test (i + 1) (j + 1) xs next)

place_from : (scripts : List ScriptValues) (script : ℕ) → place_of scripts script ≡ position_from (is_script script) 0 scripts
place_from scripts script = position_from-zero (is_script script) scripts

values_by : (here : Bool) (first : ScriptValues) (rest : List ScriptValues) (o : Option ℕ) → values_at (first ∷ rest) (cond here (Some 0) (option_map (λ n. suc n) o)) ≡ cond here first.values (values_at rest o)
values_by true first rest o = refl
values_by false first rest None = refl
values_by false first rest (Some n) = refl

values_from : (scripts : List ScriptValues) (script : ℕ) → values_at scripts (position_from (is_script script) 0 scripts) ≡ world.values_of (variables_of scripts) script
values_from [] script = refl
values_from (first ∷ rest) script =
    ap (λ o. values_at (first ∷ rest) (cond (is_script script first) (Some 0) o)) (later (is_script script) 0 1 rest refl) ∙ (values_by (is_script script first) first rest (position_from (is_script script) 0 rest) ∙ ap (λ vs. cond (is_script script first) first.values vs) (values_from rest script))

values_same : (scripts : List ScriptValues) (script : ℕ) → values_of scripts script ≡ world.values_of (variables_of scripts) script
values_same scripts script = ap (values_at scripts) (place_from scripts script) ∙ values_from scripts script

written_by : (here : Bool) (first : ScriptValues) (rest : List ScriptValues) (o : Option ℕ) (n : ℕ) (value : Value) → variables_of (scripts_with_at (first ∷ rest) (cond here (Some 0) (option_map (λ m. suc m) o)) n value) ≡ cond here ((first.script, slice_set first.values n value) ∷ variables_of rest) ((first.script, first.values) ∷ variables_of (scripts_with_at rest o n value))
written_by true first rest o n value = refl
written_by false first rest None n value = refl
written_by false first rest (Some m) n value = refl

written_from : (scripts : List ScriptValues) (script n : ℕ) (value : Value) → variables_of (scripts_with_at scripts (position_from (is_script script) 0 scripts) n value) ≡ with_variable (variables_of scripts) script n value
written_from [] script n value = refl
written_from (first ∷ rest) script n value =
    ap (λ o. variables_of (scripts_with_at (first ∷ rest) (cond (is_script script first) (Some 0) o) n value)) (later (is_script script) 0 1 rest refl) ∙ (written_by (is_script script first) first rest (position_from (is_script script) 0 rest) n value ∙ ap (λ vs. cond (is_script script first) ((first.script, slice_set first.values n value) ∷ variables_of rest) ((first.script, first.values) ∷ vs)) (written_from rest script n value))

written_same : (scripts : List ScriptValues) (script n : ℕ) (value : Value) → variables_of (scripts_with scripts script n value) ≡ with_variable (variables_of scripts) script n value
written_same scripts script n value =
    ap (λ o. variables_of (scripts_with_at scripts o n value)) (place_from scripts script) ∙ written_from scripts script n value

-- ---- what operands are worth
variable_same : (instances : List InstanceState) (arrays : List Stored) (own : Option ℕ) (rest : Rest) (script n : ℕ) → variable_in instances own script n ≡ world.variable_of (sight_of instances arrays own rest).variables script n
variable_same instances arrays None rest script n = refl
variable_same instances arrays (Some i) rest script n =
    ap (λ vs. slice_index_or vs n values.NoneValue) (values_same (instance_at instances i).scripts script)

self_same : (own : Option ℕ) → own_instance own ≡ self_value own
self_same None = refl
self_same (Some i) = refl

state_same : (instances : List InstanceState) (arrays : List Stored) (own : Option ℕ) (rest : Rest) → state_in instances own ≡ values.Text (sight_of instances arrays own rest).state
state_same instances arrays None rest = refl
state_same instances arrays (Some i) rest = refl

pub worth_meant : (home : Home) (inner : Inner) (rest : Rest) (o : Operand) → worth home inner o ≡ code.worth (home_of home) (inner_of home inner rest) (operand_of o)
worth_meant home inner rest operands.NoneValue = refl
worth_meant home inner rest (operands.Quoted text) = refl
worth_meant home inner rest (operands.Int n) = refl
worth_meant home inner rest (operands.Bool b) = refl
worth_meant home inner rest (operands.Slot n) = refl
worth_meant home inner rest (operands.Variable n) =
    variable_same inner.store.now.instances inner.store.now.arrays home.instance rest home.script n
worth_meant home inner rest operands.Instance = self_same home.instance
worth_meant home inner rest operands.State = state_same inner.store.now.instances inner.store.now.arrays home.instance rest

-- ---- what values count as
pub number_same : (value : Value) → number_in value ≡ meant.number_of value
number_same values.NoneValue = refl
number_same (values.Int n) = refl
number_same (values.Bool b) = refl
number_same (values.Text t) = refl
number_same (values.Instance n) = refl
number_same (values.Array n) = refl

pub text_same : (value : Value) → text_in value ≡ meant.text_of value
text_same values.NoneValue = refl
text_same (values.Int n) = refl
text_same (values.Bool b) = refl
text_same (values.Text t) = refl
text_same (values.Instance n) = refl
text_same (values.Array n) = refl

pub array_same : (value : Value) → array_in value ≡ meant.array_of value
array_same values.NoneValue = refl
array_same (values.Int n) = refl
array_same (values.Bool b) = refl
array_same (values.Text t) = refl
array_same (values.Instance n) = refl
array_same (values.Array n) = refl

pub instance_same : (value : Value) → instance_in value ≡ meant.instance_of value
instance_same values.NoneValue = refl
instance_same (values.Int n) = refl
instance_same (values.Bool b) = refl
instance_same (values.Text t) = refl
instance_same (values.Instance n) = refl
instance_same (values.Array n) = refl

pub truth_same : (value : Value) → is_true value ≡ meant.is_true value
truth_same values.NoneValue = refl
truth_same (values.Int n) = refl
truth_same (values.Bool b) = refl
truth_same (values.Text []) = refl
truth_same (values.Text (x ∷ xs)) =
    elim (eqb (length (x ∷ xs)) 0) as (λ t. eqb (length (x ∷ xs)) 0 ≡ t → true ≡ not t) [
      | true ↦ λ e. absurd (let same = eqb-true (length (x ∷ xs)) 0 e in omega (arith, same))
      | false ↦ λ e. refl
    ] refl
truth_same (values.Instance n) = refl
truth_same (values.Array n) = refl

-- ---- types
local_same : (locals : List (List ℕ × Option CoreType)) (n : ℕ) → option_and_then (λ slot. slot.1) (slice_get locals n) ≡ slice_index_or (map (λ slot. slot.1) locals) n None
local_same [] n = refl
local_same (first ∷ rest) zero = refl
local_same (first ∷ rest) (suc n) = local_same rest n

slot_same : (parameters : List (List ℕ × CoreType)) (locals : List (List ℕ × Option CoreType)) (n : ℕ) → option_or (option_map (λ parameter. parameter.1) (slice_get parameters n)) (option_and_then (λ slot. slot.1) (slice_get locals (n - length parameters))) ≡ slice_index_or (map (λ kind. Some kind) (map (λ parameter. parameter.1) parameters) ++ map (λ slot. slot.1) locals) n None
slot_same [] locals n =
    let same : n - 0 ≡ n = omega arith in
    ap (λ m. option_and_then (λ slot. slot.1) (slice_get locals m)) same ∙ local_same locals n
slot_same (first ∷ rest) locals zero = refl
slot_same (first ∷ rest) locals (suc n) =
    let same : suc n - length (first ∷ rest) ≡ n - length rest = omega arith in
    ap (λ m. option_or (option_map (λ parameter. parameter.1) (slice_get rest n)) (option_and_then (λ slot. slot.1) (slice_get locals m))) same ∙ slot_same rest locals n

kind_same : (found : Option OutlineVariable) → option_map (λ variable. variable.kind) found ≡ code.kind_in found
kind_same None = refl
kind_same (Some v) = refl

script_same : (found : Option OutlineScript) (n : ℕ) → option_and_then (λ script. option_map (λ variable. variable.kind) (slice_get script.variables.items n)) found ≡ code.kind_in (slice_get (code.variables_in (option_map script_shape found)) n)
script_same None n = refl
script_same (Some script) n = kind_same (slice_get script.variables.items n)

variable_kind : (scripts : List OutlineScript) (script n : ℕ) → variable_type scripts script n ≡ code.kind_in (slice_get (code.variables_in (slice_get (map script_shape scripts) script)) n)
variable_kind scripts script n =
    script_same (slice_get scripts script) n ∙ ap (λ o. code.kind_in (slice_get (code.variables_in o) n)) (sym (slice_get-map script_shape scripts script))

pub type_meant : (home : Home) (o : Operand) → kind_of home o ≡ code.kind_of (home_of home) (operand_of o)
type_meant home operands.NoneValue = refl
type_meant home (operands.Quoted text) = refl
type_meant home (operands.Int n) = refl
type_meant home (operands.Bool b) = refl
type_meant home (operands.Slot n) = slot_same home.function.now.parameters.items home.function.now.locals.items n
type_meant home (operands.Variable n) = variable_kind home.turn.now.setting.now.loaded.outline home.script n
type_meant home operands.Instance = refl
type_meant home operands.State = refl

-- ---- stores
pub inner_same : (home : Home) (old new : Inner) (rest : Rest) → StoresNothing old new → inner_of home new rest ≡ inner_of home old rest
inner_same home old new rest s =
    ap (λ slots. record { slots = slots; sight = sight_of new.store.now.instances new.store.now.arrays home.instance rest }) s.slots ∙ (ap (λ instances. record { slots = old.slots.now.items; sight = sight_of instances new.store.now.arrays home.instance rest }) s.instances ∙ ap (λ arrays. record { slots = old.slots.now.items; sight = sight_of old.store.now.instances arrays home.instance rest }) s.arrays)

changed_at : (instances : List InstanceState) (i : ℕ) (f : InstanceState → InstanceState) → f no_instance ≡ no_instance → instance_at (slice_set instances i (f (instance_at instances i))) i ≡ f (instance_at instances i)
changed_at [] i f e = sym e
changed_at (first ∷ rest) zero f e = refl
changed_at (first ∷ rest) (suc i) f e = changed_at rest i f e

abbrev as_inner : List Value → List InstanceState → List Stored → Option ℕ → Rest → code.Inner
as_inner slots instances arrays own rest = record { slots = slots; sight = sight_of instances arrays own rest }

put_variable : (home : code.Home) (slots : List Value) (instances : List InstanceState) (arrays : List Stored) (own : Option ℕ) (rest : Rest) (n : ℕ) (value : Value) → as_inner slots (instances_with instances own home.script (operands.Variable n) value) arrays own rest ≡ code.with_value home (plain.Variable n) value (as_inner slots instances arrays own rest)
put_variable home slots instances arrays None rest n value = refl
put_variable home slots instances arrays (Some i) rest n value =
    let here = instance_at instances i in
    ap (λ (x : InstanceState). record { slots = slots; sight = record { variables = variables_of x.scripts; state = x.state; arrays = arrays_of arrays; devices = rest.devices; output = rest.output } }) (changed_at instances i (λ x. instance_with x home.script n value) refl) ∙ ap (λ vs. record { slots = slots; sight = record { variables = vs; state = here.state; arrays = arrays_of arrays; devices = rest.devices; output = rest.output } }) (written_same here.scripts home.script n value)

put_in : (instances : List InstanceState) (i : ℕ) (x : InstanceState) → i < length instances → instance_at (slice_set instances i x) i ≡ x
put_in [] i x h = absurd (omega (arith, h))
put_in (first ∷ rest) zero x h = refl
put_in (first ∷ rest) (suc i) x h = put_in rest i x (omega (arith, h))

put_state : (home : code.Home) (slots : List Value) (instances : List InstanceState) (arrays : List Stored) (own : Option ℕ) (rest : Rest) (value : Value) → home.setting.self ≡ own → IsThere own instances → as_inner slots (instances_with instances own home.script operands.State value) arrays own rest ≡ code.with_value home plain.StateText value (as_inner slots instances arrays own rest)
put_state home slots instances arrays None rest value is there =
    ap (λ self. record { slots = slots; sight = state_changed self (meant.text_of value) (sight_of instances arrays None rest) }) (sym is)
put_state home slots instances arrays (Some i) rest value is there =
    let here = instance_at instances i in
    ap (λ (x : InstanceState). record { slots = slots; sight = record { variables = variables_of x.scripts; state = x.state; arrays = arrays_of arrays; devices = rest.devices; output = rest.output } }) (put_in instances i (record here { state = text_in value }) there)
    ∙ (ap (λ text. record { slots = slots; sight = record { variables = variables_of here.scripts; state = text; arrays = arrays_of arrays; devices = rest.devices; output = rest.output } }) (text_same value)
    ∙ ap (λ self. record { slots = slots; sight = state_changed self (meant.text_of value) (sight_of instances arrays (Some i) rest) }) (sym is))

put : (home : Home) (slots : List Value) (instances : List InstanceState) (arrays : List Stored) (rest : Rest) (o : Operand) (value : Value) → IsThere home.instance instances → as_inner (slots_with slots o value) (instances_with instances home.instance home.script o value) arrays home.instance rest ≡ code.with_value (home_of home) (operand_of o) value (as_inner slots instances arrays home.instance rest)
put home slots instances arrays rest operands.NoneValue value there = refl
put home slots instances arrays rest (operands.Quoted text) value there = refl
put home slots instances arrays rest (operands.Int n) value there = refl
put home slots instances arrays rest (operands.Bool b) value there = refl
put home slots instances arrays rest (operands.Slot n) value there = refl
put home slots instances arrays rest (operands.Variable n) value there =
    put_variable (home_of home) slots instances arrays home.instance rest n value
put home slots instances arrays rest operands.Instance value there = refl
put home slots instances arrays rest operands.State value there =
    put_state (home_of home) slots instances arrays home.instance rest value refl there

keeps_meant : (home : Home) (old new : Inner) (rest : Rest) (o : Operand) (value : Value) → IsThere home.instance old.store.now.instances → Keeps home old new o value → inner_of home new rest ≡ code.with_value (home_of home) (operand_of o) value (inner_of home old rest)
keeps_meant home old new rest o value there s =
    ap (λ slots. as_inner slots new.store.now.instances new.store.now.arrays home.instance rest) s.slots ∙ (ap (λ instances. as_inner (slots_with old.slots.now.items o value) instances new.store.now.arrays home.instance rest) s.instances ∙ (ap (λ arrays. as_inner (slots_with old.slots.now.items o value) (instances_with old.store.now.instances home.instance home.script o value) arrays home.instance rest) s.arrays ∙ put home old.slots.now.items old.store.now.instances old.store.now.arrays rest o value there))

typed_meant : (home : Home) (old new : Inner) (rest : Rest) (kind : Option CoreType) (o : Operand) (value : Value) → IsThere home.instance old.store.now.instances → StoresTyped home old new kind o value → inner_of home new rest ≡ code.where_kept kind (code.with_value (home_of home) (operand_of o) value (inner_of home old rest)) (inner_of home old rest)
typed_meant home old new rest None o value there s = inner_same home old new rest s
typed_meant home old new rest (Some kind) o value there s = keeps_meant home old new rest o value there s

pub stored_meant : (home : Home) (old new : Inner) (rest : Rest) (o : Operand) (value : Value) → IsThere home.instance old.store.now.instances → Stores home old new o value → inner_of home new rest ≡ code.stored (home_of home) (operand_of o) value (inner_of home old rest)
stored_meant home old new rest o value there s =
    typed_meant home old new rest (kind_of home o) o value there s ∙ ap (λ kind. code.where_kept kind (code.with_value (home_of home) (operand_of o) value (inner_of home old rest)) (inner_of home old rest)) (type_meant home o)

-- ---- lines
line_same : (instances : List InstanceState) (arrays : List Stored) (own : Option ℕ) (rest : Rest) (line : Line) → with_line (sight_of instances arrays own rest) line ≡ sight_of instances arrays own (record rest { output = rest.output ++ line ∷ [] })
line_same instances arrays None rest line = refl
line_same instances arrays (Some i) rest line = refl

pub noted_same : (home : Home) (inner : Inner) (rest : Rest) (at : ℕ) (fault : Option StackFault) → code.noted (home_of home) at fault (inner_of home inner rest) ≡ inner_of home inner (printing home at fault rest)
noted_same home inner rest at None = refl
noted_same home inner rest at (Some fault) =
    ap (λ sight. record { slots = inner.slots.now.items; sight = sight }) (line_same inner.store.now.instances inner.store.now.arrays home.instance rest _)

pub seen_arrays : (home : Home) (inner : Inner) (rest : Rest) → (inner_of home inner rest).sight.arrays ≡ arrays_of inner.store.now.arrays
seen_arrays home inner rest = of_own home.instance where
  of_own : (own : Option ℕ) → (sight_of inner.store.now.instances inner.store.now.arrays own rest).arrays ≡ arrays_of inner.store.now.arrays
  of_own None = refl
  of_own (Some n) = refl
