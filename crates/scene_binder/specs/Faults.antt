-- Which of the rules C4 to C10 a scene breaks, in the order in which they are tried.
use Rattle.std.specs.Prelude.{ℕ, ◌≡◌, List, [], ◌∷◌, ◌++◌, flat_map, length, Bool, true, false, not, nat_lt, ◌&&◌, ◌||◌, if◌then◌else◌, Option, Some, None, is_some, is_none, option_and_then, option_map, slice_get, Result, Ok, Err}
use Rattle.std.specs.List.{list_all}
use Rattle.std.specs.Option.{option_or}
use Rattle.papy_base.specs.Case.{folded}
use Rattle.papy_base.specs.Lineage.{lineage, stands_below}
use Rattle.core_tree.specs.Outlines.{name_in, parents_of}
use Rattle.core_tree.specs.Values.{holds_none}
use Rattle.core_tree.specs.declared.core_type.CoreType.{CoreType}
use Rattle.core_tree.specs.declared.core_type.CoreType.TheVariants as kinds
use Rattle.core_tree.specs.declared.outline.OutlineFunction.{OutlineFunction}
use Rattle.core_tree.specs.declared.outline.OutlineProperty.{OutlineProperty}
use Rattle.core_tree.specs.declared.outline.OutlineScript.{OutlineScript}
use Rattle.core_tree.specs.declared.scene_tree.Binding.{Binding}
use Rattle.core_tree.specs.declared.scene_tree.Binding.TheVariants as bindings
use Rattle.core_tree.specs.declared.scene_tree.SceneCall.{SceneCall}
use Rattle.core_tree.specs.declared.scene_tree.SceneInstance.{SceneInstance}
use Rattle.core_tree.specs.declared.scene_tree.SceneTree.{SceneTree}
use Rattle.core_tree.specs.declared.scene_tree.SceneValue.{SceneValue}
use Rattle.core_tree.specs.declared.scene_tree.SceneValue.TheVariants as written
use Rattle.scene_reader.specs.declared.fault.SceneFault.{SceneFault}
use Rattle.scene_reader.specs.declared.fault.SceneFault.TheVariants as faults
use Rattle.scene_reader.specs.declared.fault.SceneRule.{SceneRule}
use Rattle.scene_reader.specs.declared.fault.SceneRule.TheVariants as rules
use Rattle.scene_binder.specs.Instances.{tree_name, tree_script}
use Rattle.scene_binder.specs.Meant.{binding_in, default_entries, full_name, instance_named}
use Rattle.scene_binder.specs.Members.{functions_in, own_function, own_property, script_named}
use Rattle.scene_binder.specs.Names.{entry_name, first_of}
use Rattle.scene_binder.specs.Natives.{native_places}

-- ---- lists of broken rules

-- the rule, where it is broken
abbrev pub broken : SceneRule → Bool → List SceneRule
broken rule false = []
broken rule true = rule ∷ []

-- what each item breaks beside those that stand before it
abbrev pub in_turn : {X : Type 0} → (List X → X → List SceneRule) → List X → List X → List SceneRule
in_turn breaks before [] = []
in_turn breaks before (x ∷ xs) = breaks before x ++ in_turn breaks (before ++ x ∷ []) xs

-- C10: one of those before it has the name of this item
abbrev pub is_taken : {X : Type 0} → (X → List ℕ) → List X → List ℕ → Bool
is_taken name_of before name = is_some (first_of name_of before (folded name))

-- the first of these rules
abbrev pub IsFirst : List SceneRule → SceneRule → Type 0
IsFirst [] rule = ⊥
IsFirst (first ∷ others) rule = rule ≡ first

-- the fault is of the first of these rules, or of memory
abbrev pub IsFirstBroken : SceneFault → List SceneRule → Type 0
IsFirstBroken (faults.Broken rule) broken = IsFirst broken rule
IsFirstBroken faults.OutOfMemory broken = Unit {0}

-- something is given only where no rule is broken, and a refusal is by the first that is
abbrev pub IsJudgedBy : {X : Type 0} → List SceneRule → Result X SceneFault → Type 0
IsJudgedBy broken (Ok given) = broken ≡ []
IsJudgedBy broken (Err fault) = IsFirstBroken fault broken

-- ---- what names mean

-- numbers of scripts and instances have 16 bits
abbrev pub is_number : ℕ → Bool
is_number n = nat_lt n 65536

abbrev pub kept_if : {X : Type 0} → (X → Bool) → Option X → Option X
kept_if test found = option_and_then (λ x. if test x then Some x else None) found

-- the script of this name, where it may have instances: all may but for Debug, Utility and Scene, the first three
abbrev pub instantiable : List OutlineScript → List ℕ → Option ℕ
instantiable scripts name = kept_if (λ n. not (nat_lt n 3) && is_number n) (script_named scripts name)

-- the script of the instance of this name
abbrev pub instance_script : List OutlineScript → List SceneInstance → List ℕ → Option ℕ
instance_script scripts instances name =
    option_and_then (λ n. option_and_then (tree_script scripts) (slice_get instances n)) (kept_if is_number (instance_named instances name))

-- what the first of these scripts has that has something of its own, after the number of the script
abbrev pub first_own : {X : Type 0} → (ℕ → Option X) → List ℕ → Option (ℕ × X)
first_own own [] = None
first_own own (n ∷ ns) = option_or (option_map (λ x. (n, x)) (own n)) (first_own own ns)

-- of the Auto properties of this name that the script and those above it have, the nearest
abbrev pub property_for : List OutlineScript → Option ℕ → List ℕ → Option (ℕ × OutlineProperty)
property_for scripts script name =
    kept_if (λ found. is_number found.0) (option_and_then (λ n. first_own (own_property scripts (folded name)) (lineage (parents_of scripts) (Some n))) script)

-- the same of functions of empty states
abbrev pub function_for : List OutlineScript → Option ℕ → List ℕ → Option OutlineFunction
function_for scripts script name =
    option_map (λ found. found.1) (option_and_then (λ n. first_own (own_function scripts (folded name)) (lineage (parents_of scripts) (Some n))) script)

-- a native function of the outline
abbrev pub native_at : List OutlineScript → ℕ × ℕ → Option OutlineFunction
native_at scripts place = slice_get (functions_in (slice_get scripts place.0)) place.1

abbrev pub own_name : Option OutlineFunction → List ℕ
own_name None = []
own_name (Some function) = function.name

-- `Script.Function`
abbrev pub name_at : List OutlineScript → ℕ × ℕ → List ℕ
name_at scripts place = full_name (name_in (slice_get scripts place.0)) (own_name (native_at scripts place))

-- the first native function of this name
abbrev pub native_named : List OutlineScript → List ℕ → Option OutlineFunction
native_named scripts name = option_and_then (native_at scripts) (first_of (name_at scripts) (native_places scripts) (folded name))

-- ---- values and types

-- the script is the second one or stands below it
abbrev pub is_of : List OutlineScript → Option ℕ → ℕ → Bool
is_of scripts None script = false
is_of scripts (Some own) script = stands_below (parents_of scripts) own script

-- the value is of the type, where `script_of` has the scripts of instances by name: an array takes None alone, a script
-- also an instance of it or of a script below it
abbrev pub value_fits : List OutlineScript → (List ℕ → Option ℕ) → CoreType → SceneValue → Bool
value_fits scripts script_of kind written.NoneValue = holds_none kind
value_fits scripts script_of kinds.Int (written.Int number) = true
value_fits scripts script_of kinds.Bool (written.Bool truth) = true
value_fits scripts script_of kinds.Text (written.Text text) = true
value_fits scripts script_of (kinds.Script script) (written.Instance name) = is_of scripts (script_of name) script
value_fits scripts script_of _ _ = false

-- a value for each type, each of its type
abbrev pub values_fit : List OutlineScript → (List ℕ → Option ℕ) → List CoreType → List SceneValue → Bool
values_fit scripts script_of [] [] = true
values_fit scripts script_of [] (value ∷ values) = false
values_fit scripts script_of (kind ∷ kinds) [] = false
values_fit scripts script_of (kind ∷ kinds) (value ∷ values) = value_fits scripts script_of kind value && values_fit scripts script_of kinds values

-- ---- what native functions may do

-- devices know whole numbers and truth values
abbrev pub is_cell : CoreType → Bool
is_cell kinds.Int = true
is_cell kinds.Bool = true
is_cell _ = false

abbrev pub is_reply : Option CoreType → Bool
is_reply None = true
is_reply (Some kind) = is_cell kind

abbrev pub is_int : CoreType → Bool
is_int kinds.Int = true
is_int _ = false

abbrev pub is_text : CoreType → Bool
is_text kinds.Text = true
is_text _ = false

abbrev pub one_int : List CoreType → Bool
one_int (kind ∷ []) = is_int kind
one_int _ = false

abbrev pub text_first : List CoreType → Bool
text_first [] = false
text_first (kind ∷ others) = is_text kind

-- a sleeper has one Int and no result, what traces a Text first and no result, and what calls a device Int and Bool alone
abbrev pub types_allow : List CoreType → Option CoreType → Binding → Bool
types_allow parameters outcome bindings.Sleep = one_int parameters && is_none outcome
types_allow parameters outcome (bindings.Trace latency) = text_first parameters && is_none outcome
types_allow parameters outcome bindings.PromptTrace = text_first parameters && is_none outcome
types_allow parameters outcome (bindings.Device device latency) = list_all is_cell parameters && is_reply outcome
types_allow parameters outcome (bindings.PromptDevice device) = list_all is_cell parameters && is_reply outcome

abbrev pub allows : OutlineFunction → Binding → Bool
allows function binding = types_allow function.parameters.items function.result binding

-- the device that is called is one of so many
abbrev pub has_device : ℕ → Binding → Bool
has_device devices (bindings.Device device latency) = nat_lt device devices
has_device devices (bindings.PromptDevice device) = nat_lt device devices
has_device devices bindings.Sleep = true
has_device devices (bindings.Trace latency) = true
has_device devices bindings.PromptTrace = true

-- ---- the steps

-- an instance: C10, C4
abbrev pub instance_breaks : List OutlineScript → List SceneInstance → SceneInstance → List SceneRule
instance_breaks scripts before instance =
    broken rules.DuplicateName (is_taken tree_name before instance.name) ++ broken rules.NoScript (is_none (instantiable scripts instance.script))

abbrev pub set_name : List ℕ × SceneValue → List ℕ
set_name entry = entry.0

-- a value for a property: C5, C7
abbrev pub value_breaks : List OutlineScript → (List ℕ → Option ℕ) → Option (ℕ × OutlineProperty) → SceneValue → List SceneRule
value_breaks scripts script_of None value = rules.NoProperty ∷ []
value_breaks scripts script_of (Some property) value = broken rules.Arguments (not (value_fits scripts script_of property.1.kind value))

-- an entry of the `set` of an instance of this script: C10, C5, C7
abbrev pub entry_breaks : List OutlineScript → (List ℕ → Option ℕ) → Option ℕ → List (List ℕ × SceneValue) → List ℕ × SceneValue → List SceneRule
entry_breaks scripts script_of script before entry =
    broken rules.DuplicateName (is_taken set_name before entry.0) ++ value_breaks scripts script_of (property_for scripts script entry.0) entry.1

abbrev pub set_breaks : List OutlineScript → (List ℕ → Option ℕ) → SceneInstance → List SceneRule
set_breaks scripts script_of instance = in_turn (entry_breaks scripts script_of (tree_script scripts instance)) [] instance.set.items

-- what a native function is to do: C6, C9, the types of C8
abbrev pub binding_breaks : ℕ → Option OutlineFunction → Binding → List SceneRule
binding_breaks devices None binding = rules.NoFunction ∷ []
binding_breaks devices (Some function) binding =
    broken rules.NoDevice (not (has_device devices binding)) ++ broken rules.UnboundNative (not (allows function binding))

-- an entry of `natives`: C10, C6, C9, the types of C8
abbrev pub native_breaks : List OutlineScript → ℕ → List (List ℕ × Binding) → List ℕ × Binding → List SceneRule
native_breaks scripts devices before entry =
    broken rules.DuplicateName (is_taken entry_name before entry.0) ++ binding_breaks devices (native_named scripts entry.0) entry.1

-- what a native function does without an entry: C9
abbrev pub default_breaks : List OutlineScript → ℕ → List (List ℕ × Binding) → List ℕ × Binding → List SceneRule
default_breaks scripts devices entries default =
    broken rules.NoDevice (not (has_device devices default.1) && (is_some (native_named scripts default.0) && not (is_taken entry_name entries default.0)))

-- what the function of these folded bytes does without an entry, where its types allow it
abbrev pub default_for : List ℕ → OutlineFunction → Option Binding
default_for bytes function = kept_if (allows function) (binding_in default_entries bytes)

abbrev pub is_bound : List (List ℕ × Binding) → List ℕ → Option OutlineFunction → Bool
is_bound entries bytes None = false
is_bound entries bytes (Some function) = is_some (option_or (binding_in entries bytes) (default_for bytes function))

-- a native function: C8. One of a name that an earlier one has is never meant
abbrev pub unbound_breaks : List OutlineScript → List (List ℕ × Binding) → List (ℕ × ℕ) → ℕ × ℕ → List SceneRule
unbound_breaks scripts entries before place =
    broken rules.UnboundNative (is_taken (name_at scripts) before (name_at scripts place) || not (is_bound entries (folded (name_at scripts place)) (native_at scripts place)))

abbrev pub has_body : OutlineFunction → Bool
has_body function = not function.is_native && not function.is_global

-- arguments for a function: C6, C7
abbrev pub arguments_break : List OutlineScript → (List ℕ → Option ℕ) → Option OutlineFunction → List SceneValue → List SceneRule
arguments_break scripts script_of None arguments = rules.NoFunction ∷ []
arguments_break scripts script_of (Some function) arguments = broken rules.Arguments (not (values_fit scripts script_of function.parameters.items arguments))

-- a call: C6, C7. It has a function of an empty state with a body that belongs to instances
abbrev pub call_breaks : List OutlineScript → (List ℕ → Option ℕ) → SceneCall → List SceneRule
call_breaks scripts script_of call =
    arguments_break scripts script_of (kept_if has_body (function_for scripts (script_of call.instance) call.function)) call.arguments.items

-- natives and tapes: the entries, then what is done without an entry, then the tapes, then natives without binding
abbrev pub natives_break : List OutlineScript → ℕ → List (List ℕ × Binding) → ℕ → List SceneRule
natives_break scripts devices entries tapes =
    in_turn (native_breaks scripts devices) [] entries ++ (flat_map (default_breaks scripts devices entries) default_entries ++ (broken rules.NoDevice (nat_lt devices tapes) ++ in_turn (unbound_breaks scripts entries) [] (native_places scripts)))

-- all rules that a scene breaks with these scripts and so many devices, all of a step before the next one: instances, sets,
-- natives and tapes, calls
unfoldable pub binding_faults : List OutlineScript → ℕ → SceneTree → List SceneRule
binding_faults scripts devices tree =
    let script_of = instance_script scripts tree.instances.items in
    in_turn (instance_breaks scripts) [] tree.instances.items ++ (flat_map (set_breaks scripts script_of) tree.instances.items ++ (natives_break scripts devices tree.natives.items (length tree.tapes.items) ++ flat_map (call_breaks scripts script_of) tree.calls.items))
