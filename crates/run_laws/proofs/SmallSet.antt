-- Two engines that are alike: those of one small set, as trees and as code.
use Rattle.std.proofs.Common.{◌≡◌, ℕ, zero, suc, Bool, true, false, cond, List, [], ◌∷◌, Option, Some, None, refl, sym, subst}
use Rattle.std.specs.Prelude.{codes, is_some, pos, slice_get}
use Rattle.std.specs.Option.{option_or}
use Rattle.std.specs.Str.{str_eq_ignore_ascii_case}
use Rattle.core_tree.specs.declared.core_type.CoreType.TheVariants as kinds
use Rattle.core_tree.specs.declared.operator.Arith.TheVariants as signs
use Rattle.core_tree.specs.declared.value.Value.{Value}
use Rattle.core_tree.specs.declared.value.Value.TheVariants as values
use Rattle.core_tree.specs.Outlines.{ScriptShape}
use Rattle.core_tree.specs.Set as trees
use Rattle.core_tree.specs.Tree.{Calculate, Literal, Local, Apply, one, two, StoreLocal, GiveBack, Do, Block, NoStatement, MoreStatements}
use Rattle.run_laws.specs.Fits.{by_types}
use Rattle.run_laws.specs.Related.{EnteredAlike, both_open, both_nothing, EnginesAlike, SameStop}
use Rattle.script_meaning.specs.Requests.{Sight, Setting}
use Rattle.script_meaning.specs.Source as source
use Rattle.script_meaning.specs.Source.{run_body, enter_body, source_engine}
use Rattle.script_meaning.specs.Stacks.{Way, ByMethod, ByParent, ByGlobal, ByGet, BySet, Entered}
use Rattle.run_laws.specs.TypedTrees.{IsTypedScript, IsTypedSet, source_types}
use Rattle.script_meaning.specs.Values.{lineage}
use Rattle.run_laws.proofs.KeptAlike.{kept_alike}
use Rattle.run_laws.proofs.TreesEnter.{source_keeps}
use Rattle.code_meaning.specs.Code.{Slot, Function, Full, Property, Script}
use Rattle.code_meaning.specs.Code as op
use Rattle.code_meaning.specs.Engine.{code_engine}
use Rattle.code_meaning.specs.LookUp.{BodyPlace, OfState, OfGet, OfSet, Body, script_of, function_at, property_at, get_entered, set_entered, enter_code}
use Rattle.code_meaning.specs.Execution.{run_code}
use Rattle.run_laws.specs.TypedCode.{IsTyped as IsTypedCode, IsTypedSet as IsTypedCodeSet}
use Rattle.std.specs.List.{AllByRecursion}

-- ---- the set: a script with `Int Property N`, whose Get is `Int l = 5` and `Return l + 1`
abbrev outline : List ScriptShape
outline =
    record { name = codes "S"; parent = None; auto_state = None; variables = []; properties = []; functions = [] } ∷ []

abbrev body : Block
body =
    MoreStatements 3 (Do (StoreLocal 0) (one (Literal (values.Int (pos 5))))) (MoreStatements 4 (Do GiveBack (one (Apply (Calculate signs.Add) (two (Local 0) (Literal (values.Int (pos 1))))))) NoStatement)

abbrev tree : trees.Function
tree =
    record { name = codes "Get"; parameters = []; locals = kinds.Int ∷ []; result = Some kinds.Int; is_global = false; is_native = false; doc = None; flags = 0; body = body; end_line = 5 }

abbrev property : trees.Property
property = record { name = codes "N"; kind = kinds.Int; access = trees.Full (Some tree) None; doc = None; flags = 0 }

abbrev scripts : List trees.Script
scripts =
    record { file = codes "S.psc"; name = codes "S"; parent = None; flags = 0; doc = None; auto_state = None; variables = []; properties = property ∷ []; states = [] } ∷ []

abbrev code : Function
code =
    record { name = codes "N"; parameters = []; locals = Some kinds.Int ∷ Some kinds.Int ∷ []; result = Some kinds.Int; is_global = false; is_native = false; code = op.Assign (Slot 0) (op.Literal (values.Int (pos 5))) ∷ op.IAdd (Slot 1) (Slot 0) (op.Literal (values.Int (pos 1))) ∷ op.Return (Slot 1) ∷ []; lines = 3 ∷ 4 ∷ 4 ∷ [] }

abbrev loaded : List Script
loaded = record { properties = record { name = codes "N"; access = Full (Some code) None } ∷ []; states = [] } ∷ []

-- ---- its trees are typed
typed_script : IsTypedScript outline scripts 0 (record { file = codes "S.psc"; name = codes "S"; parent = None; flags = 0; doc = None; auto_state = None; variables = []; properties = property ∷ []; states = [] })
typed_script = record {
  functions = tt;
  accessors = ((((Some kinds.Int ∷ [], (refl, refl), (kinds.Int, refl, refl)), ((Some kinds.Int ∷ [], ((Some kinds.Int ∷ Some kinds.Int ∷ [], (refl, (refl, refl)), (refl, refl)), refl), refl), tt)), tt), tt);
}

each_typed : (number : ℕ) (script : trees.Script) → slice_get scripts number ≡ Some script → IsTypedScript outline scripts number script
each_typed zero script e = let same : ◌≡◌ {A = trees.Script} _ script = cc in subst (λ s. IsTypedScript outline scripts 0 s) same typed_script
each_typed (suc number) script e = absurd (cc)

each_above : (script : ℕ) (shape : ScriptShape) → slice_get outline script ≡ Some shape → lineage outline (Some script) ≡ script ∷ lineage outline shape.parent
each_above zero shape e =
    let same : ◌≡◌ {A = ScriptShape} (record { name = codes "S"; parent = None; auto_state = None; variables = []; properties = []; functions = [] }) shape = cc in
    subst (λ (s : ScriptShape). lineage outline (Some 0) ≡ 0 ∷ lineage outline s.parent) same refl
each_above (suc script) shape e = absurd (cc)

pub small_typed : IsTypedSet outline scripts
small_typed = record { each = each_typed; above = each_above }

-- ---- bodies that are related: those that were just opened
abbrev opened_tree : source.Body
opened_tree = source.body_of 0 (codes "N") tree []

abbrev opened_code : Body
opened_code =
    record { place = OfGet 0 0; instruction = 0; slots = values.Int (pos 0) ∷ values.Int (pos 0) ∷ [] }

abbrev pub Both : Bool → source.Body → Body → Type 0
Both true b c = ⊥
Both false b c = (b ≡ opened_tree) × (c ≡ opened_code)

abbrev Alike : Entered source.Body → Entered Body → Type 0
Alike e d = EnteredAlike (Both false) e d

-- where the name of the property is asked for, its Get is opened
abbrev loaded_property : Property
loaded_property = record { name = codes "N"; access = Full (Some code) None }

get_by : (here : Bool) → Alike (source.get_found (source.or_else_found (source.with_script 0 (cond here (Some property) None)) None)) (get_entered (option_or (property_at 0 (cond here (Some (0, loaded_property)) None)) None))
get_by true = both_open (refl, refl)
get_by false = both_nothing

set_by : (arguments : List Value) (here : Bool) → Alike (source.set_found arguments (source.or_else_found (source.with_script 0 (cond here (Some property) None)) None)) (set_entered arguments (option_or (property_at 0 (cond here (Some (0, loaded_property)) None)) None))
set_by arguments true = both_nothing
set_by arguments false = both_nothing

enter_alike : (way : Way) (script : Option ℕ) (state : List ℕ) (arguments : List Value) → Alike (enter_body outline scripts script state way arguments) (enter_code outline loaded script state way arguments)
enter_alike (ByMethod name) None state arguments = both_nothing
enter_alike (ByMethod name) (Some zero) state arguments = both_nothing
enter_alike (ByMethod name) (Some (suc script)) state arguments = both_nothing
enter_alike (ByParent zero name) script state arguments = both_nothing
enter_alike (ByParent (suc calling) name) script state arguments = both_nothing
enter_alike (ByGlobal zero name) script state arguments = both_nothing
enter_alike (ByGlobal (suc library) name) script state arguments = both_nothing
enter_alike (ByGet name) None state arguments = both_nothing
enter_alike (ByGet name) (Some zero) state arguments = get_by (str_eq_ignore_ascii_case (codes "N") name)
enter_alike (ByGet name) (Some (suc script)) state arguments = both_nothing
enter_alike (BySet name) None state arguments = both_nothing
enter_alike (BySet name) (Some zero) state arguments = set_by arguments (str_eq_ignore_ascii_case (codes "N") name)
enter_alike (BySet name) (Some (suc script)) state arguments = both_nothing

-- a body runs to its Return, and gives 5 + 1 by both engines
run_alike : (setting : Setting) (b : source.Body) (c : Body) (reply : Option Value) (sight : Sight) → Both (is_some reply) b c → SameStop Both (run_body scripts setting b reply sight) (run_code loaded setting c reply sight)
run_alike setting b c None sight r =
    subst (λ x. SameStop Both (run_body scripts setting x None sight) (run_code loaded setting c None sight)) (sym r.0) (subst (λ y. SameStop Both (run_body scripts setting opened_tree None sight) (run_code loaded setting y None sight)) (sym r.1) (record { request = refl; sight = refl; bodies = tt }))
run_alike setting b c (Some reply) sight r = absurd r

pub small_alike : EnginesAlike (by_types (source_types outline scripts)) (λ self. Both) (source_engine outline scripts) (code_engine outline loaded)
small_alike =
    kept_alike (source_types outline scripts) (λ self. Both) (source_engine outline scripts) (code_engine outline loaded) (source_keeps outline scripts small_typed) (record { enter = λ setting sight script way arguments s a. enter_alike way script sight.state arguments; run = λ setting b c reply sight r s f. run_alike setting b c reply sight r })

-- ---- its code is typed
typed_at : (at : BodyPlace) (function : Function) → function_at loaded at ≡ Some function → AllByRecursion (IsTypedCode (record { outline = outline; scripts = loaded; script = script_of at; function = function })) function.code
typed_at (OfState zero state number) function e = absurd (cc)
typed_at (OfState (suc script) state number) function e = absurd (cc)
typed_at (OfGet zero zero) function e =
    let same : code ≡ function = cc in
    subst (λ (f : Function). AllByRecursion (IsTypedCode (record { outline = outline; scripts = loaded; script = 0; function = f })) f.code) same (((tt, refl), tt), (((tt, refl), refl, refl), (refl, tt)))
typed_at (OfGet zero (suc property)) function e = absurd (cc)
typed_at (OfGet (suc script) property) function e = absurd (cc)
typed_at (OfSet zero zero) function e = absurd (cc)
typed_at (OfSet zero (suc property)) function e = absurd (cc)
typed_at (OfSet (suc script) property) function e = absurd (cc)

pub small_code_typed : IsTypedCodeSet outline loaded
small_code_typed = record { functions = typed_at; above = each_above }
