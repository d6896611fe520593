-- Instructions are typed where they are accepted, by cases on opcodes.
use Rattle.std.proofs.Common.{◌≡◌, ℕ, zero, suc, ◌<◌, List, [], ◌∷◌, Option, Some, None, length, refl, ap, subst, ◌∙◌, arith, vec_len}
use Rattle.std.specs.Prelude.{map, slice_get, slice_index_or}
use Rattle.std.proofs.lemmas.Option.{get_or_from_slice_get, slice_get_within}
use Rattle.core_tree.specs.declared.core_type.CoreType.TheVariants as kinds
use Rattle.core_tree.specs.Outlines.{ScriptShape}
use Rattle.pex_set.specs.Names.{number_in}
use Rattle.pex_values.specs.declared.values.Datum.{Datum}
use Rattle.pex_values.specs.declared.values.Datum.TheVariants as values
use Rattle.pex_values.specs.declared.values.Instruction.{Instruction}
use Rattle.code_meaning.specs.Code.{Instruction as Typed, Function as Code, Script}
use Rattle.code_meaning.specs.Code as op
use Rattle.run_laws.specs.TypedCode.{Scope, IsTyped}
use Rattle.pex_verify.specs.declared.action.Action.{Action}
use Rattle.pex_verify.specs.declared.action.Action.TheVariants as action
use Rattle.pex_verify.specs.declared.action.Use.{Use}
use Rattle.pex_verify.specs.declared.action.Use.TheVariants.{Name}
use Rattle.pex_verify.specs.declared.form.Form.{Form}
use Rattle.pex_verify.specs.declared.form.Form.TheVariants as form
use Rattle.pex_verify.specs.declared.form.PlainForm.TheVariants as plain
use Rattle.pex_verify.specs.declared.judged.JudgedOperand.{JudgedOperand as Operand}
use Rattle.pex_verify.specs.declared.judged.JudgedOperand.TheVariants as loaded
use Rattle.pex_verify.specs.declared.operand_rules.Lookup.{Lookup}
use Rattle.pex_verify.specs.declared.operand_rules.Lookup.TheVariants.{Unsought, Missing, Function, Property}
use Rattle.pex_verify.specs.declared.scope.FunctionScope.{FunctionScope}
use Rattle.pex_verify.specs.declared.value_type.ValueType.{ValueType}
use Rattle.pex_verify.specs.Accepted.{at, OperandsFit}
use Rattle.pex_verify.specs.Agreement.{Agrees, AreNumbered, Stands}
use Rattle.pex_verify.specs.Found.{Allows, AreTold, IsSpelled, LooksUp, name_by, script_named_by, word_number}
use Rattle.pex_verify.specs.Judged.{IsJudged, IsJudgedAs}
use Rattle.pex_verify.specs.Fitting.{FitsIn}
use Rattle.pex_verify.specs.Judgement.{IsSeenIn, spans_of, type_by}
use Rattle.pex_verify.specs.JudgedCode.{Operands, by_form, form_table, instruction_by, name_of, number_of, operand_of, script_named, size_of}
use Rattle.pex_verify.specs.Uses.{action_table, use_at, uses_of}
use Rattle.pex_verify.proofs.Typing.{gives_result, seen, takes_cast, takes_value}
use Rattle.pex_verify.proofs.TypedCalls.{calls_method, calls_parent, calls_static, gets_property, object_below, sets_property}
use Rattle.pex_verify.proofs.TypedValues.{compare, compares, computes, creates, finds, gets_element, measures, own, sets_element, takes_kind}

-- ---- two tables, by place
abbrev nothing : Form
nothing = form.Plain plain.Nop

abbrev Paired : (Action → Form → Type 0) → List Action → List Form → Type 0
Paired Holds [] [] = Unit {0}
Paired Holds (a ∷ actions) (kind ∷ rest) = Holds a kind × Paired Holds actions rest
Paired Holds _ _ = ⊥

at_place : (Holds : Action → Form → Type 0) (actions : List Action) (table : List Form) → Paired Holds actions table → (k : ℕ) (a : Action) → slice_get actions k ≡ Some a → Holds a (slice_index_or table k nothing)
at_place Holds [] table each k a same = absurd (cc)
at_place Holds (first ∷ actions) [] each k a same = absurd each
at_place Holds (first ∷ actions) (kind ∷ table) each zero a same =
    let e : first ≡ a = cc in
    subst (λ (b : Action). Holds b kind) e each.0
at_place Holds (first ∷ actions) (kind ∷ table) each (suc k) a same = at_place Holds actions table each.1 k a same

-- ---- operands
seen_below : (scope : FunctionScope) (operands : List Operand) → ((k : ℕ) (d : Operand) → k < length operands → IsSeenIn scope.is_global (slice_index_or operands k d)) → (k : ℕ) → IsSeenIn scope.is_global (slice_index_or operands k loaded.NoneValue)
seen_below scope [] each k = tt
seen_below scope (o ∷ operands) each zero = each 0 o (omega arith)
seen_below scope (o ∷ operands) each (suc k) =
    seen_below scope operands (λ i d h. each (suc i) d (omega arith)) k

each_seen : (scope : FunctionScope) (uses : List Use) (given : List Datum) (operands : List Operand) → AreTold scope uses given operands → (k : ℕ) (d : Operand) → k < length operands → IsSeenIn scope.is_global (slice_index_or operands k d)
each_seen scope uses given operands told k d h = (told.each k d values.NoneValue h).seen

-- the number of a name that stands for itself is that of the operand's bytes
word_at : (scope : FunctionScope) (names : List (List ℕ)) (numbered : AreNumbered scope names) (uses : List Use) (given : List Datum) (operands : List Operand) (told : AreTold scope uses given operands) (k number : ℕ) (found : Option Datum)
    → slice_get given k ≡ found → use_at uses k ≡ Name → word_number scope.source.now.names.now found ≡ Some number → number_in names (name_of (at operands k)) ≡ Some number
word_at scope names numbered uses given operands told k number None is usage same = absurd (cc)
word_at scope names numbered uses given operands told k number (Some values.NoneValue) is usage same = absurd (cc)
word_at scope names numbered uses given operands told k number (Some (values.Word reference)) is usage same =
    let within : k < length operands = omega (arith, slice_get_within given k (values.Word reference) is, told.count) in
    let here = told.each k loaded.NoneValue (values.Word reference) within in
    let datum : slice_index_or given k (values.Word reference) ≡ values.Word reference = get_or_from_slice_get given k (values.Word reference) (values.Word reference) is in
    let by_datum : IsSpelled scope (use_at uses k) (values.Word reference) (at operands k) = subst (λ (d : Datum). IsSpelled scope (use_at uses k) d (at operands k)) datum here.spelled in
    let spelled : at operands k ≡ loaded.Word (slice_index_or scope.source.now.titles.now reference []) = subst (λ (u : Use). IsSpelled scope u (values.Word reference) (at operands k)) usage by_datum in
    ap (λ (o : Operand). number_in names (name_of o)) spelled ∙ (numbered reference ∙ same)
word_at scope names numbered uses given operands told k number (Some (values.Quoted reference)) is usage same = absurd (cc)
word_at scope names numbered uses given operands told k number (Some (values.Int n)) is usage same = absurd (cc)
word_at scope names numbered uses given operands told k number (Some (values.Float n)) is usage same = absurd (cc)
word_at scope names numbered uses given operands told k number (Some (values.Bool n)) is usage same = absurd (cc)

module _ (scope : FunctionScope) (names : List (List ℕ)) (outline : List ScriptShape) (scripts : List Script) (function : Code) (agrees : Agrees scope.home.now.set.now names outline scripts) (numbered : AreNumbered scope names) (stands : Stands scope outline function) (instruction : Instruction) (fixed more : List Operand) where
  abbrev placed : Scope
  placed = record { outline = outline; scripts = scripts; script = scope.home.now.here; function = function }

  abbrev operands : Operands
  operands = record { outline = outline; fixed = fixed; more = more }

  -- what is to be shown of each row of the two tables
  abbrev Row : Action → Form → Type 0
  Row a kind = IsJudgedAs scope a instruction fixed more → IsTyped placed (by_form kind operands)

  given_seen : (a : Action) → IsJudgedAs scope a instruction fixed more → (k : ℕ) → IsSeenIn scope.is_global (at fixed k)
  given_seen a j = seen_below scope fixed (each_seen scope (uses_of a) instruction.fixed.items fixed j.told)

  more_seen : (a : Action) → IsJudgedAs scope a instruction fixed more → (k : ℕ) (d : Operand) → k < length more → IsSeenIn scope.is_global (slice_index_or more k d)
  more_seen a j = each_seen scope [] instruction.more.items more j.more_told

  -- ---- rows that look nothing up
  arithmetic : IsJudgedAs scope action.Arithmetic instruction fixed more → IsTyped placed (op.IAdd (operand_of (at fixed 0)) (operand_of (at fixed 1)) (operand_of (at fixed 2)))
  arithmetic j =
      let s = given_seen action.Arithmetic j in
      computes scope outline scripts function agrees.types stands kinds.Int (at fixed 0) (at fixed 1) (at fixed 2) tt (s 0) (s 1) (s 2) j.fit

  order : IsJudgedAs scope action.Order instruction fixed more → IsTyped placed (op.CmpLt (operand_of (at fixed 0)) (operand_of (at fixed 1)) (operand_of (at fixed 2)))
  order j =
      let s = given_seen action.Order j in
      compares scope outline scripts function agrees.types stands (at fixed 0) (at fixed 1) (at fixed 2) (s 0) (s 1) (s 2) j.fit

  join : IsJudgedAs scope action.Join instruction fixed more → IsTyped placed (op.StrCat (operand_of (at fixed 0)) (operand_of (at fixed 1)) (operand_of (at fixed 2)))
  join j =
      let s = given_seen action.Join j in
      computes scope outline scripts function agrees.types stands kinds.Text (at fixed 0) (at fixed 1) (at fixed 2) tt (s 0) (s 1) (s 2) j.fit

  invert : IsJudgedAs scope action.Invert instruction fixed more → IsTyped placed (op.Not (operand_of (at fixed 0)) (operand_of (at fixed 1)))
  invert j =
      let s = given_seen action.Invert j in
      (takes_kind scope outline scripts function agrees.types stands (at fixed 0) kinds.Bool tt (s 0) j.fit, seen scope outline scripts function agrees.types stands (at fixed 1) (s 1))

  negate : IsJudgedAs scope action.Negate instruction fixed more → IsTyped placed (op.INeg (operand_of (at fixed 0)) (operand_of (at fixed 1)))
  negate j =
      let s = given_seen action.Negate j in
      (takes_kind scope outline scripts function agrees.types stands (at fixed 0) kinds.Int tt (s 0) j.fit.0, own scope outline scripts function agrees.types stands (at fixed 1) kinds.Int (s 1) j.fit.1)

  assign : IsJudgedAs scope action.Assign instruction fixed more → IsTyped placed (op.Assign (operand_of (at fixed 0)) (operand_of (at fixed 1)))
  assign j =
      let s = given_seen action.Assign j in
      (takes_value scope outline scripts function agrees.types stands (at fixed 0) (at fixed 1) (s 0) (s 1) j.fit, seen scope outline scripts function agrees.types stands (at fixed 1) (s 1))

  cast : IsJudgedAs scope action.Cast instruction fixed more → IsTyped placed (op.Cast (operand_of (at fixed 0)) (operand_of (at fixed 1)))
  cast j =
      let s = given_seen action.Cast j in
      (takes_cast scope outline scripts function agrees.types stands (at fixed 0) (at fixed 1) (s 0) (s 1) j.fit, seen scope outline scripts function agrees.types stands (at fixed 1) (s 1))

  equal : IsJudgedAs scope action.Equal instruction fixed more → IsTyped placed (op.CmpEq (operand_of (at fixed 0)) (operand_of (at fixed 1)) (operand_of (at fixed 2)))
  equal j =
      let s = given_seen action.Equal j in
      (takes_kind scope outline scripts function agrees.types stands (at fixed 0) kinds.Bool tt (s 0) j.fit.0, compare scope outline scripts function agrees.types stands (at fixed 1) (at fixed 2) (s 1) (s 2) j.fit.1)

  jump_if : IsJudgedAs scope action.JumpIf instruction fixed more → IsTyped placed (op.JmpT (operand_of (at fixed 0)) (number_of (at fixed 1)))
  jump_if j = seen scope outline scripts function agrees.types stands (at fixed 0) (given_seen action.JumpIf j 0)

  give_back : IsJudgedAs scope action.Return instruction fixed more → IsTyped placed (op.Return (operand_of (at fixed 0)))
  give_back j =
      gives_result scope outline scripts function agrees.types stands (at fixed 0) function.result (given_seen action.Return j 0) (subst (λ (v : ValueType). FitsIn (spans_of scope) (type_by scope (at fixed 0)) v) stands.result j.fit)

  -- ---- rows on arrays
  create : IsJudgedAs scope action.CreateArray instruction fixed more → IsTyped placed (op.ArrayCreate (operand_of (at fixed 0)) (size_of (number_of (at fixed 1))))
  create j = creates scope outline scripts function agrees.types stands (at fixed 0) (at fixed 1) (given_seen action.CreateArray j 0) j.fit

  measure : IsJudgedAs scope action.ArrayLength instruction fixed more → IsTyped placed (op.ArrayLength (operand_of (at fixed 0)) (operand_of (at fixed 1)))
  measure j =
      let s = given_seen action.ArrayLength j in
      measures scope outline scripts function agrees.types stands (at fixed 0) (at fixed 1) (s 0) (s 1) j.fit

  get_element : IsJudgedAs scope action.GetElement instruction fixed more → IsTyped placed (op.ArrayGetElement (operand_of (at fixed 0)) (operand_of (at fixed 1)) (operand_of (at fixed 2)))
  get_element j =
      let s = given_seen action.GetElement j in
      gets_element scope outline scripts function agrees.types stands (at fixed 0) (at fixed 1) (at fixed 2) (s 0) (s 1) (s 2) j.fit

  set_element : IsJudgedAs scope action.SetElement instruction fixed more → IsTyped placed (op.ArraySetElement (operand_of (at fixed 0)) (operand_of (at fixed 1)) (operand_of (at fixed 2)))
  set_element j =
      let s = given_seen action.SetElement j in
      sets_element scope outline scripts function agrees.types stands (at fixed 0) (at fixed 1) (at fixed 2) (s 0) (s 1) (s 2) j.fit

  find_element : IsJudgedAs scope action.FindElement instruction fixed more → IsTyped placed (op.ArrayFindElement (operand_of (at fixed 0)) (operand_of (at fixed 1)) (operand_of (at fixed 2)) (operand_of (at fixed 3)))
  find_element j =
      let s = given_seen action.FindElement j in
      finds scope outline scripts function agrees.types stands (at fixed 0) (at fixed 1) (at fixed 2) (at fixed 3) (s 0) (s 1) (s 2) (s 3) j.fit

  -- ---- rows that look something up
  named_at : (a : Action) → IsJudgedAs scope a instruction fixed more → (k number : ℕ) → use_at (uses_of a) k ≡ Name → name_by scope instruction.fixed.items k ≡ Some number → number_in names (name_of (at fixed k)) ≡ Some number
  named_at a j k number usage same =
      word_at scope names numbered (uses_of a) instruction.fixed.items fixed j.told k number (slice_get instruction.fixed.items k) refl usage same

  call_method : (j : IsJudgedAs scope action.CallMethod instruction fixed more) (found : Lookup) → LooksUp scope action.CallMethod instruction.fixed.items fixed found → OperandsFit scope action.CallMethod fixed more found → Allows action.CallMethod (length more) found
      → IsTyped placed (op.CallMethod (name_of (at fixed 0)) (operand_of (at fixed 1)) (operand_of (at fixed 2)) (map operand_of more))
  call_method j Unsought sought fit allowed = absurd sought.0
  call_method j Missing sought fit allowed = absurd allowed
  call_method j (Property property) sought fit allowed = absurd sought.1
  call_method j (Function callee) sought fit allowed =
      let s = given_seen action.CallMethod j in
      let f = sought.0 in
      let offered = agrees.functions f.from f.number (name_of (at fixed 0)) callee.signature.now (object_below scope outline scripts function agrees.types stands (at fixed 1) f.from f.sought) (named_at action.CallMethod j 0 f.number refl f.named) f.found in
      calls_method scope outline scripts function agrees.types stands (at fixed 1) (at fixed 2) more (name_of (at fixed 0)) f.from callee.signature.now offered allowed.1 f.sought (s 1) fit.1.0 (s 2) allowed.0 (more_seen action.CallMethod j) fit.1.1

  call_parent : (j : IsJudgedAs scope action.CallParent instruction fixed more) (found : Lookup) → LooksUp scope action.CallParent instruction.fixed.items fixed found → OperandsFit scope action.CallParent fixed more found → Allows action.CallParent (length more) found
      → IsTyped placed (op.CallParent (name_of (at fixed 0)) (operand_of (at fixed 1)) (map operand_of more))
  call_parent j Unsought sought fit allowed = absurd sought.0
  call_parent j Missing sought fit allowed = absurd allowed
  call_parent j (Property property) sought fit allowed = absurd sought.1
  call_parent j (Function callee) sought fit allowed =
      let s = given_seen action.CallParent j in
      let f = sought.0 in
      let above = agrees.parents scope.home.now.here f.from f.sought in
      let offered = agrees.functions f.from f.number (name_of (at fixed 0)) callee.signature.now above.0 (named_at action.CallParent j 0 f.number refl f.named) f.found in
      calls_parent scope outline scripts function agrees.types stands (at fixed 1) more (name_of (at fixed 0)) f.from callee.signature.now offered allowed.1 above.1 above.2 j.instance fit.0 (s 1) allowed.0 (more_seen action.CallParent j) fit.1

  script_at : (j : IsJudgedAs scope action.CallStatic instruction fixed more) (script : ℕ) (name : Option ℕ) → name_by scope instruction.fixed.items 0 ≡ name → script_named_by scope.home.now.set.now name ≡ Some script → (script < vec_len scope.home.now.set.now.heads) × (script_named outline (name_of (at fixed 0)) ≡ script)
  script_at j script None is same = absurd (cc)
  script_at j script (Some number) is same =
      agrees.named number script (name_of (at fixed 0)) (named_at action.CallStatic j 0 number refl is) same

  call_static : (j : IsJudgedAs scope action.CallStatic instruction fixed more) (found : Lookup) → LooksUp scope action.CallStatic instruction.fixed.items fixed found → OperandsFit scope action.CallStatic fixed more found → Allows action.CallStatic (length more) found
      → IsTyped placed (op.CallStatic (script_named outline (name_of (at fixed 0))) (name_of (at fixed 1)) (operand_of (at fixed 2)) (map operand_of more))
  call_static j Unsought sought fit allowed = absurd sought.0
  call_static j Missing sought fit allowed = absurd allowed
  call_static j (Property property) sought fit allowed = absurd sought.1
  call_static j (Function callee) sought fit allowed =
      let s = given_seen action.CallStatic j in
      let f = sought.0 in
      let named = script_at j f.from (name_by scope instruction.fixed.items 0) refl f.sought in
      let offered = agrees.functions f.from f.number (name_of (at fixed 1)) callee.signature.now named.0 (named_at action.CallStatic j 1 f.number refl f.named) f.found in
      calls_static scope outline scripts function agrees.types stands (at fixed 2) more (name_of (at fixed 1)) f.from (script_named outline (name_of (at fixed 0))) callee.signature.now offered allowed.1 named.1 fit.0 (s 2) allowed.0 (more_seen action.CallStatic j) fit.1

  get_property : (j : IsJudgedAs scope action.GetProperty instruction fixed more) (found : Lookup) → LooksUp scope action.GetProperty instruction.fixed.items fixed found → OperandsFit scope action.GetProperty fixed more found → Allows action.GetProperty (length more) found
      → IsTyped placed (op.PropGet (name_of (at fixed 0)) (operand_of (at fixed 1)) (operand_of (at fixed 2)))
  get_property j Unsought sought fit allowed = absurd sought.0
  get_property j Missing sought fit allowed = absurd allowed
  get_property j (Function callee) sought fit allowed = absurd sought.1
  get_property j (Property property) sought fit allowed =
      let s = given_seen action.GetProperty j in
      let f = sought.0 in
      let offered = agrees.properties f.from f.number (name_of (at fixed 0)) property (object_below scope outline scripts function agrees.types stands (at fixed 1) f.from f.sought) (named_at action.GetProperty j 0 f.number refl f.named) f.found in
      gets_property scope outline scripts function agrees.types stands (at fixed 1) (at fixed 2) (name_of (at fixed 0)) f.from property offered allowed f.sought (s 1) fit.1.0 (s 2)

  set_property : (j : IsJudgedAs scope action.SetProperty instruction fixed more) (found : Lookup) → LooksUp scope action.SetProperty instruction.fixed.items fixed found → OperandsFit scope action.SetProperty fixed more found → Allows action.SetProperty (length more) found
      → IsTyped placed (op.PropSet (name_of (at fixed 0)) (operand_of (at fixed 1)) (operand_of (at fixed 2)))
  set_property j Unsought sought fit allowed = absurd sought.0
  set_property j Missing sought fit allowed = absurd allowed
  set_property j (Function callee) sought fit allowed = absurd sought.1
  set_property j (Property property) sought fit allowed =
      let s = given_seen action.SetProperty j in
      let f = sought.0 in
      let offered = agrees.properties f.from f.number (name_of (at fixed 0)) property (object_below scope outline scripts function agrees.types stands (at fixed 1) f.from f.sought) (named_at action.SetProperty j 0 f.number refl f.named) f.found in
      sets_property scope outline scripts function agrees.types stands (at fixed 1) (at fixed 2) (name_of (at fixed 0)) f.from property offered allowed f.sought (s 1) fit.1 (s 2)

  -- ---- all rows
  rows : Paired Row action_table form_table
  rows =
      ((λ j. tt), (arithmetic, ((λ j. tt), (arithmetic, ((λ j. tt), (arithmetic, ((λ j. tt), (arithmetic, ((λ j. tt), (arithmetic, (invert, (negate, ((λ j. tt), (assign, (cast, (equal, (order, (order, (order, (order, ((λ j. tt), (jump_if, (jump_if, ((λ j. call_method j j.found j.sought j.fit j.allowed), ((λ j. call_parent j j.found j.sought j.fit j.allowed), ((λ j. call_static j j.found j.sought j.fit j.allowed), (give_back, (join, ((λ j. get_property j j.found j.sought j.fit j.allowed), ((λ j. set_property j j.found j.sought j.fit j.allowed), (create, (measure, (get_element, (set_element, (find_element, (find_element, tt))))))))))))))))))))))))))))))))))))

  pub typed : IsJudged scope instruction fixed more → IsTyped placed (instruction_by instruction.opcode operands)
  typed j = at_place Row action_table form_table rows instruction.opcode j.action j.does j.judged
