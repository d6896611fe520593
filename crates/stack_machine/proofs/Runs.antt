-- Runs of bodies, one part after another.
use Rattle.std.proofs.Common.{◌≡◌, IfOk, OnOk, Result, Ok, Err, ℕ, suc, ◌≤◌, Bool, true, false, cond, List, [], ◌∷◌, ◌++◌, length, drop, Option, Some, None, refl, sym, ap, subst, ◌∙◌, arith, append_assoc, append-nil, get_or, zero}
use Rattle.std.specs.Prelude.{slice_get, unwrap_or}
use Rattle.std.specs.Option.{option_map}
use Rattle.std.specs.declared.alloc.Global.{Global}
use Rattle.std.specs.declared.vec.Vec.{Vec}
use Rattle.std.proofs.lemmas.List.{length-map}
use Rattle.std.proofs.lemmas.Option.{get_or_from_slice_get, slice_get-map, unwrap_or-slice_get}
use Rattle.core_tree.specs.declared.outline.OutlineScript.{OutlineScript}
use Rattle.core_tree.specs.declared.value.Value.{Value}
use Rattle.core_tree.specs.Device.{DeviceState}
use Rattle.core_tree.specs.Outlines.{name_in, script_shape}
use Rattle.core_tree.specs.Values.{default_result}
use Rattle.papy_base.specs.declared.faults.StackFault.{StackFault}
use Rattle.papy_io.proofs.Appending.{appended_none, both_appended}
use Rattle.papy_io.specs.Sink.{Appended}
use Rattle.instance_store.specs.Arrays.{ArrayState as Stored}
use Rattle.instance_store.specs.Instances.{InstanceState}
use Rattle.script_meaning.specs.Report.{ended, line_text}
use Rattle.script_meaning.specs.Requests.{Request, LoopPass, Return, GlobalNative, Sight, Act, performed_at, replied}
use Rattle.script_meaning.specs.Requests as meant
use Rattle.script_meaning.specs.Values as meaning
use Rattle.script_meaning.specs.World.{Faulted, Line, Place}
use Rattle.code_meaning.specs.Execution.{Halt, asked, followed, reply_result, run_from}
use Rattle.code_meaning.specs.Operands.{place_of}
use Rattle.code_meaning.specs.Operands as code
use Rattle.loaded_code.specs.Plain.{instruction_of}
use Rattle.loaded_code.specs.declared.instruction.LoadedInstruction.{LoadedInstruction}
use Rattle.loaded_code.specs.declared.script.MethodPlace.{MethodPlace}
use Rattle.body_runner.specs.declared.body.Home.{Home}
use Rattle.body_runner.specs.declared.body.Inner.{Inner}
use Rattle.body_runner.specs.declared.calls.Event.{Event}
use Rattle.body_runner.specs.declared.calls.Event.TheVariants as events
use Rattle.body_runner.specs.declared.frame.Call.{Call}
use Rattle.body_runner.specs.declared.instructions.Step.{Step}
use Rattle.body_runner.specs.declared.instructions.Step.TheVariants as steps
use Rattle.body_runner.specs.Bodies.{home_of, inner_of, runs}
use Rattle.body_runner.specs.Leaving.{IsLeaving, Leaves}
use Rattle.body_runner.specs.Lines.{fault_line, line_in}
use Rattle.body_runner.specs.Rows.{LeavesAt, RowMeans, Rows}
use Rattle.body_runner.specs.Sights.{Rest, sight_of}
use Rattle.body_runner.specs.Steps.{is_leaving}
use Rattle.body_runner.proofs.InRows.{kept_twice, runs_step}
use Rattle.body_runner.proofs.Kept.{nothing_kept}
use Rattle.stack_machine.specs.declared.run.Act.TheVariants as acts
use Rattle.stack_machine.specs.declared.run.Halt.{Halt as Halts}
use Rattle.stack_machine.specs.Runs.{asked_reply, beside, bytes_of, from_halt, from_place, halted, native_at, Answers, ComesTo, Follows, GivesAt, GoesTo, HasRun, IsAct, IsHalt, IsReady, Meant, Performs, RunsTo}

-- ---- lines
pub more_bytes : (first second : List Line) → bytes_of (first ++ second) ≡ bytes_of first ++ bytes_of second
more_bytes [] second = refl
more_bytes (line ∷ first) second =
    ap (λ bs. ended (line_text line) ++ bs) (more_bytes first second) ∙ sym (append_assoc (ended (line_text line)) (bytes_of first) (bytes_of second))

pub more_written : (first second : List Line) (before between now : Option (List ℕ)) → Appended (bytes_of first) before between → Appended (bytes_of second) between now → Appended (bytes_of (first ++ second)) before now
more_written first second before between now a b =
    subst (λ bs. Appended bs before now) (sym (more_bytes first second)) (both_appended (bytes_of first) (bytes_of second) before between now a b)

line_bytes : (stack : ℕ) (at : Place) (fault : StackFault) → bytes_of (Faulted stack at fault ∷ []) ≡ fault_line stack at.script at.function at.line fault
line_bytes stack at fault = append-nil (ended (line_text (Faulted stack at fault))) ∙ simp append_assoc refl

name_same : (o : Option OutlineScript) → meaning.name_in (option_map script_shape o) ≡ name_in o
name_same None = refl
name_same (Some script) = refl

line_same : (o : Option ℕ) → unwrap_or o 0 ≡ line_in o
line_same None = refl
line_same (Some n) = refl

fault_bytes : (home : Home) (place : ℕ) (fault : StackFault) → bytes_of (Faulted home.turn.now.stack (place_of (home_of home) place) fault ∷ []) ≡ fault_line home.turn.now.stack (name_in (slice_get home.turn.now.setting.now.loaded.outline home.script)) home.function.now.name (line_in (slice_get home.function.now.lines.items place)) fault
fault_bytes home place fault =
    let at = place_of (home_of home) place in
    let outline = home.turn.now.setting.now.loaded.outline in
    let stack = home.turn.now.stack in
    let name = ap meaning.name_in (slice_get-map script_shape outline home.script) ∙ name_same (slice_get outline home.script) in
    let line = sym (unwrap_or-slice_get home.function.now.lines.items place 0) ∙ line_same (slice_get home.function.now.lines.items place) in
    line_bytes stack at fault ∙ (ap (λ n. fault_line stack n home.function.now.name at.line fault) name ∙ ap (λ l. fault_line stack (name_in (slice_get outline home.script)) home.function.now.name l fault) line)

pub wrote : (home : Home) (place : ℕ) (fault : StackFault) (bytes : List ℕ) (before now : Option (List ℕ)) → bytes ≡ fault_line home.turn.now.stack (name_in (slice_get home.turn.now.setting.now.loaded.outline home.script)) home.function.now.name (line_in (slice_get home.function.now.lines.items place)) fault → Appended bytes before now → Appended (bytes_of (Faulted home.turn.now.stack (place_of (home_of home) place) fault ∷ [])) before now
wrote home place fault bytes before now e a = subst (λ bs. Appended bs before now) (e ∙ sym (fault_bytes home place fault)) a

-- ---- parts
module _ (home : Home) where
  -- where nothing is printed
  pub goes_at_once : (meaning : Meant) (place : ℕ) (devices : List DeviceState) (now : Option (List ℕ)) (inner : Inner) → ((printed : List Line) → meaning printed ≡ runs home place inner (beside devices printed)) → GoesTo home meaning place devices now now inner
  goes_at_once meaning place devices now inner e = record {
    lines = [];
    written = appended_none now;
    goes = λ printed. e printed ∙ ap (λ o. runs home place inner (beside devices o)) (sym (append-nil printed));
  }

  pub comes_at_once : (meaning : Meant) (halt : Halts) (request : Request) (devices : List DeviceState) (now : Option (List ℕ)) (inner : Inner) → IsAct home.function.now home.script home.instance halt.at halt.act request → ((printed : List Line) → meaning printed ≡ record { request = request; at = halt.at; inner = inner_of home inner (beside devices printed) }) → ComesTo home meaning halt.at halt.act devices now now inner
  comes_at_once meaning halt request devices now inner is e = record {
    lines = [];
    written = appended_none now;
    request = request;
    is_act = is;
    comes = λ printed. e printed ∙ ap (λ (o : List Line). record { request = request; at = halt.at; inner = inner_of home inner (beside devices o) }) (sym (append-nil printed));
  }

  then_goes : (meaning after : Meant) (place next : ℕ) (between devices : List DeviceState) (before mid now : Option (List ℕ)) (inner new : Inner) → GoesTo home meaning place between before mid inner → ((printed : List Line) → runs home place inner (beside between printed) ≡ after printed) → GoesTo home after next devices mid now new → GoesTo home meaning next devices before now new
  then_goes meaning after place next between devices before mid now inner new a same b = record {
    lines = a.lines ++ b.lines;
    written = more_written a.lines b.lines before mid now a.written b.written;
    goes = λ printed. a.goes printed ∙ (same (printed ++ a.lines) ∙ (b.goes (printed ++ a.lines) ∙ ap (λ o. runs home next new (beside devices o)) (append_assoc printed a.lines b.lines)));
  }

  then_comes : (meaning after : Meant) (place : ℕ) (halt : Halts) (between devices : List DeviceState) (before mid now : Option (List ℕ)) (inner new : Inner) → GoesTo home meaning place between before mid inner → ((printed : List Line) → runs home place inner (beside between printed) ≡ after printed) → ComesTo home after halt.at halt.act devices mid now new → ComesTo home meaning halt.at halt.act devices before now new
  then_comes meaning after place halt between devices before mid now inner new a same b = record {
    lines = a.lines ++ b.lines;
    written = more_written a.lines b.lines before mid now a.written b.written;
    request = b.request;
    is_act = b.is_act;
    comes = λ printed. a.goes printed ∙ (same (printed ++ a.lines) ∙ (b.comes (printed ++ a.lines) ∙ ap (λ (o : List Line). record { request = b.request; at = halt.at; inner = inner_of home new (beside devices o) }) (append_assoc printed a.lines b.lines)));
  }

  -- ---- rows
  pub is_halt : (from place : ℕ) (halt : Step) (old new : Inner) → RowMeans home from place halt old new → IsHalt home place halt
  is_halt from place steps.Done old new m = m.0
  is_halt from place (steps.Faulted fault) old new m = tt
  is_halt from place (steps.Jump landing) old new m = tt
  is_halt from place steps.Leaves old new m = m.0

  halts : (from place : ℕ) (halt : Step) (old new : Inner) → RowMeans home from place halt old new → (rest : Rest) → runs home from old rest ≡ halted home place halt new rest
  halts from place steps.Done old new m rest = m.1 rest
  halts from place (steps.Faulted fault) old new m rest = m rest
  halts from place (steps.Jump landing) old new m rest = m rest
  halts from place steps.Leaves old new m rest = m.1 rest

  -- a row, and what follows it
  pub row_goes : (meaning : Meant) (place here next : ℕ) (halt : Step) (between devices : List DeviceState) (before mid now : Option (List ℕ)) (first old middle new : Inner) → HasRun home meaning place between before mid first old → Rows home place here halt old middle → (end : Option Halts) → Follows home (from_halt home here halt middle between) here end devices mid now middle new → end ≡ None → next ≡ suc here → HasRun home meaning next devices before now first new
  row_goes meaning place here next halt between devices before mid now first old middle new h r end follows none e =
      let f = subst (λ (o : Option Halts). Follows home (from_halt home here halt middle between) here o devices mid now middle new) none follows in
      subst (λ n. HasRun home meaning n devices before now first new) (sym e) (record {
        goes = then_goes meaning (from_halt home here halt middle between) place (suc here) between devices before mid now old new h.goes (λ printed. halts place here halt old middle r.means (beside between printed)) f.comes;
        kept = kept_twice home first old new h.kept (kept_twice home old middle new r.kept f.kept);
      })

  pub row_comes : (meaning : Meant) (place here : ℕ) (halt : Step) (end : Halts) (between devices : List DeviceState) (before mid now : Option (List ℕ)) (first old middle new : Inner) → HasRun home meaning place between before mid first old → Rows home place here halt old middle → (o : Option Halts) → Follows home (from_halt home here halt middle between) here o devices mid now middle new → o ≡ Some end → RunsTo home meaning end devices before now first new
  row_comes meaning place here halt end between devices before mid now first old middle new h r o follows some =
      let f = subst (λ (x : Option Halts). Follows home (from_halt home here halt middle between) here x devices mid now middle new) some follows in
      record {
        comes = then_comes meaning (from_halt home here halt middle between) place end between devices before mid now old new h.goes (λ printed. halts place here halt old middle r.means (beside between printed)) f.comes;
        kept = kept_twice home first old new h.kept (kept_twice home old middle new r.kept f.kept);
      }

  -- a run, and the last of it
  pub run_comes : (meaning : Meant) (place : ℕ) (end : Halts) (between devices : List DeviceState) (before mid now : Option (List ℕ)) (first old new : Inner) → HasRun home meaning place between before mid first old → RunsTo home (from_place home place old between) end devices mid now old new → RunsTo home meaning end devices before now first new
  run_comes meaning place end between devices before mid now first old new h r = record {
    comes = then_comes meaning (from_place home place old between) place end between devices before mid now old new h.goes (λ printed. refl) r.comes;
    kept = kept_twice home first old new h.kept r.kept;
  }

  pub begun : (from : ℕ) (devices : List DeviceState) (now : Option (List ℕ)) (inner : Inner) → HasRun home (from_place home from inner devices) from devices now now inner inner
  begun from devices now inner = record {
    goes = goes_at_once (from_place home from inner devices) from devices now inner (λ printed. refl);
    kept = nothing_kept home inner;
  }

  -- ---- the end of the code
  past : {X : Type 0} (xs : List X) (n : ℕ) → length xs ≤ n → ◌≡◌ {A = List X} (drop n xs) []
  past [] zero h = refl
  past [] (suc n) h = refl
  past (x ∷ xs) zero h = absurd (omega (arith, h))
  past (x ∷ xs) (suc n) h = let less : length xs ≤ n = omega (arith, h) in past xs n less

  ends : (place : ℕ) (inner : Inner) (rest : Rest) → length home.function.now.code.items ≤ place → runs home place inner rest ≡ record { request = Return (default_result home.function.now.result); at = place; inner = inner_of home inner rest }
  ends place inner rest h =
      let long : length (home_of home).function.code ≤ place = omega (arith, h, length-map home.function.now.code.items instruction_of) in
      ap (λ c. run_from (home_of home) place c 0 (inner_of home inner rest)) (past (home_of home).function.code place long)

  pub on_end : (place : ℕ) (halt : Halts) (devices : List DeviceState) (now : Option (List ℕ)) (inner : Inner) → length home.function.now.code.items ≤ place → halt ≡ record { at = place; act = acts.Return (default_result home.function.now.result) } → RunsTo home (from_place home place inner devices) halt devices now now inner inner
  on_end place halt devices now inner h e =
      let end : Halts = record { at = place; act = acts.Return (default_result home.function.now.result) } in
      subst (λ (x : Halts). RunsTo home (from_place home place inner devices) x devices now now inner inner) (sym e) (record {
        comes = comes_at_once (from_place home place inner devices) end (Return (default_result home.function.now.result)) devices now inner refl (λ printed. ends place inner (beside devices printed) h);
        kept = nothing_kept home inner;
      })

  -- ---- what follows a row
  pub as_follows : (meaning : Meant) (place : ℕ) (halt : Halts) (devices : List DeviceState) (before now : Option (List ℕ)) (old new : Inner) → RunsTo home meaning halt devices before now old new → Follows home meaning place (Some halt) devices before now old new
  as_follows meaning place halt devices before now old new r = record { comes = r.comes; kept = r.kept }

  pub on_pass : (place landing : ℕ) (devices : List DeviceState) (now : Option (List ℕ)) (inner : Inner) → RunsTo home (from_halt home place (steps.Jump landing) inner devices) (record { at = landing; act = acts.Pass }) devices now now inner inner
  on_pass place landing devices now inner = record {
    comes = comes_at_once (from_halt home place (steps.Jump landing) inner devices) (record { at = landing; act = acts.Pass }) LoopPass devices now inner refl (λ printed. refl);
    kept = nothing_kept home inner;
  }

  pub on_fault : (place : ℕ) (fault : StackFault) (halt : Option Halts) (devices : List DeviceState) (before now : Option (List ℕ)) (inner : Inner) → halt ≡ None → Appended (bytes_of (Faulted home.turn.now.stack (place_of (home_of home) place) fault ∷ [])) before now → Follows home (from_halt home place (steps.Faulted fault) inner devices) place halt devices before now inner inner
  on_fault place fault halt devices before now inner e p =
      subst (λ (x : Option Halts). Follows home (from_halt home place (steps.Faulted fault) inner devices) place x devices before now inner inner) (sym e) (record {
        comes = record { lines = Faulted home.turn.now.stack (place_of (home_of home) place) fault ∷ []; written = p; goes = λ printed. refl };
        kept = nothing_kept home inner;
      })

  -- ---- what calls or returns
  module _ (place : ℕ) (i : LoadedInstruction) (found : slice_get home.function.now.code.items place ≡ Some i) (old new : Inner) where
    onward : code.Inner → Halt
    onward inner = run_from (home_of home) (suc place) (drop (suc place) (home_of home).function.code) 0 inner

    pub on_refused : (fault : StackFault) (halt : Option Halts) (devices : List DeviceState) (before now : Option (List ℕ)) → Leaves home i (events.Refused fault) old new → halt ≡ None → Appended (bytes_of (Faulted home.turn.now.stack (place_of (home_of home) place) fault ∷ [])) before now → Follows home (from_place home place old devices) place halt devices before now old new
    on_refused fault halt devices before now l e p =
        subst (λ (x : Option Halts). Follows home (from_place home place old devices) place x devices before now old new) (sym e) (record {
          comes = record {
            lines = Faulted home.turn.now.stack (place_of (home_of home) place) fault ∷ [];
            written = p;
            goes = λ printed. runs_step home place i old (beside devices printed) found ∙ ap (followed (run_from (home_of home) (suc place) (drop (suc place) (home_of home).function.code))) (l.means place (beside devices printed));
          };
          kept = l.kept;
        })

    pub on_called : (call : Call) (devices : List DeviceState) (now : Option (List ℕ)) → Leaves home i (events.Called call) old new → Follows home (from_place home place old devices) place (Some (record { at = place; act = acts.Call call })) devices now now old new
    on_called call devices now l = record {
      comes = comes_at_once (from_place home place old devices) (record { at = place; act = acts.Call call }) l.means.request devices now new (record { instruction = i; is = found; way = l.means.way; told = l.means.told; kept = l.means.kept; is_request = l.means.is_request }) (λ printed. runs_step home place i old (beside devices printed) found ∙ ap (followed (run_from (home_of home) (suc place) (drop (suc place) (home_of home).function.code))) (l.means.stops place (beside devices printed)));
      kept = l.kept;
    }

    pub on_returned : (value : Value) (devices : List DeviceState) (now : Option (List ℕ)) → Leaves home i (events.Returned value) old new → Follows home (from_place home place old devices) place (Some (record { at = place; act = acts.Return value })) devices now now old new
    on_returned value devices now l = record {
      comes = comes_at_once (from_place home place old devices) (record { at = place; act = acts.Return value }) (Return value) devices now new refl (λ printed. runs_step home place i old (beside devices printed) found ∙ ap (followed (run_from (home_of home) (suc place) (drop (suc place) (home_of home).function.code))) (l.means place (beside devices printed)));
      kept = l.kept;
    }

    -- a native, by whether it is prompt
    native_by : (prompt : Bool) (at : MethodPlace) (arguments : List Value) (inner : code.Inner) → meant.is_prompt (meant.binding_in (home_of home).setting.natives (native_at at)) ≡ prompt → followed (run_from (home_of home) (suc place) (drop (suc place) (home_of home).function.code)) (asked (home_of home) place (reply_result (instruction_of i)) inner (meant.request_answer (home_of home).setting (place_of (home_of home) place) (GlobalNative (native_at at) arguments) inner.sight)) ≡ followed (run_from (home_of home) (suc place) (drop (suc place) (home_of home).function.code)) (asked (home_of home) place (reply_result (instruction_of i)) inner (cond prompt (replied (performed_at (home_of home).setting (native_at at) arguments inner.sight)) (Act (GlobalNative (native_at at) arguments))))
    native_by prompt at arguments inner e =
        ap (λ b. followed (run_from (home_of home) (suc place) (drop (suc place) (home_of home).function.code)) (asked (home_of home) place (reply_result (instruction_of i)) inner (cond b (replied (performed_at (home_of home).setting (native_at at) arguments inner.sight)) (Act (GlobalNative (native_at at) arguments))))) e

    pub on_native : (at : MethodPlace) (arguments : Vec Value Global) (devices : List DeviceState) (now : Option (List ℕ)) → meant.is_prompt (meant.binding_in (home_of home).setting.natives (native_at at)) ≡ false → Leaves home i (events.Native at arguments) old new → Follows home (from_place home place old devices) place (Some (record { at = place; act = acts.Native at arguments })) devices now now old new
    on_native at arguments devices now e l = record {
      comes = comes_at_once (from_place home place old devices) (record { at = place; act = acts.Native at arguments }) (GlobalNative (native_at at) arguments.items) devices now new refl (λ printed. runs_step home place i old (beside devices printed) found ∙ (ap (followed (run_from (home_of home) (suc place) (drop (suc place) (home_of home).function.code))) (l.means place (beside devices printed)) ∙ native_by false at arguments.items (inner_of home new (beside devices printed)) e));
      kept = l.kept;
    }

  pub on_prompt : (place : ℕ) (i : LoadedInstruction) (found : slice_get home.function.now.code.items place ≡ Some i) (old between new : Inner) (at : MethodPlace) (arguments : Vec Value Global) (halt : Option Halts) (devices devices' : List DeviceState) (before now : Option (List ℕ)) → meant.is_prompt (meant.binding_in (home_of home).setting.natives (native_at at)) ≡ true → Leaves home i (events.Native at arguments) old between → halt ≡ None → Answers home i at arguments.items devices devices' before now between new → Follows home (from_place home place old devices) place halt devices' before now old new
  on_prompt place i found old between new at arguments halt devices devices' before now e l none a =
      subst (λ (x : Option Halts). Follows home (from_place home place old devices) place x devices' before now old new) (sym none) (record {
        comes = record {
          lines = a.lines;
          written = a.written;
          goes = λ printed. runs_step home place i old (beside devices printed) found ∙ (ap (followed (run_from (home_of home) (suc place) (drop (suc place) (home_of home).function.code))) (l.means place (beside devices printed)) ∙ (native_by place i found old between true at arguments.items (inner_of home between (beside devices printed)) e ∙ ap (run_from (home_of home) (suc place) (drop (suc place) (home_of home).function.code) 0) (a.answered printed)));
        };
        kept = kept_twice home old between new l.kept a.kept;
      })

-- ---- prompt natives
sight_with : (instances : List InstanceState) (arrays : List Stored) (own : Option ℕ) (devices devices' : List DeviceState) (printed lines : List Line) → record (sight_of instances arrays own (beside devices printed)) { devices = devices'; output = (sight_of instances arrays own (beside devices printed)).output ++ lines } ≡ sight_of instances arrays own (beside devices' (printed ++ lines))
sight_with instances arrays None devices devices' printed lines = refl
sight_with instances arrays (Some i) devices devices' printed lines = refl

same_devices : (instances : List InstanceState) (arrays : List Stored) (own : Option ℕ) (devices : List DeviceState) (printed : List Line) → record (sight_of instances arrays own (beside devices printed)) { devices = devices } ≡ sight_of instances arrays own (beside devices printed)
same_devices instances arrays None devices printed = refl
same_devices instances arrays (Some i) devices printed = refl

pub answers : (home : Home) (place : ℕ) (call : LoadedInstruction) (at : MethodPlace) (arguments : List Value) (reply : Value) (devices devices' : List DeviceState) (before now : Option (List ℕ)) (old new : Inner) → slice_get home.function.now.code.items place ≡ Some call → Performs home.turn.now at arguments reply devices devices' before now → GivesAt home (slice_get home.function.now.code.items place) reply old new → Answers home call at arguments devices devices' before now old new
answers home place call at arguments reply devices devices' before now old new found p g =
    let gives = subst (λ (o : Option LoadedInstruction). GivesAt home o reply old new) found g in
    let instances = old.store.now.instances in
    let arrays = old.store.now.arrays in
    record {
      lines = p.lines;
      written = p.written;
      answered = λ printed.
          let sight = sight_of instances arrays home.instance (beside devices printed) in
          let done = ap (λ (s : Sight). performed_at (home_of home).setting (native_at at) arguments s) (sym (same_devices instances arrays home.instance devices printed)) ∙ (p.performed (home_of home).setting sight ∙ ap (λ (s : Sight). (reply, s)) (sight_with instances arrays home.instance devices devices' printed p.lines)) in
          ap (λ (d : Value × Sight). asked_reply home call d (inner_of home old (beside devices printed))) done ∙ sym (gives.given (beside devices' (printed ++ p.lines)));
      kept = gives.kept;
    }

-- ---- instructions that were looked up
pub left_at : (home : Home) (place : ℕ) (xs : List LoadedInstruction) (i : LoadedInstruction) (instances : List InstanceState) → xs ≡ home.function.now.code.items → i ≡ get_or xs place i → IsReady home instances → LeavesAt home place → (slice_get home.function.now.code.items place ≡ Some i) × IsLeaving home.turn.now.setting.now.loaded i
left_at home place xs i instances e is ready l =
    let same : i ≡ l.instruction = is ∙ (ap (λ ys. get_or ys place i) e ∙ get_or_from_slice_get home.function.now.code.items place l.instruction i l.is) in
    let found : slice_get home.function.now.code.items place ≡ Some i = l.is ∙ ap (λ (x : LoadedInstruction). Some x) (sym same) in
    (found, ready.found place i found (subst (λ x. is_leaving x ≡ true) (sym same) l.leaving))

pub both_ok : {T E : Type 0} (r : Result T E) (P : T → Type 0) (Q : Type 0) (R : T → Type 0) → ((x : T) → P x → Q → R x) → IfOk r P → OnOk r Q → IfOk r R
both_ok (Ok x) P Q R f a b = f x a b
both_ok (Err e) P Q R f a b = tt

-- ---- what follows a row, by where it halts
pub follow_end : (home : Home) (place : ℕ) (step : Step) (halt : Halts) (devices : List DeviceState) (now : Option (List ℕ)) (inner : Inner) → step ≡ steps.Done → IsHalt home place step → halt ≡ record { at = place; act = acts.Return (default_result home.function.now.result) } → Follows home (from_halt home place step inner devices) place (Some halt) devices now now inner inner
follow_end home place step halt devices now inner is past e =
    let end = on_end home place halt devices now inner (subst (IsHalt home place) is past) e in
    subst (λ s. Follows home (from_halt home place s inner devices) place (Some halt) devices now now inner inner) (sym is) (as_follows home (from_place home place inner devices) place halt devices now now inner inner end)

pub follow_pass : (home : Home) (place : ℕ) (step : Step) (at landing : ℕ) (devices : List DeviceState) (now : Option (List ℕ)) (inner : Inner) → step ≡ steps.Jump landing → at ≡ landing → Follows home (from_halt home place step inner devices) place (Some (record { at = at; act = acts.Pass })) devices now now inner inner
follow_pass home place step at landing devices now inner is e =
    let to : Halts = record { at = landing; act = acts.Pass } in
    subst (λ n. Follows home (from_halt home place step inner devices) place (Some (record { at = n; act = acts.Pass })) devices now now inner inner) (sym e) (subst (λ s. Follows home (from_halt home place s inner devices) place (Some to) devices now now inner inner) (sym is) (as_follows home (from_halt home place (steps.Jump landing) inner devices) place to devices now now inner inner (on_pass home place landing devices now inner)))

pub follow_fault : (home : Home) (place : ℕ) (step : Step) (fault : StackFault) (halt : Option Halts) (devices : List DeviceState) (before now : Option (List ℕ)) (inner : Inner) → step ≡ steps.Faulted fault → halt ≡ None → Appended (bytes_of (Faulted home.turn.now.stack (place_of (home_of home) place) fault ∷ [])) before now → Follows home (from_halt home place step inner devices) place halt devices before now inner inner
follow_fault home place step fault halt devices before now inner is none wrote =
    subst (λ s. Follows home (from_halt home place s inner devices) place halt devices before now inner inner) (sym is) (on_fault home place fault halt devices before now inner none wrote)

-- ---- what leaves, by what was asked for
module _ (home : Home) (place : ℕ) (i : LoadedInstruction) (found : slice_get home.function.now.code.items place ≡ Some i) (old new : Inner) (event : Event) (l : Leaves home i event old new) where
  pub leave_refused : (fault : StackFault) (halt : Option Halts) (devices : List DeviceState) (before now : Option (List ℕ)) → event ≡ events.Refused fault → halt ≡ None → Appended (bytes_of (Faulted home.turn.now.stack (place_of (home_of home) place) fault ∷ [])) before now → Follows home (from_place home place old devices) place halt devices before now old new
  leave_refused fault halt devices before now is none wrote =
      on_refused home place i found old new fault halt devices before now (subst (λ (e : Event). Leaves home i e old new) is l) none wrote

  pub leave_called : (call : Call) (devices : List DeviceState) (now : Option (List ℕ)) → event ≡ events.Called call → Follows home (from_place home place old devices) place (Some (record { at = place; act = acts.Call call })) devices now now old new
  leave_called call devices now is = on_called home place i found old new call devices now (subst (λ (e : Event). Leaves home i e old new) is l)

  pub leave_returned : (value : Value) (devices : List DeviceState) (now : Option (List ℕ)) → event ≡ events.Returned value → Follows home (from_place home place old devices) place (Some (record { at = place; act = acts.Return value })) devices now now old new
  leave_returned value devices now is =
      on_returned home place i found old new value devices now (subst (λ (e : Event). Leaves home i e old new) is l)

  pub leave_native : (at : MethodPlace) (arguments : Vec Value Global) (devices : List DeviceState) (now : Option (List ℕ)) → event ≡ events.Native at arguments → meant.is_prompt (meant.binding_in (home_of home).setting.natives (native_at at)) ≡ false → Follows home (from_place home place old devices) place (Some (record { at = place; act = acts.Native at arguments })) devices now now old new
  leave_native at arguments devices now is prompt =
      on_native home place i found old new at arguments devices now prompt (subst (λ (e : Event). Leaves home i e old new) is l)

  pub leave_prompt : (last : Inner) (at : MethodPlace) (arguments : Vec Value Global) (values : List Value) (halt : Option Halts) (devices devices' : List DeviceState) (before now : Option (List ℕ)) → event ≡ events.Native at arguments → meant.is_prompt (meant.binding_in (home_of home).setting.natives (native_at at)) ≡ true → halt ≡ None → values ≡ arguments.items → Answers home i at values devices devices' before now new last → Follows home (from_place home place old devices) place halt devices' before now old last
  leave_prompt last at arguments values halt devices devices' before now is prompt none same a =
      on_prompt home place i found old new last at arguments halt devices devices' before now prompt (subst (λ (e : Event). Leaves home i e old new) is l) none (subst (λ vs. Answers home i at vs devices devices' before now new last) same a)
