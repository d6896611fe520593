-- Runs of bodies over several loop passes, and runs of frames.
use Rattle.std.proofs.Common.{◌≡◌, ℕ, zero, suc, ◌-◌, Bool, true, false, List, [], ◌++◌, Option, Some, None, Result, Ok, Err, IfOk, OnOk, refl, sym, ap, subst, ◌∙◌, arith, append_assoc, append-nil}
use Rattle.std.specs.Prelude.{pred, slice_get, IfSome}
use Rattle.std.specs.Option.{option_and_then, option_map}
use Rattle.std.proofs.lemmas.Option.{slice_get-map}
use Rattle.core_tree.specs.declared.value.Value.{Value}
use Rattle.core_tree.specs.declared.value.Value.TheVariants.{NoneValue}
use Rattle.core_tree.specs.Device.{DeviceState}
use Rattle.core_tree.specs.Outlines.{ScriptShape}
use Rattle.papy_io.proofs.Appending.{appended_none}
use Rattle.instance_store.specs.Instances.{InstanceState}
use Rattle.script_meaning.specs.Requests.{Request, Method, ParentMethod, GlobalFunction, GlobalNative, Get, Set, LoopPass, Return, Setting, Sight}
use Rattle.script_meaning.specs.Stacks.{Stop}
use Rattle.script_meaning.specs.Turns.{run_on}
use Rattle.script_meaning.specs.Turns as turns
use Rattle.script_meaning.specs.World.{Line}
use Rattle.code_meaning.specs.Code.{Function, Script}
use Rattle.code_meaning.specs.Engine.{code_engine}
use Rattle.code_meaning.specs.Execution.{Halt, reply_result, resumed, run_function, stop_at, with_reply}
use Rattle.code_meaning.specs.Execution as exec
use Rattle.code_meaning.specs.LookUp.{Body, BodyPlace, function_at, script_of}
use Rattle.code_meaning.specs.Operands as code
use Rattle.loaded_code.specs.Plain as plain
use Rattle.loaded_code.specs.Plain.{instruction_of}
use Rattle.loaded_code.specs.declared.instruction.LoadedInstruction.{LoadedInstruction}
use Rattle.loaded_code.specs.declared.script.LoadedFunction.{LoadedFunction}
use Rattle.pex_verify.specs.Plain.{outline_of, scripts_of}
use Rattle.body_runner.specs.declared.body.Home.{Home}
use Rattle.body_runner.specs.declared.body.Inner.{Inner}
use Rattle.body_runner.specs.declared.body.Turn.{Turn}
use Rattle.body_runner.specs.declared.frame.Frame.{Frame}
use Rattle.body_runner.specs.declared.frame.LoadedBody.{LoadedBody}
use Rattle.body_runner.specs.declared.store.Store.{Store}
use Rattle.body_runner.specs.Bodies.{KeepsOthers, home_of, inner_of}
use Rattle.body_runner.specs.Frames.{place_of}
use Rattle.body_runner.specs.Operands.{KeepsLoans}
use Rattle.body_runner.specs.Rows.{IsCodedIn}
use Rattle.body_runner.specs.Settings.{function_of}
use Rattle.body_runner.specs.Sights.{IsThere, Rest, instances_after, sight_of}
use Rattle.body_runner.proofs.InRows.{kept_twice, there_after}
use Rattle.body_runner.proofs.Kept.{loans_twice, nothing_kept, same_after}
use Rattle.body_runner.proofs.Places.{function_same}
use Rattle.stack_machine.specs.declared.run.Act.{Act}
use Rattle.stack_machine.specs.declared.run.Act.TheVariants as acts
use Rattle.stack_machine.specs.declared.run.Halt.{Halt as Halts}
use Rattle.stack_machine.specs.Runs.{beside, body_of, from_passes, from_place, is_pass, past_pass, run_passes, setting_on, AreFound, FrameStops, GivesAt, HasPassed, IsAct, IsActWhere, IsBodyAt, IsReady, MayRun, Meant, RunsTo, Stops}
use Rattle.stack_machine.proofs.Runs.{more_written}

pub ready_after : (home : Home) (old new : Inner) → KeepsOthers home old new → IsReady home old.store.now.instances → IsReady home new.store.now.instances
ready_after home old new kept r =
    record { there = there_after home old new kept r.there; coded = r.coded; found = r.found; bound = r.bound }

-- ---- passes
-- an act that is no loop pass ends a run
is_the_pass : (act : Act) → is_pass act ≡ true → act ≡ acts.Pass
is_the_pass acts.Pass e = refl
is_the_pass (acts.Call call) e = absurd (cc)
is_the_pass (acts.Native at arguments) e = absurd (cc)
is_the_pass (acts.Return value) e = absurd (cc)

no_pass : (function : LoadedFunction) (script : ℕ) (own : Option ℕ) (at : ℕ) (act : Act) (request : Request) (go : ℕ → code.Inner → Halt) (halt : Halt) → IsAct function script own at act request → is_pass act ≡ false → past_pass go halt request ≡ halt
no_pass function script own at acts.Pass request go halt is not = absurd (cc)
no_pass function script own at (acts.Call call) (Method a b c d) go halt is not = refl
no_pass function script own at (acts.Call call) (ParentMethod a b c d) go halt is not = refl
no_pass function script own at (acts.Call call) (GlobalFunction a b c d) go halt is not = refl
no_pass function script own at (acts.Call call) (GlobalNative a b) go halt is not = refl
no_pass function script own at (acts.Call call) (Get a b c) go halt is not = refl
no_pass function script own at (acts.Call call) (Set a b c) go halt is not = refl
no_pass function script own at (acts.Call call) LoopPass go halt is not = absurd is.is_request
no_pass function script own at (acts.Call call) (Return a) go halt is not = refl
no_pass function script own at (acts.Native place arguments) request go halt is not = ap (past_pass go halt) is
no_pass function script own at (acts.Return value) request go halt is not = ap (past_pass go halt) is

module _ (home : Home) where
  pub passes_begun : (left same from : ℕ) (devices : List DeviceState) (now : Option (List ℕ)) (inner : Inner) → same ≡ left → HasPassed home (from_passes home left from inner devices) same from devices now now inner inner
  passes_begun left same from devices now inner e = record {
    lines = [];
    written = appended_none now;
    goes = λ printed. ap (λ o. run_passes (home_of home) left from (inner_of home inner (beside devices o))) (sym (append-nil printed)) ∙ ap (λ n. run_passes (home_of home) n from (inner_of home inner (beside devices (printed ++ [])))) (sym e);
    kept = nothing_kept home inner;
  }

  module _ (meaning : Meant) (place : ℕ) (halt : Halts) (between devices : List DeviceState) (before mid now : Option (List ℕ)) (first old new : Inner) where
    -- a further loop pass
    pub one_pass : (left less : ℕ) → left ≡ suc less → HasPassed home meaning left place between before mid first old → RunsTo home (from_place home place old between) halt devices mid now old new → is_pass halt.act ≡ true → HasPassed home meaning less halt.at devices before now first new
    one_pass left less e h r pass =
        let c = r.comes in
        let is_pass : c.request ≡ LoopPass = subst (λ (a : Act). IsAct home.function.now home.script home.instance halt.at a c.request) (is_the_pass halt.act pass) c.is_act in
        record {
          lines = h.lines ++ c.lines;
          written = more_written h.lines c.lines before mid now h.written c.written;
          goes = λ printed. h.goes printed
              ∙ (ap (λ n. run_passes (home_of home) n place (inner_of home old (beside between (printed ++ h.lines)))) e
              ∙ (ap (λ (x : Halt). past_pass (run_passes (home_of home) less) x x.request) (c.comes (printed ++ h.lines))
              ∙ (ap (λ (x : Request). past_pass (run_passes (home_of home) less) (record { request = c.request; at = halt.at; inner = inner_of home new (beside devices ((printed ++ h.lines) ++ c.lines)) }) x) is_pass
              ∙ ap (λ o. run_passes (home_of home) less halt.at (inner_of home new (beside devices o))) (append_assoc printed h.lines c.lines))));
          kept = kept_twice home first old new h.kept r.kept;
        }

    ends_by : HasPassed home meaning zero place between before mid first old → RunsTo home (from_place home place old between) halt devices mid now old new → RunsTo home meaning halt devices before now first new
    ends_by h r =
        let c = r.comes in
        record {
          comes = record {
            lines = h.lines ++ c.lines;
            written = more_written h.lines c.lines before mid now h.written c.written;
            request = c.request;
            is_act = c.is_act;
            comes = λ printed. h.goes printed ∙ (c.comes (printed ++ h.lines) ∙ ap (λ (o : List Line). record { request = c.request; at = halt.at; inner = inner_of home new (beside devices o) }) (append_assoc printed h.lines c.lines));
          };
          kept = kept_twice home first old new h.kept r.kept;
        }

    -- the last pass
    pub last_pass : (left : ℕ) → left ≡ zero → HasPassed home meaning left place between before mid first old → RunsTo home (from_place home place old between) halt devices mid now old new → RunsTo home meaning halt devices before now first new
    last_pass left e h r = ends_by (subst (λ n. HasPassed home meaning n place between before mid first old) e h) r

    -- an act before the last pass
    pub act_before : (left less : ℕ) → left ≡ suc less → HasPassed home meaning left place between before mid first old → RunsTo home (from_place home place old between) halt devices mid now old new → is_pass halt.act ≡ false → RunsTo home meaning halt devices before now first new
    act_before left less e h r not =
        let c = r.comes in
        record {
          comes = record {
            lines = h.lines ++ c.lines;
            written = more_written h.lines c.lines before mid now h.written c.written;
            request = c.request;
            is_act = c.is_act;
            comes = λ printed. h.goes printed
                ∙ (ap (λ n. run_passes (home_of home) n place (inner_of home old (beside between (printed ++ h.lines)))) e
                ∙ (ap (λ (x : Halt). past_pass (run_passes (home_of home) less) x x.request) (c.comes (printed ++ h.lines))
                ∙ (no_pass home.function.now home.script home.instance halt.at halt.act c.request (run_passes (home_of home) less) (record { request = c.request; at = halt.at; inner = inner_of home new (beside devices ((printed ++ h.lines) ++ c.lines)) }) c.is_act not
                ∙ ap (λ (o : List Line). record { request = c.request; at = halt.at; inner = inner_of home new (beside devices o) }) (append_assoc printed h.lines c.lines))));
          };
          kept = kept_twice home first old new h.kept r.kept;
        }

pub pred_same : (n : ℕ) → pred n ≡ n - 1
pred_same zero = refl
pred_same (suc n) = let e : n ≡ suc n - 1 = omega arith in e

-- ---- the engine of code
module _ (outline : List ScriptShape) (scripts : List Script) (setting : Setting) (function : Function) where
  abbrev around : Body → code.Home
  around body = exec.home_of scripts setting body.place function

  ran_once : (body : Body) (reply : Option Value) (sight : Sight) → function_at scripts body.place ≡ Some function → exec.run_code scripts setting body reply sight ≡ stop_at body (resumed (around body) body.instruction reply (record { slots = body.slots; sight = sight }))
  ran_once body reply sight is = ap (run_function scripts setting body reply sight) is

  past_by : (body : Body) (left : ℕ) (halt : Halt) (request : Request) → ((next : Body) (after : Sight) → next.place ≡ body.place → run_on (code_engine outline scripts) setting left next None after ≡ stop_at next (run_passes (around next) left next.instruction (record { slots = next.slots; sight = after }))) → turns.past_pass (λ next after. run_on (code_engine outline scripts) setting left next None after) (stop_at body halt) request ≡ stop_at body (past_pass (run_passes (around body) left) halt request)
  past_by body left halt (Method a b c d) again = refl
  past_by body left halt (ParentMethod a b c d) again = refl
  past_by body left halt (GlobalFunction a b c d) again = refl
  past_by body left halt (GlobalNative a b) again = refl
  past_by body left halt (Get a b c) again = refl
  past_by body left halt (Set a b c) again = refl
  past_by body left halt LoopPass again = again (stop_at body halt).body halt.inner.sight refl
  past_by body left halt (Return a) again = refl

  ran_passes : (left : ℕ) (body : Body) (sight : Sight) → function_at scripts body.place ≡ Some function → run_on (code_engine outline scripts) setting left body None sight ≡ stop_at body (run_passes (around body) left body.instruction (record { slots = body.slots; sight = sight }))
  ran_passes zero body sight is = ran_once body None sight is
  ran_passes (suc left) body sight is =
      let halt = resumed (around body) body.instruction None (record { slots = body.slots; sight = sight }) in
      ap (λ (s : Stop Body). turns.past_pass (λ next after. run_on (code_engine outline scripts) setting left next None after) s s.request) (ran_once body None sight is) ∙ past_by body left halt halt.request (λ next after same. ran_passes left next after (ap (function_at scripts) same ∙ is))

  ran_replied : (left : ℕ) (body : Body) (reply : Value) (sight : Sight) → function_at scripts body.place ≡ Some function → run_on (code_engine outline scripts) setting left body (Some reply) sight ≡ stop_at body (run_passes (around body) left (suc body.instruction) (with_reply (around body) (option_and_then reply_result (slice_get function.code body.instruction)) reply (record { slots = body.slots; sight = sight })))
  ran_replied zero body reply sight is = ran_once body (Some reply) sight is
  ran_replied (suc left) body reply sight is =
      let halt = resumed (around body) body.instruction (Some reply) (record { slots = body.slots; sight = sight }) in
      ap (λ (s : Stop Body). turns.past_pass (λ next after. run_on (code_engine outline scripts) setting left next None after) s s.request) (ran_once body (Some reply) sight is) ∙ past_by body left halt halt.request (λ next after same. ran_passes left next after (ap (function_at scripts) same ∙ is))

pub ran_loans : {T E : Type 0} (result : Result T E) (P : T → Type 0) (Q : Type 0) → ((value : T) → P value → Q) → IfOk result P → OnOk result Q
ran_loans (Ok value) P Q f h = f value h
ran_loans (Err e) P Q f h = tt

-- ---- replies
pub gave_kept : (home : Home) (i : Option LoadedInstruction) (reply : Value) (old new : Inner) → GivesAt home i reply old new → KeepsOthers home old new
gave_kept home None reply old new g = subst (KeepsOthers home old) (sym g) (nothing_kept home old)
gave_kept home (Some call) reply old new g = g.kept

pub replied_loans : {T E : Type 0} (home : Home) (result : Result T E) (i : Option LoadedInstruction) (reply : Value) (old mid new : Inner) → GivesAt home i reply old mid → OnOk result (KeepsLoans mid new) → OnOk result (KeepsLoans old new)
replied_loans home (Ok value) i reply old mid new g k = loans_twice old mid new (gave_kept home i reply old mid g).loans k
replied_loans home (Err e) i reply old mid new g k = tt

module _ (home : Home) (place : BodyPlace) (is : IsBodyAt home place) where
  abbrev of_script : ℕ → code.Home
  of_script n = record { setting = (home_of home).setting; scripts = (home_of home).scripts; script = n; function = (home_of home).function }

  abbrev all_left : ℕ
  all_left = pred home.turn.now.setting.now.scene.quantum

  pub engine_stops : (from : ℕ) (halt : Halts) (devices devices' : List DeviceState) (before now : Option (List ℕ)) (old new : Inner) → RunsTo home (from_passes home all_left from old devices) halt devices' before now old new → Stops home place from None halt devices devices' before now old.slots.now.items new.slots.now.items old.store.now new.store.now
  engine_stops from halt devices devices' before now old new r =
      let h = home_of home in
      let body : Body = record { place = place; instruction = from; slots = old.slots.now.items } in
      record {
        lines = r.comes.lines;
        written = r.comes.written;
        request = r.comes.request;
        is_act = r.comes.is_act;
        stops = λ printed.
            let inner = inner_of home old (beside devices printed) in
            ran_passes h.setting.outline h.scripts h.setting h.function all_left body inner.sight is.function
            ∙ (ap (λ n. stop_at body (run_passes (of_script n) all_left from inner)) is.script
            ∙ ap (stop_at body) (r.comes.comes printed));
        kept = r.kept.others;
      }

  -- ---- with the reply that the body awaits
  gave : (i : Option LoadedInstruction) (reply : Value) (old new : Inner) (rest : Rest) → GivesAt home i reply old new → inner_of home new rest ≡ with_reply (home_of home) (option_and_then reply_result (option_map instruction_of i)) reply (inner_of home old rest)
  gave None reply old new rest g = ap (λ (inner : Inner). inner_of home inner rest) g
  gave (Some call) reply old new rest g = g.given rest

  pub replied_stops : (from next : ℕ) (reply : Value) (halt : Halts) (devices devices' : List DeviceState) (before now : Option (List ℕ)) (old mid new : Inner) → next ≡ suc from → GivesAt home (slice_get home.function.now.code.items from) reply old mid → RunsTo home (from_passes home all_left next mid devices) halt devices' before now mid new → Stops home place from (Some reply) halt devices devices' before now old.slots.now.items new.slots.now.items old.store.now new.store.now
  replied_stops from next reply halt devices devices' before now old mid new e g r =
      let h = home_of home in
      let body : Body = record { place = place; instruction = from; slots = old.slots.now.items } in
      let to = option_and_then reply_result (slice_get h.function.code from) in
      let kept = kept_twice home old mid new (gave_kept home (slice_get home.function.now.code.items from) reply old mid g) r.kept in
      record {
        lines = r.comes.lines;
        written = r.comes.written;
        request = r.comes.request;
        is_act = r.comes.is_act;
        stops = λ printed.
            let inner = inner_of home old (beside devices printed) in
            let given = gave (slice_get home.function.now.code.items from) reply old mid (beside devices printed) g in
            let at : option_map instruction_of (slice_get home.function.now.code.items from) ≡ slice_get h.function.code from = sym (slice_get-map instruction_of home.function.now.code.items from) in
            let after : with_reply h to reply inner ≡ inner_of home mid (beside devices printed) = sym (given ∙ ap (λ o. with_reply h (option_and_then reply_result o) reply inner) at) in
            ran_replied h.setting.outline h.scripts h.setting h.function all_left body reply inner.sight is.function
            ∙ (ap (λ n. stop_at body (run_passes (of_script n) all_left (suc from) (with_reply (of_script n) to reply inner))) is.script
            ∙ (ap (λ x. stop_at body (run_passes h all_left (suc from) x)) after
            ∙ (ap (λ n. stop_at body (run_passes h all_left n (inner_of home mid (beside devices printed)))) (sym e)
            ∙ ap (stop_at body) (r.comes.comes printed))));
        kept = kept.others;
      }

-- ---- frames
-- a body without a function gives None
no_function : (outline : List ScriptShape) (scripts : List Script) (setting : Setting) (left : ℕ) (body : Body) (reply : Option Value) (sight : Sight) → ◌≡◌ {A = Option Function} (function_at scripts body.place) None → run_on (code_engine outline scripts) setting left body reply sight ≡ record { request = Return NoneValue; body = body; sight = sight }
no_function outline scripts setting zero body reply sight is = ap (run_function scripts setting body reply sight) is
no_function outline scripts setting (suc left) body reply sight is =
    ap (λ (s : Stop Body). turns.past_pass (λ next after. run_on (code_engine outline scripts) setting left next None after) s s.request) (ap (run_function scripts setting body reply sight) is)

pub stops_without : (turn : Turn) (has_room : Bool) (reply : Option Value) (devices : List DeviceState) (now : Option (List ℕ)) (frame : Frame) (store : Store) → ◌≡◌ {A = Option LoadedFunction} None (function_of turn.setting.now.loaded.scripts frame.body) → FrameStops turn has_room reply (acts.Return NoneValue) devices devices now now frame frame store store
stops_without turn has_room reply devices now frame store none =
    let set = turn.setting.now.loaded in
    let is : ◌≡◌ {A = Option Function} (function_at (scripts_of set) (place_of frame.body)) None = function_same set.scripts frame.body ∙ ap (option_map plain.function_of) (sym none) in
    record {
      lines = [];
      written = appended_none now;
      request = Return NoneValue;
      is_act = subst (λ (f : Option LoadedFunction). IsActWhere f (script_of (place_of frame.body)) frame.instance frame.place (acts.Return NoneValue) (Return NoneValue)) none (refl, refl);
      instance = refl;
      body = refl;
      stops = λ printed. no_function (outline_of set) (scripts_of set) (setting_on turn has_room frame.instance) (pred turn.setting.now.scene.quantum) (body_of frame) reply (sight_of store.instances store.arrays frame.instance (beside devices printed)) is
          ∙ ap (λ (o : List Line). record { request = Return NoneValue; body = body_of frame; sight = sight_of store.instances store.arrays frame.instance (beside devices o) }) (sym (append-nil printed));
      kept = same_after store.instances frame.instance;
    }

pub none_found : {X : Type 0} (o : Option X) → ((x : X) → o ≡ Some x → ⊥) → o ≡ None
none_found None n = refl
none_found (Some x) n = absurd (n x refl)

-- the function of a frame
module _ (home : Home) (body : LoadedBody) (found : ◌≡◌ {A = Option LoadedFunction} (Some home.function.now) (function_of home.turn.now.setting.now.loaded.scripts body)) (script : home.script ≡ script_of (place_of body)) where
  pub body_there : IsBodyAt home (place_of body)
  body_there = record {
    function = function_same home.turn.now.setting.now.loaded.scripts body ∙ ap (option_map plain.function_of) (sym found);
    script = sym script;
  }

  pub ready_there : (frame : Frame) (instances : List InstanceState) → frame.body ≡ body → home.instance ≡ frame.instance → IsCodedIn home → MayRun home.turn.now frame instances → IsReady home instances
  ready_there frame instances same own coded m = record {
    there = subst (λ (o : Option ℕ). IsThere o instances) (sym own) m.there;
    coded = coded;
    found = subst (λ (f : Option LoadedFunction). IfSome f (AreFound home.turn.now.setting.now.loaded)) (sym (found ∙ ap (function_of home.turn.now.setting.now.loaded.scripts) (sym same))) m.found;
    bound = m.bound;
  }

  pub frame_stops : (reply : Option Value) (halt : Halts) (devices devices' : List DeviceState) (before now : Option (List ℕ)) (first last : Frame) (old new : Store) → first.body ≡ body → home.instance ≡ first.instance → last.instance ≡ first.instance → last.body ≡ first.body → last.place ≡ halt.at → Stops home (place_of body) first.place reply halt devices devices' before now first.slots.items last.slots.items old new → FrameStops home.turn.now home.has_room reply halt.act devices devices' before now first last old new
  frame_stops reply halt devices devices' before now first last old new same own instance kept at s =
      let turn = home.turn.now in
      let scripts = turn.setting.now.loaded.scripts in
      let engine = code_engine (outline_of turn.setting.now.loaded) (scripts_of turn.setting.now.loaded) in
      let left = pred turn.setting.now.scene.quantum in
      let act_at = subst (λ n. IsAct home.function.now home.script home.instance n halt.act s.request) (sym at) s.is_act in
      let act_on = subst (λ (o : Option ℕ). IsAct home.function.now home.script o last.place halt.act s.request) own act_at in
      let act_in = subst (λ n. IsAct home.function.now n first.instance last.place halt.act s.request) (script ∙ ap (λ b. script_of (place_of b)) (sym same)) act_on in
      record {
        lines = s.lines;
        written = s.written;
        request = s.request;
        is_act = subst (λ (f : Option LoadedFunction). IsActWhere f (script_of (place_of first.body)) first.instance last.place halt.act s.request) (found ∙ ap (function_of scripts) (sym same)) act_in;
        instance = instance;
        body = kept;
        stops = λ printed.
            let seen : Option ℕ → Sight = λ o. sight_of old.instances old.arrays o (beside devices printed) in
            let left_seen : Option ℕ → Sight = λ o. sight_of new.instances new.arrays o (beside devices' (printed ++ s.lines)) in
            let on = subst (λ (o : Option ℕ). run_on engine (setting_on turn home.has_room o) left (record { place = place_of body; instruction = first.place; slots = first.slots.items }) reply (seen o) ≡ record { request = s.request; body = record { place = place_of body; instruction = halt.at; slots = last.slots.items }; sight = left_seen o }) own (s.stops printed) in
            let there = subst (λ b. run_on engine (setting_on turn home.has_room first.instance) left (record { place = place_of b; instruction = first.place; slots = first.slots.items }) reply (seen first.instance) ≡ record { request = s.request; body = record { place = place_of b; instruction = halt.at; slots = last.slots.items }; sight = left_seen first.instance }) (sym same) on in
            there
            ∙ (ap (λ (b : LoadedBody). record { request = s.request; body = record { place = place_of b; instruction = halt.at; slots = last.slots.items }; sight = left_seen first.instance }) (sym kept)
            ∙ ap (λ (n : ℕ). record { request = s.request; body = record { place = place_of last.body; instruction = n; slots = last.slots.items }; sight = left_seen first.instance }) (sym at));
        kept = subst (λ (o : Option ℕ). new.instances ≡ instances_after old.instances o new.instances) own s.kept;
      }
