-- Engines that do the same on related bodies have the same runs of worlds.
use Rattle.std.proofs.Common.{◌≡◌, ℕ, zero, suc, pred, ◌+◌, Bool, true, false, cond, ◌&&◌, List, [], ◌∷◌, ◌++◌, map, Option, Some, None, refl, sym, ap, subst, ◌∙◌}
use Rattle.std.specs.Prelude.{is_some, length, sum, nat_lt, slice_set}
use Rattle.core_tree.specs.declared.DeviceKind.{DeviceKind}
use Rattle.core_tree.specs.declared.expression.FunctionPlace.{FunctionPlace}
use Rattle.core_tree.specs.declared.value.Value.{Value}
use Rattle.core_tree.specs.Outlines.{ScriptShape}
use Rattle.core_tree.specs.Scenes.{SceneShape, CallShape}
use Rattle.script_meaning.specs.First.{first_state}
use Rattle.run_laws.specs.Fits.{Fitting, InnermostFits, TurnFits, NextTurnFits}
use Rattle.script_meaning.specs.Locks.{goes_to_wait, rests, moves, takes}
use Rattle.run_laws.specs.Related.{EnteredAlike, both_open, both_native, both_read, both_write, both_nothing, AtRequest, AtLoopPass, StopsAlike, EnginesAlike}
use Rattle.script_meaning.specs.Requests.{Sight, Setting, Request, Method, ParentMethod, GlobalFunction, GlobalNative, Get, Set, LoopPass, Return, binding_in, is_prompt, latency_of, performed_at}
use Rattle.script_meaning.specs.Stacks.{Way, ByMethod, ByParent, ByGlobal, ByGet, BySet, Frame, Stack, Done, ToEnter, Running, Entered, Stop, Engine, State, stack_at, inner_instance, stack_limit, frame_limit, frames_below, has_room}
use Rattle.script_meaning.specs.Turns.{sight_of, with_sight, Turn, After, answered, returned, native_done, acted, past_pass, run_on, stopped, ran, native_entered, entered, in_turn, setting_of, turn_of, after_turn, turn_ended, turned, instance_script, call_started, calls_started, is_due, not_due, all_wait, awoken, begun, chosen, has_ended, chosen_turned, step, states_from}
use Rattle.script_meaning.specs.World.{World, title}
use Rattle.std.specs.List.{filter, AllByRecursion}
use Rattle.std.proofs.Math.Dec.{eqb}

module _ {B C : Type 0} (R : Option ℕ → Bool → B → C → Type 0) where
  -- frames that wait
  pub data BelowAlike : List (Frame B) → List (Frame C) → Type 0 where
    none_below : BelowAlike [] []
    more_below : {f : Frame B} {g : Frame C} {fs : List (Frame B)} {gs : List (Frame C)} → f.instance ≡ g.instance → R f.instance true f.body g.body → BelowAlike fs gs → BelowAlike (f ∷ fs) (g ∷ gs)

  pub data StackAlike : Stack B → Stack C → Type 0 where
    both_done : StackAlike Done Done
    both_enter : (instance : Option ℕ) (way : Way) (arguments : List Value) {fs : List (Frame B)} {gs : List (Frame C)} → BelowAlike fs gs → StackAlike (ToEnter instance way arguments fs) (ToEnter instance way arguments gs)
    both_run : (reply : Option Value) {f : Frame B} {g : Frame C} {fs : List (Frame B)} {gs : List (Frame C)} → f.instance ≡ g.instance → R f.instance (is_some reply) f.body g.body → BelowAlike fs gs → StackAlike (Running f reply fs) (Running g reply gs)

  pub data StacksAlike : List (Stack B) → List (Stack C) → Type 0 where
    no_stacks : StacksAlike [] []
    more_stacks : {s : Stack B} {t : Stack C} {ss : List (Stack B)} {ts : List (Stack C)} → StackAlike s t → StacksAlike ss ts → StacksAlike (s ∷ ss) (t ∷ ts)

  -- ---- one stack among others
  stack_alike : (k : ℕ) {ss : List (Stack B)} {ts : List (Stack C)} → StacksAlike ss ts → StackAlike (stack_at ss k) (stack_at ts k)
  stack_alike k no_stacks = both_done
  stack_alike zero (more_stacks s ss) = s
  stack_alike (suc k) (more_stacks s ss) = stack_alike k ss

  set_alike : (k : ℕ) {s : Stack B} {t : Stack C} → StackAlike s t → {ss : List (Stack B)} {ts : List (Stack C)} → StacksAlike ss ts → StacksAlike (slice_set ss k s) (slice_set ts k t)
  set_alike k new no_stacks = no_stacks
  set_alike zero new (more_stacks s ss) = more_stacks new ss
  set_alike (suc k) new (more_stacks s ss) = more_stacks s (set_alike k new ss)

  append_alike : {s : Stack B} {t : Stack C} → StackAlike s t → {ss : List (Stack B)} {ts : List (Stack C)} → StacksAlike ss ts → StacksAlike (ss ++ s ∷ []) (ts ++ t ∷ [])
  append_alike new no_stacks = more_stacks new no_stacks
  append_alike new (more_stacks s ss) = more_stacks s (append_alike new ss)

  same_length : {fs : List (Frame B)} {gs : List (Frame C)} → BelowAlike fs gs → length fs ≡ length gs
  same_length none_below = refl
  same_length (more_below e r fs) = ap suc (same_length fs)

  same_height : {s : Stack B} {t : Stack C} → StackAlike s t → length (frames_below s) ≡ length (frames_below t)
  same_height both_done = refl
  same_height (both_enter instance way arguments fs) = same_length fs
  same_height (both_run reply e r fs) = same_length fs

  same_heights : {ss : List (Stack B)} {ts : List (Stack C)} → StacksAlike ss ts → map (λ s. length (frames_below s)) ss ≡ map (λ t. length (frames_below t)) ts
  same_heights no_stacks = refl
  same_heights (more_stacks s ss) = λ i. same_height s i ∷ same_heights ss i

  same_room : (k : ℕ) {ss : List (Stack B)} {ts : List (Stack C)} → StacksAlike ss ts → has_room ss k ≡ has_room ts k
  same_room k a = λ i. nat_lt (suc (same_height (stack_alike k a) i)) stack_limit && nat_lt (sum (same_heights a i)) frame_limit

  same_inner : {s : Stack B} {t : Stack C} → StackAlike s t → inner_instance s ≡ inner_instance t
  same_inner both_done = refl
  same_inner (both_enter instance way arguments fs) = refl
  same_inner (both_run reply e r fs) = e

  -- ---- acts
  abbrev pub AfterAlike : After B → After C → Type 0
  AfterAlike a b = (a.0 ≡ b.0) × StackAlike a.1 b.1

  answered_alike : (turn : Turn) (goes_on : Option ℕ → World → World) (value : Value) (world : World) {fs : List (Frame B)} {gs : List (Frame C)} → BelowAlike fs gs → AfterAlike (answered turn goes_on value fs world) (answered turn goes_on value gs world)
  answered_alike turn goes_on value world none_below = (refl, both_done)
  answered_alike turn goes_on value world (more_below e r fs) = (ap (λ o. goes_on o world) e, both_run (Some value) e r fs)

  returned_alike : (turn : Turn) (value : Value) (world : World) {fs : List (Frame B)} {gs : List (Frame C)} → BelowAlike fs gs → AfterAlike (returned turn value fs world) (returned turn value gs world)
  returned_alike turn value world fs = answered_alike turn (moves turn.stack turn.own) value world fs

  native_alike : (turn : Turn) (at : FunctionPlace) (arguments : List Value) (world : World) {fs : List (Frame B)} {gs : List (Frame C)} → BelowAlike fs gs → AfterAlike (native_done turn at arguments fs world) (native_done turn at arguments gs world)
  native_alike turn at arguments world fs =
      let done : Value × Sight = performed_at turn.setting at arguments (sight_of world turn.own) in
      answered_alike turn (rests turn.stack (latency_of (binding_in turn.setting.natives at) arguments)) done.0 (with_sight world turn.own done.1) fs

  abbrev frame_on : {Body : Type 0} → Turn → Body → Frame Body
  frame_on turn body = record { instance = turn.own; body = body }

  acted_alike : (turn : Turn) (request : Request) (world : World) (b : B) (c : C) {fs : List (Frame B)} {gs : List (Frame C)} → AtRequest request (λ waits. R turn.own waits b c) → BelowAlike fs gs → AfterAlike (acted turn request (frame_on turn b) fs world) (acted turn request (frame_on turn c) gs world)
  acted_alike turn (Method target name arguments otherwise) world b c a fs = (refl, both_enter (Some target) (ByMethod name) arguments (more_below refl a fs))
  acted_alike turn (ParentMethod script name arguments otherwise) world b c a fs = (refl, both_enter turn.own (ByParent script name) arguments (more_below refl a fs))
  acted_alike turn (GlobalFunction script name arguments otherwise) world b c a fs = (refl, both_enter None (ByGlobal script name) arguments (more_below refl a fs))
  acted_alike turn (GlobalNative at arguments) world b c a fs = native_alike turn at arguments world (more_below refl a fs)
  acted_alike turn (Get target name otherwise) world b c a fs = (refl, both_enter (Some target) (ByGet name) [] (more_below refl a fs))
  acted_alike turn (Set target name value) world b c a fs = (refl, both_enter (Some target) (BySet name) (value ∷ []) (more_below refl a fs))
  acted_alike turn LoopPass world b c a fs = (refl, both_run None refl a fs)
  acted_alike turn (Return value) world b c a fs = returned_alike turn value world fs

  pub record StatesAlike (s : State B) (t : State C) : Type 0 where
    pub world : s.world ≡ t.world
    pub stacks : StacksAlike s.stacks t.stacks

  module _ (fitting : Fitting B) (left : Engine B) (right : Engine C) (alike : EnginesAlike fitting R left right) where
    -- ---- inner steps
    abbrev Stopped : Setting → Stop B → Stop C → Type 0
    Stopped setting s t = StopsAlike fitting R setting s t

    passes_alike : (setting : Setting) (request : Request) (s : Stop B) (t : Stop C) (go : B → Sight → Stop B) (go' : C → Sight → Stop C) → Stopped setting s t → AtRequest request (λ waits. R setting.self waits s.body t.body) → AtLoopPass request (fitting.sight setting s.sight × fitting.body setting s.sight s.body None) → (R setting.self false s.body t.body → (fitting.sight setting s.sight × fitting.body setting s.sight s.body None) → Stopped setting (go s.body s.sight) (go' t.body t.sight)) → Stopped setting (past_pass go s request) (past_pass go' t request)
    passes_alike setting (Method target name arguments otherwise) s t go go' a r f more = a
    passes_alike setting (ParentMethod script name arguments otherwise) s t go go' a r f more = a
    passes_alike setting (GlobalFunction script name arguments otherwise) s t go go' a r f more = a
    passes_alike setting (GlobalNative at arguments) s t go go' a r f more = a
    passes_alike setting (Get target name otherwise) s t go go' a r f more = a
    passes_alike setting (Set target name value) s t go go' a r f more = a
    passes_alike setting LoopPass s t go go' a r f more = more r f
    passes_alike setting (Return value) s t go go' a r f more = a

    run_on_alike : (setting : Setting) (passes : ℕ) (b : B) (c : C) (reply : Option Value) (sight : Sight) → R setting.self (is_some reply) b c → fitting.sight setting sight → fitting.body setting sight b reply → Stopped setting (run_on left setting passes b reply sight) (run_on right setting passes c reply sight)
    run_on_alike setting zero b c reply sight r f h = alike.run setting b c reply sight r f h
    run_on_alike setting (suc passes) b c reply sight r f h =
        let s : Stop B = left.run setting b reply sight in
        let t : Stop C = right.run setting c reply sight in
        let a : Stopped setting s t = alike.run setting b c reply sight r f h in
        let go : B → Sight → Stop B = λ next after. run_on left setting passes next None after in
        let go' : C → Sight → Stop C = λ next after. run_on right setting passes next None after in
        let more : R setting.self false s.body t.body → (fitting.sight setting s.sight × fitting.body setting s.sight s.body None) → Stopped setting (go s.body s.sight) (go' t.body t.sight) = λ related fits. subst (λ x. Stopped setting (go s.body s.sight) (go' t.body x)) a.sight (run_on_alike setting passes s.body t.body None s.sight related fits.0 fits.1) in
        subst (λ q. Stopped setting (past_pass go s s.request) (past_pass go' t q)) a.request (passes_alike setting s.request s t go go' a a.bodies a.fits more)

    stopped_alike : (turn : Turn) (world : World) (s : Stop B) (t : Stop C) {fs : List (Frame B)} {gs : List (Frame C)} → turn.setting.self ≡ turn.own → Stopped turn.setting s t → BelowAlike fs gs → AfterAlike (stopped turn world fs s) (stopped turn world gs t)
    stopped_alike turn world s t {fs} {gs} own a below =
        let here : AfterAlike (acted turn s.request (frame_on turn s.body) fs (with_sight world turn.own s.sight)) (acted turn s.request (frame_on turn t.body) gs (with_sight world turn.own s.sight)) = acted_alike turn s.request (with_sight world turn.own s.sight) s.body t.body (subst (λ o. AtRequest s.request (λ waits. R o waits s.body t.body)) own a.bodies) below in
        subst (λ x. AfterAlike (stopped turn world fs s) (acted turn t.request (frame_on turn t.body) gs (with_sight world turn.own x))) a.sight (subst (λ q. AfterAlike (stopped turn world fs s) (acted turn q (frame_on turn t.body) gs (with_sight world turn.own s.sight))) a.request here)

    ran_alike : (scene : SceneShape) (turn : Turn) (world : World) (b : B) (c : C) (reply : Option Value) {fs : List (Frame B)} {gs : List (Frame C)} → turn.setting.self ≡ turn.own → R turn.setting.self (is_some reply) b c → fitting.sight turn.setting (sight_of world turn.own) → fitting.body turn.setting (sight_of world turn.own) b reply → BelowAlike fs gs → AfterAlike (ran scene left turn world fs b reply) (ran scene right turn world gs c reply)
    ran_alike scene turn world b c reply own r f h below =
        stopped_alike turn world (run_on left turn.setting (pred scene.quantum) b reply (sight_of world turn.own)) (run_on right turn.setting (pred scene.quantum) c reply (sight_of world turn.own)) own (run_on_alike turn.setting (pred scene.quantum) b c reply (sight_of world turn.own) r f h) below

    native_entered_alike : (turn : Turn) (at : FunctionPlace) (arguments : List Value) (world : World) (prompt : Bool) {fs : List (Frame B)} {gs : List (Frame C)} → BelowAlike fs gs → AfterAlike (native_entered turn at arguments world fs prompt) (native_entered turn at arguments world gs prompt)
    native_entered_alike turn at arguments world true below = returned_alike turn _ _ below
    native_entered_alike turn at arguments world false below = native_alike turn at arguments world below

    entered_alike : (scene : SceneShape) (turn : Turn) (world : World) (arguments : List Value) {fs : List (Frame B)} {gs : List (Frame C)} → turn.setting.self ≡ turn.own → BelowAlike fs gs → fitting.sight turn.setting (sight_of world turn.own) → {e : Entered B} {d : Entered C} → EnteredAlike (λ b c. R turn.setting.self false b c × fitting.body turn.setting (sight_of world turn.own) b None) e d → AfterAlike (entered scene left turn world fs arguments e) (entered scene right turn world gs arguments d)
    entered_alike scene turn world arguments own below s (both_open {b} {c} r) = ran_alike scene turn world b c None own r.0 s r.1 below
    entered_alike scene turn world arguments own below s (both_native at) = native_entered_alike turn at arguments world (is_prompt (binding_in turn.setting.natives at)) below
    entered_alike scene turn world arguments own below s (both_read script variable) = returned_alike turn _ _ below
    entered_alike scene turn world arguments own below s (both_write script variable) = returned_alike turn _ _ below
    entered_alike scene turn world arguments own below s both_nothing = returned_alike turn _ _ below

    abbrev turn_on : ℕ → Setting → Option ℕ → Turn
    turn_on k setting own = record { stack = k; own = own; setting = setting }

    in_turn_alike : (scene : SceneShape) (k : ℕ) (setting : Setting) (world : World) {s : Stack B} {t : Stack C} → setting.self ≡ inner_instance s → StackAlike s t → InnermostFits fitting setting world s → AfterAlike (in_turn scene left (turn_on k setting (inner_instance s)) world s) (in_turn scene right (turn_on k setting (inner_instance s)) world t)
    in_turn_alike scene k setting world own both_done i = (refl, both_done)
    in_turn_alike scene k setting world own (both_enter instance way arguments below) i =
        entered_alike scene (turn_on k setting instance) world arguments own below i.0 (alike.enter setting (sight_of world instance) (instance_script world instance) way arguments i.0 i.1)
    in_turn_alike scene k setting world own (both_run reply {f} {g} e r below) i =
        ran_alike scene (turn_on k setting f.instance) world f.body g.body reply own (subst (λ o. R o (is_some reply) f.body g.body) (sym own) r) i.0 i.1 below

    -- ---- turns
    turn_from : SceneShape → World → ℕ → Option ℕ → Bool → Turn
    turn_from scene world k own room =
        record { stack = k; own = own; setting = record { stack = k; self = own; outline = world.outline; instances = map title world.instances; natives = scene.natives; has_room = room } }

    after_alike : (scene : SceneShape) (world : World) (ss : List (Stack B)) (ts : List (Stack C)) (k : ℕ) → StacksAlike ss ts → {s : Stack B} {t : Stack C} → StackAlike s t → InnermostFits fitting (setting_of scene world ss k (inner_instance s)) world s → AfterAlike (after_turn scene left world ss k s) (after_turn scene right world ts k t)
    unfolding turn_from
    after_alike scene world ss ts k all {s} {t} a n =
        let own : Option ℕ = inner_instance s in
        let here : AfterAlike (in_turn scene left (turn_of scene world ss k own) world s) (in_turn scene right (turn_of scene world ss k own) world t) = in_turn_alike scene k (setting_of scene world ss k own) world refl a n in
        let room : AfterAlike (in_turn scene left (turn_of scene world ss k own) world s) (in_turn scene right (turn_of scene world ts k own) world t) = subst (λ x. AfterAlike (in_turn scene left (turn_of scene world ss k own) world s) (in_turn scene right (turn_from scene world k own x) world t)) (same_room k all) here in
        subst (λ o. AfterAlike (in_turn scene left (turn_of scene world ss k own) world s) (in_turn scene right (turn_of scene world ts k o) world t)) (same_inner a) room

    turned_alike : (scene : SceneShape) (world : World) (k : ℕ) {ss : List (Stack B)} {ts : List (Stack C)} → TurnFits fitting scene (record { world = world; stacks = ss }) k → StacksAlike ss ts → StatesAlike (turned scene left (record { world = world; stacks = ss }) k) (turned scene right (record { world = world; stacks = ts }) k)
    turned_alike scene world k {ss} {ts} n a =
        let after : AfterAlike (after_turn scene left (takes k world) ss k (stack_at ss k)) (after_turn scene right (takes k world) ts k (stack_at ts k)) = after_alike scene (takes k world) ss ts k a (stack_alike k a) n in
        record { world = ap (λ w. turn_ended w k) after.0; stacks = set_alike k after.1 a }

    chosen_alike : (scene : SceneShape) (world : World) (o : Option ℕ) {ss : List (Stack B)} {ts : List (Stack C)} → ((k : ℕ) → TurnFits fitting scene (record { world = world; stacks = ss }) k) → StacksAlike ss ts → StatesAlike (chosen_turned scene left (record { world = world; stacks = ss }) o) (chosen_turned scene right (record { world = world; stacks = ts }) o)
    chosen_alike scene world None n a = record { world = refl; stacks = a }
    chosen_alike scene world (Some k) n a = turned_alike scene world k (n k) a

    -- ---- the start of a turn
    both_states : (now : Bool) (s s' : State B) (t t' : State C) → StatesAlike s t → StatesAlike s' t' → StatesAlike (cond now s s') (cond now t t')
    both_states true s s' t t' a b = a
    both_states false s s' t t' a b = b

    call_alike : (s : State B) (t : State C) (call : CallShape) → StatesAlike s t → StatesAlike (call_started s call) (call_started t call)
    call_alike s t call a =
        record { world = ap (λ (w : World). goes_to_wait w.started (Some call.instance) (record w { started = w.started + 1 })) a.world; stacks = append_alike (both_enter (Some call.instance) (ByMethod call.function) call.arguments none_below) a.stacks }

    calls_alike : (calls : List CallShape) (s : State B) (t : State C) → StatesAlike s t → StatesAlike (calls_started calls s) (calls_started calls t)
    calls_alike [] s t a = a
    calls_alike (call ∷ rest) s t a =
        calls_alike rest _ _ (subst (λ n. StatesAlike (cond (eqb call.turn s.world.turn) (call_started s call) s) (cond (eqb call.turn n) (call_started t call) t)) (ap (λ (w : World). w.turn) a.world) (both_states (eqb call.turn s.world.turn) (call_started s call) s (call_started t call) t (call_alike s t call a) a))

    waits_alike : (sleepers : List (ℕ × ℕ)) (world : World) {ss : List (Stack B)} {ts : List (Stack C)} → StacksAlike ss ts → all_wait ss sleepers world ≡ all_wait ts sleepers world
    waits_alike [] world a = refl
    waits_alike (first ∷ rest) world {ss} {ts} a =
        ap (λ o. all_wait ss rest (goes_to_wait first.0 o world)) (same_inner (stack_alike first.0 a)) ∙ waits_alike rest (goes_to_wait first.0 (inner_instance (stack_at ts first.0)) world) a

    awoken_world : World → World
    awoken_world world = record world { asleep = filter (not_due world.turn) world.asleep }

    awoken_alike : (s : State B) (t : State C) → StatesAlike s t → StatesAlike (awoken s) (awoken t)
    awoken_alike s t a = record {
      world = waits_alike (filter (is_due s.world.turn) s.world.asleep) (record s.world { asleep = filter (not_due s.world.turn) s.world.asleep }) a.stacks ∙ ap (λ (w : World). all_wait t.stacks (filter (is_due w.turn) w.asleep) (record w { asleep = filter (not_due w.turn) w.asleep })) a.world;
      stacks = a.stacks;
    }

    pub step_alike : (scene : SceneShape) (s : State B) (t : State C) → NextTurnFits fitting scene s → StatesAlike s t → StatesAlike (step scene left s) (step scene right t)
    step_alike scene s t n a =
        let b : StatesAlike (begun scene s) (begun scene t) = awoken_alike (calls_started scene.calls s) (calls_started scene.calls t) (calls_alike scene.calls s t a) in
        let here : StatesAlike (step scene left s) (chosen_turned scene right (record { world = (begun scene s).world; stacks = (begun scene t).stacks }) (chosen scene.order (begun scene s).world)) = chosen_alike scene (begun scene s).world (chosen scene.order (begun scene s).world) n b.stacks in
        subst (λ (w : World). StatesAlike (step scene left s) (chosen_turned scene right (record { world = w; stacks = (begun scene t).stacks }) (chosen scene.order w))) b.world here

    -- ---- runs
    abbrev worlds_of : {Body : Type 0} → List (State Body) → List World
    worlds_of states = map (λ state. state.world) states

    same_tail : (P : State B → Type 0) (ended : Bool) (more : List (State B)) (more' : List (State C)) → AllByRecursion P (cond ended [] more) → (AllByRecursion P more → worlds_of more ≡ worlds_of more') → worlds_of (cond ended [] more) ≡ worlds_of (cond ended [] more')
    same_tail P true more more' all same = refl
    same_tail P false more more' all same = same all

    pub same_worlds : (scene : SceneShape) (turns : ℕ) (s : State B) (t : State C) → AllByRecursion (NextTurnFits fitting scene) (states_from scene left turns s) → StatesAlike s t → worlds_of (states_from scene left turns s) ≡ worlds_of (states_from scene right turns t)
    same_worlds scene zero s t all a = ap (λ (w : World). w ∷ []) a.world
    same_worlds scene (suc turns) s t all a =
        let more : worlds_of (cond (has_ended scene s.world) [] (states_from scene left turns (step scene left s))) ≡ worlds_of (cond (has_ended scene t.world) [] (states_from scene right turns (step scene right t))) = same_tail (NextTurnFits fitting scene) (has_ended scene s.world) _ _ all.1 (λ rest. same_worlds scene turns (step scene left s) (step scene right t) rest (step_alike scene s t all.0 a)) ∙ ap (λ (w : World). worlds_of (cond (has_ended scene w) [] (states_from scene right turns (step scene right t)))) a.world in
        λ i. a.world i ∷ more i

    pub same_runs : (scene : SceneShape) (outline : List ScriptShape) (kinds : List DeviceKind) (turns : ℕ) → AllByRecursion (NextTurnFits fitting scene) (states_from scene left turns (first_state outline scene kinds)) → worlds_of (states_from scene left turns (first_state outline scene kinds)) ≡ worlds_of (states_from scene right turns (first_state outline scene kinds))
    same_runs scene outline kinds turns all =
        same_worlds scene turns (first_state outline scene kinds) (first_state outline scene kinds) all (record { world = refl; stacks = no_stacks })
