-- The steps of a body are what its run does. Places only rise between two loop passes, so that a pass executes each instruction at most once.
use Rattle.std.proofs.Common.{◌≡◌, ℕ, zero, suc, ◌+◌, ◌*◌, ◌<◌, ◌≤◌, List, [], ◌∷◌, length, drop, Option, Some, None, refl, sym, ap, subst, ◌∙◌, inl, inr, arith, length-drop, length-append}
use Rattle.std.specs.Prelude.{slice_get}
use Rattle.std.proofs.Math.Nat.{suc-mul}
use Rattle.core_tree.specs.declared.value.Value.{Value}
use Rattle.core_tree.specs.Values.{default_result}
use Rattle.run_laws.proofs.Counts.{same_or_not, how_many-append}
use Rattle.run_laws.specs.Exclusive.{how_many, is_number}
use Rattle.script_meaning.specs.Requests.{Sight, Setting, Request, Method, ParentMethod, GlobalFunction, GlobalNative, Get, Set, LoopPass, Return}
use Rattle.script_meaning.specs.Stacks.{Stop}
use Rattle.code_meaning.specs.Code.{Instruction, Function, Script}
use Rattle.code_meaning.specs.Execution.{Step, Onward, Stops, executed, followed, run_from, home_of, run_function, run_code}
use Rattle.code_meaning.specs.LookUp.{BodyPlace, Body, function_at}
use Rattle.code_meaning.specs.Operands.{Home, Inner}
use Rattle.run_laws.specs.CodeSteps.{done_at, carried_out, steps_after, steps_from, resumed_steps, function_steps, run_steps, at_pass, turn_steps, code_length, length_at}

-- ---- the steps and the run
there_at : {X : Type 0} (at : ℕ) (xs : List X) (x : X) (ys : List X) → drop at xs ≡ x ∷ ys → slice_get xs at ≡ Some x
there_at zero [] x ys e = absurd (cc)
there_at zero (z ∷ zs) x ys e = let same : z ≡ x = cc in ap (λ v. Some v) same
there_at (suc at) [] x ys e = absurd (cc)
there_at (suc at) (z ∷ zs) x ys e = there_at at zs x ys e

behind : {X : Type 0} (at : ℕ) (xs : List X) (x : X) (ys : List X) → drop at xs ≡ x ∷ ys → drop (suc at) xs ≡ ys
behind zero [] x ys e = absurd (cc)
behind zero (z ∷ zs) x ys e = cc
behind (suc at) [] x ys e = absurd (cc)
behind (suc at) (z ∷ zs) x ys e = behind at zs x ys e

by_step : (home : Home) (at : ℕ) (rest : List Instruction) → ((over : ℕ) (inner : Inner) → run_from home at rest over inner ≡ carried_out home (steps_from home at rest over inner) inner) → (step : Step) → followed (run_from home at rest) step ≡ followed (λ over after. carried_out home (steps_after (steps_from home at rest) step) after) step
by_step home at rest same (Onward over inner) = same over inner
by_step home at rest same (Stops request place inner) = refl

pub run_by_steps : (home : Home) (at : ℕ) (rest : List Instruction) (over : ℕ) (inner : Inner) → drop at home.function.code ≡ rest → at + length rest ≡ length home.function.code → run_from home at rest over inner ≡ carried_out home (steps_from home at rest over inner) inner
run_by_steps home at [] over inner here whole =
    let e : at ≡ length home.function.code = omega (arith, whole) in
    ap (λ (n : ℕ). record { request = Return (default_result home.function.result); at = n; inner = inner }) e
run_by_steps home at (first ∷ rest) zero inner here whole =
    let step : Step = executed home at first inner in
    let left : suc at + length rest ≡ length home.function.code = omega (arith, whole) in
    let more = by_step home (suc at) rest (λ over after. run_by_steps home (suc at) rest over after (behind at home.function.code first rest here) left) step in
    more ∙ ap (λ (found : Option Instruction). followed (λ over after. carried_out home (steps_after (steps_from home (suc at) rest) step) after) (done_at home at inner found)) (sym (there_at at home.function.code first rest here))
run_by_steps home at (first ∷ rest) (suc over) inner here whole =
    let left : suc at + length rest ≡ length home.function.code = omega (arith, whole) in
    run_by_steps home (suc at) rest over inner (behind at home.function.code first rest here) left

-- ---- how many in one pass
after_bound : (more : ℕ → Inner → List ℕ) (most : ℕ) → ((over : ℕ) (inner : Inner) → length (more over inner) ≤ most) → (step : Step) → length (steps_after more step) ≤ most
after_bound more most bound (Onward over inner) = bound over inner
after_bound more most bound (Stops request at inner) = omega arith

from_bound : (home : Home) (at : ℕ) (code : List Instruction) (over : ℕ) (inner : Inner) → length (steps_from home at code over inner) ≤ length code
from_bound home at [] over inner = omega arith
from_bound home at (first ∷ rest) zero inner =
    let b = after_bound (steps_from home (suc at) rest) (length rest) (from_bound home (suc at) rest) (executed home at first inner) in omega (arith, b)
from_bound home at (first ∷ rest) (suc over) inner = let b = from_bound home (suc at) rest over inner in omega (arith, b)

dropped_bound : (home : Home) (at number : ℕ) (over : ℕ) (inner : Inner) → length (steps_from home at (drop number home.function.code) over inner) ≤ length home.function.code
dropped_bound home at number over inner =
    let b = from_bound home at (drop number home.function.code) over inner in
    let d = length-drop number home.function.code in
    omega (arith, b, d)

resumed_bound : (home : Home) (at : ℕ) (reply : Option Value) (inner : Inner) → length (resumed_steps home at reply inner) ≤ length home.function.code
resumed_bound home at None inner = dropped_bound home at at 0 inner
resumed_bound home at (Some reply) inner = dropped_bound home (suc at) (suc at) 0 _

function_bound : (scripts : List Script) (setting : Setting) (body : Body) (reply : Option Value) (sight : Sight) (function : Option Function) → length (function_steps scripts setting body reply sight function) ≤ code_length function
function_bound scripts setting body reply sight None = omega arith
function_bound scripts setting body reply sight (Some function) =
    resumed_bound (home_of scripts setting body.place function) body.instruction reply (record { slots = body.slots; sight = sight })

run_bound : (scripts : List Script) (setting : Setting) (body : Body) (reply : Option Value) (sight : Sight) → length (run_steps scripts setting body reply sight) ≤ length_at scripts body.place
run_bound scripts setting body reply sight = function_bound scripts setting body reply sight (function_at scripts body.place)

-- ---- how often one instruction in one pass
module _ (number : ℕ) where
  abbrev times : List ℕ → ℕ
  times steps = how_many (is_number number) steps

  after_times : (more : ℕ → Inner → List ℕ) (most : ℕ) → ((over : ℕ) (inner : Inner) → times (more over inner) ≤ most) → (step : Step) → times (steps_after more step) ≤ most
  after_times more most bound (Onward over inner) = bound over inner
  after_times more most bound (Stops request at inner) = omega arith

  -- an instruction before the first one isn't executed
  none_before : (home : Home) (at : ℕ) (code : List Instruction) → number < at → (over : ℕ) (inner : Inner) → times (steps_from home at code over inner) ≤ 0
  none_before home at [] before over inner = omega arith
  none_before home at (first ∷ rest) before zero inner =
      let later : number < suc at = omega arith in
      let b = after_times (steps_from home (suc at) rest) 0 (none_before home (suc at) rest later) (executed home at first inner) in
      elim (same_or_not at number) [
        | inl (e, t) ↦ absurd (omega (arith, e))
        | inr (d, t) ↦ rw t (omega (arith, b))
      ]
  none_before home at (first ∷ rest) before (suc over) inner =
      let later : number < suc at = omega arith in none_before home (suc at) rest later over inner

  from_once : (home : Home) (at : ℕ) (code : List Instruction) (over : ℕ) (inner : Inner) → times (steps_from home at code over inner) ≤ 1
  from_once home at [] over inner = omega arith
  from_once home at (first ∷ rest) zero inner =
      elim (same_or_not at number) [
        | inl (e, t) ↦
            let later : number < suc at = omega (arith, e) in
            let b = after_times (steps_from home (suc at) rest) 0 (none_before home (suc at) rest later) (executed home at first inner) in
            rw t (omega (arith, b))
        | inr (d, t) ↦
            let b = after_times (steps_from home (suc at) rest) 1 (from_once home (suc at) rest) (executed home at first inner) in
            rw t (omega (arith, b))
      ]
  from_once home at (first ∷ rest) (suc over) inner = from_once home (suc at) rest over inner

  resumed_once : (home : Home) (at : ℕ) (reply : Option Value) (inner : Inner) → times (resumed_steps home at reply inner) ≤ 1
  resumed_once home at None inner = from_once home at (drop at home.function.code) 0 inner
  resumed_once home at (Some reply) inner = from_once home (suc at) (drop (suc at) home.function.code) 0 _

  function_once : (scripts : List Script) (setting : Setting) (body : Body) (reply : Option Value) (sight : Sight) (function : Option Function) → times (function_steps scripts setting body reply sight function) ≤ 1
  function_once scripts setting body reply sight None = omega arith
  function_once scripts setting body reply sight (Some function) =
      resumed_once (home_of scripts setting body.place function) body.instruction reply (record { slots = body.slots; sight = sight })

  run_once : (scripts : List Script) (setting : Setting) (body : Body) (reply : Option Value) (sight : Sight) → times (run_steps scripts setting body reply sight) ≤ 1
  run_once scripts setting body reply sight = function_once scripts setting body reply sight (function_at scripts body.place)

-- ---- a body stays in its function
stays_in : (scripts : List Script) (setting : Setting) (body : Body) (reply : Option Value) (sight : Sight) (function : Option Function) → (run_function scripts setting body reply sight function).body.place ≡ body.place
stays_in scripts setting body reply sight None = refl
stays_in scripts setting body reply sight (Some function) = refl

same_place : (scripts : List Script) (setting : Setting) (body : Body) (reply : Option Value) (sight : Sight) → (run_code scripts setting body reply sight).body.place ≡ body.place
same_place scripts setting body reply sight = stays_in scripts setting body reply sight (function_at scripts body.place)

-- ---- a turn
one_more_pass : (n x y z : ℕ) → x ≤ y → z ≤ suc n * y → x + z ≤ suc (suc n) * y
one_more_pass n x y z h k = let e = suc-mul (suc n) y in omega arith

one_pass : (x y : ℕ) → x ≤ y → x ≤ 1 * y
one_pass x y h = let e = suc-mul 0 y in omega arith

pass_length : (request : Request) (steps : List ℕ) (most : ℕ) → length steps ≤ most → length (at_pass request steps) ≤ most
pass_length (Method target name arguments otherwise) steps most h = omega arith
pass_length (ParentMethod script name arguments otherwise) steps most h = omega arith
pass_length (GlobalFunction script name arguments otherwise) steps most h = omega arith
pass_length (GlobalNative at arguments) steps most h = omega arith
pass_length (Get target name otherwise) steps most h = omega arith
pass_length (Set target name value) steps most h = omega arith
pass_length LoopPass steps most h = h
pass_length (Return value) steps most h = omega arith

pub turn_bounded : (scripts : List Script) (setting : Setting) (left : ℕ) (body : Body) (reply : Option Value) (sight : Sight) → length (turn_steps scripts setting left body reply sight) ≤ suc left * length_at scripts body.place
turn_bounded scripts setting zero body reply sight =
    one_pass (length (run_steps scripts setting body reply sight)) (length_at scripts body.place) (run_bound scripts setting body reply sight)
turn_bounded scripts setting (suc left) body reply sight =
    let stop : Stop Body = run_code scripts setting body reply sight in
    let steps : List ℕ = run_steps scripts setting body reply sight in
    let more : List ℕ = turn_steps scripts setting left stop.body None stop.sight in
    let rest : length more ≤ suc left * length_at scripts body.place =
    subst (λ (place : BodyPlace). length more ≤ suc left * length_at scripts place) (same_place scripts setting body reply sight) (turn_bounded scripts setting left stop.body None stop.sight) in
    let passed = pass_length stop.request more (suc left * length_at scripts body.place) rest in
    let both = one_more_pass left (length steps) (length_at scripts body.place) (length (at_pass stop.request more)) (run_bound scripts setting body reply sight) passed in
    let joined = length-append steps (at_pass stop.request more) in
    omega (arith, both, joined)

pass_times : (number : ℕ) (request : Request) (steps : List ℕ) (most : ℕ) → times number steps ≤ most → times number (at_pass request steps) ≤ most
pass_times number (Method target name arguments otherwise) steps most h = omega arith
pass_times number (ParentMethod script name arguments otherwise) steps most h = omega arith
pass_times number (GlobalFunction script name arguments otherwise) steps most h = omega arith
pass_times number (GlobalNative at arguments) steps most h = omega arith
pass_times number (Get target name otherwise) steps most h = omega arith
pass_times number (Set target name value) steps most h = omega arith
pass_times number LoopPass steps most h = h
pass_times number (Return value) steps most h = omega arith

pub turn_once : (scripts : List Script) (setting : Setting) (left : ℕ) (body : Body) (reply : Option Value) (sight : Sight) (number : ℕ) → how_many (is_number number) (turn_steps scripts setting left body reply sight) ≤ suc left
turn_once scripts setting zero body reply sight number = run_once number scripts setting body reply sight
turn_once scripts setting (suc left) body reply sight number =
    let stop : Stop Body = run_code scripts setting body reply sight in
    let steps : List ℕ = run_steps scripts setting body reply sight in
    let more : List ℕ = turn_steps scripts setting left stop.body None stop.sight in
    let first = run_once number scripts setting body reply sight in
    let passed = pass_times number stop.request more (suc left) (turn_once scripts setting left stop.body None stop.sight number) in
    let joined = how_many-append (is_number number) steps (at_pass stop.request more) in
    omega (arith, first, passed, joined)
