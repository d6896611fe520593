-- Which instructions a turn executes, by their numbers, in order.
use Rattle.std.specs.Prelude.{ℕ, zero, suc, List, [], ◌∷◌, ◌++◌, length, drop, Option, Some, None, slice_get}
use Rattle.std.specs.Option.{option_and_then}
use Rattle.core_tree.specs.declared.value.Value.{Value}
use Rattle.core_tree.specs.Values.{default_result}
use Rattle.script_meaning.specs.Requests.{Sight, Setting, Request, LoopPass, Return}
use Rattle.script_meaning.specs.Stacks.{Stop}
use Rattle.code_meaning.specs.Code.{Instruction, Function, Script}
use Rattle.code_meaning.specs.Execution.{Step, Onward, Stops, next, executed, reply_result, with_reply, Halt, followed, home_of, run_code}
use Rattle.code_meaning.specs.LookUp.{BodyPlace, Body, function_at}
use Rattle.code_meaning.specs.Operands.{Home, Inner}

abbrev pub steps_after : (ℕ → Inner → List ℕ) → Step → List ℕ
steps_after more (Onward over inner) = more over inner
steps_after more (Stops request at inner) = []

-- of those from this number on, but for the first so many, up to the next act
abbrev pub steps_from : Home → ℕ → List Instruction → ℕ → Inner → List ℕ
steps_from home at [] over inner = []
steps_from home at (first ∷ rest) zero inner = at ∷ steps_after (steps_from home (suc at) rest) (executed home at first inner)
steps_from home at (first ∷ rest) (suc over) inner = steps_from home (suc at) rest over inner

abbrev pub resumed_steps : Home → ℕ → Option Value → Inner → List ℕ
resumed_steps home at None inner = steps_from home at (drop at home.function.code) 0 inner
resumed_steps home at (Some reply) inner =
    steps_from home (suc at) (drop (suc at) home.function.code) 0 (with_reply home (option_and_then reply_result (slice_get home.function.code at)) reply inner)

abbrev pub function_steps : List Script → Setting → Body → Option Value → Sight → Option Function → List ℕ
function_steps scripts setting body reply sight None = []
function_steps scripts setting body reply sight (Some function) =
    resumed_steps (home_of scripts setting body.place function) body.instruction reply (record { slots = body.slots; sight = sight })

abbrev pub run_steps : List Script → Setting → Body → Option Value → Sight → List ℕ
run_steps scripts setting body reply sight =
    function_steps scripts setting body reply sight (function_at scripts body.place)

-- the instruction of a number, at whatever place the body stood before
abbrev pub done_at : Home → ℕ → Inner → Option Instruction → Step
done_at home at inner None = next inner
done_at home at inner (Some instruction) = executed home at instruction inner

-- the instructions of these numbers, one after another, up to the first that stops; behind the last of them the code ends, with a Return
-- of the default of the result's type
abbrev pub carried_out : Home → List ℕ → Inner → Halt
carried_out home [] inner =
    record { request = Return (default_result home.function.result); at = length home.function.code; inner = inner }
carried_out home (at ∷ rest) inner =
    followed (λ over after. carried_out home rest after) (done_at home at inner (slice_get home.function.code at))

-- past as many loop passes as are left
abbrev pub at_pass : Request → List ℕ → List ℕ
at_pass LoopPass more = more
at_pass _ more = []

abbrev pub turn_steps : List Script → Setting → ℕ → Body → Option Value → Sight → List ℕ
turn_steps scripts setting zero body reply sight = run_steps scripts setting body reply sight
turn_steps scripts setting (suc left) body reply sight =
    let stop : Stop Body = run_code scripts setting body reply sight in
    run_steps scripts setting body reply sight ++ at_pass stop.request (turn_steps scripts setting left stop.body None stop.sight)

-- how many instructions the function at a place has
abbrev pub code_length : Option Function → ℕ
code_length None = 0
code_length (Some function) = length function.code

abbrev pub length_at : List Script → BodyPlace → ℕ
length_at scripts place = code_length (function_at scripts place)
