-- How a body of loaded code comes to its next act: what each instruction does, in the order of the
-- opcodes, and how one follows another. Operations on values are those of scripts.
use Rattle.std.specs.Prelude.{ℕ, zero, suc, ◌-◌, not, if◌then◌else◌, ℤ, pos, neg_ℤ, int_lt, List, [], ◌∷◌, map, drop, Option, Some, None, slice_get}
use Rattle.std.specs.Int.{w32, int_wrap}
use Rattle.std.specs.Int.RustNames.{unsigned_abs}
use Rattle.std.specs.Option.{option_and_then}
use Rattle.core_tree.specs.declared.core_type.CoreType.{CoreType}
use Rattle.core_tree.specs.declared.operator.Arith.{Arith}
use Rattle.core_tree.specs.declared.operator.Arith.TheVariants as signs
use Rattle.core_tree.specs.declared.operator.Order.{Order}
use Rattle.core_tree.specs.declared.operator.Order.TheVariants as orders
use Rattle.core_tree.specs.declared.value.Value.{Value}
use Rattle.core_tree.specs.declared.value.Value.TheVariants as values
use Rattle.script_meaning.specs.Arrays.{with_array, new_array, length_of, element_of, write_fault, with_element, found, found_back}
use Rattle.script_meaning.specs.Requests.{Sight, Setting, Request, ParentMethod, GlobalFunction, GlobalNative, LoopPass, Return, Question, Asks, method_of, get_of, set_of, Answer, Reply, Act, answer}
use Rattle.script_meaning.specs.Stacks.{Stop}
use Rattle.script_meaning.specs.Values.{Result, number_of, instance_of, array_of, is_true, cast_to, equal, in_order, calculated, lineage}
use Rattle.core_tree.specs.Values.{default_result, element_kind}
use Rattle.code_meaning.specs.Code.{Operand, Instruction, Function, Script}
use Rattle.code_meaning.specs.Code as op
use Rattle.code_meaning.specs.LookUp.{BodyPlace, Body, script_of, function_at, FoundMethod, first_method, native_at}
use Rattle.code_meaning.specs.Operands.{Home, Inner, worth, kind_of, default_at, stored, place_of, noted}

-- what an instruction comes to
pub data Step : Type 0 where
  -- the instructions behind it follow, but for the first so many
  Onward : (over : ℕ) (inner : Inner) → Step
  -- a request, and the number of the instruction at which the body then stands
  Stops : (request : Request) (at : ℕ) (inner : Inner) → Step

abbrev pub next : Inner → Step
next inner = Onward 0 inner

-- ---- values
-- a value that the result takes
abbrev pub gives : Home → Operand → Value → Inner → Step
gives home result value inner = next (stored home result value inner)

-- the same with a fault that is printed
abbrev pub settled : Home → ℕ → Operand → Result → Inner → Step
settled home at result of inner = gives home result of.0 (noted home at of.1 inner)

abbrev pub computed : Home → ℕ → Arith → Operand → Operand → Operand → Inner → Step
computed home at operation result left right inner =
    settled home at result (calculated operation (worth home inner left) (worth home inner right)) inner

abbrev pub compared : Home → Order → Operand → Operand → Operand → Inner → Step
compared home order result left right inner =
    gives home result (values.Bool (in_order order (number_of (worth home inner left)) (number_of (worth home inner right)))) inner

-- to the type of the result
abbrev pub cast_where : Home → Option CoreType → Value → Value
cast_where home None value = values.NoneValue
cast_where home (Some kind) value = cast_to home.setting.outline home.setting.instances kind value

-- ---- arrays
abbrev pub created : Home → ℕ → Operand → ℕ → Option CoreType → Inner → Step
created home at result size None inner = next inner
created home at result size (Some kind) inner =
    settled home at result (new_array inner.sight.arrays) (record inner { sight = record inner.sight { arrays = with_array inner.sight.arrays kind size } })

abbrev pub with_stored : Home → ℕ → Value → Value → Value → Inner → Inner
with_stored home at array index value inner =
    noted home at (write_fault inner.sight.arrays (array_of array) (number_of index)) (record inner { sight = record inner.sight { arrays = with_element inner.sight.arrays (array_of array) (number_of index) value } })

-- ---- jumps
-- A taken jump by 0 or less is a loop pass.
abbrev pub jumped : ℕ → ℤ → Inner → Step
jumped at offset inner =
    if int_lt (pos 0) offset then Onward (unsigned_abs offset - 1) inner else Stops LoopPass (at - unsigned_abs offset) inner

-- ---- acts
-- where the reply to an act is stored
abbrev pub reply_result : Instruction → Option Operand
reply_result (op.CallMethod name object result more) = Some result
reply_result (op.CallParent name result more) = Some result
reply_result (op.CallStatic script name result more) = Some result
reply_result (op.PropGet name object result) = Some result
reply_result _ = None

abbrev pub with_reply : Home → Option Operand → Value → Inner → Inner
with_reply home None value inner = inner
with_reply home (Some result) value inner = stored home result value inner

abbrev pub asked : Home → ℕ → Option Operand → Inner → Answer → Step
asked home at result inner (Reply value sight) = next (with_reply home result value (record inner { sight = sight }))
asked home at result inner (Act request) = Stops request at inner

-- a question, which may be answered at once
abbrev pub ask : Home → ℕ → Option Operand → Question → Inner → Step
ask home at result question inner =
    asked home at result inner (answer home.setting (place_of home at) question inner.sight)

abbrev pub arguments_of : Home → Inner → List Operand → List Value
arguments_of home inner more = map (worth home inner) more

-- a callstatic means the nearest Global function from the script upward
abbrev pub static_request : ℕ → List ℕ → List Value → Value → Option FoundMethod → Request
static_request script name arguments otherwise None = GlobalFunction script name arguments otherwise
static_request script name arguments otherwise (Some method) =
    if method.function.is_native then GlobalNative (native_at method) arguments else GlobalFunction script name arguments otherwise

-- ---- instructions
-- what the instruction of this number does
abbrev pub executed : Home → ℕ → Instruction → Inner → Step
executed home at op.Nop inner = next inner
executed home at (op.IAdd result left right) inner = computed home at signs.Add result left right inner
executed home at (op.ISub result left right) inner = computed home at signs.Sub result left right inner
executed home at (op.IMul result left right) inner = computed home at signs.Mul result left right inner
executed home at (op.IDiv result left right) inner = computed home at signs.Div result left right inner
executed home at (op.IMod result left right) inner = computed home at signs.Rem result left right inner
executed home at (op.Not result value) inner = gives home result (values.Bool (not (is_true (worth home inner value)))) inner
executed home at (op.INeg result value) inner =
    gives home result (values.Int (int_wrap w32 (neg_ℤ (number_of (worth home inner value))))) inner
executed home at (op.Assign result value) inner = gives home result (worth home inner value) inner
executed home at (op.Cast result value) inner =
    gives home result (cast_where home (kind_of home result) (worth home inner value)) inner
executed home at (op.CmpEq result left right) inner =
    gives home result (values.Bool (equal (worth home inner left) (worth home inner right))) inner
executed home at (op.CmpLt result left right) inner = compared home orders.Less result left right inner
executed home at (op.CmpLe result left right) inner = compared home orders.LessEqual result left right inner
executed home at (op.CmpGt result left right) inner = compared home orders.Greater result left right inner
executed home at (op.CmpGe result left right) inner = compared home orders.GreaterEqual result left right inner
executed home at (op.Jmp offset) inner = jumped at offset inner
executed home at (op.JmpT condition offset) inner =
    if is_true (worth home inner condition) then jumped at offset inner else next inner
executed home at (op.JmpF condition offset) inner =
    if is_true (worth home inner condition) then next inner else jumped at offset inner
executed home at (op.CallMethod name object result more) inner =
    ask home at (Some result) (method_of (instance_of (worth home inner object)) name (arguments_of home inner more) (default_at home result)) inner
executed home at (op.CallParent name result more) inner =
    ask home at (Some result) (Asks (ParentMethod home.script name (arguments_of home inner more) (default_at home result))) inner
executed home at (op.CallStatic script name result more) inner =
    ask home at (Some result) (Asks (static_request script name (arguments_of home inner more) (default_at home result) (first_method home.scripts (lineage home.setting.outline (Some script)) [] name))) inner
executed home at (op.Return value) inner = ask home at None (Asks (Return (worth home inner value))) inner
executed home at (op.StrCat result left right) inner = computed home at signs.Join result left right inner
executed home at (op.PropGet name object result) inner =
    ask home at (Some result) (get_of (instance_of (worth home inner object)) name (default_at home result)) inner
executed home at (op.PropSet name object value) inner =
    ask home at None (set_of (instance_of (worth home inner object)) name (worth home inner value)) inner
executed home at (op.ArrayCreate result size) inner =
    created home at result size (option_and_then element_kind (kind_of home result)) inner
executed home at (op.ArrayLength result array) inner =
    settled home at result (length_of inner.sight.arrays (array_of (worth home inner array))) inner
executed home at (op.ArrayGetElement result array index) inner =
    settled home at result (element_of inner.sight.arrays (array_of (worth home inner array)) (number_of (worth home inner index)) (default_at home result)) inner
executed home at (op.ArraySetElement array index value) inner =
    next (with_stored home at (worth home inner array) (worth home inner index) (worth home inner value) inner)
executed home at (op.ArrayFindElement array result value start) inner =
    settled home at result (found inner.sight.arrays (array_of (worth home inner array)) (worth home inner value) (number_of (worth home inner start))) inner
executed home at (op.ArrayRFindElement array result value start) inner =
    settled home at result (found_back inner.sight.arrays (array_of (worth home inner array)) (worth home inner value) (number_of (worth home inner start))) inner

-- ---- one instruction after another
-- the request that a body came to, and the number of the instruction at which it then stands
pub record Halt : Type 0 where
  pub request : Request
  pub at : ℕ
  pub inner : Inner

abbrev pub followed : (ℕ → Inner → Halt) → Step → Halt
followed go (Onward over inner) = go over inner
followed go (Stops request at inner) = record { request = request; at = at; inner = inner }

-- the instructions from this number on, but for the first so many, up to the next act. The end of the code
-- is a Return of the default of the result's type
abbrev pub run_from : Home → ℕ → List Instruction → ℕ → Inner → Halt
run_from home at [] over inner = record { request = Return (default_result home.function.result); at = at; inner = inner }
run_from home at (first ∷ rest) zero inner = followed (run_from home (suc at) rest) (executed home at first inner)
run_from home at (first ∷ rest) (suc over) inner = run_from home (suc at) rest over inner

-- a body that waits for a reply gets it, and goes on behind the act
abbrev pub resumed : Home → ℕ → Option Value → Inner → Halt
resumed home at None inner = run_from home at (drop at home.function.code) 0 inner
resumed home at (Some reply) inner =
    run_from home (suc at) (drop (suc at) home.function.code) 0 (with_reply home (option_and_then reply_result (slice_get home.function.code at)) reply inner)

abbrev pub home_of : List Script → Setting → BodyPlace → Function → Home
home_of scripts setting place function =
    record { setting = setting; scripts = scripts; script = script_of place; function = function }

abbrev pub stop_at : Body → Halt → Stop Body
stop_at body halt = record {
  request = halt.request;
  body = record body { instruction = halt.at; slots = halt.inner.slots };
  sight = halt.inner.sight;
}

abbrev pub run_function : List Script → Setting → Body → Option Value → Sight → Option Function → Stop Body
run_function scripts setting body reply sight None = record { request = Return values.NoneValue; body = body; sight = sight }
run_function scripts setting body reply sight (Some function) =
    stop_at body (resumed (home_of scripts setting body.place function) body.instruction reply (record { slots = body.slots; sight = sight }))

abbrev pub run_code : List Script → Setting → Body → Option Value → Sight → Stop Body
run_code scripts setting body reply sight =
    run_function scripts setting body reply sight (function_at scripts body.place)
