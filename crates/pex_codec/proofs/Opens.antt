-- What each part opens: its first fields, and then a stack.
use Rattle.std.specs.Prelude.{Bool, true, false, Option, Some, None}
use Rattle.std.proofs.Common.{◌≡◌, ℕ, zero, suc, List, [], ◌∷◌, ◌++◌, length, refl, sym, ap, ◌∙◌}
use Rattle.pex_values.specs.declared.values.Datum.{Datum}
use Rattle.pex_values.specs.Bits.{has_read, has_write}
use Rattle.pex_values.specs.Opcodes.{operands_of}
use Rattle.pex_values.specs.Plain.{PlainInstruction, PlainPex}
use Rattle.pex_codec.specs.declared.cursor.FileHeader.{FileHeader}
use Rattle.pex_codec.specs.declared.cursor.FunctionHead.{FunctionHead}
use Rattle.pex_codec.specs.declared.cursor.PropertyHead.{PropertyHead}
use Rattle.pex_codec.specs.declared.cursor.ObjectHead.{ObjectHead}
use Rattle.pex_codec.specs.declared.cursor.LinesHead.{LinesHead}
use Rattle.pex_codec.specs.declared.scan.Part.{Part}
use Rattle.pex_codec.specs.declared.scan.Part.TheVariants as part
use Rattle.pex_codec.specs.declared.scan.Task.{Task}
use Rattle.pex_codec.specs.Opening.{task, times_of, object_tasks, whole_file, fixed_with, fixed_at, state_count_at, debug_count_with, debug_count_at}
use Rattle.pex_codec.specs.Reading.{Reading, Reader, Got, Short, Refused, then_read, read_as, number_at, reference_at, items_at, list_at, optional_at, string_at, datum_at, count_at, pair_at, opcode_at, instruction_with, instruction_at, function_head_at, function_with, function_at, named_at, state_at, variable_at, property_head_at, property_with, property_at, object_head_at, object_with, object_at, size_form_at, lines_head_at, lines_with, lines_at, debug_flag_at, debug_with, debug_at, flag_at, heading_at, Texts, texts_at, pex_with, pex_at}
use Rattle.pex_codec.specs.Scanning.{with_strings, part_at, times_at, tasks_at}
use Rattle.pex_codec.proofs.Tasks.{then_next, then_then, as_then, as_as, then_got, tasks_append, times_once, times_items, follow, follow_last}

-- a part whose first fields are read, and the rest of which is a stack
opens : {A B : Type 0} (view : B → ℕ) (first : Reading A) (next : A → Reader B) (stack : A → Reader ℕ)
    → ((a : A) (at1 : ℕ) (rest1 : List ℕ) → read_as view (next a at1 rest1) ≡ stack a at1 rest1) → read_as view (then_read first next) ≡ then_read first stack
opens view first next stack same = as_then view first next ∙ then_next first (λ a at1 rest1. read_as view (next a at1 rest1)) stack same

optional_once : {A : Type 0} (part : Part) (strings : ℕ) (asked : Bool) (item : Reader A) → ((at : ℕ) (bytes : List ℕ) → part_at part strings at bytes ≡ with_strings strings (item at bytes))
    → (at : ℕ) (bytes : List ℕ) → times_at part (times_of asked) strings at bytes ≡ with_strings strings (optional_at asked item at bytes)
optional_once part strings true item one at bytes = times_once part strings at bytes ∙ one at bytes ∙ sym (as_as (λ _. strings) Some (item at bytes))
optional_once part strings false item one at bytes = refl

-- ---- lists

pub list_opens : {A : Type 0} (part : Part) (strings : ℕ) (item : Reader A) → ((at : ℕ) (bytes : List ℕ) → part_at part strings at bytes ≡ with_strings strings (item at bytes))
    → (at : ℕ) (bytes : List ℕ) → with_strings strings (list_at item at bytes) ≡ then_read (number_at 2 at bytes) (λ n at1 rest1. tasks_at (task part n ∷ []) strings at1 rest1)
unfolding list_at
list_opens part strings item one at bytes =
    opens (λ _. strings) (number_at 2 at bytes) (items_at item) (λ n at1 rest1. tasks_at (task part n ∷ []) strings at1 rest1) (λ n at1 rest1. sym (times_items part strings item one n at1 rest1))

count_one : {A : Type 0} (n : ℕ) (head : A) (others : Reading (List A)) → read_as length others ≡ with_strings n others
    → read_as length (read_as (λ rest. head ∷ rest) others) ≡ with_strings (suc n) (read_as (λ rest. head ∷ rest) others)
count_one n head (Got rest at1 rest1) same = let e : length rest ≡ n = cc in ap (λ (m : ℕ). Got (suc m) at1 rest1) e
count_one n head Short same = refl
count_one n head (Refused o rule) same = refl

count_more : {A : Type 0} (n : ℕ) (first : Reading A) (others : Reader (List A)) → ((at : ℕ) (bytes : List ℕ) → read_as length (others at bytes) ≡ with_strings n (others at bytes))
    → read_as length (then_read first (λ head at1 rest1. read_as (λ rest. head ∷ rest) (others at1 rest1)))
    ≡ with_strings (suc n) (then_read first (λ head at1 rest1. read_as (λ rest. head ∷ rest) (others at1 rest1)))
count_more n (Got head at1 rest1) others same = count_one n head (others at1 rest1) (same at1 rest1)
count_more n Short others same = refl
count_more n (Refused o rule) others same = refl

count_items : {A : Type 0} (item : Reader A) (n at : ℕ) (bytes : List ℕ) → read_as length (items_at item n at bytes) ≡ with_strings n (items_at item n at bytes)
count_items item zero at bytes = refl
count_items item (suc n) at bytes = count_more n (item at bytes) (items_at item n) (count_items item n)

-- the number of strings is that of the table
pub strings_open : (strings at : ℕ) (bytes : List ℕ) → part_at part.Strings strings at bytes ≡ then_read (number_at 2 at bytes) (λ n at1 rest1. tasks_at (task part.Text n ∷ []) n at1 rest1)
unfolding list_at
strings_open strings at bytes =
    opens length (number_at 2 at bytes) (items_at string_at) (λ n at1 rest1. tasks_at (task part.Text n ∷ []) n at1 rest1)
    (λ n at1 rest1. count_items string_at n at1 rest1 ∙ sym (times_items part.Text n string_at (λ at2 rest2. refl) n at1 rest1))

-- ---- code and functions

abbrev instruction_of : ℕ → List Datum → List Datum → PlainInstruction
instruction_of opcode fixed more = record { opcode = opcode; fixed = fixed; more = more }

fixed_only : (strings opcode : ℕ) (fixed : Reading (List Datum))
    → with_strings strings (read_as (λ operands. instruction_of opcode operands []) fixed) ≡ then_read (read_as (λ operands. 0) (with_strings strings fixed)) (λ n at1 rest1. tasks_at (task part.Operand n ∷ []) strings at1 rest1)
fixed_only strings opcode (Got operands at1 rest1) = refl
fixed_only strings opcode Short = refl
fixed_only strings opcode (Refused o rule) = refl

fixed_more : (strings : ℕ) (fixed : Reading (List Datum)) (next : Reader ℕ) (stack : ℕ → Reader ℕ)
    → then_read fixed (λ operands at1 rest1. then_read (next at1 rest1) stack) ≡ then_read (then_read (with_strings strings fixed) (λ operands at1 rest1. next at1 rest1)) stack
fixed_more strings (Got operands at1 rest1) next stack = refl
fixed_more strings Short next stack = refl
fixed_more strings (Refused o rule) next stack = refl

operands_are : (strings n at : ℕ) (bytes : List ℕ) → times_at part.Operand n strings at bytes ≡ with_strings strings (items_at (datum_at strings) n at bytes)
operands_are strings n at bytes = times_items part.Operand strings (datum_at strings) (λ at1 rest1. refl) n at bytes

instruction_rest : (strings : ℕ) (opcode : ℕ) (operands : Option (ℕ × Bool)) (at : ℕ) (bytes : List ℕ)
    → with_strings strings (instruction_with strings opcode operands at bytes) ≡ then_read (fixed_with strings operands at bytes) (λ n at1 rest1. tasks_at (task part.Operand n ∷ []) strings at1 rest1)
instruction_rest strings opcode (Some (n, true)) at bytes =
    let item = datum_at strings in
    let stack = λ (count : ℕ) (at2 : ℕ) (rest2 : List ℕ). tasks_at (task part.Operand count ∷ []) strings at2 rest2 in
    opens (λ _. strings) (items_at item n at bytes) _ (λ fixed at1 rest1. then_read (count_at at1 rest1) stack)
    (λ fixed at1 rest1. opens (λ _. strings) (count_at at1 rest1) _ stack
    (λ count at2 rest2. follow_last (λ _. strings) strings part.Operand count at2 rest2 _ (items_at item count at2 rest2) (λ a. refl) (operands_are strings count at2 rest2)))
    ∙ fixed_more strings (items_at item n at bytes) count_at stack
    ∙ sym (ap (λ (r : Reading ℕ). then_read (then_read r (λ operands at1 rest1. count_at at1 rest1)) stack) (operands_are strings n at bytes))
instruction_rest strings opcode (Some (n, false)) at bytes =
    fixed_only strings opcode (items_at (datum_at strings) n at bytes)
    ∙ sym (ap (λ (r : Reading ℕ). then_read (read_as (λ operands. 0) r) (λ n at1 rest1. tasks_at (task part.Operand n ∷ []) strings at1 rest1)) (operands_are strings n at bytes))
instruction_rest strings opcode None at bytes = refl

pub instruction_opens : (strings at : ℕ) (bytes : List ℕ) → part_at part.Instruction strings at bytes ≡ then_read (fixed_at strings at bytes) (λ n at1 rest1. tasks_at (task part.Operand n ∷ []) strings at1 rest1)
unfolding instruction_at fixed_at
instruction_opens strings at bytes =
    opens (λ _. strings) (opcode_at at bytes) _ (λ opcode at1 rest1. then_read (fixed_with strings (operands_of opcode) at1 rest1) (λ n at2 rest2. tasks_at (task part.Operand n ∷ []) strings at2 rest2))
    (λ opcode at1 rest1. instruction_rest strings opcode (operands_of opcode) at1 rest1)
    ∙ sym (then_then (opcode_at at bytes) (λ opcode at1 rest1. fixed_with strings (operands_of opcode) at1 rest1) (λ n at2 rest2. tasks_at (task part.Operand n ∷ []) strings at2 rest2))

pub function_opens : (strings at : ℕ) (bytes : List ℕ)
    → part_at part.Function strings at bytes
    ≡ then_read (function_head_at strings at bytes) (λ h at1 rest1. tasks_at (task part.Code 1 ∷ task part.Pairs 1 ∷ task part.Pair h.parameters ∷ []) strings at1 rest1)
unfolding function_at
function_opens strings at bytes =
    opens (λ _. strings) (function_head_at strings at bytes) (function_with strings) (λ h at1 rest1. tasks_at (task part.Code 1 ∷ task part.Pairs 1 ∷ task part.Pair h.parameters ∷ []) strings at1 rest1)
    (λ h at1 rest1. follow (λ _. strings) strings part.Pair h.parameters (task part.Code 1 ∷ task part.Pairs 1 ∷ []) at1 rest1 (items_at (pair_at strings) h.parameters at1 rest1) _
    (times_items part.Pair strings (pair_at strings) (λ at9 rest9. refl) h.parameters at1 rest1)
    (λ parameters at2 rest2. follow (λ _. strings) strings part.Pairs 1 (task part.Code 1 ∷ []) at2 rest2 (list_at (pair_at strings) at2 rest2) _
    (times_once part.Pairs strings at2 rest2)
    (λ locals at3 rest3. follow_last (λ _. strings) strings part.Code 1 at3 rest3 _ (list_at (instruction_at strings) at3 rest3) (λ a. refl) (times_once part.Code strings at3 rest3))))

pub named_opens : (strings at : ℕ) (bytes : List ℕ)
    → part_at part.Named strings at bytes ≡ then_read (reference_at strings at bytes) (λ name at1 rest1. tasks_at (task part.Function 1 ∷ []) strings at1 rest1)
unfolding named_at
named_opens strings at bytes =
    opens (λ _. strings) (reference_at strings at bytes) _ (λ name at1 rest1. tasks_at (task part.Function 1 ∷ []) strings at1 rest1)
    (λ name at1 rest1. follow_last (λ _. strings) strings part.Function 1 at1 rest1 _ (function_at strings at1 rest1) (λ a. refl) (times_once part.Function strings at1 rest1))

pub state_opens : (strings at : ℕ) (bytes : List ℕ)
    → part_at part.State strings at bytes ≡ then_read (state_count_at strings at bytes) (λ n at2 rest2. tasks_at (task part.Named n ∷ []) strings at2 rest2)
unfolding state_at state_count_at
state_opens strings at bytes =
    let stack = λ (n : ℕ) (at2 : ℕ) (rest2 : List ℕ). tasks_at (task part.Named n ∷ []) strings at2 rest2 in
    opens (λ _. strings) (reference_at strings at bytes) _ (λ name at1 rest1. then_read (number_at 2 at1 rest1) stack)
    (λ name at1 rest1. as_as (λ _. strings) _ (list_at (named_at strings) at1 rest1) ∙ list_opens part.Named strings (named_at strings) (λ at9 rest9. refl) at1 rest1)
    ∙ sym (then_then (reference_at strings at bytes) (λ name at1 rest1. number_at 2 at1 rest1) stack)

-- ---- properties and objects

pub property_opens : (strings at : ℕ) (bytes : List ℕ)
    → part_at part.Property strings at bytes
    ≡ then_read (property_head_at strings at bytes)
    (λ h at1 rest1. tasks_at (task part.Function (times_of (has_write h.bits)) ∷ task part.Function (times_of (has_read h.bits)) ∷ []) strings at1 rest1)
unfolding property_at
property_opens strings at bytes =
    opens (λ _. strings) (property_head_at strings at bytes) (property_with strings)
    (λ h at1 rest1. tasks_at (task part.Function (times_of (has_write h.bits)) ∷ task part.Function (times_of (has_read h.bits)) ∷ []) strings at1 rest1)
    (λ h at1 rest1. follow (λ _. strings) strings part.Function (times_of (has_read h.bits)) (task part.Function (times_of (has_write h.bits)) ∷ []) at1 rest1
    (optional_at (has_read h.bits) (function_at strings) at1 rest1) _
    (optional_once part.Function strings (has_read h.bits) (function_at strings) (λ at9 rest9. refl) at1 rest1)
    (λ read at2 rest2. follow_last (λ _. strings) strings part.Function (times_of (has_write h.bits)) at2 rest2 _ (optional_at (has_write h.bits) (function_at strings) at2 rest2) (λ a. refl)
    (optional_once part.Function strings (has_write h.bits) (function_at strings) (λ at9 rest9. refl) at2 rest2)))

pub object_opens : (strings at : ℕ) (bytes : List ℕ)
    → part_at part.Object strings at bytes ≡ then_read (object_head_at strings at bytes) (λ h at1 rest1. tasks_at (object_tasks h) strings at1 rest1)
unfolding object_at
object_opens strings at bytes =
    opens (λ _. strings) (object_head_at strings at bytes) (object_with strings) (λ h at1 rest1. tasks_at (object_tasks h) strings at1 rest1)
    (λ h at1 rest1. follow (λ _. strings) strings part.Variable h.variables (task (part.Size h.size_at h.size) 1 ∷ task part.States 1 ∷ task part.Properties 1 ∷ []) at1 rest1
    (items_at (variable_at strings) h.variables at1 rest1) _
    (times_items part.Variable strings (variable_at strings) (λ at9 rest9. refl) h.variables at1 rest1)
    (λ variables at2 rest2. follow (λ _. strings) strings part.Properties 1 (task (part.Size h.size_at h.size) 1 ∷ task part.States 1 ∷ []) at2 rest2
    (list_at (property_at strings) at2 rest2) _ (times_once part.Properties strings at2 rest2)
    (λ properties at3 rest3. follow (λ _. strings) strings part.States 1 (task (part.Size h.size_at h.size) 1 ∷ []) at3 rest3
    (list_at (state_at strings) at3 rest3) _ (times_once part.States strings at3 rest3)
    (λ states at4 rest4. follow_last (λ _. strings) strings (part.Size h.size_at h.size) 1 at4 rest4 _ (size_form_at h.size_at h.size at4 rest4) (λ a. refl)
    (times_once (part.Size h.size_at h.size) strings at4 rest4)))))

-- ---- debug information

pub lines_open : (strings at : ℕ) (bytes : List ℕ)
    → part_at part.Lines strings at bytes ≡ then_read (lines_head_at strings at bytes) (λ h at1 rest1. tasks_at (task part.Line h.lines ∷ []) strings at1 rest1)
unfolding lines_at
lines_open strings at bytes =
    opens (λ _. strings) (lines_head_at strings at bytes) lines_with (λ h at1 rest1. tasks_at (task part.Line h.lines ∷ []) strings at1 rest1)
    (λ h at1 rest1. follow_last (λ _. strings) strings part.Line h.lines at1 rest1 _ (items_at (number_at 2) h.lines at1 rest1) (λ a. refl)
    (times_items part.Line strings (number_at 2) (λ at9 rest9. refl) h.lines at1 rest1))

debug_rest : (strings flag at : ℕ) (bytes : List ℕ)
    → with_strings strings (debug_with strings flag at bytes) ≡ then_read (debug_count_with flag at bytes) (λ n at1 rest1. tasks_at (task part.Lines n ∷ []) strings at1 rest1)
debug_rest strings zero at bytes = refl
debug_rest strings (suc flag) at bytes =
    opens (λ _. strings) (number_at 8 at bytes) _ (λ time at1 rest1. then_read (number_at 2 at1 rest1) (λ n at2 rest2. tasks_at (task part.Lines n ∷ []) strings at2 rest2))
    (λ time at1 rest1. as_as (λ _. strings) _ (list_at (lines_at strings) at1 rest1) ∙ list_opens part.Lines strings (lines_at strings) (λ at9 rest9. refl) at1 rest1)
    ∙ sym (then_then (number_at 8 at bytes) (λ time at1 rest1. number_at 2 at1 rest1) (λ n at2 rest2. tasks_at (task part.Lines n ∷ []) strings at2 rest2))

pub debug_opens : (strings at : ℕ) (bytes : List ℕ)
    → part_at part.Debug strings at bytes ≡ then_read (debug_count_at at bytes) (λ n at1 rest1. tasks_at (task part.Lines n ∷ []) strings at1 rest1)
unfolding debug_at debug_count_at
debug_opens strings at bytes =
    opens (λ _. strings) (debug_flag_at at bytes) (debug_with strings) (λ flag at1 rest1. then_read (debug_count_with flag at1 rest1) (λ n at2 rest2. tasks_at (task part.Lines n ∷ []) strings at2 rest2))
    (λ flag at1 rest1. debug_rest strings flag at1 rest1)
    ∙ sym (then_then (debug_flag_at at bytes) debug_count_with (λ n at1 rest1. tasks_at (task part.Lines n ∷ []) strings at1 rest1))

-- ---- the file

abbrev strings_of : PlainPex → ℕ
strings_of v = length v.strings

-- what stands behind the string table
abbrev behind_strings : List Task
behind_strings = task part.Objects 1 ∷ task part.Flags 1 ∷ task part.Debug 1 ∷ []

with_rest : (heading : FileHeader) (texts : Texts) (at : ℕ) (bytes : List ℕ) → read_as strings_of (pex_with heading texts at bytes) ≡ tasks_at behind_strings (length texts.strings) at bytes
with_rest heading texts at bytes =
    let n = length texts.strings in
    follow strings_of n part.Debug 1 (task part.Objects 1 ∷ task part.Flags 1 ∷ []) at bytes (debug_at n at bytes) _ (times_once part.Debug n at bytes)
    (λ debug at1 rest1. follow strings_of n part.Flags 1 (task part.Objects 1 ∷ []) at1 rest1 (list_at (flag_at n) at1 rest1) _ (times_once part.Flags n at1 rest1)
    (λ flags at2 rest2. follow_last strings_of n part.Objects 1 at2 rest2 _ (list_at (object_at n) at2 rest2) (λ a. refl) (times_once part.Objects n at2 rest2)))

-- what stands behind the heading
abbrev behind_heading : List Task
behind_heading = task part.Objects 1 ∷ task part.Flags 1 ∷ task part.Debug 1 ∷ task part.Strings 1 ∷ []

abbrev texts_of : List ℕ → List ℕ → List ℕ → List (List ℕ) → Texts
texts_of source user machine strings = record { source = source; user = user; machine = machine; strings = strings }

table_rest : (heading : FileHeader) (source user machine : List ℕ) (table : Reading (List (List ℕ)))
    → read_as strings_of (then_read (read_as (texts_of source user machine) table) (pex_with heading))
    ≡ then_read (read_as length table) (tasks_at behind_strings)
table_rest heading source user machine (Got strings at rest) = with_rest heading (texts_of source user machine strings) at rest
table_rest heading source user machine Short = refl
table_rest heading source user machine (Refused o rule) = refl

strings_rest : (heading : FileHeader) (source user machine : List ℕ) (at : ℕ) (bytes : List ℕ)
    → read_as strings_of (then_read (read_as (texts_of source user machine) (list_at string_at at bytes)) (pex_with heading)) ≡ tasks_at behind_heading 0 at bytes
strings_rest heading source user machine at bytes =
    table_rest heading source user machine (list_at string_at at bytes)
    ∙ sym (tasks_append behind_strings (task part.Strings 1 ∷ []) 0 at bytes ∙ ap (λ (r : Reading ℕ). then_read r (tasks_at behind_strings)) (times_once part.Strings 0 at bytes))

text_step : {A : Type 0} (heading : FileHeader) (n : ℕ) (first : Reading A) (next : A → Reader Texts)
    → ((a : A) (at1 : ℕ) (rest1 : List ℕ) → read_as strings_of (then_read (next a at1 rest1) (pex_with heading)) ≡ then_read (times_at part.Text n 0 at1 rest1) (tasks_at behind_heading))
    → read_as strings_of (then_read (then_read first next) (pex_with heading))
    ≡ then_read (then_read (with_strings 0 first) (λ strings1 at1 rest1. times_at part.Text n strings1 at1 rest1)) (tasks_at behind_heading)
text_step heading n (Got a at1 rest1) next same = same a at1 rest1
text_step heading n Short next same = refl
text_step heading n (Refused o rule) next same = refl

three_texts : (heading : FileHeader) (at : ℕ) (bytes : List ℕ) → read_as strings_of (then_read (texts_at at bytes) (pex_with heading)) ≡ tasks_at (behind_heading ++ (task part.Text 3 ∷ [])) 0 at bytes
unfolding texts_at
three_texts heading at bytes =
    text_step heading 2 (string_at at bytes) _
    (λ source at1 rest1. text_step heading 1 (string_at at1 rest1) _
    (λ user at2 rest2. text_step heading 0 (string_at at2 rest2) _
    (λ machine at3 rest3. strings_rest heading source user machine at3 rest3)))
    ∙ sym (tasks_append behind_heading (task part.Text 3 ∷ []) 0 at bytes)

-- what a new scan reads
pub pex_opens : (at : ℕ) (bytes : List ℕ) → read_as strings_of (pex_at at bytes) ≡ tasks_at whole_file 0 at bytes
unfolding pex_at
pex_opens at bytes =
    follow strings_of 0 part.Heading 1 (behind_heading ++ (task part.Text 3 ∷ [])) at bytes (heading_at at bytes) _ (times_once part.Heading 0 at bytes)
    (λ heading at1 rest1. three_texts heading at1 rest1)
