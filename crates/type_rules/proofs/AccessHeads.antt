-- The heads of what reads and writes a property.
use Rattle.std.proofs.Common.{◌≡◌, ◌+◌, ◌<◌, ℕ, Bool, true, false, List, length, take, codes, not, sym, ap, ◌∙◌, slice_index_or}
use Rattle.std.specs.Prelude.{Option, Some, option_map, if◌then◌else◌}
use Rattle.std.specs.Str.{str_eq_ignore_ascii_case}
use Rattle.core_tree.specs.declared.script.CoreFunction.{CoreFunction}
use Rattle.script_linker.specs.declared.set.SourceFile.{SourceFile}
use Rattle.script_parser.specs.declared.script.Function.{Function}
use Rattle.type_rules.proofs.Heads.{last-more, last-same}
use Rattle.type_rules.specs.Heads.{FunctionHead, core_function_head, function_head, getter, is_get, setter}

abbrev is_set : Function → Bool
is_set f = not (is_get f)

-- a function keeps its name
pub get-named : (set : List SourceFile) (function : Function) (made : CoreFunction) → core_function_head made ≡ function_head set function → str_eq_ignore_ascii_case made.name (codes "Get") ≡ is_get function
get-named set function made head = ap (λ (h : FunctionHead). str_eq_ignore_ascii_case h.name (codes "Get")) head

-- the next function is a Get
pub getter-more : (set : List SourceFile) (functions : List Function) (n : ℕ) (function : Function) (made : CoreFunction) → n < length functions → function ≡ slice_index_or functions n function → core_function_head made ≡ function_head set function →
    is_get function ≡ true → option_map core_function_head (Some made) ≡ option_map (function_head set) (getter (take (n + 1) functions))
getter-more set functions n function made within is head get =
    ap Some head ∙ ap (option_map (function_head set)) (sym (last-more is_get functions n function within is get))

pub setter-same : (set : List SourceFile) (functions : List Function) (n : ℕ) (function : Function) (write : Option CoreFunction) → n < length functions → function ≡ slice_index_or functions n function → is_get function ≡ true →
    option_map core_function_head write ≡ option_map (function_head set) (setter (take n functions)) → option_map core_function_head write ≡ option_map (function_head set) (setter (take (n + 1) functions))
setter-same set functions n function write within is get so_far =
    so_far ∙ ap (option_map (function_head set)) (sym (last-same is_set functions n function within is (ap not get)))

-- the next function is none
pub setter-more : (set : List SourceFile) (functions : List Function) (n : ℕ) (function : Function) (made : CoreFunction) → n < length functions → function ≡ slice_index_or functions n function → core_function_head made ≡ function_head set function →
    is_get function ≡ false → option_map core_function_head (Some made) ≡ option_map (function_head set) (setter (take (n + 1) functions))
setter-more set functions n function made within is head other =
    ap Some head ∙ ap (option_map (function_head set)) (sym (last-more is_set functions n function within is (ap not other)))

pub getter-same : (set : List SourceFile) (functions : List Function) (n : ℕ) (function : Function) (read : Option CoreFunction) → n < length functions → function ≡ slice_index_or functions n function → is_get function ≡ false →
    option_map core_function_head read ≡ option_map (function_head set) (getter (take n functions)) → option_map core_function_head read ≡ option_map (function_head set) (getter (take (n + 1) functions))
getter-same set functions n function read within is other so_far =
    so_far ∙ ap (option_map (function_head set)) (sym (last-same is_get functions n function within is other))

-- ---- what is found behind one function more

get-by : (set : List SourceFile) (functions : List Function) (n : ℕ) (function : Function) (made : CoreFunction) (read : Option CoreFunction) → n < length functions → function ≡ slice_index_or functions n function → core_function_head made ≡ function_head set function →
    option_map core_function_head read ≡ option_map (function_head set) (getter (take n functions)) → (test : Bool) → is_get function ≡ test →
    option_map core_function_head (if test then Some made else read) ≡ option_map (function_head set) (getter (take (n + 1) functions))
get-by set functions n function made read within is head so_far true get = getter-more set functions n function made within is head get
get-by set functions n function made read within is head so_far false other = getter-same set functions n function read within is other so_far

set-by : (set : List SourceFile) (functions : List Function) (n : ℕ) (function : Function) (made : CoreFunction) (write : Option CoreFunction) → n < length functions → function ≡ slice_index_or functions n function → core_function_head made ≡ function_head set function →
    option_map core_function_head write ≡ option_map (function_head set) (setter (take n functions)) → (test : Bool) → is_get function ≡ test →
    option_map core_function_head (if test then write else Some made) ≡ option_map (function_head set) (setter (take (n + 1) functions))
set-by set functions n function made write within is head so_far true get = setter-same set functions n function write within is get so_far
set-by set functions n function made write within is head so_far false other = setter-more set functions n function made within is head other

pub getter-next : (set : List SourceFile) (functions : List Function) (n : ℕ) (function : Function) (made : CoreFunction) (read : Option CoreFunction) → n < length functions → function ≡ slice_index_or functions n function → core_function_head made ≡ function_head set function →
    option_map core_function_head read ≡ option_map (function_head set) (getter (take n functions)) →
    option_map core_function_head (if str_eq_ignore_ascii_case made.name (codes "Get") then Some made else read) ≡ option_map (function_head set) (getter (take (n + 1) functions))
getter-next set functions n function made read within is head so_far =
    get-by set functions n function made read within is head so_far (str_eq_ignore_ascii_case made.name (codes "Get")) (sym (get-named set function made head))

pub setter-next : (set : List SourceFile) (functions : List Function) (n : ℕ) (function : Function) (made : CoreFunction) (write : Option CoreFunction) → n < length functions → function ≡ slice_index_or functions n function → core_function_head made ≡ function_head set function →
    option_map core_function_head write ≡ option_map (function_head set) (setter (take n functions)) →
    option_map core_function_head (if str_eq_ignore_ascii_case made.name (codes "Get") then write else Some made) ≡ option_map (function_head set) (setter (take (n + 1) functions))
setter-next set functions n function made write within is head so_far =
    set-by set functions n function made write within is head so_far (str_eq_ignore_ascii_case made.name (codes "Get")) (sym (get-named set function made head))

-- what holds of two functions holds of the one that a test picks
pub picked : (test : Bool) (first other : Option CoreFunction) (P : Option CoreFunction → Type 0) → P first → P other → P (if test then first else other)
picked true first other P holds holds_too = holds
picked false first other P holds holds_too = holds_too
