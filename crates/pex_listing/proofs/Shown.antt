-- The texts of parts that hold vectors, and how a table spells references.
use Rattle.std.proofs.Common.{◌≡◌, ℕ, ◌+◌, ◌<◌, ◌≤◌, List, [], ◌∷◌, ◌++◌, map, length, get_or, refl, sym, ap, ◌∙◌, ⊎_elim, arith}
use Rattle.std.specs.Prelude.{codes, Option, None, Some, option_map, slice_get, unwrap_or}
use Rattle.std.specs.Fmt.{decimal}
use Rattle.std.specs.List.{flat_map, range_with_len}
use Rattle.std.proofs.lemmas.Bool.{cases_lt}
use Rattle.std.proofs.lemmas.List.{get_or_past, get_or-map, length-map}
use Rattle.std.proofs.lemmas.List.Folds.{flat_map-map}
use Rattle.std.proofs.lemmas.List.FromFn.{length-range_with_len, get_or-range_with_len}
use Rattle.std.proofs.lemmas.Option.{slice_get-map, slice_get-get_or, slice_get_past}
use Rattle.pex_values.specs.declared.debug.PexDebug.{PexDebug}
use Rattle.pex_values.specs.declared.opcodes.Opcode.{Opcode}
use Rattle.pex_values.specs.declared.values.Pex.{Pex}
use Rattle.pex_values.specs.declared.values.PexFunction.{PexFunction}
use Rattle.pex_values.specs.declared.values.PexObject.{PexObject}
use Rattle.pex_values.specs.declared.values.PexState.{PexState}
use Rattle.pex_values.specs.Plain.{plain, plain_debug, plain_function, plain_instruction, plain_lines, plain_named, plain_object, plain_property, plain_state}
use Rattle.pex_listing.specs.Lines.{number, line_end, reference, string_line}
use Rattle.pex_listing.specs.Listing as form
use Rattle.pex_listing.specs.Showing.{entries_of}
use Rattle.pex_listing.specs.Spelled.{spelled_in}
use Rattle.pex_listing.specs.declared.strings.StringWords.{StringWords}

-- the table of the program has the names of the definition's table, entry for entry
abbrev pub name_of : Opcode → List ℕ
name_of e = e.name.now

pub name_at : (entries : List Opcode) (k : ℕ) (d : Opcode) → map name_of entries ≡ form.opcode_names → k ≤ 35 → (get_or entries k d).name.now ≡ form.opcode_name k
unfolding form.opcode_name
name_at entries k d same most =
    let long : length entries ≡ 36 = sym (length-map entries name_of) ∙ ap length same in
    let below : k < length entries = omega arith in
    sym (get_or-map name_of entries k d [] below) ∙ ap (λ t. get_or t k []) same

pub no_name : (k : ℕ) → 35 < k → [] ≡ form.opcode_name k
unfolding form.opcode_name
no_name k past = sym (get_or_past form.opcode_names k [] (omega arith))

pub function_text : (s : ℕ → List ℕ) (f : PexFunction)
    → form.function s (plain_function f) ≡ form.name s f.result ++ form.name s f.doc ++ number f.flags ++ number f.bits ++ line_end ++ flat_map (form.pair s (codes "param")) f.parameters.items
    ++ flat_map (form.pair s (codes "local")) f.locals.items ++ flat_map (λ i. form.instruction s (plain_instruction i)) f.code.items
unfolding form.function
function_text s f = rw (flat_map-map (form.instruction s) plain_instruction f.code.items) refl

pub state_text : (s : ℕ → List ℕ) (t : PexState) → form.state s (plain_state t) ≡ form.state_line s (plain_state t) ++ flat_map (λ f. form.named s (plain_named f)) t.functions.items
unfolding form.state
state_text s t = rw (flat_map-map (form.named s) plain_named t.functions.items) refl

pub object_text : (s : ℕ → List ℕ) (o : PexObject)
    → form.object s (plain_object o) ≡ form.object_line s (plain_object o) ++ flat_map (form.variable s) o.variables.items ++ flat_map (λ p. form.property s (plain_property p)) o.properties.items
    ++ flat_map (λ t. form.state s (plain_state t)) o.states.items
unfolding form.object
object_text s o = rw (flat_map-map (form.property s) plain_property o.properties.items, flat_map-map (form.state s) plain_state o.states.items) refl

pub debug_text : (s : ℕ → List ℕ) (d : Option PexDebug)
    → form.debug s (option_map plain_debug d) ≡ form.debug_line (option_map plain_debug d) ++ flat_map (λ e. form.lines s (plain_lines e)) (entries_of d)
unfolding form.debug
debug_text s None = refl
debug_text s (Some d) = rw (flat_map-map (form.lines s) plain_lines d.functions.items) refl

pub all_text : (s : ℕ → List ℕ) (v : Pex)
    → form.all_lines s (plain v) ≡ form.heading (plain v) ++ flat_map (string_line (codes "string")) v.strings.items ++ form.debug s (option_map plain_debug v.debug) ++ flat_map (form.flag s) v.user_flags.items
    ++ flat_map (λ o. form.object s (plain_object o)) v.objects.items
unfolding form.all_lines
all_text s v = rw (flat_map-map (form.object s) plain_object v.objects.items) refl

-- a table that was made of strings spells references as the definition says
spelled_there : (words : StringWords) (strings : List (List ℕ)) → map (λ bytes. bytes.items) words.spelled.items ≡ map (reference strings) (range_with_len 0 (length strings)) → (place : ℕ) → spelled_in words place ≡ reference strings place
unfolding reference
spelled_there words strings same place =
    let other : List ℕ = 35 ∷ decimal place in
    let all = map (reference strings) (range_with_len 0 (length strings)) in
    let told : spelled_in words place ≡ unwrap_or (slice_get all place) other =
    ap (λ o. unwrap_or o other) (sym (slice_get-map (λ bytes. bytes.items) words.spelled.items place) ∙ ap (λ xs. slice_get xs place) same) in
    told
    ∙ ⊎_elim
    (λ (in_table : place < length strings).
    let from_zero : 0 + place ≡ place = omega arith in
    let found : slice_get (range_with_len 0 (length strings)) place ≡ Some place =
    slice_get-get_or (range_with_len 0 (length strings)) place 0 (omega (arith, length-range_with_len 0 (length strings))) ∙ ap Some (get_or-range_with_len 0 (length strings) place 0 in_table ∙ from_zero) in
    ap (λ o. unwrap_or o other) (slice_get-map (reference strings) (range_with_len 0 (length strings)) place ∙ ap (option_map (reference strings)) found))
    (λ (past : length strings ≤ place).
    let none : slice_get (range_with_len 0 (length strings)) place ≡ None = slice_get_past (range_with_len 0 (length strings)) place (omega (arith, length-range_with_len 0 (length strings))) in
    ap (λ o. unwrap_or o other) (slice_get-map (reference strings) (range_with_len 0 (length strings)) place ∙ ap (option_map (reference strings)) none)
    ∙ rw (get_or_past strings place [] past) refl)
    (cases_lt place (length strings))

pub spelled_is : (words : StringWords) (strings : List (List ℕ)) → map (λ bytes. bytes.items) words.spelled.items ≡ map (reference strings) (range_with_len 0 (length strings)) → spelled_in words ≡ reference strings
spelled_is words strings same = λ i place. spelled_there words strings same place i
