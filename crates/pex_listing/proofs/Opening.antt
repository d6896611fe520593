-- What is awaited where a line is opened, and how lines are read to their ends.
use Rattle.std.proofs.Common.{◌≡◌, ℕ, suc, ◌<◌, ◌≤◌, ◌||◌, Bool, true, false, cond, List, [], ◌∷◌, ◌++◌, Option, Some, None, refl, sym, subst, ap, ◌∙◌, ⊎_elim, append-nil, arith}
use Rattle.std.specs.Prelude.{Result, Err, codes, nat_lt, unwrap_or}
use Rattle.std.proofs.lemmas.Bool.{both_ways, cases_Bool, cond-true, cond-false, false≢true, ltb-true, lt-ltb}
use Rattle.std.specs.Cmp.Lexicographic.{bytes_decides}
use Rattle.std.specs.List.{position}
use Rattle.std.specs.Str.{bytes_eq}
use Rattle.pex_listing.specs.Breaks.{Awaited, Break, Form, Found, Many, One, Outcome, Passed, Refused, a_byte, a_field, a_name, a_number, a_string, a_time, a_value, any_number_of, bad, done, end_break, fields_of, function_line, is_added, is_among, judged, left_after, line_of, line_outcome, may_stand, not_added, numbers, object_lines, opcode_line, operands, outcome, paid, pair_line, property_end, size_rule, some_flags, worse}
use Rattle.pex_values.specs.Opcodes.{operands_of}
use Rattle.pex_listing.specs.Listing.{opcode_names}
use Rattle.pex_listing.specs.Opened.{Good}
use Rattle.pex_listing.specs.Parted.{MayBegin, opcode_by, opcode_in}
use Rattle.pex_listing.specs.declared.strings.StringWords.{StringWords}
use Rattle.papy_base.specs.declared.faults.Fault.{Fault}
use Rattle.papy_base.specs.declared.faults.Fault.TheVariants.{Broken, OutOfMemory}
use Rattle.pex_listing.specs.declared.listing.Listing.{Listing}
use Rattle.pex_listing.proofs.Leaving.{form_same, judged_bad, outcome_bad, refused_left, refuses_from}
use Rattle.pex_listing.specs.Left.{IsTableOf, OpenLine, Reads, Refuses, view, begins, begins_by, follow, if_open, line_left, lines_left, missing_by, number_of, opened, place_of}
use Rattle.pex_listing.specs.declared.faults.ListingRule.{ListingRule}
use Rattle.pex_listing.specs.declared.faults.ListingRule.TheVariants.{BadLine}

judged_none : (x : Found) (broken : Option ListingRule) → broken ≡ None → judged broken x ≡ x
judged_none x broken none = ap (λ b. record { bytes = x.bytes; rule = worse b x.rule; inside = x.inside; added = x.added }) none

abbrev pub begins_word : List (List ℕ) → Option (List ℕ) → Bool
begins_word words None = false
begins_word words (Some w) = is_among w words

shown : (words : List (List ℕ)) (o : Option (List ℕ)) → begins_by words o ≡ false → begins_word words o ≡ false
shown words None other = refl
shown words (Some w) other = other

module _ (strings : List (List ℕ)) (v : OpenLine) where
  -- a line that may stand is read by its form
  pub open_line : (awaited : List Awaited) (w : List ℕ) → v.broken ≡ None → v.word ≡ Some w → may_stand awaited w ≡ true
      → lines_left strings awaited v ≡ line_left strings (left_after awaited w) (line_of strings w (unwrap_or v.fields [])) v
  unfolding lines_left line_left
  open_line awaited w good word stands =
      let x = line_of strings w (unwrap_or v.fields []) (fields_of v.fields) in
      let p = place_of strings awaited v in
      let after = left_after awaited w in
      let one : line_outcome p w x ≡ outcome v.room x = cond-true _ _ _ stands in
      let two : outcome v.room x ≡ outcome v.room (judged v.broken x) = sym (ap (outcome v.room) (judged_none x v.broken good)) in
      ap (λ o. opened p o v.fields v.rest) word
      ∙ ap (λ o. follow p after o v.rest) (one ∙ two)
      ∙ placed after (outcome v.room (judged v.broken x))
      ∙ sym (ap (λ o. if_open o v.lines (follow (place_of strings after v) after (outcome v.room (judged v.broken x)) v.rest)) word)
    where
      placed : (after : List Awaited) (o : Outcome) → follow (place_of strings awaited v) after o v.rest ≡ follow (place_of strings after v) after o v.rest
      placed after (Refused rule) = refl
      placed after (Passed room inside added) = refl

  pub refused_line : (awaited : List Awaited) (w : List ℕ) → v.word ≡ Some w → may_stand awaited w ≡ false → lines_left strings awaited v ≡ Some (number_of v, BadLine)
  unfolding lines_left
  refused_line awaited w word stands =
      ap (λ o. opened (place_of strings awaited v) o v.fields v.rest) word
      ∙ ap (λ o. follow (place_of strings awaited v) (left_after awaited w) o v.rest) (cond-false _ _ _ stands)

  pub no_line_left : (awaited : List Awaited) → v.word ≡ None → lines_left strings awaited v ≡ end_break (place_of strings awaited v) v.rest
  unfolding lines_left
  no_line_left awaited word = ap (λ o. opened (place_of strings awaited v) o v.fields v.rest) word

  -- a line that must come
  one_by : (words : List (List ℕ)) (awaited : List Awaited) (o : Option (List ℕ)) → v.word ≡ o → begins_word words o ≡ false → lines_left strings (One words ∷ awaited) v ≡ Some (number_of v, missing_by o)
  one_by words awaited None word other = no_line_left (One words ∷ awaited) word
  one_by words awaited (Some w) word other = refused_line (One words ∷ awaited) w word other

  pub one_missing : (words : List (List ℕ)) (awaited : List Awaited) → begins words v ≡ false → lines_left strings (One words ∷ awaited) v ≡ Some (number_of v, missing_by v.word)
  one_missing words awaited other = one_by words awaited v.word refl (shown words v.word other)

  pub one_open : (words : List (List ℕ)) (awaited : List Awaited) (w : List ℕ) → v.broken ≡ None → v.word ≡ Some w → is_among w words ≡ true
      → lines_left strings (One words ∷ awaited) v ≡ line_left strings awaited (line_of strings w (unwrap_or v.fields [])) v
  one_open words awaited w good word among = open_line (One words ∷ awaited) w good word among

  -- lines that may come
  pub many_open : (words : List (List ℕ)) (n : ℕ) (awaited : List Awaited) (w : List ℕ) → v.broken ≡ None → v.word ≡ Some w → is_among w words ≡ true → n < 65535
      → lines_left strings (Many words n ∷ awaited) v ≡ line_left strings (Many words (suc n) ∷ awaited) (line_of strings w (unwrap_or v.fields [])) v
  many_open words n awaited w good word among few =
      open_line (Many words n ∷ awaited) w good word (cond-true _ _ _ among ∙ lt-ltb n 65535 few)
      ∙ ap (λ a. line_left strings a (line_of strings w (unwrap_or v.fields [])) v) (cond-true _ _ _ among)

  skipped : (words : List (List ℕ)) (n : ℕ) (awaited : List Awaited) (w : List ℕ) → v.word ≡ Some w → is_among w words ≡ false → lines_left strings (Many words n ∷ awaited) v ≡ lines_left strings awaited v
  unfolding lines_left
  skipped words n awaited w word other =
      let x = line_of strings w (unwrap_or v.fields []) (fields_of v.fields) in
      let stands : may_stand (Many words n ∷ awaited) w ≡ may_stand awaited w = cond-false _ _ _ other in
      let after : left_after (Many words n ∷ awaited) w ≡ left_after awaited w = cond-false _ _ _ other in
      ap (λ o. opened (place_of strings (Many words n ∷ awaited) v) o v.fields v.rest) word
      ∙ ap (λ b. follow (place_of strings (Many words n ∷ awaited) v) (left_after (Many words n ∷ awaited) w) (cond b (outcome v.room x) (Refused BadLine)) v.rest) stands
      ∙ ap (λ a. follow (place_of strings (Many words n ∷ awaited) v) a (cond (may_stand awaited w) (outcome v.room x) (Refused BadLine)) v.rest) after
      ∙ placed (left_after awaited w) (cond (may_stand awaited w) (outcome v.room x) (Refused BadLine))
      ∙ sym (ap (λ o. opened (place_of strings awaited v) o v.fields v.rest) word)
    where
      placed : (behind : List Awaited) (o : Outcome) → follow (place_of strings (Many words n ∷ awaited) v) behind o v.rest ≡ follow (place_of strings awaited v) behind o v.rest
      placed behind (Refused rule) = refl
      placed behind (Passed room inside added) = refl

  many_by : (words : List (List ℕ)) (n : ℕ) (awaited : List Awaited) (o : Option (List ℕ)) → v.word ≡ o → begins_word words o ≡ false → lines_left strings (Many words n ∷ awaited) v ≡ lines_left strings awaited v
  many_by words n awaited None word other = no_line_left (Many words n ∷ awaited) word ∙ sym (no_line_left awaited word)
  many_by words n awaited (Some w) word other = skipped words n awaited w word other

  pub many_none : (words : List (List ℕ)) (n : ℕ) (awaited : List Awaited) → begins words v ≡ false → lines_left strings (Many words n ∷ awaited) v ≡ lines_left strings awaited v
  many_none words n awaited other = many_by words n awaited v.word refl (shown words v.word other)

  pub many_full : (words : List (List ℕ)) (n : ℕ) (awaited : List Awaited) (w : List ℕ) → v.word ≡ Some w → is_among w words ≡ true → nat_lt n 65535 ≡ false → lines_left strings (Many words n ∷ awaited) v ≡ Some (number_of v, BadLine)
  many_full words n awaited w word among full = refused_line (Many words n ∷ awaited) w word (cond-true _ _ _ among ∙ full)

-- ---- the end of a line

pub line_read : {whole : Break} {good : Type 0} (strings : List (List ℕ)) (after inside : List Awaited) (v w : OpenLine) → whole ≡ line_left strings after (done inside []) v
    → (line_left strings after (done inside []) v ≡ lines_left (strings ++ []) (inside ++ after) w) × good → (whole ≡ lines_left strings (inside ++ after) w) × good
line_read {whole} {good} strings after inside v w read told = (read ∙ told.0 ∙ ap (λ t. lines_left t (inside ++ after) w) (append-nil strings), told.1)

-- ---- the forms of lines

module _ (strings : List (List ℕ)) (text : List ℕ) where
  pub pex_form : line_of strings (codes "pex") text ≡ a_number 1 2 (λ _. a_time (done [] []))
  unfolding line_of
  pex_form = refl

-- ---- refusals

pub read_err : {T : Type 0} {whole mid : Break} (left : T → Break) (l : Listing) (e : Fault ListingRule) (result : Result T (Fault ListingRule)) → result ≡ Err e → whole ≡ mid → Refuses mid (number_of (view l)) e → Reads whole result left l
read_err {T} {whole} {mid} left l e result is same told = subst (λ r. Reads whole r left l) (sym is) (refuses_from same (number_of (view l)) e told)

pub expect_err : {T : Type 0} {whole : Break} (left : T → Break) (l : Listing) (e : Fault ListingRule) (rule : ListingRule) (result : Result T (Fault ListingRule)) → result ≡ Err e → e ≡ Broken rule → whole ≡ Some (number_of (view l), rule) → Reads whole result left l
expect_err {T} {whole} left l e rule result is fault told = subst (λ r. Reads whole r left l) (sym (is ∙ ap Err fault)) told

-- ---- parts

pub own_word : (word : List ℕ) → is_among word (word ∷ []) ≡ true
own_word word = ap (λ b. b || false) ((bytes_decides word word).1 refl)

pub part_open : {form : Form} (strings : List (List ℕ)) (awaited : List Awaited) (n : ℕ) (v : OpenLine) (word : List ℕ) → v.broken ≡ None → v.word ≡ Some word → n < 65535 → line_of strings word (unwrap_or v.fields []) ≡ form
    → lines_left strings (Many (word ∷ []) n ∷ awaited) v ≡ line_left strings (Many (word ∷ []) (suc n) ∷ awaited) form v
part_open {form} strings awaited n v word good is few forms =
    many_open strings v (word ∷ []) n awaited word good is (own_word word) few ∙ ap (λ f. line_left strings (Many (word ∷ []) (suc n) ∷ awaited) f v) forms

-- a line that begins with one of these words begins with a word
pub begins_with : (words : List (List ℕ)) (o : Option (List ℕ)) → begins_by words o ≡ true → (w : List ℕ) × (o ≡ Some w) × (is_among w words ≡ true)
begins_with words None at = absurd (false≢true at)
begins_with words (Some w) at = (w, refl, at)

-- ---- the forms of further lines

module _ (strings : List (List ℕ)) (text : List ℕ) where
  pub variable_form : line_of strings (codes "variable") text ≡ paid 8 (a_name strings (a_name strings (some_flags (a_value strings (done [] [])))))
  unfolding line_of
  variable_form = refl

  pub flag_form : line_of strings (codes "flag") text ≡ paid 3 (a_name strings (a_byte (done [] [])))
  unfolding line_of
  flag_form = refl

  pub lines_form : line_of strings (codes "lines") text ≡ paid 9 (a_name strings (a_name strings (a_name strings (a_byte (numbers 65535)))))
  unfolding line_of
  lines_form = refl

  pub state_form : line_of strings (codes "state") text ≡ paid 4 (a_name strings (done (any_number_of (codes "function") ∷ []) []))
  unfolding line_of
  state_form = refl

  pub object_form : line_of strings (codes "object") text
      ≡ paid 22 (a_name strings (a_field size_rule (a_name strings (a_name strings (some_flags (a_name strings (done object_lines [])))))))
  unfolding line_of
  object_form = refl

  pub property_form : line_of strings (codes "property") text ≡ paid 11 (a_name strings (a_name strings (a_name strings (some_flags (a_number 0 255 (property_end strings))))))
  unfolding line_of
  property_form = refl

  pub named_form : line_of strings (codes "function") text ≡ paid 17 (a_name strings (function_line strings))
  unfolding line_of
  named_form = refl

  pub read_form : line_of strings (codes "read") text ≡ function_line strings
  unfolding line_of
  read_form = refl

  pub write_form : line_of strings (codes "write") text ≡ function_line strings
  unfolding line_of
  write_form = refl

  pub param_form : line_of strings (codes "param") text ≡ pair_line strings
  unfolding line_of
  param_form = refl

  pub local_form : line_of strings (codes "local") text ≡ pair_line strings
  unfolding line_of
  local_form = refl

  pub string_form : line_of strings (codes "string") text ≡ paid 2 (a_string is_added text)
  unfolding line_of
  string_form = refl

  pub source_form : line_of strings (codes "source") text ≡ paid 0 (a_string not_added text)
  unfolding line_of
  source_form = refl

  pub user_form : line_of strings (codes "user") text ≡ paid 0 (a_string not_added text)
  unfolding line_of
  user_form = refl

  pub machine_form : line_of strings (codes "machine") text ≡ paid 0 (a_string not_added text)
  unfolding line_of
  machine_form = refl

  pub nodebug_form : line_of strings (codes "nodebug") text ≡ done [] []
  unfolding line_of
  nodebug_form = refl

  pub debug_form : line_of strings (codes "debug") text ≡ paid 10 (a_time (done (any_number_of (codes "lines") ∷ []) []))
  unfolding line_of
  debug_form = refl

  -- a line that begins with an opcode's name
  pub opcode_form : (w : List ℕ) (fields : List (List ℕ)) → is_among w opcode_names ≡ true → line_of strings w text fields ≡ opcode_line strings (position (bytes_eq w) opcode_names) fields
  unfolding line_of
  opcode_form w fields among = cond-true _ _ _ among

-- ---- instructions

bad_refused : (strings : List (List ℕ)) (awaited : List Awaited) (v : OpenLine) (w : List ℕ) (form : Form) → v.word ≡ Some w → form (fields_of v.fields) ≡ bad → line_left strings awaited form v ≡ Some (number_of v, BadLine)
bad_refused strings awaited v w form word is = refused_left strings awaited v w form BadLine word (outcome_bad v.room _ (judged_bad v.broken (form (fields_of v.fields)) (ap (λ x. x.rule) is)))

opcode_line_open : (strings : List (List ℕ)) (awaited : List Awaited) (n : ℕ) (v : OpenLine) (o : Option ℕ) → v.broken ≡ None → n < 65535 → ((w : List ℕ) × (v.word ≡ Some w) × (is_among w opcode_names ≡ true)) → opcode_by v.word ≡ o
    → lines_left strings (Many opcode_names n ∷ awaited) v ≡ line_left strings (Many opcode_names (suc n) ∷ awaited) (opcode_line strings o) v
opcode_line_open strings awaited n v o good few found is =
    let w = found.0 in
    let word : v.word ≡ Some w = found.1 in
    let among : is_among w opcode_names ≡ true = found.2 in
    let after = Many opcode_names (suc n) ∷ awaited in
    many_open strings v opcode_names n awaited w good word among few
    ∙ form_same strings after v (line_of strings w (unwrap_or v.fields [])) (opcode_line strings (opcode_in w)) (opcode_form strings (unwrap_or v.fields []) w (fields_of v.fields) among)
    ∙ ap (λ p. line_left strings after (opcode_line strings p) v) (sym (ap opcode_by word) ∙ is)

pub opcode_open : (strings : List (List ℕ)) (awaited : List Awaited) (n : ℕ) (v : OpenLine) (code : ℕ) → v.broken ≡ None → begins opcode_names v ≡ true → n < 65535 → opcode_by v.word ≡ Some code
    → lines_left strings (Many opcode_names n ∷ awaited) v ≡ line_left strings (Many opcode_names (suc n) ∷ awaited) (operands strings (operands_of code)) v
opcode_open strings awaited n v code good at few is = opcode_line_open strings awaited n v (Some code) good few (begins_with opcode_names v.word at) is

pub no_operands : (strings : List (List ℕ)) (awaited : List Awaited) (v : OpenLine) → ((w : List ℕ) × (v.word ≡ Some w) × (is_among w opcode_names ≡ true)) → line_left strings awaited (operands strings None) v ≡ Some (number_of v, BadLine)
no_operands strings awaited v found = bad_refused strings awaited v found.0 (operands strings None) found.1 refl

pub no_opcode : (strings : List (List ℕ)) (awaited : List Awaited) (n : ℕ) (v : OpenLine) → v.broken ≡ None → begins opcode_names v ≡ true → n < 65535 → opcode_by v.word ≡ None → lines_left strings (Many opcode_names n ∷ awaited) v ≡ Some (number_of v, BadLine)
no_opcode strings awaited n v good at few is =
    let found = begins_with opcode_names v.word at in
    opcode_line_open strings awaited n v None good few found is ∙ bad_refused strings (Many opcode_names (suc n) ∷ awaited) v found.0 (opcode_line strings None) found.1 refl

-- ---- what may begin

pub one_may : (strings : List (List ℕ)) (awaited : List Awaited) (word : List ℕ) (v : OpenLine) → MayBegin word strings (One (word ∷ []) ∷ awaited) v
one_may strings awaited word v = record { stands = own_word word; missing = one_missing strings v (word ∷ []) awaited }

pub many_may : (strings : List (List ℕ)) (awaited : List Awaited) (word : List ℕ) (n : ℕ) (v : OpenLine) → begins (word ∷ []) v ≡ true → n < 65535 → MayBegin word strings (Many (word ∷ []) n ∷ awaited) v
many_may strings awaited word n v at few = record { stands = cond-true _ _ _ (own_word word) ∙ lt-ltb n 65535 few; missing = λ other. absurd (both_ways _ other at) }

-- ---- parts that were read so far

abbrev pub SoFar : List (List ℕ) → StringWords → ℕ → Listing → Listing → Type 0
SoFar words names n old new =
    (strings : List (List ℕ)) (awaited : List Awaited) → IsTableOf strings names → Good old → (lines_left strings (Many words 0 ∷ awaited) (view old) ≡ lines_left strings (Many words n ∷ awaited) (view new)) × Good new

abbrev pub StringsSoFar : List (List ℕ) → ℕ → Listing → Listing → Type 0
StringsSoFar strings n old new =
    (awaited : List Awaited) → Good old → (lines_left [] (any_number_of (codes "string") ∷ awaited) (view old) ≡ lines_left strings (Many (codes "string" ∷ []) n ∷ awaited) (view new)) × Good new

pub table_same : {strings more : List (List ℕ)} {m n : ℕ} (words : List (List ℕ)) (awaited : List Awaited) (v : OpenLine) → more ≡ strings → m ≡ n → lines_left strings (Many words m ∷ awaited) v ≡ lines_left more (Many words n ∷ awaited) v
table_same {strings} {more} {m} {n} words awaited v same count = ap (λ k. lines_left strings (Many words k ∷ awaited) v) count ∙ ap (λ s. lines_left s (Many words n ∷ awaited) v) (sym same)

pub not_below : {n : ℕ} → 65535 ≤ n → nat_lt n 65535 ≡ false
not_below {n} past = ⊎_elim (λ (is : nat_lt n 65535 ≡ true). let below = ltb-true n 65535 is in absurd (omega arith)) (λ is. is) (cases_Bool (nat_lt n 65535))

pub parts_full : (strings : List (List ℕ)) (words : List (List ℕ)) (n : ℕ) (awaited : List Awaited) (v : OpenLine) → begins words v ≡ true → nat_lt n 65535 ≡ false → lines_left strings (Many words n ∷ awaited) v ≡ Some (number_of v, BadLine)
parts_full strings words n awaited v at full = let found = begins_with words v.word at in many_full strings v words n awaited found.0 found.1 found.2 full

pub memory_err : {T : Type 0} (whole : Break) (left : T → Break) (l : Listing) (result : Result T (Fault ListingRule)) → result ≡ Err OutOfMemory → Reads whole result left l
memory_err {T} whole left l result is = subst (λ r. Reads whole r left l) (sym is) tt
