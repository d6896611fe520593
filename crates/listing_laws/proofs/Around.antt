-- The debug information and the flags of a listing break no rule.
use Rattle.std.proofs.Common.{◌≡◌, ℕ, zero, suc, ◌+◌, ◌<◌, ◌≤◌, ◌^◌, List, [], ◌∷◌, ◌++◌, length, map, Option, Some, None, refl, sym, ap, ◌∙◌, append_assoc, arith}
use Rattle.std.specs.Prelude.{codes, IfSome}
use Rattle.std.specs.Fmt.{decimal}
use Rattle.std.specs.List.{flat_map, AllByRecursion}
use Rattle.std.proofs.lemmas.Bool.{lt-ltb}
use Rattle.std.proofs.lemmas.List.{length-append}
use Rattle.pex_values.specs.Fit.{IsCounted, FitsDebug}
use Rattle.pex_values.specs.Plain.{PlainLines, PlainDebug}
use Rattle.pex_values.specs.Shape.{IsShapedLines, IsShapedDebug, IsShapedFlag}
use Rattle.pex_values.specs.Spelling as spell
use Rattle.pex_values.proofs.Sizes.{lines_size, debug_size, no_debug_size}
use Rattle.pex_listing.specs.Breaks.{Awaited, debug_line, Many, a_name, done, judged, line_of, numbers, paid, a_byte, a_time}
use Rattle.pex_listing.specs.Lines.{number, reference}
use Rattle.pex_listing.specs.Listing as form
use Rattle.pex_listing.proofs.OneField.{decimal_token, reference_token}
use Rattle.pex_listing.proofs.Unbroken.{number_unbroken, reference_unbroken}
use Rattle.listing_laws.proofs.Steps.{AreTokens, Clean, OneClean, clear, each_clean, fields_clean, row, same_room, same_text, weaken}
use Rattle.listing_laws.proofs.Forms.{beside, byte_rule, time_rule}
use Rattle.listing_laws.proofs.Parts.{both}

module _ (strings : List (List ℕ)) where
  numbers_so : (n : ℕ) (ks : List ℕ) → length ks ≤ n → AllByRecursion (λ k. k < 2 ^ 16) ks → numbers n (map decimal ks) ≡ clear (length (flat_map spell.two_bytes ks)) [] []
  unfolding numbers
  numbers_so zero [] few each = refl
  numbers_so zero (k ∷ ks) few each = absurd (omega (arith, few))
  numbers_so (suc n) [] few each = refl
  numbers_so (suc n) (k ∷ ks) few each =
      (λ i. beside 2 (judged (number_unbroken 0 65535 k (omega arith) (omega (arith, each.0)) (omega arith) i) (numbers_so n ks (omega (arith, few)) each.1 i)))
      ∙ ap (λ m. clear m [] []) (sym (length-append (spell.two_bytes k) (flat_map spell.two_bytes ks)))

  numbers_row : (ks : List ℕ) (r : List ℕ) → flat_map number ks ++ row [] r ≡ row (map decimal ks) r
  numbers_row [] r = refl
  numbers_row (k ∷ ks) r = append_assoc (number k) (flat_map number ks) (row [] r) ∙ ap (λ t. 32 ∷ (decimal k ++ t)) (numbers_row ks r)

  numbers_tokens : (ks : List ℕ) → AllByRecursion (λ k. k < 2 ^ 16) ks → AreTokens (map decimal ks)
  numbers_tokens [] each = tt
  numbers_tokens (k ∷ ks) each = (decimal_token k (omega (arith, each.0)), numbers_tokens ks each.1)

  abbrev pub IsLines : PlainLines → Type 0
  IsLines e = IsShapedLines (length strings) e × IsCounted e.lines

  abbrev lines_fields : PlainLines → List (List ℕ)
  lines_fields e = reference strings e.object ∷ reference strings e.state ∷ reference strings e.function ∷ decimal e.kind ∷ map decimal e.lines

  lines_row : (e : PlainLines) (r : List ℕ) → form.lines (reference strings) e ++ r ≡ codes "lines" ++ row (lines_fields e) r
  unfolding form.lines
  lines_row e r =
      let front = λ (t : List ℕ). codes "lines" ++ (32 ∷ (reference strings e.object ++ (32 ∷ (reference strings e.state ++ (32 ∷ (reference strings e.function ++ (32 ∷ (decimal e.kind ++ t)))))))) in
      let whole : form.lines (reference strings) e ++ r ≡ front (flat_map number e.lines ++ row [] r) = simp append_assoc in
      whole ∙ ap front (numbers_row e.lines r)

  lines_text : (text : List ℕ) (fs : List (List ℕ)) → line_of strings (codes "lines") text fs ≡ paid 9 (a_name strings (a_name strings (a_name strings (a_byte (numbers 65535))))) fs
  unfolding line_of
  lines_text text fs = refl

  lines_form : (e : PlainLines) → IsLines e → paid 9 (a_name strings (a_name strings (a_name strings (a_byte (numbers 65535))))) (lines_fields e) ≡ clear (9 + length (flat_map spell.two_bytes e.lines)) [] []
  lines_form e holds = λ i. beside 9 (judged (reference_unbroken strings e.object holds.0.object i) (judged (reference_unbroken strings e.state holds.0.state i) (judged (reference_unbroken strings e.function holds.0.function i)
      (judged (byte_rule e.kind holds.0.kind i) (numbers_so 65535 e.lines (omega (arith, holds.1)) holds.0.lines i)))))

  lines_clean : (awaited : List Awaited) → OneClean IsLines (form.lines (reference strings)) spell.lines strings 5 (codes "lines" ∷ []) refl awaited
  lines_clean awaited = λ e n rest r holds few next.
      let line = codes "lines" ++ row (lines_fields e) r in
      let before = Many (codes "lines" ∷ []) n ∷ awaited in
      let bytes = 9 + length (flat_map spell.two_bytes e.lines) in
      same_text 5 before strings (length (spell.lines e) + rest) line _ (lines_row e r)
      (same_room 5 before strings (bytes + rest) line (length (spell.lines e) + rest) (omega (arith, lines_size e))
      (fields_clean 5 before strings (codes "lines") bytes rest [] r (omega arith) (lt-ltb n 65535 few) (lines_fields e) refl
      (reference_token strings e.object holds.0.object, (reference_token strings e.state holds.0.state, (reference_token strings e.function holds.0.function, (decimal_token e.kind (omega (arith, holds.0.kind)), numbers_tokens e.lines holds.0.lines))))
      (λ text. lines_text text (lines_fields e) ∙ lines_form e holds)
      (weaken 0 5 (Many (codes "lines" ∷ []) (suc n) ∷ awaited) strings rest r (omega arith) next)))

  -- ---- flags

  abbrev flag_fields : ℕ × ℕ → List (List ℕ)
  flag_fields f = reference strings f.0 ∷ decimal f.1 ∷ []

  flag_row : (f : ℕ × ℕ) (r : List ℕ) → form.flag (reference strings) f ++ r ≡ codes "flag" ++ row (flag_fields f) r
  flag_row f r = simp append_assoc

  flag_text : (text : List ℕ) (fs : List (List ℕ)) → line_of strings (codes "flag") text fs ≡ paid 3 (a_name strings (a_byte (done [] []))) fs
  unfolding line_of
  flag_text text fs = refl

  flag_form : (f : ℕ × ℕ) → IsShapedFlag (length strings) f → paid 3 (a_name strings (a_byte (done [] []))) (flag_fields f) ≡ clear 3 [] []
  flag_form f shaped = λ i. beside 3 (judged (reference_unbroken strings f.0 shaped.name i) (judged (byte_rule f.1 shaped.index i) (clear 0 [] [])))

  pub flag_clean : (awaited : List Awaited) → OneClean (IsShapedFlag (length strings)) (form.flag (reference strings)) spell.flag strings 6 (codes "flag" ∷ []) refl awaited
  flag_clean awaited = λ f n rest r holds few next.
      let before = Many (codes "flag" ∷ []) n ∷ awaited in
      same_text 6 before strings (3 + rest) (codes "flag" ++ row (flag_fields f) r) _ (flag_row f r)
      (fields_clean 6 before strings (codes "flag") 3 rest [] r (omega arith) (lt-ltb n 65535 few) (flag_fields f) refl
      (reference_token strings f.0 holds.name, (decimal_token f.1 (omega (arith, holds.index)), tt))
      (λ text. flag_text text (flag_fields f) ∙ flag_form f holds)
      (weaken 0 6 (Many (codes "flag" ∷ []) (suc n) ∷ awaited) strings rest r (omega arith) next))

  -- ---- debug information

  no_debug_row : (r : List ℕ) → form.debug (reference strings) None ++ r ≡ codes "nodebug" ++ row [] r
  unfolding form.debug
  no_debug_row r = refl

  debug_row : (d : PlainDebug) (r : List ℕ) → form.debug (reference strings) (Some d) ++ r ≡ codes "debug" ++ row (decimal d.time ∷ []) (flat_map (form.lines (reference strings)) d.functions ++ r)
  unfolding form.debug
  debug_row d r = simp append_assoc

  no_debug_text : (text : List ℕ) (fs : List (List ℕ)) → line_of strings (codes "nodebug") text fs ≡ done [] [] fs
  unfolding line_of
  no_debug_text text fs = refl

  debug_text : (text : List ℕ) (fs : List (List ℕ)) → line_of strings (codes "debug") text fs ≡ paid 10 (a_time (done (Many (codes "lines" ∷ []) 0 ∷ []) [])) fs
  unfolding line_of
  debug_text text fs = refl

  -- the bytes beyond the flag that each file has
  abbrev pub debug_beyond : Option PlainDebug → ℕ
  debug_beyond None = 0
  debug_beyond (Some d) = 10 + length (flat_map spell.lines d.functions)

  pub debug_bytes : (d : Option PlainDebug) → length (spell.debug d) ≡ 1 + debug_beyond d
  debug_bytes None = no_debug_size
  debug_bytes (Some d) = omega (arith, debug_size d)

  pub debug_clean : (d : Option PlainDebug) (awaited : List Awaited) (rest : ℕ) (r : List ℕ) → IfSome d (IsShapedDebug (length strings)) → IfSome d FitsDebug → Clean 6 awaited strings rest r
      → Clean 10 (debug_line ∷ awaited) strings (debug_beyond d + rest) (form.debug (reference strings) d ++ r)
  debug_clean None awaited rest r shaped fits next =
      same_text 10 (debug_line ∷ awaited) strings (0 + rest) (codes "nodebug" ++ row [] r) _ (no_debug_row r)
      (fields_clean 10 (debug_line ∷ awaited) strings (codes "nodebug") 0 rest [] r (omega arith) refl [] refl tt (λ text. no_debug_text text []) (weaken 0 6 awaited strings rest r (omega arith) next))
  debug_clean (Some d) awaited rest r shaped fits next =
      let behind = flat_map (form.lines (reference strings)) d.functions ++ r in
      let line = codes "debug" ++ row (decimal d.time ∷ []) behind in
      let entries = length (flat_map spell.lines d.functions) in
      let lines = each_clean IsLines (form.lines (reference strings)) spell.lines strings 5 (codes "lines" ∷ []) refl awaited (lines_clean awaited) d.functions 0 rest r (both strings (IsShapedLines (length strings)) (λ e. IsCounted e.lines) d.functions shaped.functions fits.each)
      (omega (arith, fits.functions)) next in
      same_text 10 (debug_line ∷ awaited) strings ((10 + entries) + rest) line _ (debug_row d r)
      (same_room 10 (debug_line ∷ awaited) strings (10 + (entries + rest)) line ((10 + entries) + rest) (omega arith)
      (fields_clean 10 (debug_line ∷ awaited) strings (codes "debug") 10 (entries + rest) (Many (codes "lines" ∷ []) 0 ∷ []) behind (omega arith) refl (decimal d.time ∷ []) refl (decimal_token d.time shaped.time, tt)
      (λ text. debug_text text (decimal d.time ∷ []) ∙ (λ i. beside 10 (judged (time_rule d.time shaped.time i) (clear 0 (Many (codes "lines" ∷ []) 0 ∷ []) []))))
      (weaken 0 5 (Many (codes "lines" ∷ []) 0 ∷ awaited) strings (entries + rest) behind (omega arith) lines)))
