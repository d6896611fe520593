-- A listing breaks no rule, and so its value comes back.
use Rattle.std.proofs.Common.{◌≡◌, ℕ, suc, ◌+◌, ◌<◌, ◌≤◌, ◌^◌, ◌-◌, true, List, [], ◌∷◌, ◌++◌, length, None, refl, sym, ap, ◌∙◌, append_assoc, append-nil, ⊎_elim, arith}
use Rattle.std.specs.Prelude.{is_some, codes, ◌⊎◌, option_map, unwrap_or, IfOk, Result, Ok, Err}
use Rattle.std.specs.Fmt.{decimal}
use Rattle.std.specs.List.{flat_map, AllByRecursion}
use Rattle.std.specs.Cmp.Lexicographic.{bytes_decides}
use Rattle.std.proofs.lemmas.Bool.{false≢true, agree_below_at, cond-true, lt-ltb}
use Rattle.std.proofs.lemmas.List.{length-append}
use Rattle.pex_values.specs.declared.values.Pex.{Pex}
use Rattle.pex_values.specs.Fit.{IsCounted, Fits}
use Rattle.pex_values.specs.Plain.{PlainPex, plain}
use Rattle.pex_values.specs.Shape.{IsShapedFlag, IsWellShaped}
use Rattle.pex_values.specs.Spelling as spell
use Rattle.pex_values.proofs.Sizes.{spelling_size}
use Rattle.pex_listing.specs.Assembled.{TellsBreak, told_line}
use Rattle.pex_listing.specs.Breaks.{left_after, may_stand, Awaited, One, Many, a_number, a_string, a_time, all_parts, behind_byte, debug_line, done, fields_of, is_added, judged, line_of, list_break, not_added, number_rule, paid, string_by, string_in}
use Rattle.pex_listing.specs.Lines.{escaped, first_line, quoted, reference, string_line, table_lines}
use Rattle.pex_listing.specs.Listing as form
use Rattle.pex_listing.specs.declared.faults.ListingRule.{ListingRule}
use Rattle.pex_listing.specs.declared.faults.ListingFault.{ListingFault}
use Rattle.pex_listing.specs.declared.faults.ListingFault.TheVariants.{Broken, OutOfMemory}
use Rattle.pex_listing.proofs.OneField.{decimal_token}
use Rattle.pex_listing.proofs.Unbroken.{number_unbroken, quoted_unbroken}
use Rattle.listing_laws.specs.Round.{AreBytes, GivesBack, HasBytes}
use Rattle.listing_laws.proofs.Steps.{from, Clean, before_at, behind_at, clear, each_clean, end_clean, fields_clean, line_clean, no_more, none_more, row, same_room, same_strings, same_text, weaken, without, without_both, word_rank}
use Rattle.listing_laws.proofs.Forms.{beside, time_rule}
use Rattle.listing_laws.proofs.Parts.{both}
use Rattle.listing_laws.proofs.Members.{IsObject, object_clean}
use Rattle.listing_laws.proofs.Around.{debug_beyond, debug_bytes, debug_clean, flag_clean}

-- ---- strings

escaped_end : (b : ℕ) → b < 256 → without 10 (escaped b) ≡ true
escaped_end b byte = agree_below_at (λ k. without 10 (escaped k)) (λ k. true) 256 b refl byte

inner_end : (t : List ℕ) → AreBytes t → without 10 (flat_map escaped t) ≡ true
inner_end [] bytes = refl
inner_end (b ∷ t) bytes = without_both 10 (escaped b) (flat_map escaped t) (escaped_end b bytes.0) (inner_end t bytes.1)

quoted_end : (t : List ℕ) → AreBytes t → without 10 (quoted t) ≡ true
quoted_end t bytes = without_both 10 (flat_map escaped t) (34 ∷ []) (inner_end t bytes) refl

string_row : (word t r : List ℕ) → string_line word t ++ r ≡ (word ++ 32 ∷ quoted t) ++ 10 ∷ r
string_row word t r = simp append_assoc

string_so : (adds : List ℕ → List (List ℕ)) (t : List ℕ) → AreBytes t → length t < 65536 → string_by adds (quoted t) (string_in (quoted t)) ≡ clear (length t) [] (adds t)
string_so adds t bytes short =
    ap (string_by adds (quoted t)) (quoted_unbroken t bytes)
    ∙ ap (λ rule. record { bytes = length t; rule = rule; inside = []; added = adds t }) (cond-true _ _ _ (lt-ltb (length t) 65536 short) ∙ cond-true _ _ _ ((bytes_decides (quoted t) (quoted t)).1 refl))

module _ (strings : List (List ℕ)) where
  table_text : (text : List ℕ) (fs : List (List ℕ)) → line_of strings (codes "string") text fs ≡ paid 2 (a_string is_added text) fs
  unfolding line_of
  table_text text fs = refl

  source_text : (text : List ℕ) (fs : List (List ℕ)) → line_of strings (codes "source") text fs ≡ paid 0 (a_string not_added text) fs
  unfolding line_of
  source_text text fs = refl

  user_text : (text : List ℕ) (fs : List (List ℕ)) → line_of strings (codes "user") text fs ≡ paid 0 (a_string not_added text) fs
  unfolding line_of
  user_text text fs = refl

  machine_text : (text : List ℕ) (fs : List (List ℕ)) → line_of strings (codes "machine") text fs ≡ paid 0 (a_string not_added text) fs
  unfolding line_of
  machine_text text fs = refl

  pex_text : (text : List ℕ) (fs : List (List ℕ)) → line_of strings (codes "pex") text fs ≡ a_number 1 2 (λ _. a_time (done [] [])) fs
  unfolding line_of
  pex_text text fs = refl

-- a line with a string, at the head of what is awaited
module _ (k : ℕ) (before after : List Awaited) (strings : List (List ℕ)) (word : List ℕ) (adds : List ℕ → List (List ℕ)) (least : ℕ) (no_space : without 32 word ≡ true) (no_end : without 10 word ≡ true) (high : k ≤ word_rank word) where
  text_clean : (t r : List ℕ) (rest : ℕ) → AreBytes t → length t < 65536 → may_stand before word ≡ true → left_after before word ≡ after
      → ((text : List ℕ) (fs : List (List ℕ)) → line_of strings word text fs ≡ paid least (a_string adds text) fs)
      → Clean 0 after (strings ++ adds t) rest r → Clean k before strings ((least + length t) + rest) (string_line word t ++ r)
  text_clean t r rest bytes short may left form next =
      let line = word ++ 32 ∷ quoted t in
      let behind = behind_at 32 word (quoted t) refl no_space in
      let fs = fields_of (behind_byte 32 line) in
      same_text k before strings ((least + length t) + rest) (line ++ 10 ∷ r) (string_line word t ++ r) (string_row word t r)
      (line_clean k before strings word (least + length t) rest [] r high may (adds t) line (without_both 10 word (32 ∷ quoted t) no_end (quoted_end t bytes)) (before_at 32 word (quoted t) refl no_space)
      (ap (λ o. line_of strings word (unwrap_or o []) fs) behind ∙ form (quoted t) fs ∙ ap (beside least) (string_so adds t bytes short))
      (λ pre low number. ap (λ a. from (pre ++ a) (strings ++ adds t) rest number r) left ∙ next pre low number))

-- ---- the string table

abbrev IsText : List ℕ → Type 0
IsText t = AreBytes t × IsCounted t

table_clean : (awaited : List Awaited) (before strings : List (List ℕ)) (n rest : ℕ) (r : List ℕ) → AllByRecursion IsText strings → n + length strings ≤ 65535 → Clean 10 awaited (before ++ strings) rest r
    → Clean 9 (Many (codes "string" ∷ []) n ∷ awaited) before (length (flat_map spell.string strings) + rest) (table_lines strings ++ r)
table_clean awaited before [] n rest r each few next =
    same_room 9 (Many (codes "string" ∷ []) n ∷ awaited) before rest r (0 + rest) (sym (none_more rest))
    (no_more 9 (codes "string" ∷ []) n awaited before rest r refl (same_strings 10 awaited (before ++ []) rest r before (sym (append-nil before)) next))
table_clean awaited before (t ∷ strings) n rest r each few next =
    let here = Many (codes "string" ∷ []) n ∷ awaited in
    let after = Many (codes "string" ∷ []) (suc n) ∷ awaited in
    let room = length (flat_map spell.string strings) + rest in
    let text = table_lines strings ++ r in
    let more = table_clean awaited (before ++ t ∷ []) strings (suc n) rest r each.1 (omega (arith, few)) (same_strings 10 awaited (before ++ t ∷ strings) rest r ((before ++ t ∷ []) ++ strings) (append_assoc before (t ∷ []) strings) next) in
    let size : length (spell.string t ++ flat_map spell.string strings) + rest ≡ (2 + length t) + room =
    omega (arith, length-append (spell.string t) (flat_map spell.string strings), length-append (spell.two_bytes (length t)) t) in
    same_text 9 here before (length (spell.string t ++ flat_map spell.string strings) + rest) (string_line (codes "string") t ++ text) _ (append_assoc (string_line (codes "string") t) (table_lines strings) r)
    (same_room 9 here before ((2 + length t) + room) (string_line (codes "string") t ++ text) (length (spell.string t ++ flat_map spell.string strings) + rest) size
    (text_clean 9 here after before (codes "string") is_added 2 refl refl (omega arith) t text room each.0.0 (omega (arith, each.0.1)) (lt-ltb n 65535 (omega (arith, few))) refl (table_text before)
    (weaken 0 9 after (before ++ t ∷ []) room text (omega arith) more)))

-- ---- the whole

-- what stands behind the string table
abbrev tail : PlainPex → List ℕ
tail v = form.debug (reference v.strings) v.debug ++ (flat_map (form.flag (reference v.strings)) v.user_flags ++ (flat_map (form.object (reference v.strings)) v.objects ++ []))

abbrev tail_bytes : PlainPex → ℕ → ℕ
tail_bytes v rest = debug_beyond v.strings v.debug + (length (flat_map spell.flag v.user_flags) + (length (flat_map spell.object v.objects) + rest))

tail_awaited : List Awaited
tail_awaited = debug_line ∷ Many (codes "flag" ∷ []) 0 ∷ Many (codes "object" ∷ []) 0 ∷ []

tail_clean : (v : PlainPex) (rest : ℕ) → IsWellShaped v → Fits v → Clean 10 tail_awaited v.strings (tail_bytes v rest) (tail v)
unfolding tail_awaited
tail_clean v rest shaped fits =
    let ss = v.strings in
    let objects : Clean 8 (Many (codes "object" ∷ []) 0 ∷ []) ss (length (flat_map spell.object v.objects) + rest) (flat_map (form.object (reference ss)) v.objects ++ []) =
    each_clean (IsObject ss) (form.object (reference ss)) spell.object ss 8 (codes "object" ∷ []) refl [] (object_clean ss []) v.objects 0 rest [] (both ss _ _ v.objects shaped.objects fits.each_object) (omega (arith, fits.objects))
    (end_clean 9 ss rest) in
    let to_objects = flat_map (form.object (reference ss)) v.objects ++ [] in
    let room = length (flat_map spell.object v.objects) + rest in
    let flags = each_clean (IsShapedFlag (length ss)) (form.flag (reference ss)) spell.flag ss 6 (codes "flag" ∷ []) refl (Many (codes "object" ∷ []) 0 ∷ []) (flag_clean ss (Many (codes "object" ∷ []) 0 ∷ [])) v.user_flags 0 room to_objects
    shaped.user_flags (omega (arith, fits.user_flags)) (weaken 7 8 (Many (codes "object" ∷ []) 0 ∷ []) ss room to_objects (omega arith) objects) in
    debug_clean ss v.debug (Many (codes "flag" ∷ []) 0 ∷ Many (codes "object" ∷ []) 0 ∷ []) (length (flat_map spell.flag v.user_flags) + room) (flat_map (form.flag (reference ss)) v.user_flags ++ to_objects) shaped.debug fits.debug flags

abbrev table_awaited : List Awaited
table_awaited = Many (codes "string" ∷ []) 0 ∷ debug_line ∷ Many (codes "flag" ∷ []) 0 ∷ Many (codes "object" ∷ []) 0 ∷ []

first_row : (minor time : ℕ) (r : List ℕ) → first_line minor time ++ r ≡ codes "pex" ++ row (decimal minor ∷ decimal time ∷ []) r
first_row minor time r = simp append_assoc

abbrev header : PlainPex → List ℕ
header v = string_line (codes "source") v.source ++ (string_line (codes "user") v.user ++ (string_line (codes "machine") v.machine ++ (table_lines v.strings ++ tail v)))

eight : (f s u m t d g o : List ℕ) → (f ++ (s ++ (u ++ m))) ++ t ++ d ++ g ++ o ≡ f ++ (s ++ (u ++ (m ++ (t ++ (d ++ (g ++ (o ++ [])))))))
eight f s u m t d g o = simp (append_assoc, append-nil)

listing_row : (v : PlainPex) → form.listing v ≡ codes "pex" ++ row (decimal v.minor ∷ decimal v.time ∷ []) (header v)
unfolding form.all_lines form.heading
listing_row v =
    eight (first_line v.minor v.time) (string_line (codes "source") v.source) (string_line (codes "user") v.user) (string_line (codes "machine") v.machine) (table_lines v.strings)
    (form.debug (reference v.strings) v.debug) (flat_map (form.flag (reference v.strings)) v.user_flags) (flat_map (form.object (reference v.strings)) v.objects)
    ∙ first_row v.minor v.time (header v)

minor_rule : (m : ℕ) → ((m ≡ 1) ⊎ (m ≡ 2)) → number_rule 1 2 (decimal m) ≡ None
minor_rule m is = ⊎_elim (λ e. number_unbroken 1 2 m (omega arith) (omega arith) (omega arith)) (λ e. number_unbroken 1 2 m (omega arith) (omega arith) (omega arith)) is

minor_small : (m : ℕ) → ((m ≡ 1) ⊎ (m ≡ 2)) → m < 2 ^ 64
minor_small m is = ⊎_elim (λ e. omega arith) (λ e. omega arith) is

header_clean : (v : PlainPex) (rest : ℕ) → IsWellShaped v → Fits v → HasBytes v
    → Clean 0 (One (codes "source" ∷ []) ∷ One (codes "user" ∷ []) ∷ One (codes "machine" ∷ []) ∷ table_awaited) [] ((0 + length v.source) + ((0 + length v.user) + ((0 + length v.machine) + (length (flat_map spell.string v.strings) + tail_bytes v rest)))) (header v)
unfolding tail_awaited
header_clean v rest shaped fits bytes =
    let table_room = length (flat_map spell.string v.strings) + tail_bytes v rest in
    let to_table = table_lines v.strings ++ tail v in
    let table = table_clean tail_awaited [] v.strings 0 (tail_bytes v rest) (tail v) (both [] AreBytes IsCounted v.strings bytes.strings fits.each_string) (omega (arith, fits.strings)) (tail_clean v rest shaped fits) in
    let machine = text_clean 0 (One (codes "machine" ∷ []) ∷ table_awaited) table_awaited [] (codes "machine") not_added 0 refl refl (omega arith) v.machine to_table table_room bytes.machine (omega (arith, fits.machine)) refl refl (machine_text [])
    (weaken 0 9 table_awaited [] table_room to_table (omega arith) table) in
    let user = text_clean 0 (One (codes "user" ∷ []) ∷ One (codes "machine" ∷ []) ∷ table_awaited) (One (codes "machine" ∷ []) ∷ table_awaited) [] (codes "user") not_added 0 refl refl (omega arith) v.user
    (string_line (codes "machine") v.machine ++ to_table) ((0 + length v.machine) + table_room) bytes.user (omega (arith, fits.user)) refl refl (user_text []) machine in
    text_clean 0 (One (codes "source" ∷ []) ∷ One (codes "user" ∷ []) ∷ One (codes "machine" ∷ []) ∷ table_awaited) (One (codes "user" ∷ []) ∷ One (codes "machine" ∷ []) ∷ table_awaited) [] (codes "source") not_added 0 refl refl (omega arith) v.source
    (string_line (codes "user") v.user ++ (string_line (codes "machine") v.machine ++ to_table)) ((0 + length v.user) + ((0 + length v.machine) + table_room)) bytes.source (omega (arith, fits.source)) refl refl (source_text []) user

pub unbroken : (v : PlainPex) → IsWellShaped v → Fits v → HasBytes v → list_break (form.listing v) ≡ None
unbroken v shaped fits bytes =
    let spare = 16777216 - length (spell.spelling v) in
    let behind = (0 + length v.source) + ((0 + length v.user) + ((0 + length v.machine) + (length (flat_map spell.string v.strings) + tail_bytes v spare))) in
    let text = codes "pex" ++ row (decimal v.minor ∷ decimal v.time ∷ []) (header v) in
    let room : 16777187 ≡ 0 + behind = let all = fits.size in omega (arith, spelling_size v, debug_bytes v.strings v.debug) in
    let clean = same_text 0 all_parts [] 16777187 text (form.listing v) (listing_row v)
    (same_room 0 all_parts [] (0 + behind) text 16777187 room
    (fields_clean 0 all_parts [] (codes "pex") 0 behind [] (header v) (omega arith) refl (decimal v.minor ∷ decimal v.time ∷ []) refl (decimal_token v.minor (minor_small v.minor shaped.minor), (decimal_token v.time shaped.time, tt))
    (λ t. pex_text [] t _ ∙ (λ i. judged (minor_rule v.minor shaped.minor i) (judged (time_rule v.time shaped.time i) (clear 0 [] []))))
    (header_clean v spare shaped fits bytes))) in
    clean [] refl 1

pub gives_back : (v : PlainPex) (result : Result Pex ListingFault) → ((w : Pex) → IsWellShaped (plain w) → form.listing v ≡ form.listing (plain w) → v ≡ plain w) → list_break (form.listing v) ≡ None
    → IfOk result (λ w. IsWellShaped (plain w)) → IfOk result (λ w. form.listing v ≡ form.listing (plain w)) → TellsBreak (list_break (form.listing v)) result → GivesBack v result
gives_back v (Ok w) one whole shaped same told = sym (one w shaped same)
gives_back v (Err (Broken line rule)) one whole shaped same told =
    absurd (false≢true (ap is_some (ap (λ b. option_map {U = ℕ × ListingRule} (λ x. (told_line x.0, x.1)) b) (sym whole) ∙ told)))
gives_back v (Err OutOfMemory) one whole shaped same told = tt
