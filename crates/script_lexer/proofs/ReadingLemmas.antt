-- The whole reading, and the places at which rules are broken.
use Rattle.std.proofs.Common.{◌≡◌, ℕ, zero, suc, ◌+◌, ◌-◌, ◌<◌, ◌≤◌, true, false, cond, List, [], ◌∷◌, ◌++◌, length, get_or, take, drop, Result, Ok, Err, refl, sym, ap, subst, ◌∙◌, ⊎_elim, inl, inr, append_assoc, arith, lit≤, zero-add}
use Rattle.std.specs.Prelude.{◌⊎◌, OnOk}
use Rattle.script_lexer.specs.declared.line.Lines.{Lines}
use Rattle.std.specs.List.{flat_map}
use Rattle.std.proofs.lemmas.Bool.{cases_lt, cases_Bool, eq-eqb, ne_eqb}
use Rattle.std.proofs.lemmas.List.{append-nil, length-append, length-drop, take-append-drop, take_at, drop_at, take-take, drop_all, length-take-le, flat_map_more}
use Rattle.std.proofs.lemmas.List.Sums.{sum_by-append, sum_by-cons, count_by-le-length}
use Rattle.script_lexer.specs.declared.piece.Piece.{Piece}
use Rattle.script_lexer.specs.declared.line.Progress.{Progress}
use Rattle.script_lexer.specs.declared.fault.LexRule.{LexRule}
use Rattle.script_lexer.specs.declared.fault.LexRule.TheVariants as rule
use Rattle.script_lexer.specs.declared.fault.LexFault.{LexFault}
use Rattle.script_lexer.specs.declared.fault.LexFault.TheVariants as fault
use Rattle.script_lexer.specs.declared.line.Line.{Line}
use Rattle.script_lexer.specs.Bytes.{line_ends, is_line_end}
use Rattle.script_lexer.specs.Pieces.{IsLongest}
use Rattle.script_lexer.specs.Rules.{rule_number, Breaks}
use Rattle.script_lexer.specs.Lines.{Spelled, Reads, logical_lines, lines_of, physical_lines, LexesFrom, BreaksAt, IsBroken, IsUnbroken, FirstBreak}
use Rattle.script_lexer.specs.Answers.{IsLowest}
use Rattle.script_lexer.specs.Progress.{lines_with, IsStart, IsReady, closed}
use Rattle.script_lexer.specs.Steps.{ends_before_last, StandsHere, Steps, Exceeds, StepFault, TextFault, TextAnswer}

-- ---- pieces in a row

abbrev pub spelling : List Spelled → List ℕ
spelling pieces = flat_map (λ s. s.bytes) pieces

pub Reads-spelling : (text : List ℕ) (ps : List Spelled) (rest : List ℕ) → Reads text ps rest → text ≡ spelling ps ++ rest
Reads-spelling text [] rest h = h
Reads-spelling text (p ∷ ps) rest h =
    h.1 ∙ ap (λ (t : List ℕ). p.bytes ++ t) (Reads-spelling h.0 ps rest h.3) ∙ sym (append_assoc p.bytes (spelling ps) rest)

pub Reads-push : (text : List ℕ) (ps : List Spelled) (rest : List ℕ) (s : Spelled) (after : List ℕ) → Reads text ps rest → rest ≡ s.bytes ++ after → IsLongest s.bytes after s.piece → Reads text (ps ++ s ∷ []) after
Reads-push text [] rest s after h split longest = (after, h ∙ split, longest, refl)
Reads-push text (p ∷ ps) rest s after h split longest = (h.0, h.1, h.2, Reads-push h.0 ps rest s after h.3 split longest)

Reads-length : (text : List ℕ) (ps : List Spelled) (rest : List ℕ) → Reads text ps rest → length rest ≤ length text
Reads-length text ps rest h = let e = ap length (Reads-spelling text ps rest h) in omega (arith, length-append (spelling ps) rest)

-- at one place stands one longest piece
pub same_length : (bs after cs back : List ℕ) (p q : Piece) → bs ++ after ≡ cs ++ back → IsLongest bs after p → IsLongest cs back q → length bs ≡ length cs
same_length bs after cs back p q e h g =
    let le : length cs ≤ length bs = h.longest cs back q e g.spelled in
    let ge : length bs ≤ length cs = g.longest bs after p (sym e) h.spelled in
    omega arith

pub same_bytes : (bs after cs back : List ℕ) → bs ++ after ≡ cs ++ back → length bs ≡ length cs → bs ≡ cs
same_bytes bs after cs back e len = sym (take_at bs after (length cs) len) ∙ ap (take (length cs)) e ∙ take_at cs back (length cs) refl

pub same_after : (bs after cs back : List ℕ) → bs ++ after ≡ cs ++ back → length bs ≡ length cs → after ≡ back
same_after bs after cs back e len = sym (drop_at bs after (length cs) len) ∙ ap (drop (length cs)) e ∙ drop_at cs back (length cs) refl

-- Another reading stops before, at or after a longest piece, never inside it.
not_inside : (text : List ℕ) (ps qs : List Spelled) (rest bytes after y : List ℕ) (piece : Piece) → Reads text ps rest → rest ≡ bytes ++ after → IsLongest bytes after piece → Reads text qs y
    → (length rest ≤ length y) ⊎ (length y ≤ length after)
not_inside text ps [] rest bytes after y piece h split longest g = inl (let e = ap length g in omega (arith, Reads-length text ps rest h))
not_inside text [] (q ∷ qs) rest bytes after y piece h split longest g =
    let e : bytes ++ after ≡ q.bytes ++ g.0 = sym split ∙ sym h ∙ g.1 in
    let len = same_length bytes after q.bytes g.0 piece q.piece e longest g.2 in
    let same = same_after bytes after q.bytes g.0 e len in
    inr (let same_len = ap length same in omega (arith, Reads-length g.0 qs y g.3))
not_inside text (p ∷ ps) (q ∷ qs) rest bytes after y piece h split longest g =
    let e : p.bytes ++ h.0 ≡ q.bytes ++ g.0 = sym h.1 ∙ g.1 in
    let len = same_length p.bytes h.0 q.bytes g.0 p.piece q.piece e h.2 g.2 in
    let same = same_after p.bytes h.0 q.bytes g.0 e len in
    not_inside h.0 ps qs rest bytes after y piece h.3 split longest (subst (λ (t : List ℕ). Reads t qs y) (sym same) g.3)

-- ---- line ends

line_ends-append : (xs ys : List ℕ) → line_ends (xs ++ ys) ≡ line_ends xs + line_ends ys
line_ends-append xs ys = sum_by-append (λ x. cond (is_line_end x) 1 0) xs ys

pub line_ends-cons : (x : ℕ) (xs : List ℕ) → line_ends (x ∷ xs) ≡ cond (is_line_end x) 1 0 + line_ends xs
line_ends-cons x xs = sum_by-cons (λ x. cond (is_line_end x) 1 0) x xs

line_ends-le : (xs : List ℕ) → line_ends xs ≤ length xs
line_ends-le xs = count_by-le-length is_line_end xs

-- a front has no more of them
line_ends-take : (n m : ℕ) (xs : List ℕ) → n ≤ m → line_ends (take n xs) ≤ line_ends (take m xs)
line_ends-take n m xs le =
    let split : take m xs ≡ take n (take m xs) ++ drop n (take m xs) = sym (take-append-drop n (take m xs)) in
    let front : take n (take m xs) ≡ take n xs = take-take n m xs le in
    let sum = line_ends-append (take n (take m xs)) (drop n (take m xs)) in
    let total : line_ends (take m xs) ≡ line_ends (take n (take m xs) ++ drop n (take m xs)) = ap line_ends split in
    let same : line_ends (take n (take m xs)) ≡ line_ends (take n xs) = ap line_ends front in
    omega arith

-- the least place behind n line ends
record LeastBehind (xs : List ℕ) (n m : ℕ) : Type 0 where
  place : ℕ
  within : place ≤ m
  reached : line_ends (take place xs) ≡ n
  least : (other : ℕ) → n ≤ line_ends (take other xs) → place ≤ other

least_more : (x : ℕ) (xs : List ℕ) (n place : ℕ) → ((k : ℕ) → suc n ≤ line_ends (take (suc k) (x ∷ xs)) → place ≤ k) → (other : ℕ) → suc n ≤ line_ends (take other (x ∷ xs)) → suc place ≤ other
least_more x xs n place h zero g = absurd (omega arith)
least_more x xs n place h (suc k) g = let le : place ≤ k = h k g in omega arith

least_behind : (xs : List ℕ) (n m : ℕ) → n ≤ line_ends (take m xs) → LeastBehind xs n m
least_behind xs zero m h = record { place = 0; within = omega arith; reached = refl; least = λ other g. omega arith }
least_behind [] (suc n) zero h = absurd (omega arith)
least_behind [] (suc n) (suc m) h = absurd (omega arith)
least_behind (x ∷ xs) (suc n) zero h = absurd (omega arith)
least_behind (x ∷ xs) (suc n) (suc m) h =
    ⊎_elim
    (λ (yes : is_line_end x ≡ true).
    let one : (k : ℕ) → line_ends (take (suc k) (x ∷ xs)) ≡ 1 + line_ends (take k xs) = λ k. line_ends-cons x (take k xs) ∙ rw yes refl in
    let later = least_behind xs n m (omega (arith, one m)) in
    record {
      place = suc later.place;
      within = omega (arith, later.within);
      reached = one later.place ∙ omega (arith, later.reached);
      least = least_more x xs n later.place (λ k g. later.least k (omega (arith, one k)));
    })
    (λ (no : is_line_end x ≡ false).
    let one : (k : ℕ) → line_ends (take (suc k) (x ∷ xs)) ≡ line_ends (take k xs) = λ k. line_ends-cons x (take k xs) ∙ rw no (zero-add (line_ends (take k xs))) in
    let later = least_behind xs (suc n) m (omega (arith, one m)) in
    record {
      place = suc later.place;
      within = omega (arith, later.within);
      reached = one later.place ∙ later.reached;
      least = least_more x xs n later.place (λ k g. later.least k (omega (arith, one k)));
    })
    (cases_Bool (is_line_end x))

-- ---- what was read so far

pub record ReadSoFar (start : ℕ) (text : List ℕ) (p : Progress) (rest : List ℕ) : Type 0 where
  pub reading : List Spelled
  pub whole : Reads text reading rest
  pub place : p.at ≡ start + length (spelling reading)
  pub line : p.line ≡ 1 + line_ends (spelling reading)
  pub few : p.line ≤ 65536
  pub ready : IsReady p
  -- whatever follows, the lines so far and those of what follows are those of all
  pub built : (pieces : List Spelled) → lines_with p pieces ≡ lines_of start (reading ++ pieces)
  -- no rule is broken before this place
  pub unbroken : (place : ℕ) (r : LexRule) → IsBroken text place r → length (spelling reading) ≤ place

pub read_none : (start : ℕ) (text : List ℕ) (p : Progress) → IsStart p start → ReadSoFar start text p text
read_none start text p h = record {
  reading = [];
  whole = refl;
  place = h.place ∙ omega arith;
  line = h.line;
  few = omega (arith, h.line);
  ready = record { begun = omega (arith, h.begun, h.line); fits = λ _. omega (arith, h.begun) };
  built = λ pieces. rw (h.lines, h.begun, h.tokens, h.place, h.line) refl;
  unbroken = λ place r _. omega arith;
}

module _ (start : ℕ) (text : List ℕ) (p : Progress) (rest : List ℕ) (so_far : ReadSoFar start text p rest) where
  pub text_is : text ≡ spelling so_far.reading ++ rest
  text_is = Reads-spelling text so_far.reading rest so_far.whole

  rest_is : rest ≡ drop (length (spelling so_far.reading)) text
  rest_is = sym (ap (drop (length (spelling so_far.reading))) text_is ∙ drop_at (spelling so_far.reading) rest (length (spelling so_far.reading)) refl)

  front_is : take (length (spelling so_far.reading)) text ≡ spelling so_far.reading
  front_is = ap (take (length (spelling so_far.reading))) text_is ∙ take_at (spelling so_far.reading) rest (length (spelling so_far.reading)) refl

  pub text_length : length text ≡ length (spelling so_far.reading) + length rest
  text_length = ap length text_is ∙ length-append (spelling so_far.reading) rest

  -- a rule that is broken where a piece begins is broken behind the piece that stands here
  beyond : (after bytes : List ℕ) (piece : Piece) → StandsHere rest after bytes piece → (place : ℕ) (r : LexRule) → BreaksAt text place r → length (spelling so_far.reading) + length bytes ≤ place
  beyond after bytes piece here place r broken =
      let ge : length (spelling so_far.reading) ≤ place = so_far.unbroken place r (inl broken) in
      let size = ap length here.split in
      ⊎_elim
      (λ (at_most : length rest ≤ length (drop place text)).
      let bound : length (drop place text) ≡ length text - place = length-drop place text in
      ⊎_elim
      (λ (inside : place < length text).
      let same : place ≡ length (spelling so_far.reading) = omega (arith, text_length) in
      let begins : drop place text ≡ rest = ap (λ (n : ℕ). drop n text) same ∙ sym rest_is in
      absurd (here.unbroken r (subst (Breaks r) begins broken.broken)))
      (λ (past : length text ≤ place). absurd (subst (Breaks r) (drop_all place text past) broken.broken))
      (cases_lt place (length text)))
      (λ (behind : length (drop place text) ≤ length after).
      let bound : length (drop place text) ≡ length text - place = length-drop place text in
      omega (arith, text_length, length-append bytes after))
      (not_inside text so_far.reading broken.reading rest bytes after (drop place text) piece so_far.whole here.split here.longest broken.whole)

  -- the front of the text up to a place within the piece
  front_within : (after bytes : List ℕ) (k : ℕ) → rest ≡ bytes ++ after → k ≤ length bytes → take (length (spelling so_far.reading) + k) text ≡ spelling so_far.reading ++ take k bytes
  front_within after bytes k split le =
      let sp = spelling so_far.reading in
      let parts : text ≡ (sp ++ take k bytes) ++ (drop k bytes ++ after) =
      text_is ∙ ap (λ (t : List ℕ). sp ++ t) (split ∙ ap (λ (t : List ℕ). t ++ after) (sym (take-append-drop k bytes)) ∙ append_assoc (take k bytes) (drop k bytes) after) ∙ sym (append_assoc sp (take k bytes) (drop k bytes ++ after)) in
      let len : length (sp ++ take k bytes) ≡ length sp + k = length-append sp (take k bytes) ∙ ap (λ (n : ℕ). length sp + n) (length-take-le k bytes le) in
      ap (take (length sp + k)) parts ∙ take_at (sp ++ take k bytes) (drop k bytes ++ after) (length sp + k) len

  ends_within : (after bytes : List ℕ) (k : ℕ) → rest ≡ bytes ++ after → k ≤ length bytes → line_ends (take (length (spelling so_far.reading) + k) text) ≡ line_ends (spelling so_far.reading) + line_ends (take k bytes)
  ends_within after bytes k split le = ap line_ends (front_within after bytes k split le) ∙ line_ends-append (spelling so_far.reading) (take k bytes)

-- a piece has bytes
pub longest_some : (bytes after : List ℕ) (piece : Piece) → IsLongest bytes after piece → 0 < length bytes
longest_some [] after piece h = absurd h.spelled
longest_some (b ∷ bytes) after piece h = omega arith

last_end : (bytes : List ℕ) → line_ends bytes ≤ ends_before_last bytes + 1
last_end bytes =
    let k = length bytes - 1 in
    let split : line_ends bytes ≡ line_ends (take k bytes ++ drop k bytes) = ap line_ends (sym (take-append-drop k bytes)) in
    omega (arith, line_ends-append (take k bytes) (drop k bytes), line_ends-le (drop k bytes), length-drop k bytes)

spelling-push : (ps : List Spelled) (s : Spelled) → spelling (ps ++ s ∷ []) ≡ spelling ps ++ s.bytes
spelling-push ps s = sym (flat_map_more (λ (x : Spelled). x.bytes) [] ps s)

pub read_more : (start : ℕ) (text : List ℕ) (old new : Progress) (rest after : List ℕ) → ReadSoFar start text old rest → Steps old new rest after → ReadSoFar start text new after
read_more start text old new rest after so_far step =
    let s : Spelled = record { piece = step.piece; bytes = step.bytes } in
    let sp = spelling so_far.reading in
    let bytes = step.bytes in
    let some = longest_some bytes after step.piece step.here.longest in
    let pushed : spelling (so_far.reading ++ s ∷ []) ≡ sp ++ bytes = spelling-push so_far.reading s in
    let size : length (spelling (so_far.reading ++ s ∷ [])) ≡ length sp + length bytes = ap length pushed ∙ length-append sp bytes in
    let ends : line_ends (spelling (so_far.reading ++ s ∷ [])) ≡ line_ends sp + line_ends bytes = ap line_ends pushed ∙ line_ends-append sp bytes in
    record {
      reading = so_far.reading ++ s ∷ [];
      whole = Reads-push text so_far.reading rest s after so_far.whole step.here.split step.here.longest;
      place = omega (arith, step.takes.at, so_far.place);
      line = omega (arith, step.takes.line, so_far.line);
      few = omega (arith, step.takes.line, step.few, last_end bytes);
      ready = step.takes.ready;
      built = λ pieces. step.takes.built pieces ∙ so_far.built (s ∷ pieces) ∙ ap (lines_of start) (sym (append_assoc so_far.reading (s ∷ []) pieces));
      unbroken = λ place r broken. ⊎_elim
          (λ at_piece. let far = beyond start text old rest so_far after bytes step.piece step.here place r at_piece in omega arith)
          (λ past. ⊎_elim
          (λ (near : place < length sp + length bytes).
          let k = length bytes - 1 in
          let bound = line_ends-take place (length sp + k) text (omega arith) in
          let count = ends_within start text old rest so_far after bytes k step.here.split (omega arith) in
          absurd (omega (arith, past.1.behind, step.few, so_far.line)))
          (λ far. omega arith)
          (cases_lt place (length sp + length bytes)))
          broken;
    }

-- ---- the answers

rule_number-le : (r : LexRule) → rule_number r ≤ 9
rule_number-le rule.BadByte = lit≤ tt
rule_number-le rule.OpenText = lit≤ tt
rule_number-le rule.BadEscape = lit≤ tt
rule_number-le rule.FloatLiteral = lit≤ tt
rule_number-le rule.FloatWord = lit≤ tt
rule_number-le rule.NumberRange = lit≤ tt
rule_number-le rule.TextTooLong = lit≤ tt
rule_number-le rule.OpenComment = lit≤ tt
rule_number-le rule.TooLarge = lit≤ tt

-- the lowest rule that is broken where the next piece would begin
break_here : (start : ℕ) (text : List ℕ) (p : Progress) (rest : List ℕ) (line : ℕ) (r : LexRule) → ReadSoFar start text p rest → line ≡ p.line → IsLowest rest r → FirstBreak text line r
break_here start text p rest line r so_far is_line low =
    let n = length (spelling so_far.reading) in
    let here = rest_is start text p rest so_far in (
      n,
      record {
        broken = inl (record { reading = so_far.reading; whole = subst (λ (t : List ℕ). Reads text so_far.reading t) here so_far.whole; broken = subst (Breaks r) here low.broken });
        least = so_far.unbroken;
        lowest = λ q broken. ⊎_elim
            (λ at_piece. low.lowest q (subst (Breaks q) (sym here) at_piece.broken))
            (λ past. subst (λ (x : LexRule). rule_number r ≤ rule_number x) (sym past.0) (rule_number-le r))
            broken;
      },
      is_line ∙ so_far.line ∙ ap (λ (t : List ℕ). 1 + line_ends t) (sym (front_is start text p rest so_far)),
    )

-- a line past the last one begins within the piece
break_within : (start : ℕ) (text : List ℕ) (p : Progress) (rest : List ℕ) (line : ℕ) → ReadSoFar start text p rest → line ≡ 65536 → Exceeds p.line rest → FirstBreak text line rule.TooLarge
break_within start text p rest line so_far is_line over =
    let sp = spelling so_far.reading in
    let bytes = over.bytes in
    let k = length bytes - 1 in
    let some = longest_some bytes over.after over.piece over.here.longest in
    let count = ends_within start text p rest so_far over.after bytes k over.here.split (omega arith) in
    let first = least_behind text 65535 (length sp + k) (omega (arith, over.many, so_far.line)) in
    let size = text_length start text p rest so_far in
    let parts = ap length over.here.split in (
      first.place,
      record {
        broken = inr (refl, record { within = omega (arith, first.within, length-append bytes over.after); behind = omega (arith, first.reached) });
        least = λ other q broken. ⊎_elim
            (λ at_piece. let far = beyond start text p rest so_far over.after bytes over.piece over.here other q at_piece in omega (arith, first.within))
            (λ past. first.least other past.1.behind)
            broken;
        lowest = λ q broken. ⊎_elim
            (λ at_piece. let far = beyond start text p rest so_far over.after bytes over.piece over.here first.place q at_piece in absurd (omega (arith, first.within)))
            (λ past. subst (λ (x : LexRule). 9 ≤ rule_number x) (sym past.0) (lit≤ tt))
            broken;
      },
      is_line ∙ omega (arith, first.reached),
    )

pub step_fault : (start : ℕ) (text : List ℕ) (p : Progress) (rest : List ℕ) (f : LexFault) → ReadSoFar start text p rest → StepFault p.line rest f → TextFault text f
step_fault start text p rest fault.OutOfMemory so_far h = tt
step_fault start text p rest (fault.Broken line r) so_far (inl h) = break_here start text p rest line r so_far h.0 h.1
step_fault start text p rest (fault.Broken line r) so_far (inr h) =
    subst (λ (x : LexRule). FirstBreak text line x) (sym h.1) (break_within start text p rest line so_far h.0 h.2)

pub read_all : (start : ℕ) (text : List ℕ) (p : Progress) (lines : List Line) (last : ℕ) → ReadSoFar start text p [] → closed lines p → last ≡ physical_lines text → IsUnbroken text × LexesFrom start text (logical_lines lines) last
read_all start text p lines last so_far is_closed is_last =
    let size = text_length start text p [] so_far in (
      λ place r broken.
          let ge = so_far.unbroken place r broken in
          ⊎_elim
          (λ at_piece. absurd (subst (Breaks r) (drop_all place text (omega arith)) at_piece.broken))
          (λ past. absurd (omega (arith, past.1.within)))
          broken,
      record {
        reading = so_far.reading;
        whole = so_far.whole;
        as_lines = is_closed ∙ so_far.built [] ∙ ap (lines_of start) (append-nil so_far.reading);
        as_last = is_last;
      },
    )

-- ---- the number of physical lines

pub line_ends_none : (b : ℕ) → is_line_end b ≡ false → ◌≡◌ {A = ℕ} (cond (is_line_end b) 1 0) 0
line_ends_none b e = rw e refl

pub ended_lines : (text : List ℕ) (k : ℕ) → suc k ≡ length text → get_or text k 0 ≡ 10 → physical_lines text ≡ line_ends text
ended_lines [] k len e = absurd (omega arith)
ended_lines (b ∷ []) zero len e = let test : is_line_end b ≡ true = eq-eqb b 10 e in sym (line_ends-cons b [] ∙ rw test refl)
ended_lines (b ∷ []) (suc k) len e = absurd (omega arith)
ended_lines (b ∷ c ∷ bs) zero len e = absurd (omega arith)
ended_lines (b ∷ c ∷ bs) (suc k) len e =
    ap (λ (n : ℕ). cond (is_line_end b) 1 0 + n) (ended_lines (c ∷ bs) k (omega arith) e) ∙ sym (line_ends-cons b (c ∷ bs))

pub open_lines : (text : List ℕ) (k : ℕ) → suc k ≡ length text → (get_or text k 0 ≡ 10 → ⊥) → physical_lines text ≡ line_ends text + 1
open_lines [] k len e = absurd (omega arith)
open_lines (b ∷ []) zero len e = let test : is_line_end b ≡ false = ne_eqb b 10 e in omega (arith, line_ends-cons b [], line_ends_none b test)
open_lines (b ∷ []) (suc k) len e = absurd (omega arith)
open_lines (b ∷ c ∷ bs) zero len e = absurd (omega arith)
open_lines (b ∷ c ∷ bs) (suc k) len e =
    let later = open_lines (c ∷ bs) k (omega arith) e in
    omega (arith, line_ends-cons b (c ∷ bs))

pub unbroken_of : (start : ℕ) (text : List ℕ) (r : Result Lines LexFault) → TextAnswer start text r → OnOk r (IsUnbroken text)
unbroken_of start text (Ok lines) h = h.0
unbroken_of start text (Err f) h = tt
