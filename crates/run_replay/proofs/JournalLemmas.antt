-- A journal read line by line.
use Rattle.std.proofs.Common.{◌≡◌, ◌≢◌, ℕ, ◌+◌, ◌<◌, ◌≤◌, true, false, List, [], ◌∷◌, ◌++◌, length, append_assoc, length-append, append-nil, refl, sym, ap, subst, ◌∙◌, arith}
use Rattle.std.proofs.lemmas.List.Concat.{flat_map-append}
use Rattle.run_replay.specs.declared.book.Stage.TheVariants as stages
use Rattle.run_replay.specs.declared.fault.JournalFault.{JournalFault}
use Rattle.run_replay.specs.declared.fault.JournalFault.TheVariants as faults
use Rattle.run_replay.specs.declared.fault.JournalRule.TheVariants as rules
use Rattle.run_replay.specs.Lines.{JournalLine, line_text, LineFits, Lacks, ended_line, journal_text}
use Rattle.run_replay.specs.Book.{Standing, start, may_stand, is_allowed, after, Leave, BreaksHere, FirstBreak}
use Rattle.run_replay.specs.Journal.{Passes, StepFault, IsWhole, FaultIs}
use Rattle.run_replay.proofs.SplitLemmas.{one_split, stands_there}
use Rattle.run_replay.proofs.LineLemmas.{text_lacks, same_line}
use Rattle.run_replay.proofs.WaitedLemmas.{Bounded, bounded_start, bounded_after}

-- a line with its end
ended : (line : JournalLine) (behind : List ℕ) → ended_line line ++ behind ≡ line_text line ++ 10 ∷ behind
ended line behind = append_assoc (line_text line) (10 ∷ []) behind

-- the line that stands first
first_line : (rest text behind other : List ℕ) (line : JournalLine) → LineFits line → rest ≡ text ++ 10 ∷ behind → Lacks 10 text → rest ≡ ended_line line ++ other → text ≡ line_text line
first_line rest text behind other line fits split lacks is =
    (one_split 10 text (line_text line) (10 ∷ behind) (10 ∷ other) lacks (text_lacks line fits) refl refl (sym split ∙ is ∙ ended line other)).0

-- where a byte stands, the journal isn't over
some_left : (rest : List ℕ) (s : Standing) → 0 < length rest → rest ≡ [] → s.stage ≢ stages.Ended
some_left rest s some none = λ over. omega (arith, some, ap length none)

pub no_end : (s : Standing) (rest : List ℕ) → 0 < length rest → Lacks 10 rest → BreaksHere s rest rules.BadLine
no_end s rest some lacks =
    ((λ line behind fits is. absurd (stands_there 10 (line_text line) behind (subst (λ (r : List ℕ). Lacks 10 r) (is ∙ ended line behind) lacks))), some_left rest s some)

pub no_form : (s : Standing) (rest text behind : List ℕ) → 0 < length rest → rest ≡ text ++ 10 ∷ behind → Lacks 10 text → ((l : JournalLine) → LineFits l → text ≢ line_text l) → BreaksHere s rest rules.BadLine
no_form s rest text behind some split lacks none =
    ((λ line other fits is. absurd (none line fits (first_line rest text behind other line fits split lacks is))), some_left rest s some)

pub no_place : (s : Standing) (rest text behind : List ℕ) (l : JournalLine) → 0 < length rest → rest ≡ text ++ 10 ∷ behind → Lacks 10 text → text ≡ line_text l → LineFits l → may_stand s l ≡ false → BreaksHere s rest rules.BadLine
no_place s rest text behind l some split lacks is_line fits refused = (
  (λ line other fits_too is.
      let same : l ≡ line = same_line l line fits fits_too (sym is_line ∙ first_line rest text behind other line fits_too split lacks is) in
      ap (may_stand s) (sym same) ∙ refused),
  some_left rest s some,
)

line_first : (rest text behind : List ℕ) (l : JournalLine) → rest ≡ text ++ 10 ∷ behind → text ≡ line_text l → rest ≡ ended_line l ++ behind
line_first rest text behind l split is_line = split ∙ ap (λ (t : List ℕ). t ++ 10 ∷ behind) is_line ∙ sym (ended l behind)

pub no_move : (s : Standing) (rest text behind : List ℕ) (l : JournalLine) → rest ≡ text ++ 10 ∷ behind → text ≡ line_text l → LineFits l → may_stand s l ≡ true → is_allowed s l ≡ false → BreaksHere s rest rules.BadMove
no_move s rest text behind l split is_line fits stands refused = (l, behind, fits, line_first rest text behind l split is_line, stands, refused)

pub passes : (old new : Standing) (rest text behind : List ℕ) (l : JournalLine) → rest ≡ text ++ 10 ∷ behind → text ≡ line_text l → LineFits l → may_stand old l ≡ true → is_allowed old l ≡ true → new ≡ after old l → Passes old new rest behind
passes old new rest text behind l split is_line fits stands allowed now =
    record { line = l; fits = fits; split = line_first rest text behind l split is_line; stands = stands; allowed = allowed; now = now }

-- the lines so far, and what is left
pub record ReadSoFar (bytes : List ℕ) (now : Standing) (number : ℕ) (rest : List ℕ) : Type 0 where
  pub lines : List JournalLine
  pub split : bytes ≡ journal_text lines ++ rest
  pub leave : Leave start lines now
  pub number_is : number ≡ length lines + 1
  pub within : number + length rest ≤ length bytes + 1
  pub bounded : Bounded number now

pub read_none : (bytes : List ℕ) (now : Standing) → now ≡ start → ReadSoFar bytes now 1 bytes
read_none bytes now is = record { lines = []; split = refl; leave = is; number_is = refl; within = omega arith; bounded = bounded_start now is }

leave_more : (s : Standing) (lines : List JournalLine) (now new : Standing) (l : JournalLine) → Leave s lines now → LineFits l → may_stand now l ≡ true → is_allowed now l ≡ true → new ≡ after now l → Leave s (lines ++ l ∷ []) new
leave_more s [] now new l leave fits stands allowed is =
    (fits, ap (λ (t : Standing). may_stand t l) (sym leave) ∙ stands, ap (λ (t : Standing). is_allowed t l) (sym leave) ∙ allowed, is ∙ ap (λ (t : Standing). after t l) leave)
leave_more s (m ∷ lines) now new l leave fits stands allowed is =
    (leave.0, leave.1, leave.2, leave_more (after s m) lines now new l leave.3 fits stands allowed is)

text_more : (lines : List JournalLine) (l : JournalLine) (behind : List ℕ) → journal_text lines ++ (ended_line l ++ behind) ≡ journal_text (lines ++ l ∷ []) ++ behind
text_more lines l behind =
    sym (append_assoc (journal_text lines) (ended_line l) behind)
    ∙ ap (λ (t : List ℕ). t ++ behind) (ap (λ (t : List ℕ). journal_text lines ++ t) (sym (append-nil (ended_line l))) ∙ sym (flat_map-append ended_line lines (l ∷ [])))

pub read_more : (bytes rest behind : List ℕ) (now new : Standing) (number : ℕ) → ReadSoFar bytes now number rest → Passes now new rest behind → ReadSoFar bytes new (number + 1) behind
read_more bytes rest behind now new number read p =
    let lengths : length rest ≡ length (line_text p.line) + 1 + length behind = ap length (p.split ∙ ended p.line behind) ∙ length-append (line_text p.line) (10 ∷ behind) ∙ omega arith in
    record {
      lines = read.lines ++ p.line ∷ [];
      split = read.split ∙ ap (λ (r : List ℕ). journal_text read.lines ++ r) p.split ∙ text_more read.lines p.line behind;
      leave = leave_more start read.lines now new p.line read.leave p.fits p.stands p.allowed p.now;
      number_is = omega (arith, read.number_is, length-append read.lines (p.line ∷ []));
      within = omega (arith, read.within, lengths);
      bounded = subst (λ (t : Standing). Bounded (number + 1) t) (sym p.now) (bounded_after number now p.line p.fits read.bounded);
    }

pub shorter : (rest behind : List ℕ) (now new : Standing) → Passes now new rest behind → length behind < length rest
shorter rest behind now new p =
    let lengths : length rest ≡ length (line_text p.line) + 1 + length behind = ap length (p.split ∙ ended p.line behind) ∙ length-append (line_text p.line) (10 ∷ behind) ∙ omega arith in
    omega arith

pub read_fault : (bytes rest : List ℕ) (now : Standing) (number : ℕ) (fault : JournalFault) → ReadSoFar bytes now number rest → StepFault now number rest fault → FaultIs bytes fault
read_fault bytes rest now number (faults.Broken line rule) read f =
    record { lines = read.lines; rest = rest; standing = now; split = read.split; before = read.leave; number_is = f.0 ∙ read.number_is; breaks = f.1 }
read_fault bytes rest now number faults.OutOfMemory read f = tt

pub cut_short : (bytes rest : List ℕ) (now : Standing) (number : ℕ) → ReadSoFar bytes now number rest → rest ≡ [] → (now.stage ≡ stages.Ended → ⊥) → FirstBreak bytes number rules.BadLine
cut_short bytes rest now number read none unended =
    record {
      lines = read.lines;
      rest = rest;
      standing = now;
      split = read.split;
      before = read.leave;
      number_is = read.number_is;
      breaks = ((λ line behind fits is. absurd (nothing_stands line behind (sym none ∙ is))), λ e. unended);
    }
  where
    nothing_stands : (line : JournalLine) (behind : List ℕ) → [] ≡ ended_line line ++ behind → ⊥
    nothing_stands line behind e =
        let lengths : 0 ≡ length (line_text line) + 1 + length behind = ap length (e ∙ ended line behind) ∙ length-append (line_text line) (10 ∷ behind) ∙ omega arith in
        omega arith

pub read_all : (bytes rest : List ℕ) (now : Standing) (number : ℕ) → ReadSoFar bytes now number rest → rest ≡ [] → now.stage ≡ stages.Ended → IsWhole bytes now
read_all bytes rest now number read none over =
    record { lines = read.lines; text = read.split ∙ ap (λ (r : List ℕ). journal_text read.lines ++ r) none ∙ append-nil (journal_text read.lines); leave = read.leave; ended = over }
