-- The words and numbers of lines.
use Rattle.std.proofs.Common.{◌≡◌, ◌≢◌, ℕ, ◌+◌, ◌*◌, true, List, [], ◌∷◌, ◌++◌, take, drop, get_or, ◌⊎◌, ⊎_elim, inl, inr, Option, Some, None, MatchOption, IfSome, refl, sym, ap, subst, ◌∙◌, arith, lit<}
use Rattle.std.specs.Prelude.{◌==◌, option_map, codes, if◌then◌else◌}
use Rattle.std.specs.Fmt.{decimal}
use Rattle.std.specs.List.{prefix_len}
use Rattle.std.proofs.lemmas.Bool.{cond-true, cond-false, le-ltb, le-leb, and_parts}
use Rattle.std.proofs.lemmas.Fmt.{decimal_digit}
use Rattle.std.proofs.lemmas.List.{take-append-drop}
use Rattle.run_replay.specs.declared.reader.ParsedLine.{ParsedLine}
use Rattle.run_replay.specs.declared.lock_move.LockMove.TheVariants as moves
use Rattle.run_replay.specs.declared.reader.JournalWord.{JournalWord}
use Rattle.run_replay.specs.declared.reader.JournalWord.TheVariants as keyword
use Rattle.run_replay.specs.declared.reader.Numbers.{Numbers}
use Rattle.run_replay.specs.declared.reader.Numbers.TheVariants as numbers
use Rattle.run_replay.specs.Lines.{JournalLine, Heading, Instance, Turn, End, Moved, line_text, LineFits, word_of, spelled, AreSmall, Ends, Lacks, is_not}
use Rattle.papy_base.specs.InstanceName.{is_instance_name, is_name_byte}
use Rattle.run_replay.specs.Reading.{seen, numbered_line}
use Rattle.run_replay.proofs.SplitLemmas.{one_split, cut_here, lacks_all, number_lacks, lacks_both}
use Rattle.run_replay.proofs.NumbersLemmas.{same_numbers}

-- the word of each line, and what stands behind it
abbrev keyword_in : JournalLine → JournalWord
keyword_in (Instance name) = keyword.Instance
keyword_in Heading = keyword.Journal
keyword_in (Turn turn) = keyword.Turn
keyword_in (End turns) = keyword.End
keyword_in (Moved (moves.Join k i)) = keyword.Join
keyword_in (Moved (moves.Take k i)) = keyword.Take
keyword_in (Moved (moves.Release k i)) = keyword.Release
keyword_in (Moved (moves.Free k)) = keyword.Free
keyword_in (Moved (moves.Leave k)) = keyword.Leave
keyword_in (Moved (moves.Sleep k until)) = keyword.Sleep
keyword_in (Moved (moves.Done k)) = keyword.Done
keyword_in (Moved (moves.Run k)) = keyword.Run
keyword_in (Moved moves.Idle) = keyword.Idle

abbrev numbers_in : JournalLine → Numbers
numbers_in (Instance name) = numbers.Nothing
numbers_in Heading = numbers.One 1
numbers_in (Turn turn) = numbers.One turn
numbers_in (End turns) = numbers.One turns
numbers_in (Moved (moves.Join k i)) = numbers.Two k i
numbers_in (Moved (moves.Take k i)) = numbers.Two k i
numbers_in (Moved (moves.Release k i)) = numbers.Two k i
numbers_in (Moved (moves.Free k)) = numbers.One k
numbers_in (Moved (moves.Leave k)) = numbers.One k
numbers_in (Moved (moves.Sleep k until)) = numbers.Two k until
numbers_in (Moved (moves.Done k)) = numbers.One k
numbers_in (Moved (moves.Run k)) = numbers.One k
numbers_in (Moved moves.Idle) = numbers.Nothing

abbrev arguments : JournalLine → List ℕ
arguments (Instance name) = 32 ∷ name
arguments Heading = spelled (numbers.One 1)
arguments (Turn turn) = spelled (numbers.One turn)
arguments (End turns) = spelled (numbers.One turns)
arguments (Moved (moves.Join k i)) = spelled (numbers.Two k i)
arguments (Moved (moves.Take k i)) = spelled (numbers.Two k i)
arguments (Moved (moves.Release k i)) = spelled (numbers.Two k i)
arguments (Moved (moves.Free k)) = spelled (numbers.One k)
arguments (Moved (moves.Leave k)) = spelled (numbers.One k)
arguments (Moved (moves.Sleep k until)) = spelled (numbers.Two k until)
arguments (Moved (moves.Done k)) = spelled (numbers.One k)
arguments (Moved (moves.Run k)) = spelled (numbers.One k)
arguments (Moved moves.Idle) = spelled numbers.Nothing

abbrev IsInstance : JournalLine → Type 0
IsInstance (Instance name) = Unit {0}
IsInstance Heading = ⊥
IsInstance (Turn turn) = ⊥
IsInstance (End turns) = ⊥
IsInstance (Moved (moves.Join k i)) = ⊥
IsInstance (Moved (moves.Take k i)) = ⊥
IsInstance (Moved (moves.Release k i)) = ⊥
IsInstance (Moved (moves.Free k)) = ⊥
IsInstance (Moved (moves.Leave k)) = ⊥
IsInstance (Moved (moves.Sleep k until)) = ⊥
IsInstance (Moved (moves.Done k)) = ⊥
IsInstance (Moved (moves.Run k)) = ⊥
IsInstance (Moved moves.Idle) = ⊥

one : decimal 1 ≡ 49 ∷ []
one = decimal_digit 1 (lit< tt)

text_is : (l : JournalLine) → line_text l ≡ word_of (keyword_in l) ++ arguments l
text_is (Instance name) = refl
text_is Heading = sym (ap (λ (ds : List ℕ). codes "journal" ++ 32 ∷ ds) one)
text_is (Turn turn) = refl
text_is (End turns) = refl
text_is (Moved (moves.Join k i)) = refl
text_is (Moved (moves.Take k i)) = refl
text_is (Moved (moves.Release k i)) = refl
text_is (Moved (moves.Free k)) = refl
text_is (Moved (moves.Leave k)) = refl
text_is (Moved (moves.Sleep k until)) = refl
text_is (Moved (moves.Done k)) = refl
text_is (Moved (moves.Run k)) = refl
text_is (Moved moves.Idle) = refl

behind_word : (l : JournalLine) → Ends 32 (arguments l)
behind_word (Instance name) = refl
behind_word Heading = refl
behind_word (Turn turn) = refl
behind_word (End turns) = refl
behind_word (Moved (moves.Join k i)) = refl
behind_word (Moved (moves.Take k i)) = refl
behind_word (Moved (moves.Release k i)) = refl
behind_word (Moved (moves.Free k)) = refl
behind_word (Moved (moves.Leave k)) = refl
behind_word (Moved (moves.Sleep k until)) = refl
behind_word (Moved (moves.Done k)) = refl
behind_word (Moved (moves.Run k)) = refl
behind_word (Moved moves.Idle) = tt

word_lacks : (k : JournalWord) → Lacks 32 (word_of k)
word_lacks keyword.Journal = lacks_all (is_not 32) 32 (word_of keyword.Journal) refl refl
word_lacks keyword.Instance = lacks_all (is_not 32) 32 (word_of keyword.Instance) refl refl
word_lacks keyword.Turn = lacks_all (is_not 32) 32 (word_of keyword.Turn) refl refl
word_lacks keyword.End = lacks_all (is_not 32) 32 (word_of keyword.End) refl refl
word_lacks keyword.Join = lacks_all (is_not 32) 32 (word_of keyword.Join) refl refl
word_lacks keyword.Take = lacks_all (is_not 32) 32 (word_of keyword.Take) refl refl
word_lacks keyword.Release = lacks_all (is_not 32) 32 (word_of keyword.Release) refl refl
word_lacks keyword.Free = lacks_all (is_not 32) 32 (word_of keyword.Free) refl refl
word_lacks keyword.Leave = lacks_all (is_not 32) 32 (word_of keyword.Leave) refl refl
word_lacks keyword.Sleep = lacks_all (is_not 32) 32 (word_of keyword.Sleep) refl refl
word_lacks keyword.Done = lacks_all (is_not 32) 32 (word_of keyword.Done) refl refl
word_lacks keyword.Run = lacks_all (is_not 32) 32 (word_of keyword.Run) refl refl
word_lacks keyword.Idle = lacks_all (is_not 32) 32 (word_of keyword.Idle) refl refl

-- a word of this length, first and third letter
abbrev word_number : List ℕ → ℕ
word_number word = get_or word 0 0 * 1000000 + get_or word 1 0 * 1000 + get_or word 2 0

abbrev keyword_number : JournalWord → ℕ
keyword_number keyword.Journal = 106111117
keyword_number keyword.Instance = 105110115
keyword_number keyword.Turn = 116117114
keyword_number keyword.End = 101110100
keyword_number keyword.Join = 106111105
keyword_number keyword.Take = 116097107
keyword_number keyword.Release = 114101108
keyword_number keyword.Free = 102114101
keyword_number keyword.Leave = 108101097
keyword_number keyword.Sleep = 115108101
keyword_number keyword.Done = 100111110
keyword_number keyword.Run = 114117110
keyword_number keyword.Idle = 105100108

number_is : (k : JournalWord) → word_number (word_of k) ≡ keyword_number k
number_is keyword.Journal = refl
number_is keyword.Instance = refl
number_is keyword.Turn = refl
number_is keyword.End = refl
number_is keyword.Join = refl
number_is keyword.Take = refl
number_is keyword.Release = refl
number_is keyword.Free = refl
number_is keyword.Leave = refl
number_is keyword.Sleep = refl
number_is keyword.Done = refl
number_is keyword.Run = refl
number_is keyword.Idle = refl

-- a keyword of each number
abbrev keyword_back : ℕ → JournalWord
keyword_back n =
    if n == 106111117 then keyword.Journal
    else (if n == 105110115 then keyword.Instance
    else (if n == 116117114 then keyword.Turn
    else (if n == 101110100 then keyword.End
    else (if n == 106111105 then keyword.Join
    else (if n == 116097107 then keyword.Take
    else (if n == 114101108 then keyword.Release
    else (if n == 102114101 then keyword.Free
    else (if n == 108101097 then keyword.Leave
    else (if n == 115108101 then keyword.Sleep
    else (if n == 100111110 then keyword.Done
    else (if n == 114117110 then keyword.Run
    else keyword.Idle)))))))))))

back : (k : JournalWord) → keyword_back (keyword_number k) ≡ k
back keyword.Journal = refl
back keyword.Instance = refl
back keyword.Turn = refl
back keyword.End = refl
back keyword.Join = refl
back keyword.Take = refl
back keyword.Release = refl
back keyword.Free = refl
back keyword.Leave = refl
back keyword.Sleep = refl
back keyword.Done = refl
back keyword.Run = refl
back keyword.Idle = refl

same_keyword : (j k : JournalWord) → word_of j ≡ word_of k → j ≡ k
same_keyword j k e =
    let number : keyword_number j ≡ keyword_number k = sym (number_is j) ∙ ap word_number e ∙ number_is k in
    sym (back j) ∙ ap keyword_back number ∙ back k

-- a line that a text is has its word and what stands behind it
record Parts (word rest : List ℕ) (l : JournalLine) : Type 0 where
  word_is : word ≡ word_of (keyword_in l)
  rest_is : rest ≡ arguments l

parts : (text word rest : List ℕ) (len : ℕ) (l : JournalLine) → len ≡ prefix_len (is_not 32) text → word ≡ take len text → rest ≡ drop len text → text ≡ line_text l → Parts word rest l
parts text word rest len l run front back is =
    let n = prefix_len (is_not 32) text in
    let cut = cut_here 32 text in
    let split = one_split 32 (take n text) (word_of (keyword_in l)) (drop n text) (arguments l) cut.lacks (word_lacks (keyword_in l)) cut.ends (behind_word l) (take-append-drop n text ∙ is ∙ text_is l) in
    record {
      word_is = front ∙ ap (λ (k : ℕ). take k text) run ∙ split.0;
      rest_is = back ∙ ap (λ (k : ℕ). drop k text) run ∙ split.1;
    }

are_small : (l : JournalLine) → LineFits l → AreSmall (numbers_in l)
are_small (Instance name) fits = tt
are_small Heading fits = lit< tt
are_small (Turn turn) fits = omega arith
are_small (End turns) fits = omega arith
are_small (Moved (moves.Join k i)) fits = (omega (arith, fits.0), omega (arith, fits.1))
are_small (Moved (moves.Take k i)) fits = (omega (arith, fits.0), omega (arith, fits.1))
are_small (Moved (moves.Release k i)) fits = (omega (arith, fits.0), omega (arith, fits.1))
are_small (Moved (moves.Free k)) fits = omega arith
are_small (Moved (moves.Leave k)) fits = omega arith
are_small (Moved (moves.Sleep k until)) fits = (omega (arith, fits.0), omega (arith, fits.1))
are_small (Moved (moves.Done k)) fits = omega arith
are_small (Moved (moves.Run k)) fits = omega arith
are_small (Moved moves.Idle) fits = tt

-- a line that fits is that of its word and numbers
line_again : (l : JournalLine) → LineFits l → (IsInstance l → ⊥) → numbered_line (keyword_in l) (numbers_in l) ≡ Some l
line_again (Instance name) fits other = absurd (other tt)
line_again Heading fits other = refl
line_again (Turn turn) fits other = cond-true _ _ _ (le-leb turn 1000000 (omega arith))
line_again (End turns) fits other = cond-true _ _ _ (le-leb turns 1000000 (omega arith))
line_again (Moved (moves.Join k i)) fits other = cond-false _ _ _ (le-ltb 1023 k (omega (arith, fits.0))) ∙ cond-true _ _ _ (le-leb i 255 (omega (arith, fits.1)))
line_again (Moved (moves.Take k i)) fits other = cond-false _ _ _ (le-ltb 1023 k (omega (arith, fits.0))) ∙ cond-true _ _ _ (le-leb i 255 (omega (arith, fits.1)))
line_again (Moved (moves.Release k i)) fits other = cond-false _ _ _ (le-ltb 1023 k (omega (arith, fits.0))) ∙ cond-true _ _ _ (le-leb i 255 (omega (arith, fits.1)))
line_again (Moved (moves.Free k)) fits other = cond-true _ _ _ (le-leb k 1023 (omega arith))
line_again (Moved (moves.Leave k)) fits other = cond-true _ _ _ (le-leb k 1023 (omega arith))
line_again (Moved (moves.Sleep k until)) fits other = cond-false _ _ _ (le-ltb 1023 k (omega (arith, fits.0)))
line_again (Moved (moves.Done k)) fits other = cond-true _ _ _ (le-leb k 1023 (omega arith))
line_again (Moved (moves.Run k)) fits other = cond-true _ _ _ (le-leb k 1023 (omega arith))
line_again (Moved moves.Idle) fits other = refl

-- what has another word is no instance
not_instance : (l : JournalLine) → (keyword_in l ≡ keyword.Instance → ⊥) → IsInstance l → ⊥
not_instance (Instance name) other is = other refl
not_instance Heading other is = is
not_instance (Turn turn) other is = is
not_instance (End turns) other is = is
not_instance (Moved (moves.Join k i)) other is = is
not_instance (Moved (moves.Take k i)) other is = is
not_instance (Moved (moves.Release k i)) other is = is
not_instance (Moved (moves.Free k)) other is = is
not_instance (Moved (moves.Leave k)) other is = is
not_instance (Moved (moves.Sleep k until)) other is = is
not_instance (Moved (moves.Done k)) other is = is
not_instance (Moved (moves.Run k)) other is = is
not_instance (Moved moves.Idle) other is = is

plain_arguments : (l : JournalLine) → (IsInstance l → ⊥) → arguments l ≡ spelled (numbers_in l)
plain_arguments (Instance name) other = absurd (other tt)
plain_arguments Heading other = refl
plain_arguments (Turn turn) other = refl
plain_arguments (End turns) other = refl
plain_arguments (Moved (moves.Join k i)) other = refl
plain_arguments (Moved (moves.Take k i)) other = refl
plain_arguments (Moved (moves.Release k i)) other = refl
plain_arguments (Moved (moves.Free k)) other = refl
plain_arguments (Moved (moves.Leave k)) other = refl
plain_arguments (Moved (moves.Sleep k until)) other = refl
plain_arguments (Moved (moves.Done k)) other = refl
plain_arguments (Moved (moves.Run k)) other = refl
plain_arguments (Moved moves.Idle) other = refl

-- no line stands where no word does
pub no_word : (text word rest : List ℕ) (len : ℕ) → len ≡ prefix_len (is_not 32) text → word ≡ take len text → rest ≡ drop len text → ((k : JournalWord) → word ≢ word_of k) → (l : JournalLine) → LineFits l → text ≢ line_text l
no_word text word rest len run front back none l fits is = none (keyword_in l) (parts text word rest len l run front back is).word_is

no_name_in : (l : JournalLine) (rest : List ℕ) → keyword_in l ≡ keyword.Instance → LineFits l → rest ≡ arguments l → ((name : List ℕ) → is_instance_name name ≡ true → rest ≢ 32 ∷ name) → ⊥
no_name_in (Instance name) rest same fits is none = none name fits is
no_name_in Heading rest same fits is none = absurd (cc)
no_name_in (Turn turn) rest same fits is none = absurd (cc)
no_name_in (End turns) rest same fits is none = absurd (cc)
no_name_in (Moved (moves.Join k i)) rest same fits is none = absurd (cc)
no_name_in (Moved (moves.Take k i)) rest same fits is none = absurd (cc)
no_name_in (Moved (moves.Release k i)) rest same fits is none = absurd (cc)
no_name_in (Moved (moves.Free k)) rest same fits is none = absurd (cc)
no_name_in (Moved (moves.Leave k)) rest same fits is none = absurd (cc)
no_name_in (Moved (moves.Sleep k until)) rest same fits is none = absurd (cc)
no_name_in (Moved (moves.Done k)) rest same fits is none = absurd (cc)
no_name_in (Moved (moves.Run k)) rest same fits is none = absurd (cc)
no_name_in (Moved moves.Idle) rest same fits is none = absurd (cc)

pub no_name : (text word rest : List ℕ) (len : ℕ) → len ≡ prefix_len (is_not 32) text → word ≡ take len text → rest ≡ drop len text → word ≡ word_of keyword.Instance → ((name : List ℕ) → is_instance_name name ≡ true → rest ≢ 32 ∷ name) → (l : JournalLine) → LineFits l → text ≢ line_text l
no_name text word rest len run front back here none l fits is =
    let p = parts text word rest len l run front back is in
    no_name_in l rest (same_keyword (keyword_in l) keyword.Instance (sym p.word_is ∙ here)) fits p.rest_is none

pub no_numbers : (text word rest : List ℕ) (len : ℕ) (k : JournalWord) → len ≡ prefix_len (is_not 32) text → word ≡ take len text → rest ≡ drop len text → word ≡ word_of k → (k ≡ keyword.Instance → ⊥) → ((ns : Numbers) → AreSmall ns → rest ≢ spelled ns) → (l : JournalLine) → LineFits l → text ≢ line_text l
no_numbers text word rest len k run front back here other none l fits is =
    let p = parts text word rest len l run front back is in
    let same = same_keyword (keyword_in l) k (sym p.word_is ∙ here) in
    let plain = not_instance l (λ e. other (sym same ∙ e)) in
    none (numbers_in l) (are_small l fits) (p.rest_is ∙ plain_arguments l plain)

-- where no line is of the word and numbers, none stands
pub no_line : (text word rest : List ℕ) (len : ℕ) (k : JournalWord) (ns : Numbers) → len ≡ prefix_len (is_not 32) text → word ≡ take len text → rest ≡ drop len text → word ≡ word_of k → (k ≡ keyword.Instance → ⊥) → rest ≡ spelled ns → AreSmall ns → numbered_line k ns ≡ None → (l : JournalLine) → LineFits l → text ≢ line_text l
no_line text word rest len k ns run front back here other spells small none l fits is =
    let p = parts text word rest len l run front back is in
    let same = same_keyword (keyword_in l) k (sym p.word_is ∙ here) in
    let plain = not_instance l (λ e. other (sym same ∙ e)) in
    let numbers_are : numbers_in l ≡ ns = same_numbers (numbers_in l) ns (are_small l fits) small (sym (plain_arguments l plain) ∙ sym p.rest_is ∙ spells) in
    let again : numbered_line (keyword_in l) (numbers_in l) ≡ Some l = line_again l fits plain in
    let there : numbered_line k ns ≡ Some l = ap (λ (j : JournalWord). numbered_line j ns) (sym same) ∙ ap (λ (m : Numbers). numbered_line (keyword_in l) m) (sym numbers_are) ∙ again in
    let clash : None ≡ Some l = sym none ∙ there in
    absurd (cc)

pub heading_is : line_text Heading ≡ word_of keyword.Journal ++ spelled (numbers.One 1)
heading_is = text_is Heading

pub whole : (text word rest behind : List ℕ) (len : ℕ) (k : JournalWord) → word ≡ take len text → rest ≡ drop len text → word ≡ word_of k → rest ≡ behind → text ≡ word_of k ++ behind
whole text word rest behind len k front back here there =
    sym (take-append-drop len text) ∙ ap (λ (w : List ℕ). w ++ drop len text) (sym front ∙ here) ∙ ap (λ (r : List ℕ). word_of k ++ r) (sym back ∙ there)

-- what a word and numbers are read as
pub line_is : (text word rest : List ℕ) (len : ℕ) (k : JournalWord) (ns : Numbers) (r : Option ParsedLine) → len ≡ prefix_len (is_not 32) text → word ≡ take len text → rest ≡ drop len text → word ≡ word_of k → (k ≡ keyword.Instance → ⊥) → rest ≡ spelled ns → AreSmall ns
    → option_map seen r ≡ numbered_line k ns → IfSome r (λ l. LineFits (seen l) × (line_text (seen l) ≡ word_of k ++ spelled ns))
    → MatchOption r ((l : JournalLine) → LineFits l → text ≢ line_text l) (λ l. (text ≡ line_text (seen l)) × LineFits (seen l))
line_is text word rest len k ns None run front back here other spells small known read = no_line text word rest len k ns run front back here other spells small (sym known)
line_is text word rest len k ns (Some l) run front back here other spells small known read = (whole text word rest (spelled ns) len k front back here spells ∙ sym read.1, read.0)

word_in_line : (k : JournalWord) → Lacks 10 (word_of k)
word_in_line keyword.Journal = lacks_all (is_not 10) 10 (word_of keyword.Journal) refl refl
word_in_line keyword.Instance = lacks_all (is_not 10) 10 (word_of keyword.Instance) refl refl
word_in_line keyword.Turn = lacks_all (is_not 10) 10 (word_of keyword.Turn) refl refl
word_in_line keyword.End = lacks_all (is_not 10) 10 (word_of keyword.End) refl refl
word_in_line keyword.Join = lacks_all (is_not 10) 10 (word_of keyword.Join) refl refl
word_in_line keyword.Take = lacks_all (is_not 10) 10 (word_of keyword.Take) refl refl
word_in_line keyword.Release = lacks_all (is_not 10) 10 (word_of keyword.Release) refl refl
word_in_line keyword.Free = lacks_all (is_not 10) 10 (word_of keyword.Free) refl refl
word_in_line keyword.Leave = lacks_all (is_not 10) 10 (word_of keyword.Leave) refl refl
word_in_line keyword.Sleep = lacks_all (is_not 10) 10 (word_of keyword.Sleep) refl refl
word_in_line keyword.Done = lacks_all (is_not 10) 10 (word_of keyword.Done) refl refl
word_in_line keyword.Run = lacks_all (is_not 10) 10 (word_of keyword.Run) refl refl
word_in_line keyword.Idle = lacks_all (is_not 10) 10 (word_of keyword.Idle) refl refl

blank : ◌≡◌ {A = ℕ} 32 10 → ⊥
blank e = absurd (omega arith)

spelled_lacks : (ns : Numbers) → AreSmall ns → Lacks 10 (spelled ns)
spelled_lacks numbers.Nothing small = tt
spelled_lacks (numbers.One n) small = (blank, number_lacks 10 n refl small)
spelled_lacks (numbers.Two m n) small = (blank, lacks_both 10 (decimal m) (32 ∷ decimal n) (number_lacks 10 m refl small.0) (blank, number_lacks 10 n refl small.1))

arguments_lack : (l : JournalLine) → LineFits l → Lacks 10 (arguments l)
arguments_lack (Instance name) fits = (blank, lacks_all is_name_byte 10 name refl (and_parts _ _ (and_parts _ _ fits).1).1)
arguments_lack Heading fits = spelled_lacks (numbers.One 1) (are_small Heading fits)
arguments_lack (Turn turn) fits = spelled_lacks (numbers.One turn) (are_small (Turn turn) fits)
arguments_lack (End turns) fits = spelled_lacks (numbers.One turns) (are_small (End turns) fits)
arguments_lack (Moved (moves.Join k i)) fits = spelled_lacks (numbers.Two k i) (are_small (Moved (moves.Join k i)) fits)
arguments_lack (Moved (moves.Take k i)) fits = spelled_lacks (numbers.Two k i) (are_small (Moved (moves.Take k i)) fits)
arguments_lack (Moved (moves.Release k i)) fits = spelled_lacks (numbers.Two k i) (are_small (Moved (moves.Release k i)) fits)
arguments_lack (Moved (moves.Free k)) fits = spelled_lacks (numbers.One k) (are_small (Moved (moves.Free k)) fits)
arguments_lack (Moved (moves.Leave k)) fits = spelled_lacks (numbers.One k) (are_small (Moved (moves.Leave k)) fits)
arguments_lack (Moved (moves.Sleep k until)) fits = spelled_lacks (numbers.Two k until) (are_small (Moved (moves.Sleep k until)) fits)
arguments_lack (Moved (moves.Done k)) fits = spelled_lacks (numbers.One k) (are_small (Moved (moves.Done k)) fits)
arguments_lack (Moved (moves.Run k)) fits = spelled_lacks (numbers.One k) (are_small (Moved (moves.Run k)) fits)
arguments_lack (Moved moves.Idle) fits = spelled_lacks numbers.Nothing (are_small (Moved moves.Idle) fits)

-- a line holds no line end
pub text_lacks : (l : JournalLine) → LineFits l → Lacks 10 (line_text l)
text_lacks l fits = subst (λ (t : List ℕ). Lacks 10 t) (sym (text_is l)) (lacks_both 10 (word_of (keyword_in l)) (arguments l) (word_in_line (keyword_in l)) (arguments_lack l fits))

instance_or_not : (l : JournalLine) → IsInstance l ⊎ (IsInstance l → ⊥)
instance_or_not (Instance name) = inl tt
instance_or_not Heading = inr (λ e. e)
instance_or_not (Turn turn) = inr (λ e. e)
instance_or_not (End turns) = inr (λ e. e)
instance_or_not (Moved (moves.Join k i)) = inr (λ e. e)
instance_or_not (Moved (moves.Take k i)) = inr (λ e. e)
instance_or_not (Moved (moves.Release k i)) = inr (λ e. e)
instance_or_not (Moved (moves.Free k)) = inr (λ e. e)
instance_or_not (Moved (moves.Leave k)) = inr (λ e. e)
instance_or_not (Moved (moves.Sleep k until)) = inr (λ e. e)
instance_or_not (Moved (moves.Done k)) = inr (λ e. e)
instance_or_not (Moved (moves.Run k)) = inr (λ e. e)
instance_or_not (Moved moves.Idle) = inr (λ e. e)

same_instance : (l m : JournalLine) → IsInstance l → keyword_in l ≡ keyword_in m → arguments l ≡ arguments m → l ≡ m
same_instance (Instance name) (Instance other) is same args = let names : name ≡ other = cc in ap (λ (n : List ℕ). Instance n) names
same_instance (Instance name) Heading is same args = absurd (cc)
same_instance (Instance name) (Turn turn) is same args = absurd (cc)
same_instance (Instance name) (End turns) is same args = absurd (cc)
same_instance (Instance name) (Moved (moves.Join k i)) is same args = absurd (cc)
same_instance (Instance name) (Moved (moves.Take k i)) is same args = absurd (cc)
same_instance (Instance name) (Moved (moves.Release k i)) is same args = absurd (cc)
same_instance (Instance name) (Moved (moves.Free k)) is same args = absurd (cc)
same_instance (Instance name) (Moved (moves.Leave k)) is same args = absurd (cc)
same_instance (Instance name) (Moved (moves.Sleep k until)) is same args = absurd (cc)
same_instance (Instance name) (Moved (moves.Done k)) is same args = absurd (cc)
same_instance (Instance name) (Moved (moves.Run k)) is same args = absurd (cc)
same_instance (Instance name) (Moved moves.Idle) is same args = absurd (cc)
same_instance Heading m is same args = absurd is
same_instance (Turn turn) m is same args = absurd is
same_instance (End turns) m is same args = absurd is
same_instance (Moved (moves.Join k i)) m is same args = absurd is
same_instance (Moved (moves.Take k i)) m is same args = absurd is
same_instance (Moved (moves.Release k i)) m is same args = absurd is
same_instance (Moved (moves.Free k)) m is same args = absurd is
same_instance (Moved (moves.Leave k)) m is same args = absurd is
same_instance (Moved (moves.Sleep k until)) m is same args = absurd is
same_instance (Moved (moves.Done k)) m is same args = absurd is
same_instance (Moved (moves.Run k)) m is same args = absurd is
same_instance (Moved moves.Idle) m is same args = absurd is

instance_too : (l m : JournalLine) → keyword_in l ≡ keyword_in m → IsInstance m → keyword_in l ≡ keyword.Instance
instance_too l (Instance name) same is = same
instance_too l Heading same is = absurd is
instance_too l (Turn turn) same is = absurd is
instance_too l (End turns) same is = absurd is
instance_too l (Moved (moves.Join k i)) same is = absurd is
instance_too l (Moved (moves.Take k i)) same is = absurd is
instance_too l (Moved (moves.Release k i)) same is = absurd is
instance_too l (Moved (moves.Free k)) same is = absurd is
instance_too l (Moved (moves.Leave k)) same is = absurd is
instance_too l (Moved (moves.Sleep k until)) same is = absurd is
instance_too l (Moved (moves.Done k)) same is = absurd is
instance_too l (Moved (moves.Run k)) same is = absurd is
instance_too l (Moved moves.Idle) same is = absurd is

-- a text is one line
pub same_line : (l m : JournalLine) → LineFits l → LineFits m → line_text l ≡ line_text m → l ≡ m
same_line l m fits_l fits_m e =
    let both : word_of (keyword_in l) ++ arguments l ≡ word_of (keyword_in m) ++ arguments m = sym (text_is l) ∙ e ∙ text_is m in
    let split = one_split 32 (word_of (keyword_in l)) (word_of (keyword_in m)) (arguments l) (arguments m) (word_lacks (keyword_in l)) (word_lacks (keyword_in m)) (behind_word l) (behind_word m) both in
    let same = same_keyword (keyword_in l) (keyword_in m) split.0 in
    ⊎_elim (λ (is : IsInstance l). same_instance l m is same split.1)
    (λ (other : IsInstance l → ⊥). by_numbers l m fits_l fits_m other (λ is. not_instance_back l other (instance_too l m same is)) same split.1)
    (instance_or_not l)
  where
    not_instance_back : (l : JournalLine) → (IsInstance l → ⊥) → keyword_in l ≡ keyword.Instance → ⊥
    not_instance_back (Instance name) other e = other tt
    not_instance_back Heading other e = absurd (cc)
    not_instance_back (Turn turn) other e = absurd (cc)
    not_instance_back (End turns) other e = absurd (cc)
    not_instance_back (Moved (moves.Join k i)) other e = absurd (cc)
    not_instance_back (Moved (moves.Take k i)) other e = absurd (cc)
    not_instance_back (Moved (moves.Release k i)) other e = absurd (cc)
    not_instance_back (Moved (moves.Free k)) other e = absurd (cc)
    not_instance_back (Moved (moves.Leave k)) other e = absurd (cc)
    not_instance_back (Moved (moves.Sleep k until)) other e = absurd (cc)
    not_instance_back (Moved (moves.Done k)) other e = absurd (cc)
    not_instance_back (Moved (moves.Run k)) other e = absurd (cc)
    not_instance_back (Moved moves.Idle) other e = absurd (cc)

    by_numbers : (l m : JournalLine) → LineFits l → LineFits m → (IsInstance l → ⊥) → (IsInstance m → ⊥) → keyword_in l ≡ keyword_in m → arguments l ≡ arguments m → l ≡ m
    by_numbers l m fits_l fits_m other_l other_m same args =
        let spells : spelled (numbers_in l) ≡ spelled (numbers_in m) = sym (plain_arguments l other_l) ∙ args ∙ plain_arguments m other_m in
        let ns : numbers_in l ≡ numbers_in m = same_numbers (numbers_in l) (numbers_in m) (are_small l fits_l) (are_small m fits_m) spells in
        let found : Some l ≡ Some m = sym (line_again l fits_l other_l) ∙ ap (λ (k : JournalWord). numbered_line k (numbers_in l)) same ∙ ap (λ (n : Numbers). numbered_line (keyword_in m) n) ns ∙ line_again m fits_m other_m in
        cc
