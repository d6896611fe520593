-- What the decoder's steps show of a file.
use Rattle.std.specs.Prelude.{true, false, min, nat_le, ◌⊎◌, Result, Ok, Err}
use Rattle.std.proofs.lemmas.Bool.Decides.{leb_tells}
use Rattle.std.proofs.Common.{inl, inr, ◌≡◌, ℕ, ◌+◌, ◌-◌, ◌<◌, ◌≤◌, List, [], ◌∷◌, ◌++◌, length, get_or, take, drop, refl, sym, ap, subst, ◌∙◌, append_assoc, length-append, length-drop, arith}
use Rattle.std.proofs.lemmas.List.{append-nil, take-append-drop, take-append-le, drop-append-le, drop-drop, take-take, length-take-le}
use Rattle.std.proofs.Math.Seq.{take-append-add, take-length}
use Rattle.papy_base.specs.declared.faults.Fault.{Fault}
use Rattle.papy_base.specs.declared.faults.Fault.TheVariants as fault
use Rattle.pex_values.specs.Fit.{limit}
use Rattle.pex_values.specs.declared.values.Pex.{Pex}
use Rattle.pex_values.specs.Plain.{PlainPex, plain}
use Rattle.pex_codec.specs.declared.cursor.Cursor.{Cursor}
use Rattle.pex_codec.specs.declared.cursor.Stop.{Stop}
use Rattle.pex_codec.specs.declared.cursor.Stop.TheVariants as stop
use Rattle.pex_codec.specs.declared.faults.PexFault.{PexFault}
use Rattle.pex_codec.specs.declared.faults.PexFault.TheVariants.{Broken}
use Rattle.pex_codec.specs.declared.faults.PexRule.{PexRule}
use Rattle.pex_codec.specs.declared.faults.PexRule.TheVariants.{BadMagic, BadVersion, BadGame, BadDebugFlag, BadKind, BadOpcode, BadCount, BadIndex, BadSize, Truncated, Trailing, TooLarge}
use Rattle.pex_codec.specs.declared.decoder.Standing.{Standing}
use Rattle.pex_codec.specs.declared.decoder.Standing.TheVariants as standing
use Rattle.pex_codec.specs.declared.scan.Scan.{Scan}
use Rattle.pex_codec.specs.declared.decoder.ScannedBytes.{ScannedBytes}
use Rattle.pex_codec.specs.Decoding.{Breaks, EndFrom, EndGives, FinishFrom, FinishGives, IsSpelling, IsUnfinished, Progress, reading}
use Rattle.pex_codec.specs.DecoderState.{ends, Follows, IsOpen, HasEnded, GoesOver, StandsAs, TakesAll, TakesEnd, BreaksPiece}
use Rattle.pex_codec.specs.Laws.{AreBytes}
use Rattle.pex_codec.specs.Opening.{Moved, whole_file}
use Rattle.pex_codec.specs.Reading.{Reading, Got, Short, Refused, read_as, number_at, bytes_at, heading_at, pex_at}
use Rattle.pex_codec.specs.Scanning.{tasks_at}
use Rattle.pex_codec.specs.Scans.{left_at, stack_of, Finishes, Waits, ScansOn}
use Rattle.pex_codec.specs.Spells.{Spells}
use Rattle.pex_codec.proofs.Exact.{byte_below, front_bytes, bytes_below, short_got, same_got}
use Rattle.pex_codec.proofs.ExactReading.{got_reading}
use Rattle.pex_codec.proofs.FieldRules.{ByField, IsOfField, pex_by_field}
use Rattle.pex_codec.proofs.Found.{Found, found, found_whole, take_all}
use Rattle.pex_codec.proofs.Opens.{pex_opens}

-- ---- what the end of a reading tells of it

short_of : (r : Reading PlainPex) → ends r ≡ Short → r ≡ Short
short_of (Got v at rest) e = absurd cc
short_of Short e = refl
short_of (Refused offset rule) e = absurd cc

refused_of : (r : Reading PlainPex) (offset : ℕ) (rule : PexRule) → ends r ≡ Refused offset rule → r ≡ Refused offset rule
refused_of (Got v at rest) offset rule e = absurd cc
refused_of Short offset rule e = absurd cc
refused_of (Refused o broken) offset rule e = cc

by_order : (low end : ℕ) → ((nat_le low end ≡ true) × (low ≤ end)) ⊎ ((nat_le low end ≡ false) × (end < low)) → (end ≤ low → ⊥) → low ≤ end
by_order low end (inl p) not = p.1
by_order low end (inr p) not = absurd (not (omega (arith, p.1)))

not_before : (low end : ℕ) → (end ≤ low → ⊥) → low ≤ end
not_before low end not = by_order low end (leb_tells low end) not

-- ---- an open item

read_so_far : (t : ScannedBytes) → Follows t → ends (pex_at 0 t.bytes.items) ≡ left_at t.scan t.open (drop t.open t.bytes.items)
read_so_far t f =
    ap (λ (b : List ℕ). ends (pex_at 0 b)) (sym (append-nil t.bytes.items))
    ∙ (f.same [] ∙ ap (λ (b : List ℕ). left_at t.scan t.open b) (append-nil (drop t.open t.bytes.items)))

is_short : (t : ScannedBytes) → IsOpen t → pex_at 0 t.bytes.items ≡ Short
is_short t o = short_of (pex_at 0 t.bytes.items) (read_so_far t o.follows ∙ o.short)

pub is_unfinished : (t : ScannedBytes) → IsOpen t → IsUnfinished t.bytes.items
is_unfinished t o = ap (pex_at 0) (take_all t.bytes.items o.follows.fits) ∙ is_short t o

nothing : ends (pex_at 0 []) ≡ Short
unfolding pex_at heading_at number_at bytes_at
nothing = refl

-- a new decoder
pub opens_whole : (t : ScannedBytes) → t.bytes.items ≡ [] → t.open ≡ 0 → stack_of t.scan ≡ whole_file → t.scan.strings ≡ 0 → IsOpen t
opens_whole t none first tasks strings =
    let at_first : (x : List ℕ) → ends (pex_at 0 x) ≡ left_at t.scan 0 x = λ x. pex_opens 0 x ∙ rw (tasks, strings) refl in
    let same : (x : List ℕ) → ends (pex_at 0 (t.bytes.items ++ x)) ≡ left_at t.scan t.open (drop t.open t.bytes.items ++ x) = λ x. rw (none, first) (at_first x) in
    let empty : left_at t.scan t.open (drop t.open t.bytes.items) ≡ Short = rw (none, first) (sym (at_first []) ∙ nothing) in
    record { follows = record { within = omega (arith, first); fits = rw none (omega arith); each = rw none tt; same = same }; short = empty }

both_bytes : (x y : List ℕ) → AreBytes x → AreBytes y → AreBytes (x ++ y)
both_bytes [] y h k = k
both_bytes (b ∷ x) y h k = (h.0, both_bytes x y h.1 k)

-- a piece behind
pub extended : (old new : ScannedBytes) (piece : List ℕ) → IsOpen old → new.bytes.items ≡ old.bytes.items ++ piece → new.open ≡ old.open → new.scan ≡ old.scan → length new.bytes.items ≤ limit → AreBytes piece → Follows new
extended old new piece o bytes first scan fits each =
    let f = o.follows in
    let long : length new.bytes.items ≡ length old.bytes.items + length piece = ap (λ (b : List ℕ). length b) bytes ∙ length-append old.bytes.items piece in
    let same : (x : List ℕ) → ends (pex_at 0 (new.bytes.items ++ x)) ≡ left_at new.scan new.open (drop new.open new.bytes.items ++ x) =
    λ x. rw (bytes, first, scan, append_assoc old.bytes.items piece x, drop-append-le old.open old.bytes.items piece f.within, append_assoc (drop old.open old.bytes.items) piece x) (f.same (piece ++ x)) in
    record { within = omega (arith, f.within, first, long); fits = fits; each = rw bytes (both_bytes old.bytes.items piece f.each each); same = same }

-- ---- going over the bytes

behind : (t : ScannedBytes) (to : ℕ) (rest : List ℕ) → t.open ≤ length t.bytes.items → Moved 0 t.open (drop t.open t.bytes.items) to rest → rest ≡ drop to t.bytes.items
behind t to rest within m =
    m.rest ∙ (drop-drop m.count t.open t.bytes.items ∙ ap (λ (n : ℕ). drop n t.bytes.items) (sym m.at))

within_bytes : (t : ScannedBytes) (to : ℕ) (rest : List ℕ) → t.open ≤ length t.bytes.items → Moved 0 t.open (drop t.open t.bytes.items) to rest → to ≤ length t.bytes.items
within_bytes t to rest within m = omega (arith, within, m.at, m.within, length-drop t.open t.bytes.items)

-- what stands where the scan begins
pub record Begins (t : ScannedBytes) (from : Cursor) : Type 0 where
  pub at : from.at ≡ t.open
  pub rest : from.rest.now ≡ drop t.open t.bytes.items

pub goes_to_end : (old new : ScannedBytes) (from to : Cursor) → Follows old → Begins old from → Finishes old.scan new.scan from to → new.bytes ≡ old.bytes → new.open ≡ to.at → HasEnded new
goes_to_end old new from to f b done bytes stands =
    let done' : left_at old.scan old.open (drop old.open old.bytes.items) ≡ Got new.scan.strings to.at to.rest.now = rw (sym b.rest, sym b.at) done.done in
    let moved : Moved 0 old.open (drop old.open old.bytes.items) to.at to.rest.now = rw (sym b.rest, sym b.at) done.moved in
    record {
      strings = new.scan.strings;
      rest = to.rest.now;
      ended = rw (bytes, stands) (read_so_far old f ∙ done');
      within = rw (bytes, stands) (within_bytes old to.at to.rest.now f.within moved);
      each = rw bytes f.each;
    }

pub goes_to_item : (old new : ScannedBytes) (from to : Cursor) → Follows old → Begins old from → Waits old.scan new.scan from to → new.bytes ≡ old.bytes → new.open ≡ to.at → IsOpen new
goes_to_item old new from to f b waits bytes stands =
    let moved : Moved 0 old.open (drop old.open old.bytes.items) to.at to.rest.now = rw (sym b.rest, sym b.at) waits.moved in
    let rest : to.rest.now ≡ drop to.at old.bytes.items = behind old to.at to.rest.now f.within moved in
    let follows : (x : List ℕ) → left_at old.scan old.open (drop old.open old.bytes.items ++ x) ≡ left_at new.scan to.at (drop to.at old.bytes.items ++ x) =
    λ x. rw (sym b.rest, sym b.at, sym rest) (waits.follows x) in
    let short : left_at new.scan to.at (drop to.at old.bytes.items) ≡ Short = rw (sym rest) waits.short in
    record {
      follows = record {
        within = rw (bytes, stands) (within_bytes old to.at to.rest.now f.within moved);
        fits = rw bytes f.fits;
        each = rw bytes f.each;
        same = λ x. rw (bytes, stands) (f.same x ∙ follows x);
      };
      short = rw (bytes, stands) short;
    }

pub goes_to_refusal : (old : ScannedBytes) (from : Cursor) (offset : ℕ) (rule : PexRule) → Follows old → Begins old from → left_at old.scan from.at from.rest.now ≡ Refused offset rule → ends (pex_at 0 old.bytes.items) ≡ Refused offset rule
goes_to_refusal old from offset rule f b refused = read_so_far old f ∙ rw (sym b.rest, sym b.at) refused

pub goes_over : (old : ScannedBytes) (scan : Scan) (from to : Cursor) (result : Result Unit (Fault Stop)) → ScansOn old.scan result scan from to → Follows old → Begins old from
    → GoesOver old result (record { bytes = old.bytes; «open» = to.at; scan = scan })
goes_over old scan from to (Ok done) on f b = (refl, goes_to_end old (record { bytes = old.bytes; «open» = to.at; scan = scan }) from to f b on refl refl)
goes_over old scan from to (Err (fault.Broken stop.Short)) on f b = (refl, goes_to_item old (record { bytes = old.bytes; «open» = to.at; scan = scan }) from to f b on refl refl)
goes_over old scan from to (Err (fault.Broken (stop.Refused offset rule))) on f b = goes_to_refusal old from offset rule f b on
goes_over old scan from to (Err fault.OutOfMemory) on f b = tt

pub rest_of : (n : ℕ) (xs : List ℕ) → take (length xs - n) (drop n xs) ≡ drop n xs
rest_of n xs = ap (λ (k : ℕ). take k (drop n xs)) (sym (length-drop n xs)) ∙ take-length (drop n xs)

pub over_stop : (old new : ScannedBytes) (r : Result Unit (Fault Stop)) (t : Fault Stop) → GoesOver old r new → r ≡ Err t → GoesOver old (Err t) new
over_stop old new r t over is = subst (λ (q : Result Unit (Fault Stop)). GoesOver old q new) is over

-- ---- what a piece led to

-- a value ends behind what was taken before
pub ends_behind : (old : ScannedBytes) (piece : List ℕ) (end : ℕ) → IsOpen old → length (old.bytes.items ++ piece) ≤ limit → Found end (old.bytes.items ++ piece) → length old.bytes.items ≤ end
ends_behind old piece end o fits f = not_before (length old.bytes.items) end (λ early.
    let bytes = old.bytes.items in
    let first : take end (bytes ++ piece) ≡ take end bytes = take-append-le end bytes piece early in
    let spells : Spells f.value (take end bytes) = subst (λ (b : List ℕ). Spells f.value b) first f.first.spelled in
    let got = got_reading f.value (take end bytes) (drop end bytes) spells in
    let whole : reading bytes ≡ Got f.value (length (take end bytes)) (take (limit - length (take end bytes)) (drop end bytes)) = ap reading (sym (take-append-drop end bytes)) ∙ got in
    short_got f.value (length (take end bytes)) (take (limit - length (take end bytes)) (drop end bytes)) (sym (is_unfinished old o) ∙ whole))

pub takes_end : (old : ScannedBytes) (piece : List ℕ) (count end : ℕ) → IsOpen old → count ≤ length piece → length (old.bytes.items ++ take count piece) ≤ limit → Found end (old.bytes.items ++ take count piece)
    → TakesEnd old.bytes.items piece (end - length old.bytes.items) (take end (old.bytes.items ++ take count piece))
takes_end old piece count end o few fits f =
    let bytes = old.bytes.items in
    let n = end - length bytes in
    let late = ends_behind old (take count piece) end o fits f in
    let sum : end ≡ length bytes + n = omega (arith, late) in
    let long : length (bytes ++ take count piece) ≡ length bytes + count = length-append bytes (take count piece) ∙ ap (λ (k : ℕ). length bytes + k) (length-take-le count piece few) in
    let within : n ≤ count = omega (arith, f.first.within, long, late) in
    record {
      within = omega (arith, within, few);
      taken = ap (λ (k : ℕ). take k (bytes ++ take count piece)) sum ∙ (take-append-add bytes (take count piece) n ∙ ap (λ (b : List ℕ). bytes ++ b) (take-take n count piece within));
      spelled = (f.value, f.first.spelled);
    }

-- a field that is refused
of_field : (bytes : List ℕ) (offset : ℕ) (rule : PexRule) → IsOfField rule → reading bytes ≡ Refused offset rule → BreaksPiece bytes offset rule
of_field bytes offset BadMagic is refused = record { breaks = refused; more = λ e. absurd cc; not_behind = λ e. absurd cc }
of_field bytes offset BadVersion is refused = record { breaks = refused; more = λ e. absurd cc; not_behind = λ e. absurd cc }
of_field bytes offset BadGame is refused = record { breaks = refused; more = λ e. absurd cc; not_behind = λ e. absurd cc }
of_field bytes offset BadDebugFlag is refused = record { breaks = refused; more = λ e. absurd cc; not_behind = λ e. absurd cc }
of_field bytes offset BadKind is refused = record { breaks = refused; more = λ e. absurd cc; not_behind = λ e. absurd cc }
of_field bytes offset BadOpcode is refused = record { breaks = refused; more = λ e. absurd cc; not_behind = λ e. absurd cc }
of_field bytes offset BadCount is refused = record { breaks = refused; more = λ e. absurd cc; not_behind = λ e. absurd cc }
of_field bytes offset BadIndex is refused = record { breaks = refused; more = λ e. absurd cc; not_behind = λ e. absurd cc }
of_field bytes offset BadSize is refused = record { breaks = refused; more = λ e. absurd cc; not_behind = λ e. absurd cc }
of_field bytes offset Truncated is refused = absurd is
of_field bytes offset Trailing is refused = absurd is
of_field bytes offset TooLarge is refused = absurd is

by_field : (bytes : List ℕ) (offset : ℕ) (rule : PexRule) → ByField (reading bytes) → reading bytes ≡ Refused offset rule → BreaksPiece bytes offset rule
by_field bytes offset rule by is = of_field bytes offset rule (subst (λ (r : Reading PlainPex). ByField r) is by) is

-- what was taken of a piece is all of it, or as much as 16 MiB leave
pub record IsTakenOf (old piece : List ℕ) (count : ℕ) : Type 0 where
  pub few : count ≤ length piece
  pub fits : length old + count ≤ limit
  pub most : count < length piece → length old + count ≡ limit

by_count : (old piece : List ℕ) (count : ℕ) → IsTakenOf old piece count → ((nat_le (length piece) count ≡ true) × (length piece ≤ count)) ⊎ ((nat_le (length piece) count ≡ false) × (count < length piece))
    → take limit (old ++ piece) ≡ old ++ take count piece
by_count old piece count is (inl all) =
    let whole : take count piece ≡ piece = ap (λ (n : ℕ). take n piece) (omega (arith, all.1, is.few)) ∙ take-length piece in
    take_all (old ++ piece) (omega (arith, length-append old piece, is.fits, all.1, is.few)) ∙ ap (λ (b : List ℕ). old ++ b) (sym whole)
by_count old piece count is (inr less) = ap (λ (n : ℕ). take n (old ++ piece)) (sym (is.most less.1)) ∙ take-append-add old piece count

first_bytes : (old piece : List ℕ) (count : ℕ) → IsTakenOf old piece count → take limit (old ++ piece) ≡ old ++ take count piece
first_bytes old piece count is = by_count old piece count is (leb_tells (length piece) count)

pub takes_refusal : (old piece : List ℕ) (count offset : ℕ) (rule : PexRule) → IsTakenOf old piece count → ends (pex_at 0 (old ++ take count piece)) ≡ Refused offset rule → BreaksPiece (old ++ piece) offset rule
takes_refusal old piece count offset rule is refused =
    let read : reading (old ++ piece) ≡ Refused offset rule = ap (pex_at 0) (first_bytes old piece count is) ∙ refused_of (pex_at 0 (old ++ take count piece)) offset rule refused in
    by_field (old ++ piece) offset rule (pex_by_field 0 (take limit (old ++ piece))) read

pub takes_too_much : (old piece : List ℕ) (count : ℕ) → IsTakenOf old piece count → count < length piece → IsUnfinished (old ++ take count piece) → BreaksPiece (old ++ piece) limit TooLarge
takes_too_much old piece count is more unfinished =
    let full : length (old ++ take count piece) ≡ limit = length-append old (take count piece) ∙ (ap (λ (n : ℕ). length old + n) (length-take-le count piece is.few) ∙ is.most more) in
    let cut : take limit (old ++ take count piece) ≡ old ++ take count piece = take_all (old ++ take count piece) (omega (arith, full)) in
    let read : reading (old ++ piece) ≡ Short = ap (pex_at 0) (first_bytes old piece count is ∙ sym cut) ∙ unfinished in
    record {
      breaks = (read, omega (arith, length-append old piece, is.most more, more), refl);
      more = λ e. absurd cc;
      not_behind = λ e. absurd cc;
    }

by_number : (n most : ℕ) → n ≤ most → (n < most → ⊥) → ((nat_le most n ≡ true) × (most ≤ n)) ⊎ ((nat_le most n ≡ false) × (n < most)) → n ≡ most
by_number n most few all (inl p) = omega (arith, few, p.1)
by_number n most few all (inr p) = absurd (all p.1)

as_many : (n most : ℕ) → n ≤ most → (n < most → ⊥) → n ≡ most
as_many n most few all = by_number n most few all (leb_tells most n)

fits_taken : (old piece : List ℕ) (count : ℕ) → IsTakenOf old piece count → length (old ++ take count piece) ≤ limit
fits_taken old piece count is = omega (arith, length-append old (take count piece), length-take-le count piece is.few, is.fits)

-- ---- a piece that was taken

-- the piece, as much of it as there was room for, stands behind what was there
pub record Extends (old mid : ScannedBytes) (piece : List ℕ) (count : ℕ) : Type 0 where
  pub is : IsTakenOf old.bytes.items piece count
  pub bytes : mid.bytes.items ≡ old.bytes.items ++ take count piece
  pub at : mid.open ≡ old.open
  pub scan : mid.scan ≡ old.scan
  pub each : AreBytes piece

pub extends : (old mid : ScannedBytes) (piece : List ℕ) (before count : ℕ) → IsOpen old → before ≡ length old.bytes.items → count ≡ min (length piece) (limit - before)
    → mid.bytes.items ≡ old.bytes.items ++ take count piece → mid.open ≡ old.open → mid.scan ≡ old.scan → ((i : ℕ) → get_or piece i 0 < 256) → Extends old mid piece count
extends old mid piece before count o len least bytes at scan each =
    let fits = o.follows.fits in
    record {
      is = record { few = omega (arith, least); fits = omega (arith, least, len, fits); most = λ more. omega (arith, least, len, fits, more) };
      bytes = bytes;
      at = at;
      scan = scan;
      each = bytes_below piece each;
    }

pub extends_follows : (old mid : ScannedBytes) (piece : List ℕ) (count : ℕ) → IsOpen old → Extends old mid piece count → Follows mid
extends_follows old mid piece count o e =
    let long : length mid.bytes.items ≡ length old.bytes.items + count = ap (λ (b : List ℕ). length b) e.bytes ∙ (length-append old.bytes.items (take count piece) ∙ ap (λ (n : ℕ). length old.bytes.items + n) (length-take-le count piece e.is.few)) in
    let each : AreBytes (take count piece) = front_bytes (take count piece) (drop count piece) (subst AreBytes (sym (take-append-drop count piece)) e.each) in
    extended old mid (take count piece) o e.bytes e.at e.scan (omega (arith, long, e.is.fits)) each

-- the value's end
found_end : (old mid new : ScannedBytes) (piece : List ℕ) (count : ℕ) → IsOpen old → Extends old mid piece count → new.bytes ≡ mid.bytes → HasEnded new → Found new.open (old.bytes.items ++ take count piece)
found_end old mid new piece count o e same end =
    let bytes : new.bytes.items ≡ old.bytes.items ++ take count piece = ap (λ v. v.items) same ∙ e.bytes in
    let f = extends_follows old mid piece count o e in
    let fits : length new.bytes.items ≤ limit = rw (ap (λ v. v.items) same) f.fits in
    subst (λ (b : List ℕ). Found new.open b) bytes (found (λ v. length v.strings) end.strings new.bytes.items new.open end.rest (byte_below new.bytes.items end.each) fits end.ended)

pub end_is_late : (old mid new : ScannedBytes) (piece : List ℕ) (count : ℕ) → IsOpen old → Extends old mid piece count → new.bytes ≡ mid.bytes → HasEnded new → length old.bytes.items ≤ new.open
end_is_late old mid new piece count o e same end =
    ends_behind old (take count piece) new.open o (fits_taken old.bytes.items piece count e.is) (found_end old mid new piece count o e same end)

pub piece_ends : (old mid new : ScannedBytes) (piece : List ℕ) (count : ℕ) → IsOpen old → Extends old mid piece count → new.bytes ≡ mid.bytes → HasEnded new
    → TakesEnd old.bytes.items piece (new.open - length old.bytes.items) (take new.open new.bytes.items)
piece_ends old mid new piece count o e same end =
    let bytes : new.bytes.items ≡ old.bytes.items ++ take count piece = ap (λ v. v.items) same ∙ e.bytes in
    subst (λ (b : List ℕ). TakesEnd old.bytes.items piece (new.open - length old.bytes.items) (take new.open b)) (sym bytes)
    (takes_end old piece count new.open o e.is.few (fits_taken old.bytes.items piece count e.is) (found_end old mid new piece count o e same end))

pub piece_taken : (old mid new : ScannedBytes) (piece : List ℕ) (count : ℕ) → Extends old mid piece count → (count < length piece → ⊥) → new.bytes ≡ mid.bytes → IsOpen new → TakesAll old piece new
piece_taken old mid new piece count e all same o =
    let whole : take count piece ≡ piece = ap (λ (n : ℕ). take n piece) (as_many count (length piece) e.is.few all) ∙ take-length piece in
    record {
      taken = ap (λ v. v.items) same ∙ (e.bytes ∙ ap (λ (b : List ℕ). old.bytes.items ++ b) whole);
      unfinished = is_unfinished new o;
      stands = o;
    }

pub piece_too_large : (old mid new : ScannedBytes) (piece : List ℕ) (count : ℕ) → Extends old mid piece count → count < length piece → new.bytes ≡ mid.bytes → IsOpen new → BreaksPiece (old.bytes.items ++ piece) limit TooLarge
piece_too_large old mid new piece count e more same o =
    takes_too_much old.bytes.items piece count e.is more (subst (λ (b : List ℕ). IsUnfinished b) (ap (λ v. v.items) same ∙ e.bytes) (is_unfinished new o))

pub piece_refused : (old mid : ScannedBytes) (piece : List ℕ) (count offset : ℕ) (rule : PexRule) → Extends old mid piece count → ends (pex_at 0 mid.bytes.items) ≡ Refused offset rule → BreaksPiece (old.bytes.items ++ piece) offset rule
piece_refused old mid piece count offset rule e refused =
    takes_refusal old.bytes.items piece count offset rule e.is (ap (λ (b : List ℕ). ends (pex_at 0 b)) (sym e.bytes) ∙ refused)

-- ---- what a decoder that took its bytes answers

pub unfinished_truncated : (t : ScannedBytes) → IsOpen t → Breaks t.bytes.items (length t.bytes.items) Truncated
unfinished_truncated t o = (is_unfinished t o, o.follows.fits, refl)

pub value_spelled : (bytes : List ℕ) (v : PlainPex) → IsSpelling bytes → (at : ℕ) × (rest : List ℕ) × (pex_at 0 bytes ≡ Got v at rest) → Spells v bytes
value_spelled bytes v (w, s) (at, rest, got) =
    subst (λ (x : PlainPex). Spells x bytes) (same_got (λ z n r. w ≡ z) w v (length bytes) at [] rest (sym (found_whole w bytes s) ∙ got) refl) s

finishes_from : (t : ScannedBytes) (s : Standing) (n : ℕ) → IsOpen t → s ≡ standing.Reading → n ≡ length t.bytes.items → FinishFrom s t.bytes.items (Err (Broken n Truncated))
finishes_from t s n o reading count =
    subst (λ (u : Standing). FinishFrom u t.bytes.items (Err (Broken n Truncated))) (sym reading)
    (ap (λ (k : ℕ). Err (Broken k Truncated)) count, unfinished_truncated t o)

pub finishes_open : (t : ScannedBytes) (s : Standing) (d : Progress) (n : ℕ) → IsOpen t → s ≡ standing.Reading → record { taken = t.bytes.items; standing = s } ≡ d → n ≡ length t.bytes.items → FinishGives d (Err (Broken n Truncated))
finishes_open t s d n o reading is count = subst (λ (e : Progress). FinishGives e (Err (Broken n Truncated))) is (finishes_from t s n o reading count)

ends_from : (t : ScannedBytes) (s : Standing) (v : Pex) (bytes : List ℕ) (r : Result Unit PexFault) → StandsAs s t → bytes ≡ t.bytes.items → FinishFrom s t.bytes.items r → r ≡ Ok tt
    → (at : ℕ) × (rest : List ℕ) × (pex_at 0 bytes ≡ Got (plain v) at rest) → EndFrom s t.bytes.items (Ok v)
ends_from t standing.Reading v bytes r stands same (finish, breaks) ok got = absurd cc
ends_from t standing.Complete v bytes r stands same finish ok (at, rest, got) = value_spelled t.bytes.items (plain v) stands (at, rest, ap (pex_at 0) (sym same) ∙ got)
ends_from t (standing.Refused fault) v bytes r stands same finish ok got = absurd cc

pub ends_with : (t : ScannedBytes) (s : Standing) (d : Progress) (v : Pex) (bytes : List ℕ) (r : Result Unit PexFault) → StandsAs s t → record { taken = t.bytes.items; standing = s } ≡ d → bytes ≡ t.bytes.items → FinishGives d r → r ≡ Ok tt
    → (at : ℕ) × (rest : List ℕ) × (pex_at 0 bytes ≡ Got (plain v) at rest) → EndGives d (Ok v)
ends_with t s d v bytes r stands is same finish ok got =
    subst (λ (e : Progress). EndGives e (Ok v)) is (ends_from t s v bytes r stands same (subst (λ (e : Progress). FinishGives e r) (sym is) finish) ok got)
