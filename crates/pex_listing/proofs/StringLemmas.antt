-- The table of a file's strings, one string after another.
use Rattle.std.proofs.Common.{◌≡◌, ℕ, ◌+◌, Bool, true, false, cond, ◌&&◌, not, List, [], ◌∷◌, ◌++◌, length, get_or, map, take, Option, Some, None, is_some, refl, sym, ap, ◌∙◌, arith}
use Rattle.std.specs.Prelude.{is_none, nat_le}
use Rattle.std.specs.Fmt.{decimal}
use Rattle.std.specs.List.{range_with_len}
use Rattle.std.specs.Str.{bytes_eq}
use Rattle.std.specs.Cmp.Lexicographic.{nat_list_eq_equiv}
use Rattle.std.proofs.lemmas.Bool.{false≢true}
use Rattle.std.proofs.lemmas.List.FromFn.{map-range_with_len_more}
use Rattle.papy_base.proofs.TableLemmas.{position-push}
use Rattle.pex_listing.specs.Lines.{is_word, first_place, is_own_word, spelled_at, reference}
use Rattle.pex_listing.specs.Spelled.{HasWords, Noted, place_in}
use Rattle.pex_listing.specs.declared.strings.StringWords.{StringWords}

merged : (b : Bool) (k : Option ℕ) (n : ℕ) → cond (b && is_none k) (Some n) k ≡ cond (is_some k) k (cond b (Some n) None)
merged true None n = refl
merged false None n = refl
merged true (Some m) n = refl
merged false (Some m) n = refl

-- the table of one string more
pub words_more : (strings : List (List ℕ)) (string : List ℕ) (old new : StringWords) (own : Bool) → HasWords strings old → Noted old new string (length strings) own → HasWords (strings ++ string ∷ []) new
words_more strings string old new own has noted = λ bytes is.
    let n = length strings in
    let k = first_place strings bytes in
    noted.words bytes is
    ∙ ap (λ o. cond (bytes_eq string bytes && is_none o) (Some n) o) (has bytes is)
    ∙ ap (λ b. cond (b && is_none k) (Some n) k) (nat_list_eq_equiv.symm string bytes)
    ∙ merged (bytes_eq bytes string) k n
    ∙ sym (position-push (λ s. bytes_eq bytes s) strings string)

own_word_of : (b : Bool) (c : Bool) (o k : Option ℕ) → (b ≡ true → o ≡ k) → (b && (c && is_none o)) ≡ (b && (c && not (is_some k)))
own_word_of true c o k same = ap (λ o. c && is_none o) (same refl)
own_word_of false c o k same = refl

-- a string that was noted is spelled as the definition says
pub noted_spelling : (strings : List (List ℕ)) (place : ℕ) (string : List ℕ) (old new : StringWords) (own : Bool) → string ≡ get_or strings place [] → HasWords (take place strings) old → Noted old new string place own
    → cond own string (35 ∷ decimal place) ≡ reference strings place
unfolding reference
noted_spelling strings place string old new own is has noted =
    let same : own ≡ is_own_word strings place string =
    noted.own_word ∙ own_word_of (is_word string) (nat_le (length string) 64) (place_in old string) (first_place (take place strings) string) (λ w. has string w) in
    ap (λ own. cond own string (35 ∷ decimal place)) same ∙ ap (λ s. spelled_at strings place s) is

-- the spellings of one string more
pub spellings_more : (strings : List (List ℕ)) (place : ℕ) (before : List (List ℕ)) (spelled : List ℕ) → before ≡ map (reference strings) (range_with_len 0 place) → spelled ≡ reference strings place
    → before ++ spelled ∷ [] ≡ map (reference strings) (range_with_len 0 (place + 1))
spellings_more strings place before spelled same is =
    ap (λ b. b ++ spelled ∷ []) same ∙ ap (λ s. map (reference strings) (range_with_len 0 place) ++ s ∷ []) is ∙ sym (map-range_with_len_more (reference strings) 0 place place (omega arith))

pub kept : (b : Bool) (k : Option ℕ) (n : ℕ) → (b ≡ true → is_some k ≡ true) → k ≡ cond (b && is_none k) (Some n) k
kept true None n has = absurd (false≢true (has refl))
kept true (Some m) n has = refl
kept false k n has = refl

pub and-true : (b : Bool) → (b && true) ≡ b
and-true true = refl
and-true false = refl

pub added : (b : Bool) (k : Option ℕ) (n : ℕ) → (b ≡ true → is_some k ≡ false) → cond b (Some n) k ≡ cond (b && is_none k) (Some n) k
added true None n none = refl
added true (Some m) n none = absurd (false≢true (sym (none refl)))
added false k n none = refl
