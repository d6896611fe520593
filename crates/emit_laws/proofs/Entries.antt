-- Debug entries: the first that is for a function.
use Rattle.std.proofs.Common.{◌≡◌, ℕ, suc, ◌==◌, Bool, true, false, ◌&&◌, List, [], ◌∷◌, ◌++◌, length, take, replicate, Option, Some, refl, ap, ◌∙◌}
use Rattle.std.specs.Prelude.{cond}
use Rattle.std.specs.List.{AllByRecursion, find}
use Rattle.std.specs.Option.{option_map, unwrap_or}
use Rattle.std.proofs.lemmas.Bool.{eq-eqb}
use Rattle.std.proofs.lemmas.Option.{get_or_from_slice_get}
use Rattle.pex_values.specs.Plain.{PlainLines}
use Rattle.pex_meaning.specs.Functions.{Home, entries_of, is_for, lines_meant, string}
use Rattle.pex_meaning.specs.Names.{are_same}
use Rattle.code_emit.specs.Spelled.{Each, SpellsLines, part_of}
use Rattle.code_emit.specs.Strings.{Origin, Table}
use Rattle.emit_laws.specs.Members.{table_of}
use Rattle.emit_laws.proofs.Names.{same-refl}

-- none of the entries is for this function
abbrev pub Apart : Home → ℕ → List ℕ → List ℕ → List PlainLines → Type 0
Apart home kind state name entries = AllByRecursion (λ entry. is_for home kind state name entry ≡ false) entries

-- ---- tests
pub first_false : (a b c d : Bool) → a ≡ false → (a && b && c && d) ≡ false
first_false a b c d e = ap (λ (x : Bool). x && b && c && d) e

pub third_false : (a b c d : Bool) → c ≡ false → (a && b && c && d) ≡ false
third_false true true c d e = ap (λ (x : Bool). x && d) e
third_false true false c d e = refl
third_false false b c d e = refl

pub last_false : (a b c d : Bool) → d ≡ false → (a && b && c && d) ≡ false
last_false true true true d e = e
last_false true true false d e = refl
last_false true false c d e = refl
last_false false b c d e = refl

-- ---- lists
pub all_joined : {X : Type 0} (P : X → Type 0) (xs ys : List X) → AllByRecursion P xs → AllByRecursion P ys → AllByRecursion P (xs ++ ys)
all_joined P [] ys h k = k
all_joined P (x ∷ xs) ys h k = (h.0, all_joined P xs ys h.1 k)

pub each_length : {A B : Type 0} (Says : A → B → Type 0) (xs : List A) (ys : List B) → Each Says xs ys → length xs ≡ length ys
each_length Says [] [] are = refl
each_length Says [] (y ∷ ys) are = absurd are
each_length Says (x ∷ xs) [] are = absurd are
each_length Says (x ∷ xs) (y ∷ ys) are = let e = each_length Says xs ys are.1 in ap suc e

found_behind : {X : Type 0} (p : X → Bool) (before : List X) (x : X) (after : List X) → AllByRecursion (λ y. p y ≡ false) before → p x ≡ true → find p (before ++ x ∷ after) ≡ Some x
found_behind p [] x after none is = ap (λ (b : Bool). cond b (Some x) (find p after)) is
found_behind p (y ∷ before) x after none is =
    ap (λ (b : Bool). cond b (Some y) (find p (before ++ x ∷ after))) none.0 ∙ found_behind p before x after none.1 is

front : {X : Type 0} (xs ys : List X) → take (length xs) (xs ++ ys) ≡ xs
front [] ys = refl
front (x ∷ xs) ys = ap (λ l. x ∷ l) (front xs ys)

-- ---- entries
module _ (from : Origin) (home : Home) (object : string home home.object.name ≡ from.script.name) where
  abbrev pub table : Table
  table = table_of from home.file

  -- whether an entry is for a function, by what it spells
  pub is_for_as : (state name : List ℕ) (kind : ℕ) (e : PlainLines) (lines : List ℕ) → SpellsLines table (part_of from state name kind) e lines → (k : ℕ) (s n : List ℕ) → is_for home k s n e ≡ ((kind == k) && are_same from.script.name from.script.name && are_same state s && are_same name n)
  is_for_as state name kind e lines spells k s n =
      let kind_is = spells.kind in
      let of = get_or_from_slice_get home.file.strings e.object from.script.name [] spells.object.there in
      let stated = get_or_from_slice_get home.file.strings e.state state [] spells.state.there in
      let named = get_or_from_slice_get home.file.strings e.function name [] spells.function.there in
      λ j. (kind_is j == k) && are_same (of j) (object j) && are_same (stated j) s && are_same (named j) n

  pub is_own : (state name : List ℕ) (kind : ℕ) (e : PlainLines) (lines : List ℕ) → SpellsLines table (part_of from state name kind) e lines → is_for home kind state name e ≡ true
  is_own state name kind e lines spells =
      let kinds = eq-eqb kind kind refl in
      let objects = same-refl from.script.name in
      let states = same-refl state in
      let names = same-refl name in
      is_for_as state name kind e lines spells kind state name ∙ (λ j. kinds j && objects j && states j && names j)

  -- entries of a function are for no other
  pub apart_by : (state name : List ℕ) (kind k : ℕ) (s n : List ℕ) → ((a : Bool) → ((kind == k) && a && are_same state s && are_same name n) ≡ false) → (entries : List PlainLines) (lines : List (List ℕ)) → Each (SpellsLines table (part_of from state name kind)) entries lines → Apart home k s n entries
  apart_by state name kind k s n differs [] [] are = tt
  apart_by state name kind k s n differs [] (l ∷ lines) are = absurd are
  apart_by state name kind k s n differs (e ∷ entries) [] are = absurd are
  apart_by state name kind k s n differs (e ∷ entries) (l ∷ lines) are =
      (is_for_as state name kind e l are.0 k s n ∙ differs (are_same from.script.name from.script.name), apart_by state name kind k s n differs entries lines are.1)

  -- the lines of the one entry of a function
  pub lines_told_are : (state name : List ℕ) (kind : ℕ) (before entries after : List PlainLines) (lines : List ℕ) → entries_of home ≡ before ++ (entries ++ after) → Apart home kind state name before → Each (SpellsLines table (part_of from state name kind)) entries (lines ∷ []) → (count : ℕ) → count ≡ length lines → lines_meant home kind state name count ≡ lines
  lines_told_are state name kind before [] after lines all none are count e = absurd are
  lines_told_are state name kind before (entry ∷ []) after lines all none are count e =
      ap (λ (l : List ℕ). take count (l ++ replicate count 0))
      (ap (λ (es : List PlainLines). unwrap_or (option_map (λ (x : PlainLines). x.lines) (find (is_for home kind state name) es)) []) all
      ∙ ap (λ (o : Option PlainLines). unwrap_or (option_map (λ (x : PlainLines). x.lines) o) []) (found_behind (is_for home kind state name) before entry after none (is_own state name kind entry lines are.0))
      ∙ are.0.lines_are)
      ∙ ap (λ (n : ℕ). take n (lines ++ replicate count 0)) e
      ∙ front lines (replicate count 0)
  lines_told_are state name kind before (entry ∷ other ∷ entries) after lines all none are count e = absurd are.1
