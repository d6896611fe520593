-- What a table of names has after one more, and what stands at the places that it has.
use Rattle.std.proofs.Common.{ℕ, ◌≡◌, ◌<◌, ◌≤◌, List, [], ◌∷◌, ◌++◌, ◌+◌, take, length, length-take, get_or, nat_lt, Option, Some, None, is_some, IfSome, Bor, refl, sym, ap, subst, ◌∙◌, ⊎_elim, arith}
use Rattle.std.proofs.Math.ListN.{set}
use Rattle.std.specs.List.{position_or_len, slice_get}
use Rattle.std.specs.Option.{option_and_then, option_copied}
use Rattle.std.specs.Str.{bytes_eq}
use Rattle.std.specs.Cmp.Lexicographic.{bytes_decides}
use Rattle.std.proofs.lemmas.Bool.{cases_lt, cond-true, cond-false, le-ltb, lt-ltb, ltb-false, ltb-true}
use Rattle.std.proofs.lemmas.List.{length-set, take_more}
use Rattle.std.proofs.lemmas.List.Folds.{find_at, position_or_len-set}
use Rattle.std.proofs.lemmas.List.Quantifiers.{position-Some}
use Rattle.std.proofs.lemmas.Option.{none-some, slice_get-get_or, slice_get_past}
use Rattle.papy_base.specs.Case.{folded}
use Rattle.papy_base.specs.Table.{IsPlaceTable, Notes, number_in, place_of}
use Rattle.papy_base.specs.declared.name_table.NameTable.{NameTable}
use Rattle.papy_base.proofs.TableLemmas.{IsPlaceTable-push}
use Rattle.scene_binder.specs.Faults.{is_taken}
use Rattle.scene_binder.specs.Names.{first_of}

-- the first thing of a name is the one at its place
first_of-place : {X : Type 0} (name_of : X → List ℕ) (items : List X) (bytes : List ℕ) → first_of name_of items bytes ≡ option_and_then (slice_get items) (place_of name_of items bytes)
first_of-place {X} name_of items bytes =
    let test = λ (x : X). bytes_eq bytes (folded (name_of x)) in
    let k = position_or_len test items in
    find_at test items ∙ ⊎_elim
    (λ (l : k < length items). sym (ap (option_and_then (slice_get items)) (cond-true (nat_lt k (length items)) (Some k) None (lt-ltb k (length items) l))))
    (λ (g : length items ≤ k). slice_get_past items k g ∙ sym (ap (option_and_then (slice_get items)) (cond-false (nat_lt k (length items)) (Some k) None (le-ltb k (length items) g))))
    (cases_lt k (length items))

-- what was read at a place of a list
pub copied_read : {X : Type 0} (read : Option (Bor X)) (items : List X) (n : ℕ) → is_some read ≡ nat_lt n (length items) → IfSome read (λ x. x.now ≡ get_or items n x.now) → option_copied read ≡ slice_get items n
copied_read None items n e h = sym (slice_get_past items n (ltb-false n (length items) (sym e)))
copied_read (Some x) items n e h = ap Some h ∙ sym (slice_get-get_or items n x.now (ltb-true n (length items) (sym e)))

module _ {X : Type 0} (name_of : X → List ℕ) (items : List X) (table : NameTable) where
  -- what stands at a place that a table has for a name has the name
  pub IsPlaceTable-named : (bytes : List ℕ) (n : ℕ) (d : X) → IsPlaceTable name_of items table → number_in table bytes ≡ Some n → folded (name_of (get_or items n d)) ≡ bytes
  IsPlaceTable-named bytes n d h is =
      sym ((bytes_decides bytes (folded (name_of (get_or items n d)))).0 (position-Some (λ x. bytes_eq bytes (folded (name_of x))) items n d (sym (h bytes) ∙ is)).1)

  -- the first thing of a name is the one whose place the table has
  pub IsPlaceTable-first : (bytes : List ℕ) → IsPlaceTable name_of items table → first_of name_of items bytes ≡ option_and_then (slice_get items) (number_in table bytes)
  IsPlaceTable-first bytes h = first_of-place name_of items bytes ∙ sym (ap (option_and_then (slice_get items)) (h bytes))

-- a table of the beginning of a list, once the next name was noted with its place
pub IsPlaceTable-next : {X : Type 0} (name_of : X → List ℕ) (items : List X) (place : ℕ) (item : X) (old new : NameTable) → place < length items → item ≡ get_or items place item → IsPlaceTable name_of (take place items) old → Notes old new (name_of item) place
    → IsPlaceTable name_of (take (place + 1) items) new
IsPlaceTable-next name_of items place item old new lt is h noted =
    let grown = take_more items place item lt ∙ ap (λ x. take place items ++ x ∷ []) (sym is) in
    let count : length (take place items) ≡ place = simp length-take (omega arith) in
    let here = subst (λ n. Notes old new (name_of item) n) (sym count) noted in
    subst (λ xs. IsPlaceTable name_of xs new) (sym grown) (IsPlaceTable-push name_of (take place items) item old new h here)

-- a thing may be replaced by another one of its name
pub IsPlaceTable-set : {X : Type 0} (name_of : X → List ℕ) (items : List X) (n : ℕ) (y d : X) (table : NameTable) → name_of y ≡ name_of (get_or items n d) → IsPlaceTable name_of items table → IsPlaceTable name_of (set items n y) table
IsPlaceTable-set name_of items n y d table same h = λ bytes.
    let kept = position_or_len-set (λ x. bytes_eq bytes (folded (name_of x))) items n y d (ap (λ name. bytes_eq bytes (folded name)) same) in
    h bytes ∙ sym (rw kept (rw (length-set items n y) refl))

-- a name that has a place is borne by one of the things
place_is_some : {X : Type 0} (name_of : X → List ℕ) (items : List X) (bytes : List ℕ) (place : Option ℕ) → place_of name_of items bytes ≡ place → is_some place ≡ is_some (option_and_then (slice_get items) place)
place_is_some name_of items bytes None is = refl
place_is_some {X} name_of [] bytes (Some k) is = absurd (none-some k is)
place_is_some {X} name_of (x ∷ xs) bytes (Some k) is =
    let inside = (position-Some (λ (x : X). bytes_eq bytes (folded (name_of x))) (x ∷ xs) k x is).0 in
    sym (ap is_some (slice_get-get_or (x ∷ xs) k x inside))

pub is_taken-same : {X : Type 0} (name_of : X → List ℕ) (items : List X) (table : NameTable) (name : List ℕ) → IsPlaceTable name_of items table → is_some (number_in table (folded name)) ≡ is_taken name_of items name
is_taken-same name_of items table name h =
    let bytes = folded name in
    ap is_some (h bytes) ∙ (place_is_some name_of items bytes (place_of name_of items bytes) refl ∙ sym (ap is_some (first_of-place name_of items bytes)))
