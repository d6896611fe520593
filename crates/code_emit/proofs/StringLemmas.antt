-- Strings that go into a table.
use Rattle.std.proofs.Common.{◌≡◌, ℕ, ◌+◌, Bool, true, false, not, ◌||◌, cond, ltb, List, [], ◌∷◌, ◌++◌, length, get_or, map, position, Some, None, refl, sym, ap, ◌∙◌}
use Rattle.std.specs.Prelude.{slice_get}
use Rattle.std.specs.Cmp.Lexicographic.{bytes_decides}
use Rattle.std.specs.Option.{option_map}
use Rattle.std.proofs.lemmas.List.Quantifiers.{position-Some}
use Rattle.std.proofs.lemmas.Option.{slice_get-map, slice_get-get_or}
use Rattle.std.specs.List.{list_any, position_or_len}
use Rattle.std.specs.declared.alloc.Global.{Global}
use Rattle.std.specs.declared.vec.Vec.{Vec}
use Rattle.std.specs.Str.{bytes_eq}
use Rattle.std.proofs.lemmas.List.{append-nil, length-map, map-append}
use Rattle.indexmap.specs.IndexSet.{insert_key}
use Rattle.code_emit.specs.Strings.{Table, with_string}
use Rattle.code_emit.specs.Writing.{GoesOn}

-- what is held, as lists
abbrev pub shown : List (Vec ℕ Global) → List (List ℕ)
shown ks = map (λ k. k.items) ks

abbrev pub same : Vec ℕ Global → Vec ℕ Global → Bool
same a b = bytes_eq a.items b.items

pub list_any-shown : (string : List ℕ) (ks : List (Vec ℕ Global)) → list_any (λ k. bytes_eq string k.items) ks ≡ list_any (bytes_eq string) (shown ks)
list_any-shown string [] = refl
list_any-shown string (k ∷ ks) = ap (λ (t : Bool). bytes_eq string k.items || t) (list_any-shown string ks)

map_cond : (b : Bool) (xs ys : List (Vec ℕ Global)) → shown (cond b xs ys) ≡ cond b (shown xs) (shown ys)
map_cond true xs ys = refl
map_cond false xs ys = refl

pub shown-insert_key : (ks : List (Vec ℕ Global)) (k : Vec ℕ Global) → shown (insert_key same ks k) ≡ with_string (shown ks) k.items
shown-insert_key ks k =
    map_cond (list_any (same k) ks) ks (ks ++ k ∷ [])
    ∙ ap (λ (t : List (List ℕ)). cond (list_any (same k) ks) (shown ks) t) (map-append (λ (b : Vec ℕ Global). b.items) ks (k ∷ []))
    ∙ ap (λ (b : Bool). cond b (shown ks) (shown ks ++ k.items ∷ [])) (list_any-shown k.items ks)

pub found_string : (strings : List (List ℕ)) (string : List ℕ) → list_any (bytes_eq string) strings ≡ true → strings ≡ with_string strings string
found_string strings string found = sym (ap (λ (b : Bool). cond b strings (strings ++ string ∷ [])) found)

goes_either : (b : Bool) (strings : List (List ℕ)) (string : List ℕ) → (added : List (List ℕ)) × (cond b strings (strings ++ string ∷ []) ≡ strings ++ added)
goes_either true strings string = ([], sym (append-nil strings))
goes_either false strings string = (string ∷ [], refl)

pub with_string_goes : (old new : Table) (string : List ℕ) → new.home ≡ old.home → new.strings ≡ with_string old.strings string → GoesOn old new
with_string_goes old new string home is =
    let more = goes_either (list_any (bytes_eq string) old.strings) old.strings string in
    record { home = home; added = more.0; strings = is ∙ more.1 }

-- ---- where a string stands
position_or_len-shown : (string : List ℕ) (ks : List (Vec ℕ Global)) → position_or_len (λ k. bytes_eq string k.items) ks ≡ position_or_len (bytes_eq string) (shown ks)
position_or_len-shown string [] = refl
position_or_len-shown string (k ∷ ks) = ap (λ (n : ℕ). cond (not (bytes_eq string k.items)) (1 + n) 0) (position_or_len-shown string ks)

position-shown : (string : List ℕ) (ks : List (Vec ℕ Global)) → position (λ k. bytes_eq string k.items) ks ≡ position (bytes_eq string) (shown ks)
position-shown string ks =
    let here = position_or_len (bytes_eq string) (shown ks) in
    ap (λ (n : ℕ). cond (ltb n (length ks)) (Some n) None) (position_or_len-shown string ks)
    ∙ ap (λ (m : ℕ). cond (ltb here m) (Some here) None) (sym (length-map ks (λ k. k.items)))

pub found_named : (string : List ℕ) (ks : List (Vec ℕ Global)) (at : ℕ) → position (λ k. bytes_eq string k.items) ks ≡ Some at → slice_get (shown ks) at ≡ Some string
found_named string ks at found =
    let is = position-Some (bytes_eq string) (shown ks) at [] (sym (position-shown string ks) ∙ found) in
    slice_get-get_or (shown ks) at [] is.0 ∙ ap (λ (s : List ℕ). Some s) (sym ((bytes_decides string (get_or (shown ks) at [])).0 is.1))

pub stored_named : (string : List ℕ) (ks : List (Vec ℕ Global)) (at : ℕ) (k : Vec ℕ Global) → slice_get ks at ≡ Some k → bytes_eq string k.items ≡ true → slice_get (shown ks) at ≡ Some string
stored_named string ks at k there is =
    slice_get-map (λ (b : Vec ℕ Global). b.items) ks at ∙ ap (option_map (λ (b : Vec ℕ Global). b.items)) there ∙ ap (λ (s : List ℕ). Some s) (sym ((bytes_decides string k.items).0 is))
