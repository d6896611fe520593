-- Lists that are put or taken one item at a time.
use Rattle.std.specs.Prelude.{⊤, zero, suc, ◌-◌, Some, None, Result, Err}
use Rattle.std.proofs.Common.{◌≡◌, ℕ, ◌+◌, ◌<◌, List, [], ◌∷◌, ◌++◌, length, get_or, take, map, refl, sym, ap, subst, ◌∙◌, append_assoc, arith}
use Rattle.std.specs.List.{AllByRecursion, AllZip, flat_map}
use Rattle.std.proofs.lemmas.Grind.{take_at_read, flat_map-append}
use Rattle.std.proofs.lemmas.List.{append-nil, map-append, length-append}
use Rattle.machine_state.proofs.Growing.{each_more_viewed}
use Rattle.stack_save.specs.Parts.{HasTaken, Takes, IsPart}
use Rattle.stack_save.specs.declared.fault.HeldFault.{HeldFault}
use Rattle.stack_save.specs.declared.fault.HeldFault.TheVariants.{Broken, OutOfMemory}
use Rattle.stack_save.specs.Reading.{Found, found_then, found_as, items_at}

pub each_trivial : {X : Type 0} (xs : List X) → AllByRecursion (λ (x : X). ⊤) xs
each_trivial [] = tt
each_trivial (x ∷ xs) = (tt, each_trivial xs)

-- what holds of each holds of the one at a place
pub each_at : {X Y : Type 0} (P : Y → Type 0) (view : X → Y) (xs : List X) (i : ℕ) (x : X)
    → AllByRecursion P (map view xs) → i < length xs → x ≡ get_or xs i x → P (view x)
each_at P view [] i x each below is = absurd (omega arith)
each_at P view (y ∷ ys) zero x each below is = subst (λ z. P (view z)) (sym is) each.0
each_at P view (y ∷ ys) (suc i) x each below is = each_at P view ys i x each.1 (omega arith) is

-- the bytes of one more item
bytes_more : {X Y : Type 0} (spell : Y → List ℕ) (view : X → Y) (xs : List X) (x : X)
    → flat_map spell (map view (xs ++ x ∷ [])) ≡ flat_map spell (map view xs) ++ spell (view x)
bytes_more spell view xs x =
    rw (map-append view xs (x ∷ []), flat_map-append spell (map view xs) (view x ∷ []), append-nil (spell (view x))) refl

-- ---- putting

-- the first i items were put
pub record PutFirst {X Y : Type 0} (P : Y → Type 0) (spell : Y → List ℕ) (view : X → Y) (old : List ℕ) (xs : List X) (i : ℕ) (new : List ℕ) : Type 0 where
  pub each : AllByRecursion P (map view (take i xs))
  pub bytes : new ≡ old ++ flat_map spell (map view (take i xs))

-- ---- taking

-- the items in front of those that are found
abbrev pub in_front : {A : Type 0} → List A → Found (List A) → Found (List A)
in_front xs None = None
in_front xs (Some found) = Some (xs ++ found.0, found.1)

-- the first i of so many items were taken
pub record TookFirst {X Y : Type 0} (Savable InRange : Y → Type 0) (spell : Y → List ℕ) (at : List ℕ → Found Y) (view : X → Y) (old : List ℕ) (number i : ℕ) (items : List X) (rest : List ℕ) : Type 0 where
  pub count : length items ≡ i
  pub savable : AllByRecursion Savable (map view items)
  pub in_range : AllByRecursion InRange (map view items)
  pub bytes : old ≡ flat_map spell (map view items) ++ rest
  pub found : items_at at number old ≡ in_front (map view items) (items_at at (number - i) rest)

-- one more item in front
in_front-as : {A : Type 0} (xs : List A) (x : A) (found : Found (List A)) → in_front xs (found_as (λ others. x ∷ others) found) ≡ in_front (xs ++ x ∷ []) found
in_front-as xs x None = refl
in_front-as xs x (Some found) = ap (λ ys. Some (ys, found.1)) (sym (append_assoc xs (x ∷ []) found.0))

items_at-next : {Y : Type 0} (at : List ℕ → Found Y) (number i : ℕ) (rest : List ℕ) → i < number
    → items_at at (number - i) rest ≡ found_then (at rest) (λ first behind. found_as (λ others. first ∷ others) (items_at at (number - (i + 1)) behind))
items_at-next at number i rest below =
    let next : number - i ≡ suc (number - (i + 1)) = omega arith in
    ap (λ (n : ℕ). items_at at n rest) next

pub TookFirst-more : {X Y : Type 0} (Savable InRange : Y → Type 0) (spell : Y → List ℕ) (at : List ℕ → Found Y) (view : X → Y) (old : List ℕ) (number i : ℕ) (items : List X) (rest : List ℕ) (x : X) (new : List ℕ)
    → TookFirst Savable InRange spell at view old number i items rest → i < number → HasTaken (IsPart Savable InRange) spell (at rest) (view x) rest new
    → TookFirst Savable InRange spell at view old number (i + 1) (items ++ x ∷ []) new
TookFirst-more Savable InRange spell at view old number i items rest x new first below taken = record {
  count = omega (arith, length-append items (x ∷ []), first.count);
  savable = each_more_viewed Savable view items x first.savable taken.may.savable;
  in_range = each_more_viewed InRange view items x first.in_range taken.may.in_range;
  bytes =
      first.bytes
      ∙ (ap (λ b. flat_map spell (map view items) ++ b) taken.bytes
      ∙ (sym (append_assoc (flat_map spell (map view items)) (spell (view x)) new)
      ∙ ap (λ b. b ++ new) (sym (bytes_more spell view items x))));
  found =
      first.found
      ∙ (ap (λ f. in_front (map view items) f) (items_at-next at number i rest below
      ∙ ap (λ f. found_then f (λ one behind. found_as (λ others. one ∷ others) (items_at at (number - (i + 1)) behind))) taken.found)
      ∙ (in_front-as (map view items) (view x) (items_at at (number - (i + 1)) new)
      ∙ ap (λ ys. in_front ys (items_at at (number - (i + 1)) new)) (sym (map-append view items (x ∷ [])))));
}

-- no item stands where the next one should
pub TookFirst-missing : {X Y : Type 0} (Savable InRange : Y → Type 0) (spell : Y → List ℕ) (at : List ℕ → Found Y) (view : X → Y) (old : List ℕ) (number i : ℕ) (items : List X) (rest : List ℕ)
    → TookFirst Savable InRange spell at view old number i items rest → i < number → at rest ≡ None → items_at at number old ≡ None
TookFirst-missing Savable InRange spell at view old number i items rest first below missing =
    first.found
    ∙ ap (λ f. in_front (map view items) f) (items_at-next at number i rest below
    ∙ ap (λ f. found_then f (λ one behind. found_as (λ others. one ∷ others) (items_at at (number - (i + 1)) behind))) missing)

-- the fault of an item is the fault of the list
pub err_taken : {T U A B : Type 0} (fault y : HeldFault) (r : Result U HeldFault) (plain : T → A) (Is : A → Type 0) (spell : A → List ℕ) (at : List ℕ → Found A)
    (plain' : U → B) (Is' : B → Type 0) (spell' : B → List ℕ) (at' : List ℕ → Found B) (old new old' new' : List ℕ)
    → r ≡ Err y → y ≡ fault → Takes plain Is spell at (Err fault) old new → (at old ≡ None → at' old' ≡ None) → Takes plain' Is' spell' at' r old' new'
err_taken {T} {U} (Broken rule) y r plain Is spell at plain' Is' spell' at' old new old' new' is same taken missing =
    subst (λ (z : Result U HeldFault). Takes plain' Is' spell' at' z old' new') (sym (is ∙ ap Err same)) (taken.0, missing taken.1)
err_taken {T} {U} OutOfMemory y r plain Is spell at plain' Is' spell' at' old new old' new' is same taken missing =
    subst (λ (z : Result U HeldFault). Takes plain' Is' spell' at' z old' new') (sym (is ∙ ap Err same)) tt

-- ---- parts in a row

pub flat2 : (a b s : List ℕ) → (a ++ b) ++ s ≡ a ++ (b ++ s)
flat2 a b s = append_assoc a b s

pub flat3 : (a b c s : List ℕ) → ((a ++ b) ++ c) ++ s ≡ a ++ (b ++ (c ++ s))
flat3 a b c s = simp append_assoc

pub flat4 : (a b c d s : List ℕ) → (((a ++ b) ++ c) ++ d) ++ s ≡ a ++ (b ++ (c ++ (d ++ s)))
flat4 a b c d s = simp append_assoc

pub flat5 : (a b c d e s : List ℕ) → ((((a ++ b) ++ c) ++ d) ++ e) ++ s ≡ a ++ (b ++ (c ++ (d ++ (e ++ s))))
flat5 a b c d e s = simp append_assoc

-- ---- two lists, place by place

pub zip_more : {A B : Type 0} (R : A → B → Type 0) (xs : List A) (ys : List B) (x : A) (y : B) → AllZip R xs ys → R x y → AllZip R (xs ++ x ∷ []) (ys ++ y ∷ [])
zip_more R [] [] x y zip here = (here, tt)
zip_more R [] (b ∷ ys) x y zip here = absurd zip
zip_more R (a ∷ xs) [] x y zip here = absurd zip
zip_more R (a ∷ xs) (b ∷ ys) x y zip here = (zip.0, zip_more R xs ys x y zip.1 here)

pub zip_next : {X A B : Type 0} (R : A → B → Type 0) (view : X → A) (xs : List X) (i : ℕ) (d : X) (ys : List B) (y : B)
    → AllZip R (map view (take i xs)) ys → i < length xs → R (view (get_or xs i d)) y → AllZip R (map view (take (i + 1) xs)) (ys ++ y ∷ [])
zip_next R view xs i d ys y zip below here =
    let x = get_or xs i d in
    let listed : map view (take (i + 1) xs) ≡ map view (take i xs) ++ view x ∷ [] = ap (λ zs. map view zs) (take_at_read xs i d below).1 ∙ map-append view (take i xs) (x ∷ []) in
    subst (λ zs. AllZip R zs (ys ++ y ∷ [])) (sym listed) (zip_more R (map view (take i xs)) ys (view x) y zip here)
