-- Lists that grow side by side.
use Rattle.std.proofs.Common.{◌≡◌, ℕ, ◌+◌, ◌<◌, ◌≤◌, Bool, true, false, List, [], ◌∷◌, ◌++◌, length, get_or, map, take, refl, sym, ap, subst, ◌∙◌, ⊎_elim, length-append, arith}
use Rattle.std.proofs.lemmas.Bool.{cases_lt}
use Rattle.std.proofs.lemmas.List.{append_assoc, get_or_append_left, map-append, take_more}
use Rattle.std.specs.List.{position_or_len}
use Rattle.std.proofs.lemmas.List.Sums.{position_or_len_is}
use Rattle.std.proofs.Math.Seq.{get_or-append_seam}
use Rattle.pex_verify.specs.Pairs.{Paired}

-- one item more of a list
pub take_next : {Y : Type 0} (ys : List Y) (i : ℕ) (y d : Y) → i < length ys → y ≡ get_or ys i d → take (i + 1) ys ≡ take i ys ++ y ∷ []
take_next {Y} ys i y d within is = take_more ys i d within ∙ ap (λ (x : Y). take i ys ++ x ∷ []) (sym is)

pub map_next : {X Y Z : Type 0} (f : X → Z) (g : Y → Z) (xs later : List X) (ys : List Y) (i : ℕ) (x : X) (y d : Y) → later ≡ xs ++ x ∷ [] → i < length ys → y ≡ get_or ys i d
    → map f xs ≡ map g (take i ys) → f x ≡ g y → map f later ≡ map g (take (i + 1) ys)
map_next {X} {Y} {Z} f g xs later ys i x y d grown within is before here =
    ap (map f) grown
    ∙ map-append f xs (x ∷ [])
    ∙ ap (λ (zs : List Z). zs ++ f x ∷ []) before
    ∙ ap (λ (z : Z). map g (take i ys) ++ z ∷ []) here
    ∙ sym (map-append g (take i ys) (y ∷ []))
    ∙ ap (map g) (sym (take_next ys i y d within is))

-- the same where the first list is made of what it is compared with
pub list_next : {Y Z : Type 0} (g : Y → Z) (zs later : List Z) (ys : List Y) (i : ℕ) (z : Z) (y d : Y) → later ≡ zs ++ z ∷ [] → i < length ys → y ≡ get_or ys i d
    → zs ≡ map g (take i ys) → z ≡ g y → later ≡ map g (take (i + 1) ys)
list_next {Y} {Z} g zs later ys i z y d grown within is before here =
    grown
    ∙ ap (λ (xs : List Z). xs ++ z ∷ []) before
    ∙ ap (λ (x : Z). map g (take i ys) ++ x ∷ []) here
    ∙ sym (map-append g (take i ys) (y ∷ []))
    ∙ ap (map g) (sym (take_next ys i y d within is))

-- what stands behind a beginning
pub behind_next : {X Z : Type 0} (f : X → Z) (start zs more : List Z) (xs later : List X) (x : X) → more ≡ zs ++ f x ∷ [] → later ≡ xs ++ x ∷ []
    → zs ≡ start ++ map f xs → more ≡ start ++ map f later
behind_next {X} {Z} f start zs more xs later x grown also before =
    grown
    ∙ ap (λ (l : List Z). l ++ f x ∷ []) before
    ∙ append_assoc start (map f xs) (f x ∷ [])
    ∙ ap (λ (l : List Z). start ++ l) (sym (map-append f xs (x ∷ [])))
    ∙ ap (λ (l : List X). start ++ map f l) (sym also)

pub Paired-none : (X Y : Type 0) (P : ℕ → X → Y → Type 0) → Paired X Y P [] []
Paired-none X Y P = record { count = refl; each = λ k a b h. absurd (omega (arith, h)) }

pub Paired-push : (X Y : Type 0) (P : ℕ → X → Y → Type 0) (xs : List X) (ys : List Y) (x : X) (y : Y) → Paired X Y P xs ys → P (length ys) x y → Paired X Y P (xs ++ x ∷ []) (ys ++ y ∷ [])
Paired-push X Y P xs ys x y old here =
    let long_x = length-append xs (x ∷ []) in
    let long_y = length-append ys (y ∷ []) in
    let count : length xs ≡ length ys = old.count in
    record {
      count = omega arith;
      each = λ k a b h.
          ⊎_elim
          (λ (l : k < length ys).
          let short : k < length xs = omega arith in
          subst (λ (v : X). P k v (get_or (ys ++ y ∷ []) k b)) (sym (get_or_append_left xs (x ∷ []) a k short))
          (subst (λ (w : Y). P k (get_or xs k a) w) (sym (get_or_append_left ys (y ∷ []) b k l)) (old.each k a b l)))
          (λ (g : length ys ≤ k).
          let same : k ≡ length ys = omega arith in
          let also : k ≡ length xs = omega arith in
          let first : get_or (xs ++ x ∷ []) k a ≡ x = ap (λ (n : ℕ). get_or (xs ++ x ∷ []) n a) also ∙ get_or-append_seam xs x [] a in
          let last : get_or (ys ++ y ∷ []) k b ≡ y = ap (λ (n : ℕ). get_or (ys ++ y ∷ []) n b) same ∙ get_or-append_seam ys y [] b in
          let number : P k x y = subst (λ (n : ℕ). P n x y) (sym same) here in
          subst (λ (v : X). P k v (get_or (ys ++ y ∷ []) k b)) (sym first) (subst (λ (w : Y). P k x w) (sym last) number))
          (cases_lt k (length ys));
    }

-- as a loop over the first list goes on and the second one grows
pub Paired-next : (X Y : Type 0) (P : ℕ → X → Y → Type 0) (xs : List X) (ys later : List Y) (i : ℕ) (x d : X) (y : Y) → later ≡ ys ++ y ∷ [] → i < length xs → x ≡ get_or xs i d
    → Paired X Y P (take i xs) ys → P (length ys) x y → Paired X Y P (take (i + 1) xs) later
Paired-next X Y P xs ys later i x d y grown within is old here =
    subst (λ (zs : List Y). Paired X Y P (take (i + 1) xs) zs) (sym grown)
    (subst (λ (zs : List X). Paired X Y P zs (ys ++ y ∷ [])) (sym (take_next xs i x d within is)) (Paired-push X Y P (take i xs) ys x y old here))

-- the same where the first list is made of the one that the loop goes over
pub Paired-mapped : (W X Y : Type 0) (P : ℕ → X → Y → Type 0) (f : W → X) (ws : List W) (ys later : List Y) (i : ℕ) (w d : W) (y : Y) → later ≡ ys ++ y ∷ [] → i < length ws → w ≡ get_or ws i d
    → Paired X Y P (map f (take i ws)) ys → P (length ys) (f w) y → Paired X Y P (map f (take (i + 1) ws)) later
Paired-mapped W X Y P f ws ys later i w d y grown within is old here =
    let wider : map f (take i ws) ++ f w ∷ [] ≡ map f (take (i + 1) ws) = sym (map-append f (take i ws) (w ∷ [])) ∙ ap (map f) (sym (take_next ws i w d within is)) in
    subst (λ (zs : List Y). Paired X Y P (map f (take (i + 1) ws)) zs) (sym grown)
    (subst (λ (zs : List X). Paired X Y P zs (ys ++ y ∷ [])) wider (Paired-push X Y P (map f (take i ws)) ys (f w) y old here))

-- the first place that passes a test
pub first_place : {X : Type 0} (p : X → Bool) (xs : List X) (i : ℕ) → i ≤ length xs → ((k : ℕ) (d : X) → k < i → p (get_or xs k d) ≡ false) → ((d : X) → i < length xs → p (get_or xs i d) ≡ true) → i ≡ position_or_len p xs
first_place p [] i within before here = omega arith
first_place p (x ∷ xs) i within before here =
    sym (position_or_len_is p (x ∷ xs) i x within (λ k h. before k x h) (here x))
