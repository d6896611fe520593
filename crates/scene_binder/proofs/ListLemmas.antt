-- Lists that grow beside the one that they are made from, and items by their places.
use Rattle.std.proofs.Common.{ℕ, ◌≡◌, ◌<◌, ◌≤◌, ◌+◌, List, [], ◌∷◌, ◌++◌, map, take, length, get_or, Some, sym, ap, subst, ◌∙◌}
use Rattle.std.specs.List.{AllZip}
use Rattle.std.proofs.lemmas.List.{map-append, take_all, take_more}
use Rattle.std.proofs.lemmas.Option.{same_Some, slice_get-get_or}

-- two readings of one place are one item
pub same_item : {X : Type 0} (xs : List X) (i : ℕ) (a b : X) → i < length xs → a ≡ get_or xs i a → b ≡ get_or xs i b → a ≡ b
same_item xs i a b lt first second =
    same_Some a b (ap Some first ∙ (sym (slice_get-get_or xs i a lt) ∙ (slice_get-get_or xs i b lt ∙ ap Some (sym second))))

-- one more item on both sides
pub map-push : {X Y Z : Type 0} (f : X → Z) (g : Y → Z) (xs : List X) (ys : List Y) (i : ℕ) (x : X) (y : Y) → map f xs ≡ map g (take i ys) → i < length ys → y ≡ get_or ys i y → f x ≡ g y
    → map f (xs ++ x ∷ []) ≡ map g (take (i + 1) ys)
map-push f g xs ys i x y h lt is same =
    let grown : take (i + 1) ys ≡ take i ys ++ y ∷ [] = take_more ys i y lt ∙ ap (λ z. take i ys ++ z ∷ []) (sym is) in
    map-append f xs (x ∷ []) ∙ (ap (λ zs. zs ++ f x ∷ []) h ∙ (ap (λ z. map g (take i ys) ++ z ∷ []) same ∙ sym (ap (map g) grown ∙ map-append g (take i ys) (y ∷ []))))

-- the same where the other side is the list itself
pub take-push : {X Y : Type 0} (f : X → Y) (xs : List X) (ys : List Y) (i : ℕ) (x : X) → map f xs ≡ take i ys → i < length ys → f x ≡ get_or ys i (f x) → map f (xs ++ x ∷ []) ≡ take (i + 1) ys
take-push f xs ys i x h lt is =
    map-append f xs (x ∷ []) ∙ (ap (λ zs. zs ++ f x ∷ []) h ∙ (ap (λ z. take i ys ++ z ∷ []) is ∙ sym (take_more ys i (f x) lt)))

-- one more on both sides of two lists that fit each other item by item
all_zip_push : {X Y : Type 0} (R : X → Y → Type 0) (xs : List X) (ys : List Y) (x : X) (y : Y) → AllZip R xs ys → R x y → AllZip R (xs ++ x ∷ []) (ys ++ y ∷ [])
all_zip_push R [] [] x y h own = (own, tt)
all_zip_push R [] (w ∷ ys) x y h own = absurd h
all_zip_push R (z ∷ xs) [] x y h own = absurd h
all_zip_push R (z ∷ xs) (w ∷ ys) x y h own = (h.0, all_zip_push R xs ys x y h.1 own)

-- the next item of the first list, and the one that was made of it
pub AllZip-next : {X Y : Type 0} (R : X → Y → Type 0) (xs : List X) (ys : List Y) (i : ℕ) (x : X) (y : Y) → i < length xs → x ≡ get_or xs i x → AllZip R (take i xs) ys → R x y → AllZip R (take (i + 1) xs) (ys ++ y ∷ [])
AllZip-next R xs ys i x y lt is h own =
    let grown : take (i + 1) xs ≡ take i xs ++ x ∷ [] = take_more xs i x lt ∙ ap (λ z. take i xs ++ z ∷ []) (sym is) in
    subst (λ zs. AllZip R zs (ys ++ y ∷ [])) (sym grown) (all_zip_push R (take i xs) ys x y h own)

-- all items of the first list
pub AllZip-done : {X Y : Type 0} (R : X → Y → Type 0) (xs : List X) (ys : List Y) (i : ℕ) → length xs ≤ i → AllZip R (take i xs) ys → AllZip R xs ys
AllZip-done R xs ys i past h = subst (λ zs. AllZip R zs ys) (take_all i xs past) h
