-- Lists that are made of rows, one after the other.
use Rattle.std.proofs.Common.{◌≡◌, ℕ, ◌+◌, ◌<◌, List, [], ◌∷◌, ◌++◌, length, get_or, map, take, ap, sym, ◌∙◌}
use Rattle.std.proofs.lemmas.List.{map-append, take_more}

pub listed_more : {X Y : Type 0} (g : Y → X) (made : List X) (x : X) (rows : List Y) (i : ℕ) (d : Y) → i < length rows → made ≡ map g (take i rows) → x ≡ g (get_or rows i d) → made ++ x ∷ [] ≡ map g (take (i + 1) rows)
listed_more g made x rows i d less before here =
    ap (λ l. l ++ x ∷ []) before
    ∙ ap (λ z. map g (take i rows) ++ z ∷ []) here
    ∙ sym (map-append g (take i rows) (get_or rows i d ∷ []))
    ∙ ap (map g) (sym (take_more rows i d less))

pub made_more : {X Y Z : Type 0} (f : X → Z) (g : Y → Z) (made : List X) (x : X) (rows : List Y) (i : ℕ) (d : Y) → i < length rows → map f made ≡ map g (take i rows) → f x ≡ g (get_or rows i d) → map f (made ++ x ∷ []) ≡ map g (take (i + 1) rows)
made_more f g made x rows i d less before here =
    map-append f made (x ∷ []) ∙ listed_more g (map f made) (f x) rows i d less before here
