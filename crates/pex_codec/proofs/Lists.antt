-- What holds of each item of a list, and the bytes of each item, over a loop.
use Rattle.std.proofs.Common.{◌≡◌, ℕ, ◌+◌, ◌<◌, List, [], ◌∷◌, ◌++◌, length, get_or, take, map, refl, sym, ap, subst, ◌∙◌, append_assoc}
use Rattle.std.specs.Prelude.{Result, Ok, Err}
use Rattle.pex_values.specs.Fit.{IsCounted}
use Rattle.pex_values.proofs.Parts.{flat_map-map, each_view}
use Rattle.pex_codec.specs.Writing.{Writes, FitEach, FitsAsList}
use Rattle.pex_codec.specs.declared.faults.EncodeFault.{EncodeFault}
use Rattle.pex_codec.specs.declared.faults.EncodeFault.TheVariants.{TooManyItems, OutOfMemory}
use Rattle.pex_values.specs.Spelling.{list}
use Rattle.std.proofs.lemmas.List.{length-map}
use Rattle.std.specs.List.{flat_map, AllByRecursion}
use Rattle.std.proofs.lemmas.List.Elements.{All-from_recursion, recursion_from_All, All-more}

-- the first i items fit, and their bytes were written
pub record WroteFirst {X : Type 0} (P : X → Type 0) (spell : X → List ℕ) (old : List ℕ) (xs : List X) (i : ℕ) (new : List ℕ) : Type 0 where
  pub each : AllByRecursion P (take i xs)
  pub written : new ≡ old ++ flat_map spell (take i xs)

-- a list of what a view shows

pub list-map : {X Y : Type 0} (f : Y → List ℕ) (view : X → Y) (xs : List X) → list f (map view xs) ≡ list (λ x. f (view x)) xs
list-map f view xs = rw (length-map xs view, flat_map-map f view xs) refl

pub each_viewed : {X Y : Type 0} (P : Y → Type 0) (view : X → Y) (xs : List X) → AllByRecursion P (map view xs) → AllByRecursion (λ x. P (view x)) xs
each_viewed P view [] each = tt
each_viewed P view (x ∷ xs) each = (each.0, each_viewed P view xs each.1)

-- what writing a list of values did, said of what a view shows of them
pub Writes-viewed : {T X Y : Type 0} (r : Result T EncodeFault) (old new : List ℕ) (P : Y → Type 0) (f : Y → List ℕ) (view : X → Y) (xs : List X)
    → Writes r old new (FitEach (λ x. P (view x)) xs) (list (λ x. f (view x)) xs) → Writes r old new (FitEach P (map view xs)) (list f (map view xs))
Writes-viewed (Ok x) old new P f view xs wrote =
    ((rw (length-map xs view) wrote.0.0, each_view P view xs wrote.0.1), rw (list-map f view xs) wrote.1)
Writes-viewed (Err TooManyItems) old new P f view xs wrote = λ fit. wrote (rw (length-map xs view) at fit.0, each_viewed P view xs fit.1)
Writes-viewed (Err OutOfMemory) old new P f view xs wrote = tt

-- the same, where what a list must be is said in another way
pub Writes-said : {T X : Type 0} (r : Result T EncodeFault) (old new : List ℕ) (P : X → Type 0) (ListFits : List X → Type 0) (bytes : List ℕ) (xs : List X)
    → FitsAsList P ListFits xs → Writes r old new (FitEach P xs) bytes → Writes r old new (ListFits xs) bytes
Writes-said (Ok x) old new P ListFits bytes xs said wrote = (said.fit wrote.0, wrote.1)
Writes-said (Err TooManyItems) old new P ListFits bytes xs said wrote = λ fit. wrote (said.all fit)
Writes-said (Err OutOfMemory) old new P ListFits bytes xs said wrote = tt

pub Writes-listed : {T X Y : Type 0} (r : Result T EncodeFault) (old new : List ℕ) (P : Y → Type 0) (ListFits : List Y → Type 0) (f : Y → List ℕ) (view : X → Y) (xs : List X) (ys : List Y)
    → ys ≡ map view xs → ((zs : List Y) → FitsAsList P ListFits zs)
    → Writes r old new (FitEach (λ x. P (view x)) xs) (list (λ x. f (view x)) xs) → Writes r old new (ListFits ys) (list f ys)
Writes-listed r old new P ListFits f view xs ys is said wrote =
    subst (λ (zs : List _). Writes r old new (ListFits zs) (list f zs)) (sym is)
    (Writes-said r old new P ListFits (list f (map view xs)) (map view xs) (said (map view xs)) (Writes-viewed r old new P f view xs wrote))

-- four parts, one after another
pub four_parts : (o o1 o2 o3 o4 a b c d : List ℕ) → o1 ≡ o ++ a → o2 ≡ o1 ++ b → o3 ≡ o2 ++ c → o4 ≡ o3 ++ d → o4 ≡ o ++ (a ++ b ++ c ++ d)
four_parts o o1 o2 o3 o4 a b c d e1 e2 e3 e4 =
    e4
    ∙ ap (λ (x : List ℕ). x ++ d) (e3 ∙ ap (λ (x : List ℕ). x ++ c) (e2 ∙ ap (λ (x : List ℕ). x ++ b) e1))
    ∙ simp append_assoc
