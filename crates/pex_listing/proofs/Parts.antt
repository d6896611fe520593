-- Parts that are read one after another.
use Rattle.std.proofs.Common.{◌≡◌, ℕ, ◌<◌, ◌≤◌, ◌^◌, List, [], ◌∷◌, ◌++◌, length, map, sym, ap, ◌∙◌, subst, length-append, arith}
use Rattle.std.specs.List.{flat_map, AllByRecursion}
use Rattle.std.proofs.lemmas.List.{flat_map_more, length-map}
use Rattle.pex_values.proofs.Parts.{flat_map-map}
use Rattle.pex_values.specs.declared.values.Datum.{Datum}
use Rattle.pex_values.specs.declared.values.Datum.TheVariants.{NoneValue, Word, Quoted, Int, Float, Bool as BoolByte}
use Rattle.pex_values.specs.Spelling as spell
use Rattle.pex_listing.specs.declared.listing.Listing.{Listing}
use Rattle.pex_listing.specs.Opened.{Gives, Takes, Good, TakesLines}
use Rattle.pex_listing.specs.Reading.{ReadsAll}
use Rattle.pex_listing.proofs.Taken.{takes_nothing, takes_one_more, lines_nothing, lines_more, lines_as}

all_and : {X : Type 0} (Holds : X → Type 0) (xs : List X) (x : X) → AllByRecursion Holds xs → Holds x → AllByRecursion Holds (xs ++ x ∷ [])
all_and Holds [] x all holds = (holds, tt)
all_and Holds (y ∷ ys) x all holds = (all.0, all_and Holds ys x all.1 holds)

-- ---- values of a line, of which the list grows

pub record ReadsFields {X : Type 0} (Holds : X → Type 0) (form spelling : X → List ℕ) (old new : Listing) (xs : List X) : Type 0 where
  pub takes : Takes (flat_map form xs) (length (flat_map spelling xs)) old new
  pub each : Good new → AllByRecursion Holds xs

pub fields_nothing : {X : Type 0} (Holds : X → Type 0) (form spelling : X → List ℕ) (l : Listing) (xs : List X) → xs ≡ [] → ReadsFields Holds form spelling l l xs
fields_nothing Holds form spelling l xs none = subst (ReadsFields Holds form spelling l l) (sym none) (record { takes = takes_nothing l; each = λ good. tt })

pub fields_more : {X : Type 0} {Holds : X → Type 0} {form spelling : X → List ℕ} {old between new : Listing} {xs : List X} (x : X) (ys : List X) → ReadsFields Holds form spelling old between xs
    → Gives (Holds x) (form x) (length (spelling x)) between new → ys ≡ xs ++ x ∷ [] → ReadsFields Holds form spelling old new ys
fields_more {X} {Holds} {form} {spelling} {old} {between} {new} {xs} x ys read gives is = subst (ReadsFields Holds form spelling old new) (sym is) (record {
  takes = takes_one_more form spelling xs x old between new read.takes gives.takes;
  each = λ good. all_and Holds xs x (read.each (gives.takes.good good)) (gives.holds good);
})

-- a value has a byte or more
datum_size : (d : Datum) → 0 < length (spell.datum d)
datum_size NoneValue = omega arith
datum_size (Word n) = omega arith
datum_size (Quoted n) = omega arith
datum_size (Int n) = omega arith
datum_size (Float n) = omega arith
datum_size (BoolByte n) = omega arith

pub few_values : (ds : List Datum) → length ds ≤ length (flat_map spell.datum ds)
few_values [] = omega arith
few_values (d ∷ ds) = omega (arith, length-append (spell.datum d) (flat_map spell.datum ds), few_values ds, datum_size d)

-- ---- lines

pub record ReadsLines {X : Type 0} (Holds : X → Type 0) (spelling lines : X → List ℕ) (old new : Listing) (xs : List X) : Type 0 where
  pub each : AllByRecursion Holds xs
  pub takes : TakesLines (flat_map lines xs) (length (flat_map spelling xs)) old new

pub lines_none : {X : Type 0} (Holds : X → Type 0) (spelling lines : X → List ℕ) (l : Listing) (xs : List X) → xs ≡ [] → ReadsLines Holds spelling lines l l xs
lines_none Holds spelling lines l xs none = subst (ReadsLines Holds spelling lines l l) (sym none) (record { each = tt; takes = lines_nothing l })

pub one_more : {X : Type 0} {Holds : X → Type 0} {spelling lines : X → List ℕ} {old between new : Listing} {xs : List X} (x : X) (ys : List X) → ReadsLines Holds spelling lines old between xs
    → Holds x → TakesLines (lines x) (length (spelling x)) between new → ys ≡ xs ++ x ∷ [] → ReadsLines Holds spelling lines old new ys
one_more {X} {Holds} {spelling} {lines} {old} {between} {new} {xs} x ys read holds takes is = subst (ReadsLines Holds spelling lines old new) (sym is) (record {
  each = all_and Holds xs x read.each holds;
  takes = lines_as (flat_map_more lines [] xs x) (sym (length-append (flat_map spelling xs) (spelling x)) ∙ ap length (flat_map_more spelling [] xs x)) (lines_more read.takes takes);
})

pub all_read : {X : Type 0} {Holds : X → Type 0} {spelling lines : X → List ℕ} {old new : Listing} {xs : List X} → ReadsLines Holds spelling lines old new xs → length xs < 2 ^ 16 → ReadsAll Holds spelling lines old new xs
all_read {X} {Holds} {spelling} {lines} {old} {new} {xs} read counted = record { each = read.each; counted = counted; takes = read.takes }

-- ---- parts that hold vectors, as what a view shows of them

pub record Viewed {Y : Type 0} (Shaped Fits : Y → Type 0) (spelling lines : Y → List ℕ) (old new : Listing) (ys : List Y) : Type 0 where
  pub shaped : AllByRecursion Shaped ys
  pub fits : AllByRecursion Fits ys
  pub counted : length ys < 2 ^ 16
  pub takes : TakesLines (flat_map lines ys) (length (flat_map spelling ys)) old new

each_shaped : {X Y : Type 0} (Shaped Fits : Y → Type 0) (view : X → Y) (xs : List X) → AllByRecursion (λ x. Shaped (view x) × Fits (view x)) xs → AllByRecursion Shaped (map view xs)
each_shaped Shaped Fits view [] each = tt
each_shaped Shaped Fits view (x ∷ xs) each = (each.0.0, each_shaped Shaped Fits view xs each.1)

each_fits : {X Y : Type 0} (Shaped Fits : Y → Type 0) (view : X → Y) (xs : List X) → AllByRecursion (λ x. Shaped (view x) × Fits (view x)) xs → AllByRecursion Fits (map view xs)
each_fits Shaped Fits view [] each = tt
each_fits Shaped Fits view (x ∷ xs) each = (each.0.1, each_fits Shaped Fits view xs each.1)

pub viewed : {X Y : Type 0} (Shaped Fits : Y → Type 0) (spelling lines : Y → List ℕ) (view : X → Y) (old new : Listing) (xs : List X)
    → ReadsAll (λ x. Shaped (view x) × Fits (view x)) (λ x. spelling (view x)) (λ x. lines (view x)) old new xs → Viewed Shaped Fits spelling lines old new (map view xs)
viewed Shaped Fits spelling lines view old new xs read = record {
  shaped = each_shaped Shaped Fits view xs read.each;
  fits = each_fits Shaped Fits view xs read.each;
  counted = rw (length-map xs view) read.counted;
  takes = lines_as (sym (flat_map-map lines view xs)) (ap length (sym (flat_map-map spelling view xs))) read.takes;
}

pub read_as : {X : Type 0} (Holds : X → Type 0) (spelling lines : X → List ℕ) (old new : Listing) (xs : List X) → ReadsAll Holds spelling lines old new xs → ReadsAll Holds spelling lines old new xs
read_as Holds spelling lines old new xs read = read
