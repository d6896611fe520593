-- Places of names that were noted.
use Rattle.std.proofs.Common.{◌≡◌, ℕ, ◌+◌, ◌<◌, ◌⊎◌, inl, inr, zero, suc, List, [], ◌∷◌, ◌++◌, length, set, take, replicate, Option, Some, None, refl, sym, ap, subst, ◌∙◌, arith}
use Rattle.std.specs.Prelude.{slice_get}
use Rattle.core_tree.specs.declared.core_type.CoreType.{CoreType}
use Rattle.core_tree.specs.declared.core_type.CoreType.TheVariants as kinds
use Rattle.pex_values.specs.Shape.{IsReference}
use Rattle.code_emit.specs.declared.strings.Numbered.{Numbered}
use Rattle.code_emit.specs.declared.strings.Numbered.TheVariants as numbered
use Rattle.code_emit.specs.Strings.{Home, Table, AreNamed, AreNoted, ReadsName, name_of, noted_at, type_number}

positive : (a : CoreType) → 0 < type_number (Some a)
positive kinds.Int = omega arith
positive kinds.Bool = omega arith
positive kinds.Text = omega arith
positive kinds.IntArray = omega arith
positive kinds.BoolArray = omega arith
positive kinds.TextArray = omega arith
positive (kinds.Script n) = omega arith
positive (kinds.ScriptArray n) = omega arith

type_is : (a b : CoreType) → type_number (Some a) ≡ type_number (Some b) → a ≡ b
type_is kinds.Int kinds.Int e = refl
type_is kinds.Bool kinds.Bool e = refl
type_is kinds.Text kinds.Text e = refl
type_is kinds.IntArray kinds.IntArray e = refl
type_is kinds.BoolArray kinds.BoolArray e = refl
type_is kinds.TextArray kinds.TextArray e = refl
type_is (kinds.Script n) (kinds.Script m) e =
    let same : n ≡ m = omega (arith, e) in
    ap (λ (k : ℕ). kinds.Script k) same
type_is (kinds.ScriptArray n) (kinds.ScriptArray m) e =
    let same : n ≡ m = omega (arith, e) in
    ap (λ (k : ℕ). kinds.ScriptArray k) same
type_is a b e = absurd (omega (arith, e))

kind_is : (a b : Option CoreType) → type_number a ≡ type_number b → a ≡ b
kind_is None None e = refl
kind_is (Some a) (Some b) e = ap (λ (k : CoreType). Some k) (type_is a b e)
kind_is None (Some b) e = absurd (omega (arith, positive b, e))
kind_is (Some a) None e = absurd (omega (arith, positive a, e))

name_is : (home : Home) (a b : Numbered) → noted_at a ≡ noted_at b → name_of home a ≡ name_of home b
name_is home numbered.OwnInstance numbered.OwnInstance e = refl
name_is home (numbered.Type a) (numbered.Type b) e =
    let same : type_number a ≡ type_number b = omega (arith, e) in
    ap (λ (k : Option CoreType). name_of home (numbered.Type k)) (kind_is a b same)
name_is home (numbered.Variable n) (numbered.Variable m) e =
    let same : n ≡ m = omega (arith, e) in
    ap (λ (k : ℕ). name_of home (numbered.Variable k)) same
name_is home (numbered.Local n) (numbered.Local m) e =
    let same : n ≡ m = omega (arith, e) in
    ap (λ (k : ℕ). name_of home (numbered.Local k)) same
name_is home a b e = absurd (omega (arith, e))

set_read : (xs : List (Option ℕ)) (at k : ℕ) (v x : Option ℕ) → slice_get (set xs at v) k ≡ Some x → ((k ≡ at) × (x ≡ v)) ⊎ (slice_get xs k ≡ Some x)
set_read [] at k v x is = inr is
set_read (y ∷ ys) zero zero v x is = let same : x ≡ v = cc in inl (refl, same)
set_read (y ∷ ys) zero (suc k) v x is = inr is
set_read (y ∷ ys) (suc at) zero v x is = inr is
set_read (y ∷ ys) (suc at) (suc k) v x is = elim (set_read ys at k v x is) [
  | inl here ↦ inl (ap (λ (n : ℕ). suc n) here.0, here.1)
  | inr was ↦ inr was
]

nothing_read : (m k p : ℕ) → slice_get (replicate m None) k ≡ Some (Some p) → ⊥
nothing_read zero k p is = cc
nothing_read (suc m) zero p is = cc
nothing_read (suc m) (suc k) p is = nothing_read m k p is

longer_read : (n : ℕ) (xs : List (Option ℕ)) (m k p : ℕ) → slice_get (take n xs ++ replicate m None) k ≡ Some (Some p) → slice_get xs k ≡ Some (Some p)
longer_read zero xs m k p is = absurd (nothing_read m k p is)
longer_read (suc n) [] m k p is = absurd (nothing_read m k p is)
longer_read (suc n) (x ∷ xs) m zero p is = is
longer_read (suc n) (x ∷ xs) m (suc k) p is = longer_read n xs m k p is

-- ---- each place that is noted
pub set_noted : (strings : ℕ) (xs : List (Option ℕ)) (at place : ℕ) → AreNoted strings xs → IsReference strings place → AreNoted strings (set xs at (Some place))
set_noted strings [] at place all is = tt
set_noted strings (x ∷ xs) zero place all is = (is, all.1)
set_noted strings (x ∷ xs) (suc at) place all is = (all.0, set_noted strings xs at place all.1 is)

nothing_noted : (strings m : ℕ) → AreNoted strings (replicate m None)
nothing_noted strings zero = tt
nothing_noted strings (suc m) = (tt, nothing_noted strings m)

pub longer_noted : (strings n : ℕ) (xs : List (Option ℕ)) (m : ℕ) → AreNoted strings xs → AreNoted strings (take n xs ++ replicate m None)
longer_noted strings zero xs m all = nothing_noted strings m
longer_noted strings (suc n) [] m all = nothing_noted strings m
longer_noted strings (suc n) (x ∷ xs) m all = (all.0, longer_noted strings n xs m all.1)

-- ---- each place that is noted of a name
pub set_named : (t : Table) (noted : List (Option ℕ)) (name : Numbered) (at place : ℕ) → at ≡ noted_at name → AreNamed t noted → ReadsName t.strings place (name_of t.home name) → AreNamed t (set noted at (Some place))
set_named t noted name at place here are named other p is =
    elim (set_read noted at (noted_at other) (Some place) (Some p) is) [
      | inl found ↦
          let same : p ≡ place = cc (found.1) in
          let P : ℕ → Type 0 = λ k. ReadsName t.strings k (name_of t.home other) in
          let Q : Option (List ℕ) → Type 0 = λ n. ReadsName t.strings place n in
          subst P (sym same) (subst Q (sym (name_is t.home other name (found.0 ∙ here))) named)
      | inr there ↦ are other p there
    ]

pub longer_named : (t : Table) (n : ℕ) (noted : List (Option ℕ)) (m : ℕ) → AreNamed t noted → AreNamed t (take n noted ++ replicate m None)
longer_named t n noted m are other p is = are other p (longer_read n noted m (noted_at other) p is)
