-- Ranks of objects, by which an object is followed at once by all that stand below it.
use Rattle.std.specs.Prelude.{◌≡◌, ℕ, ◌<◌, ◌≤◌, ◌⊎◌, ◌==◌, Bool, true, ◌&&◌, ◌||◌, List, length, Option, nat_le, nat_lt, slice_index_or}
use Rattle.papy_base.specs.declared.descent.Span.{Span}
use Rattle.papy_base.specs.Lineage.{stands_below}

abbrev pub no_ranks : Span
no_ranks = record { start = 0; end = 0 }

-- whether the rank is one of the span
abbrev pub has : Span → ℕ → Bool
has span rank = nat_le span.start rank && nat_lt rank span.end

-- the ranks of an object and of all below it
abbrev pub span_at : List Span → ℕ → Span
span_at spans object = slice_index_or spans object no_ranks

-- whether an object is the other one or stands below it
abbrev pub is_below : List Span → ℕ → ℕ → Bool
is_below spans object above = object == above || has (span_at spans above) (span_at spans object).start

-- all ranks of the first are the other's
abbrev pub IsWithin : Span → Span → Type 0
IsWithin inner outer = (outer.start ≤ inner.start) × (inner.end ≤ outer.end)

-- no rank is one of both
abbrev pub AreApart : Span → Span → Type 0
AreApart a b = (a.end ≤ b.start) ⊎ (b.end ≤ a.start)

-- ranks of the objects: each has one of its own, those of all below it follow at once, and no others do
pub record IsDescentOf (parents : List (Option ℕ)) (spans : List Span) : Type 0 where
  pub within : (object : ℕ) → object < length parents → ((span_at spans object).start < (span_at spans object).end) × ((span_at spans object).end ≤ length parents)
  pub nested : (child above : ℕ) → child < length parents → stands_below parents child above ≡ true → ((span_at spans above).start ≤ (span_at spans child).start) × ((span_at spans child).end ≤ (span_at spans above).end)
  pub only : (child above : ℕ) → child < length parents → above < length parents → has (span_at spans above) (span_at spans child).start ≡ true → stands_below parents child above ≡ true
