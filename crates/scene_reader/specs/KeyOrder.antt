-- Objects whose keys stand once each, in the order of their bytes.
use Rattle.std.specs.Prelude.{◌≡◌, ℕ, List}
use Rattle.std.specs.Ordering.{nat_cmp}
use Rattle.std.specs.Cmp.Lexicographic.{slice_cmp}
use Rattle.std.specs.declared.cmp.Ordering.TheVariants.{Less}
use Rattle.serde_json.specs.Data.{Data, null, boolean, number, string, array, object, Items, no_items, item, Members, no_members, member}

-- the key stands before all of these
abbrev pub Before : List ℕ → Members → Type 0
Before k no_members = Unit {0}
Before k (member l e ms) = (slice_cmp nat_cmp k l ≡ Less) × Before k ms

-- in every object of the value each key stands before those behind it
abbrev mutual
  pub IsOrdered : Data → Type 0
  IsOrdered null = Unit {0}
  IsOrdered (boolean b) = Unit {0}
  IsOrdered (number n) = Unit {0}
  IsOrdered (string s) = Unit {0}
  IsOrdered (array ds) = AreItemsOrdered ds
  IsOrdered (object ms) = AreOrdered ms

  pub AreItemsOrdered : Items → Type 0
  AreItemsOrdered no_items = Unit {0}
  AreItemsOrdered (item d ds) = IsOrdered d × AreItemsOrdered ds

  pub AreOrdered : Members → Type 0
  AreOrdered no_members = Unit {0}
  AreOrdered (member k d ms) = Before k ms × IsOrdered d × AreOrdered ms
