-- The words of the kinds of values.
use Rattle.std.specs.Prelude.{ℕ, List, codes}
use Rattle.pex_listing.specs.declared.fields.ValueKind.{ValueKind}
use Rattle.pex_listing.specs.declared.fields.ValueKind.TheVariants.{Nothing, Name, Text, Integer, Real, Truth}

-- the first field of a value of this kind
abbrev pub kind_field : ValueKind → List ℕ
kind_field Nothing = codes " none"
kind_field Name = codes " id"
kind_field Text = codes " text"
kind_field Integer = codes " int"
kind_field Real = codes " float"
kind_field Truth = codes " bool"
