-- What `show` writes.
use Rattle.std.specs.Prelude.{◌≡◌, ℕ, List}
use Rattle.pex_codec.specs.Spells.{Spells}
use Rattle.pex_listing.specs.Listing.{listing}
use Rattle.pex_values.specs.Plain.{PlainPex}

-- the text is the listing of the value that the bytes spell
abbrev pub Lists : List ℕ → List ℕ → Type 0
Lists bytes text = (value : PlainPex) × Spells value bytes × (text ≡ listing value)
