-- What the prelude's objects lack.
use Rattle.std.specs.Prelude.{◌≡◌, []}
use Rattle.pex_values.specs.declared.values.PexObject.{PexObject}

abbrev pub HasNoProperties : PexObject → Type 0
HasNoProperties object = object.properties.items ≡ []
