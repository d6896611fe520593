-- The objects of a set, with their names and parents as numbers.
use Rattle.std.specs.Prelude.{◌≡◌, ℕ, ◌==◌, List, ◌++◌, Option, None, map, position, slice_index_or, if◌then◌else◌}
use Rattle.pex_values.specs.declared.values.PexObject.{PexObject}
use Rattle.pex_set.specs.Names.{empty_name}
use Rattle.pex_set.specs.declared.objects.Head.{Head}

-- what is known of an object of this file, whose strings have these numbers
abbrev pub head_of : List ℕ → ℕ → PexObject → Head
head_of names file object = record {
  file = file;
  title = object.name;
  name = slice_index_or names object.name empty_name;
  parent = slice_index_or names object.parent empty_name;
}

-- the objects of one more file, whose strings have these numbers, go behind those that are there
abbrev pub AddsFile : List Head → List ℕ → List PexObject → List Head → Type 0
AddsFile before names objects after = (file : ℕ) × (after ≡ before ++ map (head_of names file) objects)

-- the first object of this name
abbrev pub first_named : List Head → ℕ → Option ℕ
first_named heads name = position (λ head. head.name == name) heads

-- the object's parent, none where it names none or one that is not there
abbrev pub parent_in : List Head → Head → Option ℕ
parent_in heads head = if head.parent == empty_name then None else first_named heads head.parent

-- the parent of each object
abbrev pub parents_in : List Head → List (Option ℕ)
parents_in heads = map (parent_in heads) heads
