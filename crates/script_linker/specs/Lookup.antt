-- What the look-ups of a set of scripts find, said of the list of its files.
use Rattle.std.specs.Prelude.{ℕ, ◌≡◌, ◌<◌, ◌≤◌, List, [], ◌∷◌, take, codes, length, map, Option, Some, None, option_and_then, slice_get, slice_index_or}
use Rattle.papy_base.specs.Case.{folded}
use Rattle.papy_base.specs.Lineage.{StandsAbove, parent_of}
use Rattle.script_parser.specs.declared.script.Script.{Script}
use Rattle.script_parser.specs.declared.script.Function.{Function}
use Rattle.script_parser.specs.declared.script.Property.{Property}
use Rattle.script_linker.specs.declared.set.SourceFile.{SourceFile}
use Rattle.papy_base.specs.Table.{place_of}

abbrev pub script_name : SourceFile → List ℕ
script_name file = file.script.name

-- the number of the first script of this name
abbrev pub script_named : List SourceFile → List ℕ → Option ℕ
script_named files name = place_of script_name files (folded name)

-- the number of a script's parent
abbrev pub parent_in : List SourceFile → SourceFile → Option ℕ
parent_in files file = option_and_then (script_named files) file.script.parent

-- the parent's number of each script
abbrev pub parents_of : List SourceFile → List (Option ℕ)
parents_of files = map (parent_in files) files

-- no script stands above itself
abbrev pub HasNoCircle : List (Option ℕ) → Type 0
HasNoCircle parents = (n p : ℕ) → parent_of parents n ≡ Some p → ¬ StandsAbove parents p n

abbrev pub function_name : Function → List ℕ
function_name function = function.heading.name

abbrev pub property_name : Property → List ℕ
property_name property = property.name

-- the place of the function of this name in the empty state of the script n
abbrev pub own_function : List SourceFile → List ℕ → ℕ → Option ℕ
own_function files name n = option_and_then (λ file. place_of function_name file.script.functions.items (folded name)) (slice_get files n)

-- the place of the property of this name in the script n
abbrev pub own_property : List SourceFile → List ℕ → ℕ → Option ℕ
own_property files name n = option_and_then (λ file. place_of property_name file.script.properties.items (folded name)) (slice_get files n)

-- a script of the set, and a place among its functions
abbrev pub IsFunctionOf : List SourceFile → ℕ × ℕ → Type 0
IsFunctionOf files (n, place) = (n < length files) × ((file : SourceFile) → place < length (slice_index_or files n file).script.functions.items)

-- a script of the set, and a place among its properties
abbrev pub IsPropertyOf : List SourceFile → ℕ × ℕ → Type 0
IsPropertyOf files (n, place) = (n < length files) × ((file : SourceFile) → place < length (slice_index_or files n file).script.properties.items)

-- the names of the prelude's scripts, and their parents
abbrev pub prelude_names : List (List ℕ)
prelude_names =
    codes "Debug" ∷ codes "Utility" ∷ codes "Scene" ∷ codes "Form" ∷ codes "Quest" ∷ codes "ObjectReference" ∷ []

abbrev pub prelude_parents : List (Option (List ℕ))
prelude_parents = None ∷ None ∷ None ∷ None ∷ Some (codes "Form") ∷ Some (codes "Form") ∷ []

abbrev pub script_parent : SourceFile → Option (List ℕ)
script_parent file = file.script.parent

-- the first six scripts have the names and parents of the prelude's
pub record StartsWithPrelude (files : List SourceFile) : Type 0 where
  pub count : 6 ≤ length files
  pub names : map script_name (take 6 files) ≡ prelude_names
  pub parents : map script_parent (take 6 files) ≡ prelude_parents

-- of the first six scripts only Quest and ObjectReference have a parent, which is Form
abbrev pub HasPreludeParents : List (Option ℕ) → Type 0
HasPreludeParents parents = (n p : ℕ) → n < 6 → parent_of parents n ≡ Some p → (3 < n) × (p ≡ 3)

-- the places of a script's functions and properties have 16 bits
abbrev pub HasFewMembers : Script → Type 0
HasFewMembers script = (length script.functions.items < 65536) × (length script.properties.items < 65536)

abbrev pub HasSmallScript : SourceFile → Type 0
HasSmallScript file = HasFewMembers file.script

-- so do the numbers of scripts
pub record HasNumbers (files : List SourceFile) : Type 0 where
  pub scripts : length files < 65536
  pub members : (n : ℕ) (file : SourceFile) → n < length files → HasSmallScript (slice_index_or files n file)
