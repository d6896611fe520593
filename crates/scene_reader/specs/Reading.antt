-- What a part of a scene is read as, and how parts are put together.
use Rattle.std.specs.Prelude.{◌≡◌, ℕ, ◌&&◌, Bool, true, false, List, [], ◌∷◌, bytes_eq, if◌then◌else◌, Option, Some, None, Result, Ok, Err}
use Rattle.std.specs.List.{list_any}
use Rattle.serde_json.specs.Data.{Data, Items, no_items, item, Members, no_members, member}
use Rattle.serde_json.specs.Find.{as_array, as_object, get}
use Rattle.scene_reader.specs.declared.fault.PartFault.{PartFault}
use Rattle.scene_reader.specs.declared.fault.PartFault.TheVariants as faults

-- the part isn't of its form, or it is and passes a limit, or it is this
pub data Reading (T : Type 0) : Type 0 where
  Misshapen : Reading T
  Excessive : Reading T
  Fits : T → Reading T

abbrev pub reading_map : {A B : Type 0} → (A → B) → Reading A → Reading B
reading_map f Misshapen = Misshapen
reading_map f Excessive = Excessive
reading_map f (Fits a) = Fits (f a)

-- two parts: a form that one of them lacks counts more than a limit that the other passes
abbrev pub both : {A B : Type 0} → Reading A → Reading B → Reading (A × B)
both Misshapen second = Misshapen
both Excessive Misshapen = Misshapen
both Excessive Excessive = Excessive
both Excessive (Fits b) = Excessive
both (Fits a) second = reading_map (λ b. (a, b)) second

-- this, where it keeps its limit
abbrev pub within : {T : Type 0} → Bool → T → Reading T
within keeps t = if keeps then Fits t else Excessive

-- what is read, where that keeps a limit
abbrev pub limited : {T : Type 0} → (T → Bool) → Reading T → Reading T
limited keeps Misshapen = Misshapen
limited keeps Excessive = Excessive
limited keeps (Fits t) = within (keeps t) t

-- what stands at a key, where something must
abbrev pub there : {T : Type 0} → (Data → Reading T) → Option Data → Reading T
there read None = Misshapen
there read (Some value) = read value

abbrev pub needed : {T : Type 0} → List ℕ → (Data → Reading T) → Data → Reading T
needed key read value = there read (get key value)

-- what stands at a key, or this where nothing does
abbrev pub there_or : {T : Type 0} → T → (Data → Reading T) → Option Data → Reading T
there_or absent read None = Fits absent
there_or absent read (Some value) = read value

abbrev pub optional : {T : Type 0} → List ℕ → T → (Data → Reading T) → Data → Reading T
optional key absent read value = there_or absent read (get key value)

-- ---- objects

abbrev pub is_among : List (List ℕ) → List ℕ → Bool
is_among keys key = list_any (bytes_eq key) keys

abbrev pub have_only : List (List ℕ) → Members → Bool
have_only keys no_members = true
have_only keys (member key value more) = is_among keys key && have_only keys more

-- the value is an object without other keys than these
abbrev pub has_only : List (List ℕ) → Option Members → Bool
has_only keys None = false
has_only keys (Some members) = have_only keys members

-- what an object without other keys is read as
abbrev pub closed : {T : Type 0} → List (List ℕ) → (Data → Reading T) → Data → Reading T
closed keys read value = if has_only keys (as_object value) then read value else Misshapen

-- ---- lists

abbrev pub each_item : {T : Type 0} → (Data → Reading T) → Items → Reading (List T)
each_item read no_items = Fits []
each_item read (item value more) = reading_map (λ p. p.0 ∷ p.1) (both (read value) (each_item read more))

abbrev pub items_in : {T : Type 0} → (Data → Reading T) → Option Items → Reading (List T)
items_in read None = Misshapen
items_in read (Some items) = each_item read items

-- the items of an array
abbrev pub list : {T : Type 0} → (Data → Reading T) → Data → Reading (List T)
list read value = items_in read (as_array value)

abbrev pub each_member : {T : Type 0} → (List ℕ → Reading (List ℕ)) → (Data → Reading T) → Members → Reading (List (List ℕ × T))
each_member name read no_members = Fits []
each_member name read (member key value more) = reading_map (λ p. p.0 ∷ p.1) (both (both (name key) (read value)) (each_member name read more))

abbrev pub members_in : {T : Type 0} → (List ℕ → Reading (List ℕ)) → (Data → Reading T) → Option Members → Reading (List (List ℕ × T))
members_in name read None = Misshapen
members_in name read (Some members) = each_member name read members

-- the entries of an object, in the order of the bytes of their keys
abbrev pub entries : {T : Type 0} → (List ℕ → Reading (List ℕ)) → (Data → Reading T) → Data → Reading (List (List ℕ × T))
entries name read value = members_in name read (as_object value)

-- ---- what the code finds, where it notes a passed limit and reads on

-- a limit is noted where the part passes one, and nothing new where it fits and is this
abbrev pub IsFound : {T : Type 0} → Bool → Bool → Reading T → T → Type 0
IsFound before after Misshapen found = ⊥
IsFound before after Excessive found = after ≡ true
IsFound before after (Fits t) found = (t ≡ found) × (after ≡ before)

abbrev pub IsPartFault : {T : Type 0} → Reading T → PartFault → Type 0
IsPartFault reading faults.Shape = reading ≡ Misshapen
IsPartFault reading faults.OutOfMemory = Unit {0}

abbrev pub Finds : {T U : Type 0} → Bool → Bool → Reading U → (T → U) → Result T PartFault → Type 0
Finds before after reading plan (Ok found) = IsFound before after reading (plan found)
Finds before after reading plan (Err fault) = IsPartFault reading fault
