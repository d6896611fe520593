-- Items that are taken one at a time.
use Rattle.std.specs.Prelude.{suc, ◌-◌, Result, Err}
use Rattle.std.proofs.Common.{◌≡◌, ℕ, ◌+◌, ◌<◌, List, [], ◌∷◌, ◌++◌, length, map, refl, sym, ap, subst, ◌∙◌, append_assoc, arith}
use Rattle.std.proofs.lemmas.List.{map-append, length-append}
use Rattle.papy_base.specs.declared.faults.Fault.{Fault}
use Rattle.papy_base.specs.declared.faults.Fault.TheVariants as fault
use Rattle.pex_codec.specs.declared.cursor.Cursor.{Cursor}
use Rattle.pex_codec.specs.declared.cursor.Stop.{Stop}
use Rattle.pex_codec.specs.declared.cursor.Stop.TheVariants as stop
use Rattle.pex_codec.specs.Reading.{Reading, Reader, Got, Short, Refused, then_read, read_as, items_at}
use Rattle.pex_codec.specs.Taking.{Stops, Takes}

-- the items in front of those that are read
abbrev in_front : {A : Type 0} → List A → Reading (List A) → Reading (List A)
in_front xs reading = read_as (λ others. xs ++ others) reading

-- the first i of so many items were taken
pub record TookFirst {X Y : Type 0} (plain : X → Y) (item : Reader Y) (count : ℕ) (old : Cursor) (i : ℕ) (items : List X) (new : Cursor) : Type 0 where
  pub length_is : length items ≡ i
  pub reads : items_at item count old.at old.rest.now ≡ in_front (map plain items) (items_at item (count - i) new.at new.rest.now)

-- one more item in front
in_front-more : {A : Type 0} (xs : List A) (x : A) (reading : Reading (List A))
    → in_front xs (read_as (λ others. x ∷ others) reading) ≡ in_front (xs ++ x ∷ []) reading
in_front-more xs x (Got part at rest) = ap (λ ys. Got ys at rest) (sym (append_assoc xs (x ∷ []) part))
in_front-more xs x Short = refl
in_front-more xs x (Refused offset rule) = refl

items_at-next : {Y : Type 0} (item : Reader Y) (count i at : ℕ) (bytes : List ℕ) → i < count
    → items_at item (count - i) at bytes
    ≡ then_read (item at bytes) (λ first at1 rest1. read_as (λ others. first ∷ others) (items_at item (count - (i + 1)) at1 rest1))
items_at-next item count i at bytes below =
    let next : count - i ≡ suc (count - (i + 1)) = omega arith in
    ap (λ (n : ℕ). items_at item n at bytes) next

pub TookFirst-more : {X Y : Type 0} (plain : X → Y) (item : Reader Y) (count : ℕ) (old : Cursor) (i : ℕ) (items grown : List X) (new : Cursor) (x : X) (next : Cursor)
    → TookFirst plain item count old i items new → i < count → item new.at new.rest.now ≡ Got (plain x) next.at next.rest.now
    → grown ≡ items ++ x ∷ [] → TookFirst plain item count old (i + 1) grown next
TookFirst-more plain item count old i items grown new x next first below taken is = record {
  length_is = omega (arith, length-append items (x ∷ []), first.length_is, ap length is);
  reads =
      first.reads
      ∙ (ap (λ r. in_front (map plain items) r) (items_at-next item count i new.at new.rest.now below
      ∙ ap (λ r. then_read r (λ one at1 rest1. read_as (λ others. one ∷ others) (items_at item (count - (i + 1)) at1 rest1))) taken)
      ∙ (in_front-more (map plain items) (plain x) (items_at item (count - (i + 1)) next.at next.rest.now)
      ∙ ap (λ ys. in_front ys (items_at item (count - (i + 1)) next.at next.rest.now)) (sym (ap (λ ys. map plain ys) is ∙ map-append plain items (x ∷ [])))));
}

-- what is read where no further item stands
stopped : {Y : Type 0} (why : Fault Stop) (xs : List Y) (reading : Reading Y) (next : Y → Reader (List Y)) → Stops reading why → Stops (in_front xs (then_read reading next)) why
stopped (fault.Broken stop.Short) xs reading next is = ap (λ r. in_front xs (then_read r next)) is
stopped (fault.Broken (stop.Refused offset rule)) xs reading next is = ap (λ r. in_front xs (then_read r next)) is
stopped fault.OutOfMemory xs reading next is = tt

same_stop : {A : Type 0} (why : Fault Stop) (one other : Reading A) → one ≡ other → Stops other why → Stops one why
same_stop (fault.Broken stop.Short) one other same is = same ∙ is
same_stop (fault.Broken (stop.Refused offset rule)) one other same is = same ∙ is
same_stop fault.OutOfMemory one other same is = tt

-- the list isn't there where the next item isn't
pub TookFirst-stops : {X Y : Type 0} (plain : X → Y) (item : Reader Y) (count : ℕ) (old : Cursor) (i : ℕ) (items : List X) (new : Cursor) (why : Fault Stop)
    → TookFirst plain item count old i items new → i < count → Stops (item new.at new.rest.now) why → Stops (items_at item count old.at old.rest.now) why
TookFirst-stops {X} {Y} plain item count old i items new why first below is =
    let next : Y → Reader (List Y) = λ one at1 rest1. read_as (λ others. one ∷ others) (items_at item (count - (i + 1)) at1 rest1) in
    same_stop why (items_at item count old.at old.rest.now) (in_front (map plain items) (then_read (item new.at new.rest.now) next))
    (first.reads ∙ ap (λ r. in_front (map plain items) r) (items_at-next item count i new.at new.rest.now below))
    (stopped why (map plain items) (item new.at new.rest.now) next is)

-- why an item isn't there is why the list isn't there
pub err_taken : {T U A B : Type 0} (why passed : Fault Stop) (r : Result U (Fault Stop)) (plain : T → A) (reader : Reader A) (plain' : U → B) (reader' : Reader B) (old new old' new' : Cursor)
    → r ≡ Err passed → passed ≡ why → (Stops (reader old.at old.rest.now) why → Stops (reader' old'.at old'.rest.now) why)
    → Takes plain reader (Err why) old new → Takes plain' reader' r old' new'
err_taken {T} {U} why passed r plain reader plain' reader' old new old' new' is same stops taken =
    subst (λ (z : Result U (Fault Stop)). Takes plain' reader' z old' new') (sym (is ∙ ap Err same)) (stops taken)
