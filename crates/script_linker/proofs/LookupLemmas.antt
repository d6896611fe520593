-- What a step upward is in the list of files, and what the look-ups of a set find.
use Rattle.std.proofs.Common.{All, ℕ, suc, [], ◌∷◌, ◌≡◌, ◌<◌, ◌≤◌, ◌==◌, List, length, map, get_or, Option, Some, None, IfSome, IsTrue, is_some, not, Bool, true, false, ◌↔◌, option_and_then, refl, sym, ap, subst, ◌∙◌, ⊎_elim, arith}
use Rattle.std.specs.List.{list_any}
use Rattle.std.proofs.lemmas.List.{length-map, map-id}
use Rattle.std.proofs.lemmas.Bool.{cases_Bool, cases_lt, eq-eqb, or_left, or_right}
use Rattle.std.proofs.lemmas.Option.{slice_get-get_or, slice_get_cases}
use Rattle.std.proofs.lemmas.List.Elements.{All-map, All-from_get_or}
use Rattle.papy_base.specs.Case.{folded}
use Rattle.papy_base.specs.Circles.{climb, is_marked, MarksCircles, NoneMarked}
use Rattle.papy_base.specs.Lineage.{parent_of, lineage, stands_below, AreAmong, AreRooted, StandsAbove, Nearest, itself, here, further, nowhere}
use Rattle.papy_base.specs.Table.{number_in, place_of}
use Rattle.papy_base.specs.declared.name_table.NameTable.{NameTable}
use Rattle.papy_base.proofs.ClimbLemmas.{child_within, climb-one, climb-next, climb-stays, no_end, parent_within}
use Rattle.papy_base.proofs.StandingLemmas.{upward-none, StandsAbove-stands_below}
use Rattle.papy_base.proofs.TableLemmas.{position-below}
use Rattle.script_linker.specs.declared.set.SourceFile.{SourceFile}
use Rattle.script_linker.specs.Index.{IsIndexed}
use Rattle.script_linker.specs.Lookup.{HasNoCircle, HasNumbers, HasPreludeParents, IsFunctionOf, IsPropertyOf, own_function, own_property, function_name, property_name, parents_of, parent_in, script_named}

pub length-parents_of : (files : List SourceFile) → length (parents_of files) ≡ length files
length-parents_of files = length-map files (parent_in files)

-- how many scripts stand above a script, itself among them
height : List (Option ℕ) → ℕ → ℕ
height parents n = length (lineage parents (Some n))

-- a parent stands on fewer
height-parent : (parents : List (Option ℕ)) → AreRooted parents → (n p : ℕ) → parent_of parents n ≡ Some p → height parents p < height parents n
unfolding height
height-parent parents rooted n p is =
    let up : lineage parents (Some n) ≡ n ∷ lineage parents (Some p) = rooted n (child_within parents n p is) ∙ ap (λ o. n ∷ lineage parents o) is in
    let more : height parents n ≡ suc (height parents p) = ap length up in
    omega (arith, more)

StandsAbove-height : (parents : List (Option ℕ)) {n a : ℕ} → AreRooted parents → StandsAbove parents n a → height parents a ≤ height parents n
StandsAbove-height parents rooted (itself n) = omega arith
StandsAbove-height parents rooted (further n p a is up) =
    let lower : height parents p < height parents n = height-parent parents rooted n p is in
    omega (arith, StandsAbove-height parents rooted up)

HasNoCircle-from_rooted : (parents : List (Option ℕ)) → AreRooted parents → HasNoCircle parents
HasNoCircle-from_rooted parents rooted = λ n p is up.
    let lower : height parents p < height parents n = height-parent parents rooted n p is in
    omega (arith, StandsAbove-height parents rooted up)

-- ---- a search upward
module _ (parents : List (Option ℕ)) (own : ℕ → Option ℕ) (script : ℕ) where
  -- where a search goes on, what is nearest from there is nearest from its first script
  abbrev pub IsAhead : Option ℕ → Type 0
  IsAhead None = Nearest parents own script None
  IsAhead (Some n) =
      (n < length parents) × ((found : Option (ℕ × ℕ)) → Nearest parents own n found → Nearest parents own script found)

  -- these scripts lie before a search
  pub record Searches (way : List ℕ) : Type 0 where
    pub next : Option ℕ
    pub ahead : IsAhead next
    pub is : way ≡ lineage parents next

  -- a search has come to this script, and these lie before it
  pub record IsTurn (at : ℕ) (way : List ℕ) : Type 0 where
    pub within : at < length parents
    pub nearest : (found : Option (ℕ × ℕ)) → Nearest parents own at found → Nearest parents own script found
    pub searches : own at ≡ None → Searches way

  pub Searches-first : (way : List ℕ) → script < length parents → way ≡ lineage parents (Some script) → Searches way
  Searches-first way within is = record { next = Some script; ahead = (within, λ found up. up); is = is }

-- ---- what a walk upward says where each parent is one of the scripts and no script stands above itself
module _ (parents : List (Option ℕ)) (among : AreAmong parents) (rooted : AreRooted parents) where
  stands_below-StandsAbove : {n a : ℕ} → n < length parents → StandsAbove parents n a → stands_below parents n a ≡ true
  stands_below-StandsAbove within (itself n) =
      ap (list_any (λ other. other == n)) (rooted n within) ∙ or_left (n == n) (list_any (λ other. other == n) (lineage parents (parent_of parents n))) (eq-eqb n n refl)
  stands_below-StandsAbove within (further n p a is up) =
      ap (list_any (λ other. other == a)) (rooted n within ∙ ap (λ o. n ∷ lineage parents o) is)
      ∙ or_right (n == a) (list_any (λ other. other == a) (lineage parents (Some p))) (stands_below-StandsAbove (parent_within parents n p among within is) up)

  pub StandsAbove-by : (n a : ℕ) (r : Bool) → n < length parents → r ≡ stands_below parents n a → IsTrue r ↔ StandsAbove parents n a
  StandsAbove-by n a r within is =
      (λ yes. StandsAbove-stands_below parents n a (sym is ∙ yes), λ up. is ∙ stands_below-StandsAbove within up)

  module _ (own : ℕ → Option ℕ) (script : ℕ) where
    ahead_of : (n : ℕ) → IsAhead parents own script (Some n) → own n ≡ None → (next : Option ℕ) → parent_of parents n ≡ next → IsAhead parents own script next
    ahead_of n ahead lacks None is = ahead.1 None (nowhere n lacks is)
    ahead_of n ahead lacks (Some p) is =
        (parent_within parents n p among ahead.0 is, λ found up. ahead.1 found (further n p found lacks is up))

    turn_at : (next : Option ℕ) → IsAhead parents own script next → (at : ℕ) (way : List ℕ) → at ∷ way ≡ lineage parents next → IsTurn parents own script at way
    turn_at None ahead at way is = let none = is ∙ upward-none (length parents) parents in cc
    turn_at (Some n) ahead at way is =
        let up : at ∷ way ≡ n ∷ lineage parents (parent_of parents n) = is ∙ rooted n ahead.0 in
        let same : n ≡ at = cc in
        let left : way ≡ lineage parents (parent_of parents n) = cc in
        let turn : IsTurn parents own script n way = record {
          within = ahead.0;
          nearest = ahead.1;
          searches = λ lacks. record { next = parent_of parents n; ahead = ahead_of n ahead lacks (parent_of parents n) refl; is = left };
        } in
        subst (λ k. IsTurn parents own script k way) same turn

    pub Searches-turn : (old : List ℕ) (at : ℕ) (way : List ℕ) → Searches parents own script old → old ≡ at ∷ way → IsTurn parents own script at way
    Searches-turn old at way s is = turn_at s.next s.ahead at way (sym is ∙ s.is)

    nothing_at : (next : Option ℕ) → IsAhead parents own script next → [] ≡ lineage parents next → Nearest parents own script None
    nothing_at None ahead is = ahead
    nothing_at (Some n) ahead is = let none = is ∙ rooted n ahead.0 in cc

    pub Searches-end : (way : List ℕ) → Searches parents own script way → way ≡ [] → Nearest parents own script None
    Searches-end way s is = nothing_at s.next s.ahead (sym is ∙ s.is)

parent_in-below : (files : List SourceFile) (file : SourceFile) → IfSome (parent_in files file) (λ p. p < length files)
parent_in-below files file = go file.script.parent
  where
    go : (name : Option (List ℕ)) → IfSome (option_and_then (script_named files) name) (λ p. p < length files)
    go None = tt
    go (Some name) = position-below _ files

-- each parent is a script of the set
pub AreAmong-parents_of : (files : List SourceFile) → AreAmong (parents_of files)
AreAmong-parents_of files =
    subst (λ k. All (λ parent. IfSome parent (λ n. n < k)) (parents_of files)) (sym (length-parents_of files)) (All-map (λ parent. IfSome parent (λ n. n < length files)) (parent_in files) files (λ n d below. parent_in-below files (get_or files n d)))

-- a parent is a script of the set
pub parent_inside : (files : List SourceFile) (n : ℕ) (found : Option ℕ) → found ≡ parent_of (parents_of files) n → IfSome found (λ p. p < length files)
parent_inside files n None is = tt
parent_inside files n (Some p) is =
    let parents = parents_of files in
    subst (λ k. p < k) (length-parents_of files) (parent_within parents n p (AreAmong-parents_of files) (child_within parents n p (sym is)) (sym is))

module _ {files now : List SourceFile} {functions properties : List NameTable} {parents : List (Option ℕ)} (index : IsIndexed files functions properties parents) (same : files ≡ now) where
  parents_now : parents ≡ parents_of now
  parents_now = index.parents_are ∙ ap parents_of same

  -- the parents that a walk upward reads are those by the files' names
  pub parents_read : (read : List (Option ℕ)) → read ≡ parents → map (λ (parent : Option ℕ). parent) read ≡ parents_of now
  parents_read read is = map-id read ∙ is ∙ parents_now

  pub rooted_now : AreRooted (parents_of now)
  rooted_now = subst AreRooted parents_now index.rooted

  -- the parents run in no circle
  pub HasNoCircle-now : HasNoCircle (parents_of now)
  HasNoCircle-now = HasNoCircle-from_rooted (parents_of now) rooted_now

  pub turn_now : (own : ℕ → Option ℕ) (script : ℕ) {old : List ℕ} {at : ℕ} {way : List ℕ} → Searches (parents_of now) own script old → old ≡ at ∷ way → IsTurn (parents_of now) own script at way
  turn_now own script {old} {at} {way} =
      Searches-turn (parents_of now) (AreAmong-parents_of now) rooted_now own script old at way

  -- what a script's table has for a name is the place of its own function
  pub own_function-read : (name : List ℕ) (n : ℕ) (table : NameTable) → n < length now → number_in (get_or functions n table) (folded name) ≡ own_function now name n
  own_function-read name n table lt =
      let l : n < length files = subst (λ xs. n < length xs) (sym same) lt in
      ⊎_elim
      (λ some. index.function_tables n some.0 table l (folded name) ∙ sym (ap (λ o. option_and_then (λ f. place_of function_name f.script.functions.items (folded name)) o) (slice_get-get_or files n some.0 l)) ∙ ap (λ xs. own_function xs name n) same)
      (λ none. absurd (omega (arith, none.0, l)))
      (slice_get_cases files n).1

  -- what a script's table has for a name is the place of its own property
  pub own_property-read : (name : List ℕ) (n : ℕ) (table : NameTable) → n < length now → number_in (get_or properties n table) (folded name) ≡ own_property now name n
  own_property-read name n table lt =
      let l : n < length files = subst (λ xs. n < length xs) (sym same) lt in
      ⊎_elim
      (λ some. index.property_tables n some.0 table l (folded name) ∙ sym (ap (λ o. option_and_then (λ f. place_of property_name f.script.properties.items (folded name)) o) (slice_get-get_or files n some.0 l)) ∙ ap (λ xs. own_property xs name n) same)
      (λ none. absurd (omega (arith, none.0, l)))
      (slice_get_cases files n).1

-- the place that a script's own function was found at is one of its functions
own_function-below : (files : List SourceFile) (name : List ℕ) (n k : ℕ) (file : SourceFile) → n < length files → own_function files name n ≡ Some k → k < length (get_or files n file).script.functions.items
own_function-below files name n k file lt is =
    let found = get_or files n file in
    let at : place_of function_name found.script.functions.items (folded name) ≡ Some k = sym (ap (λ o. option_and_then (λ f. place_of function_name f.script.functions.items (folded name)) o) (slice_get-get_or files n file lt)) ∙ is in
    subst (λ o. IfSome o (λ p. p < length found.script.functions.items)) at (position-below _ found.script.functions.items)

-- the same of properties
own_property-below : (files : List SourceFile) (name : List ℕ) (n k : ℕ) (file : SourceFile) → n < length files → own_property files name n ≡ Some k → k < length (get_or files n file).script.properties.items
own_property-below files name n k file lt is =
    let found = get_or files n file in
    let at : place_of property_name found.script.properties.items (folded name) ≡ Some k = sym (ap (λ o. option_and_then (λ f. place_of property_name f.script.properties.items (folded name)) o) (slice_get-get_or files n file lt)) ∙ is in
    subst (λ o. IfSome o (λ p. p < length found.script.properties.items)) at (position-below _ found.script.properties.items)

-- the scripts of the prelude stand on no circle
module _ (parents : List (Option ℕ)) (known : HasPreludeParents parents) where
  ends_above : (n : ℕ) → n < 6 → climb parents 2 (Some n) ≡ None
  ends_above n below = go (parent_of parents n) refl
    where
      first : climb parents 1 (Some n) ≡ parent_of parents n
      first = climb-one parents (Some n)

      no_parent : (o : Option ℕ) → parent_of parents 3 ≡ o → parent_of parents 3 ≡ None
      no_parent None is = is
      no_parent (Some q) is = absurd (omega (arith, (known 3 q (omega arith) is).0))

      go : (o : Option ℕ) → parent_of parents n ≡ o → climb parents 2 (Some n) ≡ None
      go None is = climb-stays parents 1 2 (Some n) (omega arith) (first ∙ is)
      go (Some p) is =
          climb-next parents 1 (Some n) p (first ∙ is) ∙ ap (parent_of parents) (known n p below is).1 ∙ no_parent (parent_of parents 3) refl

  -- no script is on a circle where none behind the prelude is
  pub NoneMarked-behind : (marks : List Bool) → 6 ≤ length parents → length marks ≡ length parents → MarksCircles parents marks → ((n : ℕ) → 6 ≤ n → n < length parents → is_marked marks n ≡ false) → NoneMarked marks
  NoneMarked-behind marks count same exact behind =
      All-from_get_or (λ mark. mark ≡ false) marks false (λ n lt.
      ⊎_elim
      (λ (below : n < 6). unmarked n below (omega (arith, lt, same)))
      (λ (past : 6 ≤ n). behind n past (omega (arith, lt, same)))
      (cases_lt n 6))
    where
      unmarked : (n : ℕ) → n < 6 → n < length parents → is_marked marks n ≡ false
      unmarked n below lt =
          ⊎_elim
          (λ (is : is_marked marks n ≡ true).
          let round = (exact n lt).0 is in
          no_end parents round.0 n 2 round.1 round.2 (ends_above n below))
          (λ (is : is_marked marks n ≡ false). is)
          (cases_Bool (is_marked marks n))

pub function_place-fits : (files : List SourceFile) (n place : ℕ) → HasNumbers files → IsFunctionOf files (n, place) → place < 65536
function_place-fits files n place numbers of =
    ⊎_elim
    (λ some. omega (arith, (numbers.members n some.0 of.0).0, of.1 some.0))
    (λ none. absurd (omega (arith, none.0, of.0)))
    (slice_get_cases files n).1

pub property_place-fits : (files : List SourceFile) (n place : ℕ) → HasNumbers files → IsPropertyOf files (n, place) → place < 65536
property_place-fits files n place numbers of =
    ⊎_elim
    (λ some. omega (arith, (numbers.members n some.0 of.0).1, of.1 some.0))
    (λ none. absurd (omega (arith, none.0, of.0)))
    (slice_get_cases files n).1

-- a look-up finds one thing at most
pub Nearest-unique : {parents : List (Option ℕ)} {own : ℕ → Option ℕ} {n : ℕ} {a b : Option (ℕ × ℕ)} → Nearest parents own n a → Nearest parents own n b → a ≡ b
Nearest-unique (here n k is) (here m l at) = cc
Nearest-unique (here n k is) (further m p b at up on) = cc
Nearest-unique (here n k is) (nowhere m at up) = cc
Nearest-unique (further n p a is up on) (here m k at) = cc
Nearest-unique {parents} {own} (further n p a is up on) (further m q b at also off) =
    let same : q ≡ p = cc in
    Nearest-unique on (subst (λ k. Nearest parents own k b) same off)
Nearest-unique (further n p a is up on) (nowhere m at also) = cc
Nearest-unique (nowhere n is up) (here m k at) = cc
Nearest-unique (nowhere n is up) (further m p b at also on) = cc
Nearest-unique (nowhere n is up) (nowhere m at also) = refl

-- a look-up that found nothing, where r says so
pub Nearest-none : {parents : List (Option ℕ)} {own : ℕ → Option ℕ} {n : ℕ} (found : Option (ℕ × ℕ)) (r : Bool) → is_some found ≡ not r → Nearest parents own n found → IsTrue r ↔ Nearest parents own n None
Nearest-none None true says at = (λ _. at, λ _. refl)
Nearest-none None false says at = cc
Nearest-none (Some x) true says at = cc
Nearest-none (Some x) false says at = (λ y. cc, λ none. let same = Nearest-unique at none in cc)

-- what a look-up finds is the own thing of the script where it was found
pub Nearest-own : {parents : List (Option ℕ)} {own : ℕ → Option ℕ} {n : ℕ} {found : Option (ℕ × ℕ)} → Nearest parents own n found → IfSome found (λ f. own f.0 ≡ Some f.1)
Nearest-own (here n place is) = is
Nearest-own (further n p found is at up) = Nearest-own up
Nearest-own (nowhere n is at) = tt

pub Nearest-function : (files : List SourceFile) (name : List ℕ) {n : ℕ} (found : Option (ℕ × ℕ)) → Nearest (parents_of files) (own_function files name) n found → IfSome found (IsFunctionOf files)
Nearest-function files name None at = tt
Nearest-function files name (Some (m, k)) at =
    let is : own_function files name m ≡ Some k = Nearest-own at in
    ⊎_elim
    (λ some. (some.1, λ file. own_function-below files name m k file some.1 is))
    (λ none.
    let nothing : own_function files name m ≡ None = ap (λ o. option_and_then (λ f. place_of function_name f.script.functions.items (folded name)) o) none.1 in
    cc)
    (slice_get_cases files m).1

pub Nearest-property : (files : List SourceFile) (name : List ℕ) {n : ℕ} (found : Option (ℕ × ℕ)) → Nearest (parents_of files) (own_property files name) n found → IfSome found (IsPropertyOf files)
Nearest-property files name None at = tt
Nearest-property files name (Some (m, k)) at =
    let is : own_property files name m ≡ Some k = Nearest-own at in
    ⊎_elim
    (λ some. (some.1, λ file. own_property-below files name m k file some.1 is))
    (λ none.
    let nothing : own_property files name m ≡ None = ap (λ o. option_and_then (λ f. place_of property_name f.script.properties.items (folded name)) o) none.1 in
    cc)
    (slice_get_cases files m).1
