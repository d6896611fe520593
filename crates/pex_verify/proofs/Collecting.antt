-- The members of scripts as they are collected, and which of them is the first of a script by its names.
use Rattle.std.proofs.Common.{◌≡◌, ℕ, zero, suc, ◌+◌, ◌<◌, ◌≤◌, ◌==◌, Bool, true, false, ◌&&◌, List, [], ◌∷◌, ◌++◌, length, Option, None, Some, map, find, refl, sym, ap, ◌∙◌, arith, append_assoc}
use Rattle.std.specs.Prelude.{slice_index_or, if◌then◌else◌}
use Rattle.std.specs.List.{AllByRecursion}
use Rattle.std.specs.Option.{option_map, option_or}
use Rattle.std.proofs.lemmas.Bool.{eq-eqb, ne_eqb}
use Rattle.std.proofs.lemmas.List.{append-nil}
use Rattle.std.proofs.lemmas.List.Elements.{All-from_recursion, All-append}
use Rattle.std.proofs.lemmas.List.Folds.{find-append}
use Rattle.code_meaning.specs.LookUp.{numbered, one_on}
use Rattle.pex_set.specs.Nearest.{is_own, own_member, AreRanked}
use Rattle.papy_base.specs.Ranks.{span_at}
use Rattle.papy_base.specs.declared.descent.Span.{Span}
use Rattle.pex_set.specs.declared.inherited.OwnMember.{OwnMember}
use Rattle.pex_verify.specs.declared.members.MemberLists.{MemberLists}
use Rattle.pex_verify.specs.declared.scripts.ScriptHead.{ScriptHead}
use Rattle.pex_verify.specs.Heads.{Placed}
use Rattle.pex_verify.specs.Members.{Owner, owner_in, member_of, with_places, properties_of, functions_of, methods_of_states, with_script}
use Rattle.pex_verify.specs.Tables.{collected}

-- ---- the first that passes a test
abbrev pub at_place : {X Y : Type 0} → (X → Y) → ℕ × X → ℕ × Y
at_place v found = (found.0, v found.1)

one_on-map : {X Y : Type 0} (v : X → Y) (o : Option (ℕ × X)) → one_on (option_map (at_place v) o) ≡ option_map (at_place v) (one_on o)
one_on-map v None = refl
one_on-map v (Some found) = refl

numbered-map_by : {X Y : Type 0} (v : X → Y) (b : Bool) (x : X) (o : Option (ℕ × Y)) (p : Option (ℕ × X)) → o ≡ option_map (at_place v) p
    → (if b then Some (0, v x) else one_on o) ≡ option_map (at_place v) (if b then Some (0, x) else one_on p)
numbered-map_by v true x o p e = refl
numbered-map_by v false x o p e = ap one_on e ∙ one_on-map v p

pub numbered-map : {X Y : Type 0} (v : X → Y) (test : Y → Bool) (xs : List X) → numbered test (map v xs) ≡ option_map (at_place v) (numbered (λ x. test (v x)) xs)
numbered-map v test [] = refl
numbered-map v test (x ∷ xs) =
    numbered-map_by v (test (v x)) x (numbered test (map v xs)) (numbered (λ y. test (v y)) xs) (numbered-map v test xs)

-- ---- with places
abbrev made : {X : Type 0} → (ℕ → X → OwnMember) → ℕ × X → OwnMember
made f found = f found.0 found.1

with_places-later : {X : Type 0} (f : ℕ → X → OwnMember) (place : ℕ) (xs : List X) → with_places f (suc place) xs ≡ with_places (λ k x. f (suc k) x) place xs
with_places-later f place [] = refl
with_places-later f place (x ∷ xs) = ap (λ (l : List OwnMember). f (suc place) x ∷ l) (with_places-later f (suc place) xs)

find_places_by : {X : Type 0} (f : ℕ → X → OwnMember) (b : Bool) (x : X) (o : Option OwnMember) (p : Option (ℕ × X)) → o ≡ option_map (made (λ k y. f (suc k) y)) p
    → (if b then Some (f 0 x) else o) ≡ option_map (made f) (if b then Some (0, x) else one_on p)
find_places_by f true x o p e = refl
find_places_by f false x o None e = e
find_places_by f false x o (Some found) e = e

pub find_places : {X : Type 0} (f : ℕ → X → OwnMember) (test : OwnMember → Bool) (passes : X → Bool) → ((place : ℕ) (x : X) → test (f place x) ≡ passes x) → (xs : List X)
    → find test (with_places f 0 xs) ≡ option_map (made f) (numbered passes xs)
find_places f test passes same [] = refl
find_places f test passes same (x ∷ xs) =
    rw (same 0 x, with_places-later f 0 xs)
    (find_places_by f (passes x) x (find test (with_places (λ k y. f (suc k) y) 0 xs)) (numbered passes xs) (find_places (λ k y. f (suc k) y) test passes (λ k y. same (suc k) y) xs))

pub all_places : {X : Type 0} (P : OwnMember → Type 0) (f : ℕ → X → OwnMember) → ((place : ℕ) (x : X) → P (f place x)) → (place : ℕ) (xs : List X) → AllByRecursion P (with_places f place xs)
all_places P f each place [] = tt
all_places P f each place (x ∷ xs) = (each place x, all_places P f each (suc place) xs)

-- ---- members of one script
abbrev pub IsOf : Owner → OwnMember → Type 0
IsOf owner member = (member.place.object ≡ owner.number) × (member.span ≡ owner.span)

not_and : (a b : Bool) → a ≡ false → (a && b) ≡ false
not_and true b e = absurd (cc)
not_and false b e = refl

-- another script's
pub none_of_another : (owner : Owner) (script : ℕ) (names : ℕ × ℕ) → (owner.number ≡ script → ⊥) → (members : List OwnMember) → AllByRecursion (IsOf owner) members
    → find (is_own script names) members ≡ None
none_of_another owner script names other [] all = refl
none_of_another owner script names other (member ∷ members) all =
    let differs : (member.place.object == script) ≡ false = ne_eqb member.place.object script (λ e. other (sym all.0.0 ∙ e)) in
    rw (not_and (member.place.object == script) (member.names.0 == names.0 && member.names.1 == names.1) differs) (none_of_another owner script names other members all.1)

pub own_test : (owner : Owner) (state : ℕ) (names own : ℕ × ℕ) (place : ℕ) → is_own owner.number names (member_of owner state own place) ≡ (own.0 == names.0 && own.1 == names.1)
own_test owner state names own place =
    ap (λ (b : Bool). b && (own.0 == names.0 && own.1 == names.1)) (eq-eqb owner.number owner.number refl)

-- ---- members of all scripts, one after the other
abbrev pub joined : (Owner → Placed → ScriptHead → List OwnMember) → List Span → ℕ → List Placed → List ScriptHead → List OwnMember
joined members_of spans number (o ∷ objects) (head ∷ heads) =
    members_of (record { number = number; span = span_at spans number }) o head ++ joined members_of spans (suc number) objects heads
joined members_of spans number _ _ = []

pub option_or-none : {A : Type 0} (o : Option A) → option_or o None ≡ o
option_or-none None = refl
option_or-none (Some x) = refl

module _ (members_of : Owner → Placed → ScriptHead → List OwnMember) (own : (owner : Owner) (o : Placed) (head : ScriptHead) → AllByRecursion (IsOf owner) (members_of owner o head)) (spans : List Span) where
  abbrev owner : ℕ → Owner
  owner number = record { number = number; span = span_at spans number }

  -- scripts with greater numbers
  none_of_later : (number : ℕ) (objects : List Placed) (heads : List ScriptHead) (script : ℕ) (names : ℕ × ℕ) → script < number
      → find (is_own script names) (joined members_of spans number objects heads) ≡ None
  none_of_later number [] heads script names less = refl
  none_of_later number (o ∷ objects) [] script names less = refl
  none_of_later number (o ∷ objects) (head ∷ heads) script names less =
      find-append (is_own script names) (members_of (owner number) o head) (joined members_of spans (suc number) objects heads)
      ∙ ap (λ f. option_or f (find (is_own script names) (joined members_of spans (suc number) objects heads)))
      (none_of_another (owner number) script names (λ e. omega arith) (members_of (owner number) o head) (own (owner number) o head))
      ∙ none_of_later (suc number) objects heads script names (omega arith)

  -- past the last script
  none_past : (number : ℕ) (objects : List Placed) (heads : List ScriptHead) (k script : ℕ) (names : ℕ × ℕ) → script ≡ k + number → length objects ≤ k
      → find (is_own script names) (joined members_of spans number objects heads) ≡ None
  none_past number [] heads k script names e past = refl
  none_past number (o ∷ objects) [] k script names e past = refl
  none_past number (o ∷ objects) (head ∷ heads) zero script names e past = absurd (omega arith)
  none_past number (o ∷ objects) (head ∷ heads) (suc k) script names e past =
      find-append (is_own script names) (members_of (owner number) o head) (joined members_of spans (suc number) objects heads)
      ∙ ap (λ f. option_or f (find (is_own script names) (joined members_of spans (suc number) objects heads)))
      (none_of_another (owner number) script names (λ same. omega arith) (members_of (owner number) o head) (own (owner number) o head))
      ∙ none_past (suc number) objects heads k script names (omega arith) (omega arith)

  found_at : (number : ℕ) (objects : List Placed) (heads : List ScriptHead) (k script : ℕ) (names : ℕ × ℕ) (o : Placed) (head : ScriptHead) → script ≡ k + number
      → length heads ≡ length objects → k < length objects
      → find (is_own script names) (joined members_of spans number objects heads)
      ≡ find (is_own script names) (members_of (owner script) (slice_index_or objects k o) (slice_index_or heads k head))
  found_at number [] heads k script names o head e count within = absurd (omega arith)
  found_at number (x ∷ objects) [] k script names o head e count within = absurd (omega arith)
  found_at number (x ∷ objects) (h ∷ heads) zero script names o head e count within =
      let same : number ≡ script = omega arith in
      find-append (is_own script names) (members_of (owner number) x h) (joined members_of spans (suc number) objects heads)
      ∙ ap (option_or (find (is_own script names) (members_of (owner number) x h))) (none_of_later (suc number) objects heads script names (omega arith))
      ∙ option_or-none (find (is_own script names) (members_of (owner number) x h))
      ∙ ap (λ n. find (is_own script names) (members_of (owner n) x h)) same
  found_at number (x ∷ objects) (h ∷ heads) (suc k) script names o head e count within =
      find-append (is_own script names) (members_of (owner number) x h) (joined members_of spans (suc number) objects heads)
      ∙ ap (λ f. option_or f (find (is_own script names) (joined members_of spans (suc number) objects heads)))
      (none_of_another (owner number) script names (λ same. omega arith) (members_of (owner number) x h) (own (owner number) x h))
      ∙ found_at (suc number) objects heads k script names o head (omega arith) (omega arith) (omega arith)

  -- what a script has among all
  pub joined_at : (objects : List Placed) (heads : List ScriptHead) (script : ℕ) (names : ℕ × ℕ) (o : Placed) (head : ScriptHead) → length heads ≡ length objects
      → script < length objects
      → own_member (joined members_of spans 0 objects heads) script names
      ≡ own_member (members_of (owner script) (slice_index_or objects script o) (slice_index_or heads script head)) script names
  joined_at objects heads script names o head count within =
      ap (option_map (λ (member : OwnMember). member.place)) (found_at 0 objects heads script script names o head (omega arith) count within)

  pub joined_past : (objects : List Placed) (heads : List ScriptHead) (script : ℕ) (names : ℕ × ℕ) → length objects ≤ script
      → own_member (joined members_of spans 0 objects heads) script names ≡ None
  joined_past objects heads script names past =
      ap (option_map (λ (member : OwnMember). member.place)) (none_past 0 objects heads script script names (omega arith) past)

  ranked_of : (count number : ℕ) → number < count → (members : List OwnMember) → AllByRecursion (IsOf (owner number)) members → AreRanked spans count members
  ranked_of count number less members all =
      All-from_recursion (λ (member : OwnMember). (member.place.object < count) × (member.span ≡ span_at spans member.place.object)) members (by members all)
    where
      by : (members : List OwnMember) → AllByRecursion (IsOf (owner number)) members
          → AllByRecursion (λ (member : OwnMember). (member.place.object < count) × (member.span ≡ span_at spans member.place.object)) members
      by [] all = tt
      by (member ∷ members) all =
          let here = all.0.0 in
          ((omega arith, all.0.1 ∙ ap (span_at spans) (sym here)), by members all.1)

  joined_ranked : (count number : ℕ) (objects : List Placed) (heads : List ScriptHead) → number + length objects ≤ count → AreRanked spans count (joined members_of spans number objects heads)
  joined_ranked count number [] heads few = All-from_recursion _ [] tt
  joined_ranked count number (o ∷ objects) [] few = All-from_recursion _ [] tt
  joined_ranked count number (o ∷ objects) (head ∷ heads) few =
      All-append (λ (member : OwnMember). (member.place.object < count) × (member.span ≡ span_at spans member.place.object)) (members_of (owner number) o head)
      (joined members_of spans (suc number) objects heads) (ranked_of count number (omega arith) (members_of (owner number) o head) (own (owner number) o head))
      (joined_ranked count (suc number) objects heads (omega arith))

  -- each member has the ranks of its script
  pub all_ranked : (objects : List Placed) (heads : List ScriptHead) (count : ℕ) → length objects ≡ count → AreRanked spans count (joined members_of spans 0 objects heads)
  all_ranked objects heads count e = joined_ranked count 0 objects heads (omega arith)

-- ---- the two lists that are collected
abbrev pub methods_of : Owner → Placed → ScriptHead → List OwnMember
methods_of owner o head =
    functions_of owner head.empty_state head.functions.items ++ methods_of_states owner o.source.names.now 0 o.object.states.items

abbrev pub properties_in : Owner → Placed → ScriptHead → List OwnMember
properties_in owner o head = properties_of owner head.properties.items

pub collected_methods : (lists : MemberLists) (number : ℕ) (objects : List Placed) (heads : List ScriptHead)
    → (collected lists number objects heads).methods ≡ lists.methods ++ joined methods_of lists.descent number objects heads
collected_methods lists number [] heads = sym (append-nil lists.methods)
collected_methods lists number (o ∷ objects) [] = sym (append-nil lists.methods)
collected_methods lists number (o ∷ objects) (head ∷ heads) =
    collected_methods (with_script lists number o.source.names.now o.object head) (suc number) objects heads
    ∙ append_assoc lists.methods (methods_of (owner_in lists number) o head) (joined methods_of lists.descent (suc number) objects heads)

pub collected_properties : (lists : MemberLists) (number : ℕ) (objects : List Placed) (heads : List ScriptHead)
    → (collected lists number objects heads).properties ≡ lists.properties ++ joined properties_in lists.descent number objects heads
collected_properties lists number [] heads = sym (append-nil lists.properties)
collected_properties lists number (o ∷ objects) [] = sym (append-nil lists.properties)
collected_properties lists number (o ∷ objects) (head ∷ heads) =
    collected_properties (with_script lists number o.source.names.now o.object head) (suc number) objects heads
    ∙ append_assoc lists.properties (properties_in (owner_in lists number) o head) (joined properties_in lists.descent (suc number) objects heads)
