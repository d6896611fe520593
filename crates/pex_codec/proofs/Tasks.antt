-- What a stack of tasks reads, and what each part opens: the law of a step.
use Rattle.std.specs.Prelude.{Bool, true, false, Option, Some, None}
use Rattle.std.proofs.Common.{◌≡◌, ℕ, zero, suc, List, [], ◌∷◌, ◌++◌, length, refl, sym, ap, ◌∙◌}
use Rattle.pex_codec.specs.declared.scan.Part.{Part}
use Rattle.pex_codec.specs.declared.scan.Part.TheVariants as part
use Rattle.pex_codec.specs.declared.scan.Task.{Task}
use Rattle.pex_codec.specs.Opening.{task}
use Rattle.pex_codec.specs.Reading.{Reading, Reader, Got, Short, Refused, then_read, read_as, items_at}
use Rattle.pex_codec.specs.Scanning.{with_strings, part_at, times_at, tasks_at}

-- ---- readings in a row

pub then_next : {A B : Type 0} (r : Reading A) (f g : A → Reader B) → ((a : A) (at : ℕ) (rest : List ℕ) → f a at rest ≡ g a at rest) → then_read r f ≡ then_read r g
then_next (Got a at rest) f g same = same a at rest
then_next Short f g same = refl
then_next (Refused o rule) f g same = refl

pub then_then : {A B C : Type 0} (r : Reading A) (f : A → Reader B) (g : B → Reader C) → then_read (then_read r f) g ≡ then_read r (λ a at rest. then_read (f a at rest) g)
then_then (Got a at rest) f g = refl
then_then Short f g = refl
then_then (Refused o rule) f g = refl

pub as_then : {A B C : Type 0} (view : B → C) (r : Reading A) (f : A → Reader B) → read_as view (then_read r f) ≡ then_read r (λ a at rest. read_as view (f a at rest))
as_then view (Got a at rest) f = refl
as_then view Short f = refl
as_then view (Refused o rule) f = refl

pub as_as : {A B C : Type 0} (view : B → C) (inner : A → B) (r : Reading A) → read_as view (read_as inner r) ≡ read_as (λ a. view (inner a)) r
as_as view inner (Got a at rest) = refl
as_as view inner Short = refl
as_as view inner (Refused o rule) = refl

pub then_got : {A : Type 0} (r : Reading A) → then_read r Got ≡ r
then_got (Got a at rest) = refl
then_got Short = refl
then_got (Refused o rule) = refl

-- ---- stacks

-- the upper part of a stack comes first
pub tasks_append : (xs ys : List Task) (strings at : ℕ) (bytes : List ℕ) → tasks_at (xs ++ ys) strings at bytes ≡ then_read (tasks_at ys strings at bytes) (tasks_at xs)
tasks_append [] ys strings at bytes = sym (then_got (tasks_at ys strings at bytes))
tasks_append (x ∷ xs) ys strings at bytes =
    ap (λ (r : Reading ℕ). then_read r (λ strings1 at1 rest1. times_at x.part x.left strings1 at1 rest1)) (tasks_append xs ys strings at bytes)
    ∙ then_then (tasks_at ys strings at bytes) (tasks_at xs) (λ strings1 at1 rest1. times_at x.part x.left strings1 at1 rest1)

pub times_once : (part : Part) (strings at : ℕ) (bytes : List ℕ) → times_at part 1 strings at bytes ≡ part_at part strings at bytes
times_once part strings at bytes = then_got (part_at part strings at bytes)

rest_items : {A : Type 0} (part : Part) (strings : ℕ) (item : Reader A) (n : ℕ) (first : Reading A)
    → ((at : ℕ) (bytes : List ℕ) → times_at part n strings at bytes ≡ with_strings strings (items_at item n at bytes))
    → then_read (with_strings strings first) (λ strings1 at1 rest1. times_at part n strings1 at1 rest1)
    ≡ with_strings strings (then_read first (λ head at1 rest1. read_as (λ others. head ∷ others) (items_at item n at1 rest1)))
rest_items part strings item n (Got head at1 rest1) others =
    others at1 rest1 ∙ sym (as_as (λ _. strings) (λ others. head ∷ others) (items_at item n at1 rest1))
rest_items part strings item n Short others = refl
rest_items part strings item n (Refused o rule) others = refl

-- a part that keeps the number of strings, so many times
pub times_items : {A : Type 0} (part : Part) (strings : ℕ) (item : Reader A) → ((at : ℕ) (bytes : List ℕ) → part_at part strings at bytes ≡ with_strings strings (item at bytes))
    → (n at : ℕ) (bytes : List ℕ) → times_at part n strings at bytes ≡ with_strings strings (items_at item n at bytes)
times_items part strings item one zero at bytes = refl
times_items part strings item one (suc n) at bytes =
    ap (λ (r : Reading ℕ). then_read r (λ strings1 at1 rest1. times_at part n strings1 at1 rest1)) (one at bytes)
    ∙ rest_items part strings item n (item at bytes) (times_items part strings item one n)

follow_view : {A B : Type 0} (view : B → ℕ) (strings : ℕ) (below : List Task) (first : Reading A) (next : A → Reader B)
    → ((a : A) (at1 : ℕ) (rest1 : List ℕ) → read_as view (next a at1 rest1) ≡ tasks_at below strings at1 rest1)
    → read_as view (then_read first next) ≡ then_read (with_strings strings first) (tasks_at below)
follow_view view strings below (Got a at rest) next same = same a at rest
follow_view view strings below Short next same = refl
follow_view view strings below (Refused o rule) next same = refl

-- a part and what follows it, where what follows is a stack
pub follow : {A B : Type 0} (view : B → ℕ) (strings : ℕ) (part : Part) (n : ℕ) (below : List Task) (at : ℕ) (bytes : List ℕ) (first : Reading A) (next : A → Reader B)
    → times_at part n strings at bytes ≡ with_strings strings first
    → ((a : A) (at1 : ℕ) (rest1 : List ℕ) → read_as view (next a at1 rest1) ≡ tasks_at below strings at1 rest1)
    → read_as view (then_read first next) ≡ tasks_at (below ++ (task part n ∷ [])) strings at bytes
follow view strings part n below at bytes first next is rest =
    follow_view view strings below first next rest
    ∙ sym (tasks_append below (task part n ∷ []) strings at bytes ∙ ap (λ (r : Reading ℕ). then_read r (tasks_at below)) is)

last_view : {A B : Type 0} (view : B → ℕ) (strings : ℕ) (inner : A → B) (first : Reading A) → ((a : A) → view (inner a) ≡ strings) → read_as view (read_as inner first) ≡ with_strings strings first
last_view view strings inner (Got a at rest) same = ap (λ (s : ℕ). Got s at rest) (same a)
last_view view strings inner Short same = refl
last_view view strings inner (Refused o rule) same = refl

-- the last part of a stack
pub follow_last : {A B : Type 0} (view : B → ℕ) (strings : ℕ) (part : Part) (n at : ℕ) (bytes : List ℕ) (inner : A → B) (first : Reading A)
    → ((a : A) → view (inner a) ≡ strings) → times_at part n strings at bytes ≡ with_strings strings first
    → read_as view (read_as inner first) ≡ tasks_at (task part n ∷ []) strings at bytes
follow_last view strings part n at bytes inner first same is = last_view view strings inner first same ∙ sym is
