-- What the steps of a scan are.
use Rattle.std.specs.Prelude.{zero, suc, ◌-◌, Bool, true, false, Result, Ok, Err, IfOk, if◌then◌else◌, ◌==◌}
use Rattle.std.proofs.Common.{◌≡◌, ℕ, ◌+◌, ◌*◌, ◌<◌, ◌≤◌, List, [], ◌∷◌, ◌++◌, length, drop, refl, sym, ap, subst, ◌∙◌, arith, append_assoc, length-drop}
use Rattle.std.proofs.lemmas.List.{length-append, append-nil}
use Rattle.papy_base.specs.declared.faults.Fault.{Fault}
use Rattle.papy_base.specs.declared.faults.Fault.TheVariants as fault
use Rattle.pex_values.specs.declared.values.SizeForm.{SizeForm}
use Rattle.pex_values.specs.declared.values.SizeForm.TheVariants.{Counted, Bare}
use Rattle.pex_codec.specs.declared.cursor.Cursor.{Cursor}
use Rattle.pex_codec.specs.declared.cursor.Stop.{Stop}
use Rattle.pex_codec.specs.declared.cursor.Stop.TheVariants as stop
use Rattle.pex_codec.specs.declared.faults.PexRule.{PexRule}
use Rattle.pex_codec.specs.declared.faults.PexRule.TheVariants.{BadSize}
use Rattle.pex_codec.specs.declared.scan.Opened.{Opened}
use Rattle.pex_codec.specs.declared.scan.Part.{Part}
use Rattle.pex_codec.specs.declared.scan.Part.TheVariants as part
use Rattle.pex_codec.specs.declared.scan.Task.{Task}
use Rattle.pex_codec.specs.Opening.{task, tasks_of, Moved, Passes, HasOpened, Opens, least_of}
use Rattle.pex_codec.specs.Reading.{Reading, Reader, Got, Short, Refused, then_read, read_as, size_form_at}
use Rattle.pex_codec.specs.Scanning.{with_strings, part_at, times_at, tasks_at}
use Rattle.pex_codec.specs.ScanSteps.{SameStack, some_left, work_of, IsStep, Steps}
use Rattle.pex_codec.specs.Scans.{left_at, Finishes, Waits, ScansOn}
use Rattle.pex_codec.specs.declared.scan.Scan.{Scan}
use Rattle.pex_codec.specs.Taking.{Stops}
use Rattle.pex_codec.proofs.Tasks.{then_next, then_then, tasks_append}
use Rattle.pex_codec.proofs.Passing.{Moved-on}
use Rattle.pex_codec.proofs.FirstFields.{stops_behind, whole_opens, extended}
use Rattle.pex_codec.proofs.Stable.{size_form_stable}

-- ---- stacks

pub same_none : (part : Part) (left : ℕ) (old : List Task) → left ≡ 0 → SameStack (old ++ (task part left ∷ [])) old
same_none part left old none = record {
  same = λ strings at bytes.
      ap (λ (n : ℕ). tasks_at (old ++ (task part n ∷ [])) strings at bytes) none ∙ tasks_append old (task part 0 ∷ []) strings at bytes;
  height = omega (arith, length-append old (task part left ∷ []));
}

pub same_self : (old new : List Task) → old ≡ new → SameStack old new
same_self old new is = record { same = λ strings at bytes. ap (λ (xs : List Task). tasks_at xs strings at bytes) is; height = omega (arith, ap length is) }

-- with the same tasks above
pub same_above : (old new above : List Task) → SameStack old new → SameStack (old ++ above) (new ++ above)
same_above old new above is = record {
  same = λ strings at bytes.
      tasks_append old above strings at bytes
      ∙ then_next (tasks_at above strings at bytes) (tasks_at old) (tasks_at new) (λ s at1 rest1. is.same s at1 rest1)
      ∙ sym (tasks_append new above strings at bytes);
  height = omega (arith, length-append old above, length-append new above, is.height);
}

pub same_then : (a b c : List Task) → SameStack a b → SameStack b c → SameStack a c
same_then a b c first second = record {
  same = λ strings at bytes. first.same strings at bytes ∙ second.same strings at bytes;
  height = omega (arith, first.height, second.height);
}

-- four tasks, one after another
pub same_four : (a b c d : Task) (s s1 s2 s3 s4 : List Task)
    → SameStack (s ++ (a ∷ [])) s1 → SameStack (s1 ++ (b ∷ [])) s2 → SameStack (s2 ++ (c ∷ [])) s3 → SameStack (s3 ++ (d ∷ [])) s4
    → SameStack (s ++ (a ∷ b ∷ c ∷ d ∷ [])) s4
same_four a b c d s s1 s2 s3 s4 e1 e2 e3 e4 =
    let one = same_above (s ++ (a ∷ [])) s1 (b ∷ c ∷ d ∷ []) e1 in
    let two = same_above (s1 ++ (b ∷ [])) s2 (c ∷ d ∷ []) e2 in
    let three = same_above (s2 ++ (c ∷ [])) s3 (d ∷ []) e3 in
    same_then (s ++ (a ∷ b ∷ c ∷ d ∷ [])) ((s ++ (a ∷ [])) ++ (b ∷ c ∷ d ∷ [])) s4 (same_self _ _ (sym (append_assoc s (a ∷ []) (b ∷ c ∷ d ∷ []))))
    (same_then ((s ++ (a ∷ [])) ++ (b ∷ c ∷ d ∷ [])) (s1 ++ (b ∷ c ∷ d ∷ [])) s4 one
    (same_then (s1 ++ (b ∷ c ∷ d ∷ [])) ((s1 ++ (b ∷ [])) ++ (c ∷ d ∷ [])) s4 (same_self _ _ (sym (append_assoc s1 (b ∷ []) (c ∷ d ∷ []))))
    (same_then ((s1 ++ (b ∷ [])) ++ (c ∷ d ∷ [])) (s2 ++ (c ∷ d ∷ [])) s4 two
    (same_then (s2 ++ (c ∷ d ∷ [])) ((s2 ++ (c ∷ [])) ++ (d ∷ [])) s4 (same_self _ _ (sym (append_assoc s2 (c ∷ []) (d ∷ []))))
    (same_then ((s2 ++ (c ∷ [])) ++ (d ∷ [])) (s3 ++ (d ∷ [])) s4 three e4)))))

-- ---- steps

-- the uppermost task
pub top_first : (below : List Task) (part : Part) (n strings at : ℕ) (bytes : List ℕ)
    → tasks_at (below ++ (task part n ∷ [])) strings at bytes ≡ then_read (times_at part n strings at bytes) (tasks_at below)
top_first below part n strings at bytes = tasks_append below (task part n ∷ []) strings at bytes

-- part of a row was passed
pub row_passed : (below : List Task) (part : Part) (left strings : ℕ) (from : Cursor) (now : ℕ) (to : Cursor) → Passes part strings left from now to
    → (x : List ℕ) → tasks_at (below ++ (task part left ∷ [])) strings from.at (from.rest.now ++ x) ≡ tasks_at (below ++ (task part now ∷ [])) strings to.at (to.rest.now ++ x)
row_passed below part left strings from now to passed x =
    top_first below part left strings from.at (from.rest.now ++ x)
    ∙ ap (λ (r : Reading ℕ). then_read r (tasks_at below)) (passed.same x)
    ∙ sym (top_first below part now strings to.at (to.rest.now ++ x))

-- where the next of a part isn't there, nothing is
pub part_stops : (below : List Task) (part : Part) (left strings at : ℕ) (bytes : List ℕ) (e : Fault Stop) → 0 < left → Stops (part_at part strings at bytes) e
    → Stops (tasks_at (below ++ (task part left ∷ [])) strings at bytes) e
part_stops below part (suc left) strings at bytes e some stops =
    stops_behind e (times_at part (suc left) strings at bytes) (tasks_at below) _ (top_first below part (suc left) strings at bytes)
    (stops_behind e (part_at part strings at bytes) (λ strings1 at1 rest1. times_at part left strings1 at1 rest1) (times_at part (suc left) strings at bytes) refl stops)
part_stops below part zero strings at bytes e some stops = absurd (omega arith)

-- a part was opened
pub part_opened : (below put : List Task) (part : Part) (left fewer strings : ℕ) (opened : Opened) (from to : Cursor)
    → left ≡ suc fewer → HasOpened part strings opened from to
    → SameStack (below ++ (task part fewer ∷ opened.fourth ∷ opened.third ∷ opened.second ∷ [])) put
    → (x : List ℕ) → tasks_at (below ++ (task part left ∷ [])) strings from.at (from.rest.now ++ x) ≡ tasks_at (put ++ (opened.first ∷ [])) opened.strings to.at (to.rest.now ++ x)
part_opened below put part left fewer strings opened from to one has is x =
    let at = to.at in
    let rest = to.rest.now ++ x in
    let stack = below ++ (task part fewer ∷ opened.fourth ∷ opened.third ∷ opened.second ∷ []) in
    ap (λ (n : ℕ). tasks_at (below ++ (task part n ∷ [])) strings from.at (from.rest.now ++ x)) one
    ∙ top_first below part (suc fewer) strings from.at (from.rest.now ++ x)
    ∙ ap (λ (r : Reading ℕ). then_read (then_read r (λ strings1 at1 rest1. times_at part fewer strings1 at1 rest1)) (tasks_at below)) (has.same x)
    ∙ then_then (tasks_at (tasks_of opened) opened.strings at rest) (λ strings1 at1 rest1. times_at part fewer strings1 at1 rest1) (tasks_at below)
    ∙ then_next (tasks_at (tasks_of opened) opened.strings at rest) _ (tasks_at (below ++ (task part fewer ∷ []))) (λ s at1 rest1. sym (top_first below part fewer s at1 rest1))
    ∙ sym (tasks_append (below ++ (task part fewer ∷ [])) (tasks_of opened) opened.strings at rest)
    ∙ ap (λ (xs : List Task). tasks_at xs opened.strings at rest) (append_assoc below (task part fewer ∷ []) (tasks_of opened) ∙ sym (append_assoc below (task part fewer ∷ opened.fourth ∷ opened.third ∷ opened.second ∷ []) (opened.first ∷ [])))
    ∙ (same_above stack put (opened.first ∷ []) is).same opened.strings at rest

-- ---- a size is judged once

size_once : (test other : Bool) (offset : ℕ) (strings at : ℕ) (bytes : List ℕ) (form : SizeForm) (at1 : ℕ) (rest1 : List ℕ)
    → (if test then Got Counted at bytes else if other then Got Bare at bytes else Refused offset BadSize) ≡ Got form at1 rest1
    → with_strings strings (if test then Got Counted at bytes else if other then Got Bare at bytes else Refused offset BadSize) ≡ Got strings at bytes
size_once true other offset strings at bytes form at1 rest1 is = refl
size_once false true offset strings at bytes form at1 rest1 is = refl
size_once false false offset strings at bytes form at1 rest1 is = absurd cc

size_times : (size_at size strings at : ℕ) (bytes : List ℕ) (n : ℕ) → part_at (part.Size size_at size) strings at bytes ≡ Got strings at bytes → times_at (part.Size size_at size) n strings at bytes ≡ Got strings at bytes
size_times size_at size strings at bytes zero is = refl
size_times size_at size strings at bytes (suc n) is =
    ap (λ (r : Reading ℕ). then_read r (λ strings1 at1 rest1. times_at (part.Size size_at size) n strings1 at1 rest1)) is ∙ size_times size_at size strings at bytes n is

pub size_judged : (below : List Task) (size_at size left strings at : ℕ) (bytes : List ℕ) (form : SizeForm) (at1 : ℕ) (rest1 : List ℕ)
    → size_form_at size_at size at bytes ≡ Got form at1 rest1
    → tasks_at (below ++ (task (part.Size size_at size) left ∷ [])) strings at bytes ≡ tasks_at (below ++ (task (part.Size size_at size) 0 ∷ [])) strings at bytes
size_judged below size_at size left strings at bytes form at1 rest1 is =
    top_first below (part.Size size_at size) left strings at bytes
    ∙ ap (λ (r : Reading ℕ). then_read r (tasks_at below))
    (size_times size_at size strings at bytes left (size_once (size_at + size == at) (size_at + 4 + size == at) size_at strings at bytes form at1 rest1 is))
    ∙ sym (top_first below (part.Size size_at size) 0 strings at bytes)

pub size_stops : (below : List Task) (size_at size left strings at : ℕ) (bytes : List ℕ) (e : Fault Stop) → 0 < left → Stops (size_form_at size_at size at bytes) e
    → Stops (tasks_at (below ++ (task (part.Size size_at size) left ∷ [])) strings at bytes) e
size_stops below size_at size left strings at bytes e some stops =
    part_stops below (part.Size size_at size) left strings at bytes e some
    (stops_behind e (size_form_at size_at size at bytes) (λ form at1 rest1. Got strings at1 rest1) (part_at (part.Size size_at size) strings at bytes) (whole_opens strings (size_form_at size_at size at bytes)) stops)

-- ---- steps of a scan

some_one : (n : ℕ) → some_left n ≤ 1
some_one zero = omega arith
some_one (suc n) = omega arith

some_none : (n : ℕ) → some_left n ≡ 0 → n ≡ 0
some_none zero none = refl
some_none (suc n) none = absurd (omega arith)

empty_of : (xs : List Task) → length xs ≡ 0 → xs ≡ []
empty_of [] none = refl
empty_of (x ∷ xs) none = absurd (omega arith)

some_there : (n : ℕ) → 0 < n → some_left n ≡ 1
some_there zero some = absurd (omega arith)
some_there (suc n) some = refl

behind_is : (least from : ℕ) (bytes : List ℕ) (to : ℕ) (behind : List ℕ) → Moved least from bytes to behind → length behind + least ≤ length bytes
behind_is least from bytes to behind moved = omega (arith, ap length moved.rest, length-drop moved.count bytes, moved.within, moved.enough)

any_moved : (least from : ℕ) (bytes : List ℕ) (to : ℕ) (behind : List ℕ) → Moved least from bytes to behind → Moved 0 from bytes to behind
any_moved least from bytes to behind moved = record { count = moved.count; within = moved.within; enough = omega arith; at = moved.at; rest = moved.rest }

still : (from : Cursor) → Moved 0 from.at from.rest.now from.at from.rest.now
still from = record { count = 0; within = omega arith; enough = omega arith; at = omega arith; rest = refl }

abbrev pub with_left : Scan → ℕ → Scan
with_left scan left = record { strings = scan.strings; current = record { part = scan.current.part; left = left }; below = scan.below }

pub row_step : (old : Scan) (from : Cursor) (now : ℕ) (to : Cursor) → Passes old.current.part old.strings old.current.left from now to → now < old.current.left → IsStep old from (with_left old now) to
row_step old from now to passed fewer = record {
  same = row_passed old.below.items old.current.part old.current.left old.strings from now to passed;
  moved = any_moved (old.current.left - now) from.at from.rest.now to.at to.rest.now passed.moved;
  less =
      let shorter = behind_is (old.current.left - now) from.at from.rest.now to.at to.rest.now passed.moved in
      let a = some_one now in
      omega arith;
}

abbrev pub size_step_of : Scan → ℕ → List ℕ → Part → Type 0
size_step_of old at bytes p = tasks_at (old.below.items ++ (task p old.current.left ∷ [])) old.strings at bytes ≡ tasks_at (old.below.items ++ (task p 0 ∷ [])) old.strings at bytes

pub size_step : (old : Scan) (size_at size : ℕ) (cursor here : Cursor) (form : SizeForm) → 0 < old.current.left → old.current.part ≡ part.Size size_at size
    → size_form_at size_at size cursor.at cursor.rest.now ≡ Got form here.at here.rest.now → IsStep old cursor (with_left old 0) cursor
size_step old size_at size cursor here form some is taken = record {
  same = λ x.
      subst (λ (p : Part). size_step_of old cursor.at (cursor.rest.now ++ x) p) (sym is)
      (size_judged old.below.items size_at size old.current.left old.strings cursor.at (cursor.rest.now ++ x) form here.at (here.rest.now ++ x)
      (extended (size_form_at size_at size) (size_form_stable size_at size) cursor.at cursor.rest.now form here.at here.rest.now x taken));
  moved = still cursor;
  less = let a = some_there old.current.left some in omega arith;
}

waits : (e : Fault Stop) (scan : Scan) (cursor : Cursor) → Stops (left_at scan cursor.at cursor.rest.now) e → Steps {T = Unit} (Err e) scan cursor scan cursor
waits (fault.Broken stop.Short) scan cursor stops = record { short = stops; scan = refl; cursor = refl }
waits (fault.Broken (stop.Refused offset rule)) scan cursor stops = stops
waits fault.OutOfMemory scan cursor stops = tt

pub steps_err : (e : Fault Stop) (result : Result Unit (Fault Stop)) (scan : Scan) (cursor : Cursor) → result ≡ Err e → Stops (left_at scan cursor.at cursor.rest.now) e → Steps result scan cursor scan cursor
steps_err e result scan cursor is stops = subst (λ (x : Result Unit (Fault Stop)). Steps x scan cursor scan cursor) (sym is) (waits e scan cursor stops)

pub size_waits : (e : Fault Stop) (result : Result Unit (Fault Stop)) (scan : Scan) (size_at size : ℕ) (cursor : Cursor) → result ≡ Err e → 0 < scan.current.left → scan.current.part ≡ part.Size size_at size
    → Stops (size_form_at size_at size cursor.at cursor.rest.now) e → Steps result scan cursor scan cursor
size_waits e result scan size_at size cursor is some same stops =
    steps_err e result scan cursor is
    (subst (λ (p : Part). Stops (tasks_at (scan.below.items ++ (task p scan.current.left ∷ [])) scan.strings cursor.at cursor.rest.now) e) (sym same)
    (size_stops scan.below.items size_at size scan.current.left scan.strings cursor.at cursor.rest.now e some stops))

pub part_waits : (e : Fault Stop) (result : Result Unit (Fault Stop)) (scan : Scan) (cursor : Cursor) → result ≡ Err e → 0 < scan.current.left
    → Stops (part_at scan.current.part scan.strings cursor.at cursor.rest.now) e → Steps result scan cursor scan cursor
part_waits e result scan cursor is some stops =
    steps_err e result scan cursor is (part_stops scan.below.items scan.current.part scan.current.left scan.strings cursor.at cursor.rest.now e some stops)

pub next_step : (old new : Scan) (cursor : Cursor) → old.current.left ≡ 0 → new.strings ≡ old.strings → old.below.items ≡ new.below.items ++ (new.current ∷ []) → IsStep old cursor new cursor
next_step old new cursor none strings items = record {
  same = λ x.
      (same_none old.current.part old.current.left old.below.items none).same old.strings cursor.at (cursor.rest.now ++ x)
      ∙ ap (λ (xs : List Task). tasks_at xs old.strings cursor.at (cursor.rest.now ++ x)) items
      ∙ ap (λ (n : ℕ). tasks_at (new.below.items ++ (new.current ∷ [])) n cursor.at (cursor.rest.now ++ x)) (sym strings);
  moved = still cursor;
  less = let a = some_one new.current.left in omega (arith, ap length items, length-append new.below.items (new.current ∷ []));
}

pub open_step : (old new : Scan) (opened : Opened) (from to : Cursor) → 0 < old.current.left → least_of old.current.part ≡ 1 → HasOpened old.current.part old.strings opened from to
    → SameStack (old.below.items ++ (task old.current.part (old.current.left - 1) ∷ opened.fourth ∷ opened.third ∷ opened.second ∷ [])) new.below.items
    → new.strings ≡ opened.strings → new.current ≡ opened.first → IsStep old from new to
open_step old new opened from to some least has is strings first = record {
  same = λ x.
      part_opened old.below.items new.below.items old.current.part old.current.left (old.current.left - 1) old.strings opened from to (omega arith) has is x
      ∙ ap (λ (n : ℕ). tasks_at (new.below.items ++ (opened.first ∷ [])) n to.at (to.rest.now ++ x)) (sym strings)
      ∙ ap (λ (t : Task). tasks_at (new.below.items ++ (t ∷ [])) new.strings to.at (to.rest.now ++ x)) (sym first);
  moved = any_moved (least_of old.current.part) from.at from.rest.now to.at to.rest.now has.moved;
  less =
      let shorter = behind_is (least_of old.current.part) from.at from.rest.now to.at to.rest.now has.moved in
      let high = is.height in
      let more = length-append old.below.items (task old.current.part (old.current.left - 1) ∷ opened.fourth ∷ opened.third ∷ opened.second ∷ []) in
      let a = some_one new.current.left in
      omega arith;
}

pub if_ok : {T E : Type 0} (r : Result T E) (P Q : Type 0) → (P → Q) → IfOk r (λ (_ : T). P) → IfOk r (λ (_ : T). Q)
if_ok (Ok x) P Q f p = f p
if_ok (Err e) P Q f p = tt

-- ---- going on

-- it came from one place to another
pub record CameTo (old : Scan) (from : Cursor) (new : Scan) (to : Cursor) : Type 0 where
  pub follows : (x : List ℕ) → left_at old from.at (from.rest.now ++ x) ≡ left_at new to.at (to.rest.now ++ x)
  pub moved : Moved 0 from.at from.rest.now to.at to.rest.now

pub came_nowhere : (old : Scan) (from : Cursor) → CameTo old from old from
came_nowhere old from = record { follows = λ x. refl; moved = still from }

here : (old : Scan) (from : Cursor) (new : Scan) (to : Cursor) → CameTo old from new to → left_at old from.at from.rest.now ≡ left_at new to.at to.rest.now
here old from new to came =
    ap (λ (b : List ℕ). left_at old from.at b) (sym (append-nil from.rest.now)) ∙ came.follows [] ∙ ap (λ (b : List ℕ). left_at new to.at b) (append-nil to.rest.now)

nothing_left : (new : Scan) (to : Cursor) → work_of new ≡ 0 → left_at new to.at to.rest.now ≡ Got new.strings to.at to.rest.now
nothing_left new to none =
    let left = some_none new.current.left (omega arith) in
    let below = empty_of new.below.items (omega arith) in
    top_first new.below.items new.current.part new.current.left new.strings to.at to.rest.now
    ∙ ap (λ (n : ℕ). then_read (times_at new.current.part n new.strings to.at to.rest.now) (tasks_at new.below.items)) left
    ∙ ap (λ (xs : List Task). tasks_at xs new.strings to.at to.rest.now) below

pub came_to_end : (old : Scan) (from : Cursor) (new : Scan) (to : Cursor) → CameTo old from new to → work_of new ≡ 0 → Finishes old new from to
came_to_end old from new to came none = record { done = here old from new to came ∙ nothing_left new to none; moved = came.moved }

stopped : (e : Fault Stop) (old : Scan) (from : Cursor) (new : Scan) (to : Cursor) (next : Scan) (end : Cursor) → CameTo old from new to → Steps {T = Unit} (Err e) new to next end → ScansOn old (Err e) next from end
stopped (fault.Broken stop.Short) old from new to next end came stays =
    subst (λ (c : Cursor). Waits old next from c) (sym stays.cursor) (subst (λ (s : Scan). Waits old s from to) (sym stays.scan)
    (record { follows = came.follows; short = stays.short; moved = came.moved }))
stopped (fault.Broken (stop.Refused offset rule)) old from new to next end came refused = here old from new to came ∙ refused
stopped fault.OutOfMemory old from new to next end came none = tt

pub came_to_stop : (e : Fault Stop) (result : Result Unit (Fault Stop)) (old : Scan) (from : Cursor) (new : Scan) (to : Cursor) (next : Scan) (end : Cursor)
    → result ≡ Err e → CameTo old from new to → Steps {T = Unit} (Err e) new to next end → ScansOn old result next from end
came_to_stop e result old from new to next end is came steps = subst (λ (r : Result Unit (Fault Stop)). ScansOn old r next from end) (sym is) (stopped e old from new to next end came steps)
