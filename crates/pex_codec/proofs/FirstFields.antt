-- From what was taken to what was opened.
use Rattle.std.specs.Prelude.{Result, Ok, Err}
use Rattle.std.proofs.Common.{◌≡◌, ℕ, ◌≤◌, List, ◌++◌, refl, sym, ap, subst, ◌∙◌}
use Rattle.papy_base.specs.declared.faults.Fault.{Fault}
use Rattle.papy_base.specs.declared.faults.Fault.TheVariants as fault
use Rattle.pex_codec.specs.declared.cursor.Cursor.{Cursor}
use Rattle.pex_codec.specs.declared.cursor.Stop.{Stop}
use Rattle.pex_codec.specs.declared.cursor.Stop.TheVariants as stop
use Rattle.pex_codec.specs.declared.scan.Opened.{Opened}
use Rattle.pex_codec.specs.declared.scan.Part.{Part}
use Rattle.pex_codec.specs.declared.scan.Task.{Task}
use Rattle.pex_codec.specs.Opening.{Opens, OpensAs, HasOpened, IsOpened, Moved, tasks_of, least_of}
use Rattle.pex_codec.specs.Reading.{Reading, Reader, Got, Short, Refused, then_read}
use Rattle.pex_codec.specs.Scanning.{with_strings, part_at, tasks_at}
use Rattle.pex_codec.specs.Taking.{Stops, Takes}
use Rattle.pex_codec.proofs.Moves.{Moves, moved}
use Rattle.pex_codec.proofs.Stable.{Extends, IsStable}

-- what isn't there keeps what begins with it from being there
pub stops_behind : {A B : Type 0} (e : Fault Stop) (r : Reading A) (next : A → Reader B) (whole : Reading B) → whole ≡ then_read r next → Stops r e → Stops whole e
stops_behind (fault.Broken stop.Short) r next whole is stops = is ∙ ap (λ (x : Reading _). then_read x next) stops
stops_behind (fault.Broken (stop.Refused offset rule)) r next whole is stops = is ∙ ap (λ (x : Reading _). then_read x next) stops
stops_behind fault.OutOfMemory r next whole is stops = tt

pub opens_err : {A : Type 0} (e : Fault Stop) (result : Result Opened (Fault Stop)) (part : Part) (strings : ℕ) (old new : Cursor) (r : Reading A) (next : A → Reader ℕ)
    → result ≡ Err e → part_at part strings old.at old.rest.now ≡ then_read r next → Stops r e → Opens part strings result old new
opens_err e result part strings old new r next is law stops =
    subst (λ (x : Result Opened (Fault Stop)). Opens part strings x old new) (sym is) (stops_behind e r next (part_at part strings old.at old.rest.now) law stops)

-- what was got is got where other bytes follow
pub extended : {A : Type 0} (reader : Reader A) → IsStable reader → (at : ℕ) (bytes : List ℕ) (a : A) (at1 : ℕ) (rest1 x : List ℕ) → reader at bytes ≡ Got a at1 rest1 → reader at (bytes ++ x) ≡ Got a at1 (rest1 ++ x)
extended reader stable at bytes a at1 rest1 x is = subst (λ (r : Reading _). Extends r (reader at (bytes ++ x)) x) is (stable at bytes x)

pub opens_ok : {A : Type 0} (part : Part) (strings : ℕ) (opened : Opened) (old new : Cursor) (reader : Reader A) (next : A → Reader ℕ) (a : A) (tasks : List Task) (strings1 : ℕ)
    → IsStable reader → ((at : ℕ) (bytes : List ℕ) → part_at part strings at bytes ≡ then_read (reader at bytes) next) → reader old.at old.rest.now ≡ Got a new.at new.rest.now → IsOpened opened tasks strings1
    → ((at : ℕ) (bytes : List ℕ) → next a at bytes ≡ tasks_at tasks strings1 at bytes) → Moves (least_of part) (reader old.at old.rest.now) old.at old.rest.now → HasOpened part strings opened old new
opens_ok part strings opened old new reader next a tasks strings1 stable law taken is reads moves = record {
  same = λ x.
      law old.at (old.rest.now ++ x)
      ∙ ap (λ (r : Reading _). then_read r next) (extended reader stable old.at old.rest.now a new.at new.rest.now x taken)
      ∙ reads new.at (new.rest.now ++ x)
      ∙ sym (is.same new.at (new.rest.now ++ x));
  moved = moved (least_of part) (reader old.at old.rest.now) old.at old.rest.now a new.at new.rest.now moves taken;
}

-- a part that is nothing but what was taken
pub whole_opens : {A : Type 0} (strings : ℕ) (r : Reading A) → with_strings strings r ≡ then_read r (λ a at1 rest1. Got strings at1 rest1)
whole_opens strings (Got a at rest) = refl
whole_opens strings Short = refl
whole_opens strings (Refused o rule) = refl

opens_known : {T A : Type 0} (plain : T → A) (part : Part) (strings : ℕ) (reader : Reader A) (next : A → Reader ℕ) (taken : Result T (Fault Stop)) (tasks : T → List Task) (counted : T → ℕ) (result : Result Opened (Fault Stop)) (old new : Cursor)
    → IsStable reader → ((at : ℕ) (bytes : List ℕ) → part_at part strings at bytes ≡ then_read (reader at bytes) next) → Moves (least_of part) (reader old.at old.rest.now) old.at old.rest.now
    → ((x : T) (at : ℕ) (bytes : List ℕ) → next (plain x) at bytes ≡ tasks_at (tasks x) (counted x) at bytes)
    → Takes plain reader taken old new → OpensAs taken tasks counted result → Opens part strings result old new
opens_known plain part strings reader next (Ok x) tasks counted (Ok opened) old new stable law moves reads takes is =
    opens_ok part strings opened old new reader next (plain x) (tasks x) (counted x) stable law takes is (reads x) moves
opens_known plain part strings reader next (Err e) tasks counted (Err f) old new stable law moves reads takes is =
    opens_err e (Err f) part strings old new (reader old.at old.rest.now) next (ap Err is) (law old.at old.rest.now) takes
opens_known plain part strings reader next (Ok x) tasks counted (Err f) old new stable law moves reads takes is = absurd is
opens_known plain part strings reader next (Err e) tasks counted (Ok opened) old new stable law moves reads takes is = absurd is

pub opens_as : {T A : Type 0} (plain : T → A) (part : Part) (strings : ℕ) (reader : Reader A) (next : A → Reader ℕ) (taken : Result T (Fault Stop)) (tasks : T → List Task) (counted : T → ℕ) (result : Result Opened (Fault Stop)) (old new : Cursor)
    → (given : Part) → given ≡ part → IsStable reader → ((at : ℕ) (bytes : List ℕ) → part_at part strings at bytes ≡ then_read (reader at bytes) next)
    → Moves (least_of part) (reader old.at old.rest.now) old.at old.rest.now
    → ((x : T) (at : ℕ) (bytes : List ℕ) → next (plain x) at bytes ≡ tasks_at (tasks x) (counted x) at bytes)
    → Takes plain reader taken old new → OpensAs taken tasks counted result → Opens given strings result old new
opens_as plain part strings reader next taken tasks counted result old new given same stable law moves reads takes is =
    subst (λ (p : Part). Opens p strings result old new) (sym same) (opens_known plain part strings reader next taken tasks counted result old new stable law moves reads takes is)
