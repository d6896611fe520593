-- What a step of a desk in memory does to its files and to its state.
use Rattle.std.proofs.Common.{◌≡◌, ◌≢◌, ℕ, Bool, true, false, cond, List, ◌++◌, Option, Some, Err, refl, sym, ◌∙◌, ap, subst}
use Rattle.std.specs.Prelude.{IsSome}
use Rattle.std.specs.Option.{option_map}
use Rattle.std.specs.Ordering.{is_eq}
use Rattle.std.specs.Cmp.{tied_itself}
use Rattle.std.specs.Cmp.Lexicographic.{nat_list_cmp_total}
use Rattle.std.specs.FinMap.{get, insert, get-insert}
use Rattle.papy_io.specs.declared.fault.Failed as unit
use Rattle.papy_io.specs.Activity.{Activity, Idle, Reading, Writing, IsReading}
use Rattle.papy_io.specs.Count.{counted}
use Rattle.papy_io.specs.Files.{Files, ChangesFile}
use Rattle.papy_io.specs.Desk.{Appends}
use Rattle.papy_io.specs.MemoryFiles.{bytes_in}
use Rattle.papy_io.specs.MemoryWork.{MissesFailed}
use Rattle.papy_io.specs.MemoryDesk.{MemoryState, ReadsIn}
use Rattle.papy_io.proofs.FileMap.{names, same_name, held_bytes}

pub get_inserted : (m : Files) (name bytes : List ℕ) → get (insert m name bytes) name ≡ Some bytes
get_inserted m name bytes =
    get-insert nat_list_cmp_total m name bytes name ∙ ap (λ o. cond (is_eq o) (Some bytes) (get m name)) (tied_itself nat_list_cmp_total name)

pub get_other : (m : Files) (name bytes other : List ℕ) → other ≢ name → get (insert m name bytes) other ≡ get m other
get_other m name bytes other ne = get-insert nat_list_cmp_total m name bytes other ∙ same (is_eq (names other name)) refl where
  same : (b : Bool) → is_eq (names other name) ≡ b → cond b (Some bytes) (get m other) ≡ get m other
  same true e = absurd (ne (same_name other name e))
  same false e = refl

-- to make a name hold bytes changes no other
pub insert_changes : (name bytes : List ℕ) (P : Option (List ℕ) → Option (List ℕ) → Type 0) (m n : Files) → n ≡ insert m name bytes → P (get m name) (Some bytes) → ChangesFile name P m n
insert_changes name bytes P m n e p =
    subst (ChangesFile name P m) (sym e) (record { file = subst (P (get m name)) (sym (get_inserted m name bytes)) p; others = get_other m name bytes })

pub append_changes : (name bytes : List ℕ) (m n : Files) → IsSome (get m name) → n ≡ insert m name (bytes_in m name ++ bytes) → ChangesFile name (Appends bytes) m n
append_changes name bytes m n h e =
    insert_changes name (bytes_in m name ++ bytes) (Appends bytes) m n e (sym (ap (option_map (λ held. held ++ bytes)) (held_bytes m name h)))

pub is_held : (m n : Files) (name bytes : List ℕ) → n ≡ insert m name bytes → IsSome (get n name)
is_held m n name bytes e = subst IsSome (sym (ap (λ k. get k name) e ∙ get_inserted m name bytes)) refl

-- a read that fails misses the name and counts
pub reads_missed : (busy : Activity) (e : unit.Failed) (old new : MemoryState) → IsReading busy → MissesFailed busy new.missed → new ≡ record old { read_faults = counted old.read_faults; missed = new.missed; calls = counted old.calls } → ReadsIn busy (Err e) old new
reads_missed Idle e old new h m s = absurd h
reads_missed (Reading name left) e old new h m s = s ∙ ap (λ o. record old { read_faults = counted old.read_faults; missed = o; calls = counted old.calls }) m
reads_missed (Writing name) e old new h m s = absurd h
