-- Rows of a part: how many are passed, and what is left.
use Rattle.std.specs.Prelude.{zero, suc, ◌-◌, Bool, Result, Ok, Err, is_ok}
use Rattle.papy_base.specs.declared.faults.Fault.{Fault}
use Rattle.papy_base.specs.declared.faults.Fault.TheVariants as fault
use Rattle.pex_values.specs.declared.values.Datum.{Datum}
use Rattle.std.proofs.Common.{◌≡◌, ℕ, ◌+◌, ◌<◌, ◌≤◌, List, [], ◌∷◌, ◌++◌, length, drop, refl, sym, ap, subst, ◌∙◌, arith, length-drop}
use Rattle.std.proofs.lemmas.List.{drop-drop}
use Rattle.pex_codec.specs.declared.cursor.Cursor.{Cursor}
use Rattle.pex_codec.specs.declared.cursor.Stop.{Stop}
use Rattle.pex_codec.specs.declared.cursor.Stop.TheVariants as stop
use Rattle.pex_codec.specs.declared.scan.Part.{Part}
use Rattle.pex_codec.specs.declared.scan.Part.TheVariants as part
use Rattle.pex_codec.specs.Opening.{Moved, Passes, PassesOne, PassesIf, fixed_at, task}
use Rattle.pex_codec.specs.Reading.{Reading, Reader, Got, Short, Refused, then_read, read_as, datum_at, opcode_at}
use Rattle.pex_codec.specs.Scanning.{with_strings, part_at, times_at, tasks_at}
use Rattle.pex_codec.specs.Taking.{Stops, Takes}
use Rattle.pex_codec.proofs.Moves.{Moves, moved, datum_moves, fixed_moves}
use Rattle.pex_codec.proofs.Opens.{instruction_opens}
use Rattle.pex_codec.proofs.FirstFields.{stops_behind, extended}
use Rattle.pex_codec.proofs.StableTasks.{part_stable}

-- ---- so many operands

-- behind the first ones of so many operands
pub record Behind (strings count : ℕ) (old : Cursor) (i : ℕ) (new : Cursor) : Type 0 where
  pub same : times_at part.Operand count strings old.at old.rest.now ≡ times_at part.Operand (count - i) strings new.at new.rest.now

next_operand : (strings count i at : ℕ) (bytes : List ℕ) → i < count
    → times_at part.Operand (count - i) strings at bytes
    ≡ then_read (with_strings strings (datum_at strings at bytes)) (λ strings1 at1 rest1. times_at part.Operand (count - (i + 1)) strings1 at1 rest1)
next_operand strings count i at bytes below =
    let next : count - i ≡ suc (count - (i + 1)) = omega arith in
    ap (λ (n : ℕ). times_at part.Operand n strings at bytes) next

pub Behind-more : (strings count : ℕ) (old : Cursor) (i : ℕ) (new : Cursor) (next : Cursor) {A : Type 0} (a : A) (r : Reading A)
    → Behind strings count old i new → i < count → with_strings strings (datum_at strings new.at new.rest.now) ≡ with_strings strings r → r ≡ Got a next.at next.rest.now → Behind strings count old (i + 1) next
Behind-more strings count old i new next a r behind below is taken = record {
  same = behind.same ∙ next_operand strings count i new.at new.rest.now below
      ∙ ap (λ (x : Reading ℕ). then_read x (λ strings1 at1 rest1. times_at part.Operand (count - (i + 1)) strings1 at1 rest1)) (is ∙ ap (λ (x : Reading _). with_strings strings x) taken);
}

as_stop : {A : Type 0} (strings : ℕ) (e : Fault Stop) (r : Reading A) → Stops r e → Stops (with_strings strings r) e
as_stop strings (fault.Broken stop.Short) r is = ap (λ (x : Reading _). with_strings strings x) is
as_stop strings (fault.Broken (stop.Refused offset rule)) r is = ap (λ (x : Reading _). with_strings strings x) is
as_stop strings fault.OutOfMemory r is = tt

pub Behind-stops : (strings count : ℕ) (old : Cursor) (i : ℕ) (new : Cursor) (e : Fault Stop)
    → Behind strings count old i new → i < count → Stops (datum_at strings new.at new.rest.now) e → Stops (times_at part.Operand count strings old.at old.rest.now) e
Behind-stops strings count old i new e behind below is =
    stops_behind e (with_strings strings (datum_at strings new.at new.rest.now)) (λ strings1 at1 rest1. times_at part.Operand (count - (i + 1)) strings1 at1 rest1)
    (times_at part.Operand count strings old.at old.rest.now) (behind.same ∙ next_operand strings count i new.at new.rest.now below) (as_stop strings e (datum_at strings new.at new.rest.now) is)

pub operands_err : (e : Fault Stop) (result : Result Unit (Fault Stop)) (strings count : ℕ) (old new : Cursor) → result ≡ Err e → Stops (times_at part.Operand count strings old.at old.rest.now) e
    → Takes (λ (_ : Unit). strings) (times_at part.Operand count strings) result old new
operands_err e result strings count old new is stops = subst (λ (x : Result Unit (Fault Stop)). Takes (λ (_ : Unit). strings) (times_at part.Operand count strings) x old new) (sym is) stops

-- ---- one of a row

pub operand_passed : {A : Type 0} (strings : ℕ) (old new : Cursor) (a : A) (r : Reading A) → part_at part.Operand strings old.at old.rest.now ≡ with_strings strings r
    → Moves 1 r old.at old.rest.now → r ≡ Got a new.at new.rest.now → PassesOne part.Operand strings old new
operand_passed strings old new a r is moves taken = record {
  same = is ∙ ap (λ (x : Reading _). with_strings strings x) taken;
  moved = moved 1 r old.at old.rest.now a new.at new.rest.now moves taken;
}

pub operand_if : (taken : Result Datum (Fault Stop)) (passed : Bool) (strings : ℕ) (old new : Cursor) → passed ≡ is_ok taken → Takes (λ datum. datum) (datum_at strings) taken old new → PassesIf passed part.Operand strings old new
operand_if (Ok datum) passed strings old new is takes =
    subst (λ (b : Bool). PassesIf b part.Operand strings old new) (sym is) (operand_passed strings old new datum (datum_at strings old.at old.rest.now) refl (datum_moves strings old.at old.rest.now) takes)
operand_if (Err e) passed strings old new is takes = subst (λ (b : Bool). PassesIf b part.Operand strings old new) (sym is) tt

pub instruction_passed : (strings : ℕ) (old new : Cursor) → fixed_at strings old.at old.rest.now ≡ Got 0 new.at new.rest.now → PassesOne part.Instruction strings old new
instruction_passed strings old new taken = record {
  same = instruction_opens strings old.at old.rest.now ∙ ap (λ (x : Reading ℕ). then_read x (λ n at1 rest1. tasks_at (task part.Operand n ∷ []) strings at1 rest1)) taken;
  moved = moved 1 (fixed_at strings old.at old.rest.now) old.at old.rest.now 0 new.at new.rest.now (fixed_moves strings old.at old.rest.now) taken;
}

-- ---- a row

pub Moved-on : (least more from : ℕ) (bytes : List ℕ) (to : ℕ) (behind : List ℕ) (end : ℕ) (rest : List ℕ) → Moved least from bytes to behind → Moved more to behind end rest → Moved (least + more) from bytes end rest
Moved-on least more from bytes to behind end rest first second = record {
  count = first.count + second.count;
  within = omega (arith, second.within, ap length first.rest, length-drop first.count bytes, first.within);
  enough = omega arith;
  at = omega arith;
  rest = second.rest ∙ ap (λ (xs : List ℕ). drop second.count xs) first.rest ∙ drop-drop second.count first.count bytes;
}

pub Passes-none : (part : Part) (strings left : ℕ) (old : Cursor) → Passes part strings left old left old
Passes-none part strings left old = record {
  fewer = omega arith;
  same = λ x. refl;
  moved = record { count = 0; within = omega arith; enough = omega arith; at = omega arith; rest = refl };
}

pub Passes-more : (part : Part) (strings left : ℕ) (old : Cursor) (now : ℕ) (new next : Cursor) (fewer : ℕ) → now ≡ suc fewer → Passes part strings left old now new → PassesOne part strings new next → Passes part strings left old fewer next
Passes-more part strings left old now new next fewer is passed one = record {
  fewer = omega (arith, passed.fewer);
  same = λ x.
      passed.same x ∙ ap (λ (n : ℕ). times_at part n strings new.at (new.rest.now ++ x)) is
      ∙ ap (λ (r : Reading ℕ). then_read r (λ strings1 at1 rest1. times_at part fewer strings1 at1 rest1))
      (extended (part_at part strings) (part_stable part strings) new.at new.rest.now strings next.at next.rest.now x one.same);
  moved = subst (λ (n : ℕ). Moved n old.at old.rest.now next.at next.rest.now) (omega (arith, passed.fewer)) (Moved-on (left - now) 1 old.at old.rest.now new.at new.rest.now next.at next.rest.now passed.moved one.moved);
}
