-- Rows of instructions in the terms of the definitions.
use Rattle.std.proofs.Common.{◌≡◌, ℕ, zero, suc, ◌-◌, ◌+◌, ◌<◌, ◌≤◌, Bool, true, false, List, [], ◌∷◌, length, drop, Option, Some, None, refl, sym, ap, subst, ◌∙◌, arith, cond, length-drop}
use Rattle.std.specs.Prelude.{vec_len, slice_get, slice_index_or, slice_set, ℤ, pos, negsuc, ◌+ℤ◌, nat_lt}
use Rattle.std.specs.Option.{option_map}
use Rattle.std.proofs.Math.IntN.{pos-ne-negsuc}
use Rattle.std.proofs.lemmas.Bool.{ltb-false}
use Rattle.std.proofs.lemmas.List.{length-map, length-set}
use Rattle.std.proofs.lemmas.Option.{slice_get-get_or, slice_get-map}
use Rattle.instance_store.specs.Instances.{InstanceState, instance_at}
use Rattle.papy_base.specs.declared.faults.StackFault.{StackFault}
use Rattle.script_meaning.specs.Requests.{LoopPass}
use Rattle.code_meaning.specs.Code.{Instruction}
use Rattle.code_meaning.specs.Execution.{Onward, Stops, executed, followed, jumped, run_from}
use Rattle.code_meaning.specs.Operands as code
use Rattle.loaded_code.specs.Plain.{instruction_of}
use Rattle.loaded_code.specs.declared.instruction.LoadedInstruction.{LoadedInstruction}
use Rattle.loaded_code.specs.declared.instruction.LoadedInstruction.TheVariants as loaded
use Rattle.pex_verify.specs.Coded.{CodePlace, IsCoded, Lands}
use Rattle.body_runner.specs.declared.body.Home.{Home}
use Rattle.body_runner.specs.declared.body.Inner.{Inner}
use Rattle.body_runner.specs.declared.instructions.Step.{Step}
use Rattle.body_runner.specs.declared.instructions.Step.TheVariants.{Done, Faulted, Jump, Leaves}
use Rattle.body_runner.specs.Bodies.{KeepsOthers, home_of, inner_of, printing, runs}
use Rattle.body_runner.specs.Rows.{IsCodedIn, Reaches, RowMeans, Rows}
use Rattle.body_runner.specs.Sights.{IsThere, Rest, instances_after}
use Rattle.body_runner.specs.Steps.{jump_of, GoesOn, IsSized, Jumps, StepMeans, Steps}
use Rattle.body_runner.proofs.Kept.{loans_twice, nothing_kept}
use Rattle.body_runner.proofs.Meaning.{inner_same}

-- ---- what stays
set_twice : {X : Type 0} (xs : List X) (i : ℕ) (x y : X) → slice_set (slice_set xs i x) i y ≡ slice_set xs i y
set_twice [] i x y = refl
set_twice (first ∷ rest) zero x y = refl
set_twice (first ∷ rest) (suc i) x y = ap (λ zs. first ∷ zs) (set_twice rest i x y)

after_twice : (own : Option ℕ) (old between new : List InstanceState) → instances_after (instances_after old own between) own new ≡ instances_after old own new
after_twice None old between new = refl
after_twice (Some i) old between new = set_twice old i (instance_at between i) (instance_at new i)

pub kept_twice : (home : Home) (old between new : Inner) → KeepsOthers home old between → KeepsOthers home between new → KeepsOthers home old new
kept_twice home old between new a b = record {
  others = b.others ∙ (ap (λ xs. instances_after xs home.instance new.store.now.instances) a.others ∙ after_twice home.instance old.store.now.instances between.store.now.instances new.store.now.instances);
  loans = loans_twice old between new a.loans b.loans;
}

still_there : (own : Option ℕ) (old new : List InstanceState) → IsThere own old → IsThere own (instances_after old own new)
still_there None old new h = h
still_there (Some i) old new h =
    let long = length-set old i (instance_at new i) in
    omega (arith, long, h)

pub there_after : (home : Home) (old new : Inner) → KeepsOthers home old new → IsThere home.instance old.store.now.instances → IsThere home.instance new.store.now.instances
there_after home old new kept there =
    subst (λ xs. IsThere home.instance xs) (sym kept.others) (still_there home.instance old.store.now.instances new.store.now.instances there)

-- ---- code by place
dropped : {X : Type 0} (xs : List X) (n : ℕ) (x : X) → slice_get xs n ≡ Some x → drop n xs ≡ x ∷ drop (suc n) xs
dropped [] n x e = absurd (cc)
dropped (y ∷ xs) zero x e = let same : y ≡ x = cc in ap (λ z. z ∷ xs) same
dropped (y ∷ xs) (suc n) x e = dropped xs n x e

nothing_left : {X : Type 0} (n : ℕ) → ◌≡◌ {A = List X} (drop n []) []
nothing_left zero = refl
nothing_left (suc n) = refl

drop_drop : {X : Type 0} (xs : List X) (a b : ℕ) → drop b (drop a xs) ≡ drop (a + b) xs
drop_drop xs zero b = let same : b ≡ 0 + b = omega arith in ap (λ n. drop n xs) same
drop_drop [] (suc a) b = nothing_left b ∙ sym (nothing_left (suc a + b))
drop_drop (x ∷ xs) (suc a) b =
    let same : suc (a + b) ≡ suc a + b = omega arith in
    drop_drop xs a b ∙ ap (λ n. drop n (x ∷ xs)) same

abbrev code_of : Home → List Instruction
code_of home = (home_of home).function.code

pub runs_step : (home : Home) (place : ℕ) (i : LoadedInstruction) (inner : Inner) (rest : Rest) → slice_get home.function.now.code.items place ≡ Some i → runs home place inner rest ≡ followed (run_from (home_of home) (suc place) (drop (suc place) (code_of home))) (executed (home_of home) place (instruction_of i) (inner_of home inner rest))
runs_step home place i inner rest e =
    let there : slice_get (code_of home) place ≡ Some (instruction_of i) = slice_get-map instruction_of home.function.now.code.items place ∙ ap (option_map instruction_of) e in
    ap (λ c. run_from (home_of home) place c 0 (inner_of home inner rest)) (dropped (code_of home) place (instruction_of i) there)

-- the first so many instructions are left out
skip : (home : code.Home) (at over : ℕ) (rest : List Instruction) (inner : code.Inner) → over ≤ length rest → run_from home at rest over inner ≡ run_from home (at + over) (drop over rest) 0 inner
skip home at zero rest inner h = let e : at ≡ at + 0 = omega arith in ap (λ n. run_from home n rest 0 inner) e
skip home at (suc over) [] inner h = absurd (omega (arith, h))
skip home at (suc over) (x ∷ xs) inner h =
    let less : over ≤ length xs = omega (arith, h) in
    let e : suc at + over ≡ at + suc over = omega arith in
    skip home (suc at) over xs inner less ∙ ap (λ n. run_from home n (drop over xs) 0 inner) e

-- ---- coded instructions
pub is_sized : (at : CodePlace) (i : LoadedInstruction) → IsCoded at i → IsSized i
is_sized at loaded.Nop h = tt
is_sized at (loaded.IAdd a b c) h = tt
is_sized at (loaded.ISub a b c) h = tt
is_sized at (loaded.IMul a b c) h = tt
is_sized at (loaded.IDiv a b c) h = tt
is_sized at (loaded.IMod a b c) h = tt
is_sized at (loaded.Not a b) h = tt
is_sized at (loaded.INeg a b) h = tt
is_sized at (loaded.Assign a b) h = tt
is_sized at (loaded.Cast a b) h = tt
is_sized at (loaded.CmpEq a b c) h = tt
is_sized at (loaded.CmpLt a b c) h = tt
is_sized at (loaded.CmpLe a b c) h = tt
is_sized at (loaded.CmpGt a b c) h = tt
is_sized at (loaded.CmpGe a b c) h = tt
is_sized at (loaded.Jmp a b) h = tt
is_sized at (loaded.JmpT a b c) h = tt
is_sized at (loaded.JmpF a b c) h = tt
is_sized at (loaded.CallMethod a b c d e) h = tt
is_sized at (loaded.CallParent a b c d) h = tt
is_sized at (loaded.CallStatic a b c d e) h = tt
is_sized at (loaded.Return a) h = tt
is_sized at (loaded.StrCat a b c) h = tt
is_sized at (loaded.PropGet a b c d) h = tt
is_sized at (loaded.PropSet a b c d) h = tt
is_sized at (loaded.ArrayCreate a b) h = h
is_sized at (loaded.ArrayLength a b) h = tt
is_sized at (loaded.ArrayGetElement a b c) h = tt
is_sized at (loaded.ArraySetElement a b c) h = tt
is_sized at (loaded.ArrayFindElement a b c d) h = tt
is_sized at (loaded.ArrayRFindElement a b c d) h = tt

lands : (at : CodePlace) (o : ℤ) (l : ℕ) (offset : ℤ) (landing : ℕ) → Lands at o l → ◌≡◌ {A = Option (ℤ × ℕ)} (Some (o, l)) (Some (offset, landing)) → Lands at offset landing
lands at o l offset landing h e =
    let pair : (o, l) ≡ (offset, landing) = cc in
    let a : o ≡ offset = ap (λ (p : ℤ × ℕ). p.0) pair in
    let b : l ≡ landing = ap (λ (p : ℤ × ℕ). p.1) pair in
    subst (λ (x : ℤ). Lands at x landing) a (subst (λ (n : ℕ). Lands at o n) b h)

-- where the jump of an instruction leads
leads : (at : CodePlace) (i : LoadedInstruction) (offset : ℤ) (landing : ℕ) → IsCoded at i → jump_of i ≡ Some (offset, landing) → Lands at offset landing
leads at loaded.Nop o l h e = absurd (cc)
leads at (loaded.IAdd a b c) o l h e = absurd (cc)
leads at (loaded.ISub a b c) o l h e = absurd (cc)
leads at (loaded.IMul a b c) o l h e = absurd (cc)
leads at (loaded.IDiv a b c) o l h e = absurd (cc)
leads at (loaded.IMod a b c) o l h e = absurd (cc)
leads at (loaded.Not a b) o l h e = absurd (cc)
leads at (loaded.INeg a b) o l h e = absurd (cc)
leads at (loaded.Assign a b) o l h e = absurd (cc)
leads at (loaded.Cast a b) o l h e = absurd (cc)
leads at (loaded.CmpEq a b c) o l h e = absurd (cc)
leads at (loaded.CmpLt a b c) o l h e = absurd (cc)
leads at (loaded.CmpLe a b c) o l h e = absurd (cc)
leads at (loaded.CmpGt a b c) o l h e = absurd (cc)
leads at (loaded.CmpGe a b c) o l h e = absurd (cc)
leads at (loaded.Jmp a b) o l h e = lands at a b o l h e
leads at (loaded.JmpT a b c) o l h e = lands at b c o l h e
leads at (loaded.JmpF a b c) o l h e = lands at b c o l h e
leads at (loaded.CallMethod a b c d f) o l h e = absurd (cc)
leads at (loaded.CallParent a b c d) o l h e = absurd (cc)
leads at (loaded.CallStatic a b c d f) o l h e = absurd (cc)
leads at (loaded.Return a) o l h e = absurd (cc)
leads at (loaded.StrCat a b c) o l h e = absurd (cc)
leads at (loaded.PropGet a b c d) o l h e = absurd (cc)
leads at (loaded.PropSet a b c d) o l h e = absurd (cc)
leads at (loaded.ArrayCreate a b) o l h e = absurd (cc)
leads at (loaded.ArrayLength a b) o l h e = absurd (cc)
leads at (loaded.ArrayGetElement a b c) o l h e = absurd (cc)
leads at (loaded.ArraySetElement a b c) o l h e = absurd (cc)
leads at (loaded.ArrayFindElement a b c d) o l h e = absurd (cc)
leads at (loaded.ArrayRFindElement a b c d) o l h e = absurd (cc)

-- ---- jumps by an offset from a place to another
down_by : (less : Bool) (m k landing : ℕ) → pos landing ≡ cond less (negsuc m) (pos k) → landing ≡ k
down_by true m k landing e = absurd (pos-ne-negsuc landing m e)
down_by false m k landing e = cc

down : (place n landing : ℕ) → pos landing ≡ pos place +ℤ negsuc n → landing ≡ place - suc n
down place n landing e = down_by (nat_lt place (suc n)) (suc n - suc place) (place - suc n) landing e

is_over : (n : ℕ) → nat_lt 0 (suc n) ≡ true
is_over n =
    elim (nat_lt 0 (suc n)) as (λ t. nat_lt 0 (suc n) ≡ t → t ≡ true) [
      | true ↦ λ e. refl
      | false ↦ λ e. absurd (let h = ltb-false 0 (suc n) e in omega (arith, h))
    ] refl

ahead : (offset : ℤ) (place landing : ℕ) (inner : code.Inner) → pos landing ≡ pos place +ℤ offset → place < landing → jumped place offset inner ≡ Onward (landing - suc place) inner
ahead (pos zero) place landing inner e h = absurd (let same : landing ≡ place + 0 = cc in omega (arith, same, h))
ahead (pos (suc n)) place landing inner e h =
    let same : landing ≡ place + suc n = cc in
    let over : suc n - 1 ≡ landing - suc place = omega (arith, same) in
    ap (λ t. cond t (Onward (suc n - 1) inner) (Stops LoopPass (place - suc n) inner)) (is_over n) ∙ ap (λ k. Onward k inner) over
ahead (negsuc n) place landing inner e h = absurd (let same = down place n landing e in omega (arith, same, h))

back : (offset : ℤ) (place landing : ℕ) (inner : code.Inner) → pos landing ≡ pos place +ℤ offset → landing ≤ place → jumped place offset inner ≡ Stops LoopPass landing inner
back (pos zero) place landing inner e h =
    let same : landing ≡ place + 0 = cc in
    let to : place - 0 ≡ landing = omega (arith, same) in
    ap (λ k. Stops LoopPass k inner) to
back (pos (suc n)) place landing inner e h = absurd (let same : landing ≡ place + suc n = cc in omega (arith, same, h))
back (negsuc n) place landing inner e h = ap (λ k. Stops LoopPass k inner) (sym (down place n landing e))

-- ---- a place of a row
module _ (home : Home) (place : ℕ) (i : LoadedInstruction) (all : List LoadedInstruction) (same : all ≡ home.function.now.code.items) (within : place < length all) (is : i ≡ slice_index_or all place i) where
  abbrev at : CodePlace
  at = record { scripts = length home.turn.now.setting.now.loaded.scripts; count = vec_len home.function.now.code; place = place }

  pub found : slice_get home.function.now.code.items place ≡ Some i
  found = subst (λ xs. slice_get xs place ≡ Some i) same (slice_get-get_or all place i within ∙ ap (λ x. Some x) (sym is))

  coded : IsCodedIn home → IsCoded at i
  coded h =
      subst (IsCoded at) (sym (is ∙ ap (λ xs. slice_index_or xs place i) same)) (h.code place i (subst (λ xs. place < length xs) same within))

  pub sized : IsCodedIn home → IsSized i
  sized h = is_sized at i (coded h)

  goes_on : (fault : Option StackFault) (old new : Inner) → GoesOn home i fault old new → (rest : Rest) → runs home place old rest ≡ runs home (suc place) new (printing home place fault rest)
  goes_on fault old new g rest =
      runs_step home place i old rest found ∙ ap (followed (run_from (home_of home) (suc place) (drop (suc place) (code_of home)))) (g place rest)

  jumps_ahead : (landing : ℕ) (old new : Inner) → IsCodedIn home → Jumps home i landing old new → place < landing → (rest : Rest) → runs home place old rest ≡ runs home landing new rest
  jumps_ahead landing old new c j h rest =
      let whole : List Instruction = code_of home in
      let inner : code.Inner = inner_of home new rest in
      let to = leads at i j.offset landing (coded c) j.is in
      let over = landing - suc place in
      let long : length whole ≡ length home.function.now.code.items = length-map home.function.now.code.items instruction_of in
      let d = length-drop (suc place) whole in
      let most : over ≤ length (drop (suc place) whole) = omega (arith, d, long, to.1, h, home.function.now.code.ok.0) in
      let there : suc place + over ≡ landing = omega (arith, h) in
      runs_step home place i old rest found
      ∙ (ap (followed (run_from (home_of home) (suc place) (drop (suc place) whole))) (j.taken place rest ∙ ahead j.offset place landing inner to.0 h)
      ∙ (skip (home_of home) (suc place) over (drop (suc place) whole) inner most
      ∙ (ap (λ c. run_from (home_of home) (suc place + over) c 0 inner) (drop_drop whole (suc place) over)
      ∙ ap (λ n. run_from (home_of home) n (drop n whole) 0 inner) there)))

  jumps_back : (landing : ℕ) (old new : Inner) → IsCodedIn home → Jumps home i landing old new → landing ≤ place → (rest : Rest) → runs home place old rest ≡ record { request = LoopPass; at = landing; inner = inner_of home new rest }
  jumps_back landing old new c j h rest =
      let to = leads at i j.offset landing (coded c) j.is in
      runs_step home place i old rest found ∙ ap (followed (run_from (home_of home) (suc place) (drop (suc place) (code_of home)))) (j.taken place rest ∙ back j.offset place landing (inner_of home new rest) to.0 h)

  -- ---- the row, one instruction after another
  pub on_done : (first : Inner) (from : ℕ) (old new : Inner) → Steps home i Done old new → Reaches home from place first old → Reaches home from (place + 1) first new
  on_done first from old new s before =
      let next : suc place ≡ place + 1 = omega arith in
      record {
        ran = λ rest. before.ran rest ∙ (goes_on None old new s.means rest ∙ ap (λ n. runs home n new rest) next);
        kept = kept_twice home first old new before.kept s.kept;
      }

  pub on_ahead : (first : Inner) (from landing to : ℕ) (old new : Inner) → IsCodedIn home → Steps home i (Jump landing) old new → place < landing → to ≡ landing → Reaches home from place first old → Reaches home from to first new
  on_ahead first from landing to old new c s over e before = record {
    ran = λ rest. before.ran rest ∙ (jumps_ahead landing old new c s.means over rest ∙ ap (λ n. runs home n new rest) (sym e));
    kept = kept_twice home first old new before.kept s.kept;
  }

  pub on_back : (first : Inner) (from landing : ℕ) (old new : Inner) → IsCodedIn home → Steps home i (Jump landing) old new → landing ≤ place → Reaches home from place first old → Rows home from place (Jump landing) first new
  on_back first from landing old new c s behind before = record {
    means = λ rest. before.ran rest ∙ jumps_back landing old new c s.means behind rest;
    kept = kept_twice home first old new before.kept s.kept;
  }

  halts : (first : Inner) (from : ℕ) (halt : Step) (old new : Inner) → StepMeans home i halt old new → (halt ≡ Done → ⊥) → ((landing : ℕ) → halt ≡ Jump landing → ⊥) → Reaches home from place first old → RowMeans home from place halt first new
  halts first from Done old new m n b before = absurd (n refl)
  halts first from (Faulted fault) old new m n b before = λ rest. before.ran rest ∙ goes_on (Some fault) old new m rest
  halts first from (Jump landing) old new m n b before = absurd (b landing refl)
  halts first from Leaves old new m n b before =
      (record { instruction = i; is = found; leaving = m.leaving }, λ rest. before.ran rest ∙ ap (run_from (home_of home) place (drop place (home_of home).function.code) 0) (sym (inner_same home old new rest m.nothing)))

  -- what else a row halts at
  pub on_halt : (first : Inner) (from : ℕ) (halt : Step) (old new : Inner) → Steps home i halt old new → (halt ≡ Done → ⊥) → ((landing : ℕ) → halt ≡ Jump landing → ⊥) → Reaches home from place first old → Rows home from place halt first new
  on_halt first from halt old new s n b before =
      record { means = halts first from halt old new s.means n b before; kept = kept_twice home first old new before.kept s.kept }

pub begins : (home : Home) (from : ℕ) (inner : Inner) → Reaches home from from inner inner
begins home from inner = record { ran = λ rest. refl; kept = nothing_kept home inner }

-- the code has no more
pub at_end : (home : Home) (from place : ℕ) (old new : Inner) → length home.function.now.code.items ≤ place → Reaches home from place old new → Rows home from place Done old new
at_end home from place old new past r = record { means = (past, r.ran); kept = r.kept }
