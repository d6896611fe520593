-- What moves are noted after several steps.
use Rattle.std.proofs.Common.{◌≡◌, ℕ, ◌+◌, ◌≤◌, List, [], ◌∷◌, ◌++◌, Option, None, Some, Result, Ok, Err, sym, ◌∙◌, ap, subst, refl, append_assoc, append-nil, length, take, arith}
use Rattle.std.specs.Option.{option_map, option_to_list}
use Rattle.std.specs.Prelude.{IfSome, MatchResult, OnErr, OnOk}
use Rattle.std.proofs.lemmas.List.{take_at}
use Rattle.run_replay.specs.declared.lock_move.LockMove.{LockMove}
use Rattle.run_replay.specs.declared.lock_move.LockMove.TheVariants as moves
use Rattle.stack_machine.specs.declared.status.TurnEnd.{TurnEnd}
use Rattle.stack_machine.specs.declared.status.TurnEnd.TheVariants.{Ran, Idle, Ended}
use Rattle.stack_machine.specs.declared.status.TurnFault.{TurnFault}
use Rattle.stack_machine.specs.Moves.{Adds, AddsSome, AppendsTurn, NotesEnd, AreOfBeginning, AreOfEnd, AreOfTurn, AreStarts, AreWakes, Arrives, Begins, IsAct, IsTake, LetsGo, Noted, Takes}

-- ---- one step after another
pub adds_none : (now : Option (List LockMove)) → Adds [] now now
adds_none None = refl
adds_none (Some noted) = ap Some (sym (append-nil noted))

twice : (first second : List LockMove) (before : Option (List LockMove)) → option_map (λ noted. noted ++ second) (option_map (λ noted. noted ++ first) before) ≡ option_map (λ noted. noted ++ (first ++ second)) before
twice first second None = refl
twice first second (Some noted) = ap Some (append_assoc noted first second)

pub adds_twice : (first second : List LockMove) (before between now : Option (List LockMove)) → Adds first before between → Adds second between now → Adds (first ++ second) before now
adds_twice first second before between now a b =
    b ∙ ap (option_map (λ noted. noted ++ second)) a ∙ twice first second before

-- some moves, and then some more
pub some_none : (now : Option (List LockMove)) → AddsSome now now
some_none now = record { these = []; added = adds_none now }

pub some_same : (before now : Option (List LockMove)) → now ≡ before → AddsSome before now
some_same before now e = subst (λ (noted : Option (List LockMove)). AddsSome before noted) (sym e) (some_none before)

pub some_added : (these : List LockMove) (before now : Option (List LockMove)) → Adds these before now → AddsSome before now
some_added these before now a = record { these = these; added = a }

-- these, and then none
pub some_kept : (these : List LockMove) (before between now : Option (List LockMove)) → Adds these before between → now ≡ between → AddsSome before now
some_kept these before between now a e = record { these = these; added = e ∙ a }

pub some_more : (before between now : Option (List LockMove)) → AddsSome before between → AddsSome between now → AddsSome before now
some_more before between now a b =
    record { these = a.these ++ b.these; added = adds_twice a.these b.these before between now a.added b.added }

pub some_noted : {Form : List LockMove → Type 0} (before now : Option (List LockMove)) → Noted Form before now → AddsSome before now
some_noted before now a = record { these = a.these; added = a.added }

pub some_twice : (first second : List LockMove) (before between now : Option (List LockMove)) → Adds first before between → Adds second between now → AddsSome before now
some_twice first second before between now a b =
    some_more before between now (some_added first before between a) (some_added second between now b)

-- what a last call notes, where it answers and where it doesn't
pub on_either : {T E Right Wrong : Type 0} (result : Result T E) (A B : Type 0) → OnOk result A → OnErr result B → (A → Right) → (B → Wrong) → MatchResult result (λ _. Right) (λ _. Wrong)
on_either (Ok value) A B right wrong f g = f right
on_either (Err fault) A B right wrong f g = g wrong

-- ---- moves of a form
pub noted_none : (Form : List LockMove → Type 0) (now : Option (List LockMove)) → Form [] → Noted Form now now
noted_none Form now form = record { these = []; added = adds_none now; form = form }

pub noted_one : (Form : List LockMove → Type 0) (move : LockMove) (before now : Option (List LockMove)) → Adds (move ∷ []) before now → Form (move ∷ []) → Noted Form before now
noted_one Form move before now a form = record { these = move ∷ []; added = a; form = form }

pub noted_as : (Form More : List LockMove → Type 0) (before now : Option (List LockMove)) → Noted Form before now → ((these : List LockMove) → Form these → More these) → Noted More before now
noted_as Form More before now a form = record { these = a.these; added = a.added; form = form a.these a.form }

pub noted_then : (First Second Both : List LockMove → Type 0) (before between now : Option (List LockMove)) → Noted First before between → Noted Second between now → ((a b : List LockMove) → First a → Second b → Both (a ++ b)) → Noted Both before now
noted_then First Second Both before between now a b form =
    record {
      these = a.these ++ b.these;
      added = adds_twice a.these b.these before between now a.added b.added;
      form = form a.these b.these a.form b.form;
    }

pub noted_more : (First Both : List LockMove → Type 0) (move : LockMove) (before between now : Option (List LockMove)) → Noted First before between → Adds (move ∷ []) between now → ((a : List LockMove) → First a → Both (a ++ move ∷ [])) → Noted Both before now
noted_more First Both move before between now a b form =
    record {
      these = a.these ++ move ∷ [];
      added = adds_twice a.these (move ∷ []) before between now a.added b;
      form = form a.these a.form;
    }

-- ---- the beginning of a turn
pub starts_more : (from to : ℕ) (these : List LockMove) (move : LockMove) → AreStarts from to these → Begins to move → AreStarts from (to + 1) (these ++ move ∷ [])
starts_more from to [] move e begins =
    (subst (λ (k : ℕ). Begins k move) e begins, omega (arith, e))
starts_more from to (first ∷ rest) move h begins = (h.0, starts_more (from + 1) to rest move h.1 begins)

pub one_started : (from to next : ℕ) (move : LockMove) (before between now : Option (List LockMove)) → next ≡ to + 1 → Noted (AreStarts from to) before between → Begins to move → Adds (move ∷ []) between now → Noted (AreStarts from next) before now
one_started from to next move before between now one noted begins added =
    let more : Noted (AreStarts from (to + 1)) before now = noted_more (AreStarts from to) (AreStarts from (to + 1)) move before between now noted added (λ these starts. starts_more from to these move starts begins) in
    subst (λ (n : ℕ). Noted (AreStarts from n) before now) (sym one) more

pub wakes_more : (from to stack : ℕ) (these : List LockMove) (move : LockMove) → AreWakes from to these → to ≤ stack → Begins stack move → AreWakes from (stack + 1) (these ++ move ∷ [])
wakes_more from to stack [] move e within begins = (stack, omega arith, begins, omega arith)
wakes_more from to stack (first ∷ rest) move h within begins =
    (h.0, h.1, h.2, wakes_more (h.0 + 1) to stack rest move h.3 within begins)

pub wakes_within : (from to bound : ℕ) (these : List LockMove) → AreWakes from to these → to ≤ bound → AreWakes from bound these
wakes_within from to bound [] e within = omega arith
wakes_within from to bound (first ∷ rest) h within =
    (h.0, h.1, h.2, wakes_within (h.0 + 1) to bound rest h.3 within)

pub beginning_noted : (before between now : ℕ) (old started new : Option (List LockMove)) → now ≡ between → Noted (AreStarts before between) old started → Noted (AreWakes 0 between) started new → Noted (AreOfBeginning before now) old new
beginning_noted before between now old started new same starts wakes =
    let both : Noted (AreOfBeginning before between) old new = noted_then (AreStarts before between) (AreWakes 0 between) (AreOfBeginning before between) old started new starts wakes (λ a b s w. record { starts = a; wakes = b; whole = refl; in_order = s; then_wake = w }) in
    subst (λ (n : ℕ). Noted (AreOfBeginning before n) old new) (sym same) both

-- ---- the turn of a stack
take_form : (stack : ℕ) (moved : Option LockMove) → IfSome moved (Takes stack) → IsTake stack (option_to_list moved)
take_form stack None h = tt
take_form stack (Some move) h = h

pub act_noted : (stack : ℕ) (departure arrival : LockMove) (old between new : Option (List LockMove)) → LetsGo stack departure → Arrives stack arrival → Adds (departure ∷ []) old between → Adds (arrival ∷ []) between new → Noted (IsAct stack) old new
act_noted stack departure arrival old between new goes comes first second =
    record { these = departure ∷ arrival ∷ []; added = adds_twice (departure ∷ []) (arrival ∷ []) old between new first second; form = (goes, comes) }

pub run_noted : (stack : ℕ) (moved : Option LockMove) (old run taken new : Option (List LockMove)) → IfSome moved (Takes stack) → Adds (moves.Run stack ∷ []) old run → Adds (option_to_list moved) run taken → Noted (IsAct stack) taken new → Noted (AreOfEnd (Ran stack)) old new
run_noted stack moved old run taken new takes first second act =
    record {
      these = moves.Run stack ∷ (option_to_list moved ++ act.these);
      added = adds_twice (moves.Run stack ∷ []) (option_to_list moved ++ act.these) old run new first (adds_twice (option_to_list moved) act.these run taken new second act.added);
      form = (refl, record { taken = option_to_list moved; acted = act.these; whole = refl; take = take_form stack moved takes; act = act.form });
    }

-- where the stack has its turn and no end of it
pub run_begun : (stack : ℕ) (moved : Option LockMove) (old run taken new : Option (List LockMove)) → Adds (moves.Run stack ∷ []) old run → Adds (option_to_list moved) run taken → AddsSome taken new → AddsSome old new
run_begun stack moved old run taken new first second rest =
    some_more old taken new (some_twice (moves.Run stack ∷ []) (option_to_list moved) old run taken first second) rest

-- ---- a whole turn
pub turn_idles : (before now : ℕ) (old begun new : Option (List LockMove)) → Noted (AreOfBeginning before now) old begun → Adds (moves.Idle ∷ []) begun new → Noted (AreOfTurn Idle before now) old new
turn_idles before now old begun new begins idles =
    noted_more (AreOfBeginning before now) (AreOfTurn Idle before now) moves.Idle old begun new begins idles (λ these h. record { beginning = these; rest = moves.Idle ∷ []; whole = refl; begins = h; ends = refl })

pub turn_runs : (stack before between now : ℕ) (old begun new : Option (List LockMove)) → now ≡ between → Noted (AreOfBeginning before between) old begun → Noted (AreOfEnd (Ran stack)) begun new → Noted (AreOfTurn (Ran stack) before now) old new
turn_runs stack before between now old begun new same begins ends =
    let as_now : Noted (AreOfBeginning before now) old begun = subst (λ (n : ℕ). Noted (AreOfBeginning before n) old begun) (sym same) begins in
    noted_then (AreOfBeginning before now) (AreOfEnd (Ran stack)) (AreOfTurn (Ran stack) before now) old begun new as_now ends (λ a b h e. record { beginning = a; rest = b; whole = refl; begins = h; ends = e })

-- ---- the moves of a list
ends_alike : (old new these : List LockMove) → Adds these (Some old) (Some new) → new ≡ old ++ these
ends_alike old new these e = cc

cut_back : (old between new these : List LockMove) → Adds these (Some old) (Some between) → new ≡ take (length old) between → new ≡ old
cut_back old between new these added cut =
    cut ∙ ap (take (length old)) (ends_alike old between these added) ∙ take_at old these (length old) refl

pub turn_appended : (result : Result TurnEnd TurnFault) (before now : ℕ) (old between new : List LockMove) → NotesEnd result before now (Some old) (Some between) → MatchResult result (λ _. new ≡ between) (λ _. new ≡ take (length old) between) → AppendsTurn result before now old new
turn_appended (Ok (Ran stack)) before now old between new h same =
    (h.these, same ∙ ends_alike old between h.these h.added, h.form)
turn_appended (Ok Idle) before now old between new h same =
    (h.these, same ∙ ends_alike old between h.these h.added, h.form)
turn_appended (Ok Ended) before now old between new h same = cc
turn_appended (Err fault) before now old between new h cut = cut_back old between new h.these h.added cut
