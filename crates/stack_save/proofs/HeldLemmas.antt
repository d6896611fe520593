-- A held file tells what it spells.
use Rattle.std.specs.Prelude.{true, false, nat_eq, Some, None, Result, Err}
use Rattle.std.proofs.Common.{◌≡◌, ℕ, suc, List, [], ◌∷◌, ◌++◌, length, refl, sym, ap, subst, ◌∙◌, append_assoc}
use Rattle.std.proofs.lemmas.List.{append-nil, append_cancel_left}
use Rattle.std.proofs.Math.Dec.{eqb-suc-zero}
use Rattle.machine_state.specs.Plain.{PlainState}
use Rattle.stack_save.proofs.Complete.{held_complete}
use Rattle.stack_save.specs.Held.{Spells, HasLayout}
use Rattle.stack_save.specs.Loading.{IsLayout, held_fields, plain_layout, ReadsLayout}
use Rattle.stack_save.specs.Parts.{Takes}
use Rattle.stack_save.specs.Reading.{Found, PlainHeld, held_at}
use Rattle.stack_save.specs.Spelling.{heading, spelling}
use Rattle.stack_save.specs.declared.fault.HeldFault.{HeldFault}
use Rattle.stack_save.specs.declared.fault.HeldFault.TheVariants.{Broken, OutOfMemory}
use Rattle.stack_save.specs.declared.loading.HeldParts.{HeldParts}

abbrev held : List (List ℕ) → List ℕ → PlainState → PlainHeld
held files scene state = record { files = files; scene = scene; state = state }

may : (files : List (List ℕ)) (scene : List ℕ) (state : PlainState) (bytes : List ℕ) → Spells files scene state bytes → IsLayout (held files scene state)
may files scene state bytes s = record { fit = s.fit; savable = s.savable; in_range = s.in_range }

fields : (files : List (List ℕ)) (scene : List ℕ) (state : PlainState) → spelling files scene state ≡ heading ++ held_fields (held files scene state)
unfolding spelling
fields files scene state = refl

-- what is found behind the heading of such bytes
found : (files : List (List ℕ)) (scene : List ℕ) (state : PlainState) (bytes rest behind : List ℕ) → Spells files scene state bytes → bytes ++ rest ≡ heading ++ behind
    → held_at behind ≡ Some (held files scene state, rest)
found files scene state bytes rest behind s is =
    let h = held files scene state in
    let same : held_fields h ++ rest ≡ behind =
    append_cancel_left heading (held_fields h ++ rest) behind (sym (append_assoc heading (held_fields h) rest) ∙ (ap (λ (b : List ℕ). b ++ rest) (sym (s.spelled ∙ fields files scene state)) ∙ is)) in
    ap held_at (sym same) ∙ held_complete h rest (may files scene state bytes s)

one_found : {A : Type 0} (there : Found A) (x y : A) (s t : List ℕ) → there ≡ Some (x, s) → there ≡ Some (y, t) → (x ≡ y) × (s ≡ t)
one_found {A} there x y s t a b =
    let same : Some (x, s) ≡ Some (y, t) = sym a ∙ b in
    let pair : (x, s) ≡ (y, t) = cc in
    (ap (λ (p : A × List ℕ). p.0) pair, ap (λ (p : A × List ℕ). p.1) pair)

-- bytes that spell a held file, and the same with others behind them that spell one
pub one_held : (files files' : List (List ℕ)) (scene scene' : List ℕ) (state state' : PlainState) (bytes rest : List ℕ)
    → Spells files scene state bytes → Spells files' scene' state' (bytes ++ rest) → (held files scene state ≡ held files' scene' state') × (rest ≡ [])
one_held files files' scene scene' state state' bytes rest s t =
    let h = held files scene state in
    let h' = held files' scene' state' in
    let whole : bytes ++ rest ≡ heading ++ held_fields h' = t.spelled ∙ fields files' scene' state' in
    let first = found files scene state bytes rest (held_fields h') s whole in
    let second = found files' scene' state' (bytes ++ rest) [] (held_fields h') t (append-nil (bytes ++ rest) ∙ whole) in
    one_found (held_at (held_fields h')) h h' rest [] first second

pub layout_found : (files : List (List ℕ)) (scene : List ℕ) (state : PlainState) (behind : List ℕ) → Spells files scene state (heading ++ behind) → held_at behind ≡ Some (held files scene state, [])
layout_found files scene state behind s = found files scene state (heading ++ behind) [] behind s (append-nil (heading ++ behind))

-- where nothing is found, there is no layout
pub no_layout : (behind : List ℕ) → held_at behind ≡ None → ¬ HasLayout (heading ++ behind)
no_layout behind missing (files, scene, state, s) =
    let there = layout_found files scene state behind s in
    cc

-- nor where something stands behind what is found
pub not_whole : (behind : List ℕ) (h : PlainHeld) (rest : List ℕ) → held_at behind ≡ Some (h, rest) → ¬ (rest ≡ []) → ¬ HasLayout (heading ++ behind)
not_whole behind h rest there more (files, scene, state, s) =
    more (one_found (held_at behind) h (held files scene state) rest [] there (layout_found files scene state behind s)).1

-- what was taken behind the heading, to the end
pub spells_layout : (behind : List ℕ) (h : PlainHeld) → IsLayout h → behind ≡ held_fields h ++ [] → Spells h.files h.scene h.state (heading ++ behind)
spells_layout behind h p is = record {
  fit = p.fit;
  savable = p.savable;
  in_range = p.in_range;
  spelled = ap (λ (b : List ℕ). heading ++ b) (is ∙ append-nil (held_fields h)) ∙ sym (fields h.files h.scene h.state);
}

pub empty_from : (bytes : List ℕ) → nat_eq (length bytes) 0 ≡ true → bytes ≡ []
empty_from [] none = refl
empty_from (x ∷ xs) none =
    let some : nat_eq (suc (length xs)) 0 ≡ false = eqb-suc-zero (length xs) in
    cc

-- the fault of a layout that isn't there
pub reads_fault : (fault y : HeldFault) (r : Result HeldParts HeldFault) (behind new : List ℕ)
    → r ≡ Err y → y ≡ fault → Takes plain_layout IsLayout held_fields held_at (Err fault) behind new → ReadsLayout behind r
reads_fault (Broken rule) y r behind new is same missing =
    subst (λ (z : Result HeldParts HeldFault). ReadsLayout behind z) (sym (is ∙ ap Err same)) (missing.0, no_layout behind missing.1)
reads_fault OutOfMemory y r behind new is same missing =
    subst (λ (z : Result HeldParts HeldFault). ReadsLayout behind z) (sym (is ∙ ap Err same)) tt
