-- A stack that stands nowhere isn't ready, and so isn't chosen.
use Rattle.std.proofs.Common.{◌≡◌, ℕ, ◌+◌, Bool, true, false, cond, ◌||◌, List, [], ◌∷◌, Some, None, refl, sym, ap, ◌∙◌, arith}
use Rattle.std.specs.List.{list_any}
use Rattle.std.proofs.Math.Dec.{eqb}
use Rattle.run_laws.specs.Exclusive.{how_many, is_number}
use Rattle.script_meaning.specs.Locks.{is_next, is_ready, second_is, waited_for}
use Rattle.script_meaning.specs.Turns.{if_ready}
use Rattle.script_meaning.specs.World.{World}
use Rattle.stack_places.specs.Places.{IsAway, PlaceLists, placed}
use Rattle.stack_places.proofs.Standing.{none_there}

waits_nowhere : (k : ℕ) (ws : List (ℕ × ℕ)) → how_many (second_is k) ws ≡ 0 → waited_for k ws ≡ None
waits_nowhere k [] h = refl
waits_nowhere k (w ∷ ws) h = nowhere_by (eqb w.1 k) h (waits_nowhere k ws) where
  nowhere_by : (t : Bool) → cond t 1 0 + how_many (second_is k) ws ≡ 0 → (how_many (second_is k) ws ≡ 0 → waited_for k ws ≡ None) → cond t (Some w.0) (waited_for k ws) ≡ None
  nowhere_by true h more = absurd (omega (arith, h))
  nowhere_by false h more = more (omega (arith, h))

away_unready : (places : PlaceLists) (k : ℕ) → IsAway places k → (world : World) → is_ready (placed places world) k ≡ false
away_unready places k away world =
    let here : World = placed places world in
    let owners : list_any (second_is k) places.owners ≡ false = none_there (second_is k) places.owners (omega (arith, away)) in
    let free : list_any (is_number k) places.free ≡ false = none_there (is_number k) places.free (omega (arith, away)) in
    let waits : waited_for k places.waiters ≡ None = waits_nowhere k places.waiters (omega (arith, away)) in
    ap (λ t. t || list_any (λ stack. eqb stack k) places.free || is_next here k (waited_for k places.waiters)) owners ∙ (ap (λ t. false || t || is_next here k (waited_for k places.waiters)) free ∙ ap (is_next here k) waits)

pub unstarted_left : (places : PlaceLists) (k : ℕ) (world : World) → IsAway places k → None ≡ if_ready (placed places world) (Some k)
unstarted_left places k world away =
    sym (ap (λ t. cond t (Some k) None) (away_unready places k away world))
