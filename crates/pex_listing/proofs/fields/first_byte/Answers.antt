use Rattle.std.proofs.Common.{◌≡◌, ℕ, ◌==◌, true, false, length, ap, ⊎_elim, arith}
use Rattle.std.proofs.lemmas.Bool.{cases_Bool, eqb-true}
use Rattle.pex_listing.proofs.StringRules.{byte_escaped, first_shown, shorter_than, spells_as}
use Rattle.pex_listing.proofs.fields.first_byte.Goals as goal

not_34 : (b : ℕ) → (b ≡ 34 → ⊥) → (b == 34) ≡ false
not_34 b other = ⊎_elim (λ (is : (b == 34) ≡ true). absurd (other (eqb-true b 34 is))) (λ is. is) (cases_Bool (b == 34))

is_92 : (b : ℕ) → b ≡ 92 → (b == 92) ≡ true
is_92 b is = ap (λ k. k == 92) is

pub returns-then-first-eq92-clause-shorter : goal.returns-then-first-eq92-clause-shorter
returns-then-first-eq92-clause-shorter c =
    let whole = first_shown c.args.bytes.now c.in_ok-first.first c.in_ok-first.rest.now c.in_ok-first.ensures in
    shorter_than (λ s. length s.1.now) c.escape.result (length c.in_ok-first.rest.now) (length c.args.bytes.now) (omega (arith, ap length whole)) c.escape.ensures.shorter

pub returns-then-first-eq92-clause-spelled : goal.returns-then-first-eq92-clause-spelled
returns-then-first-eq92-clause-spelled c =
    let whole = first_shown c.args.bytes.now c.in_ok-first.first c.in_ok-first.rest.now c.in_ok-first.ensures in
    spells_as c.args.bytes.now c.in_ok-first.rest.now _ (byte_escaped c.args.bytes.now c.in_ok-first.first c.in_ok-first.rest.now whole (not_34 c.in_ok-first.first c.if-first-eq34.false) (is_92 c.in_ok-first.first c.if-first-eq92.true)) c.escape.ensures.spelled
