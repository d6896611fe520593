-- The table of the program is the definition's.
use Rattle.std.proofs.Common.{◌≡◌, ℕ, ◌<◌, ◌≤◌, List, length, get_or, Some, None, sym, ap, ◌∙◌, arith}
use Rattle.std.specs.Prelude.{slice_get}
use Rattle.std.proofs.lemmas.Option.{slice_get-get_or, slice_get_past}
use Rattle.pex_verify.specs.declared.action.Action.{Action}
use Rattle.pex_verify.specs.Uses.{action_table, action_of}

pub entry_at : (entries : List Action) (k : ℕ) (d : Action) → entries ≡ action_table → k ≤ 35 → Some (get_or entries k d) ≡ action_of k
entry_at entries k d same most =
    let long : length entries ≡ 36 = ap length same in
    let below : k < length entries = omega arith in
    sym (ap (λ (t : List Action). slice_get t k) (sym same) ∙ slice_get-get_or entries k d below)

pub no_entry : (k : ℕ) → 35 < k → None ≡ action_of k
no_entry k past = sym (slice_get_past action_table k (omega arith))
