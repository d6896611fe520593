-- The states of a script as they are loaded.
use Rattle.std.proofs.Common.{◌≡◌, ◌<◌, List, [], ◌∷◌, length, refl, arith}
use Rattle.pex_verify.specs.declared.judged.JudgedFunction.{JudgedFunction}
use Rattle.pex_verify.specs.Matching.{Written, AreWritten}
use Rattle.pex_verify.specs.Sites.{Site}
use Rattle.pex_verify.specs.States.{added_state}

-- no state is added for no members, and one for some
pub added_none : (site : Site) (written : List Written) (loaded : List JudgedFunction) → AreWritten site written loaded → length loaded ≡ 0 → added_state written ≡ []
added_none site [] loaded are none = refl
added_none site (w ∷ written) loaded are none = absurd (omega (arith, are.count))

pub added_some : (site : Site) (written : List Written) (loaded : List JudgedFunction) → AreWritten site written loaded → 0 < length loaded → added_state written ≡ record { name = []; functions = written } ∷ []
added_some site [] loaded are some = absurd (omega (arith, are.count))
added_some site (w ∷ written) loaded are some = refl
