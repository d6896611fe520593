use Rattle.std.proofs.Common.{◌≡◌, ℕ, List, Option}
use Rattle.pex_values.specs.declared.values.PexObject.{PexObject}
use Rattle.pex_set.specs.Names.{empty_name}
use Rattle.pex_verify.specs.Signatures.{number_at}
use Rattle.pex_verify.specs.Heads.{IsHeadOf, members_of}
use Rattle.pex_verify.proofs.scripts.ScriptHead.complete.Given as goal

abbrev pub invariant-loop-place : goal.invariant-loop-place
invariant-loop-place l =
    (above : Option ℕ) (numbers : List ℕ) (object : PexObject) → number_at numbers object.parent ≡ empty_name
    → IsHeadOf (members_of l.members) above numbers object l.fn.self → IsHeadOf (members_of l.members) above numbers object l.self
