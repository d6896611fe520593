use Rattle.std.proofs.Common.{◌≡◌, take}
use Rattle.pex_verify.specs.Members.{owner_in, functions_of, with_methods}
use Rattle.pex_verify.proofs.members.MemberLists.add_functions.Given as goal

abbrev pub invariant-loop-place : goal.invariant-loop-place
invariant-loop-place l = l.self ≡ with_methods l.fn.self (functions_of (owner_in l.fn.self l.object) l.state (take l.place l.functions))
