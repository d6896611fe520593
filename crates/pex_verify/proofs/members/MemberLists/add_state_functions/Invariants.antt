use Rattle.std.proofs.Common.{◌≡◌, take}
use Rattle.pex_verify.specs.Members.{owner_in, methods_in, with_methods}
use Rattle.pex_verify.proofs.members.MemberLists.add_state_functions.Given as goal

abbrev pub invariant-loop-place : goal.invariant-loop-place
invariant-loop-place l = l.self ≡ with_methods l.fn.self (methods_in (owner_in l.fn.self l.object) l.names l.state.0 l.state.1 (take l.place l.functions))
