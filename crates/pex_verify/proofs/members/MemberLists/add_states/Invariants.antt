use Rattle.std.proofs.Common.{◌≡◌, take}
use Rattle.pex_verify.specs.Members.{owner_in, methods_of_states, with_methods}
use Rattle.pex_verify.proofs.members.MemberLists.add_states.Given as goal

abbrev pub invariant-loop-place : goal.invariant-loop-place
invariant-loop-place l = l.self ≡ with_methods l.fn.self (methods_of_states (owner_in l.fn.self l.object) l.names 0 (take l.place l.states))
