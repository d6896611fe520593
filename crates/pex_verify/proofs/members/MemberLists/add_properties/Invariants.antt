use Rattle.std.proofs.Common.{◌≡◌, take}
use Rattle.pex_verify.specs.Members.{owner_in, properties_of, with_properties}
use Rattle.pex_verify.proofs.members.MemberLists.add_properties.Given as goal

abbrev pub invariant-loop-place : goal.invariant-loop-place
invariant-loop-place l = l.self ≡ with_properties l.fn.self (properties_of (owner_in l.fn.self l.object) (take l.place l.properties))
