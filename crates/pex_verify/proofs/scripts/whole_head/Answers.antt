use Rattle.std.proofs.Common.{Option, ℕ, subst}
use Rattle.pex_verify.specs.Heads.{IsHeadOf, members_of, parent_at}
use Rattle.pex_verify.proofs.scripts.whole_head.Goals as goal

pub returns-then-not-has_members : goal.returns-then-not-has_members
returns-then-not-has_members c =
    let members = members_of c.args.members.now in
    subst (λ (above : Option ℕ). IsHeadOf members above c.args.names.now c.args.object.now c.in_ok-head.head) c.parent_of.ensures (c.in_ok-head.ensures members)

pub returns : goal.returns
returns c =
    let members = members_of c.args.members.now in
    let names = c.args.names.now in
    let object = c.args.object.now in
    let own = subst (λ (above : Option ℕ). IsHeadOf members above names object c.in_ok-head.head) c.parent_of.ensures (c.in_ok-head.ensures members) in
    c.in_ok-complete.ensures (parent_at c.args.parents.now c.args.number) names object (c.has_members.ensures c.if-not-has_members.false) own
