use Rattle.pex_alike.proofs.Lists.{members_to_map, members_from_map}
use Rattle.pex_alike.proofs.members.same_plain.Goals as goal

pub returns : goal.returns
returns g c = (
  λ t. members_to_map _ g.T.Member.plain _ _ (c.same_members.ensures.0 t),
  λ s. c.same_members.ensures.1 (members_from_map _ g.T.Member.plain _ _ s),
)
