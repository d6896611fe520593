use Rattle.papy_base.specs.Circles.{CanStart}
use Rattle.papy_base.proofs.CircleLemmas.{AreSearched-ended, AreSearched-marked}
use Rattle.papy_base.proofs.descent.search_from.Goals as goal

pub returns-in-Some : goal.returns-in-Some
returns-in-Some c =
    λ among within searched.
    let parents = c.args.parents.now in
    let can : CanStart parents c.args.walks.now c.args.start = record {
      among = among;
      within = within;
      as_long = searched.walks_as_long;
      earlier = searched.earlier;
    } in
    let walked = c.in-Some.ensures can in
    AreSearched-marked parents c.args.walks.now c.walk.new.walks c.args.is_above_itself.now c.args.start searched c.mark_circle.new.is_above_itself c.in-Some.end
    c.walk.auto.walks walked.0 walked.1 c.mark_circle.auto.is_above_itself (c.mark_circle.ensures searched.marks_as_long)

pub returns-in_default : goal.returns-in_default
returns-in_default c =
    λ among within searched.
    let can : CanStart c.args.parents.now c.args.walks.now c.args.start = record {
      among = among;
      within = within;
      as_long = searched.walks_as_long;
      earlier = searched.earlier;
    } in
    AreSearched-ended c.args.parents.now c.args.walks.now c.walk.new.walks c.args.is_above_itself.now c.args.start searched c.walk.auto.walks (c.in_default.ensures can)
