use Rattle.std.proofs.Common.{◌≡◌, ℕ, ◌+◌, ◌<◌, List, ◌++◌, length, get_or, take, refl, sym, ap, subst, ◌∙◌, arith}
use Rattle.std.specs.List.{flat_map}
use Rattle.std.proofs.lemmas.List.{flat_map_more}
use Rattle.pex_verify.specs.Sites.{site_of}
use Rattle.pex_verify.specs.Matching.{Written, AreWritten}
use Rattle.pex_verify.specs.States.{member_in}
use Rattle.pex_verify.proofs.Pairs.{take_next}
use Rattle.pex_verify.proofs.object.add_members.Goals as goal

pub loop-place-preserved : goal.loop-place-preserved
loop-place-preserved c = (
  λ sound. c.in_ok-add_member.ensures.sound (c.loop-place.invariant.0 sound),
  λ before given.
      let home = c.args.home.now in
      let places = c.lacking-place-items.result.now in
      let i = c.loop-place.place-index in
      let place = get_or places i 0 in
      let within : i < length places = omega arith in
      let done = before ++ flat_map (member_in home) (take i places) in
      let wider : done ++ member_in home place ≡ before ++ flat_map (member_in home) (take (i + 1) places) =
      flat_map_more (member_in home) before (take i places) place ∙ ap (λ (l : List ℕ). before ++ flat_map (member_in home) l) (sym (take_next places i place 0 within refl)) in
      subst (λ (l : List Written). AreWritten (site_of home) l c.add_member.new.functions.items) wider (c.in_ok-add_member.ensures.written done (c.loop-place.invariant.1 before given)),
)
