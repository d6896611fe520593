use Rattle.std.proofs.Common.{◌≡◌, ◌<◌, ◌≤◌, length, take, ◌++◌, arith, sym, subst}
use Rattle.std.specs.Prelude.{reverse}
use Rattle.std.proofs.lemmas.List.{take_more, take_all}
use Rattle.std.proofs.lemmas.Result.{IfOk-weaker}
use Rattle.pex_set.specs.declared.inherited.OwnMember.{OwnMember}
use Rattle.pex_set.specs.Sweep.{AreInOrder, AreCovered}
use Rattle.pex_set.proofs.inherited.swept.Goals as goal

pub loop-member-preserved : goal.loop-member-preserved
loop-member-preserved c =
    let members = c.args.members.now in
    let i = c.loop-member.member-index in
    let less : i < length members = omega arith in
    let before = c.loop-member.invariant in
    let item : OwnMember = record { names = (0, 0); span = record { start = 0; end = 0 }; place = record { object = 0; state = 0; place = 0 } } in
    rw (take_more members i item less) (record {
      ordered = c.in_ok-add.ensures.ordered (take i members) before.ordered (c.requires i item less);
      swept = λ all. c.in_ok-add.ensures.swept (take i members) before.ordered (before.swept all) (all i item less);
    })

pub returns : goal.returns
returns c =
    let members = c.args.members.now in
    let i = c.loop-member.member-index in
    let enough : length members ≤ i = omega arith in
    let sweep = c.loop-member.sweep in
    IfOk-weaker c.inherited.result (λ inherited. inherited ≡ sweep.stretches.items ++ reverse sweep.ends.items) (λ inherited. AreInOrder members → AreCovered members inherited) (λ inherited same all. subst (AreCovered members) (sym same) (rw (take_all i members enough) at (c.loop-member.invariant.swept all).answers)) c.inherited.ensures
