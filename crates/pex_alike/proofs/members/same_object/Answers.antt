use Rattle.std.proofs.Common.{◌≡◌, IsTrue, false, rules}
use Rattle.pex_alike.specs.SameCode.{SameMembers, SameObject, SameVariable}
use Rattle.pex_alike.proofs.members.same_object.Goals as goal
use Rattle.pex_alike.proofs.members.same_object.Goals.{then-same_members, else-same_members, then-same_string-4, else-same_string-4, then-a-b, else-a-b, then-same_string-3, else-same_string-3, then-same_string-2, else-same_string-2, then-same_string, else-same_string}

pub returns-else-same_plain : goal.returns-else-same_plain
unfolding SameObject
returns-else-same_plain c = (
  λ t. absurd (let f : c.if-same_members.value ≡ false = c.if-same_plain.false in cc),
  λ s.
      elim c.if-same_members.branch [
        | then-same_members w ↦ search rules
        | else-same_members w ↦
            elim c.if-same_string-4.branch [
              | then-same_string-4 u ↦
                  let same : SameMembers (λ x y. SameVariable c.args.these.now c.args.those.now x y) u.deref.result.now u.deref-then-same_string-4.result.now = rw (u.deref.ensures.value, u.deref-then-same_string-4.ensures.value) s.5 in
                  let yes : IsTrue u.same_members.result = u.same_members.ensures.1 same in
                  search rules
              | else-same_string-4 u ↦
                  elim c.if-a-b.branch [
                    | then-a-b v ↦ search rules
                    | else-a-b v ↦
                        elim c.if-same_string-3.branch [
                          | then-same_string-3 q ↦ search rules
                          | else-same_string-3 q ↦
                              elim c.if-same_string-2.branch [
                                | then-same_string-2 p ↦ search rules
                                | else-same_string-2 p ↦
                                    elim c.if-same_string.branch [
                                      | then-same_string o ↦ search rules
                                      | else-same_string o ↦ search rules
                                    ]
                              ]
                        ]
                  ]
            ]
      ],
)
