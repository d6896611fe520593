use Rattle.expression_rules.proofs.conversions.common_type.Goals as goal

pub returns-then-eq : goal.returns-then-eq
returns-then-eq c = λ functions left right. c.type_of.ensures functions left

pub returns-then-converts_to : goal.returns-then-converts_to
returns-then-converts_to c = λ functions left right. c.type_of-then-converts_to.ensures functions right

pub returns-then-converts_to-2 : goal.returns-then-converts_to-2
returns-then-converts_to-2 c = λ functions left right. c.type_of-then-converts_to-2.ensures functions left
