use Rattle.std.proofs.Common.{subst}
use Rattle.core_tree.proofs.Views.{expression_views}
use Rattle.expression_rules.specs.Ranges.{ResolvedInRange, bounds_of}
use Rattle.expression_rules.proofs.scope.Context.read_word.Goals as goal

pub returns-in-Local : goal.returns-in-Local
returns-in-Local c = λ known.
    let b = bounds_of c.args.self.now in
    let here = subst (ResolvedInRange b) c.in-Local.is known in
    c.typed.ensures (simp expression_views here.0) (c.from_type.ensures b.functions here.1)

pub returns-in-State : goal.returns-in-State
returns-in-State c = λ known. c.known.ensures (simp expression_views tt) tt

pub returns-in-Field : goal.returns-in-Field
returns-in-Field c = λ known.
    let b = bounds_of c.args.self.now in
    let here = subst (ResolvedInRange b) c.in-Field.is known in
    c.typed-in-Field.ensures (simp expression_views here.0) (c.from_type-in-Field.ensures b.functions here.1)
