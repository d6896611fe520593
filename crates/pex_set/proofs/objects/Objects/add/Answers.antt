use Rattle.std.proofs.Common.{◌≡◌, ◌++◌, [], ◌∷◌, ℕ, List, Option, Some, None, cond, eqb, length, sym, ap, ◌∙◌, arith}
use Rattle.std.specs.Option.{option_or}
use Rattle.std.proofs.lemmas.Grind.{common_steps}
use Rattle.pex_set.specs.declared.objects.Head.{Head}
use Rattle.pex_set.specs.Objects.{first_named}
use Rattle.pex_set.proofs.ObjectLemmas.{first_named-push}
use Rattle.pex_set.proofs.objects.Objects.add.Goals as goal

pub invariant_of-self-2 : goal.invariant_of-self-2
invariant_of-self-2 c =
    λ name.
    let heads = c.self.inside.heads.items in
    let head = c.args.head in
    let count : c.len.result ≡ length heads = grind (arith, common_steps) in
    let items : c.push_reserved.new.self.items ≡ heads ++ head ∷ [] = cc in
    c.in_ok-note_first.ensures.noted name
    ∙ ap (λ (o : Option ℕ). option_or o (cond (eqb head.name name) (Some c.len.result) None)) (c.self.invariant name)
    ∙ ap (λ (n : ℕ). option_or (first_named heads name) (cond (eqb head.name name) (Some n) None)) count
    ∙ sym (first_named-push heads head name)
    ∙ ap (λ (l : List Head). first_named l name) (sym items)
