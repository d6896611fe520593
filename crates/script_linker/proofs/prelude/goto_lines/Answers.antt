use Rattle.std.proofs.Common.{rules, ◌≡◌, [], ◌∷◌, codes, sym, subst}
use Rattle.script_linker.specs.Generated.{Calls, Does, IsStatement, Pairwise, Sets, acts_of_goto}
use Rattle.script_linker.proofs.prelude.goto_lines.Goals as goal

pub returns : goal.returns
returns c =
    let all : c.push-3.new.self.items ≡ c.statement.result ∷ c.statement-2.result ∷ c.statement-3.result ∷ [] = search rules in
    let end : IsStatement (Calls (codes "OnEndState")) c.statement.result = record {
      line = c.statement.ensures.line;
      form = subst (Does (Calls (codes "OnEndState"))) (sym c.statement.ensures.form) c.in_ok-call.ensures;
    } in
    let change : IsStatement (Sets (codes "::State") (codes "asNewState")) c.statement-2.result = record {
      line = c.statement-2.ensures.line;
      form = subst (Does (Sets (codes "::State") (codes "asNewState"))) (sym c.statement-2.ensures.form) c.in_ok-state_change.ensures;
    } in
    let begin : IsStatement (Calls (codes "OnBeginState")) c.statement-3.result = record {
      line = c.statement-3.ensures.line;
      form = subst (Does (Calls (codes "OnBeginState"))) (sym c.statement-3.ensures.form) c.in_ok-call-2.ensures;
    } in
    subst (Pairwise IsStatement acts_of_goto) (sym all) (end, (change, (begin, tt)))
