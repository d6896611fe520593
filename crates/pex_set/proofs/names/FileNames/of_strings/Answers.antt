use Rattle.std.proofs.Common.{◌≡◌, ℕ, ◌+◌, List, [], ◌∷◌, ◌++◌, map, take, Some, sym, ap, subst, ◌∙◌, arith}
use Rattle.std.proofs.lemmas.Grind.{common_steps}
use Rattle.std.proofs.lemmas.List.Sums.{fold_push}
use Rattle.pex_set.specs.Names.{number_in, with_name, with_names, IsGrown}
use Rattle.pex_set.proofs.NameLemmas.{IsGrown-trans, IsGrown-with_name, numbers-push}
use Rattle.pex_set.proofs.names.FileNames.of_strings.Goals as goal

pub returns-in_err-number-clause-grows : goal.returns-in_err-number-clause-grows
returns-in_err-number-clause-grows c =
    subst (IsGrown c.args.table.now) (sym c.in_err-number.ensures.unchanged) c.loop-string.invariant.grows

-- the table as a turn leaves it
turn : (start before after : List (List ℕ)) (name : List ℕ) → IsGrown start before → after ≡ with_name before name → IsGrown start after
turn start before after name grown e =
    subst (IsGrown start) (sym e) (IsGrown-trans start before (with_name before name) grown (IsGrown-with_name before name))

pub returns-in_err-push-clause-grows : goal.returns-in_err-push-clause-grows
returns-in_err-push-clause-grows c =
    turn c.args.table.now c.loop-string.table c.number.new.self c.as_bytes.result.now c.loop-string.invariant.grows c.in_ok-number.ensures.table

pub loop-string-preserved : goal.loop-string-preserved
loop-string-preserved c =
    let strings = c.args.strings.now in
    let at = c.loop-string.string-index in
    let name = c.as_bytes.result.now in
    let one : take (at + 1) strings ≡ take at strings ++ name ∷ [] = grind (arith, common_steps) in
    record {
      count = grind (arith, common_steps);
      numbers =
          ap (map Some) c.in_ok-push.ensures.items
          ∙ numbers-push c.loop-string.table c.number.new.self c.loop-string.numbers.items (take at strings) c.in_ok-number.field-0 name c.in_ok-number.ensures.table c.loop-string.invariant.numbers c.in_ok-number.ensures.number
          ∙ ap (map (number_in c.number.new.self)) (sym one);
      grows = turn c.args.table.now c.loop-string.table c.number.new.self name c.loop-string.invariant.grows c.in_ok-number.ensures.table;
      table =
          c.in_ok-number.ensures.table
          ∙ ap (λ (table : List (List ℕ)). with_name table name) c.loop-string.invariant.table
          ∙ sym (fold_push with_name c.args.table.now (take at strings) name)
          ∙ ap (with_names c.args.table.now) (sym one);
    }
