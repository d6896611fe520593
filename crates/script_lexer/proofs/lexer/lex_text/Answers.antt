use Rattle.std.proofs.Common.{◌≡◌, ℕ, Bool, true, nat_eq, ◌++◌, ◌+◌, List, [], length, sym, ap, subst, ◌∙◌, arith}
use Rattle.std.proofs.lemmas.Bool.{eqb-true}
use Rattle.std.proofs.lemmas.List.{append-nil, nil_from_length}
use Rattle.script_lexer.specs.Bytes.{line_ends}
use Rattle.script_lexer.proofs.ReadingLemmas.{ReadSoFar, spelling, text_length, text_is, read_none, read_more, step_fault, read_all}
use Rattle.script_lexer.proofs.BlankLemmas.{read_past}
use Rattle.script_lexer.proofs.lexer.lex_text.Goals as goal

pub loop-rest-init : goal.loop-rest-init
loop-rest-init c =
    let none = read_none c.args.start c.args.text.now c.new-progress.result c.new-progress.ensures in
    read_past c.args.start c.args.text.now c.new-progress.result c.pass_blanks-rest.new.progress c.args.text.now c.pass_blanks-rest.result.now none c.pass_blanks-rest.ensures

pub step-requires-clause-room : goal.step-requires-clause-room
step-requires-clause-room c = omega (arith, c.loop-rest.invariant.place, text_length c.args.start c.args.text.now c.loop-rest.progress c.loop-rest.rest.now c.loop-rest.invariant)

pub pass_blanks-rest-requires-in-Ok : goal.pass_blanks-rest-requires-in-Ok
pass_blanks-rest-requires-in-Ok c =
    let more = read_more c.args.start c.args.text.now c.loop-rest.progress c.step.new.progress c.loop-rest.rest.now c.in-Ok.after.now c.loop-rest.invariant c.in-Ok.ensures in
    omega (arith, more.place, text_length c.args.start c.args.text.now c.step.new.progress c.in-Ok.after.now more)

pub loop-rest-preserved : goal.loop-rest-preserved
loop-rest-preserved c =
    let more = read_more c.args.start c.args.text.now c.loop-rest.progress c.step.new.progress c.loop-rest.rest.now c.in-Ok.after.now c.loop-rest.invariant c.in-Ok.ensures in
    read_past c.args.start c.args.text.now c.step.new.progress c.pass_blanks-rest-in-Ok.new.progress c.in-Ok.after.now c.pass_blanks-rest-in-Ok.result.now more c.pass_blanks-rest-in-Ok.ensures

pub returns-in-Err : goal.returns-in-Err
returns-in-Err c = step_fault c.args.start c.args.text.now c.loop-rest.progress c.loop-rest.rest.now c.in-Err.fault c.loop-rest.invariant c.in-Err.ensures

nothing_left : (rest : List ℕ) (b : Bool) → b ≡ nat_eq (length rest) 0 → b ≡ true → rest ≡ []
nothing_left rest b e is_true = nil_from_length rest (eqb-true (length rest) 0 (sym e ∙ is_true))

pub last_line-last-requires : goal.last_line-last-requires
last_line-last-requires c =
    let nil = nothing_left c.loop-rest.rest.now c.is_empty.result c.is_empty.ensures c.loop-rest-test.false in
    let whole = text_is c.args.start c.args.text.now c.loop-rest.progress c.loop-rest.rest.now c.loop-rest.invariant ∙ ap (λ (t : List ℕ). spelling c.loop-rest.invariant.reading ++ t) nil ∙ append-nil (spelling c.loop-rest.invariant.reading) in
    c.loop-rest.invariant.line ∙ ap (λ (t : List ℕ). 1 + line_ends t) (sym whole)

pub returns : goal.returns
returns c =
    let nil = nothing_left c.loop-rest.rest.now c.is_empty.result c.is_empty.ensures c.loop-rest-test.false in
    read_all c.args.start c.args.text.now c.loop-rest.progress c.in_ok-lines.lines.items c.last_line-last.result
    (subst (λ (t : List ℕ). ReadSoFar c.args.start c.args.text.now c.loop-rest.progress t) nil c.loop-rest.invariant) c.in_ok-lines.ensures c.last_line-last.ensures
