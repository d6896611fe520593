use Rattle.std.proofs.Common.{refl, sym, ◌∙◌}
use Rattle.run_replay.specs.Reading.{seen}
use Rattle.run_replay.proofs.JournalLemmas.{no_end, no_form, no_place, no_move}
use Rattle.run_replay.proofs.journal.step.Goals as goal

pub returns-in_default : goal.returns-in_default
returns-in_default c = rw c.bad_line.ensures (refl, no_end c.args.book.now c.args.rest.now c.requires.some c.in_default.ensures)

pub returns-in_default-line_of : goal.returns-in_default-line_of
returns-in_default-line_of c = rw c.bad_line-in_default-line_of.ensures (refl, no_form c.args.book.now c.args.rest.now c.in-Some.text.now c.in-Some.behind.now c.requires.some c.in-Some.ensures.0 c.in-Some.ensures.1 c.in_default-line_of.ensures)

pub returns-then-not-may_stand : goal.returns-then-not-may_stand
returns-then-not-may_stand c = rw c.bad_line-then-not-may_stand.ensures
    (refl, no_place c.args.book.now c.args.rest.now c.in-Some.text.now c.in-Some.behind.now (seen c.in-Some-line_of.line) c.requires.some c.in-Some.ensures.0 c.in-Some.ensures.1 c.in-Some-line_of.ensures.0 c.in-Some-line_of.ensures.1 (sym c.may_stand.ensures ∙ c.if-not-may_stand.true))

pub returns-then-not-is_allowed : goal.returns-then-not-is_allowed
returns-then-not-is_allowed c =
    (refl, no_move c.args.book.now c.args.rest.now c.in-Some.text.now c.in-Some.behind.now (seen c.in-Some-line_of.line) c.in-Some.ensures.0 c.in-Some-line_of.ensures.0 c.in-Some-line_of.ensures.1 (sym c.may_stand.ensures ∙ c.if-not-may_stand.false) (sym c.is_allowed.ensures ∙ c.if-not-is_allowed.true))
