use Rattle.std.proofs.lemmas.Bool.{false≢true}
use Rattle.std.specs.Fmt.{decimal}
use Rattle.pex_listing.specs.Left.{view}
use Rattle.pex_listing.proofs.Leaving.{counted_none, counted_some}
use Rattle.pex_listing.proofs.Taken.{takes_noted}
use Rattle.pex_listing.proofs.listing.Listing.unsigned.Goals as goal

pub returns-in-Some-clause-taken : goal.returns-in-Some-clause-taken
returns-in-Some-clause-taken c = takes_noted (decimal c.in-Some.number) c.field-field.ensures.cuts c.check.ensures.notes (λ is. c.in-Some.ensures.canonical is)

pub returns-in-Some-clause-counted : goal.returns-in-Some-clause-counted
returns-in-Some-clause-counted c = record {
  left = λ strings awaited form.
      counted_some c.args.least c.args.most (view c.args.self.now) (view c.field-field.new.self) (view c.check.new.self) c.field-field.result.now c.field-field.ensures.field c.field-field.ensures.behind strings awaited form c.in-Some.number
      c.in-Some.is_canonical c.check.ensures.noted c.in-Some.ensures.rule c.in-Some.ensures.value;
}

pub returns-in-None-clause-taken : goal.returns-in-None-clause-taken
returns-in-None-clause-taken c = takes_noted (decimal 0) c.field-field.ensures.cuts c.note.ensures.notes (λ is. absurd (false≢true is))

pub returns-in-None-clause-least : goal.returns-in-None-clause-least
returns-in-None-clause-least c = λ good. absurd (false≢true (c.note.ensures.notes.this good))

pub returns-in-None-clause-counted : goal.returns-in-None-clause-counted
returns-in-None-clause-counted c = record {
  left = λ strings awaited form.
      counted_none c.args.least c.args.most (view c.args.self.now) (view c.field-field.new.self) (view c.note.new.self) c.field-field.result.now c.field-field.ensures.field c.field-field.ensures.behind strings awaited form 0
      c.note.ensures.noted c.in-None.ensures.rule;
}
