use Rattle.std.proofs.Common.{◌++◌, not, sym, ap, ◌∙◌}
use Rattle.pex_listing.specs.Breaks.{done}
use Rattle.pex_listing.specs.Left.{view}
use Rattle.pex_listing.proofs.Leaving.{field_over, rule_broken, line_done, not_open, none_shown, some_shown}
use Rattle.pex_listing.proofs.listing.Listing.next_line.Goals as goal

pub returns-then-is_none-clause-left : goal.returns-then-is_none-clause-left
returns-then-is_none-clause-left c =
    λ strings awaited inside added. not_open strings awaited (view c.args.self.now) (done inside added) (none_shown (λ word. word.now) c.args.self.now.word (c.is_none.ensures ∙ ap not c.if-is_none.true))

pub returns-then-is_some-clause-left : goal.returns-then-is_some-clause-left
returns-then-is_some-clause-left c =
    let w = some_shown (λ word. word.now) c.args.self.now.word (c.is_none.ensures ∙ ap not c.if-is_none.false) in
    let t = some_shown (λ fields. fields.now) c.args.self.now.fields (sym c.is_some.ensures ∙ c.if-is_some.true) in
    λ strings awaited inside added. field_over strings awaited inside added (view c.args.self.now) w.0 t.0 w.1 t.1

pub returns-in-Some-clause-left : goal.returns-in-Some-clause-left
returns-in-Some-clause-left c =
    let w = some_shown (λ word. word.now) c.args.self.now.word (c.is_none.ensures ∙ ap not c.if-is_none.false) in
    λ strings awaited inside added.
    rule_broken strings awaited inside added (view c.args.self.now) w.0 c.in-Some.rule w.1 (none_shown (λ fields. fields.now) c.args.self.now.fields (sym c.is_some.ensures ∙ c.if-is_some.false)) c.in-Some.is

pub returns-clause-left : goal.returns-clause-left
returns-clause-left c =
    let w = some_shown (λ word. word.now) c.args.self.now.word (c.is_none.ensures ∙ ap not c.if-is_none.false) in
    λ strings awaited inside added. (
      line_done strings awaited inside added (view c.args.self.now) w.0 w.1 (none_shown (λ fields. fields.now) c.args.self.now.fields (sym c.is_some.ensures ∙ c.if-is_some.false)) c.in_default.is
          ∙ sym (c.open_next.ensures.left (strings ++ added) (inside ++ awaited)),
      c.open_next.ensures.broken ∙ c.in_default.is,
    )
