use Rattle.std.proofs.Common.{◌≡◌, ◌+◌, suc, Some, None, refl, sym, ap, ◌∙◌, arith}
use Rattle.std.specs.Prelude.{option_map}
use Rattle.pex_listing.specs.Breaks.{before_byte, behind_byte, between, break_from}
use Rattle.pex_listing.specs.Left.{OpenLine}
use Rattle.pex_listing.proofs.Leaving.{a_line, no_line}
use Rattle.pex_listing.proofs.listing.Listing.open_next.Goals as goal

pub returns-in_default-clause-left : goal.returns-in_default-clause-left
returns-in_default-clause-left c =
    let l = c.args.self.now in
    let v : OpenLine = record { word = None; fields = None; broken = l.broken; room = l.room.left; lines = l.rest.lines; rest = l.rest.bytes.now } in
    λ strings awaited. no_line strings awaited v refl (sym c.in_default.ensures.behind)

pub returns-clause-left : goal.returns-clause-left
returns-clause-left c =
    let l = c.args.self.now in
    let text = l.rest.bytes.now in
    let v : OpenLine = record { word = Some c.split_field.result.0.now; fields = option_map (λ fields. fields.now) c.split_field.result.1; broken = l.broken; room = l.room.left; lines = l.rest.lines + 1; rest = c.in-Some.rest.now } in
    let next : l.rest.lines + 1 ≡ suc l.rest.lines = omega arith in
    λ strings awaited.
    a_line strings awaited v text (ap Some (c.split_field.ensures.field ∙ ap (before_byte 32) c.in-Some.ensures.before)) (c.split_field.ensures.behind ∙ ap (behind_byte 32) c.in-Some.ensures.before) (sym c.in-Some.ensures.behind)
    ∙ ap (λ n. break_from (record { awaited = awaited; strings = strings; room = l.room.left; number = n }) (between 10 text)) next
