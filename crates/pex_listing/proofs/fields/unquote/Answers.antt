use Rattle.std.proofs.Common.{◌++◌, ap, sym, ◌∙◌, arith}
use Rattle.std.specs.Prelude.{option_map}
use Rattle.pex_listing.specs.Breaks.{AtByte, unquoted}
use Rattle.pex_listing.specs.Fields.{short_string}
use Rattle.pex_listing.proofs.StringRules.{quote_first, text_long, text_step}
use Rattle.pex_listing.proofs.fields.unquote.Goals as goal

pub returns-then-len-ge-LONGEST : goal.returns-then-len-ge-LONGEST
returns-then-len-ge-LONGEST c =
    let found = c.in-Some-first_byte in
    ap short_string (quote_first c.args.field.now c.in-Some.text.now c.in-Some.ensures)
    ∙ text_long c.loop-rest.bytes.items c.loop-rest.rest.now found.behind.now found.byte (unquoted AtByte c.in-Some.text.now) c.loop-rest.invariant.left found.ensures.spelled (omega (arith, c.loop-rest.bytes.ok.0))

pub loop-rest-preserved : goal.loop-rest-preserved
loop-rest-preserved c =
    let found = c.in-Some-first_byte in
    record {
      short = omega (arith, c.in_ok-push.ensures.len);
      left =
          text_step c.loop-rest.bytes.items c.loop-rest.rest.now found.behind.now found.byte (unquoted AtByte c.in-Some.text.now) c.loop-rest.invariant.left found.ensures.spelled
          ∙ ap (λ xs. option_map (λ t. xs ++ t) (unquoted AtByte found.behind.now)) (sym c.in_ok-push.ensures.items);
    }
