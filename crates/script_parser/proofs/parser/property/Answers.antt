use Rattle.script_parser.proofs.Standing.{number-stands}
use Rattle.script_parser.proofs.parser.property.Goals as goal

pub returns-in_ok-property_form-in-Property-clause-stands : goal.returns-in_ok-property_form-in-Property-clause-stands
returns-in_ok-property_form-in-Property-clause-stands c =
    let lines = c.args.reader.now.lines.now in
    record {
      line = number-stands lines c.args.first.now.at c.args.first.now.line.now c.requires;
      accessors = rw c.in_ok-doc-in-Property.ensures.onward.lines at c.in_ok-property_form-in-Property.ensures.stands;
    }

pub returns-in_default : goal.returns-in_default
returns-in_default c = record { bound = tt; onward = tt; fault = c.bad_block.ensures c.args.reader.now.lines.now; stands = tt }
