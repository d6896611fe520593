use Rattle.std.proofs.lemmas.List.Elements.{All-nil}
use Rattle.script_parser.proofs.Standing.{number-stands}
use Rattle.script_parser.proofs.parser.heading.Goals as goal

pub returns-in_default-clause-fault : goal.returns-in_default-clause-fault
returns-in_default-clause-fault c = c.bad_block.ensures c.args.reader.now.lines.now

pub returns-in_default-form-clause-fault : goal.returns-in_default-form-clause-fault
returns-in_default-form-clause-fault c = c.bad_block-in_default-form.ensures c.args.reader.now.lines.now

pub returns-in-ScriptName-clause-stands : goal.returns-in-ScriptName-clause-stands
returns-in-ScriptName-clause-stands c =
    record {
      line = number-stands c.args.reader.now.lines.now c.in-Some.first.at c.in-Some.first.line.now c.in-Some.ensures.found.stands;
      imports = rw c.new.ensures.items (All-nil _);
      variables = rw c.new-in-ScriptName.ensures.items (All-nil _);
      properties = rw c.new-in-ScriptName-2.ensures.items (All-nil _);
      functions = rw c.new-in-ScriptName-3.ensures.items (All-nil _);
      states = rw c.new-in-ScriptName-4.ensures.items (All-nil _);
    }
