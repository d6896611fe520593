use Rattle.std.proofs.lemmas.List.Elements.{All-push}
use Rattle.std.proofs.lemmas.Result.{err_from_is_err_and}
use Rattle.script_parser.proofs.Standing.{functions-push, number-stands}
use Rattle.script_parser.specs.Faults.{IsNumberOf}
use Rattle.script_parser.specs.Lines.{import_line}
use Rattle.script_parser.specs.Stands.{PropertyStands, StateStands}
use Rattle.script_parser.proofs.parser.member.Goals as goal

pub returns-in_err-initial_value-in-Definition-clause-fault : goal.returns-in_err-initial_value-in-Definition-clause-fault
returns-in_err-initial_value-in-Definition-clause-fault c =
    let told = err_from_is_err_and c.from_residual-in_err-initial_value-in-Definition.result c.from_residual-in_err-initial_value-in-Definition.ensures.1 in
    rw (told.1, told.2) (c.in_err-initial_value-in-Definition.ensures c.args.reader.now.lines.now)

pub returns-in_ok-push-in-Import-clause-stands : goal.returns-in_ok-push-in-Import-clause-stands
returns-in_ok-push-in-Import-clause-stands c = λ s.
    let lines = c.args.reader.now.lines.now in
    let here = number-stands lines c.args.first.at c.args.first.line.now c.requires in
    record {
      line = s.line;
      imports = rw c.in_ok-push-in-Import.ensures.items (All-push (λ import. IsNumberOf lines (import_line import)) c.args.script.now.imports.items _ s.imports here);
      variables = s.variables;
      properties = s.properties;
      functions = s.functions;
      states = s.states;
    }

pub returns-in_ok-push-in-Definition-clause-stands : goal.returns-in_ok-push-in-Definition-clause-stands
returns-in_ok-push-in-Definition-clause-stands c = λ s.
    let lines = c.args.reader.now.lines.now in
    let here = number-stands lines c.args.first.at c.args.first.line.now c.requires in
    record {
      line = s.line;
      imports = s.imports;
      variables = rw c.in_ok-push-in-Definition.ensures.items (All-push (λ variable. IsNumberOf lines variable.line) c.args.script.now.variables.items _ s.variables here);
      properties = s.properties;
      functions = s.functions;
      states = s.states;
    }

pub returns-in_ok-push-in-Function-clause-stands : goal.returns-in_ok-push-in-Function-clause-stands
returns-in_ok-push-in-Function-clause-stands c = λ s.
    let lines = c.args.reader.now.lines.now in
    let here = number-stands lines c.args.first.at c.args.first.line.now c.requires in
    record {
      line = s.line;
      imports = s.imports;
      variables = s.variables;
      properties = s.properties;
      functions = functions-push lines c.args.script.now.functions.items c.push-in-Function.new.self.items c.in_ok-function-in-Function.function c.args.first.line.now.number c.in_ok-push-in-Function.ensures.items c.in_ok-function-in-Function.ensures.line here s.functions;
      states = s.states;
    }

pub returns-in_ok-push-in-State-clause-stands : goal.returns-in_ok-push-in-State-clause-stands
returns-in_ok-push-in-State-clause-stands c = λ s.
    let lines = c.args.reader.now.lines.now in
    let here = number-stands lines c.args.first.at c.args.first.line.now c.requires in
    record {
      line = s.line;
      imports = s.imports;
      variables = s.variables;
      properties = s.properties;
      functions = s.functions;
      states = rw c.in_ok-push-in-State.ensures.items (All-push (StateStands lines) c.args.script.now.states.items _ s.states (record { line = here; functions = c.in_ok-functions_until-in-State.ensures.stands }));
    }

pub returns-in_ok-push-in_default : goal.returns-in_ok-push-in_default
returns-in_ok-push-in_default c = record {
  bound = c.in_ok-property-in_default.ensures.bound;
  onward = c.in_ok-property-in_default.ensures.onward;
  fault = tt;
  stands = λ s.
      let lines = c.args.reader.now.lines.now in
      record {
        line = s.line;
        imports = s.imports;
        variables = s.variables;
        properties = rw c.in_ok-push-in_default.ensures.items (All-push (PropertyStands lines) c.args.script.now.properties.items _ s.properties c.in_ok-property-in_default.ensures.stands);
        functions = s.functions;
        states = s.states;
      };
}
