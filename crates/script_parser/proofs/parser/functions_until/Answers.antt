use Rattle.std.proofs.Common.{arith}
use Rattle.script_parser.proofs.Depth.{goes-further}
use Rattle.script_parser.proofs.Standing.{found-number, functions-push}
use Rattle.script_parser.proofs.parser.functions_until.Goals as goal

pub functions-preserved : goal.functions-preserved
functions-preserved c =
    let entry = c.args.reader.now in
    let before = c.functions.reader in
    let found = c.next_in_block.new.self in
    let so_far = c.functions.invariant in
    let function = c.in_ok-function-in-Function in
    let number = found-number entry before found c.in_ok-first.first so_far.onward c.in_ok-first.ensures.found in
    record {
      bound = omega (arith, so_far.bound, function.ensures.bound, c.in_ok-first.ensures.nearer);
      onward = goes-further entry before c.function.new.reader so_far.onward (goes-further before found c.function.new.reader c.in_ok-first.ensures.onward function.ensures.onward);
      stand = functions-push entry.lines.now c.functions.functions.items c.push.new.self.items function.field-0 c.in_ok-first.first.line.now.number c.in_ok-push-in-Function.ensures.items function.ensures.line number so_far.stand;
    }

pub returns-in_default-clause-fault : goal.returns-in_default-clause-fault
returns-in_default-clause-fault c = c.bad_block.ensures c.args.reader.now.lines.now
