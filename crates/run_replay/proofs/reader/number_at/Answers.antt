use Rattle.run_replay.proofs.SplitLemmas.{number_found, no_number}
use Rattle.run_replay.proofs.reader.number_at.Goals as goal

pub returns-in_err-number : goal.returns-in_err-number
returns-in_err-number c = rw c.from_residual-in_err-number.ensures (no_number c.args.bytes.now c.in_ok-field.field.now c.split_at.result.0.now c.split_at.result.1.now c.len_before.result c.in_ok-field.ensures c.len_before.ensures.run c.split_at.ensures.front c.split_at.ensures.back c.in_err-number.ensures)

pub returns : goal.returns
returns c = number_found c.args.bytes.now c.in_ok-field.field.now c.split_at.result.0.now c.split_at.result.1.now c.len_before.result c.in_ok-number.number c.in_ok-field.ensures c.len_before.ensures.run c.split_at.ensures.front c.split_at.ensures.back c.in_ok-number.ensures.0 c.in_ok-number.ensures.1
