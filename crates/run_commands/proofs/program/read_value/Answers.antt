use Rattle.std.proofs.Common.{vec_len}
use Rattle.run_commands.proofs.ProgramRead.{is_file, kept_is_file, kept_reads, kept_spelled, part_reads, part_spelled, part_unread}
use Rattle.run_commands.proofs.program.read_value.Goals as goal

pub returns-then-keep-clause-valid : goal.returns-then-keep-clause-valid
returns-then-keep-clause-valid g c = kept_is_file c.read_pex.result c.read_pex.ensures.decoded

pub returns-then-keep-clause-read : goal.returns-then-keep-clause-read
returns-then-keep-clause-read g c = rw c.if-keep.true (kept_reads (g.D.Desk.holds c.args.desk.now) c.args.name.now c.read_pex.result c.read_pex.ensures.read)

pub returns-then-keep-clause-spelled : goal.returns-then-keep-clause-spelled
returns-then-keep-clause-spelled g c = kept_spelled (g.D.Desk.holds c.args.desk.now) c.args.name.now c.read_pex.result c.read_pex.ensures.read

pub returns-in-Ok-clause-valid : goal.returns-in-Ok-clause-valid
returns-in-Ok-clause-valid g c = is_file (vec_len c.in-Ok.file.bytes) c.in-Ok.file.value c.in-Ok.ensures.decoded

pub returns-in-Ok-clause-read : goal.returns-in-Ok-clause-read
returns-in-Ok-clause-read g c = rw c.if-keep.false (part_reads (g.D.Desk.holds c.args.desk.now) c.args.name.now c.in-Ok.file _ c.in-Ok.ensures.read)

pub returns-in-Ok-clause-spelled : goal.returns-in-Ok-clause-spelled
returns-in-Ok-clause-spelled g c = part_spelled (g.D.Desk.holds c.args.desk.now) c.args.name.now c.in-Ok.file c.in-Ok.ensures.read

pub returns-in-Err-clause-read : goal.returns-in-Err-clause-read
returns-in-Err-clause-read g c = rw c.if-keep.false (part_unread (g.D.Desk.holds c.args.desk.now) c.args.name.now c.in-Err.fault c.in-Err.ensures.read)
