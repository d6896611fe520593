use Rattle.std.proofs.Common.{◌≡◌, map, take, vec_len}
use Rattle.std.specs.Prelude.{All, IfSome}
use Rattle.std.specs.String.{string_bytes}
use Rattle.papy_io.specs.Activity.{Idle}
use Rattle.pex_verify.specs.Files.{IsFile}
use Rattle.run_commands.specs.Program.{AreKept, AreSmall, AreSpelled}
use Rattle.run_commands.proofs.program.read_values.Given as goal

-- the files so far are held, and their values are those of files
abbrev pub invariant-loop-place : goal.invariant-loop-place
invariant-loop-place g l = record {
  busy : g.D.Desk.busy l.desk ≡ Idle;
  holds : g.D.Desk.holds l.desk ≡ g.D.Desk.holds l.fn.desk;
  write_faults : g.D.Desk.write_faults l.desk ≡ g.D.Desk.write_faults l.fn.desk;
  read_faults : g.D.Desk.read_faults l.desk ≡ g.D.Desk.read_faults l.fn.desk;
  each : vec_len l.files.values ≡ l.place;
  as_many : vec_len l.files.kept ≡ l.place;
  valid : All IsFile l.files.values.items;
  small : AreSmall l.files.kept.items;
  kept : IfSome (g.D.Desk.holds l.fn.desk) (AreKept l.keep (map string_bytes (take l.place l.names)) l.files.kept.items);
  spelled : IfSome (g.D.Desk.holds l.fn.desk) (AreSpelled (map string_bytes (take l.place l.names)) l.files.values.items);
}
