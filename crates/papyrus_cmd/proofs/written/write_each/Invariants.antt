use Rattle.std.proofs.Common.{◌≡◌, map}
use Rattle.std.specs.Prelude.{codes}
use Rattle.std.specs.String.{string_bytes}
use Rattle.papy_io.specs.Activity.{Idle}
use Rattle.papy_base.specs.Bytes.{bytes_of}
use Rattle.papyrus_cmd.specs.Written.{Written}
use Rattle.papyrus_cmd.proofs.written.write_each.Given as goal

-- the files so far are written
abbrev pub invariant-loop-place : goal.invariant-loop-place
invariant-loop-place g l = record {
  busy : g.D.Desk.busy l.desk ≡ Idle;
  holds : Written (codes ".pex") l.place (map string_bytes l.scripts) (map bytes_of l.files) (g.D.Desk.holds l.fn.desk) (g.D.Desk.holds l.desk);
  write_faults : g.D.Desk.write_faults l.desk ≡ g.D.Desk.write_faults l.fn.desk;
  read_faults : g.D.Desk.read_faults l.desk ≡ g.D.Desk.read_faults l.fn.desk;
  missed : g.D.Desk.missed l.desk ≡ g.D.Desk.missed l.fn.desk;
}
