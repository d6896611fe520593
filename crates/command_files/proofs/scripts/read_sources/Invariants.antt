use Rattle.std.proofs.Common.{◌≡◌, map, take, vec_len}
use Rattle.std.specs.Prelude.{IfSome}
use Rattle.std.specs.String.{string_bytes}
use Rattle.papy_io.specs.Activity.{Idle}
use Rattle.command_files.specs.Scripts.{HoldScripts, HoldSources}
use Rattle.command_files.proofs.scripts.read_sources.Given as goal

-- the scripts so far are held, and keep their lexical form
abbrev pub invariant-loop-place : goal.invariant-loop-place
invariant-loop-place g l = record {
  busy : g.D.Desk.busy l.desk ≡ Idle;
  holds : g.D.Desk.holds l.desk ≡ g.D.Desk.holds l.fn.desk;
  write_faults : g.D.Desk.write_faults l.desk ≡ g.D.Desk.write_faults l.fn.desk;
  read_faults : g.D.Desk.read_faults l.desk ≡ g.D.Desk.read_faults l.fn.desk;
  each : vec_len l.files ≡ l.place;
  held : IfSome (g.D.Desk.holds l.fn.desk) (HoldScripts (map string_bytes (take l.place l.scripts)));
  read : IfSome (g.D.Desk.holds l.fn.desk) (λ files. HoldSources files (map string_bytes (take l.place l.scripts)) l.files.items);
}
