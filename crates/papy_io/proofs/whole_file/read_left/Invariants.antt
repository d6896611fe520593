use Rattle.std.proofs.Common.{◌≡◌, ◌-◌, ◌≤◌, length, vec_len}
use Rattle.papy_io.specs.Count.{HasRisenBy}
use Rattle.papy_io.proofs.Progress.{ReadsSoFar}
use Rattle.papy_io.proofs.whole_file.read_left.Given as goal

abbrev pub invariant-loop-bytes : goal.invariant-loop-bytes
invariant-loop-bytes g l =
    let desk = g.D.Desk in
    record {
      progress : ReadsSoFar (desk.busy l.fn.desk) l.bytes.items (desk.busy l.desk);
      small : vec_len l.bytes ≤ l.limit;
      piece : length l.buffer ≡ 8192;
      holds : desk.holds l.desk ≡ desk.holds l.fn.desk;
      taken : HasRisenBy (length l.bytes.items) (desk.taken l.fn.desk) (desk.taken l.desk);
      read_faults : desk.read_faults l.desk ≡ desk.read_faults l.fn.desk;
      write_faults : desk.write_faults l.desk ≡ desk.write_faults l.fn.desk;
      missed : desk.missed l.desk ≡ desk.missed l.fn.desk;
    }

abbrev pub decreases-loop-bytes : goal.decreases-loop-bytes
decreases-loop-bytes g l = l.limit - vec_len l.bytes
