use Rattle.std.proofs.Common.{◌≡◌, ◌++◌, drop, take}
use Rattle.std.specs.Io.BufRead.{drop_through, take_through}
use Rattle.run_commands.proofs.sample_command.split_line.Given as goal

-- no byte so far is a line break
abbrev pub invariant-loop-place : goal.invariant-loop-place
invariant-loop-place l = record {
  line : take l.place l.text ++ take_through 10 (drop l.place l.text) ≡ take_through 10 l.text;
  behind : drop_through 10 (drop l.place l.text) ≡ drop_through 10 l.text;
}
