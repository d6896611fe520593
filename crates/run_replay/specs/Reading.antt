-- How the lines that were read are seen.
use Rattle.std.specs.Prelude.{ℕ, ◌==◌, Option, Some, None, nat_le, nat_lt, if◌then◌else◌}
use Rattle.run_replay.specs.declared.reader.ParsedLine.{ParsedLine}
use Rattle.run_replay.specs.declared.reader.ParsedLine.TheVariants as lines
use Rattle.run_replay.specs.declared.lock_move.LockMove.TheVariants as moves
use Rattle.run_replay.specs.declared.reader.JournalWord.{JournalWord}
use Rattle.run_replay.specs.declared.reader.JournalWord.TheVariants as keyword
use Rattle.run_replay.specs.declared.reader.Numbers.{Numbers}
use Rattle.run_replay.specs.declared.reader.Numbers.TheVariants as numbers
use Rattle.run_replay.specs.Lines.{JournalLine, Heading, Instance, Turn, End, Moved}

-- a line that was read, wherever its name lies
abbrev pub seen : ParsedLine → JournalLine
seen lines.Heading = Heading
seen (lines.Instance name) = Instance name.now
seen (lines.Turn turn) = Turn turn
seen (lines.End turns) = End turns
seen (lines.Move moved) = Moved moved

-- the line of this word alone
abbrev pub plain_line : JournalWord → Option JournalLine
plain_line keyword.Journal = None
plain_line keyword.Instance = None
plain_line keyword.Turn = None
plain_line keyword.End = None
plain_line keyword.Join = None
plain_line keyword.Take = None
plain_line keyword.Release = None
plain_line keyword.Free = None
plain_line keyword.Leave = None
plain_line keyword.Sleep = None
plain_line keyword.Done = None
plain_line keyword.Run = None
plain_line keyword.Idle = Some (Moved moves.Idle)

-- the line of this word and a number
abbrev pub line_with_one : JournalWord → ℕ → Option JournalLine
line_with_one keyword.Journal n = if n == 1 then Some Heading else None
line_with_one keyword.Instance n = None
line_with_one keyword.Turn n = if nat_le n 1000000 then Some (Turn n) else None
line_with_one keyword.End n = if nat_le n 1000000 then Some (End n) else None
line_with_one keyword.Join n = None
line_with_one keyword.Take n = None
line_with_one keyword.Release n = None
line_with_one keyword.Free n = if nat_le n 1023 then Some (Moved (moves.Free n)) else None
line_with_one keyword.Leave n = if nat_le n 1023 then Some (Moved (moves.Leave n)) else None
line_with_one keyword.Sleep n = None
line_with_one keyword.Done n = if nat_le n 1023 then Some (Moved (moves.Done n)) else None
line_with_one keyword.Run n = if nat_le n 1023 then Some (Moved (moves.Run n)) else None
line_with_one keyword.Idle n = None

abbrev pub move_with_two : JournalWord → ℕ → ℕ → Option JournalLine
move_with_two keyword.Journal k n = None
move_with_two keyword.Instance k n = None
move_with_two keyword.Turn k n = None
move_with_two keyword.End k n = None
move_with_two keyword.Join k n = if nat_le n 255 then Some (Moved (moves.Join k n)) else None
move_with_two keyword.Take k n = if nat_le n 255 then Some (Moved (moves.Take k n)) else None
move_with_two keyword.Release k n = if nat_le n 255 then Some (Moved (moves.Release k n)) else None
move_with_two keyword.Free k n = None
move_with_two keyword.Leave k n = None
move_with_two keyword.Sleep k n = Some (Moved (moves.Sleep k n))
move_with_two keyword.Done k n = None
move_with_two keyword.Run k n = None
move_with_two keyword.Idle k n = None

-- the line of this word and two numbers, of which the first is a stack's
abbrev pub line_with_two : JournalWord → ℕ → ℕ → Option JournalLine
line_with_two word k n = if nat_lt 1023 k then None else move_with_two word k n

-- the line of this word and these numbers
abbrev pub numbered_line : JournalWord → Numbers → Option JournalLine
numbered_line word numbers.Nothing = plain_line word
numbered_line word (numbers.One n) = line_with_one word n
numbered_line word (numbers.Two k n) = line_with_two word k n
