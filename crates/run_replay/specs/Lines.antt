-- The lines of a journal, and their text.
use Rattle.std.specs.Prelude.{ℕ, ◌≡◌, ◌<◌, ◌^◌, ◌==◌, Bool, true, not, List, [], ◌∷◌, ◌++◌, codes}
use Rattle.std.specs.List.{flat_map}
use Rattle.std.specs.Fmt.{decimal}
use Rattle.papy_base.specs.InstanceName.{is_instance_name}
use Rattle.run_replay.specs.declared.lock_move.LockMove.{LockMove}
use Rattle.run_replay.specs.declared.lock_move.LockMove.TheVariants as moves
use Rattle.run_replay.specs.declared.reader.JournalWord.{JournalWord}
use Rattle.run_replay.specs.declared.reader.JournalWord.TheVariants as keyword
use Rattle.run_replay.specs.declared.reader.Numbers.{Numbers}
use Rattle.run_replay.specs.declared.reader.Numbers.TheVariants as numbers

pub data JournalLine : Type 0 where
  Heading : JournalLine
  -- an instance, with its name
  Instance : (name : List ℕ) → JournalLine
  -- a turn begins
  Turn : (turn : ℕ) → JournalLine
  -- the journal ends, after this many turns
  End : (turns : ℕ) → JournalLine
  Moved : (move : LockMove) → JournalLine

abbrev pub move_text : LockMove → List ℕ
move_text (moves.Join k i) = codes "join " ++ decimal k ++ 32 ∷ decimal i
move_text (moves.Take k i) = codes "take " ++ decimal k ++ 32 ∷ decimal i
move_text (moves.Release k i) = codes "release " ++ decimal k ++ 32 ∷ decimal i
move_text (moves.Free k) = codes "free " ++ decimal k
move_text (moves.Leave k) = codes "leave " ++ decimal k
move_text (moves.Sleep k until) = codes "sleep " ++ decimal k ++ 32 ∷ decimal until
move_text (moves.Done k) = codes "done " ++ decimal k
move_text (moves.Run k) = codes "run " ++ decimal k
move_text moves.Idle = codes "idle"

abbrev pub line_text : JournalLine → List ℕ
line_text Heading = codes "journal 1"
line_text (Instance name) = codes "instance " ++ name
line_text (Turn turn) = codes "turn " ++ decimal turn
line_text (End turns) = codes "end " ++ decimal turns
line_text (Moved move) = move_text move

-- each line ends with LF
abbrev pub ended_line : JournalLine → List ℕ
ended_line line = line_text line ++ 10 ∷ []

abbrev pub journal_text : List JournalLine → List ℕ
journal_text lines = flat_map ended_line lines

-- a stack is at most 1,023, an instance at most 255, and any other number has 32 bits
abbrev pub MoveFits : LockMove → Type 0
MoveFits (moves.Join k i) = (k < 1024) × (i < 256)
MoveFits (moves.Take k i) = (k < 1024) × (i < 256)
MoveFits (moves.Release k i) = (k < 1024) × (i < 256)
MoveFits (moves.Free k) = k < 1024
MoveFits (moves.Leave k) = k < 1024
MoveFits (moves.Sleep k until) = (k < 1024) × (until < 2 ^ 32)
MoveFits (moves.Done k) = k < 1024
MoveFits (moves.Run k) = k < 1024
MoveFits moves.Idle = Unit {0}

-- a turn's number is at most 1,000,000
abbrev pub LineFits : JournalLine → Type 0
LineFits Heading = Unit {0}
LineFits (Instance name) = is_instance_name name ≡ true
LineFits (Turn turn) = turn < 1000001
LineFits (End turns) = turns < 1000001
LineFits (Moved move) = MoveFits move

abbrev pub word_of : JournalWord → List ℕ
word_of keyword.Journal = codes "journal"
word_of keyword.Instance = codes "instance"
word_of keyword.Turn = codes "turn"
word_of keyword.End = codes "end"
word_of keyword.Join = codes "join"
word_of keyword.Take = codes "take"
word_of keyword.Release = codes "release"
word_of keyword.Free = codes "free"
word_of keyword.Leave = codes "leave"
word_of keyword.Sleep = codes "sleep"
word_of keyword.Done = codes "done"
word_of keyword.Run = codes "run"
word_of keyword.Idle = codes "idle"

-- nothing, or something behind this byte
abbrev pub Ends : ℕ → List ℕ → Type 0
Ends sign [] = Unit {0}
Ends sign (byte ∷ bytes) = byte ≡ sign

abbrev pub is_not : ℕ → ℕ → Bool
is_not sign byte = not (byte == sign)

-- this byte doesn't stand in the bytes
abbrev pub Lacks : ℕ → List ℕ → Type 0
Lacks sign [] = Unit {0}
Lacks sign (byte ∷ bytes) = (byte ≡ sign → ⊥) × Lacks sign bytes

-- numbers, each behind a blank
abbrev pub spelled : Numbers → List ℕ
spelled numbers.Nothing = []
spelled (numbers.One first) = 32 ∷ decimal first
spelled (numbers.Two first second) = 32 ∷ decimal first ++ 32 ∷ decimal second

abbrev pub AreSmall : Numbers → Type 0
AreSmall numbers.Nothing = Unit {0}
AreSmall (numbers.One first) = first < 2 ^ 32
AreSmall (numbers.Two first second) = (first < 2 ^ 32) × (second < 2 ^ 32)
