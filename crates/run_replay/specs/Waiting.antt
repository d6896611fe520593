-- How long stacks waited. It speaks of the lines alone.
use Rattle.std.specs.Prelude.{ℕ, ◌+◌, ◌-◌, ◌==◌, Bool, false, List, [], ◌∷◌, if◌then◌else◌}
use Rattle.run_replay.specs.declared.lock_move.LockMove.{LockMove}
use Rattle.run_replay.specs.declared.lock_move.LockMove.TheVariants as moves
use Rattle.run_replay.specs.Lines.{JournalLine, Heading, Instance, Turn, End, Moved}
use Rattle.run_replay.specs.Outline.{turns_in}

-- whether the move is a take by this stack
abbrev pub is_take_of : ℕ → LockMove → Bool
is_take_of stack (moves.Join k n) = false
is_take_of stack (moves.Take k n) = k == stack
is_take_of stack (moves.Release k n) = false
is_take_of stack (moves.Free k) = false
is_take_of stack (moves.Leave k) = false
is_take_of stack (moves.Sleep k until) = false
is_take_of stack (moves.Done k) = false
is_take_of stack (moves.Run k) = false
is_take_of stack moves.Idle = false

-- the turn of the stack's next take, or the number of turns
abbrev pub next_take : ℕ → ℕ → ℕ → List JournalLine → ℕ
next_take stack now turns [] = turns
next_take stack now turns (Heading ∷ lines) = next_take stack now turns lines
next_take stack now turns (Instance name ∷ lines) = next_take stack now turns lines
next_take stack now turns (Turn turn ∷ lines) = next_take stack turn turns lines
next_take stack now turns (End last ∷ lines) = next_take stack now turns lines
next_take stack now turns (Moved move ∷ lines) = if is_take_of stack move then now else next_take stack now turns lines

-- how many turns go by from a join of the instance to that stack's next take, or to the end
abbrev pub waits_from : ℕ → ℕ → ℕ → LockMove → List JournalLine → ℕ
waits_from instance now turns (moves.Join k n) lines = if n == instance then next_take k now turns lines - now else 0
waits_from instance now turns (moves.Take k n) lines = 0
waits_from instance now turns (moves.Release k n) lines = 0
waits_from instance now turns (moves.Free k) lines = 0
waits_from instance now turns (moves.Leave k) lines = 0
waits_from instance now turns (moves.Sleep k until) lines = 0
waits_from instance now turns (moves.Done k) lines = 0
waits_from instance now turns (moves.Run k) lines = 0
waits_from instance now turns moves.Idle lines = 0

abbrev pub waited_from : ℕ → ℕ → ℕ → List JournalLine → ℕ
waited_from instance now turns [] = 0
waited_from instance now turns (Heading ∷ lines) = waited_from instance now turns lines
waited_from instance now turns (Instance name ∷ lines) = waited_from instance now turns lines
waited_from instance now turns (Turn turn ∷ lines) = waited_from instance turn turns lines
waited_from instance now turns (End last ∷ lines) = waited_from instance now turns lines
waited_from instance now turns (Moved move ∷ lines) = waits_from instance now turns move lines + waited_from instance now turns lines

-- the turns for which stacks waited for the instance, all together
abbrev pub waited : List JournalLine → ℕ → ℕ
waited lines instance = waited_from instance 0 (turns_in lines) lines
