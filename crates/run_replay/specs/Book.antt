-- Which lines may stand after those before them.
use Rattle.std.specs.Prelude.{ℕ, ◌≡◌, ◌≢◌, ◌+◌, ◌-◌, ◌<◌, ◌≤◌, ◌⊎◌, ◌==◌, ◌&&◌, ◌||◌, Bool, true, false, not, List, [], ◌∷◌, ◌++◌, length, Option, Some, None, nat_lt, slice_get, slice_set, slice_index, if◌then◌else◌}
use Rattle.std.specs.List.{list_all}
use Rattle.run_replay.specs.declared.lock_move.LockMove.{LockMove}
use Rattle.run_replay.specs.declared.lock_move.LockMove.TheVariants as moves
use Rattle.run_replay.specs.declared.stack_place.StackPlace.{StackPlace}
use Rattle.run_replay.specs.declared.stack_place.StackPlace.TheVariants as places
use Rattle.run_replay.specs.declared.book.Stage.{Stage}
use Rattle.run_replay.specs.declared.book.Stage.TheVariants as stages
use Rattle.run_replay.specs.declared.book.Waiter.{Waiter}
use Rattle.run_replay.specs.Lines.{JournalLine, Heading, Instance, Turn, End, Moved, LineFits, ended_line, journal_text}
use Rattle.run_replay.specs.declared.fault.JournalRule.{JournalRule}
use Rattle.run_replay.specs.declared.fault.JournalRule.TheVariants as rules

-- what the lines so far leave
pub record Standing : Type 0 where
  pub stage : Stage
  -- the names of the instances
  pub names : List (List ℕ)
  -- how many turns have begun
  pub turns : ℕ
  -- the number of the last of them
  pub turn : ℕ
  -- for how many turns stacks waited for each instance, up to their takes
  pub waited : List ℕ
  -- where each stack is that has begun
  pub places : List StackPlace
  -- the stacks that wait, in order of joining
  pub waiters : List Waiter

abbrev pub start : Standing
start = record { stage = stages.Start; names = []; turns = 0; turn = 0; waited = []; places = []; waiters = [] }

-- where a stack is; a new stack is nowhere
abbrev pub place_of : Standing → ℕ → Option StackPlace
place_of s stack = slice_get s.places stack

-- it sleeps, and its turn has begun
abbrev pub is_due : ℕ → Option StackPlace → Bool
is_due turns (Some (places.Asleep until)) = nat_lt until turns
is_due turns (Some places.Free) = false
is_due turns (Some (places.Waits instance)) = false
is_due turns (Some (places.Holds instance)) = false
is_due turns (Some places.Done) = false
is_due turns (Some places.Between) = false
is_due turns None = false

abbrev pub is_between : Option StackPlace → Bool
is_between (Some places.Between) = true
is_between (Some (places.Asleep until)) = false
is_between (Some places.Free) = false
is_between (Some (places.Waits instance)) = false
is_between (Some (places.Holds instance)) = false
is_between (Some places.Done) = false
is_between None = false

abbrev pub is_free : Option StackPlace → Bool
is_free (Some places.Free) = true
is_free (Some places.Between) = false
is_free (Some (places.Asleep until)) = false
is_free (Some (places.Waits instance)) = false
is_free (Some (places.Holds instance)) = false
is_free (Some places.Done) = false
is_free None = false

abbrev pub holds : ℕ → Option StackPlace → Bool
holds instance (Some (places.Holds held)) = held == instance
holds instance (Some places.Free) = false
holds instance (Some places.Between) = false
holds instance (Some (places.Asleep until)) = false
holds instance (Some (places.Waits awaited)) = false
holds instance (Some places.Done) = false
holds instance None = false

abbrev pub waits : ℕ → Option StackPlace → Bool
waits instance (Some (places.Waits awaited)) = awaited == instance
waits instance (Some places.Free) = false
waits instance (Some places.Between) = false
waits instance (Some (places.Asleep until)) = false
waits instance (Some (places.Holds held)) = false
waits instance (Some places.Done) = false
waits instance None = false

abbrev pub is_waiting : Option StackPlace → Bool
is_waiting (Some (places.Waits awaited)) = true
is_waiting (Some places.Free) = false
is_waiting (Some places.Between) = false
is_waiting (Some (places.Asleep until)) = false
is_waiting (Some (places.Holds held)) = false
is_waiting (Some places.Done) = false
is_waiting None = false

-- nobody sleeps whose turn has begun
abbrev pub nobody_due : ℕ → List StackPlace → Bool
nobody_due turns ps = list_all (λ place. not (is_due turns (Some place))) ps

abbrev pub nobody_holds : ℕ → List StackPlace → Bool
nobody_holds instance ps = list_all (λ place. not (holds instance (Some place))) ps

-- of those that wait for the instance, this stack joined first
abbrev pub is_first : ℕ → ℕ → List Waiter → Bool
is_first instance stack [] = false
is_first instance stack (waiter ∷ waiters) =
    if waiter.instance == instance then waiter.stack == stack else is_first instance stack waiters

-- It is free or holds an instance; or nobody holds the one that it waits for, and nobody joined that one before it.
abbrev pub ready_at : List StackPlace → List Waiter → ℕ → Option StackPlace → Bool
ready_at ps waiters stack (Some places.Free) = true
ready_at ps waiters stack (Some (places.Holds instance)) = true
ready_at ps waiters stack (Some (places.Waits instance)) = nobody_holds instance ps && is_first instance stack waiters
ready_at ps waiters stack (Some (places.Asleep until)) = false
ready_at ps waiters stack (Some places.Done) = false
ready_at ps waiters stack (Some places.Between) = false
ready_at ps waiters stack None = false

abbrev pub is_ready : Standing → ℕ → Bool
is_ready s stack = ready_at s.places s.waiters stack (place_of s stack)

-- a turn may begin, or the journal end
abbrev pub between_turns : Stage → Bool
between_turns stages.Start = false
between_turns stages.Instances = true
between_turns stages.Begun = false
between_turns (stages.Woken last) = false
between_turns (stages.Ran stack) = true
between_turns (stages.Acting stack) = true
between_turns (stages.Left stack) = true
between_turns stages.Idle = true
between_turns stages.Ended = false

-- a turn has begun, and it isn't said yet whose it is
abbrev pub before_run : Stage → Bool
before_run stages.Start = false
before_run stages.Instances = false
before_run stages.Begun = true
before_run (stages.Woken last) = true
before_run (stages.Ran stack) = false
before_run (stages.Acting stack) = false
before_run (stages.Left stack) = false
before_run stages.Idle = false
before_run stages.Ended = false

-- a stack's turn
abbrev pub after_run : Stage → Bool
after_run stages.Start = false
after_run stages.Instances = false
after_run stages.Begun = false
after_run (stages.Woken last) = false
after_run (stages.Ran stack) = true
after_run (stages.Acting stack) = true
after_run (stages.Left stack) = true
after_run stages.Idle = false
after_run stages.Ended = false

abbrev pub in_turn : Stage → Bool
in_turn stage = before_run stage || after_run stage

abbrev pub move_may_stand : Standing → LockMove → Bool
move_may_stand s (moves.Join k i) = in_turn s.stage && nat_lt i (length s.names)
move_may_stand s (moves.Take k i) = in_turn s.stage && nat_lt i (length s.names)
move_may_stand s (moves.Release k i) = in_turn s.stage && nat_lt i (length s.names)
move_may_stand s (moves.Free k) = in_turn s.stage
move_may_stand s (moves.Leave k) = in_turn s.stage
move_may_stand s (moves.Sleep k until) = in_turn s.stage
move_may_stand s (moves.Done k) = in_turn s.stage
move_may_stand s (moves.Run k) = before_run s.stage
move_may_stand s moves.Idle = before_run s.stage

abbrev pub is_start : Stage → Bool
is_start stages.Start = true
is_start stages.Instances = false
is_start stages.Begun = false
is_start (stages.Woken last) = false
is_start (stages.Ran stack) = false
is_start (stages.Acting stack) = false
is_start (stages.Left stack) = false
is_start stages.Idle = false
is_start stages.Ended = false

abbrev pub is_instances : Stage → Bool
is_instances stages.Start = false
is_instances stages.Instances = true
is_instances stages.Begun = false
is_instances (stages.Woken last) = false
is_instances (stages.Ran stack) = false
is_instances (stages.Acting stack) = false
is_instances (stages.Left stack) = false
is_instances stages.Idle = false
is_instances stages.Ended = false

-- The heading stands first, then at most 256 instances, then turns from 0 without gap, then the end. Each turn has one
-- `run` or `idle`, and nothing but a turn or the end follows `idle`.
abbrev pub may_stand : Standing → JournalLine → Bool
may_stand s Heading = is_start s.stage
may_stand s (Instance name) = is_instances s.stage && nat_lt (length s.names) 256
may_stand s (Turn turn) = between_turns s.stage && (turn == s.turns)
may_stand s (End turns) = between_turns s.stage && (turns == s.turns)
may_stand s (Moved move) = move_may_stand s move

-- This turn's stack took its instance where it waited, and has a place again where it let go of its own.
abbrev pub is_settled : Standing → Stage → Bool
is_settled s (stages.Ran stack) = not (is_waiting (place_of s stack))
is_settled s (stages.Left stack) = not (is_between (place_of s stack))
is_settled s stages.Start = true
is_settled s stages.Instances = true
is_settled s stages.Begun = true
is_settled s (stages.Woken last) = true
is_settled s (stages.Acting stack) = true
is_settled s stages.Idle = true
is_settled s stages.Ended = true

-- a sleeper whose turn has begun, with a higher number than those woken before it in this turn
abbrev pub wakes : Standing → Stage → ℕ → Bool
wakes s stages.Begun stack = is_due s.turns (place_of s stack)
wakes s (stages.Woken last) stack = nat_lt last stack && is_due s.turns (place_of s stack)
wakes s (stages.Ran runner) stack = false
wakes s (stages.Acting runner) stack = false
wakes s (stages.Left runner) stack = false
wakes s stages.Start stack = false
wakes s stages.Instances stack = false
wakes s stages.Idle stack = false
wakes s stages.Ended stack = false

-- the stack begins, before any is woken in this turn
abbrev pub begins : Standing → Stage → ℕ → Bool
begins s stages.Begun stack = stack == length s.places
begins s (stages.Woken last) stack = false
begins s (stages.Ran runner) stack = false
begins s (stages.Acting runner) stack = false
begins s (stages.Left runner) stack = false
begins s stages.Start stack = false
begins s stages.Instances stack = false
begins s stages.Idle stack = false
begins s stages.Ended stack = false

-- it let go of its place in this turn, and has no other yet
abbrev pub arrives : Standing → ℕ → Bool
arrives s stack = after_run s.stage && is_between (place_of s stack)

-- the turn is this stack's, and it hasn't let go of its place
abbrev pub may_let_go : Stage → ℕ → Bool
may_let_go (stages.Ran runner) stack = runner == stack
may_let_go (stages.Acting runner) stack = runner == stack
may_let_go (stages.Left runner) stack = false
may_let_go stages.Start stack = false
may_let_go stages.Instances stack = false
may_let_go stages.Begun stack = false
may_let_go (stages.Woken last) stack = false
may_let_go stages.Idle stack = false
may_let_go stages.Ended stack = false

-- the line before says that the turn is this stack's
abbrev pub just_ran : Stage → ℕ → Bool
just_ran (stages.Ran runner) stack = runner == stack
just_ran (stages.Acting runner) stack = false
just_ran (stages.Left runner) stack = false
just_ran stages.Start stack = false
just_ran stages.Instances stack = false
just_ran stages.Begun stack = false
just_ran (stages.Woken last) stack = false
just_ran stages.Idle stack = false
just_ran stages.Ended stack = false

abbrev pub move_is_allowed : Standing → LockMove → Bool
move_is_allowed s (moves.Join k i) = begins s s.stage k || (wakes s s.stage k || arrives s k)
move_is_allowed s (moves.Take k i) = just_ran s.stage k && waits i (place_of s k)
move_is_allowed s (moves.Release k i) = may_let_go s.stage k && holds i (place_of s k)
move_is_allowed s (moves.Free k) = wakes s s.stage k || arrives s k
move_is_allowed s (moves.Leave k) = may_let_go s.stage k && is_free (place_of s k)
move_is_allowed s (moves.Sleep k until) = arrives s k && not (nat_lt until s.turns)
move_is_allowed s (moves.Done k) = arrives s k
move_is_allowed s (moves.Run k) = nobody_due s.turns s.places && is_ready s k
move_is_allowed s moves.Idle = nobody_due s.turns s.places

abbrev pub is_allowed : Standing → JournalLine → Bool
is_allowed s Heading = true
is_allowed s (Instance name) = true
is_allowed s (Turn turn) = is_settled s s.stage
is_allowed s (End turns) = is_settled s s.stage
is_allowed s (Moved move) = move_is_allowed s move

-- the stage after a stack was woken, or found a place again
abbrev pub stage_after : Stage → ℕ → Stage
stage_after (stages.Ran runner) stack = stages.Left stack
stage_after (stages.Acting runner) stack = stages.Left stack
stage_after (stages.Left runner) stack = stages.Left stack
stage_after stages.Start stack = stages.Woken stack
stage_after stages.Instances stack = stages.Woken stack
stage_after stages.Begun stack = stages.Woken stack
stage_after (stages.Woken last) stack = stages.Woken stack
stage_after stages.Idle stack = stages.Woken stack
stage_after stages.Ended stack = stages.Woken stack

abbrev pub placed : Standing → ℕ → StackPlace → List StackPlace
placed s stack place = slice_set s.places stack place

-- a stack moves to a place
abbrev pub settled_at : Standing → ℕ → StackPlace → Standing
settled_at s stack place = record s { stage = stage_after s.stage stack; places = placed s stack place }

abbrev pub queued : Standing → ℕ → ℕ → List Waiter
queued s stack instance = s.waiters ++ record { stack = stack; instance = instance; since = s.turn } ∷ []

abbrev pub is_other : ℕ → Waiter → Bool
is_other stack waiter = not (waiter.stack == stack)

-- the waiters without this stack
abbrev pub without_stack : ℕ → List Waiter → List Waiter
without_stack stack [] = []
without_stack stack (waiter ∷ waiters) = if is_other stack waiter then waiter ∷ without_stack stack waiters else waiters

-- the turn in which a stack joined that waits
abbrev pub since_of : ℕ → List Waiter → ℕ
since_of stack [] = 0
since_of stack (waiter ∷ waiters) = if waiter.stack == stack then waiter.since else since_of stack waiters

-- a count grows
abbrev pub added : List ℕ → ℕ → ℕ → List ℕ
added counts instance amount = slice_set counts instance (slice_index counts instance + amount)

-- the counts with those that wait to the end
abbrev pub counted : List Waiter → ℕ → List ℕ → List ℕ
counted [] turns counts = counts
counted (waiter ∷ waiters) turns counts = counted waiters turns (added counts waiter.instance (turns - waiter.since))

-- a stack that begins stands behind all others
abbrev pub places_with : Standing → ℕ → StackPlace → List StackPlace
places_with s stack place = if stack == length s.places then s.places ++ place ∷ [] else placed s stack place

abbrev pub stage_with : Standing → ℕ → Stage
stage_with s stack = if stack == length s.places then stages.Begun else stage_after s.stage stack

abbrev pub joined : Standing → ℕ → ℕ → Standing
joined s stack instance =
    record s { stage = stage_with s stack; places = places_with s stack (places.Waits instance); waiters = queued s stack instance }

-- what a move that is allowed leaves
abbrev pub moved : Standing → LockMove → Standing
moved s (moves.Join k i) = joined s k i
moved s (moves.Take k i) = record s { stage = stages.Acting k; waited = added s.waited i (s.turn - since_of k s.waiters); places = placed s k (places.Holds i); waiters = without_stack k s.waiters }
moved s (moves.Release k i) = record s { stage = stages.Left k; places = placed s k places.Between }
moved s (moves.Free k) = settled_at s k places.Free
moved s (moves.Leave k) = record s { stage = stages.Left k; places = placed s k places.Between }
moved s (moves.Sleep k until) = settled_at s k (places.Asleep until)
moved s (moves.Done k) = settled_at s k places.Done
moved s (moves.Run k) = record s { stage = stages.Ran k }
moved s moves.Idle = record s { stage = stages.Idle }

abbrev pub after : Standing → JournalLine → Standing
after s Heading = record s { stage = stages.Instances }
after s (Instance name) = record s { names = s.names ++ name ∷ []; waited = s.waited ++ 0 ∷ [] }
after s (Turn turn) = record s { stage = stages.Begun; turns = s.turns + 1; turn = turn }
after s (End turns) = record s { stage = stages.Ended }
after s (Moved move) = moved s move

-- the lines may stand one after another, each allowed, and leave this
abbrev pub Leave : Standing → List JournalLine → Standing → Type 0
Leave s [] end = end ≡ s
Leave s (line ∷ lines) end = LineFits line × (may_stand s line ≡ true) × (is_allowed s line ≡ true) × Leave (after s line) lines end

-- the lines of a whole journal, all of them allowed
pub record AreLegal (lines : List JournalLine) : Type 0 where
  pub end : Standing
  pub leave : Leave start lines end
  pub ended : end.stage ≡ stages.Ended

-- the bytes are those of such lines, and at most 128 MiB
pub record IsLegal (bytes : List ℕ) : Type 0 where
  pub few : length bytes ≤ 134217728
  pub lines : List JournalLine
  pub text : bytes ≡ journal_text lines
  pub legal : AreLegal lines

-- The next line breaks the rule. A line that lacks its end is no line; where no line is left, one must come unless the
-- journal has ended.
abbrev pub BreaksHere : Standing → List ℕ → JournalRule → Type 0
BreaksHere s rest rules.BadLine =
    ((line : JournalLine) (behind : List ℕ) → LineFits line → rest ≡ ended_line line ++ behind → may_stand s line ≡ false) × (rest ≡ [] → s.stage ≢ stages.Ended)
BreaksHere s rest rules.BadMove =
    (line : JournalLine) × (behind : List ℕ) × LineFits line × (rest ≡ ended_line line ++ behind) × (may_stand s line ≡ true) × (is_allowed s line ≡ false)

-- the first line that breaks a rule, and the rule
pub record FirstBreak (bytes : List ℕ) (number : ℕ) (rule : JournalRule) : Type 0 where
  pub lines : List JournalLine
  pub rest : List ℕ
  pub standing : Standing
  pub split : bytes ≡ journal_text lines ++ rest
  pub before : Leave start lines standing
  pub number_is : number ≡ length lines + 1
  pub breaks : BreaksHere standing rest rule

-- a journal of more than 128 MiB breaks the first rule at line 0
abbrev pub JournalBreak : List ℕ → ℕ → JournalRule → Type 0
JournalBreak bytes number rule =
    ((134217728 < length bytes) × (number ≡ 0) × (rule ≡ rules.BadLine)) ⊎ ((length bytes ≤ 134217728) × FirstBreak bytes number rule)
