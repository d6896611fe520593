-- What the moves of a turn look like.
use Rattle.std.specs.Prelude.{ℕ, ◌≡◌, ◌+◌, ◌≤◌, List, [], ◌∷◌, ◌++◌, Option, Result, Ok, Err}
use Rattle.std.specs.Option.{option_map}
use Rattle.run_replay.specs.declared.lock_move.LockMove.{LockMove}
use Rattle.run_replay.specs.declared.lock_move.LockMove.TheVariants as moves
use Rattle.stack_machine.specs.declared.status.TurnEnd.{TurnEnd}
use Rattle.stack_machine.specs.declared.status.TurnEnd.TheVariants.{Ran, Idle, Ended}
use Rattle.stack_machine.specs.declared.status.TurnFault.{TurnFault}

-- moves that are kept grow by these
abbrev pub Adds : List LockMove → Option (List LockMove) → Option (List LockMove) → Type 0
Adds these before now = now ≡ option_map (λ noted. noted ++ these) before

-- moves of this form were noted
pub record Noted (Form : List LockMove → Type 0) (before now : Option (List LockMove)) : Type 0 where
  pub these : List LockMove
  pub added : Adds these before now
  pub form : Form these

-- some moves were noted, or none
pub record AddsSome (before now : Option (List LockMove)) : Type 0 where
  pub these : List LockMove
  pub added : Adds these before now

-- ---- one move of a stack
-- it begins or wakes: it waits for its instance, or runs free
abbrev pub Begins : ℕ → LockMove → Type 0
Begins stack (moves.Join k i) = k ≡ stack
Begins stack (moves.Free k) = k ≡ stack
Begins stack _ = ⊥

-- it gets the instance that it waited for
abbrev pub Takes : ℕ → LockMove → Type 0
Takes stack (moves.Take k i) = k ≡ stack
Takes stack _ = ⊥

-- it lets go of its instance, or no longer runs free
abbrev pub LetsGo : ℕ → LockMove → Type 0
LetsGo stack (moves.Release k i) = k ≡ stack
LetsGo stack (moves.Leave k) = k ≡ stack
LetsGo stack _ = ⊥

-- it finds another place
abbrev pub Arrives : ℕ → LockMove → Type 0
Arrives stack (moves.Join k i) = k ≡ stack
Arrives stack (moves.Free k) = k ≡ stack
Arrives stack (moves.Sleep k until) = k ≡ stack
Arrives stack (moves.Done k) = k ≡ stack
Arrives stack _ = ⊥

-- ---- the parts of a turn
-- the stacks from one number up to another start, in order
abbrev pub AreStarts : ℕ → ℕ → List LockMove → Type 0
AreStarts from to [] = to ≡ from
AreStarts from to (move ∷ rest) = Begins from move × AreStarts (from + 1) to rest

-- sleepers from one number up to another wake, in order of their numbers
abbrev pub AreWakes : ℕ → ℕ → List LockMove → Type 0
AreWakes from to [] = from ≤ to
AreWakes from to (move ∷ rest) =
    (stack : ℕ) × (from ≤ stack) × Begins stack move × AreWakes (stack + 1) to rest

-- a stack takes its instance, or doesn't
abbrev pub IsTake : ℕ → List LockMove → Type 0
IsTake stack [] = Unit {0}
IsTake stack (move ∷ []) = Takes stack move
IsTake stack (move ∷ next ∷ rest) = ⊥

-- a stack stays where it is, or lets go of its place and finds another
abbrev pub IsAct : ℕ → List LockMove → Type 0
IsAct stack [] = Unit {0}
IsAct stack (move ∷ []) = ⊥
IsAct stack (move ∷ next ∷ []) = LetsGo stack move × Arrives stack next
IsAct stack (move ∷ next ∷ last ∷ rest) = ⊥

-- the moves of a stack whose turn it is
pub record AreOfStack (stack : ℕ) (these : List LockMove) : Type 0 where
  pub taken : List LockMove
  pub acted : List LockMove
  pub whole : these ≡ taken ++ acted
  pub take : IsTake stack taken
  pub act : IsAct stack acted

-- whose turn it is, and what that stack does
abbrev pub AreOfEnd : TurnEnd → List LockMove → Type 0
AreOfEnd (Ran stack) [] = ⊥
AreOfEnd (Ran stack) (move ∷ rest) = (move ≡ moves.Run stack) × AreOfStack stack rest
AreOfEnd Idle these = these ≡ moves.Idle ∷ []
AreOfEnd Ended these = ⊥

-- the beginning of a turn, before and after which so many stacks have started
pub record AreOfBeginning (before now : ℕ) (these : List LockMove) : Type 0 where
  pub starts : List LockMove
  pub wakes : List LockMove
  pub whole : these ≡ starts ++ wakes
  pub in_order : AreStarts before now starts
  pub then_wake : AreWakes 0 now wakes

-- the moves of a turn that ended so
pub record AreOfTurn (end : TurnEnd) (before now : ℕ) (these : List LockMove) : Type 0 where
  pub beginning : List LockMove
  pub rest : List LockMove
  pub whole : these ≡ beginning ++ rest
  pub begins : AreOfBeginning before now beginning
  pub ends : AreOfEnd end rest

-- ---- the moves that are noted
-- those of a turn that has an end
abbrev pub NotesEnd : Result TurnEnd TurnFault → ℕ → ℕ → Option (List LockMove) → Option (List LockMove) → Type 0
NotesEnd (Ok (Ran stack)) before now old new = Noted (AreOfTurn (Ran stack) before now) old new
NotesEnd (Ok Idle) before now old new = Noted (AreOfTurn Idle before now) old new
NotesEnd (Ok Ended) before now old new = new ≡ old
NotesEnd (Err fault) before now old new = AddsSome old new

-- the same of a list of moves, which stays as it was where the turn has no end
abbrev pub AppendsTurn : Result TurnEnd TurnFault → ℕ → ℕ → List LockMove → List LockMove → Type 0
AppendsTurn (Ok (Ran stack)) before now old new =
    (these : List LockMove) × (new ≡ old ++ these) × AreOfTurn (Ran stack) before now these
AppendsTurn (Ok Idle) before now old new =
    (these : List LockMove) × (new ≡ old ++ these) × AreOfTurn Idle before now these
AppendsTurn (Ok Ended) before now old new = new ≡ old
AppendsTurn (Err fault) before now old new = new ≡ old
