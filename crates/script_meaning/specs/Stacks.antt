-- Stacks of frames, and engines: what opens a body and lets it run to its next act.
use Rattle.std.specs.Prelude.{ℕ, suc, ◌&&◌, Bool, nat_lt, List, [], length, map, sum, Option, None, slice_index_or}
use Rattle.core_tree.specs.declared.expression.FunctionPlace.{FunctionPlace}
use Rattle.core_tree.specs.declared.value.Value.{Value}
use Rattle.script_meaning.specs.Requests.{Sight, Setting, Request}
use Rattle.script_meaning.specs.World.{World}

-- how a call that is to be entered is looked up
pub data Way : Type 0 where
  ByMethod : (name : List ℕ) → Way
  -- from the parent of this script
  ByParent : (script : ℕ) (name : List ℕ) → Way
  ByGlobal : (script : ℕ) (name : List ℕ) → Way
  ByGet : (name : List ℕ) → Way
  BySet : (name : List ℕ) → Way

-- an open body, and the instance that it is on, or none
pub record Frame (Body : Type 0) : Type 0 where
  pub instance : Option ℕ
  pub body : Body

-- `below` are the frames below the innermost one, from the inside out. Each waits for what the one above it gives
pub data Stack (Body : Type 0) : Type 0 where
  Done : Stack Body
  -- the innermost frame is still a call
  ToEnter : (instance : Option ℕ) (way : Way) (arguments : List Value) (below : List (Frame Body)) → Stack Body
  -- `reply` waits to be given to the innermost frame
  Running : (innermost : Frame Body) (reply : Option Value) (below : List (Frame Body)) → Stack Body

-- what a look-up finds: a body, which is then open, a native function, or the variable of an Auto
-- property
pub data Entered (Body : Type 0) : Type 0 where
  Opened : (body : Body) → Entered Body
  NativeThere : (at : FunctionPlace) → Entered Body
  ReadThere : (script variable : ℕ) → Entered Body
  WriteThere : (script variable : ℕ) → Entered Body
  NothingThere : Entered Body

-- an act that a body has come to
pub record Stop (Body : Type 0) : Type 0 where
  pub request : Request
  pub body : Body
  pub sight : Sight

pub record Engine (Body : Type 0) : Type 0 where
  -- from the script and the state of the frame's instance
  pub enter : Option ℕ → List ℕ → Way → List Value → Entered Body
  -- the body, given a reply where one waits, up to its next act
  pub run : Setting → Body → Option Value → Sight → Stop Body

-- a world and the stacks beside it, by number
pub record State (Body : Type 0) : Type 0 where
  pub world : World
  pub stacks : List (Stack Body)

abbrev pub stack_at : {Body : Type 0} → List (Stack Body) → ℕ → Stack Body
stack_at stacks k = slice_index_or stacks k Done

-- the instance of a stack's innermost frame
abbrev pub inner_instance : {Body : Type 0} → Stack Body → Option ℕ
inner_instance Done = None
inner_instance (ToEnter instance way arguments below) = instance
inner_instance (Running innermost reply below) = innermost.instance

-- ---- room for one more frame
abbrev pub stack_limit : ℕ
stack_limit = 128

-- of all frames but the innermost of each stack
abbrev pub frame_limit : ℕ
frame_limit = 512

abbrev pub frames_below : {Body : Type 0} → Stack Body → List (Frame Body)
frames_below Done = []
frames_below (ToEnter instance way arguments below) = below
frames_below (Running innermost reply below) = below

abbrev pub has_room : {Body : Type 0} → List (Stack Body) → ℕ → Bool
has_room stacks k =
    nat_lt (suc (length (frames_below (stack_at stacks k)))) stack_limit && nat_lt (sum (map (λ stack. length (frames_below stack)) stacks)) frame_limit
