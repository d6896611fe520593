-- What is told of the frames of a stack.
use Rattle.std.specs.Prelude.{ℕ, Bool, true, false, List, [], Option, None}
use Rattle.code_meaning.specs.LookUp.{BodyPlace, OfState, OfGet, OfSet}
use Rattle.body_runner.specs.declared.frame.Frame.{Frame}
use Rattle.body_runner.specs.declared.frame.LoadedBody.{LoadedBody}
use Rattle.body_runner.specs.declared.frame.LoadedBody.TheVariants as bodies
use Rattle.body_runner.specs.declared.frame.Stack.{Stack}
use Rattle.body_runner.specs.declared.frame.Stack.TheVariants.{Done, ToEnter, Running}

-- where the function of a body stands
abbrev pub place_of : LoadedBody → BodyPlace
place_of (bodies.Method at) = OfState at.script at.state at.place
place_of (bodies.Reader at) = OfGet at.script at.place
place_of (bodies.Writer at) = OfSet at.script at.place

-- the instance of the innermost frame
abbrev pub inner_instance : Stack → Option ℕ
inner_instance Done = None
inner_instance (ToEnter call below) = call.instance
inner_instance (Running innermost reply below) = innermost.instance

-- the frames below it, outermost first
abbrev pub frames_below : Stack → List Frame
frames_below Done = []
frames_below (ToEnter call below) = below.items
frames_below (Running innermost reply below) = below.items

abbrev pub is_done : Stack → Bool
is_done Done = true
is_done (ToEnter call below) = false
is_done (Running innermost reply below) = false
