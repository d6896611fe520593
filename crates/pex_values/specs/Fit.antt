-- Which values fit a file: each list and each string fits its count field, and the file has at most 16 MiB.
use Rattle.std.specs.Prelude.{ℕ, ◌<◌, ◌≤◌, ◌^◌, List, length, IfSome}
use Rattle.std.specs.List.{AllByRecursion}
use Rattle.pex_values.specs.Plain.{PlainInstruction, PlainFunction, PlainState, PlainProperty, PlainObject, PlainDebug, PlainPex}
use Rattle.pex_values.specs.Spelling.{spelling}

-- so many fit a count of two bytes
abbrev pub IsCounted : {A : Type 0} → List A → Type 0
IsCounted items = length items < 2 ^ 16

-- the further operands fit an integer value that isn't below 0
abbrev pub FitsInstruction : PlainInstruction → Type 0
FitsInstruction i = length i.more < 2 ^ 31

pub record FitsFunction (f : PlainFunction) : Type 0 where
  pub parameters : IsCounted f.parameters
  pub locals : IsCounted f.locals
  pub code : IsCounted f.code
  pub instructions : AllByRecursion FitsInstruction f.code

pub record FitsState (s : PlainState) : Type 0 where
  pub functions : IsCounted s.functions
  pub each : AllByRecursion (λ f. FitsFunction f.1) s.functions

pub record FitsProperty (p : PlainProperty) : Type 0 where
  pub read : IfSome p.read FitsFunction
  pub write : IfSome p.write FitsFunction

pub record FitsObject (o : PlainObject) : Type 0 where
  pub variables : IsCounted o.variables
  pub properties : IsCounted o.properties
  pub each_property : AllByRecursion FitsProperty o.properties
  pub states : IsCounted o.states
  pub each_state : AllByRecursion FitsState o.states

pub record FitsDebug (d : PlainDebug) : Type 0 where
  pub functions : IsCounted d.functions
  pub each : AllByRecursion (λ e. IsCounted e.lines) d.functions

-- the most bytes of a file
abbrev pub limit : ℕ
limit = 16777216

pub record Fits (v : PlainPex) : Type 0 where
  pub source : IsCounted v.source
  pub user : IsCounted v.user
  pub machine : IsCounted v.machine
  pub strings : IsCounted v.strings
  pub each_string : AllByRecursion IsCounted v.strings
  pub debug : IfSome v.debug FitsDebug
  pub user_flags : IsCounted v.user_flags
  pub objects : IsCounted v.objects
  pub each_object : AllByRecursion FitsObject v.objects
  pub size : length (spelling v) ≤ limit
