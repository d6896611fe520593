-- The members that every script without parent has, and the scripts that every set begins with.
use Rattle.std.specs.Prelude.{ℕ, ℤ, pos, ◌≡◌, ◌<◌, Bool, true, false, List, [], ◌∷◌, ◌++◌, codes, drop, filter, length, Option, Some, None, is_none, slice_index_or}
use Rattle.std.specs.declared.alloc.Global.{Global}
use Rattle.std.specs.declared.vec.Vec.{Vec}
use Rattle.papy_base.specs.Case.{folded}
use Rattle.script_lexer.specs.declared.sign.Sign.TheVariants as signs
use Rattle.line_parser.specs.declared.tree.Argument.{Argument}
use Rattle.line_parser.specs.declared.tree.Constant.TheVariants as constants
use Rattle.line_parser.specs.declared.tree.Expr.TheVariants as expressions
use Rattle.line_parser.specs.declared.tree.Parameter.{Parameter}
use Rattle.line_parser.specs.declared.tree.TypeName.{TypeName}
use Rattle.script_parser.specs.declared.script.Body.{Body}
use Rattle.script_parser.specs.declared.script.Body.TheVariants as bodies
use Rattle.script_parser.specs.declared.script.Function.{Function}
use Rattle.script_parser.specs.declared.script.Statement.{Statement}
use Rattle.script_parser.specs.declared.script.StatementForm.{StatementForm}
use Rattle.script_parser.specs.declared.script.StatementForm.TheVariants as statements
use Rattle.script_linker.specs.declared.set.SourceFile.{SourceFile}
use Rattle.script_linker.specs.Lookup.{function_name}
use Rattle.papy_base.specs.Table.{place_of}

-- ---- the members

-- what a statement does
pub data Act : Type 0 where
  -- calls the function of this name without arguments
  Calls : (name : List ℕ) → Act
  -- gives a variable the value of another one
  Sets : (variable value : List ℕ) → Act
  -- returns the value of a variable
  Returns : (variable : List ℕ) → Act

-- a function: its heading, and what its statements do. One without statements is Global and Native, and any other one is neither
pub record Member : Type 0 where
  pub result : Option TypeName
  pub name : List ℕ
  pub parameters : List Parameter
  pub is_event : Bool
  pub acts : Option (List Act)

-- a type that is no array
abbrev pub plain_type : List ℕ → TypeName
plain_type word = record { word = word; is_array = false }

-- a parameter without default
abbrev pub taken : List ℕ → List ℕ → Parameter
taken kind name = record { kind = plain_type kind; name = name; default = None }

-- a parameter of type Int with this default
abbrev pub whole_number : List ℕ → ℤ → Parameter
whole_number name value = record { kind = plain_type (codes "Int"); name = name; default = Some (constants.Int value) }

-- a Global Native function
abbrev pub native_function : Option TypeName → List ℕ → List Parameter → Member
native_function result name parameters =
    record { result = result; name = name; parameters = parameters; is_event = false; acts = None }

-- an event that takes nothing and does nothing
abbrev pub quiet_event : List ℕ → Member
quiet_event name = record { result = None; name = name; parameters = []; is_event = true; acts = Some [] }

abbrev pub acts_of_goto : List Act
acts_of_goto =
    Calls (codes "OnEndState") ∷ Sets (codes "::State") (codes "asNewState") ∷ Calls (codes "OnBeginState") ∷ []

-- `Function GotoState(String asNewState)`
abbrev pub goto_state : Member
goto_state = record {
  result = None;
  name = codes "GotoState";
  parameters = taken (codes "String") (codes "asNewState") ∷ [];
  is_event = false;
  acts = Some acts_of_goto;
}

-- `String Function GetState()`
abbrev pub get_state : Member
get_state = record {
  result = Some (plain_type (codes "String"));
  name = codes "GetState";
  parameters = [];
  is_event = false;
  acts = Some (Returns (codes "::State") ∷ []);
}

-- the members that every script without parent has
abbrev pub state_members : List Member
state_members =
    goto_state ∷ get_state ∷ quiet_event (codes "OnBeginState") ∷ quiet_event (codes "OnEndState") ∷ []

-- none of these functions has the member's name, whatever the case
abbrev pub is_lacking : List Function → List ℕ → Bool
is_lacking functions name = is_none (place_of function_name functions (folded name))

-- those of the members of states that these functions lack
abbrev pub lacking : List Function → List Member
lacking functions = filter (λ member. is_lacking functions member.name) state_members

-- the members that a script with this parent and these functions is given
abbrev pub given_to : Option (List ℕ) → List Function → List Member
given_to None functions = lacking functions
given_to (Some parent) functions = []

-- ---- the scripts

-- a script that every set has: its parent, and the functions of its empty state
pub record Standard : Type 0 where
  pub name : List ℕ
  pub parent : Option (List ℕ)
  pub members : List Member

-- `Function Trace(String asTextToPrint, Int aiSeverity = 0) Global Native`
abbrev pub trace : Member
trace =
    native_function None (codes "Trace") (taken (codes "String") (codes "asTextToPrint") ∷ whole_number (codes "aiSeverity") (pos 0) ∷ [])

-- `Int Function RandomInt(Int aiMin = 0, Int aiMax = 100) Global Native`
abbrev pub random_int : Member
random_int =
    native_function (Some (plain_type (codes "Int"))) (codes "RandomInt") (whole_number (codes "aiMin") (pos 0) ∷ whole_number (codes "aiMax") (pos 100) ∷ [])

-- `Function Sleep(Int turns) Global Native`
abbrev pub sleep : Member
sleep = native_function None (codes "Sleep") (taken (codes "Int") (codes "turns") ∷ [])

-- a script that extends Form and has an event OnInit
abbrev pub standard_child : List ℕ → Standard
standard_child name =
    record { name = name; parent = Some (codes "Form"); members = quiet_event (codes "OnInit") ∷ [] }

abbrev pub libraries : List Standard
libraries =
    record { name = codes "Debug"; parent = None; members = trace ∷ [] }
    ∷ record { name = codes "Utility"; parent = None; members = random_int ∷ [] }
    ∷ record { name = codes "Scene"; parent = None; members = sleep ∷ [] }
    ∷ []

abbrev pub types : List Standard
types =
    record { name = codes "Form"; parent = None; members = state_members }
    ∷ standard_child (codes "Quest")
    ∷ standard_child (codes "ObjectReference")
    ∷ []

-- the scripts that every set begins with
abbrev pub standard_scripts : List Standard
standard_scripts = libraries ++ types

-- ---- functions and files that are these

-- two lists are equally long, and their elements in order are related
abbrev pub Pairwise : {X Y : Type 0} → (X → Y → Type 0) → List X → List Y → Type 0
Pairwise R [] [] = Unit {0}
Pairwise R [] (y ∷ ys) = ⊥
Pairwise R (x ∷ xs) [] = ⊥
Pairwise R (x ∷ xs) (y ∷ ys) = R x y × Pairwise R xs ys

-- a statement of this form does this
abbrev pub Does : Act → StatementForm → Type 0
Does (Calls name) form =
    (arguments : Vec Argument Global) × (arguments.items ≡ []) × (form ≡ statements.Plain (expressions.Call name arguments))
Does (Sets variable value) form =
    form ≡ statements.Assign (expressions.Word variable) signs.Assign (expressions.Word value)
Does (Returns variable) form = form ≡ statements.Return (Some (expressions.Word variable))

pub record IsStatement (act : Act) (statement : Statement) : Type 0 where
  pub line : statement.line ≡ 0
  pub form : Does act statement.form

-- a native function has no statements
abbrev pub is_native_body : Body → Bool
is_native_body bodies.Native = true
is_native_body (bodies.Lines lines) = false

abbrev pub IsBody : Option (List Act) → Body → Type 0
IsBody None bodies.Native = Unit {0}
IsBody None (bodies.Lines lines) = ⊥
IsBody (Some acts) bodies.Native = ⊥
IsBody (Some acts) (bodies.Lines lines) = Pairwise IsStatement acts lines.items

-- the function is this member, without documentation; its flags and lines are 0
pub record IsMember (member : Member) (function : Function) : Type 0 where
  pub result : function.heading.result ≡ member.result
  pub name : function.heading.name ≡ member.name
  pub parameters : function.heading.parameters.items ≡ member.parameters
  pub is_event : function.heading.is_event ≡ member.is_event
  pub is_global : function.heading.is_global ≡ is_none member.acts
  pub is_native : function.heading.is_native ≡ is_none member.acts
  pub flags : function.heading.flags ≡ 0
  pub doc : function.doc ≡ None
  pub body : IsBody member.acts function.body
  pub line : function.line ≡ 0
  pub end_line : function.end_line ≡ 0

abbrev pub AreMembers : List Member → List Function → Type 0
AreMembers = Pairwise IsMember

-- the new file has, behind the functions of the old one, exactly the members that the old one is given
abbrev pub HasGiven : SourceFile → SourceFile → Type 0
HasGiven before after =
    AreMembers (given_to before.script.parent before.script.functions.items) (drop (length before.script.functions.items) after.script.functions.items)

-- so has each file of the new list, compared with the old list's
abbrev pub HaveGiven : List SourceFile → List SourceFile → Type 0
HaveGiven old new =
    (n : ℕ) (file : SourceFile) → n < length old → HasGiven (slice_index_or old n file) (slice_index_or new n file)

-- the file is this script and nothing else, without a name; its flags and lines are 0
pub record IsStandard (standard : Standard) (file : SourceFile) : Type 0 where
  pub file_name : file.name ≡ []
  pub name : file.script.name ≡ standard.name
  pub line : file.script.line ≡ 0
  pub parent : file.script.parent ≡ standard.parent
  pub flags : file.script.flags ≡ 0
  pub doc : file.script.doc ≡ None
  pub imports : file.script.imports.items ≡ []
  pub variables : file.script.variables.items ≡ []
  pub properties : file.script.properties.items ≡ []
  pub functions : AreMembers standard.members file.script.functions.items
  pub states : file.script.states.items ≡ []
  pub words : file.script.words ≡ 0

abbrev pub AreStandard : List Standard → List SourceFile → Type 0
AreStandard = Pairwise IsStandard
