-- Lines of a file, and what a script declares on them.
use Rattle.std.proofs.Common.{◌≡◌, ◌<◌, ℕ, List, [], ◌∷◌, ◌++◌, length, get_or, map, sym, ap, ◌∙◌, arith, subst}
use Rattle.std.specs.Prelude.{Some, flat_map, slice_get}
use Rattle.std.specs.List.{All}
use Rattle.std.proofs.lemmas.List.{get_or-map, length-map}
use Rattle.std.proofs.lemmas.List.Elements.{All-append, All-cons, All-head, All-map, All-nil, All-push, All-same, All-tail}
use Rattle.std.proofs.lemmas.Option.{get_or_from_slice_get, slice_get_within}
use Rattle.script_lexer.specs.declared.line.Line.{Line}
use Rattle.script_parser.specs.Faults.{IsNumberOf}
use Rattle.script_parser.specs.Lines.{accessors, function_line, heading_lines, import_line, lines_of, property_lines, state_lines, variable_line}
use Rattle.script_parser.specs.Reader.{Found, GoesOn}
use Rattle.script_parser.specs.Stands.{FunctionStands, FunctionsStand, PropertyStands, ScriptStands, StateStands}
use Rattle.script_parser.specs.declared.reader.LineAt.{LineAt}
use Rattle.script_parser.specs.declared.reader.LineReader.{LineReader}
use Rattle.script_parser.specs.declared.script.Function.{Function}
use Rattle.script_parser.specs.declared.script.Property.{Property}
use Rattle.script_parser.specs.declared.script.Script.{Script}
use Rattle.script_parser.specs.declared.script.State.{State}

-- the number of a line is among the numbers
pub number-stands : (lines : List Line) (at : ℕ) (line : Line) → slice_get lines at ≡ Some line → IsNumberOf lines line.number
number-stands lines at line is =
    let number : Line → ℕ = λ l. l.number in
    let within : at < length lines = slice_get_within lines at line is in
    let found : get_or lines at line ≡ line = get_or_from_slice_get lines at line line is in
    (at, omega (arith, length-map lines number), get_or-map number lines at line line.number within ∙ ap number found)

-- a line that is found further on is one of the file's
pub found-number : (entry old new : LineReader) (found : LineAt) → GoesOn entry old → Found old new found → IsNumberOf entry.lines.now found.line.now.number
found-number entry old new found on f =
    rw on.lines at (number-stands old.lines.now found.at found.line.now f.stands)

-- one function more
pub functions-push : (lines : List Line) (functions all : List Function) (function : Function) (line : ℕ) → all ≡ functions ++ function ∷ [] → function.line ≡ line → IsNumberOf lines line → FunctionsStand lines functions →
    FunctionsStand lines all
functions-push lines functions all function line pushed is stands so_far =
    All-same (FunctionStands lines) all (functions ++ function ∷ []) pushed
    (All-push (FunctionStands lines) functions function so_far (subst (λ (n : ℕ). IsNumberOf lines n) (sym is) stands))

flat-all : {X : Type 0} (P : ℕ → Type 0) (f : X → List ℕ) (xs : List X) → All (λ x. All P (f x)) xs → All P (flat_map f xs)
flat-all P f [] all = All-nil P
flat-all P f (x ∷ xs) all =
    All-append P (f x) (flat_map f xs) (All-head (λ y. All P (f y)) x xs all) (flat-all P f xs (All-tail (λ y. All P (f y)) x xs all))

module _ (lines : List Line) where
  property-lines : (properties : List Property) → All (PropertyStands lines) properties → All (λ p. All (IsNumberOf lines) (property_lines p)) properties
  property-lines properties all = λ n d within.
      let p = all n d within in
      All-cons (IsNumberOf lines) (get_or properties n d).line (map function_line (accessors (get_or properties n d).form)) p.line (All-map (IsNumberOf lines) function_line (accessors (get_or properties n d).form) p.accessors)

  states-lines : (states : List State) → All (StateStands lines) states → All (λ s. All (IsNumberOf lines) (state_lines s)) states
  states-lines states all = λ n d within.
      let s = all n d within in
      All-cons (IsNumberOf lines) (get_or states n d).line (map function_line (get_or states n d).functions.items) s.line (All-map (IsNumberOf lines) function_line (get_or states n d).functions.items s.functions)

  -- each line of what a script declares is a line of its file
  pub script-lines : (script : Script) → ScriptStands lines script → All (IsNumberOf lines) (lines_of script)
  script-lines script s =
      let P : ℕ → Type 0 = IsNumberOf lines in
      let variables = map variable_line script.variables.items in
      let properties = flat_map property_lines script.properties.items in
      let functions = map function_line script.functions.items in
      let states = flat_map state_lines script.states.items in
      let heading = All-cons P script.line (map import_line script.imports.items) s.line (All-map P import_line script.imports.items s.imports) in
      let one = All-append P (heading_lines script) variables heading (All-map P variable_line script.variables.items s.variables) in
      let two = All-append P (heading_lines script ++ variables) properties one (flat-all P property_lines script.properties.items (property-lines script.properties.items s.properties)) in
      let three = All-append P (heading_lines script ++ variables ++ properties) functions two (All-map P function_line script.functions.items s.functions) in
      All-append P (heading_lines script ++ variables ++ properties ++ functions) states three (flat-all P state_lines script.states.items (states-lines script.states.items s.states))
