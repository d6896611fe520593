-- What names strings that are there still does once there are more strings.
use Rattle.std.proofs.Common.{◌≡◌, ℕ, ◌≤◌, List, [], ◌∷◌, ◌++◌, map, take, drop, Option, Some, None, sym, subst, arith}
use Rattle.std.proofs.lemmas.List.Elements.{All-from_recursion, recursion_from_All, All-take, All-drop}
use Rattle.std.specs.Prelude.{Result, Ok, Err, IfOk, IfSome}
use Rattle.std.specs.List.{AllByRecursion}
use Rattle.pex_values.specs.declared.values.Datum.{Datum}
use Rattle.pex_values.specs.declared.values.Datum.TheVariants.{NoneValue, Word, Quoted, Int, Float, Bool as BoolByte}
use Rattle.pex_values.specs.declared.values.PexVariable.{PexVariable}
use Rattle.pex_values.specs.Plain.{PlainInstruction, PlainFunction, PlainState, PlainProperty, PlainObject, PlainLines}
use Rattle.pex_values.specs.Shape.{IsReference, ArePair, IsShapedDatum, IsShapedInstruction, IsShapedFunction, IsShapedNamed, IsShapedState, IsShapedVariable, IsShapedProperty, IsShapedObject, IsShapedLines}

pub all_later : {A : Type 0} (P Q : A → Type 0) (each : (x : A) → P x → Q x) (xs : List A) → AllByRecursion P xs → AllByRecursion Q xs
all_later P Q each [] all = tt
all_later P Q each (x ∷ xs) all = (each x all.0, all_later P Q each xs all.1)

pub some_later : {A : Type 0} (P Q : A → Type 0) (each : (x : A) → P x → Q x) (x : Option A) → IfSome x P → IfSome x Q
some_later P Q each None is = tt
some_later P Q each (Some x) is = each x is

pub ok_weaker : {A E : Type 0} (P Q : A → Type 0) (r : Result A E) → ((x : A) → P x → Q x) → IfOk r P → IfOk r Q
ok_weaker P Q (Ok x) each is = each x is
ok_weaker P Q (Err e) each is = tt

-- a list that grows by one item, which may name strings that are new
pub each_grown : {X Y : Type 0} (P Q : Y → Type 0) (view : X → Y) (later : (y : Y) → P y → Q y) (xs : List X) (x : X) → AllByRecursion P (map view xs) → Q (view x) → AllByRecursion Q (map view (xs ++ x ∷ []))
each_grown P Q view later [] x all here = (here, tt)
each_grown P Q view later (y ∷ ys) x all here = (later (view y) all.0, each_grown P Q view later ys x all.1 here)

pub list_grown : {X : Type 0} (P Q : X → Type 0) (later : (x : X) → P x → Q x) (xs : List X) (x : X) → AllByRecursion P xs → Q x → AllByRecursion Q (xs ++ x ∷ [])
list_grown P Q later [] x all here = (here, tt)
list_grown P Q later (y ∷ ys) x all here = (later y all.0, list_grown P Q later ys x all.1 here)

take_each : {X : Type 0} (P : X → Type 0) (n : ℕ) (xs : List X) → AllByRecursion P xs → AllByRecursion P (take n xs)
take_each P n xs each = recursion_from_All P (take n xs) (All-take P n xs (All-from_recursion P xs each))

drop_each : {X : Type 0} (P : X → Type 0) (n : ℕ) (xs : List X) → AllByRecursion P xs → AllByRecursion P (drop n xs)
drop_each P n xs each = recursion_from_All P (drop n xs) (All-drop P n xs (All-from_recursion P xs each))

pub taken_pairs : (n at : ℕ) (pairs part : List (ℕ × ℕ)) → part ≡ take at pairs → AllByRecursion (ArePair n) pairs → AllByRecursion (ArePair n) part
taken_pairs n at pairs part is each = subst (λ (ps : List (ℕ × ℕ)). AllByRecursion (ArePair n) ps) (sym is) (take_each (ArePair n) at pairs each)

pub dropped_pairs : (n at : ℕ) (pairs part : List (ℕ × ℕ)) → part ≡ drop at pairs → AllByRecursion (ArePair n) pairs → AllByRecursion (ArePair n) part
dropped_pairs n at pairs part is each = subst (λ (ps : List (ℕ × ℕ)). AllByRecursion (ArePair n) ps) (sym is) (drop_each (ArePair n) at pairs each)

module _ (n m : ℕ) (more : n ≤ m) where
  pub reference_later : (k : ℕ) → IsReference n k → IsReference m k
  reference_later k is = record { below = omega (arith, is.below); fits = is.fits }

  pub pair_later : (pair : ℕ × ℕ) → ArePair n pair → ArePair m pair
  pair_later pair are = record { name = reference_later pair.0 are.name; kind = reference_later pair.1 are.kind }

  pub datum_later : (d : Datum) → IsShapedDatum n d → IsShapedDatum m d
  datum_later NoneValue is = is
  datum_later (Word k) is = reference_later k is
  datum_later (Quoted k) is = reference_later k is
  datum_later (Int k) is = is
  datum_later (Float k) is = is
  datum_later (BoolByte k) is = is

  pub data_later : (ds : List Datum) → AllByRecursion (IsShapedDatum n) ds → AllByRecursion (IsShapedDatum m) ds
  data_later ds all = all_later (IsShapedDatum n) (IsShapedDatum m) datum_later ds all

  pub instruction_later : (i : PlainInstruction) → IsShapedInstruction n i → IsShapedInstruction m i
  instruction_later i is =
      record { opcode = is.opcode; operands = is.operands; fixed = data_later i.fixed is.fixed; more = data_later i.more is.more }

  pub pairs_later : (ps : List (ℕ × ℕ)) → AllByRecursion (ArePair n) ps → AllByRecursion (ArePair m) ps
  pairs_later ps all = all_later (ArePair n) (ArePair m) pair_later ps all

  pub function_later : (f : PlainFunction) → IsShapedFunction n f → IsShapedFunction m f
  function_later f is = record {
    result = reference_later f.result is.result;
    doc = reference_later f.doc is.doc;
    flags = is.flags;
    bits = is.bits;
    parameters = pairs_later f.parameters is.parameters;
    locals = pairs_later f.locals is.locals;
    code = all_later (IsShapedInstruction n) (IsShapedInstruction m) instruction_later f.code is.code;
  }

  pub named_later : (f : ℕ × PlainFunction) → IsShapedNamed n f → IsShapedNamed m f
  named_later f is = record { name = reference_later f.0 is.name; function = function_later f.1 is.function }

  pub state_later : (s : PlainState) → IsShapedState n s → IsShapedState m s
  state_later s is = record {
    name = reference_later s.name is.name;
    functions = all_later (IsShapedNamed n) (IsShapedNamed m) named_later s.functions is.functions;
  }

  pub variable_later : (v : PexVariable) → IsShapedVariable n v → IsShapedVariable m v
  variable_later v is = record {
    name = reference_later v.name is.name;
    kind = reference_later v.kind is.kind;
    flags = is.flags;
    value = datum_later v.value is.value;
  }

  pub accessor_later : (f : Option PlainFunction) → IfSome f (IsShapedFunction n) → IfSome f (IsShapedFunction m)
  accessor_later f is = some_later (IsShapedFunction n) (IsShapedFunction m) function_later f is

  pub property_later : (p : PlainProperty) → IsShapedProperty n p → IsShapedProperty m p
  property_later p is = record {
    name = reference_later p.name is.name;
    kind = reference_later p.kind is.kind;
    doc = reference_later p.doc is.doc;
    flags = is.flags;
    bits = is.bits;
    has_variable = is.has_variable;
    has_read = is.has_read;
    has_write = is.has_write;
    variable = some_later (IsReference n) (IsReference m) reference_later p.variable is.variable;
    read = accessor_later p.read is.read;
    write = accessor_later p.write is.write;
  }

  pub object_later : (o : PlainObject) → IsShapedObject n o → IsShapedObject m o
  object_later o is = record {
    name = reference_later o.name is.name;
    parent = reference_later o.parent is.parent;
    doc = reference_later o.doc is.doc;
    flags = is.flags;
    auto_state = reference_later o.auto_state is.auto_state;
    variables = all_later (IsShapedVariable n) (IsShapedVariable m) variable_later o.variables is.variables;
    properties = all_later (IsShapedProperty n) (IsShapedProperty m) property_later o.properties is.properties;
    states = all_later (IsShapedState n) (IsShapedState m) state_later o.states is.states;
  }

  pub lines_later : (e : PlainLines) → IsShapedLines n e → IsShapedLines m e
  lines_later e is = record {
    object = reference_later e.object is.object;
    state = reference_later e.state is.state;
    function = reference_later e.function is.function;
    kind = is.kind;
    lines = is.lines;
  }

  pub entries_later : (es : List PlainLines) → AllByRecursion (IsShapedLines n) es → AllByRecursion (IsShapedLines m) es
  entries_later es all = all_later (IsShapedLines n) (IsShapedLines m) lines_later es all
