-- Functions: their types, their code and their flags.
use Rattle.std.proofs.Common.{◌≡◌, ℕ, suc, Bool, true, false, List, [], ◌∷◌, ◌++◌, map, length, Option, None, Some, refl, ap, subst, ◌∙◌, arith}
use Rattle.std.specs.List.{AllByRecursion}
use Rattle.std.specs.Option.{unwrap_or}
use Rattle.std.proofs.lemmas.Option.{get_or_from_slice_get}
use Rattle.core_tree.specs.declared.core_type.CoreType.{CoreType}
use Rattle.core_tree.specs.declared.core_type.CoreType.TheVariants as kinds
use Rattle.core_tree.specs.Set as trees
use Rattle.pex_values.specs.Plain.{PlainFunction, PlainInstruction}
use Rattle.run_laws.specs.Fits.{typed}
use Rattle.code_meaning.specs.Code.{Instruction}
use Rattle.pex_meaning.specs.Functions as meaning
use Rattle.pex_meaning.specs.Functions.{function_meant, has_bit, scope_of, variable_names}
use Rattle.pex_meaning.specs.Instructions as reading
use Rattle.pex_meaning.specs.Instructions.{instruction_meant}
use Rattle.pex_meaning.specs.Names.{string_at, type_named, value_type}
use Rattle.code_lower.specs.declared.place.Coded.{Coded}
use Rattle.code_lower.specs.declared.place.Lowered.{Lowered}
use Rattle.code_lower.specs.Lowered.{meant}
use Rattle.code_lower.specs.Whole.{function_with}
use Rattle.code_emit.specs.Spelled.{Each, Scope, SpellsCode, SpellsInstruction, SpellsSlots, function_bits}
use Rattle.code_emit.specs.Strings.{ReadsName, Table, type_name}
use Rattle.emit_laws.specs.Readable.{AreDistinct, FunctionFits, InstructionFits, IsHome, KindFits, ScopeFits, scope_read}
use Rattle.emit_laws.proofs.Instructions.{instruction_read}
use Rattle.emit_laws.proofs.Types.{type_read}

-- ---- types
type_by : (table : Table) (reference : ℕ) (kind : Option CoreType) (o : Option (List ℕ)) → AreDistinct table.home.scripts → KindFits table.home.scripts kind → type_name table.home.scripts kind ≡ o → ReadsName table.strings reference o → type_named table.home.scripts (string_at table.strings reference) ≡ kind
type_by table reference kind None distinct fits e is = absurd is
type_by table reference kind (Some name) distinct fits e is =
    ap (type_named table.home.scripts) (get_or_from_slice_get table.strings reference name [] is.there) ∙ type_read table.home.scripts kind name distinct fits e

-- the type of a reference to its name
pub type_there : (table : Table) (reference : ℕ) (kind : Option CoreType) → AreDistinct table.home.scripts → KindFits table.home.scripts kind → ReadsName table.strings reference (type_name table.home.scripts kind) → type_named table.home.scripts (string_at table.strings reference) ≡ kind
type_there table reference kind distinct fits is = type_by table reference kind (type_name table.home.scripts kind) distinct fits refl is

-- the types of parameters, with which the locals stand behind them
locals_read : (table : Table) (start : ℕ) (slots : List (ℕ × ℕ)) (kinds : List (Option CoreType)) → AreDistinct table.home.scripts → AllByRecursion (KindFits table.home.scripts) kinds → SpellsSlots table start slots kinds → map (λ (slot : ℕ × ℕ). type_named table.home.scripts (string_at table.strings slot.1)) slots ≡ kinds
locals_read table start [] [] distinct fits are = refl
locals_read table start [] (kind ∷ kinds) distinct fits are = absurd are
locals_read table start (slot ∷ slots) [] distinct fits are = absurd are
locals_read table start (slot ∷ slots) (kind ∷ kinds) distinct fits are =
    let first = type_there table slot.1 kind distinct fits.0 are.0.kind_is in
    let others = locals_read table (suc start) slots kinds distinct fits.1 are.1 in
    λ j. first j ∷ others j

record SlotsRead (table : Table) (parameters locals : List (ℕ × ℕ)) (kinds : List CoreType) (more : List (Option CoreType)) : Type 0 where
  parameters_are : map (λ (slot : ℕ × ℕ). value_type table.home.scripts (string_at table.strings slot.1)) parameters ≡ kinds
  locals_are : map (λ (slot : ℕ × ℕ). type_named table.home.scripts (string_at table.strings slot.1)) locals ≡ more

slots_read : (table : Table) (start : ℕ) (parameters locals : List (ℕ × ℕ)) (types : List CoreType) (more : List (Option CoreType)) → AreDistinct table.home.scripts → length parameters ≡ length types → AllByRecursion (KindFits table.home.scripts) (typed types ++ more) → SpellsSlots table start (parameters ++ locals) (typed types ++ more) → SlotsRead table parameters locals types more
slots_read table start [] locals [] more distinct e fits are =
    record { parameters_are = refl; locals_are = locals_read table start locals more distinct fits are }
slots_read table start [] locals (kind ∷ types) more distinct e fits are = absurd (cc)
slots_read table start (slot ∷ parameters) locals [] more distinct e fits are = absurd (cc)
slots_read table start (slot ∷ parameters) locals (kind ∷ types) more distinct e fits are =
    let first = ap (λ (o : Option CoreType). unwrap_or o kinds.Int) (type_there table slot.1 (Some kind) distinct fits.0 are.0.kind_is) in
    let same : length parameters ≡ length types = omega (arith, e) in
    let others = slots_read table (suc start) parameters locals types more distinct same fits.1 are.1 in
    record { parameters_are = λ j. first j ∷ others.parameters_are j; locals_are = others.locals_are }

-- ---- code
code_read : (is_global : Bool) (scope : Scope) (kinds : List (Option CoreType)) → ScopeFits scope kinds → (code : List PlainInstruction) (items : List (Coded × ℕ)) → AllByRecursion (λ (i : Coded × ℕ). InstructionFits is_global i.0) items → Each (SpellsInstruction scope) code (map (λ (i : Coded × ℕ). i.0) items) → map (instruction_meant (scope_read is_global scope)) code ≡ map (λ (i : Instruction × ℕ). i.0) (map (λ (i : Coded × ℕ). (meant i.0, i.1)) items)
code_read is_global scope kinds fits [] [] own are = refl
code_read is_global scope kinds fits [] (item ∷ items) own are = absurd are
code_read is_global scope kinds fits (i ∷ code) [] own are = absurd are
code_read is_global scope kinds fits (i ∷ code) (item ∷ items) own are =
    let first = instruction_read is_global scope kinds fits i item.0 own.0 are.0 in
    let others = code_read is_global scope kinds fits code items own.1 are.1 in
    λ j. first j ∷ others j

-- ---- bits
global_bit : (is_global is_native : Bool) → has_bit (function_bits is_global is_native) 1 ≡ is_global
global_bit false false = refl
global_bit true false = refl
global_bit false true = refl
global_bit true true = refl

native_bit : (is_global is_native : Bool) → has_bit (function_bits is_global is_native) 2 ≡ is_native
native_bit false false = refl
native_bit true false = refl
native_bit false true = refl
native_bit true true = refl

-- ---- the whole
scope_is : (home : meaning.Home) (table : Table) (f : PlainFunction) (is_global : Bool) → IsHome home table → has_bit f.bits 1 ≡ is_global → scope_of home table.strings f ≡ scope_read is_global (record { table = table; slots = f.parameters ++ f.locals })
scope_is home table f is_global is e =
    λ j. record {
      strings = table.strings;
      scripts = is.scripts j;
      slots = map (λ (slot : ℕ × ℕ). string_at table.strings slot.0) (f.parameters ++ f.locals);
      variables = is.variables j;
      is_global = e j;
    }

pub function_read : (home : meaning.Home) (table : Table) (tree : trees.Function) (lowered : Lowered) (f : PlainFunction) (temporaries : List (Option CoreType)) (name lines : List ℕ) → IsHome home table → FunctionFits table.home tree lowered → lowered.kinds.items ≡ typed tree.parameters ++ (typed tree.locals ++ temporaries) → SpellsCode table tree lowered f → function_meant home table.strings name lines f ≡ record (function_with tree temporaries lowered) { name = name; lines = lines }
function_read home table tree lowered f temporaries name lines is fits kinds spells =
    let more = typed tree.locals ++ temporaries in
    let scope : Scope = record { table = table; slots = f.parameters ++ f.locals } in
    let each = subst (λ (l : List (Option CoreType)). AllByRecursion (KindFits table.home.scripts) l) kinds fits.kinds in
    let slots = subst (λ (l : List (Option CoreType)). SpellsSlots table 0 (f.parameters ++ f.locals) l) kinds spells.slots in
    let read = slots_read table 0 f.parameters f.locals tree.parameters more fits.names.scripts spells.parameters each slots in
    let scope_fits : ScopeFits scope lowered.kinds.items = record { names = fits.names; slots = spells.slots; one_nothing = fits.one_nothing; few = fits.few } in
    let global = ap (λ (n : ℕ). has_bit n 1) spells.bits ∙ global_bit tree.is_global tree.is_native in
    let native = ap (λ (n : ℕ). has_bit n 2) spells.bits ∙ native_bit tree.is_global tree.is_native in
    let parameters = ap (λ (scripts : List (List ℕ)). map (λ (slot : ℕ × ℕ). value_type scripts (string_at table.strings slot.1)) f.parameters) is.scripts ∙ read.parameters_are in
    let locals = ap (λ (scripts : List (List ℕ)). map (λ (slot : ℕ × ℕ). type_named scripts (string_at table.strings slot.1)) f.locals) is.scripts ∙ read.locals_are in
    let result = ap (λ (scripts : List (List ℕ)). type_named scripts (string_at table.strings f.result)) is.scripts ∙ type_there table f.result tree.result fits.names.scripts fits.result spells.result in
    let code = ap (λ (s : reading.Scope). map (instruction_meant s) f.code) (scope_is home table f tree.is_global is global) ∙ code_read tree.is_global scope lowered.kinds.items scope_fits f.code lowered.code.items fits.code spells.code in
    λ j. record {
      name = name;
      parameters = parameters j;
      locals = locals j;
      result = result j;
      is_global = global j;
      is_native = native j;
      code = code j;
      lines = lines;
    }
