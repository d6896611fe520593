-- A whole function, from its statements.
use Rattle.std.proofs.Common.{◌≡◌, ℕ, zero, suc, ◌<◌, List, [], ◌∷◌, ◌++◌, length, Option, refl, sym, ap, subst, ◌∙◌, arith, append_assoc}
use Rattle.std.specs.Prelude.{slice_get}
use Rattle.std.proofs.lemmas.List.{append-nil}
use Rattle.core_tree.specs.declared.core_type.CoreType.{CoreType}
use Rattle.core_tree.specs.declared.outline.OutlineVariable.{OutlineVariable}
use Rattle.core_tree.specs.declared.script.CoreFunction.{CoreFunction}
use Rattle.core_tree.specs.declared.script.CoreScript.{CoreScript}
use Rattle.core_tree.specs.declared.script.CoreSet.{CoreSet}
use Rattle.core_tree.specs.Set as trees
use Rattle.core_tree.specs.Tree.{NoStatement, block_of}
use Rattle.run_laws.specs.Fits.{typed}
use Rattle.code_meaning.specs.Code.{Function, Instruction}
use Rattle.code_meaning.specs.LookUp.{BodyPlace, script_of}
use Rattle.code_meaning.specs.Operands.{variables_in, kind_in}
use Rattle.emit_meaning.specs.Codes.{Routine, Has, CodesBlock}
use Rattle.emit_meaning.specs.Coded.{Set, IsCoded, routine_of}
use Rattle.code_lower.specs.declared.place.Lowered.{Lowered}
use Rattle.code_lower.specs.Slots.{Slots, own_slots_of}
use Rattle.code_lower.specs.Lowered.{Known, State, Serves, known_of, heads_of}
use Rattle.code_lower.specs.Statements.{BlockReaches, lines_of}
use Rattle.code_lower.specs.Whole.{IsLowered, Stands, function_with}
use Rattle.code_lower.proofs.TestsEmit.{block_coded}

variable_has : (variables : List OutlineVariable) (k : ℕ) → k < length variables → Has (kind_in (slice_get variables k))
variable_has [] k less = absurd (omega arith)
variable_has (v ∷ variables) zero less = (v.kind, refl)
variable_has (v ∷ variables) (suc k) less = variable_has variables k (omega arith)

abbrev pub begun_with : CoreSet → CoreScript → Slots → State
begun_with set script slots = record { code = []; line = 0; slots = slots; known = known_of set script }

abbrev pub begun : CoreSet → CoreScript → CoreFunction → State
begun set script f = begun_with set script (own_slots_of f)

pub is_lowered : (set : CoreSet) (script : CoreScript) (f : CoreFunction) (s : State) (lowered : Lowered) → BlockReaches (block_of f.body.items) NoStatement (begun set script f) s → lowered.kinds.items ≡ s.slots.kinds → lines_of lowered ≡ s.code → IsLowered set script (trees.function_of f) lowered
is_lowered set script f s lowered reaches kinds code = record {
  temporaries = more;
  kinds = kinds ∙ kinds_are;
  coded = coded;
}
  where
    tree : trees.Function
    tree = trees.function_of f

    more : List (Option CoreType)
    more = reaches.adds.grows.more

    kinds_are : s.slots.kinds ≡ typed tree.parameters ++ (typed tree.locals ++ more)
    kinds_are = reaches.adds.grows.kinds ∙ append_assoc (typed tree.parameters) (typed tree.locals) more

    here : Function
    here = function_with tree more lowered

    coded : (core : Set) (place : BodyPlace) → Stands set script tree lowered here core place → IsCoded core place tree.name tree here
    coded core place stands = record {
      there = stands.there;
      name_is = refl;
      parameters = refl;
      temporaries = more;
      locals = refl;
      result = refl;
      is_global = refl;
      is_native = refl;
      all = lines_of lowered;
      code = refl;
      lines = refl;
      body = subst (λ (l : List (Instruction × ℕ)). CodesBlock r tree.body l) (sym (code ∙ reaches.adds.code)) (block_coded r tree.body (begun set script f) s reaches serves);
    }
      where
        r : Routine
        r = routine_of core place tree here (lines_of lowered)

        serves : Serves s r
        serves = record {
          own = sym reaches.adds.grows.own;
          more = [];
          kinds = sym kinds_are ∙ sym (append-nil s.slots.kinds);
          heads = ap (λ (l : List trees.Script). heads_of l) stands.trees_are ∙ sym (ap (λ (x : Known). x.heads) reaches.adds.known);
          variables = λ k less. variable_has (variables_in (slice_get core.outline (script_of place))) k (subst (λ (n : ℕ). k < n) (ap (λ (x : Known). x.variables) reaches.adds.known ∙ sym stands.variables) less);
          finds = stands.finds;
        }
