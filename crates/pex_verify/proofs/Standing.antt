-- A loaded function has the types that are seen where its code is judged.
use Rattle.std.proofs.Common.{◌≡◌, ℕ, ◌<◌, List, [], ◌∷◌, ◌++◌, Option, Some, None, IfSome, All, get_or, map, refl, sym, ap, subst, vec_len, ◌∙◌}
use Rattle.std.specs.Prelude.{slice_get}
use Rattle.std.proofs.lemmas.List.Elements.{All-append, All-map}
use Rattle.core_tree.specs.declared.core_type.CoreType.{CoreType}
use Rattle.core_tree.specs.Outlines.{ScriptShape}
use Rattle.papy_base.specs.declared.name.Name.{Name}
use Rattle.run_laws.specs.Fits.{variable_kinds}
use Rattle.pex_verify.specs.declared.judged.JudgedFunction.{JudgedFunction}
use Rattle.pex_verify.specs.declared.scope.FunctionScope.{FunctionScope}
use Rattle.pex_verify.specs.declared.value_type.ValueType.{ValueType}
use Rattle.pex_verify.specs.declared.value_type.ValueType.TheVariants.{Of}
use Rattle.pex_verify.specs.Agreement.{Stands}
use Rattle.pex_verify.specs.Judged.{AreTypedIn}
use Rattle.pex_verify.specs.Meanings.{of_result}
use Rattle.pex_verify.specs.JudgedCode.{function_of}
use Rattle.pex_verify.specs.Sites.{HasTypedCode, site_of}
use Rattle.pex_verify.specs.Types.{IsTypeAmong, IsValueTypeAmong}

locals_known : (locals : List (Name × Option CoreType)) → map (λ (l : Name × Option CoreType). of_result l.1) locals ≡ map of_result (map (λ (l : Name × Option CoreType). l.1) locals)
locals_known [] = refl
locals_known (l ∷ rest) = ap (λ (types : List ValueType). of_result l.1 ∷ types) (locals_known rest)

slots_known : (parameters : List (Name × CoreType)) (locals : List (Name × Option CoreType)) → map (λ (p : Name × CoreType). Of p.1) parameters ++ map (λ (l : Name × Option CoreType). of_result l.1) locals ≡ map of_result (map (λ (kind : CoreType). Some kind) (map (λ (p : Name × CoreType). p.1) parameters) ++ map (λ (l : Name × Option CoreType). l.1) locals)
slots_known [] locals = locals_known locals
slots_known (p ∷ rest) locals = ap (λ (types : List ValueType). Of p.1 ∷ types) (slots_known rest locals)

local_among : (count : ℕ) (kind : Option CoreType) → IfSome kind (IsTypeAmong count) → IsValueTypeAmong count (of_result kind)
local_among count None among = tt
local_among count (Some kind) among = among

slots_among : (count : ℕ) (parameters : List (Name × CoreType)) (locals : List (Name × Option CoreType)) → All (λ (p : Name × CoreType). IsTypeAmong count p.1) parameters → All (λ (l : Name × Option CoreType). IfSome l.1 (IsTypeAmong count)) locals
    → All (IsValueTypeAmong count) (map (λ (p : Name × CoreType). Of p.1) parameters ++ map (λ (l : Name × Option CoreType). of_result l.1) locals)
slots_among count parameters locals first rest =
    All-append (IsValueTypeAmong count) (map (λ (p : Name × CoreType). Of p.1) parameters) (map (λ (l : Name × Option CoreType). of_result l.1) locals)
    (All-map (IsValueTypeAmong count) (λ (p : Name × CoreType). Of p.1) parameters first)
    (All-map (IsValueTypeAmong count) (λ (l : Name × Option CoreType). of_result l.1) locals (λ k d h. local_among count (get_or locals k d).1 (rest k d h)))

-- the function, whose slots have the types of its parameters and locals, in a script whose variables are those of the outline
pub function_stands : (scope : FunctionScope) (outline : List ScriptShape) (f : JudgedFunction) → scope.home.now.here < vec_len scope.home.now.set.now.heads
    → scope.slots.now.list.items ≡ map (λ (p : Name × CoreType). Of p.1) f.parameters.items ++ map (λ (l : Name × Option CoreType). of_result l.1) f.locals.items
    → All (λ (p : Name × CoreType). IsTypeAmong (vec_len scope.home.now.set.now.heads) p.1) f.parameters.items
    → All (λ (l : Name × Option CoreType). IfSome l.1 (IsTypeAmong (vec_len scope.home.now.set.now.heads))) f.locals.items
    → map (λ variable. variable.kind) scope.home.now.variables.now.list.items ≡ variable_kinds (slice_get outline scope.home.now.here)
    → All (λ variable. IsTypeAmong (vec_len scope.home.now.set.now.heads) variable.kind) scope.home.now.variables.now.list.items
    → f.is_global ≡ scope.is_global → scope.answer ≡ of_result f.result → Stands scope outline (function_of outline f)
function_stands scope outline f here slots parameters locals variables variables_among is_global answer = record {
  here = here;
  slots = slots ∙ slots_known f.parameters.items f.locals.items;
  slots_among = subst (λ (types : List ValueType). All (IsValueTypeAmong (vec_len scope.home.now.set.now.heads)) types) (sym slots) (slots_among (vec_len scope.home.now.set.now.heads) f.parameters.items f.locals.items parameters locals);
  variables = variables;
  variables_among = variables_among;
  is_global = is_global;
  result = answer;
}

-- so its code, which is typed where it is judged, is typed in whichever scripts agree with the tables
pub code_is_typed : (scope : FunctionScope) (f : JudgedFunction)
    → scope.slots.now.list.items ≡ map (λ (p : Name × CoreType). Of p.1) f.parameters.items ++ map (λ (l : Name × Option CoreType). of_result l.1) f.locals.items
    → All (λ (p : Name × CoreType). IsTypeAmong (vec_len scope.home.now.set.now.heads) p.1) f.parameters.items
    → All (λ (l : Name × Option CoreType). IfSome l.1 (IsTypeAmong (vec_len scope.home.now.set.now.heads))) f.locals.items
    → f.is_global ≡ scope.is_global → scope.answer ≡ of_result f.result → AreTypedIn scope f.code.items → HasTypedCode (site_of scope.home.now) scope.source.now.names.now scope.source.now.titles.now f
code_is_typed scope f slots parameters locals is_global answer typed final = typed (record {
  names = final.names;
  outline = final.outline;
  scripts = final.scripts;
  function = function_of final.outline f;
  agrees = final.agrees;
  numbered = final.numbered;
  stands = function_stands scope final.outline f final.here slots parameters locals final.variables final.variables_among is_global answer;
})
