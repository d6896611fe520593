-- Members of a script while it is judged.
use Rattle.std.proofs.Common.{◌≡◌, ℕ, List, map, subst}
use Rattle.std.specs.List.{All}
use Rattle.std.proofs.lemmas.List.Elements.{All-map}
use Rattle.core_tree.specs.declared.script.CoreFunction.{CoreFunction}
use Rattle.core_tree.specs.declared.script.CoreProperty.{CoreProperty}
use Rattle.core_tree.specs.declared.script.CoreState.{CoreState}
use Rattle.core_tree.specs.InRange.{PropertyInRange, Signatures, StateInRange}
use Rattle.core_tree.specs.Set.{property_of, state_of}
use Rattle.type_rules.specs.declared.work.ScriptRules.{ScriptRules}
use Rattle.type_rules.specs.Ranges.{CoreFunctionInRange, CorePropertyInRange, CoreStateInRange, KeepsScript, WorkInRange, functions_of, variables_of}

pub keeps-further : (a b c : ScriptRules) → KeepsScript a b → KeepsScript b c → KeepsScript a c
keeps-further a b c first second = record { catalog = cc; layout = cc; number = cc }

pub keeps-work : (a b : ScriptRules) → KeepsScript a b → WorkInRange a → WorkInRange b
keeps-work a b k r = rw (k.number, k.catalog) r

keeps-functions : (a b : ScriptRules) → KeepsScript a b → functions_of b ≡ functions_of a
keeps-functions a b k = cc

keeps-variables : (a b : ScriptRules) → KeepsScript a b → variables_of b ≡ variables_of a
keeps-variables a b k = cc

pub properties-in_range : (a b : ScriptRules) (n : ℕ) (properties : List CoreProperty) → KeepsScript a b → variables_of a ≡ n → All (CorePropertyInRange b) properties →
    All (PropertyInRange (functions_of a) n) (map property_of properties)
properties-in_range a b n properties k count all =
    let variables : variables_of b ≡ n = cc (keeps-variables a b k, count) in
    let counted = subst (λ (v : ℕ). All (λ (p : CoreProperty). PropertyInRange (functions_of b) v (property_of p)) properties) variables all in
    All-map (PropertyInRange (functions_of a) n) property_of properties
    (subst (λ (functions : Signatures). All (λ (p : CoreProperty). PropertyInRange functions n (property_of p)) properties) (keeps-functions a b k) counted)

pub states-in_range : (a b : ScriptRules) (n : ℕ) (states : List CoreState) → KeepsScript a b → variables_of a ≡ n → All (CoreStateInRange b) states →
    All (StateInRange (functions_of a) n) (map state_of states)
states-in_range a b n states k count all =
    let variables : variables_of b ≡ n = cc (keeps-variables a b k, count) in
    let counted = subst (λ (v : ℕ). All (λ (s : CoreState). StateInRange (functions_of b) v (state_of s)) states) variables all in
    All-map (StateInRange (functions_of a) n) state_of states
    (subst (λ (functions : Signatures). All (λ (s : CoreState). StateInRange functions n (state_of s)) states) (keeps-functions a b k) counted)

pub state-kept : (a b : ScriptRules) → KeepsScript a b → (s : CoreState) → CoreStateInRange b s → CoreStateInRange a s
state-kept a b k s r =
    let counted = subst (λ (v : ℕ). StateInRange (functions_of b) v (state_of s)) (keeps-variables a b k) r in
    subst (λ (functions : Signatures). StateInRange functions (variables_of a) (state_of s)) (keeps-functions a b k) counted

pub function-kept : (a b : ScriptRules) → KeepsScript a b → (f : CoreFunction) → CoreFunctionInRange b f → CoreFunctionInRange a f
function-kept a b k f r = rw (k.catalog, k.layout) at r

pub property-kept : (a b : ScriptRules) → KeepsScript a b → (p : CoreProperty) → CorePropertyInRange b p → CorePropertyInRange a p
property-kept a b k p r = rw (k.catalog, k.layout) at r
