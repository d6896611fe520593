use Rattle.std.proofs.Common.{◌≡◌, ℕ, ◌-◌, List, length, map, min, take, drop, ap, subst, ◌∙◌, arith}
use Rattle.std.specs.Prelude.{IfOk}
use Rattle.std.proofs.lemmas.List.{length-drop}
use Rattle.core_tree.specs.declared.script.CoreScript.{CoreScript}
use Rattle.pex_values.specs.Plain.{PlainPex, plain}
use Rattle.code_emit.specs.Spelled.{Each, SpellsScript}
use Rattle.code_emit.proofs.Spelling.{dropped_most, taken_all}
use Rattle.code_emit.proofs.emitter.emit.Goals as goal

pub returns-clause-spelled : goal.returns-clause-spelled
returns-clause-spelled c =
    let Is : PlainPex → CoreScript → Type 0 = λ file script. SpellsScript (record { set = c.args.set.now; script = script }) file in
    let scripts : List CoreScript = c.as_slice-scripts.result.now in
    let P : List CoreScript → Type 0 = λ ss. IfOk c.files.result (λ files. Each Is (map plain files.items) ss) in
    let most : c.min-first.result ≡ min (length scripts) 6 = omega (arith, c.min-first.ensures, c.as_slice-scripts.ensures.len) in
    let first = c.min-first.result in
    let rest : List CoreScript = drop first scripts in
    let left : take (length scripts - first) rest ≡ rest = taken_all rest (length scripts - first) (omega (arith, length-drop first scripts)) in
    subst P (left ∙ dropped_most scripts first 6 most ∙ ap (λ (ss : List CoreScript). drop 6 ss) c.as_slice-scripts.ensures.value) c.files.ensures.spelled
