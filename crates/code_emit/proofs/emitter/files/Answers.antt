use Rattle.std.proofs.Common.{ℕ, ◌+◌, List, [], ◌∷◌, ◌++◌, map, take, sym, subst, arith}
use Rattle.std.specs.List.{AllByRecursion}
use Rattle.core_tree.specs.declared.script.CoreScript.{CoreScript}
use Rattle.pex_values.specs.declared.values.Pex.{Pex}
use Rattle.pex_values.specs.Plain.{PlainPex, plain}
use Rattle.pex_values.specs.Shape.{IsWellShaped}
use Rattle.code_emit.specs.Spelled.{Each, SpellsScript}
use Rattle.code_emit.proofs.Later.{each_grown}
use Rattle.std.proofs.lemmas.List.{map-append}
use Rattle.code_emit.proofs.Spelling.{each_more, item_taken}
use Rattle.code_emit.proofs.emitter.files.Goals as goal

pub loop-script-preserved : goal.loop-script-preserved
loop-script-preserved c =
    let Is : PlainPex → CoreScript → Type 0 = λ file script. SpellsScript (record { set = c.args.set.now; script = script }) file in
    let files : List Pex = c.loop-script.files.items in
    let one : Pex = c.in_ok-emit_file.field-0 in
    let scripts : List CoreScript = c.args.scripts.now in
    let at = c.loop-script.script-index in
    let P : List Pex → Type 0 = λ xs. AllByRecursion IsWellShaped (map plain xs) in
    let Q : List Pex → Type 0 = λ xs. Each Is (map plain xs) (take (at + 1) scripts) in
    let L : List PlainPex → Type 0 = λ xs. Each Is xs (take (at + 1) scripts) in
    let R : List CoreScript → Type 0 = λ ss. Each Is (map plain files ++ plain one ∷ []) ss in
    record {
      shaped = subst P (sym c.in_ok-push.ensures.items) (each_grown IsWellShaped IsWellShaped plain (λ y h. h) files one c.loop-script.invariant.shaped c.in_ok-emit_file.ensures.shaped);
      count = omega (arith, c.in_ok-push.ensures.len);
      spelled = subst Q (sym c.in_ok-push.ensures.items) (subst L (sym (map-append plain files (one ∷ []))) (subst R (sym (item_taken scripts at c.script-item.result c.loop-script-test.true c.script-item.is)) (each_more Is Is (λ x y is. is) (map plain files) (take at scripts) (plain one) c.script-item.result c.loop-script.invariant.spelled c.in_ok-emit_file.ensures.spelled)));
    }
