use Rattle.std.proofs.Common.{ap, sym, ◌∙◌}
use Rattle.std.proofs.lemmas.Result.{IfOk-weaker}
use Rattle.serde_json.specs.Read.{read}
use Rattle.serde_json.specs.View.{view}
use Rattle.scene_reader.proofs.Texts.{json_in-none, json_in-read}
use Rattle.scene_reader.proofs.scene.read_bytes.Goals as goal

pub returns-in-Ok-clause-ok : goal.returns-in-Ok-clause-ok
returns-in-Ok-clause-ok c =
    let same = c.in-Ok.ensures.cases in
    IfOk-weaker c.read_document.result _ _ (λ v h. json_in-read c.args.bytes.now (view v) same.1 (sym (ap read same.0) ∙ h)) c.read_document.ensures.ok

pub returns-in-Err-clause-err : goal.returns-in-Err-clause-err
returns-in-Err-clause-err c = λ _. json_in-none c.args.bytes.now (λ utf8. absurd (c.in-Err.ensures.cases.0 utf8))
