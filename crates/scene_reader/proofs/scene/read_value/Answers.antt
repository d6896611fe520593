use Rattle.std.proofs.Common.{arith, length, subst, sym, ap, Some}
use Rattle.std.specs.Prelude.{Err}
use Rattle.std.proofs.lemmas.Bool.{le-ltb}
use Rattle.serde_json.specs.View.{view}
use Rattle.scene_reader.specs.SceneText.{IsTextFault}
use Rattle.scene_reader.proofs.Texts.{refused_text, text_rule-small}
use Rattle.scene_reader.proofs.scene.read_value.Goals as goal

pub returns-in-Ok-clause-rule : goal.returns-in-Ok-clause-rule
returns-in-Ok-clause-rule c = text_rule-small c.args.bytes.now (Some (view c.in-Ok.value)) (le-ltb 16777216 (length c.args.bytes.now) (omega arith)) c.in-Ok.ensures.ok

pub returns-in-Err-clause-refused : goal.returns-in-Err-clause-refused
returns-in-Err-clause-refused c =
    subst (IsTextFault c.args.bytes.now) (sym c.of_text.ensures) (refused_text c.args.bytes.now c.in-Err.fault (le-ltb 16777216 (length c.args.bytes.now) (omega arith)) (λ is. c.in-Err.ensures.err (ap Err is)))
