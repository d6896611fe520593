use Rattle.serde_json.specs.View.{view}
use Rattle.std.proofs.Common.{ap, sym, ◌∙◌}
use Rattle.scene_reader.specs.SceneText.{with_version_2}
use Rattle.std.proofs.Common.{Global, Vec, ℕ, rules}
use Rattle.std.specs.Prelude.{Err}
use Rattle.scene_reader.specs.SceneText.{IsRefusedBy, scene_of_text}
use Rattle.scene_reader.proofs.Found.{accepted, refusal_of, refused, text_refused}
use Rattle.scene_reader.proofs.Upgraded.{is_upgraded}
use Rattle.scene_reader.proofs.scene.upgrade_scene.Goals as goal

pub returns-clause-upgraded : goal.returns-clause-upgraded
returns-clause-upgraded c =
    let text = c.in_ok-to_vec.ensures in
    is_upgraded c.args.bytes.now c.in_ok-to_vec.field-0.items (view c.in_ok-value.value) (view c.in_ok-value-2.value) c.in_ok-tree.tree c.in_ok-value.ensures.rule c.in_ok-value.ensures.read c.in_ok-tree.ensures.scene
    (c.in_ok-value-2.ensures ∙ ap with_version_2 (sym c.in-Some.ensures.is)) text.utf8 text.reads_back text.text

pub returns-clause-refused : goal.returns-clause-refused
returns-clause-refused c = accepted c.args.bytes.now (view c.in_ok-value.value) c.in_ok-tree.tree _ c.in_ok-value.ensures.rule c.in_ok-value.ensures.read c.in_ok-tree.ensures.scene

pub returns-in_err-value-clause-refused : goal.returns-in_err-value-clause-refused
returns-in_err-value-clause-refused c =
    let h : IsRefusedBy {T = Vec ℕ Global} (scene_of_text c.args.bytes.now) (Err c.in_err-value.field-0.0) = refusal_of (Vec ℕ Global) (scene_of_text c.args.bytes.now) c.in_err-value.field-0.0 (text_refused c.args.bytes.now c.in_err-value.field-0.0 c.in_err-value.ensures.refused) in
    search (rules, h)

pub returns-in_err-tree-clause-refused : goal.returns-in_err-tree-clause-refused
returns-in_err-tree-clause-refused c =
    let h : IsRefusedBy {T = Vec ℕ Global} (scene_of_text c.args.bytes.now) (Err c.in_err-tree.field-0.0) = refused (Vec ℕ Global) c.args.bytes.now (view c.in_ok-value.value) c.in_err-tree.field-0.0 c.in_ok-value.ensures.rule c.in_ok-value.ensures.read c.in_err-tree.ensures.scene in
    search (rules, h)
