use Rattle.std.proofs.Common.{◌<◌, ℕ, List, [], ◌∷◌, ◌++◌, length, vec_len, sym, subst, arith}
use Rattle.core_tree.specs.declared.outline.OutlineScript.{OutlineScript}
use Rattle.pex_verify.specs.declared.judged.JudgedScript.{JudgedScript}
use Rattle.pex_verify.specs.Heads.{Placed, placed}
use Rattle.pex_verify.specs.Loading.{judged_by, AreObjects, IsWholeObject}
use Rattle.pex_verify.specs.Sets.{AreSoundScripts, IsSoundPair}
use Rattle.pex_verify.proofs.Loading.{AreObjects-push}
use Rattle.pex_verify.proofs.Sets.{AreSoundScripts-push}
use Rattle.pex_verify.proofs.verifier.load_next.Goals as goal

pub returns-clause-sound : goal.returns-clause-sound
returns-clause-sound c = λ old.
    let count = vec_len c.args.loader.now.set.now.heads in
    let outlines = c.args.parts.now.outlines.items in
    let scripts = c.args.parts.now.scripts.items in
    let outline = c.in_ok-loaded.loaded.outline in
    let script = c.in_ok-loaded.loaded.script in
    let few : length scripts < 4102 = omega (arith, c.args.parts.now.scripts.ok.0) in
    let here : IsSoundPair count outline script = record { script = c.in_ok-loaded.ensures.sound.script; outline = c.in_ok-loaded.ensures.sound.outline } in
    let grown = AreSoundScripts-push count outlines scripts outline script old few here in
    subst (λ (os : List OutlineScript). AreSoundScripts count os c.push-2.new.self.items) (sym c.in_ok-push.ensures.items)
    (subst (λ (ss : List JudgedScript). AreSoundScripts count (outlines ++ outline ∷ []) ss) (sym c.in_ok-push-2.ensures.items) grown)

pub returns-clause-objects : goal.returns-clause-objects
returns-clause-objects c = λ before given.
    let judged = judged_by c.args.loader.now in
    let outlines = c.args.parts.now.outlines.items in
    let scripts = c.args.parts.now.scripts.items in
    let outline = c.in_ok-loaded.loaded.outline in
    let script = c.in_ok-loaded.loaded.script in
    let here : Placed = placed c.args.source.now c.args.object.now in
    let loaded : IsWholeObject judged (length scripts) here script outline = subst (λ (n : ℕ). IsWholeObject judged n here script outline) (omega arith) c.in_ok-loaded.ensures.object in
    let grown = AreObjects-push judged before scripts outlines here script outline given loaded in
    subst (λ (os : List OutlineScript). AreObjects judged (before ++ here ∷ []) c.push-2.new.self.items os) (sym c.in_ok-push.ensures.items)
    (subst (λ (ss : List JudgedScript). AreObjects judged (before ++ here ∷ []) ss (outlines ++ outline ∷ [])) (sym c.in_ok-push-2.ensures.items) grown)
