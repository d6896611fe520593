use Rattle.std.proofs.Common.{◌≡◌, ◌<◌, length, vec_len, get_or, sym, subst}
use Rattle.loaded_code.specs.declared.script.LoadedScript.{LoadedScript}
use Rattle.pex_verify.specs.Coded.{IsCodedScript}
use Rattle.pex_verify.specs.Sets.{LoadedSet}
use Rattle.pex_verify.specs.Soundness.{bounds_with}
use Rattle.pex_verify.proofs.loaded.Loaded.script.Goals as goal

pub returns-clause-sound : goal.returns-clause-sound
returns-clause-sound c = λ o.
    let n = c.args.n in
    let found = c.index.result.now in
    let scripts = c.self.inside.scripts.items in
    let outlines = c.self.inside.outline.scripts.items in
    let within : n < length scripts = subst (λ (v : LoadedSet). n < length v.scripts) (sym c.self.view_is) c.requires in
    let here : found ≡ get_or scripts n found = subst (λ k. found ≡ get_or scripts k found) c.from.ensures c.index.ensures in
    let coded = c.self.invariant.whole.coded n o found within in
    let sound : IsCodedScript (bounds_with (length scripts) (vec_len (get_or outlines n o).variables)) found = subst (λ (s : LoadedScript). IsCodedScript (bounds_with (length scripts) (vec_len (get_or outlines n o).variables)) s) (sym here) coded in
    subst (λ (v : LoadedSet). IsCodedScript (bounds_with (length v.scripts) (vec_len (get_or v.outline n o).variables)) found) c.self.view_is sound
