use Rattle.std.proofs.Common.{◌≡◌, length, take, All, sym, subst, ◌∙◌, arith}
use Rattle.std.proofs.lemmas.List.{take-append-le}
use Rattle.std.proofs.lemmas.List.Elements.{All-take}
use Rattle.script_linker.specs.Lookup.{HasSmallScript}
use Rattle.script_linker.specs.Generated.{standard_scripts}
use Rattle.script_linker.proofs.GeneratedLemmas.{AreStandard-first}
use Rattle.script_linker.proofs.linker.behind_prelude.Goals as goal

pub returns-clause-small : goal.returns-clause-small
returns-clause-small c =
    let prelude = c.in_ok-set.set.items in
    let six : length prelude ≡ 6 = sym c.in_ok-set.set.ok.0 ∙ c.in_ok-set.ensures.count in
    let front = take-append-le 6 prelude c.args.files.items (omega (arith, six)) in
    subst (λ set. All HasSmallScript (take 6 set)) (sym c.in_ok-append.ensures.items) (subst (All HasSmallScript) (sym front) (All-take HasSmallScript 6 prelude c.in_ok-set.ensures.few))

pub returns-clause-standard : goal.returns-clause-standard
returns-clause-standard c =
    let prelude = c.in_ok-set.set.items in
    let six : length prelude ≡ 6 = sym c.in_ok-set.set.ok.0 ∙ c.in_ok-set.ensures.count in
    AreStandard-first standard_scripts prelude c.args.files.items _ six c.in_ok-append.ensures.items c.in_ok-set.ensures.standard
