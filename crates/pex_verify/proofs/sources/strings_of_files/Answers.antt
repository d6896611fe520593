use Rattle.std.proofs.Common.{ℕ, ◌<◌, List, length, take, ap, subst, ◌∙◌, arith}
use Rattle.pex_values.specs.declared.values.Pex.{Pex}
use Rattle.pex_set.proofs.NameLemmas.{IsGrown-trans}
use Rattle.pex_verify.specs.declared.sources.FileStrings.{FileStrings}
use Rattle.pex_verify.specs.Sources.{AreStrings}
use Rattle.pex_set.specs.Names.{with_names}
use Rattle.pex_verify.proofs.NameTables.{with_files-next}
use Rattle.pex_verify.proofs.Pairs.{Paired-next}
use Rattle.pex_verify.proofs.Strings.{AreNamed-grown}
use Rattle.pex_verify.proofs.sources.strings_of_files.Goals as goal

pub loop-pex-preserved : goal.loop-pex-preserved
loop-pex-preserved c =
    let earlier = c.loop-pex.table in
    let later = c.of.new.table in
    let Strings : ℕ → Pex → FileStrings → Type 0 = λ n file strings. AreStrings later file.strings.items strings in
    let files = c.args.files.now in
    let i = c.loop-pex.pex-index in
    let within : i < length files = omega arith in
    let old = AreNamed-grown earlier later (take i files) c.loop-pex.strings.items c.in_ok-of.ensures.grows c.loop-pex.invariant.0 in
    (Paired-next Pex FileStrings Strings files c.loop-pex.strings.items c.push.new.self.items i c.pex-item.result c.pex-item.result c.in_ok-of.field-0 c.in_ok-push.ensures.items within c.pex-item.is old (subst (λ (texts : List (List ℕ)). AreStrings later texts c.in_ok-of.field-0) c.as_slice.ensures.value c.in_ok-of.ensures.strings), IsGrown-trans c.args.table.now earlier later c.loop-pex.invariant.1 c.in_ok-of.ensures.grows, with_files-next c.args.table.now earlier later files i c.pex-item.result within c.pex-item.is c.loop-pex.invariant.2 (c.in_ok-of.ensures.table ∙ ap (with_names earlier) c.as_slice.ensures.value))
