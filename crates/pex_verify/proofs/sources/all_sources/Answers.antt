use Rattle.std.proofs.Common.{◌≡◌, ◌<◌, Some, length, get_or, map, sym, ap, subst, ◌∙◌, rules, arith}
use Rattle.std.proofs.lemmas.Grind.{common_steps}
use Rattle.pex_set.specs.Names.{number_in}
use Rattle.pex_values.specs.declared.values.Pex.{Pex}
use Rattle.pex_verify.specs.declared.sources.FileStrings.{FileStrings}
use Rattle.pex_verify.specs.declared.sources.SetFile.{SetFile}
use Rattle.pex_verify.specs.Sources.{AreStrings, HaveParts, IsNamed}
use Rattle.pex_verify.proofs.Lists.{all_grown}
use Rattle.pex_verify.proofs.Strings.{files-next}
use Rattle.pex_verify.proofs.sources.all_sources.Goals as goal

pub loop-number-preserved : goal.loop-number-preserved
loop-number-preserved c = (
  first_of (search rules, grind (arith, common_steps)),
  λ table prelude strings.
      let number = c.loop-number.number in
      let files = c.args.files.now in
      let found = c.args.strings.now in
      let file = c.index-files-number.result in
      let own = c.index-strings-number.result in
      let within : number < length found = omega arith in
      let each : AreStrings table (get_or files number file).strings.items (get_or found number own) = strings.each number file own within in
      let at : AreStrings table file.strings.items own =
      subst (λ (f : Pex). AreStrings table f.strings.items own) (sym c.index-files-number.is)
      (subst (λ (s : FileStrings). AreStrings table (get_or files number file).strings.items s) (sym c.index-strings-number.is) each) in
      let here : IsNamed table c.source_of.result = record {
        titles = c.source_of.ensures.titles ∙ at.titles ∙ ap (λ (p : Pex). p.strings.items) (sym c.source_of.ensures.pex);
        numbers = ap (map Some) c.source_of.ensures.names ∙ at.numbers ∙ ap (λ (p : Pex). map (number_in table) p.strings.items) (sym c.source_of.ensures.pex);
      } in
      all_grown (IsNamed table) c.loop-number.sources.items c.push-in-loop-number.new.self.items c.source_of.result c.in_ok-push-2.ensures.items (c.loop-number.invariant.1 table prelude strings) here,
  files-next c.args.prelude.pex.now c.loop-number.sources.items c.push-in-loop-number.new.self.items c.args.files.now c.loop-number.number c.source_of.result c.index-files-number.result c.in_ok-push-2.ensures.items (omega arith) c.index-files-number.is c.source_of.ensures.pex c.loop-number.invariant.2,
  λ prelude each.
      let number = c.loop-number.number in
      let files = c.args.files.now in
      let file = c.index-files-number.result in
      let within : number < length files = omega arith in
      let is : c.source_of.result.pex.now ≡ get_or files number file = c.source_of.ensures.pex ∙ c.index-files-number.is in
      let here : HaveParts c.source_of.result.pex.now = subst (λ (p : Pex). HaveParts p) (sym is) (each number file within) in
      all_grown (λ (source : SetFile). HaveParts source.pex.now) c.loop-number.sources.items c.push-in-loop-number.new.self.items c.source_of.result c.in_ok-push-2.ensures.items (c.loop-number.invariant.3 prelude each) here,
)
