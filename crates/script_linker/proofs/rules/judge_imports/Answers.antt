use Rattle.std.proofs.Common.{◌≡◌, ◌<◌, ◌≤◌, IsSome, ⊎_elim, get_or, subst, ◌∙◌, ap, arith}
use Rattle.std.proofs.lemmas.Bool.{cases_lt}
use Rattle.std.proofs.lemmas.List.{get_or_default}
use Rattle.papy_base.specs.Case.{folded}
use Rattle.script_parser.specs.Lines.{import_line}
use Rattle.papy_base.specs.Table.{number_in}
use Rattle.script_linker.proofs.FoundLemmas.{AreAmong-item, FindsAmong-nothing, FindsAmong-then, IsSome-unless, unbroken}
use Rattle.script_linker.proofs.rules.judge_imports.Goals as goal

pub loop-import-init : goal.loop-import-init
loop-import-init c = record { among = FindsAmong-nothing _ _; known = λ none k d below. absurd (omega arith) }

pub loop-import-preserved : goal.loop-import-preserved
loop-import-preserved c =
    let names = c.args.names.now in
    let imports = c.args.imports.now in
    let index = c.loop-import.import-index in
    let import = c.import-item.result in
    let one = AreAmong-item import_line imports index import c.loop-import-test.true c.import-item.is in
    record {
      among = FindsAmong-then one c.loop-import.invariant.among c.note_if.ensures.among;
      known = λ none k d below.
          ⊎_elim
          (λ (l : k < index). c.loop-import.invariant.known (c.note_if.ensures.among.stays none) k d l)
          (λ (g : index ≤ k).
          let is_known = unbroken c.is_none-is_unknown.result c.note_if.new.self.found c.note_if.ensures.noted none in
          let here = IsSome-unless (number_in names (folded import.1)) c.is_none-is_unknown.result c.is_none-is_unknown.ensures c.find.ensures is_known in
          let same : index ≡ k = omega arith in
          let at : import ≡ get_or imports k d = c.import-item.is ∙ get_or_default imports index import d c.loop-import-test.true ∙ ap (λ n. get_or imports n d) same in
          subst (λ i. IsSome (number_in names (folded i.1))) at here)
          (cases_lt k index);
    }

pub returns-clause-known : goal.returns-clause-known
returns-clause-known c = λ none k d below. c.loop-import.invariant.known none k d (omega (arith, c.loop-import-test.false))
