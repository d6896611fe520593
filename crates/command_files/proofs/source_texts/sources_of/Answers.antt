use Rattle.std.proofs.Common.{◌≡◌, ◌≤◌, ◌∙◌, [], arith, sym, ap, length, map, take, slice_index_or, All, subst}
use Rattle.std.proofs.lemmas.Grind.{common_steps}
use Rattle.std.proofs.lemmas.List.{get_or-map, take-map}
use Rattle.command_files.specs.Scripts.{KeepsForm}
use Rattle.command_files.specs.SourceTexts.{text_of}
use Rattle.command_files.proofs.ScriptFaults.{text_ends}
use Rattle.command_files.proofs.SourceSets.{texts_all, texts_grow, texts_keep, texts_more}
use Rattle.command_files.proofs.source_texts.sources_of.Goals as goal

pub loop-place-preserved : goal.loop-place-preserved
loop-place-preserved c =
    let so_far = c.loop-place.invariant in
    let script = c.index-texts-place.result in
    let texts = texts_more c.args.texts.now c.loop-place.place script c.loop-place-test.true c.index-texts-place.is in
    let is = rw c.deref.ensures.value at c.in-Ok.ensures in
    record {
      each = grind (arith, common_steps);
      read = rw (texts, c.in-Ok-push.ensures.items) (texts_grow (map text_of (take c.loop-place.place c.args.texts.now)) c.loop-place.files.items (text_of script) c.in-Ok.file so_far.read is);
    }

pub returns-in-Err-clause-ends : goal.returns-in-Err-clause-ends
returns-in-Err-clause-ends c =
    let script = c.index-texts-place.result in
    let texts = c.args.texts.now in
    let place = c.loop-place.place in
    let text : slice_index_or (map text_of texts) place [] ≡ text_of script =
    get_or-map text_of texts place script [] c.loop-place-test.true ∙ ap text_of (sym c.index-texts-place.is) in
    let kept : All KeepsForm (map text_of (take place texts)) = texts_keep (map text_of (take place texts)) c.loop-place.files.items c.loop-place.invariant.read in
    let before : All KeepsForm (take place (map text_of texts)) = subst (All KeepsForm) (sym (take-map text_of place texts)) kept in
    rw c.at_word.ensures (text_ends texts place _ c.in-Err.fault c.loop-place-test.true (text ∙ sym c.deref.ensures.value) before c.in-Err.ensures)

pub returns-clause-read : goal.returns-clause-read
returns-clause-read c = texts_all c.args.texts.now c.loop-place.place c.loop-place.files.items (omega arith) c.loop-place.invariant.read

pub returns-clause-ends : goal.returns-clause-ends
returns-clause-ends c =
    texts_keep (map text_of c.args.texts.now) c.loop-place.files.items (texts_all c.args.texts.now c.loop-place.place c.loop-place.files.items (omega arith) c.loop-place.invariant.read)
