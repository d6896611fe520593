use Rattle.std.proofs.Common.{◌≡◌, ◌+◌, ◌∷◌, ◌++◌, [], cond, decimal, length, map, subst, sym, ap, ◌∙◌, take, arith, length-take, vec_len}
use Rattle.std.proofs.lemmas.List.{get_or_read, map-append, take_more}
use Rattle.pex_listing.specs.Spelled.{HasWords, Noted}
use Rattle.pex_listing.proofs.StringLemmas.{noted_spelling, spellings_more, words_more}
use Rattle.pex_listing.proofs.strings.StringWords.new.Goals as goal

pub loop-place-preserved : goal.loop-place-preserved
loop-place-preserved c =
    let strings = c.args.strings.now in
    let place = c.loop-place.place in
    let string = c.index-strings-place.result in
    let old = c.loop-place.words in
    let noted-at = subst (λ s. Noted old c.note.new.self s place c.in_ok-is_own_word.is_own_word) c.as_bytes-string.ensures c.in_ok-is_own_word.ensures in
    let count : length (take place strings) ≡ place = simp length-take (omega arith) in
    let noted = subst (λ n. Noted old c.note.new.self string n c.in_ok-is_own_word.is_own_word) (sym count) noted-at in
    let grown = take_more strings place string c.loop-place-test.true ∙ ap (λ x. take place strings ++ x ∷ []) (sym c.index-strings-place.is) in
    let spelled-at = c.in_ok-spelled.ensures ∙ ap (λ s. cond c.in_ok-is_own_word.is_own_word s (35 ∷ decimal place)) c.as_bytes-string.ensures in
    record {
      count = c.in_ok-push.ensures.len ∙ ap (λ v. vec_len v + 1) noted-at.spelled ∙ ap (λ n. n + 1) c.loop-place.invariant.count;
      words = subst (λ xs. HasWords xs c.note.new.self) (sym grown) (words_more (take place strings) string old c.note.new.self c.in_ok-is_own_word.is_own_word c.loop-place.invariant.words noted);
      spelled =
          ap (map (λ bytes. bytes.items)) (c.in_ok-push.ensures.items ∙ ap (λ v. v.items ++ c.in_ok-spelled.spelled ∷ []) noted-at.spelled)
          ∙ map-append (λ bytes. bytes.items) old.spelled.items (c.in_ok-spelled.spelled ∷ [])
          ∙ spellings_more strings place (map (λ bytes. bytes.items) old.spelled.items) c.in_ok-spelled.spelled.items c.loop-place.invariant.spelled
          (spelled-at ∙ noted_spelling strings place string old c.note.new.self c.in_ok-is_own_word.is_own_word (get_or_read strings place string c.loop-place-test.true c.index-strings-place.is []) c.loop-place.invariant.words noted-at);
    }
