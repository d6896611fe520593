use Rattle.std.proofs.Common.{◌≡◌, ◌∙◌, ◌&&◌, Some, ap, cond, false, is_some, length, not, refl, rules, sym, true}
use Rattle.std.specs.Prelude.{is_none, nat_le}
use Rattle.std.specs.Str.{bytes_eq}
use Rattle.std.specs.Cmp.Lexicographic.{bytes_decides}
use Rattle.papy_base.proofs.TableLemmas.{get_by-updates}
use Rattle.pex_listing.specs.Lines.{is_word}
use Rattle.pex_listing.specs.Spelled.{place_in}
use Rattle.pex_listing.proofs.StringLemmas.{added, and-true}
use Rattle.pex_listing.proofs.strings.StringWords.note.Goals as goal

pub returns : goal.returns
returns c =
    let string = c.args.string.now in
    let old = c.args.self.now in
    let fits = nat_le (length string) 64 in
    let word : is_word string ≡ true = search rules in
    let absent : is_some (place_in old string) ≡ false = search rules in
    record {
      spelled = refl;
      words = λ bytes is.
          get_by-updates (λ k. k.items) c.in_ok-from_slice.field-0.items old.first c.insert.new.self (Some c.args.place) c.in_ok-insert.ensures.updates bytes
          ∙ ap (λ s. cond (bytes_eq s bytes) (Some c.args.place) (place_in old bytes)) c.in_ok-from_slice.ensures.items
          ∙ added (bytes_eq string bytes) (place_in old bytes) c.args.place (λ e. ap (λ b. is_some (place_in old b)) (sym ((bytes_decides string bytes).0 e)) ∙ absent);
      own_word = sym (ap (λ b. b && (fits && is_none (place_in old string))) word ∙ ap (λ b. fits && not b) absent ∙ and-true fits);
    }
