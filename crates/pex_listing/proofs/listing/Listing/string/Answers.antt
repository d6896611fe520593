use Rattle.std.proofs.Common.{◌≡◌, ◌++◌, [], List, ℕ, length, sym, ap, ◌∙◌, append-nil, rules, arith}
use Rattle.std.specs.Prelude.{Result, Ok, Err, IfOk, IsTrue, option_map, unwrap_or}
use Rattle.std.specs.Cmp.Lexicographic.{bytes_decides}
use Rattle.std.specs.Str.{bytes_eq}
use Rattle.pex_listing.specs.Breaks.{done, paid, string_in}
use Rattle.pex_listing.specs.Fields.{short_string}
use Rattle.pex_listing.specs.Left.{view}
use Rattle.pex_listing.specs.Lines.{field, quoted}
use Rattle.pex_listing.specs.Opened.{fields_left}
use Rattle.pex_listing.proofs.Leaving.{no_string, string_left}
use Rattle.pex_listing.proofs.StringRules.{short_length}
use Rattle.pex_listing.proofs.listing.Listing.string.Goals as goal

if_ok : {T E : Type 0} (r : Result T E) (P : T → Type 0) → ((t : T) → P t) → IfOk r P
if_ok (Ok t) P all = all t
if_ok (Err e) P all = tt

pub returns-in_default-clause-left : goal.returns-in_default-clause-left
returns-in_default-clause-left c =
    let l = c.args.self.now in
    let text : List ℕ = unwrap_or (option_map (λ fields. fields.now) l.fields) [] in
    let none : text ≡ [] = ap (λ o. unwrap_or (option_map (λ fields. fields.now) o) []) c.in_default.is in
    if_ok c.try_from_bytes.result _ (λ s strings awaited adds.
    no_string strings awaited adds (view l) (view c.note.new.self) text (paid (length s) (done [] (adds s))) (ap (λ t. short_string (string_in t)) none) c.note.ensures.noted)

pub returns-in_default-2-clause-left : goal.returns-in_default-2-clause-left
returns-in_default-2-clause-left c =
    let l = c.args.self.now in
    let text : List ℕ = unwrap_or (option_map (λ fields. fields.now) l.fields) [] in
    let is : text ≡ c.in-Some.field.now = ap (λ o. unwrap_or (option_map (λ fields. fields.now) o) []) c.in-Some.is in
    if_ok c.try_from_bytes-in_default-2.result _ (λ s strings awaited adds.
    no_string strings awaited adds (view l) (view c.note-in_default-2.new.self) text (paid (length s) (done [] (adds s))) (ap (λ t. short_string (string_in t)) is ∙ c.in_ok-text.ensures ∙ c.in_default-2.is) c.note-in_default-2.ensures.noted)

pub returns-clause-short : goal.returns-clause-short
returns-clause-short c = (short_length (string_in c.in-Some.field.now) _ (c.in_ok-text.ensures ∙ c.in-Some-2.is)).1

pub returns-clause-left : goal.returns-clause-left
returns-clause-left c =
    let l = c.args.self.now in
    let s = c.in-Some-2.text in
    let text : List ℕ = unwrap_or (option_map (λ fields. fields.now) l.fields) [] in
    let is : text ≡ c.in-Some.field.now = ap (λ o. unwrap_or (option_map (λ fields. fields.now) o) []) c.in-Some.is in
    let found = short_length (string_in c.in-Some.field.now) s (c.in_ok-text.ensures ∙ c.in-Some-2.is) in
    λ strings awaited adds.
    string_left strings awaited adds (view l) (view c.check.new.self) text s c.in_ok-is_canonical.is_canonical (ap string_in is ∙ found.0) found.1 (c.in_ok-is_canonical.ensures ∙ ap (λ t. bytes_eq t (quoted s)) (sym is)) c.check.ensures.noted

pub returns-clause-taken : goal.returns-clause-taken
returns-clause-taken c =
    let s = c.in-Some-2.text in
    let canonical = λ (is : IsTrue c.in_ok-is_canonical.is_canonical). (bytes_decides c.in-Some.field.now (quoted s)).0 (sym c.in_ok-is_canonical.ensures ∙ is) in
    let text = field (quoted s) in
    let notes = c.check.ensures.notes in
    let none : fields_left c.check.new.self ≡ [] = notes.fields in
    record {
      good = λ good. notes.good good;
      taken = λ good.
          let whole : fields_left c.args.self.now ≡ field c.in-Some.field.now = search rules in
          whole ∙ (ap field (canonical (notes.this good)) ∙ (sym (append-nil text) ∙ ap (λ t. text ++ t) (sym none)));
      shorter = omega (arith, ap length none);
      room = λ good. omega (arith, notes.room);
      rest = notes.rest;
    }
