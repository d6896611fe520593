use Rattle.std.proofs.Common.{◌∙◌, arith, rules, ◌≡◌, ℕ, suc, ◌+◌, Bool, List, [], ◌∷◌, ◌++◌, sym, ap, append_assoc}
use Rattle.pex_values.specs.declared.values.PexProperty.{PexProperty}
use Rattle.pex_values.specs.Plain.{plain_property}
use Rattle.pex_values.proofs.Sizes.{property_size}
use Rattle.pex_listing.specs.Listing as form
use Rattle.pex_listing.proofs.Taken.{begun_more, begun_spent, ended, lines_more, lines_of}
use Rattle.std.specs.Prelude.{codes, unwrap_or}
use Rattle.std.proofs.lemmas.Bool.{both_ways}
use Rattle.pex_listing.specs.Breaks.{Awaited, Many, a_name, a_number, some_flags, done, paid, property_end, accessor_lines, asked, least_bytes}
use Rattle.pex_listing.specs.Left.{line_left, lines_left, view}
use Rattle.pex_values.specs.Bits.{has_read, has_write}
use Rattle.pex_listing.proofs.Opening.{part_open, line_read, read_err, property_form, read_form, write_form}
use Rattle.pex_listing.proofs.objects.PexPropertyItem.read.Goals as goal

least_sum : (bits : ℕ) {m n : ℕ} {reads writes : Bool} → m ≡ least_bytes reads → n ≡ least_bytes writes → reads ≡ has_read bits → writes ≡ has_write bits → least_bytes (has_read bits) + least_bytes (has_write bits) ≡ m + n
least_sum bits {m} {n} {reads} {writes} a b r w = sym (ap (λ k. k + n) (a ∙ ap least_bytes r) ∙ ap (λ k. least_bytes (has_read bits) + k) (b ∙ ap least_bytes w))

accessor_order : (bits : ℕ) (after : List Awaited) {reads writes : Bool} → reads ≡ has_read bits → writes ≡ has_write bits → accessor_lines bits ++ after ≡ asked reads (codes "read") ++ (asked writes (codes "write") ++ after)
accessor_order bits after {reads} {writes} r w =
    append_assoc (asked (has_read bits) (codes "read")) (asked (has_write bits) (codes "write")) after
    ∙ ap (λ b. asked b (codes "read") ++ (asked (has_write bits) (codes "write") ++ after)) (sym r)
    ∙ ap (λ b. asked reads (codes "read") ++ (asked b (codes "write") ++ after)) (sym w)

pub returns : goal.returns
unfolding form.property_line
returns c =
    let name = c.reference-name.ensures.gives in
    let kind = c.reference-kind.ensures.gives in
    let doc = c.reference-doc.ensures.gives in
    let flags = c.unsigned_32-flags.ensures.taken in
    let bits = c.unsigned_8-bits.ensures.taken in
    let variable = c.read_property_variable-variable.ensures in
    let end = c.in_ok-next_line.ensures.ends in
    let last = c.spend-2.ensures.spends.good end.good in
    let good = flags.good (bits.good (variable.variable.takes.good last)) in
    let r = c.in_ok-read.ensures.reads in
    let w = c.in_ok-write.ensures.reads in
    let p : PexProperty = record { name = c.reference-name.result; kind = c.reference-kind.result; doc = c.reference-doc.result; flags = c.unsigned_32-flags.result; bits = c.unsigned_8-bits.result; variable = c.read_property_variable-variable.result; read = c.in_ok-read.read; write = c.in_ok-write.write } in
    record {
      holds = (
        record {
          name = name.holds (kind.takes.good (doc.takes.good good));
          kind = kind.holds (doc.takes.good good);
          doc = doc.holds good;
          flags = search rules;
          bits = search rules;
          has_variable = variable.asked_for;
          has_read = r.asked_for ∙ c.has_read-reads.ensures;
          has_write = w.asked_for ∙ c.has_write-writes.ensures;
          variable = variable.variable.holds last;
          read = r.shaped;
          write = w.shaped;
        },
        record { read = r.fits; write = w.fits },
      );
      lines =
          let begun = begun_more (begun_more (begun_more (begun_more (begun_more (begun_more (begun_spent c.in_ok-expect.ensures.text c.spend.ensures.spends) name.takes) kind.takes) doc.takes) flags) bits) variable.variable.takes in
          lines_of (omega (arith, property_size (plain_property p), c.least_bytes.ensures, c.least_bytes-2.ensures, r.whole, w.whole)) (lines_more (lines_more (ended (begun_spent begun c.spend-2.ensures.spends) end) r.takes) w.takes);
      left = λ strings awaited n table good at few.
          let v = view c.args.listing.now in
          let after = Many (codes "property" ∷ []) (suc n) ∷ awaited in
          let bits = c.unsigned_8-bits.result in
          let read =
          part_open strings awaited n v (codes "property") good c.in_ok-expect.ensures.word few (property_form strings (unwrap_or v.fields []))
          ∙ c.spend.ensures.pays.left strings after (a_name strings (a_name strings (a_name strings (some_flags (a_number 0 255 (property_end strings))))))
          ∙ (c.reference-name.ensures.tested strings table).left strings after (a_name strings (a_name strings (some_flags (a_number 0 255 (property_end strings)))))
          ∙ (c.reference-kind.ensures.tested strings table).left strings after (a_name strings (some_flags (a_number 0 255 (property_end strings))))
          ∙ (c.reference-doc.ensures.tested strings table).left strings after (some_flags (a_number 0 255 (property_end strings)))
          ∙ c.unsigned_32-flags.ensures.counted.left strings after (λ _. a_number 0 255 (property_end strings))
          ∙ c.unsigned_8-bits.ensures.counted.left strings after (property_end strings)
          ∙ (c.read_property_variable-variable.ensures.left strings table).left strings after (paid (least_bytes (has_read c.unsigned_8-bits.result) + least_bytes (has_write c.unsigned_8-bits.result)) (done (accessor_lines c.unsigned_8-bits.result) []))
          ∙ ap (λ k. line_left strings after (paid k (done (accessor_lines bits) [])) (view c.read_property_variable-variable.new.listing)) (least_sum bits c.least_bytes.ensures c.least_bytes-2.ensures c.has_read-reads.ensures c.has_write-writes.ensures)
          ∙ c.spend-2.ensures.pays.left strings after (done (accessor_lines bits) []) in
          let line = line_read strings after (accessor_lines bits) _ _ read (c.in_ok-next_line.ensures.left strings after (accessor_lines bits) []) in
          let order = ap (λ a. lines_left strings a (view c.next_line.new.self)) (accessor_order bits after c.has_read-reads.ensures c.has_write-writes.ensures) in
          let reads = c.in_ok-read.ensures.left (λ s t. read_form s t) strings (asked c.has_write-writes.result (codes "write") ++ after) table line.1 in
          let writes = c.in_ok-write.ensures.left (λ s t. write_form s t) strings after table reads.1 in
          (line.0 ∙ order ∙ reads.0 ∙ writes.0, writes.1);
    }

pub returns-in_err-expect-clause-left : goal.returns-in_err-expect-clause-left
returns-in_err-expect-clause-left c = λ strings awaited n table good at few. absurd (both_ways _ c.in_err-expect.ensures.missing.0 at)

pub returns-in_err-next_line-clause-left : goal.returns-in_err-next_line-clause-left
returns-in_err-next_line-clause-left c = λ strings awaited n table good at few.
    let v = view c.args.listing.now in
    let after = Many (codes "property" ∷ []) (suc n) ∷ awaited in
    let bits = c.unsigned_8-bits.result in
    let read =
    part_open strings awaited n v (codes "property") good c.in_ok-expect.ensures.word few (property_form strings (unwrap_or v.fields []))
    ∙ c.spend.ensures.pays.left strings after (a_name strings (a_name strings (a_name strings (some_flags (a_number 0 255 (property_end strings))))))
    ∙ (c.reference-name.ensures.tested strings table).left strings after (a_name strings (a_name strings (some_flags (a_number 0 255 (property_end strings)))))
    ∙ (c.reference-kind.ensures.tested strings table).left strings after (a_name strings (some_flags (a_number 0 255 (property_end strings))))
    ∙ (c.reference-doc.ensures.tested strings table).left strings after (some_flags (a_number 0 255 (property_end strings)))
    ∙ c.unsigned_32-flags.ensures.counted.left strings after (λ _. a_number 0 255 (property_end strings))
    ∙ c.unsigned_8-bits.ensures.counted.left strings after (property_end strings)
    ∙ (c.read_property_variable-variable.ensures.left strings table).left strings after (paid (least_bytes (has_read c.unsigned_8-bits.result) + least_bytes (has_write c.unsigned_8-bits.result)) (done (accessor_lines c.unsigned_8-bits.result) []))
    ∙ ap (λ k. line_left strings after (paid k (done (accessor_lines bits) [])) (view c.read_property_variable-variable.new.listing)) (least_sum bits c.least_bytes.ensures c.least_bytes-2.ensures c.has_read-reads.ensures c.has_write-writes.ensures)
    ∙ c.spend-2.ensures.pays.left strings after (done (accessor_lines bits) []) in
    read_err _ _ c.in_err-next_line.field-0.0 c.from_residual-in_err-next_line.result (search rules) read (c.in_err-next_line.ensures.left strings after (accessor_lines bits) [])

pub returns-in_err-read-clause-left : goal.returns-in_err-read-clause-left
returns-in_err-read-clause-left c = λ strings awaited n table good at few.
    let v = view c.args.listing.now in
    let after = Many (codes "property" ∷ []) (suc n) ∷ awaited in
    let bits = c.unsigned_8-bits.result in
    let read =
    part_open strings awaited n v (codes "property") good c.in_ok-expect.ensures.word few (property_form strings (unwrap_or v.fields []))
    ∙ c.spend.ensures.pays.left strings after (a_name strings (a_name strings (a_name strings (some_flags (a_number 0 255 (property_end strings))))))
    ∙ (c.reference-name.ensures.tested strings table).left strings after (a_name strings (a_name strings (some_flags (a_number 0 255 (property_end strings)))))
    ∙ (c.reference-kind.ensures.tested strings table).left strings after (a_name strings (some_flags (a_number 0 255 (property_end strings))))
    ∙ (c.reference-doc.ensures.tested strings table).left strings after (some_flags (a_number 0 255 (property_end strings)))
    ∙ c.unsigned_32-flags.ensures.counted.left strings after (λ _. a_number 0 255 (property_end strings))
    ∙ c.unsigned_8-bits.ensures.counted.left strings after (property_end strings)
    ∙ (c.read_property_variable-variable.ensures.left strings table).left strings after (paid (least_bytes (has_read c.unsigned_8-bits.result) + least_bytes (has_write c.unsigned_8-bits.result)) (done (accessor_lines c.unsigned_8-bits.result) []))
    ∙ ap (λ k. line_left strings after (paid k (done (accessor_lines bits) [])) (view c.read_property_variable-variable.new.listing)) (least_sum bits c.least_bytes.ensures c.least_bytes-2.ensures c.has_read-reads.ensures c.has_write-writes.ensures)
    ∙ c.spend-2.ensures.pays.left strings after (done (accessor_lines bits) []) in
    let line = line_read strings after (accessor_lines bits) _ _ read (c.in_ok-next_line.ensures.left strings after (accessor_lines bits) []) in
    let order = ap (λ a. lines_left strings a (view c.next_line.new.self)) (accessor_order bits after c.has_read-reads.ensures c.has_write-writes.ensures) in
    read_err _ _ c.in_err-read.field-0.0 c.from_residual-in_err-read.result (search rules) (line.0 ∙ order) (c.in_err-read.ensures.left (λ s t. read_form s t) strings (asked c.has_write-writes.result (codes "write") ++ after) table line.1)

pub returns-in_err-write-clause-left : goal.returns-in_err-write-clause-left
returns-in_err-write-clause-left c = λ strings awaited n table good at few.
    let v = view c.args.listing.now in
    let after = Many (codes "property" ∷ []) (suc n) ∷ awaited in
    let bits = c.unsigned_8-bits.result in
    let read =
    part_open strings awaited n v (codes "property") good c.in_ok-expect.ensures.word few (property_form strings (unwrap_or v.fields []))
    ∙ c.spend.ensures.pays.left strings after (a_name strings (a_name strings (a_name strings (some_flags (a_number 0 255 (property_end strings))))))
    ∙ (c.reference-name.ensures.tested strings table).left strings after (a_name strings (a_name strings (some_flags (a_number 0 255 (property_end strings)))))
    ∙ (c.reference-kind.ensures.tested strings table).left strings after (a_name strings (some_flags (a_number 0 255 (property_end strings))))
    ∙ (c.reference-doc.ensures.tested strings table).left strings after (some_flags (a_number 0 255 (property_end strings)))
    ∙ c.unsigned_32-flags.ensures.counted.left strings after (λ _. a_number 0 255 (property_end strings))
    ∙ c.unsigned_8-bits.ensures.counted.left strings after (property_end strings)
    ∙ (c.read_property_variable-variable.ensures.left strings table).left strings after (paid (least_bytes (has_read c.unsigned_8-bits.result) + least_bytes (has_write c.unsigned_8-bits.result)) (done (accessor_lines c.unsigned_8-bits.result) []))
    ∙ ap (λ k. line_left strings after (paid k (done (accessor_lines bits) [])) (view c.read_property_variable-variable.new.listing)) (least_sum bits c.least_bytes.ensures c.least_bytes-2.ensures c.has_read-reads.ensures c.has_write-writes.ensures)
    ∙ c.spend-2.ensures.pays.left strings after (done (accessor_lines bits) []) in
    let line = line_read strings after (accessor_lines bits) _ _ read (c.in_ok-next_line.ensures.left strings after (accessor_lines bits) []) in
    let order = ap (λ a. lines_left strings a (view c.next_line.new.self)) (accessor_order bits after c.has_read-reads.ensures c.has_write-writes.ensures) in
    let reads = c.in_ok-read.ensures.left (λ s t. read_form s t) strings (asked c.has_write-writes.result (codes "write") ++ after) table line.1 in
    read_err _ _ c.in_err-write.field-0.0 c.from_residual-in_err-write.result (search rules) (line.0 ∙ order ∙ reads.0) (c.in_err-write.ensures.left (λ s t. write_form s t) strings after table reads.1)
