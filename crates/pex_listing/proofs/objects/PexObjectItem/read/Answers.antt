use Rattle.std.proofs.Common.{vec_len, arith, rules, suc, [], ◌∷◌, ◌∙◌}
use Rattle.pex_values.specs.declared.values.PexObject.{PexObject}
use Rattle.pex_values.specs.Fit.{FitsProperty, FitsState}
use Rattle.pex_values.specs.Plain.{plain_property, plain_state, plain_object}
use Rattle.pex_values.specs.Shape.{IsShapedProperty, IsShapedState}
use Rattle.pex_values.specs.Spelling as spell
use Rattle.pex_values.proofs.Sizes.{object_size, object_data_size}
use Rattle.pex_listing.specs.Listing as form
use Rattle.pex_listing.specs.Spelled.{spelled_in}
use Rattle.pex_listing.proofs.Parts.{viewed}
use Rattle.pex_listing.proofs.Taken.{begun_more, begun_spent, ended, lines_of, lines_more}
use Rattle.std.specs.Prelude.{codes, unwrap_or}
use Rattle.std.proofs.lemmas.Bool.{both_ways}
use Rattle.pex_listing.specs.Breaks.{Many, a_name, a_field, some_flags, size_rule, done, object_lines, any_number_of}
use Rattle.pex_listing.specs.Left.{view}
use Rattle.pex_listing.proofs.Opening.{part_open, line_read, read_err, object_form}
use Rattle.pex_listing.proofs.objects.PexObjectItem.read.Goals as goal

pub returns : goal.returns
unfolding form.object_line form.object
returns c =
    let n = vec_len c.args.names.now.spelled in
    let spelled = spelled_in c.args.names.now in
    let name = c.reference-name.ensures.gives in
    let size = c.size_form-size_form.ensures.taken in
    let parent = c.reference-parent.ensures.gives in
    let doc = c.reference-doc.ensures.gives in
    let flags = c.unsigned_32-flags.ensures.taken in
    let auto = c.reference-auto_state.ensures.gives in
    let end = c.in_ok-next_line.ensures.ends in
    let good = flags.good (auto.takes.good end.good) in
    let vs = c.in_ok-variables.ensures.all in
    let ps = viewed (IsShapedProperty n) FitsProperty spell.property (form.property spelled) plain_property _ _ c.in_ok-properties.properties.items c.in_ok-properties.ensures.all in
    let ss = viewed (IsShapedState n) FitsState spell.state (form.state spelled) plain_state _ _ c.in_ok-states.states.items c.in_ok-states.ensures.all in
    let o : PexObject = record { name = c.reference-name.result; size_form = c.size_form-size_form.result; parent = c.reference-parent.result; doc = c.reference-doc.result; flags = c.unsigned_32-flags.result; auto_state = c.reference-auto_state.result; variables = c.in_ok-variables.variables; properties = c.in_ok-properties.properties; states = c.in_ok-states.states } in
    record {
      holds = (
        record {
          name = name.holds (size.good (parent.takes.good (doc.takes.good good)));
          parent = parent.holds (doc.takes.good good);
          doc = doc.holds good;
          flags = search rules;
          auto_state = auto.holds end.good;
          variables = vs.each;
          properties = ps.shaped;
          states = ss.shaped;
        },
        record { variables = vs.counted; properties = ps.counted; each_property = ps.fits; states = ss.counted; each_state = ss.fits },
      );
      lines =
          let begun = begun_more (begun_more (begun_more (begun_more (begun_more (begun_more (begun_spent c.in_ok-expect.ensures.text c.spend.ensures.spends) name.takes) size) parent.takes) doc.takes) flags) auto.takes in
          lines_of (omega (arith, object_size (plain_object o), object_data_size (plain_object o))) (lines_more (lines_more (lines_more (ended begun end) vs.takes) ps.takes) ss.takes);
      left = λ strings awaited n table good at few.
          let v = view c.args.listing.now in
          let after = Many (codes "object" ∷ []) (suc n) ∷ awaited in
          let read =
          part_open strings awaited n v (codes "object") good c.in_ok-expect.ensures.word few (object_form strings (unwrap_or v.fields []))
          ∙ c.spend.ensures.pays.left strings after (a_name strings (a_field size_rule (a_name strings (a_name strings (some_flags (a_name strings (done object_lines [])))))))
          ∙ (c.reference-name.ensures.tested strings table).left strings after (a_field size_rule (a_name strings (a_name strings (some_flags (a_name strings (done object_lines []))))))
          ∙ c.size_form-size_form.ensures.tested.left strings after (a_name strings (a_name strings (some_flags (a_name strings (done object_lines [])))))
          ∙ (c.reference-parent.ensures.tested strings table).left strings after (a_name strings (some_flags (a_name strings (done object_lines []))))
          ∙ (c.reference-doc.ensures.tested strings table).left strings after (some_flags (a_name strings (done object_lines [])))
          ∙ c.unsigned_32-flags.ensures.counted.left strings after (λ _. a_name strings (done object_lines []))
          ∙ (c.reference-auto_state.ensures.tested strings table).left strings after (done object_lines []) in
          let line = line_read strings after (any_number_of (codes "variable") ∷ any_number_of (codes "property") ∷ any_number_of (codes "state") ∷ []) _ _ read (c.in_ok-next_line.ensures.left strings after (any_number_of (codes "variable") ∷ any_number_of (codes "property") ∷ any_number_of (codes "state") ∷ []) []) in
          let variables = c.in_ok-variables.ensures.left strings (any_number_of (codes "property") ∷ any_number_of (codes "state") ∷ after) table line.1 in
          let properties = c.in_ok-properties.ensures.left strings (any_number_of (codes "state") ∷ after) table variables.1 in
          let states = c.in_ok-states.ensures.left strings (after) table properties.1 in
          (line.0 ∙ variables.0 ∙ properties.0 ∙ states.0, states.1);
    }

pub returns-in_err-expect-clause-left : goal.returns-in_err-expect-clause-left
returns-in_err-expect-clause-left c = λ strings awaited n table good at few. absurd (both_ways _ c.in_err-expect.ensures.missing.0 at)

pub returns-in_err-next_line-clause-left : goal.returns-in_err-next_line-clause-left
returns-in_err-next_line-clause-left c = λ strings awaited n table good at few.
    let v = view c.args.listing.now in
    let after = Many (codes "object" ∷ []) (suc n) ∷ awaited in
    let read =
    part_open strings awaited n v (codes "object") good c.in_ok-expect.ensures.word few (object_form strings (unwrap_or v.fields []))
    ∙ c.spend.ensures.pays.left strings after (a_name strings (a_field size_rule (a_name strings (a_name strings (some_flags (a_name strings (done object_lines [])))))))
    ∙ (c.reference-name.ensures.tested strings table).left strings after (a_field size_rule (a_name strings (a_name strings (some_flags (a_name strings (done object_lines []))))))
    ∙ c.size_form-size_form.ensures.tested.left strings after (a_name strings (a_name strings (some_flags (a_name strings (done object_lines [])))))
    ∙ (c.reference-parent.ensures.tested strings table).left strings after (a_name strings (some_flags (a_name strings (done object_lines []))))
    ∙ (c.reference-doc.ensures.tested strings table).left strings after (some_flags (a_name strings (done object_lines [])))
    ∙ c.unsigned_32-flags.ensures.counted.left strings after (λ _. a_name strings (done object_lines []))
    ∙ (c.reference-auto_state.ensures.tested strings table).left strings after (done object_lines []) in
    read_err _ _ c.in_err-next_line.field-0.0 c.from_residual-in_err-next_line.result (search rules) read (c.in_err-next_line.ensures.left strings after (any_number_of (codes "variable") ∷ any_number_of (codes "property") ∷ any_number_of (codes "state") ∷ []) [])

pub returns-in_err-variables-clause-left : goal.returns-in_err-variables-clause-left
returns-in_err-variables-clause-left c = λ strings awaited n table good at few.
    let v = view c.args.listing.now in
    let after = Many (codes "object" ∷ []) (suc n) ∷ awaited in
    let read =
    part_open strings awaited n v (codes "object") good c.in_ok-expect.ensures.word few (object_form strings (unwrap_or v.fields []))
    ∙ c.spend.ensures.pays.left strings after (a_name strings (a_field size_rule (a_name strings (a_name strings (some_flags (a_name strings (done object_lines [])))))))
    ∙ (c.reference-name.ensures.tested strings table).left strings after (a_field size_rule (a_name strings (a_name strings (some_flags (a_name strings (done object_lines []))))))
    ∙ c.size_form-size_form.ensures.tested.left strings after (a_name strings (a_name strings (some_flags (a_name strings (done object_lines [])))))
    ∙ (c.reference-parent.ensures.tested strings table).left strings after (a_name strings (some_flags (a_name strings (done object_lines []))))
    ∙ (c.reference-doc.ensures.tested strings table).left strings after (some_flags (a_name strings (done object_lines [])))
    ∙ c.unsigned_32-flags.ensures.counted.left strings after (λ _. a_name strings (done object_lines []))
    ∙ (c.reference-auto_state.ensures.tested strings table).left strings after (done object_lines []) in
    let line = line_read strings after (any_number_of (codes "variable") ∷ any_number_of (codes "property") ∷ any_number_of (codes "state") ∷ []) _ _ read (c.in_ok-next_line.ensures.left strings after (any_number_of (codes "variable") ∷ any_number_of (codes "property") ∷ any_number_of (codes "state") ∷ []) []) in
    read_err _ _ c.in_err-variables.field-0.0 c.from_residual-in_err-variables.result (search rules) (line.0) (c.in_err-variables.ensures.left strings (any_number_of (codes "property") ∷ any_number_of (codes "state") ∷ after) table line.1)

pub returns-in_err-properties-clause-left : goal.returns-in_err-properties-clause-left
returns-in_err-properties-clause-left c = λ strings awaited n table good at few.
    let v = view c.args.listing.now in
    let after = Many (codes "object" ∷ []) (suc n) ∷ awaited in
    let read =
    part_open strings awaited n v (codes "object") good c.in_ok-expect.ensures.word few (object_form strings (unwrap_or v.fields []))
    ∙ c.spend.ensures.pays.left strings after (a_name strings (a_field size_rule (a_name strings (a_name strings (some_flags (a_name strings (done object_lines [])))))))
    ∙ (c.reference-name.ensures.tested strings table).left strings after (a_field size_rule (a_name strings (a_name strings (some_flags (a_name strings (done object_lines []))))))
    ∙ c.size_form-size_form.ensures.tested.left strings after (a_name strings (a_name strings (some_flags (a_name strings (done object_lines [])))))
    ∙ (c.reference-parent.ensures.tested strings table).left strings after (a_name strings (some_flags (a_name strings (done object_lines []))))
    ∙ (c.reference-doc.ensures.tested strings table).left strings after (some_flags (a_name strings (done object_lines [])))
    ∙ c.unsigned_32-flags.ensures.counted.left strings after (λ _. a_name strings (done object_lines []))
    ∙ (c.reference-auto_state.ensures.tested strings table).left strings after (done object_lines []) in
    let line = line_read strings after (any_number_of (codes "variable") ∷ any_number_of (codes "property") ∷ any_number_of (codes "state") ∷ []) _ _ read (c.in_ok-next_line.ensures.left strings after (any_number_of (codes "variable") ∷ any_number_of (codes "property") ∷ any_number_of (codes "state") ∷ []) []) in
    let variables = c.in_ok-variables.ensures.left strings (any_number_of (codes "property") ∷ any_number_of (codes "state") ∷ after) table line.1 in
    read_err _ _ c.in_err-properties.field-0.0 c.from_residual-in_err-properties.result (search rules) (line.0 ∙ variables.0) (c.in_err-properties.ensures.left strings (any_number_of (codes "state") ∷ after) table variables.1)

pub returns-in_err-states-clause-left : goal.returns-in_err-states-clause-left
returns-in_err-states-clause-left c = λ strings awaited n table good at few.
    let v = view c.args.listing.now in
    let after = Many (codes "object" ∷ []) (suc n) ∷ awaited in
    let read =
    part_open strings awaited n v (codes "object") good c.in_ok-expect.ensures.word few (object_form strings (unwrap_or v.fields []))
    ∙ c.spend.ensures.pays.left strings after (a_name strings (a_field size_rule (a_name strings (a_name strings (some_flags (a_name strings (done object_lines [])))))))
    ∙ (c.reference-name.ensures.tested strings table).left strings after (a_field size_rule (a_name strings (a_name strings (some_flags (a_name strings (done object_lines []))))))
    ∙ c.size_form-size_form.ensures.tested.left strings after (a_name strings (a_name strings (some_flags (a_name strings (done object_lines [])))))
    ∙ (c.reference-parent.ensures.tested strings table).left strings after (a_name strings (some_flags (a_name strings (done object_lines []))))
    ∙ (c.reference-doc.ensures.tested strings table).left strings after (some_flags (a_name strings (done object_lines [])))
    ∙ c.unsigned_32-flags.ensures.counted.left strings after (λ _. a_name strings (done object_lines []))
    ∙ (c.reference-auto_state.ensures.tested strings table).left strings after (done object_lines []) in
    let line = line_read strings after (any_number_of (codes "variable") ∷ any_number_of (codes "property") ∷ any_number_of (codes "state") ∷ []) _ _ read (c.in_ok-next_line.ensures.left strings after (any_number_of (codes "variable") ∷ any_number_of (codes "property") ∷ any_number_of (codes "state") ∷ []) []) in
    let variables = c.in_ok-variables.ensures.left strings (any_number_of (codes "property") ∷ any_number_of (codes "state") ∷ after) table line.1 in
    let properties = c.in_ok-properties.ensures.left strings (any_number_of (codes "state") ∷ after) table variables.1 in
    read_err _ _ c.in_err-states.field-0.0 c.from_residual-in_err-states.result (search rules) (line.0 ∙ variables.0 ∙ properties.0) (c.in_err-states.ensures.left strings (after) table properties.1)
