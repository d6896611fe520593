use Rattle.std.proofs.Common.{List, [], ◌∷◌, length, map, refl, ap, ◌∙◌, arith, rules}
use Rattle.std.proofs.lemmas.List.{map-append}
use Rattle.pex_values.specs.declared.debug.PexLines.{PexLines}
use Rattle.pex_values.specs.Plain.{plain_lines}
use Rattle.code_emit.proofs.Goes.{more, goes_further}
use Rattle.code_emit.proofs.Later.{reference_later}
use Rattle.code_emit.proofs.Spelling.{reads_on}
use Rattle.code_emit.proofs.writer.Writer.note_lines.Goals as goal

pub returns-clause-notes : goal.returns-clause-notes
returns-clause-notes c =
    let n = length c.place_of-3.new.self.strings in
    let last = c.in_ok-function.ensures.goes in
    let both = goes_further _ _ _ c.in_ok-state.ensures.goes last in
    record {
      added = _;
      entries = ap (λ (es : List PexLines). map plain_lines es) c.in_ok-push.ensures.items ∙ map-append plain_lines _ _;
      shaped = (
        record {
          object = reference_later (length c.place_of.new.self.strings) n (more both) c.in_ok-object.object c.in_ok-object.ensures.place;
          state = reference_later (length c.place_of-2.new.self.strings) n (more last) c.in_ok-state.state c.in_ok-state.ensures.place;
          function = c.in_ok-function.ensures.place;
          kind = search rules;
          lines = c.requires;
        },
        tt,
      );
      are = (
        record {
          object = reads_on _ _ both c.in_ok-object.object _ c.in_ok-object.ensures.named;
          state = reads_on _ _ last c.in_ok-state.state _ c.in_ok-state.ensures.named;
          function = c.in_ok-function.ensures.named;
          kind = refl;
          lines_are = refl;
        },
        tt,
      );
    }
