use Rattle.std.proofs.Common.{length, ◌≡◌, ℕ, Bool, List, [], ◌++◌, map, Option, Some, None, refl, sym, ap, ◌∙◌, subst, arith, rules}
use Rattle.std.specs.Prelude.{is_some, option_map}
use Rattle.core_tree.specs.declared.script.CoreAccess.{CoreAccess}
use Rattle.core_tree.specs.Set.{access_of, function_of_option, property_of}
use Rattle.pex_values.specs.Plain.{PlainLines, PlainProperty, plain_function, plain_lines}
use Rattle.code_emit.specs.Spelled.{Part, SpellsAccess, SpellsAccessor, SpellsFull, SpellsProperty, accessor_bits, part_of}
use Rattle.code_emit.specs.Strings.{Origin, Table, origin_of}
use Rattle.code_emit.specs.Writing.{GoesOn, Notes}
use Rattle.code_emit.proofs.Goes.{more, goes_further}
use Rattle.code_emit.proofs.Later.{accessor_later, reference_later}
use Rattle.code_emit.proofs.Noting.{notes_none, notes_then, notes_changed}
use Rattle.code_emit.proofs.Spelling.{accessor_on, accessor_some, reads_on, type_on}
use Rattle.code_emit.proofs.emitter.one_property.Goals as goal

is_some_map : {A B : Type 0} (f : A → B) (o : Option A) → is_some (option_map f o) ≡ is_some o
is_some_map f None = refl
is_some_map f (Some x) = refl

pub returns-in_ok-variable-in-Auto-clause-property : goal.returns-in_ok-variable-in-Auto-clause-property
returns-in_ok-variable-in-Auto-clause-property c =
    let n = length c.numbered-in-Auto.new.self.strings in
    let second = more c.in_ok-kind.ensures.goes in
    let third = more c.in_ok-doc.ensures.goes in
    let last = more c.in_ok-variable-in-Auto.ensures.goes in
    record {
      name = reference_later (length c.place_of.new.self.strings) n (omega arith) c.in_ok-name.name c.in_ok-name.ensures.place;
      kind = reference_later (length c.numbered.new.self.strings) n (omega arith) c.in_ok-kind.kind c.in_ok-kind.ensures.place;
      doc = reference_later (length c.text.new.self.strings) n last c.in_ok-doc.doc c.in_ok-doc.ensures.place;
      flags = c.flag_bits.ensures.within;
      bits = omega arith;
      has_variable = refl;
      has_read = refl;
      has_write = refl;
      variable = c.in_ok-variable-in-Auto.ensures.place;
      read = tt;
      write = tt;
    }

pub returns-in_ok-variable-in-Auto-clause-spelled : goal.returns-in_ok-variable-in-Auto-clause-spelled
returns-in_ok-variable-in-Auto-clause-spelled c =
    let new : Table = c.numbered-in-Auto.new.self in
    let last = c.in_ok-variable-in-Auto.ensures.goes in
    let third = goes_further _ _ _ c.in_ok-doc.ensures.goes last in
    let second = goes_further _ _ _ c.in_ok-kind.ensures.goes third in
    let p : PlainProperty = record { name = c.in_ok-name.name; kind = c.in_ok-kind.kind; doc = c.in_ok-doc.doc; flags = c.flag_bits.result; bits = 7; variable = Some c.in_ok-variable-in-Auto.variable; read = None; write = None } in
    let Access : CoreAccess → Type 0 = λ a. SpellsAccess (origin_of c.args.source.now) new p c.args.property.now.name (access_of a) [] in
    notes_none (length new.strings) (map plain_lines c.args.writer.now.debug.items) _ (record {
      name = reads_on _ new second c.in_ok-name.name _ (rw c.as_bytes.ensures at c.in_ok-name.ensures.named);
      kind = type_on _ new third c.in_ok-kind.kind (Some c.args.property.now.kind) c.in_ok-kind.ensures.named;
      doc = reads_on _ new last c.in_ok-doc.doc _ c.in_ok-doc.ensures.named;
      flags = c.flag_bits.ensures.value;
      access = subst Access (sym c.in-Auto.is) (record {
        reference = c.in_ok-variable-in-Auto.variable;
        variable_is = refl;
        names = c.in_ok-variable-in-Auto.ensures.named;
        bits = refl;
        read = refl;
        write = refl;
        none = refl;
      });
    })

pub returns-in_ok-write-in-Full-clause-property : goal.returns-in_ok-write-in-Full-clause-property
returns-in_ok-write-in-Full-clause-property c =
    let n = length c.accessor-in-Full.new.writer.strings.strings in
    let second = more c.in_ok-kind.ensures.goes in
    let third = more c.in_ok-doc.ensures.goes in
    let fourth = more c.in_ok-read-in-Full.ensures.goes in
    let last = more c.in_ok-write-in-Full.ensures.goes in
    record {
      name = reference_later (length c.place_of.new.self.strings) n (omega arith) c.in_ok-name.name c.in_ok-name.ensures.place;
      kind = reference_later (length c.numbered.new.self.strings) n (omega arith) c.in_ok-kind.kind c.in_ok-kind.ensures.place;
      doc = reference_later (length c.text.new.self.strings) n (omega arith) c.in_ok-doc.doc c.in_ok-doc.ensures.place;
      flags = c.flag_bits-in-Full.ensures.within;
      bits = search rules;
      has_variable = sym c.accessor_bits.ensures.variable;
      has_read = is_some_map plain_function c.in_ok-read-in-Full.read ∙ sym c.is_some.ensures ∙ sym c.accessor_bits.ensures.read;
      has_write = is_some_map plain_function c.in_ok-write-in-Full.write ∙ sym c.is_some-in-Full.ensures ∙ sym c.accessor_bits.ensures.write;
      variable = tt;
      read = accessor_later (length c.accessor.new.writer.strings.strings) n last (option_map plain_function c.in_ok-read-in-Full.read) c.in_ok-read-in-Full.ensures.accessor;
      write = c.in_ok-write-in-Full.ensures.accessor;
    }

pub returns-in_ok-write-in-Full-clause-spelled : goal.returns-in_ok-write-in-Full-clause-spelled
returns-in_ok-write-in-Full-clause-spelled c =
    let from : Origin = origin_of c.args.source.now in
    let mid : Table = c.accessor.new.writer.strings in
    let new : Table = c.accessor-in-Full.new.writer.strings in
    let last = c.in_ok-write-in-Full.ensures.goes in
    let fourth = goes_further _ mid new c.in_ok-read-in-Full.ensures.goes last in
    let third = goes_further _ _ _ c.in_ok-doc.ensures.goes fourth in
    let second = goes_further _ _ _ c.in_ok-kind.ensures.goes third in
    let name = c.args.property.now.name in
    let read = option_map plain_function c.in_ok-read-in-Full.read in
    let write = option_map plain_function c.in_ok-write-in-Full.write in
    let p : PlainProperty = record { name = c.in_ok-name.name; kind = c.in_ok-kind.kind; doc = c.in_ok-doc.doc; flags = c.flag_bits-in-Full.result; bits = c.accessor_bits.result; variable = None; read = read; write = write } in
    let Access : List PlainLines → CoreAccess → Type 0 = λ es a. SpellsAccess from new p name (access_of a) es in
    notes_then (length mid.strings) (length new.strings) (more last) (map plain_lines c.args.writer.now.debug.items) (map plain_lines c.accessor.new.writer.debug.items) (map plain_lines c.accessor-in-Full.new.writer.debug.items) _ _ _ (λ es fs first second_is. record {
      name = reads_on _ new second c.in_ok-name.name _ (rw c.as_bytes.ensures at c.in_ok-name.ensures.named);
      kind = type_on _ new third c.in_ok-kind.kind (Some c.args.property.now.kind) c.in_ok-kind.ensures.named;
      doc = reads_on _ new fourth c.in_ok-doc.doc _ c.in_ok-doc.ensures.named;
      flags = c.flag_bits-in-Full.ensures.value;
      access = subst (Access (es ++ fs)) (sym c.in-Full.is) (record {
        first = es;
        second = fs;
        both = refl;
        variable = refl;
        bits =
            let reads : c.is_some.result ≡ is_some (function_of_option c.in-Full.read) = c.is_some.ensures ∙ sym (is_some_map plain_function c.in_ok-read-in-Full.read) ∙ accessor_some from mid _ read _ es first in
            let writes : c.is_some-in-Full.result ≡ is_some (function_of_option c.in-Full.write) = c.is_some-in-Full.ensures ∙ sym (is_some_map plain_function c.in_ok-write-in-Full.write) ∙ accessor_some from new _ write _ fs second_is in
            c.accessor_bits.ensures.value ∙ ap (λ (b : Bool). accessor_bits b c.is_some-in-Full.result) reads ∙ ap (λ (b : Bool). accessor_bits (is_some (function_of_option c.in-Full.read)) b) writes;
        read_is = accessor_on mid new last from _ read _ es first;
        write_is = second_is;
      });
    }) c.in_ok-read-in-Full.ensures.spelled c.in_ok-write-in-Full.ensures.spelled
