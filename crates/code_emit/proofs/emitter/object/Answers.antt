use Rattle.std.proofs.Common.{ℕ, List, length, map, refl, sym, subst, ◌∙◌, arith}
use Rattle.core_tree.specs.declared.script.CoreProperty.{CoreProperty}
use Rattle.core_tree.specs.declared.script.CoreState.{CoreState}
use Rattle.core_tree.specs.declared.script.CoreVariable.{CoreVariable}
use Rattle.core_tree.specs.Set.{property_of, state_of, script_of}
use Rattle.pex_values.specs.Plain.{PlainLines, plain_lines, plain_object, plain_property, plain_state}
use Rattle.pex_values.specs.Shape.{IsShapedVariable, IsShapedProperty}
use Rattle.code_emit.specs.Spelled.{Each, EachWith, SpellsObject, SpellsProperty, SpellsState, SpellsVariable, parent_name}
use Rattle.code_emit.specs.Strings.{Home, Origin, Table, ReadsName, origin_of}
use Rattle.code_emit.specs.Writing.{GoesOn, Notes}
use Rattle.code_emit.proofs.Goes.{more, goes_further}
use Rattle.code_emit.proofs.Later.{reference_later, variable_later, property_later, all_later}
use Rattle.code_emit.proofs.Noting.{notes_then}
use Rattle.code_emit.proofs.Spelling.{each_later, with_later, parent_on, property_on, reads_on, variable_on}
use Rattle.code_emit.proofs.emitter.object.Goals as goal

pub returns-clause-object : goal.returns-clause-object
returns-clause-object c =
    let p1 = length c.place_of.new.self.strings in
    let p2 = length c.parent.new.strings.strings in
    let p3 = length c.text.new.self.strings in
    let p4 = length c.auto_state.new.strings.strings in
    let p5 = length c.variables.new.strings.strings in
    let p6 = length c.properties.new.writer.strings.strings in
    let n = length c.states.new.writer.strings.strings in
    let s2 = more c.in_ok-parent.ensures.goes in
    let s3 = more c.in_ok-doc.ensures.goes in
    let s4 = more c.in_ok-auto_state.ensures.goes in
    let s5 = more c.in_ok-variables.ensures.goes in
    let s6 = more c.in_ok-properties.ensures.goes in
    let s7 = more c.in_ok-states.ensures.goes in
    record {
      name = reference_later p1 n (omega arith) c.in_ok-name.name c.in_ok-name.ensures.place;
      parent = reference_later p2 n (omega arith) c.in_ok-parent.parent c.in_ok-parent.ensures.place;
      doc = reference_later p3 n (omega arith) c.in_ok-doc.doc c.in_ok-doc.ensures.place;
      flags = c.flag_bits.ensures.within;
      auto_state = reference_later p4 n (omega arith) c.in_ok-auto_state.auto_state c.in_ok-auto_state.ensures.place;
      variables = all_later (IsShapedVariable p5) (IsShapedVariable n) (variable_later p5 n (omega arith)) c.in_ok-variables.variables.items c.in_ok-variables.ensures.variables;
      properties = all_later (IsShapedProperty p6) (IsShapedProperty n) (property_later p6 n (omega arith)) (map plain_property c.in_ok-properties.properties.items) c.in_ok-properties.ensures.properties;
      states = c.in_ok-states.ensures.states;
    }

pub returns-clause-spelled : goal.returns-clause-spelled
returns-clause-spelled c =
    let from : Origin = origin_of c.args.source.now in
    let script = c.args.source.now.script.now in
    let t1 : Table = c.place_of.new.self in
    let t2 : Table = c.parent.new.strings in
    let t3 : Table = c.text.new.self in
    let t4 : Table = c.auto_state.new.strings in
    let t5 : Table = c.variables.new.strings in
    let t6 : Table = c.properties.new.writer.strings in
    let t7 : Table = c.states.new.writer.strings in
    let g7 : GoesOn t6 t7 = c.in_ok-states.ensures.goes in
    let g6 : GoesOn t5 t7 = goes_further t5 t6 t7 c.in_ok-properties.ensures.goes g7 in
    let g5 : GoesOn t4 t7 = goes_further t4 t5 t7 c.in_ok-variables.ensures.goes g6 in
    let g4 : GoesOn t3 t7 = goes_further t3 t4 t7 c.in_ok-auto_state.ensures.goes g5 in
    let g3 : GoesOn t2 t7 = goes_further t2 t3 t7 c.in_ok-doc.ensures.goes g4 in
    let g2 : GoesOn t1 t7 = goes_further t1 t2 t7 c.in_ok-parent.ensures.goes g3 in
    let home = c.in_ok-parent.ensures.goes.home ∙ c.in_ok-name.ensures.goes.home ∙ c.requires in
    let variables = c.in_ok-variables.variables.items in
    let properties = map plain_property c.in_ok-properties.properties.items in
    let states = map plain_state c.in_ok-states.states.items in
    let a : List PlainLines = map plain_lines c.args.writer.now.debug.items in
    let b : List PlainLines = map plain_lines c.properties.new.writer.debug.items in
    let d : List PlainLines = map plain_lines c.states.new.writer.debug.items in
    let Properties : List CoreProperty → List PlainLines → Type 0 = λ ps es. EachWith (SpellsProperty from t6) properties (map property_of ps) es in
    let States : List CoreState → List PlainLines → Type 0 = λ ss es. EachWith (SpellsState from t7) states (map state_of ss) es in
    let first : Notes (length t6.strings) a b (Properties script.properties.items) = subst (λ (ps : List CoreProperty). Notes (length t6.strings) a b (Properties ps)) c.deref-2.ensures.value c.in_ok-properties.ensures.spelled in
    let second : Notes (length t7.strings) b d (States script.states.items) = subst (λ (ss : List CoreState). Notes (length t7.strings) b d (States ss)) c.deref-3.ensures.value c.in_ok-states.ensures.spelled in
    notes_then (length t6.strings) (length t7.strings) (more g7) a b d (Properties script.properties.items) (States script.states.items) _ (λ es fs of_properties of_states. record {
      name = reads_on t1 t7 g2 c.in_ok-name.name script.name (rw c.as_bytes.ensures at c.in_ok-name.ensures.named);
      parent = parent_on t2 t7 g3 c.in_ok-parent.parent script.parent (subst (λ (h : Home). ReadsName t2.strings c.in_ok-parent.parent (parent_name h.scripts script.parent)) (sym home) c.in_ok-parent.ensures.named);
      doc = reads_on t3 t7 g4 c.in_ok-doc.doc _ c.in_ok-doc.ensures.named;
      flags = c.flag_bits.ensures.value;
      auto_state = reads_on t4 t7 g5 c.in_ok-auto_state.auto_state _ c.in_ok-auto_state.ensures.named;
      variables = each_later (SpellsVariable t5) (SpellsVariable t7) (variable_on t5 t7 g6) variables script.variables.items (subst (λ (vs : List CoreVariable). Each (SpellsVariable t5) variables vs) c.deref.ensures.value c.in_ok-variables.ensures.spelled);
      of_properties = es;
      of_states = fs;
      both = refl;
      properties = with_later (SpellsProperty from t6) (SpellsProperty from t7) (property_on t6 t7 g7 from) properties (map property_of script.properties.items) es of_properties;
      states = of_states;
    }) first second
