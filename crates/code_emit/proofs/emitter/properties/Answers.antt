use Rattle.std.proofs.Common.{ℕ, ◌+◌, List, [], ◌∷◌, ◌++◌, length, map, take, sym, subst}
use Rattle.std.specs.List.{AllByRecursion}
use Rattle.core_tree.specs.declared.script.CoreProperty.{CoreProperty}
use Rattle.core_tree.specs.Set.{property_of}
use Rattle.pex_values.specs.declared.values.PexProperty.{PexProperty}
use Rattle.pex_values.specs.Plain.{PlainLines, plain_property, plain_lines}
use Rattle.pex_values.specs.Shape.{IsShapedProperty}
use Rattle.code_emit.specs.Spelled.{EachWith, SpellsProperty}
use Rattle.code_emit.specs.Strings.{Origin, Table, origin_of}
use Rattle.code_emit.specs.Writing.{Notes}
use Rattle.code_emit.proofs.Goes.{more, goes_further}
use Rattle.code_emit.proofs.Later.{each_grown, property_later}
use Rattle.code_emit.proofs.Noting.{notes_then}
use Rattle.code_emit.proofs.Spelling.{views_with, property_on}
use Rattle.code_emit.proofs.emitter.properties.Goals as goal

pub loop-property-preserved : goal.loop-property-preserved
loop-property-preserved c =
    let from : Origin = origin_of c.args.source.now in
    let old : Table = c.loop-property.writer.strings in
    let new : Table = c.one_property.new.writer.strings in
    let goes = c.in_ok-one_property.ensures.goes in
    let found : List PexProperty = c.loop-property.found.items in
    let one : PexProperty = c.in_ok-one_property.field-0 in
    let items : List CoreProperty = c.args.properties.now in
    let at = c.loop-property.property-index in
    let a : List PlainLines = map plain_lines c.args.writer.now.debug.items in
    let b : List PlainLines = map plain_lines c.loop-property.writer.debug.items in
    let d : List PlainLines = map plain_lines c.one_property.new.writer.debug.items in
    let n = length old.strings in
    let m = length new.strings in
    let P : List PexProperty → Type 0 = λ xs. AllByRecursion (IsShapedProperty m) (map plain_property xs) in
    let Q : List PexProperty → Type 0 = λ xs. Notes m a d (EachWith (SpellsProperty from new) (map plain_property xs) (map property_of (take (at + 1) items))) in
    record {
      goes = goes_further c.args.writer.now.strings old new c.loop-property.invariant.goes goes;
      each = subst P (sym c.in_ok-push.ensures.items) (each_grown (IsShapedProperty n) (IsShapedProperty m) plain_property (property_later n m (more goes)) found one c.loop-property.invariant.each c.in_ok-one_property.ensures.property);
      spelled = subst Q (sym c.in_ok-push.ensures.items) (notes_then n m (more goes) a b d _ _ _ (λ es fs all is. views_with (SpellsProperty from old) (SpellsProperty from new) (property_on old new goes from) plain_property property_of found items at one c.property-item.result es fs c.loop-property-test.true c.property-item.is all is) c.loop-property.invariant.spelled c.in_ok-one_property.ensures.spelled);
    }
