use Rattle.std.proofs.Common.{length-append, arith}
use Rattle.papy_base.specs.declared.name_table.NameTable.{NameTable}
use Rattle.script_linker.specs.declared.set.SourceFile.{SourceFile}
use Rattle.script_linker.specs.Lookup.{function_name, property_name}
use Rattle.papy_base.specs.Table.{IsPlaceTable}
use Rattle.script_linker.proofs.Growing.{each-push}
use Rattle.script_linker.proofs.scripts.tables.Goals as goal

HasFunctions : SourceFile → NameTable → Type 0
HasFunctions file table = IsPlaceTable function_name file.script.functions.items table

HasProperties : SourceFile → NameTable → Type 0
HasProperties file table = IsPlaceTable property_name file.script.properties.items table

pub loop-file-preserved : goal.loop-file-preserved
unfolding HasFunctions HasProperties
loop-file-preserved c =
    let before = c.loop-file.invariant in
    let files = c.args.files.now in
    let index = c.loop-file.file-index in
    record {
      function_count = rw c.in_ok-push.ensures.items (simp length-append (omega (arith, before.function_count)));
      property_count = rw c.in_ok-push-2.ensures.items (simp length-append (omega (arith, before.property_count)));
      functions = rw c.in_ok-push.ensures.items (each-push HasFunctions files c.loop-file.functions.items index c.file-item.result c.in_ok-of_places.field-0 before.function_count c.loop-file-test.true c.file-item.is (rw c.as_slice.ensures.value at c.in_ok-of_places.ensures) before.functions);
      properties = rw c.in_ok-push-2.ensures.items (each-push HasProperties files c.loop-file.properties.items index c.file-item.result c.in_ok-of_places-2.field-0 before.property_count c.loop-file-test.true c.file-item.is (rw c.as_slice-in-loop-file.ensures.value at c.in_ok-of_places-2.ensures) before.properties);
    }
