use Rattle.std.proofs.Common.{arith, refl}
use Rattle.std.proofs.lemmas.Result.{err_from_is_err_and}
use Rattle.script_parser.proofs.Depth.{block-found, block-inside, blocks-onward}
use Rattle.script_parser.proofs.block.+statements.Goals as goal

pub closed_block-returns-else-is_closed-clause-fault : goal.closed_block-returns-else-is_closed-clause-fault
closed_block-returns-else-is_closed-clause-fault t c = c.bad_block.ensures c.args.reader.now.lines.now

pub if_parts-returns-in_default-clause-fault : goal.if_parts-returns-in_default-clause-fault
if_parts-returns-in_default-clause-fault t c = c.bad_block.ensures c.args.reader.now.lines.now

pub if_parts-if_part-requires-in-ElseIf : goal.if_parts-if_part-requires-in-ElseIf
if_parts-if_part-requires-in-ElseIf t c =
    (omega arith, blocks-onward c.args.reader.now c.parts.reader c.args.depth c.parts.invariant.onward c.requires)

pub if_parts-closed_block-requires : goal.if_parts-closed_block-requires
if_parts-closed_block-requires t c =
    (omega arith, blocks-onward c.args.reader.now c.parts.reader c.args.depth c.parts.invariant.onward c.requires)

pub statements-returns-in_err-inner_depth-in-If-clause-fault : goal.statements-returns-in_err-inner_depth-in-If-clause-fault
statements-returns-in_err-inner_depth-in-If-clause-fault t c =
    let before = c.lines.reader in
    let many = blocks-onward c.args.reader.now before c.args.depth c.lines.invariant.onward c.requires in
    let begins = c.in_ok-form.ensures.block (rw c.in-If.is refl) in
    let block = rw c.lines.invariant.onward.lines at (block-found before c.next_in_block.new.self c.in_ok-first.first c.args.depth c.in_ok-first.ensures.found begins many) in
    let told = err_from_is_err_and c.from_residual-in_err-inner_depth-in-If.result c.from_residual-in_err-inner_depth-in-If.ensures.1 in
    rw (told.1, told.2) (c.in_err-inner_depth-in-If.ensures.fault c.args.reader.now.lines.now block)

pub statements-if_block-requires : goal.statements-if_block-requires
statements-if_block-requires t c =
    let before = c.lines.reader in
    let many = blocks-onward c.args.reader.now before c.args.depth c.lines.invariant.onward c.requires in
    let begins = c.in_ok-form.ensures.block (rw c.in-If.is refl) in
    let inner = c.in_ok-inner_depth-in-If in
    (omega (arith, inner.ensures.inner), block-inside before c.next_in_block.new.self c.in_ok-first.first c.args.depth inner.field-0 c.in_ok-first.ensures.onward c.in_ok-first.ensures.found begins many inner.ensures.inner)

pub statements-returns-in_err-inner_depth-in-While-clause-fault : goal.statements-returns-in_err-inner_depth-in-While-clause-fault
statements-returns-in_err-inner_depth-in-While-clause-fault t c =
    let before = c.lines.reader in
    let many = blocks-onward c.args.reader.now before c.args.depth c.lines.invariant.onward c.requires in
    let begins = c.in_ok-form.ensures.block (rw c.in-While.is refl) in
    let block = rw c.lines.invariant.onward.lines at (block-found before c.next_in_block.new.self c.in_ok-first.first c.args.depth c.in_ok-first.ensures.found begins many) in
    let told = err_from_is_err_and c.from_residual-in_err-inner_depth-in-While.result c.from_residual-in_err-inner_depth-in-While.ensures.1 in
    rw (told.1, told.2) (c.in_err-inner_depth-in-While.ensures.fault c.args.reader.now.lines.now block)

pub statements-while_block-requires : goal.statements-while_block-requires
statements-while_block-requires t c =
    let before = c.lines.reader in
    let many = blocks-onward c.args.reader.now before c.args.depth c.lines.invariant.onward c.requires in
    let begins = c.in_ok-form.ensures.block (rw c.in-While.is refl) in
    let inner = c.in_ok-inner_depth-in-While in
    (omega (arith, inner.ensures.inner), block-inside before c.next_in_block.new.self c.in_ok-first.first c.args.depth inner.field-0 c.in_ok-first.ensures.onward c.in_ok-first.ensures.found begins many inner.ensures.inner)
