-- A call goes on to the statements of a block; each turn of a loop takes a line.
use Rattle.std.proofs.Common.{◌+◌, ◌*◌, ◌<◌, ◌≤◌}
use Rattle.script_parser.specs.Reader.{GoesOn, left}
use Rattle.script_parser.proofs.block.+statements.Given as goal

abbrev pub decreases-statements : goal.decreases-statements
decreases-statements l = 4 * l.depth

abbrev pub decreases-closed_block : goal.decreases-closed_block
decreases-closed_block l = 4 * l.depth + 1

abbrev pub decreases-if_part : goal.decreases-if_part
decreases-if_part l = 4 * l.depth + 1

abbrev pub decreases-if_parts : goal.decreases-if_parts
decreases-if_parts l = 4 * l.depth + 2

abbrev pub decreases-if_block : goal.decreases-if_block
decreases-if_block l = 4 * l.depth + 3

abbrev pub decreases-while_block : goal.decreases-while_block
decreases-while_block l = 4 * l.depth + 2

abbrev pub invariant-statements-lines : goal.invariant-statements-lines
invariant-statements-lines l = record { bound : left l.reader ≤ left l.fn.reader; onward : GoesOn l.fn.reader l.reader }

abbrev pub decreases-statements-lines : goal.decreases-statements-lines
decreases-statements-lines l = left l.reader

abbrev pub invariant-if_parts-parts : goal.invariant-if_parts-parts
invariant-if_parts-parts l = record { nearer : left l.reader < left l.fn.reader; onward : GoesOn l.fn.reader l.reader }

abbrev pub decreases-if_parts-parts : goal.decreases-if_parts-parts
decreases-if_parts-parts l = left l.reader
