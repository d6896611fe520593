use Rattle.std.proofs.Common.{ℕ, List, refl, arith}
use Rattle.std.specs.Borrow.{Bor}
use Rattle.pex_codec.specs.Opening.{debug_count_at, fixed_at, state_count_at}
use Rattle.pex_codec.specs.Reading.{number_at, reference_at, string_at, datum_at, pair_at, instruction_at, function_head_at, state_at, variable_at, property_head_at, property_at, object_head_at, object_at, lines_head_at, flag_at, heading_at}
use Rattle.pex_codec.specs.declared.scan.Part.TheVariants as part
use Rattle.pex_codec.proofs.FirstFields.{opens_as, whole_opens}
use Rattle.pex_codec.proofs.Moves.{heading_moves, string_moves, number_on, debug_count_moves, lines_head_moves, flag_moves, object_head_moves, variable_moves, property_head_moves, state_count_moves, reference_moves, function_head_moves, pair_moves, fixed_moves, datum_moves}
use Rattle.pex_codec.proofs.Opens.{strings_open, debug_opens, lines_open, list_opens, object_opens, property_opens, state_opens, named_opens, function_opens, instruction_opens}
use Rattle.pex_codec.proofs.Stable.{heading_stable, string_stable, number_stable, lines_head_stable, flag_stable, object_head_stable, variable_stable, property_head_stable, reference_stable, function_head_stable, pair_stable, datum_stable}
use Rattle.pex_codec.proofs.StableFields.{debug_count_stable, fixed_stable, state_count_stable}
use Rattle.pex_codec.proofs.scan.open.Goals as goal

pub returns-in-Heading : goal.returns-in-Heading
returns-in-Heading c =
    opens_as (λ x. x) part.Heading c.args.strings (heading_at) _ c.heading.result _ _ c.then.result c.args.cursor.now c.heading.new.self c.args.part c.in-Heading.is (heading_stable) (λ at bytes. whole_opens c.args.strings (heading_at at bytes))
    (heading_moves c.args.cursor.now.at c.args.cursor.now.rest.now) (λ x at bytes. refl) c.heading.ensures c.then.ensures

pub returns-in-Text : goal.returns-in-Text
returns-in-Text c =
    opens_as (λ (b : Bor (List ℕ)). b.now) part.Text c.args.strings (string_at) _ c.string.result _ _ c.then-in-Text.result c.args.cursor.now c.string.new.self c.args.part c.in-Text.is (string_stable) (λ at bytes. whole_opens c.args.strings (string_at at bytes))
    (string_moves c.args.cursor.now.at c.args.cursor.now.rest.now) (λ x at bytes. refl) c.string.ensures c.then-in-Text.ensures

pub returns-in-Strings : goal.returns-in-Strings
returns-in-Strings c =
    opens_as (λ x. x) part.Strings c.args.strings (number_at 2) _ c.u16.result _ _ c.string_table.result c.args.cursor.now c.u16.new.self c.args.part c.in-Strings.is (number_stable 2) (strings_open c.args.strings)
    (number_on 2 c.args.cursor.now.at c.args.cursor.now.rest.now (omega arith)) (λ x at bytes. refl) c.u16.ensures c.string_table.ensures

pub returns-in-Debug : goal.returns-in-Debug
returns-in-Debug c =
    opens_as (λ x. x) part.Debug c.args.strings (debug_count_at) _ c.debug_count.result _ _ c.list.result c.args.cursor.now c.debug_count.new.cursor c.args.part c.in-Debug.is (debug_count_stable) (debug_opens c.args.strings)
    (debug_count_moves c.args.cursor.now.at c.args.cursor.now.rest.now) (λ x at bytes. refl) c.debug_count.ensures c.list.ensures

pub returns-in-Lines : goal.returns-in-Lines
returns-in-Lines c =
    opens_as (λ x. x) part.Lines c.args.strings (lines_head_at c.args.strings) _ c.lines_head.result _ _ c.lines.result c.args.cursor.now c.lines_head.new.self c.args.part c.in-Lines.is (lines_head_stable c.args.strings) (lines_open c.args.strings)
    (lines_head_moves c.args.strings c.args.cursor.now.at c.args.cursor.now.rest.now) (λ x at bytes. refl) c.lines_head.ensures c.lines.ensures

pub returns-in-Line : goal.returns-in-Line
returns-in-Line c =
    opens_as (λ x. x) part.Line c.args.strings (number_at 2) _ c.u16-in-Line.result _ _ c.then-in-Line.result c.args.cursor.now c.u16-in-Line.new.self c.args.part c.in-Line.is (number_stable 2) (λ at bytes. whole_opens c.args.strings (number_at 2 at bytes))
    (number_on 2 c.args.cursor.now.at c.args.cursor.now.rest.now (omega arith)) (λ x at bytes. refl) c.u16-in-Line.ensures c.then-in-Line.ensures

pub returns-in-Flags : goal.returns-in-Flags
returns-in-Flags c =
    opens_as (λ x. x) part.Flags c.args.strings (number_at 2) _ c.u16-in-Flags.result _ _ c.list-in-Flags.result c.args.cursor.now c.u16-in-Flags.new.self c.args.part c.in-Flags.is (number_stable 2) (list_opens part.Flag c.args.strings (flag_at c.args.strings) (λ at bytes. refl))
    (number_on 2 c.args.cursor.now.at c.args.cursor.now.rest.now (omega arith)) (λ x at bytes. refl) c.u16-in-Flags.ensures c.list-in-Flags.ensures

pub returns-in-Flag : goal.returns-in-Flag
returns-in-Flag c =
    opens_as (λ x. x) part.Flag c.args.strings (flag_at c.args.strings) _ c.flag.result _ _ c.then-in-Flag.result c.args.cursor.now c.flag.new.self c.args.part c.in-Flag.is (flag_stable c.args.strings) (λ at bytes. whole_opens c.args.strings (flag_at c.args.strings at bytes))
    (flag_moves c.args.strings c.args.cursor.now.at c.args.cursor.now.rest.now) (λ x at bytes. refl) c.flag.ensures c.then-in-Flag.ensures

pub returns-in-Objects : goal.returns-in-Objects
returns-in-Objects c =
    opens_as (λ x. x) part.Objects c.args.strings (number_at 2) _ c.u16-in-Objects.result _ _ c.list-in-Objects.result c.args.cursor.now c.u16-in-Objects.new.self c.args.part c.in-Objects.is (number_stable 2) (list_opens part.Object c.args.strings (object_at c.args.strings) (λ at bytes. refl))
    (number_on 2 c.args.cursor.now.at c.args.cursor.now.rest.now (omega arith)) (λ x at bytes. refl) c.u16-in-Objects.ensures c.list-in-Objects.ensures

pub returns-in-Object : goal.returns-in-Object
returns-in-Object c =
    opens_as (λ x. x) part.Object c.args.strings (object_head_at c.args.strings) _ c.object_head.result _ _ c.object.result c.args.cursor.now c.object_head.new.self c.args.part c.in-Object.is (object_head_stable c.args.strings) (object_opens c.args.strings)
    (object_head_moves c.args.strings c.args.cursor.now.at c.args.cursor.now.rest.now) (λ x at bytes. refl) c.object_head.ensures c.object.ensures

pub returns-in-Variable : goal.returns-in-Variable
returns-in-Variable c =
    opens_as (λ x. x) part.Variable c.args.strings (variable_at c.args.strings) _ c.variable.result _ _ c.then-in-Variable.result c.args.cursor.now c.variable.new.self c.args.part c.in-Variable.is (variable_stable c.args.strings) (λ at bytes. whole_opens c.args.strings (variable_at c.args.strings at bytes))
    (variable_moves c.args.strings c.args.cursor.now.at c.args.cursor.now.rest.now) (λ x at bytes. refl) c.variable.ensures c.then-in-Variable.ensures

pub returns-in-Properties : goal.returns-in-Properties
returns-in-Properties c =
    opens_as (λ x. x) part.Properties c.args.strings (number_at 2) _ c.u16-in-Properties.result _ _ c.list-in-Properties.result c.args.cursor.now c.u16-in-Properties.new.self c.args.part c.in-Properties.is (number_stable 2) (list_opens part.Property c.args.strings (property_at c.args.strings) (λ at bytes. refl))
    (number_on 2 c.args.cursor.now.at c.args.cursor.now.rest.now (omega arith)) (λ x at bytes. refl) c.u16-in-Properties.ensures c.list-in-Properties.ensures

pub returns-in-Property : goal.returns-in-Property
returns-in-Property c =
    opens_as (λ x. x) part.Property c.args.strings (property_head_at c.args.strings) _ c.property_head.result _ _ c.property.result c.args.cursor.now c.property_head.new.self c.args.part c.in-Property.is (property_head_stable c.args.strings) (property_opens c.args.strings)
    (property_head_moves c.args.strings c.args.cursor.now.at c.args.cursor.now.rest.now) (λ x at bytes. refl) c.property_head.ensures c.property.ensures

pub returns-in-States : goal.returns-in-States
returns-in-States c =
    opens_as (λ x. x) part.States c.args.strings (number_at 2) _ c.u16-in-States.result _ _ c.list-in-States.result c.args.cursor.now c.u16-in-States.new.self c.args.part c.in-States.is (number_stable 2) (list_opens part.State c.args.strings (state_at c.args.strings) (λ at bytes. refl))
    (number_on 2 c.args.cursor.now.at c.args.cursor.now.rest.now (omega arith)) (λ x at bytes. refl) c.u16-in-States.ensures c.list-in-States.ensures

pub returns-in-State : goal.returns-in-State
returns-in-State c =
    opens_as (λ x. x) part.State c.args.strings (state_count_at c.args.strings) _ c.state_count.result _ _ c.list-in-State.result c.args.cursor.now c.state_count.new.cursor c.args.part c.in-State.is (state_count_stable c.args.strings) (state_opens c.args.strings)
    (state_count_moves c.args.strings c.args.cursor.now.at c.args.cursor.now.rest.now) (λ x at bytes. refl) c.state_count.ensures c.list-in-State.ensures

pub returns-in-Named : goal.returns-in-Named
returns-in-Named c =
    opens_as (λ x. x) part.Named c.args.strings (reference_at c.args.strings) _ c.reference.result _ _ c.then-in-Named.result c.args.cursor.now c.reference.new.self c.args.part c.in-Named.is (reference_stable c.args.strings) (named_opens c.args.strings)
    (reference_moves c.args.strings c.args.cursor.now.at c.args.cursor.now.rest.now) (λ x at bytes. cc) c.reference.ensures c.then-in-Named.ensures

pub returns-in-Function : goal.returns-in-Function
returns-in-Function c =
    opens_as (λ x. x) part.Function c.args.strings (function_head_at c.args.strings) _ c.function_head.result _ _ c.function.result c.args.cursor.now c.function_head.new.self c.args.part c.in-Function.is (function_head_stable c.args.strings) (function_opens c.args.strings)
    (function_head_moves c.args.strings c.args.cursor.now.at c.args.cursor.now.rest.now) (λ x at bytes. refl) c.function_head.ensures c.function.ensures

pub returns-in-Pairs : goal.returns-in-Pairs
returns-in-Pairs c =
    opens_as (λ x. x) part.Pairs c.args.strings (number_at 2) _ c.u16-in-Pairs.result _ _ c.list-in-Pairs.result c.args.cursor.now c.u16-in-Pairs.new.self c.args.part c.in-Pairs.is (number_stable 2) (list_opens part.Pair c.args.strings (pair_at c.args.strings) (λ at bytes. refl))
    (number_on 2 c.args.cursor.now.at c.args.cursor.now.rest.now (omega arith)) (λ x at bytes. refl) c.u16-in-Pairs.ensures c.list-in-Pairs.ensures

pub returns-in-Pair : goal.returns-in-Pair
returns-in-Pair c =
    opens_as (λ x. x) part.Pair c.args.strings (pair_at c.args.strings) _ c.pair.result _ _ c.then-in-Pair.result c.args.cursor.now c.pair.new.self c.args.part c.in-Pair.is (pair_stable c.args.strings) (λ at bytes. whole_opens c.args.strings (pair_at c.args.strings at bytes))
    (pair_moves c.args.strings c.args.cursor.now.at c.args.cursor.now.rest.now) (λ x at bytes. refl) c.pair.ensures c.then-in-Pair.ensures

pub returns-in-Code : goal.returns-in-Code
returns-in-Code c =
    opens_as (λ x. x) part.Code c.args.strings (number_at 2) _ c.u16-in-Code.result _ _ c.list-in-Code.result c.args.cursor.now c.u16-in-Code.new.self c.args.part c.in-Code.is (number_stable 2) (list_opens part.Instruction c.args.strings (instruction_at c.args.strings) (λ at bytes. refl))
    (number_on 2 c.args.cursor.now.at c.args.cursor.now.rest.now (omega arith)) (λ x at bytes. refl) c.u16-in-Code.ensures c.list-in-Code.ensures

pub returns-in-Instruction : goal.returns-in-Instruction
returns-in-Instruction c =
    opens_as (λ x. x) part.Instruction c.args.strings (fixed_at c.args.strings) _ c.fixed.result _ _ c.row.result c.args.cursor.now c.fixed.new.self c.args.part c.in-Instruction.is (fixed_stable c.args.strings) (instruction_opens c.args.strings)
    (fixed_moves c.args.strings c.args.cursor.now.at c.args.cursor.now.rest.now) (λ x at bytes. refl) c.fixed.ensures c.row.ensures

pub returns-in-Operand : goal.returns-in-Operand
returns-in-Operand c =
    opens_as (λ x. x) part.Operand c.args.strings (datum_at c.args.strings) _ c.datum.result _ _ c.then-in-Operand.result c.args.cursor.now c.datum.new.self c.args.part c.in-Operand.is (datum_stable c.args.strings) (λ at bytes. whole_opens c.args.strings (datum_at c.args.strings at bytes))
    (datum_moves c.args.strings c.args.cursor.now.at c.args.cursor.now.rest.now) (λ x at bytes. refl) c.datum.ensures c.then-in-Operand.ensures
