-- What a run prints: the lines of its stacks, and then how the last world stands.
use Rattle.std.specs.Prelude.{ℕ, ◌==◌, if◌then◌else◌, List, [], ◌∷◌, ◌++◌, map, flat_map, reverse, codes, Option, Some, None}
use Rattle.std.specs.List.{list_any, range_with_len}
use Rattle.std.specs.Prelude.{decimal, slice_get}
use Rattle.core_tree.specs.declared.outline.OutlineProperty.{OutlineProperty}
use Rattle.core_tree.specs.declared.value.Value.{Value}
use Rattle.core_tree.specs.declared.value.Value.TheVariants as values
use Rattle.core_tree.specs.Outlines.{ScriptShape}
use Rattle.papy_base.specs.ReportWords.{escaped, fault_name}
use Rattle.script_meaning.specs.Arrays.{items_of}
use Rattle.script_meaning.specs.Locks.{is_ready, waited_for}
use Rattle.script_meaning.specs.Values.{lineage, script_name, written}
use Rattle.script_meaning.specs.World.{World, Instance, title, Line, Traced, Faulted, instance_at, variable_of}

-- ---- the lines of stacks
abbrev pub line_text : Line → List ℕ
line_text (Traced stack text) = codes "#" ++ decimal stack ++ codes " " ++ escaped text
line_text (Faulted stack at fault) =
    codes "!" ++ decimal stack ++ codes " " ++ at.script ++ codes "." ++ at.function ++ codes ":" ++ decimal at.line ++ codes " " ++ fault_name fault

-- ---- values
abbrev pub names_of : World → List (ℕ × List ℕ)
names_of world = map title world.instances

abbrev pub separated : List (List ℕ) → List ℕ
separated [] = []
separated (first ∷ []) = first
separated (first ∷ second ∷ rest) = first ++ codes ", " ++ separated (second ∷ rest)

-- as its cast to String. An array prints its elements so
abbrev pub value_text : World → Value → List ℕ
value_text world (values.Array number) =
    codes "[" ++ separated (map (written world.outline (names_of world)) (items_of world.arrays number)) ++ codes "]"
value_text world value = written world.outline (names_of world) value

-- ---- the closing lines
abbrev pub property_line : World → Instance → ℕ → OutlineProperty → List ℕ
property_line world instance script property =
    codes "  " ++ property.name ++ codes " = " ++ escaped (value_text world (variable_of instance.variables script property.variable))

abbrev pub properties_in : Option ScriptShape → List OutlineProperty
properties_in None = []
properties_in (Some script) = script.properties

abbrev pub script_lines : World → Instance → ℕ → List (List ℕ)
script_lines world instance script =
    map (property_line world instance script) (properties_in (slice_get world.outline script))

-- the root script's properties stand first
abbrev pub instance_lines : World → Instance → List (List ℕ)
instance_lines world instance =
    (instance.name ++ codes " : " ++ script_name world.outline instance.script ++ codes " @" ++ escaped instance.state) ∷ flat_map (script_lines world instance) (reverse (lineage world.outline (Some instance.script)))

abbrev pub due_of : ℕ → List (ℕ × ℕ) → Option ℕ
due_of k [] = None
due_of k (first ∷ rest) = if first.0 == k then Some first.1 else due_of k rest

abbrev pub waits_word : World → Option ℕ → List ℕ
waits_word world None = codes "waits"
waits_word world (Some instance) = codes "waits " ++ (instance_at world instance).name

abbrev pub asleep_word : World → ℕ → Option ℕ → List ℕ
asleep_word world k None = waits_word world (waited_for k world.waiters)
asleep_word world k (Some due) = codes "asleep " ++ decimal due

abbrev pub stack_word : World → ℕ → List ℕ
stack_word world k =
    if list_any (λ stack. stack == k) world.done then codes "done" else (if is_ready world k then codes "ready" else asleep_word world k (due_of k world.asleep))

abbrev pub stack_line : World → ℕ → List ℕ
stack_line world k = codes "stack " ++ decimal k ++ codes " " ++ stack_word world k

abbrev pub closing_lines : World → List (List ℕ)
closing_lines world =
    (codes "turns " ++ decimal world.turn) ∷ flat_map (instance_lines world) world.instances ++ map (stack_line world) (range_with_len 0 world.started)

-- each line ends with a line feed
abbrev pub ended : List ℕ → List ℕ
ended line = line ++ 10 ∷ []

abbrev pub report_of : World → List ℕ
report_of world = flat_map ended (map line_text world.output ++ closing_lines world)

-- the report of the worlds of a run, which begins with the first world
abbrev pub report_from : World → List World → List ℕ
report_from world [] = report_of world
report_from world (next ∷ rest) = report_from next rest

abbrev pub report : List World → List ℕ
report [] = []
report (first ∷ rest) = report_from first rest
