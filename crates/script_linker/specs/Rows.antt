-- What the rows of the prelude's table declare.
use Rattle.std.specs.Prelude.{Bool, true, false, List, [], ◌∷◌, codes, filter, map, Option, Some, None, ◌||◌, if◌then◌else◌, is_some, option_map}
use Rattle.line_parser.specs.declared.tree.Constant.TheVariants as constants
use Rattle.line_parser.specs.declared.tree.Parameter.{Parameter}
use Rattle.papy_base.specs.declared.prelude.StandardBody.{StandardBody}
use Rattle.papy_base.specs.declared.prelude.StandardBody.TheVariants as does
use Rattle.papy_base.specs.declared.prelude.StandardFunction.{StandardFunction}
use Rattle.papy_base.specs.declared.prelude.StandardParameter.{StandardParameter}
use Rattle.papy_base.specs.declared.prelude.StandardScript.{StandardScript}
use Rattle.script_parser.specs.declared.script.Function.{Function}
use Rattle.script_linker.specs.Generated.{Act, Member, Returns, Standard, acts_of_goto, is_lacking, plain_type, state_members}

abbrev pub acts_of : StandardBody → Option (List Act)
acts_of does.Native = None
acts_of does.EmptyEvent = Some []
acts_of does.ChangeState = Some acts_of_goto
acts_of does.ReturnState = Some (Returns (codes "::State") ∷ [])

abbrev pub is_event : StandardBody → Bool
is_event does.Native = false
is_event does.EmptyEvent = true
is_event does.ChangeState = false
is_event does.ReturnState = false

abbrev pub parameter_of : StandardParameter → Parameter
parameter_of row = record {
  kind = plain_type row.kind.now;
  name = row.name.now;
  default = option_map constants.Int row.default;
}

abbrev pub member_of : StandardFunction → Member
member_of row = record {
  result = option_map (λ word. plain_type word.now) row.result;
  name = row.name.now;
  parameters = map parameter_of row.parameters.now;
  is_event = is_event row.body;
  acts = acts_of row.body;
}

-- those of these members that the functions lack
abbrev pub lacking_among : List Member → List Function → List Member
lacking_among members functions = filter (λ member. is_lacking functions member.name) members

-- the script has the functions of its row. A type without parent has the members of such scripts
abbrev pub standard_of : StandardScript → Standard
standard_of row = record {
  name = row.name.now;
  parent = option_map (λ name. name.now) row.parent;
  members = if row.is_library || is_some row.parent then map member_of row.functions.now else state_members;
}
