use Rattle.std.proofs.Common.{◌≡◌, arith, length}
use Rattle.type_rules.proofs.MemberRanges.{keeps-further, keeps-work, properties-in_range, states-in_range}
use Rattle.type_rules.specs.Ranges.{variables_of}
use Rattle.type_rules.proofs.elaboration.judge_members.Goals as goal

pub returns-clause-in_range : goal.returns-clause-in_range
returns-clause-in_range c = λ r.
    let work = c.args.work in
    let first = c.core_variables.new.work in
    let second = c.core_properties.new.work in
    let kept = c.in_ok-variables.ensures.kept in
    let both = keeps-further work first second kept c.in_ok-properties.ensures.kept in
    let variables = c.in_ok-variables.variables in
    let count : variables_of work ≡ length variables.items = omega (arith, c.in_ok-variables.ensures.count, variables.ok.0) in
    record {
      variables = c.in_ok-variables.ensures.in_range;
      properties = properties-in_range work first (length variables.items) c.in_ok-properties.properties.items kept count (c.in_ok-properties.ensures.in_range (keeps-work work first kept r));
      states = states-in_range work second (length variables.items) c.in_ok-states.states.items both count (c.in_ok-states.ensures.in_range (keeps-work work second both r));
    }
