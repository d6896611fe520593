use Rattle.std.proofs.Common.{ℕ, vec_len, refl, sym, subst}
use Rattle.pex_verify.specs.declared.judged.JudgedScript.{JudgedScript}
use Rattle.pex_verify.specs.Soundness.{bounds_with, IsSoundScript}
use Rattle.pex_verify.proofs.object.load_script.Goals as goal

pub returns-clause-sound : goal.returns-clause-sound
returns-clause-sound c =
    let count = vec_len c.args.home.now.set.now.heads in
    let script : JudgedScript = record { properties = c.in_ok-properties.properties; states = c.in_ok-states.states } in
    let sound : IsSoundScript (bounds_with count (vec_len c.args.home.now.variables.now.list)) script = record { properties = c.in_ok-properties.ensures.sound; states = c.in_ok-states.ensures.sound } in
    record {
      script = subst (λ (n : ℕ). IsSoundScript (bounds_with count n) script) (sym c.in_ok-outline.ensures.count) sound;
      outline = c.in_ok-outline.ensures.sound;
    }

pub returns-clause-object : goal.returns-clause-object
returns-clause-object c = record {
  home = c.args.home.now;
  set = refl;
  members = refl;
  number = refl;
  source = refl;
  object = refl;
  loaded = record {
    properties = c.in_ok-properties.ensures.written;
    states = c.in_ok-states.ensures.written;
    distinct = c.in_ok-states.ensures.distinct;
    replaces = c.in_ok-states.ensures.replaces;
    shape = c.in_ok-outline.ensures.outline;
  };
}

pub returns-clause-variables : goal.returns-clause-variables
returns-clause-variables c = c.in_ok-outline.ensures.outline.variables
