use Rattle.pex_lift.proofs.lifting.set_of.Goals as goal

pub returns-in-Ok : goal.returns-in-Ok
returns-in-Ok c = record {
  files_are = c.in-Ok.ensures.files;
  given = c.in-Ok.ensures.given;
  prelude = c.in-Ok.ensures.prelude;
  standard = c.in-Ok.ensures.standard;
  resolved = c.in-Ok.ensures.resolved;
}
