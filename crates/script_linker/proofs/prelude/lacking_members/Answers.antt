use Rattle.script_linker.proofs.prelude.lacking_members.Goals as goal

pub returns : goal.returns
returns c = c.lacking_functions.ensures
