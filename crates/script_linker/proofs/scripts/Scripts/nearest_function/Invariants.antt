use Rattle.script_linker.specs.Lookup.{own_function}
use Rattle.script_linker.proofs.scripts.Scripts.nearest_function.Given as goal

abbrev pub ghost-nearest : goal.ghost-nearest
ghost-nearest a = own_function a.self.now a.name.now
