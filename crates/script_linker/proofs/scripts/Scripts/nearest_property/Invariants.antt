use Rattle.script_linker.specs.Lookup.{own_property}
use Rattle.script_linker.proofs.scripts.Scripts.nearest_property.Given as goal

abbrev pub ghost-nearest : goal.ghost-nearest
ghost-nearest a = own_property a.self.now a.name.now
