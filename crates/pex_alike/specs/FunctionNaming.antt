-- What the names of a function are, as definitions have them.
use Rattle.pex_alike.specs.declared.function_names.FunctionNames.{FunctionNames}
use Rattle.pex_alike.specs.SameCode.{Naming}

abbrev pub naming : FunctionNames → Naming
naming names = record { strings = names.strings.now; parameters = names.parameters.now; locals = names.locals.now }
