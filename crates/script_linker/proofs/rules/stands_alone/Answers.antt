use Rattle.script_linker.proofs.LookupLemmas.{Nearest-none}
use Rattle.script_linker.proofs.rules.stands_alone.Goals as goal

pub returns : goal.returns
returns c =
    Nearest-none c.nearest_function-found.result c.is_none.result c.is_none.ensures c.nearest_function-found.ensures.nearest
