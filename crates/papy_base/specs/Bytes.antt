-- The bytes of a vector, as a list of vectors is mapped.
use Rattle.std.specs.Prelude.{ℕ, List}
use Rattle.std.specs.declared.alloc.Global.{Global}
use Rattle.std.specs.declared.vec.Vec.{Vec}

abbrev pub bytes_of : Vec ℕ Global → List ℕ
bytes_of file = file.items
