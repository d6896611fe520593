-- The files of a desk in memory, kept in a map.
use Rattle.std.specs.Prelude.{ℕ, List, [], map, unwrap_or}
use Rattle.std.specs.FinMap.{from_entries, get}
use Rattle.std.specs.declared.alloc.Global.{Global}
use Rattle.std.specs.declared.vec.Vec.{Vec}
use Rattle.papy_io.specs.Files.{Files}

-- a name with its bytes
abbrev pub entry_of : Vec ℕ Global × Vec ℕ Global → List ℕ × List ℕ
entry_of e = (e.0.items, e.1.items)

abbrev pub files_of : List (Vec ℕ Global × Vec ℕ Global) → Files
files_of entries = from_entries (map entry_of entries)

-- the bytes that a name holds, none where it is not held
abbrev pub bytes_in : Files → List ℕ → List ℕ
bytes_in files name = unwrap_or (get files name) []
