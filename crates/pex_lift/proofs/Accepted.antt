-- What the values of texts are, step by step.
use Rattle.std.proofs.Common.{arith, ℕ, List, [], refl}
use Rattle.std.specs.Prelude.{Result, Ok, Err, IfOk}
use Rattle.std.specs.declared.alloc.Global.{Global}
use Rattle.std.specs.declared.vec.Vec.{Vec}
use Rattle.core_tree.specs.declared.script.CoreSet.{CoreSet}
use Rattle.pex_alike.specs.SameCode.{SameEach}
use Rattle.pex_values.specs.declared.values.Pex.{Pex}
use Rattle.script_linker.specs.declared.set.SourceFile.{SourceFile}
use Rattle.pex_lift.specs.Lifted.{AreLinked, CompileTo, HasCore, IsElaborated, IsEmitted, IsRead}

pub each_none : {A B : Type 0} (R : A → B → Type 0) → SameEach R [] []
unfolding SameEach
each_none R = (refl, λ n x y lt. absurd (omega arith))

pub has_core : {E : Type 0} (files set : List SourceFile) (result : Result CoreSet E) → AreLinked files set → IfOk result (IsElaborated set) → IfOk result (HasCore files)
has_core files set (Ok core) linked made = record { set = set; linked = linked; elaborated = made }
has_core files set (Err fault) linked made = tt

pub compile_to : {E : Type 0} (texts : List (List ℕ)) (files : List SourceFile) (core : CoreSet) (result : Result (Vec Pex Global) E) → SameEach IsRead texts files → HasCore files core →
    IfOk result (λ values. IsEmitted core values.items) → IfOk result (λ values. CompileTo texts values.items)
compile_to texts files core (Ok values) read accepted made = record { files = files; core = core; read = read; accepted = accepted; emitted = made }
compile_to texts files core (Err fault) read accepted made = tt
