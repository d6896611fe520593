use Rattle.std.proofs.Common.{ap}
use Rattle.stack_save.proofs.HeldLemmas.{one_held}
use Rattle.stack_save.proofs.loading.one_spelling.Goals as goal
use Rattle.stack_save.specs.Reading.{PlainHeld}

pub returns-clause-files : goal.returns-clause-files
returns-clause-files c files files' scene scene' state state' bytes rest s t =
    ap (λ (h : PlainHeld). h.files) (one_held files files' scene scene' state state' bytes rest s t).0

pub returns-clause-scene : goal.returns-clause-scene
returns-clause-scene c files files' scene scene' state state' bytes rest s t =
    ap (λ (h : PlainHeld). h.scene) (one_held files files' scene scene' state state' bytes rest s t).0

pub returns-clause-state : goal.returns-clause-state
returns-clause-state c files files' scene scene' state state' bytes rest s t =
    ap (λ (h : PlainHeld). h.state) (one_held files files' scene scene' state state' bytes rest s t).0

pub returns-clause-whole : goal.returns-clause-whole
returns-clause-whole c files files' scene scene' state state' bytes rest s t =
    (one_held files files' scene scene' state state' bytes rest s t).1
