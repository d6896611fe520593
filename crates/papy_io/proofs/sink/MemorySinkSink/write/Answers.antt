use Rattle.std.proofs.Common.{refl}
use Rattle.papy_io.proofs.sink.MemorySinkSink.write.Goals as goal

pub returns-then-is_listed-clause-failed : goal.returns-then-is_listed-clause-failed
returns-then-is_listed-clause-failed c =
    let listed = rw c.deref.ensures.value at c.is_listed.ensures.0 c.if-is_listed.true in
    rw (← c.self.view_is) (λ _. listed, λ _. refl)
