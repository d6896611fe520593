-- What is written of a text by one call of a sink after another.
use Rattle.std.proofs.Common.{arith, ◌≡◌, ℕ, ◌+◌, ◌≤◌, List, [], ◌++◌, length, take, append-nil, sym, ◌∙◌, subst}
use Rattle.std.proofs.Math.Seq.{take-append-add}
use Rattle.std.proofs.lemmas.List.{take-append-le, take_min}
use Rattle.std.proofs.lemmas.Bool.{false≢true}
use Rattle.std.specs.Prelude.{Option, Result, Ok, Err, IsErr, min}
use Rattle.papy_io.specs.declared.fault.IoFault.{IoFault}
use Rattle.papy_io.specs.declared.fault.IoFault.TheVariants.{Failed, OutOfMemory}
use Rattle.papy_io.proofs.Appending.{appended_none, both_appended}
use Rattle.papy_io.specs.Sink.{Appended, SinkWrites}
use Rattle.papy_io.specs.Sink.{WritesText}

-- a text was written, and then another one or the first part of it
pub writes_then : (T : Type 0) (first second : List ℕ) (result : Result T IoFault) (before between now : Option (List ℕ)) →
    Appended first before between → WritesText second result between now → WritesText (first ++ second) result before now
writes_then T first second (Ok _) before between now a b = both_appended first second before between now a b
writes_then T first second (Err _) before between now a (n, b) =
    (length first + n, subst (λ text. Appended text before now) (sym (take-append-add first second n)) (both_appended first (take n second) before between now a b))

nothing-written : (T : Type 0) (text : List ℕ) (fault : IoFault) (before now : Option (List ℕ)) → now ≡ before → WritesText {T = T} text (Err fault) before now
nothing-written T text fault before now same = (0, same ∙ appended_none before)

-- the first text was not written, and the second one not begun
writes-part : (T U : Type 0) (first second : List ℕ) (fault found : IoFault) (before now : Option (List ℕ)) →
    SinkWrites {T = T} (Err fault) first before now → WritesText {T = U} (first ++ second) (Err found) before now
writes-part T U first second Failed found before now (n, wrote) =
    let within : min n (length first) ≤ length first = omega arith in
    let same : take (min n (length first)) (first ++ second) ≡ take n first = take-append-le (min n (length first)) first second within ∙ take_min n first in
    (min n (length first), subst (λ text. Appended text before now) (sym same) wrote)
writes-part T U first second OutOfMemory found before now same = nothing-written U (first ++ second) found before now same

pub writes_first : (T U : Type 0) (first second : List ℕ) (fault : IoFault) (result : Result U IoFault) (before now : Option (List ℕ)) → IsErr result →
    SinkWrites {T = T} (Err fault) first before now → WritesText {T = U} (first ++ second) result before now
writes_first T U first second fault (Ok _) before now failed wrote = absurd (false≢true failed)
writes_first T U first second fault (Err found) before now failed wrote = writes-part T U first second fault found before now wrote

-- a text was written, or the first part of it
writes-all : (T : Type 0) (text : List ℕ) (result : Result T IoFault) (before now : Option (List ℕ)) → SinkWrites result text before now → WritesText text result before now
writes-all T text (Ok _) before now wrote = wrote
writes-all T text (Err Failed) before now wrote = wrote
writes-all T text (Err OutOfMemory) before now same = nothing-written T text OutOfMemory before now same

-- the last of several texts
pub writes_last : (T : Type 0) (text : List ℕ) (result : Result T IoFault) (before now : Option (List ℕ)) → SinkWrites result text before now → WritesText (text ++ []) result before now
writes_last T text result before now wrote = subst (λ whole. WritesText whole result before now) (sym (append-nil text)) (writes-all T text result before now wrote)
