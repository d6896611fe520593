-- What a sink has taken after one call and then another.
use Rattle.std.proofs.Common.{◌≡◌, ℕ, List, [], ◌++◌, Option, None, Some, Result, Ok, Err, append_assoc, append-nil, refl, sym, ap, ◌∙◌, take}
use Rattle.std.specs.Option.{option_map}
use Rattle.papy_io.specs.declared.fault.IoFault.{IoFault}
use Rattle.papy_io.specs.declared.fault.IoFault.TheVariants.{Failed, OutOfMemory}
use Rattle.papy_io.specs.Sink.{Appended, SinkWrites, AppendsSome}

pub appended_none : (now : Option (List ℕ)) → Appended [] now now
appended_none None = refl
appended_none (Some written) = ap Some (sym (append-nil written))

appended_twice : (first second : List ℕ) (before : Option (List ℕ)) → option_map (λ written. written ++ second) (option_map (λ written. written ++ first) before) ≡ option_map (λ written. written ++ (first ++ second)) before
appended_twice first second None = refl
appended_twice first second (Some written) = ap Some (append_assoc written first second)

-- some bytes, and then some more
pub both_appended : (first second : List ℕ) (before between now : Option (List ℕ)) → Appended first before between → Appended second between now → Appended (first ++ second) before now
both_appended first second before between now a b = b ∙ ap (option_map (λ written. written ++ second)) a ∙ appended_twice first second before

pub appended_nothing : (before now : Option (List ℕ)) → now ≡ before → Appended [] before now
appended_nothing before now same = same ∙ appended_none before

-- nothing was written
pub appends_none : (now : Option (List ℕ)) → AppendsSome now now
appends_none now = record { bytes = []; appended = appended_none now }

pub appends_nothing : (before now : Option (List ℕ)) → now ≡ before → AppendsSome before now
appends_nothing before now same = record { bytes = []; appended = appended_nothing before now same }

pub appends_more : (before between now : Option (List ℕ)) → AppendsSome before between → AppendsSome between now → AppendsSome before now
appends_more before between now a b =
    record { bytes = a.bytes ++ b.bytes; appended = both_appended a.bytes b.bytes before between now a.appended b.appended }

-- what a call of the sink wrote
pub appends_written : {T : Type 0} (result : Result T IoFault) (bytes : List ℕ) (before now : Option (List ℕ)) → SinkWrites result bytes before now → AppendsSome before now
appends_written (Ok _) bytes before now wrote = record { bytes = bytes; appended = wrote }
appends_written (Err Failed) bytes before now (n, wrote) = record { bytes = take n bytes; appended = wrote }
appends_written (Err OutOfMemory) bytes before now same = appends_nothing before now same
