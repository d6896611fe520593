-- What taking a part from the front of bytes does: it is what a reader finds there.
use Rattle.std.specs.Prelude.{◌≡◌, ℕ, List, Result, Ok, Err}
use Rattle.papy_base.specs.declared.faults.Fault.{Fault}
use Rattle.papy_base.specs.declared.faults.Fault.TheVariants as fault
use Rattle.pex_codec.specs.declared.cursor.Cursor.{Cursor}
use Rattle.pex_codec.specs.declared.cursor.Stop.{Stop}
use Rattle.pex_codec.specs.declared.cursor.Stop.TheVariants as stop
use Rattle.pex_codec.specs.declared.cursor.Texts.{Texts}
use Rattle.pex_codec.specs.Reading as reading
use Rattle.pex_codec.specs.Reading.{Reading, Reader, Got, Short, Refused}

-- why a part isn't there
abbrev pub Stops : {A : Type 0} → Reading A → Fault Stop → Type 0
Stops reading (fault.Broken stop.Short) = reading ≡ Short
Stops reading (fault.Broken (stop.Refused offset rule)) = reading ≡ Refused offset rule
Stops reading fault.OutOfMemory = Unit {0}

abbrev pub Takes : {T A : Type 0} → (T → A) → Reader A → Result T (Fault Stop) → Cursor → Cursor → Type 0
Takes plain reader (Ok part) old new = reader old.at old.rest.now ≡ Got (plain part) new.at new.rest.now
Takes plain reader (Err stop) old new = Stops (reader old.at old.rest.now) stop

-- what a part that stands there is given as
abbrev pub Gives : {T A : Type 0} → (T → A) → Reading A → Result T (Fault Stop) → Type 0
Gives plain reading (Ok part) = (at : ℕ) × (rest : List ℕ) × (reading ≡ Got (plain part) at rest)
Gives plain reading (Err stop) = Stops reading stop

abbrev pub plain_texts : Texts → reading.Texts
plain_texts t = record { source = t.source; user = t.user; machine = t.machine; strings = t.strings.items }
