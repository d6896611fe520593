-- Debug entries that are added.
use Rattle.std.proofs.Common.{◌≡◌, ℕ, ◌≤◌, List, [], ◌∷◌, ◌++◌, sym, ap, ◌∙◌}
use Rattle.std.proofs.lemmas.List.{append-nil, append_assoc}
use Rattle.std.specs.Prelude.{Result, Ok, Err, IfOk}
use Rattle.std.specs.List.{AllByRecursion}
use Rattle.pex_values.specs.Plain.{PlainLines}
use Rattle.pex_values.specs.Shape.{IsShapedLines}
use Rattle.code_emit.specs.Writing.{Notes}
use Rattle.code_emit.proofs.Later.{entries_later}

pub ok_always : {A E : Type 0} (P : Type 0) (r : Result A E) → P → IfOk r (λ _. P)
ok_always P (Ok x) is = is
ok_always P (Err e) is = tt

pub ok_both : {A E : Type 0} (P Q R : A → Type 0) (r : Result A E) → IfOk r P → IfOk r Q → ((x : A) → P x → Q x → R x) → IfOk r R
ok_both P Q R (Ok x) first second both = both x first second
ok_both P Q R (Err e) first second both = tt

all_both : (P : PlainLines → Type 0) (xs ys : List PlainLines) → AllByRecursion P xs → AllByRecursion P ys → AllByRecursion P (xs ++ ys)
all_both P [] ys first second = second
all_both P (x ∷ xs) ys first second = (first.0, all_both P xs ys first.1 second)

pub notes_none : (n : ℕ) (es : List PlainLines) (P : List PlainLines → Type 0) → P [] → Notes n es es P
notes_none n es P is = record { added = []; entries = sym (append-nil es); shaped = tt; are = is }

pub notes_changed : (n : ℕ) (a b : List PlainLines) (P Q : List PlainLines → Type 0) → ((es : List PlainLines) → P es → Q es) → Notes n a b P → Notes n a b Q
notes_changed n a b P Q change notes = record {
  added = notes.added;
  entries = notes.entries;
  shaped = notes.shaped;
  are = change notes.added notes.are;
}

-- strings were added behind those that the entries read
pub notes_later : (n m : ℕ) → n ≤ m → (a b : List PlainLines) (P Q : List PlainLines → Type 0) → ((es : List PlainLines) → P es → Q es) → Notes n a b P → Notes m a b Q
notes_later n m more a b P Q later notes = record {
  added = notes.added;
  entries = notes.entries;
  shaped = entries_later n m more notes.added notes.shaped;
  are = later notes.added notes.are;
}

-- entries were added, and others behind them
pub notes_then : (n m : ℕ) → n ≤ m → (a b c : List PlainLines) (P Q R : List PlainLines → Type 0) → ((es fs : List PlainLines) → P es → Q fs → R (es ++ fs)) → Notes n a b P → Notes m b c Q → Notes m a c R
notes_then n m more a b c P Q R both first second = record {
  added = first.added ++ second.added;
  entries = second.entries ∙ ap (λ (es : List PlainLines). es ++ second.added) first.entries ∙ append_assoc a first.added second.added;
  shaped = all_both (IsShapedLines m) first.added second.added (entries_later n m more first.added first.shaped) second.shaped;
  are = both first.added second.added first.are second.are;
}
