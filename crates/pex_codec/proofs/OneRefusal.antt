-- Bytes break one rule at one place, or none.
use Rattle.std.proofs.Common.{inl, inr, ◌≡◌, ℕ, ◌<◌, ◌≤◌, List, [], ◌∷◌, ◌++◌, length, take, drop, refl, sym, ap, subst, ◌∙◌, length-drop, arith}
use Rattle.std.specs.Prelude.{◌⊎◌}
use Rattle.std.proofs.lemmas.List.{append-nil, length-take-le, take-append-drop}
use Rattle.pex_values.specs.Fit.{limit}
use Rattle.pex_values.specs.Plain.{PlainPex}
use Rattle.pex_codec.specs.declared.faults.PexRule.{PexRule}
use Rattle.pex_codec.specs.declared.faults.PexRule.TheVariants.{BadMagic, BadVersion, BadGame, BadDebugFlag, BadKind, BadOpcode, BadCount, BadIndex, BadSize, Truncated, Trailing, TooLarge}
use Rattle.pex_codec.specs.Decoding.{Breaks, HasTrailing, IsSpelling, reading}
use Rattle.pex_codec.specs.Laws.{SameRefusal}
use Rattle.pex_codec.specs.Reading.{Reading, Got, Short, Refused}
use Rattle.pex_codec.specs.Spells.{Spells}
use Rattle.pex_codec.proofs.Exact.{short_got, refused_got}
use Rattle.pex_codec.proofs.ExactReading.{got_reading}

-- what is broken, by what the bytes are read as
abbrev Told : Reading PlainPex → List ℕ → ℕ → PexRule → Type 0
Told (Refused at broken) bytes offset rule = (offset ≡ at) × (rule ≡ broken)
Told (Got v at rest) bytes offset rule = (offset ≡ at) × (rule ≡ Trailing) × (offset < length bytes)
Told Short bytes offset rule =
    ((limit < length bytes) × (offset ≡ limit) × (rule ≡ TooLarge)) ⊎ ((length bytes ≤ limit) × (offset ≡ length bytes) × (rule ≡ Truncated))

told_by : (bytes : List ℕ) (offset : ℕ) (rule : PexRule) (r : Reading PlainPex) → reading bytes ≡ r → Told r bytes offset rule → Told (reading bytes) bytes offset rule
told_by bytes offset rule r is told = subst (λ (q : Reading PlainPex). Told q bytes offset rule) (sym is) told

trailing : (bytes : List ℕ) (offset : ℕ) → HasTrailing bytes offset → Told (reading bytes) bytes offset Trailing
trailing bytes offset has =
    let first = take offset bytes in
    let v = has.spelled.0 in
    let count : length first ≡ offset = length-take-le offset bytes (omega (arith, has.shorter)) in
    let read = ap reading (sym (take-append-drop offset bytes)) ∙ got_reading v first (drop offset bytes) has.spelled.1 in
    told_by bytes offset Trailing _ read (sym count, refl, has.shorter)

told : (bytes : List ℕ) (offset : ℕ) (rule : PexRule) → Breaks bytes offset rule → Told (reading bytes) bytes offset rule
told bytes offset Trailing has = trailing bytes offset has
told bytes offset TooLarge (unfinished, long, is) = told_by bytes offset TooLarge Short unfinished (inl (long, is, refl))
told bytes offset Truncated (unfinished, few, is) = told_by bytes offset Truncated Short unfinished (inr (few, is, refl))
told bytes offset BadMagic refused = told_by bytes offset BadMagic (Refused offset BadMagic) refused (refl, refl)
told bytes offset BadVersion refused = told_by bytes offset BadVersion (Refused offset BadVersion) refused (refl, refl)
told bytes offset BadGame refused = told_by bytes offset BadGame (Refused offset BadGame) refused (refl, refl)
told bytes offset BadDebugFlag refused = told_by bytes offset BadDebugFlag (Refused offset BadDebugFlag) refused (refl, refl)
told bytes offset BadKind refused = told_by bytes offset BadKind (Refused offset BadKind) refused (refl, refl)
told bytes offset BadOpcode refused = told_by bytes offset BadOpcode (Refused offset BadOpcode) refused (refl, refl)
told bytes offset BadCount refused = told_by bytes offset BadCount (Refused offset BadCount) refused (refl, refl)
told bytes offset BadIndex refused = told_by bytes offset BadIndex (Refused offset BadIndex) refused (refl, refl)
told bytes offset BadSize refused = told_by bytes offset BadSize (Refused offset BadSize) refused (refl, refl)

one_told : (r : Reading PlainPex) (bytes : List ℕ) (o p : ℕ) (a b : PexRule) → Told r bytes o a → Told r bytes p b → SameRefusal o p a b
one_told (Refused at broken) bytes o p a b x y = record { offset = x.0 ∙ sym y.0; rule = x.1 ∙ sym y.1 }
one_told (Got v at rest) bytes o p a b x y = record { offset = x.0 ∙ sym y.0; rule = x.1 ∙ sym y.1 }
one_told Short bytes o p a b (inl x) (inl y) = record { offset = x.1 ∙ sym y.1; rule = x.2 ∙ sym y.2 }
one_told Short bytes o p a b (inl x) (inr y) = absurd (omega (arith, x.0, y.0))
one_told Short bytes o p a b (inr x) (inl y) = absurd (omega (arith, x.0, y.0))
one_told Short bytes o p a b (inr x) (inr y) = record { offset = x.1 ∙ sym y.1; rule = x.2 ∙ sym y.2 }

pub one_refusal : (bytes : List ℕ) (o p : ℕ) (a b : PexRule) → Breaks bytes o a → Breaks bytes p b → SameRefusal o p a b
one_refusal bytes o p a b x y = one_told (reading bytes) bytes o p a b (told bytes o a x) (told bytes p b y)

never : (r : Reading PlainPex) (bytes : List ℕ) (offset : ℕ) (rule : PexRule) (v : PlainPex) (rest : List ℕ) → r ≡ Got v (length bytes) rest → ¬ Told r bytes offset rule
never (Refused at broken) bytes offset rule v rest is t = refused_got at broken v (length bytes) rest is
never (Got w at behind) bytes offset rule v rest is t = let end : at ≡ length bytes = cc in absurd (omega (arith, end, t.0, t.2))
never Short bytes offset rule v rest is t = short_got v (length bytes) rest is

pub spelling_breaks_none : (bytes : List ℕ) (offset : ℕ) (rule : PexRule) → IsSpelling bytes → ¬ Breaks bytes offset rule
spelling_breaks_none bytes offset rule (v, spells) breaks =
    let read = ap reading (sym (append-nil bytes)) ∙ got_reading v bytes [] spells in
    never (reading bytes) bytes offset rule v _ read (told bytes offset rule breaks)
