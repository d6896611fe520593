-- The bytes that spell a value are read as it, and no others are.
use Rattle.std.proofs.Common.{◌≡◌, ℕ, ◌+◌, ◌-◌, ◌<◌, ◌≤◌, ◌^◌, List, [], ◌∷◌, ◌++◌, length, take, drop, refl, sym, ap, subst, ◌∙◌, append_assoc, length-append, arith}
use Rattle.std.specs.List.{AllByRecursion}
use Rattle.std.proofs.lemmas.List.{append-nil, length-take, nil_from_length, take-append-drop}
use Rattle.std.proofs.Math.Seq.{take-append_seam, take-append-add}
use Rattle.pex_values.specs.declared.values.SizeForm.{SizeForm}
use Rattle.pex_values.specs.declared.values.SizeForm.TheVariants.{Counted, Bare}
use Rattle.pex_values.specs.Fit.{Fits, FitsObject, limit}
use Rattle.pex_values.specs.Plain.{PlainObject, PlainPex}
use Rattle.pex_values.specs.Spelling.{object_data, size_of, spelling}
use Rattle.pex_codec.specs.Decoding.{reading}
use Rattle.pex_codec.specs.Laws.{AreBytes, SpellsFirst}
use Rattle.pex_codec.specs.Reading.{Got, pex_at}
use Rattle.pex_codec.specs.Spells.{Spells}
use Rattle.pex_codec.specs.Writing.{HasSize}
use Rattle.pex_codec.proofs.Exact.{same_got, front_bytes}
use Rattle.pex_codec.proofs.ExactCode.{each_first}
use Rattle.pex_codec.proofs.ExactFile.{IsFile, pex_exact}
use Rattle.pex_codec.proofs.ExactObject.{IsSized}
use Rattle.pex_codec.proofs.Whole.{parts_of}

-- ---- which values

size_fits : (form : SizeForm) (len : ℕ) → len ≤ limit → size_of form len < 2 ^ 32
size_fits Counted len h = omega arith
size_fits Bare len h = omega arith

each_sized : (os : List PlainObject) → AllByRecursion HasSize os → AllByRecursion IsSized os
each_sized [] h = tt
each_sized (o ∷ os) h = ((h.0.0, size_fits o.size_form (length (object_data o)) h.0.1), each_sized os h.1)

file_of : (v : PlainPex) (bytes : List ℕ) → Spells v bytes → IsFile v
file_of v bytes s =
    let fits = s.fits in
    let objects = (parts_of v fits).objects in
    record {
      shaped = s.shaped;
      source = fits.source;
      user = fits.user;
      machine = fits.machine;
      strings = (fits.strings, fits.each_string);
      debug = fits.debug;
      user_flags = fits.user_flags;
      objects = (objects.0, each_sized v.objects objects.1);
    }

fits_of : (v : PlainPex) → IsFile v → length (spelling v) ≤ limit → Fits v
fits_of v p short = record {
  source = p.source;
  user = p.user;
  machine = p.machine;
  strings = p.strings.0;
  each_string = p.strings.1;
  debug = p.debug;
  user_flags = p.user_flags;
  objects = p.objects.0;
  each_object = each_first FitsObject (λ o. size_of o.size_form (length (object_data o)) < 2 ^ 32) v.objects p.objects.1;
  size = short;
}

-- ---- reading

pub got_reading : (v : PlainPex) (bytes rest : List ℕ) → Spells v bytes → reading (bytes ++ rest) ≡ Got v (length bytes) (take (limit - length bytes) rest)
got_reading v bytes rest s =
    let short : length bytes ≤ limit = subst (λ (b : List ℕ). length b ≤ limit) (sym s.spelled) s.fits.size in
    let left = take (limit - length bytes) rest in
    let all : limit ≡ length bytes + (limit - length bytes) = omega (arith, short) in
    let cut : take limit (bytes ++ rest) ≡ spelling v ++ left =
    ap (λ (n : ℕ). take n (bytes ++ rest)) all ∙ (take-append-add bytes rest (limit - length bytes) ∙ ap (λ (b : List ℕ). b ++ left) s.spelled) in
    let end : 0 + length (spelling v) ≡ length bytes = omega (arith, ap (λ (b : List ℕ). length b) s.spelled) in
    ap (pex_at 0) cut ∙ (pex_exact.complete v 0 left (file_of v bytes s) ∙ ap (λ (n : ℕ). Got v n left) end)

pub spells_first : (v : PlainPex) (bytes : List ℕ) (k : ℕ) (rest : List ℕ) → AreBytes bytes → reading bytes ≡ Got v k rest → SpellsFirst v k bytes
spells_first v bytes k rest b e =
    let cut = take limit bytes in
    let behind = drop limit bytes in
    let both : cut ++ behind ≡ bytes = take-append-drop limit bytes in
    let s = pex_exact.sound v 0 cut k rest (front_bytes cut behind (subst AreBytes (sym both) b)) e in
    let whole : bytes ≡ spelling v ++ (rest ++ behind) = sym both ∙ (ap (λ (x : List ℕ). x ++ behind) s.spans.spelled ∙ append_assoc (spelling v) rest behind) in
    let count : k ≡ length (spelling v) = omega (arith, s.spans.ended) in
    let long : length cut ≡ length (spelling v) + length rest = ap (λ (x : List ℕ). length x) s.spans.spelled ∙ length-append (spelling v) rest in
    let within : (length (spelling v) ≤ limit) × (length (spelling v) ≤ length bytes) = (omega (arith, long, length-take limit bytes), omega (arith, long, length-take limit bytes)) in
    let first : take k bytes ≡ spelling v = ap (λ (n : ℕ). take n bytes) count ∙ (ap (λ (x : List ℕ). take (length (spelling v)) x) whole ∙ take-append_seam (spelling v) (rest ++ behind)) in
    record {
      spelled = record { shaped = s.may.shaped; fits = fits_of v s.may within.0; spelled = first };
      within = omega (arith, count, within.1);
      fits = omega (arith, count, within.0);
    }

-- ---- one spelling

pub record Same (v w : PlainPex) (rest : List ℕ) : Type 0 where
  pub value : v ≡ w
  pub none : rest ≡ []

pub first_part : (v w : PlainPex) (x rest : List ℕ) → Spells v x → Spells w (x ++ rest) → Same v w rest
first_part v w x rest p q =
    let one = got_reading v x rest p in
    let other = ap reading (sym (append-nil (x ++ rest))) ∙ got_reading w (x ++ rest) [] q in
    let both = sym one ∙ other in
    let value : v ≡ w = same_got (λ z n r. v ≡ z) v w (length x) (length (x ++ rest)) (take (limit - length x) rest) (take (limit - length (x ++ rest)) []) both refl in
    let count : length x ≡ length (x ++ rest) = same_got (λ z n r. length x ≡ n) v w (length x) (length (x ++ rest)) (take (limit - length x) rest) (take (limit - length (x ++ rest)) []) both refl in
    record { value = value; none = nil_from_length rest (omega (arith, count, length-append x rest)) }
