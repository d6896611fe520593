-- Files of values, one more.
use Rattle.std.proofs.Common.{◌≡◌, ◌∙◌, ◌<◌, ◌+◌, ℕ, List, [], ◌∷◌, ◌++◌, ap, sym, subst, map, take, length, slice_index_or, Global}
use Rattle.std.specs.List.{All, AllByRecursion}
use Rattle.std.specs.declared.vec.Vec.{Vec}
use Rattle.std.proofs.lemmas.List.{map-append, take_more}
use Rattle.std.proofs.lemmas.List.Elements.{All-cons, All-more, All-nil}
use Rattle.pex_codec.specs.Spells.{Spells}
use Rattle.pex_values.specs.declared.values.Pex.{Pex}
use Rattle.pex_values.specs.Plain.{plain}
use Rattle.pex_values.specs.Shape.{IsWellShaped}
use Rattle.pex_verify.specs.Files.{IsFile}
use Rattle.command_files.specs.Compiled.{AreFilesOf, spelled}
use Rattle.papy_base.specs.Bytes.{bytes_of}

abbrev pub IsShaped : Pex → Type 0
IsShaped value = IsWellShaped (plain value)

pub all_shaped : (values : List Pex) → AllByRecursion IsWellShaped (map plain values) → All IsShaped values
all_shaped [] all = All-nil IsShaped
all_shaped (value ∷ values) all = All-cons IsShaped value values all.0 (all_shaped values all.1)

pub shaped_at : (values : List Pex) (i : ℕ) (value : Pex) → i < length values → value ≡ slice_index_or values i value → AllByRecursion IsWellShaped (map plain values) → IsWellShaped (plain value)
shaped_at values i value within is all = subst IsShaped (sym is) (all_shaped values all i value within)

one-more : (values : List Pex) (i : ℕ) (value : Pex) (bytes : List ℕ) → i < length values → value ≡ slice_index_or values i value → bytes ≡ spelled value →
    map spelled (take (i + 1) values) ≡ map spelled (take i values) ++ bytes ∷ []
one-more values i value bytes within is same =
    ap (map spelled) (take_more values i value within)
    ∙ map-append spelled (take i values) (slice_index_or values i value ∷ [])
    ∙ ap (λ b. map spelled (take i values) ++ b ∷ []) (ap spelled (sym is) ∙ sym same)

pub files_more : (values : List Pex) (files : List (Vec ℕ Global)) (i : ℕ) (value : Pex) (bytes : Vec ℕ Global) → i < length values → value ≡ slice_index_or values i value →
    AreFilesOf (take i values) (map bytes_of files) → Spells (plain value) bytes.items → AreFilesOf (take (i + 1) values) (map bytes_of (files ++ bytes ∷ []))
files_more values files i value bytes within is so_far spells = record {
  valid = All-more IsFile values i value within so_far.valid (subst IsFile is (record { shaped = spells.shaped; fits = spells.fits }));
  bytes =
      map-append bytes_of files (bytes ∷ [])
      ∙ ap (λ fs. fs ++ bytes.items ∷ []) so_far.bytes
      ∙ sym (one-more values i value bytes.items within is spells.spelled);
}
