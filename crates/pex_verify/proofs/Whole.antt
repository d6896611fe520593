-- What a whole set was judged by.
use Rattle.std.proofs.Common.{◌≡◌, ℕ, List, Some, Result, Ok, Err, IfOk, OnOk, [], ◌∷◌, All, map, refl, sym, ap, ◌∙◌}
use Rattle.pex_set.specs.Names.{empty_name, IsGrown, number_in}
use Rattle.pex_meaning.specs.Prelude as meant
use Rattle.pex_values.specs.declared.values.Pex.{Pex}
use Rattle.pex_values.specs.declared.values.PexFunction.{PexFunction}
use Rattle.pex_values.specs.Plain.{plain, plain_named}
use Rattle.pex_verify.specs.declared.sources.FileStrings.{FileStrings}
use Rattle.pex_verify.specs.declared.sources.DefaultMembers.{DefaultMembers}
use Rattle.pex_verify.specs.declared.sources.SetFile.{SetFile}
use Rattle.pex_verify.specs.declared.verifier.Tables.{Tables}
use Rattle.pex_verify.specs.Whole.{IsPrelude, IsJudged, IsSetByNames}
use Rattle.pex_verify.specs.Kept.{IsJudgedBy}
use Rattle.pex_verify.specs.Sources.{AreStrings, HaveParts, IsNamed}
use Rattle.pex_verify.proofs.Strings.{AreStrings-grown}

-- a file with its strings, whose numbers stay as the table grows
pub source_named : (earlier later : List (List ℕ)) (file : Pex) (strings : FileStrings) (source : SetFile) → IsGrown earlier later → AreStrings earlier file.strings.items strings → source.pex.now ≡ file → source.names.now ≡ strings.names → source.titles.now ≡ strings.titles.items → IsNamed later source
source_named earlier later file strings source grown own pex names titles =
    let at = AreStrings-grown earlier later file.strings.items strings grown own in record {
      titles = titles ∙ at.titles ∙ ap (λ (p : Pex). p.strings.items) (sym pex);
      numbers = ap (map Some) names ∙ at.numbers ∙ ap (λ (p : Pex). map (number_in later) p.strings.items) (sym pex);
    }

-- what holds of what is given, if anything is
pub if_given : {T E : Type 0} (P Q : T → Type 0) (result : Result T E) → ((x : T) → P x → Q x) → IfOk result P → IfOk result Q
if_given P Q (Ok x) each h = each x h
if_given P Q (Err e) each h = tt

-- the first file, whose functions of this list the members are
pub stands_first : (members : DefaultMembers) (first file : Pex) (list : List (ℕ × PexFunction)) → first ≡ file → members.list.now ≡ list → members.source.now.pex.now ≡ first → plain file ≡ meant.prelude → map plain_named list ≡ meant.members → IsPrelude members first
stands_first members first file list same listed source is_file are_members =
    record { file = ap plain same ∙ is_file; list = ap (map plain_named) listed ∙ are_members; source = source }

module _ (names : List (List ℕ)) (members : DefaultMembers) (sources : List SetFile) (prelude : Pex) (files : List Pex)
    (files_are : map (λ source. source.pex.now) sources ≡ prelude ∷ files) (is_prelude : IsPrelude members prelude)
    (empty : number_in names [] ≡ Some empty_name) (named : All (IsNamed names) sources) (own : IsNamed names members.source.now) (parts : All (λ source. HaveParts source.pex.now) sources) where
  abbrev pub judged_as : (t : Tables) → IsSetByNames names members sources t.parts.scripts.items t.parts.outlines.items t.members → IsJudged files t.parts.scripts.items t.parts.outlines.items
  judged_as t loaded = record {
    names = names;
    members = members;
    sources = sources;
    table = t.members;
    empty = empty;
    named = named;
    prelude = prelude;
    files_are = files_are;
    is_prelude = is_prelude;
    members_named = own;
    parts = parts;
    loaded = loaded.loaded;
    types = loaded.types;
  }

-- what is given was judged by the files behind the prelude, if anything is given
pub judged_given : {E : Type 0} (result : Result Tables E) (names : List (List ℕ)) (members : DefaultMembers) (sources : List SetFile) (prelude : Pex) (files : List Pex)
    → map (λ source. source.pex.now) sources ≡ prelude ∷ files → IsPrelude members prelude
    → OnOk result (number_in names [] ≡ Some empty_name) → All (IsNamed names) sources → IsNamed names members.source.now → All (λ source. HaveParts source.pex.now) sources
    → IfOk result (λ t. IsSetByNames names members sources t.parts.scripts.items t.parts.outlines.items t.members) → IfOk result (λ t. IsJudgedBy files t.parts.scripts.items t.parts.outlines.items names t.members)
judged_given (Ok t) names members sources prelude files files_are is_prelude empty named own parts loaded = record {
  judged = judged_as names members sources prelude files files_are is_prelude empty named own parts t loaded;
  names_are = refl;
  members_are = refl;
}
judged_given (Err e) names members sources prelude files files_are is_prelude empty named own parts loaded = tt
