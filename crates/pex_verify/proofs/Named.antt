-- The scripts of a set that is given stand in its table of names.
use Rattle.std.proofs.Common.{◌≡◌, ℕ, List, Some, Result, Ok, Err, IfOk, OnOk, [], ◌∷◌, All, map, vec_len, subst}
use Rattle.pex_set.specs.Names.{empty_name, number_in}
use Rattle.pex_values.specs.declared.values.Pex.{Pex}
use Rattle.pex_verify.specs.declared.sources.DefaultMembers.{DefaultMembers}
use Rattle.pex_verify.specs.declared.sources.SetFile.{SetFile}
use Rattle.pex_verify.specs.declared.verifier.Tables.{Tables}
use Rattle.pex_verify.specs.Files.{IsFile}
use Rattle.pex_verify.specs.Heads.{AreNumbered, placed_objects}
use Rattle.pex_verify.specs.Naming.{NameScripts}
use Rattle.pex_verify.specs.Sets.{AreSoundScripts, JudgedSet}
use Rattle.pex_verify.specs.Sources.{HaveParts, IsNamed}
use Rattle.pex_verify.specs.Whole.{IsPrelude, IsJudgedSet, IsSetByNames}
use Rattle.pex_verify.proofs.Relatives.{scripts_named}
use Rattle.pex_verify.proofs.Whole.{judged_as}

pub named_given : {E : Type 0} (result : Result Tables E) (names : List (List ℕ)) (members : DefaultMembers) (sources : List SetFile) (prelude : Pex) (files : List Pex)
    → map (λ source. source.pex.now) sources ≡ prelude ∷ files → IsPrelude members prelude
    → OnOk result (number_in names [] ≡ Some empty_name) → All (IsNamed names) sources → IsNamed names members.source.now → All (λ source. HaveParts source.pex.now) sources
    → IfOk result (λ t. IsSetByNames names members sources t.parts.scripts.items t.parts.outlines.items t.members)
    → All IsFile files → IfOk result (λ t. AreSoundScripts (vec_len t.parts.scripts) t.parts.outlines.items t.parts.scripts.items) → IfOk result (λ t. AreNumbered (placed_objects sources) t.objects)
    → IfOk result (λ t. NameScripts names t.objects t.parts.outlines.items)
named_given (Ok t) names members sources prelude files files_are is_prelude empty named own parts loaded valid sound numbered =
    let set : JudgedSet = record { outline = t.parts.outlines.items; files = files; scripts = t.parts.scripts.items } in
    let whole : IsJudgedSet set = record { sound = record { files = valid; scripts = subst (λ (n : ℕ). AreSoundScripts n t.parts.outlines.items t.parts.scripts.items) t.parts.scripts.ok.0 sound }; judged = judged_as names members sources prelude files files_are is_prelude empty named own parts t loaded } in
    scripts_named whole t.objects numbered
named_given (Err e) names members sources prelude files files_are is_prelude empty named own parts loaded valid sound numbered = tt
