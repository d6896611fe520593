-- A set of loaded code is whole.
use Rattle.std.proofs.Common.{◌≡◌, ℕ, ◌<◌, List, length, map, sym, subst, arith, vec_len}
use Rattle.std.specs.Prelude.{slice_index_or}
use Rattle.std.specs.List.{AllZip}
use Rattle.core_tree.specs.declared.outline.OutlineScript.{OutlineScript}
use Rattle.core_tree.specs.Outlines.{script_shape}
use Rattle.loaded_code.specs.declared.script.LoadedScript.{LoadedScript}
use Rattle.loaded_code.specs.Plain as coded
use Rattle.pex_values.specs.declared.values.Pex.{Pex}
use Rattle.pex_verify.specs.declared.judged.JudgedScript.{JudgedScript}
use Rattle.pex_verify.specs.Coded.{IsCodedScript}
use Rattle.pex_verify.specs.Coding.{CodesScript}
use Rattle.pex_verify.specs.JudgedCode as judged
use Rattle.pex_verify.specs.Soundness.{bounds_with}
use Rattle.pex_verify.specs.Whole.{IsJudgedSet, IsWholeSet}
use Rattle.pex_verify.proofs.Coding.{zip_count, zip_each, zip_same}
use Rattle.pex_verify.proofs.Facts.{item_at}

abbrev pub whole_coded : (outline : List OutlineScript) (files : List Pex) (scripts : List JudgedScript) (loaded : List LoadedScript)
    → IsJudgedSet (record { outline = outline; files = files; scripts = scripts }) → AllZip (CodesScript (map script_shape outline)) scripts loaded → IsWholeSet (record { outline = outline; files = files; scripts = loaded })
whole_coded outline files scripts loaded whole zip =
    let count : length scripts ≡ length loaded = zip_count (CodesScript (map script_shape outline)) scripts loaded zip in
    record {
      scripts = scripts;
      judged = whole;
      count = count;
      means = sym (zip_same (CodesScript (map script_shape outline)) (judged.script_of (map script_shape outline)) coded.script_of (λ x y r. r.means) scripts loaded zip);
      coded = λ n o s within.
          let here : n < length scripts = omega (arith, count, within) in
          let i = item_at scripts n here in
          let code = zip_each (CodesScript (map script_shape outline)) scripts loaded zip n i.item s within in
          subst (λ (many : ℕ). IsCodedScript (bounds_with many (vec_len (slice_index_or outline n o).variables)) (slice_index_or loaded n s)) count
          (code.sound (bounds_with (length scripts) (vec_len (slice_index_or outline n o).variables)) (whole.sound.scripts.each n o i.item here).script);
    }
