-- Loaded scripts, one behind the other.
use Rattle.std.proofs.Common.{◌≡◌, ℕ, ◌<◌, ◌≤◌, List, [], ◌∷◌, ◌++◌, length, get_or, refl, sym, ap, subst, ◌∙◌, ⊎_elim, length-append, arith}
use Rattle.std.proofs.lemmas.Bool.{cases_lt}
use Rattle.std.proofs.lemmas.List.{get_or_append_left}
use Rattle.std.proofs.Math.Seq.{get_or-append_seam}
use Rattle.core_tree.specs.declared.outline.OutlineScript.{OutlineScript}
use Rattle.pex_verify.specs.declared.judged.JudgedScript.{JudgedScript}
use Rattle.pex_verify.specs.Heads.{Placed}
use Rattle.pex_verify.specs.Loading.{Judged, IsWholeObject, AreObjects}

pub AreObjects-none : (judged : Judged) → AreObjects judged [] [] []
AreObjects-none judged =
    record { script_count = refl; outline_count = refl; each = λ n o s l h. absurd (omega (arith, h)) }

pub AreObjects-push : (judged : Judged) (objects : List Placed) (scripts : List JudgedScript) (outlines : List OutlineScript) (o : Placed) (s : JudgedScript) (l : OutlineScript) → AreObjects judged objects scripts outlines → IsWholeObject judged (length scripts) o s l
    → AreObjects judged (objects ++ o ∷ []) (scripts ++ s ∷ []) (outlines ++ l ∷ [])
AreObjects-push judged objects scripts outlines o s l old here =
    let long_o = length-append objects (o ∷ []) in
    let long_s = length-append scripts (s ∷ []) in
    let long_l = length-append outlines (l ∷ []) in
    let count_s : length objects ≡ length scripts = old.script_count in
    let count_l : length objects ≡ length outlines = old.outline_count in
    record {
      script_count = omega arith;
      outline_count = omega arith;
      each = λ n a b d h.
          ⊎_elim
          (λ (below : n < length objects).
          let in_s : n < length scripts = omega arith in
          let in_l : n < length outlines = omega arith in
          subst (λ (x : Placed). IsWholeObject judged n x (get_or (scripts ++ s ∷ []) n b) (get_or (outlines ++ l ∷ []) n d)) (sym (get_or_append_left objects (o ∷ []) a n below))
          (subst (λ (x : JudgedScript). IsWholeObject judged n (get_or objects n a) x (get_or (outlines ++ l ∷ []) n d)) (sym (get_or_append_left scripts (s ∷ []) b n in_s))
          (subst (λ (x : OutlineScript). IsWholeObject judged n (get_or objects n a) (get_or scripts n b) x) (sym (get_or_append_left outlines (l ∷ []) d n in_l)) (old.each n a b d below))))
          (λ (past : length objects ≤ n).
          let at_o : n ≡ length objects = omega arith in
          let at_s : n ≡ length scripts = omega arith in
          let at_l : n ≡ length outlines = omega arith in
          let first : get_or (objects ++ o ∷ []) n a ≡ o = ap (λ (k : ℕ). get_or (objects ++ o ∷ []) k a) at_o ∙ get_or-append_seam objects o [] a in
          let second : get_or (scripts ++ s ∷ []) n b ≡ s = ap (λ (k : ℕ). get_or (scripts ++ s ∷ []) k b) at_s ∙ get_or-append_seam scripts s [] b in
          let third : get_or (outlines ++ l ∷ []) n d ≡ l = ap (λ (k : ℕ). get_or (outlines ++ l ∷ []) k d) at_l ∙ get_or-append_seam outlines l [] d in
          let number : IsWholeObject judged n o s l = subst (λ (k : ℕ). IsWholeObject judged k o s l) (sym at_s) here in
          subst (λ (x : Placed). IsWholeObject judged n x (get_or (scripts ++ s ∷ []) n b) (get_or (outlines ++ l ∷ []) n d)) (sym first)
          (subst (λ (x : JudgedScript). IsWholeObject judged n o x (get_or (outlines ++ l ∷ []) n d)) (sym second)
          (subst (λ (x : OutlineScript). IsWholeObject judged n o s x) (sym third) number)))
          (cases_lt n (length objects));
    }
