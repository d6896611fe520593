-- What holds of the scripts of a set that one more was put behind.
use Rattle.std.proofs.Common.{◌≡◌, ℕ, ◌<◌, ◌≤◌, List, [], ◌∷◌, ◌++◌, length, get_or, sym, ap, subst, ◌∙◌, ⊎_elim, length-append, arith}
use Rattle.std.proofs.lemmas.Bool.{cases_lt}
use Rattle.std.proofs.lemmas.List.{get_or_append_left}
use Rattle.std.proofs.Math.Seq.{get_or-append_seam}
use Rattle.core_tree.specs.declared.outline.OutlineScript.{OutlineScript}
use Rattle.pex_verify.specs.declared.judged.JudgedScript.{JudgedScript}
use Rattle.pex_verify.specs.Sets.{AreSoundOutlines, AreSoundScripts, IsSoundPair}
use Rattle.pex_verify.specs.Soundness.{IsSoundOutline}

pub AreSoundScripts-push : (count : ℕ) (os : List OutlineScript) (ss : List JudgedScript) (o : OutlineScript) (s : JudgedScript) → AreSoundScripts count os ss → length ss < 4102 → IsSoundPair count o s
    → AreSoundScripts count (os ++ o ∷ []) (ss ++ s ∷ [])
AreSoundScripts-push count os ss o s old few here =
    let long_o = length-append os (o ∷ []) in
    let long_s = length-append ss (s ∷ []) in
    let one_each : length os ≡ length ss = old.one_each in
    record {
      one_each = omega arith;
      numbered = omega arith;
      each = λ n a b h.
          ⊎_elim
          (λ (l : n < length ss).
          let short : n < length os = omega arith in
          subst (λ (x : OutlineScript). IsSoundPair count x (get_or (ss ++ s ∷ []) n b)) (sym (get_or_append_left os (o ∷ []) a n short))
          (subst (λ (x : JudgedScript). IsSoundPair count (get_or os n a) x) (sym (get_or_append_left ss (s ∷ []) b n l)) (old.each n a b l)))
          (λ (g : length ss ≤ n).
          let same : n ≡ length ss = omega arith in
          let also : n ≡ length os = omega arith in
          let first : get_or (os ++ o ∷ []) n a ≡ o = ap (λ (k : ℕ). get_or (os ++ o ∷ []) k a) also ∙ get_or-append_seam os o [] a in
          let last : get_or (ss ++ s ∷ []) n b ≡ s = ap (λ (k : ℕ). get_or (ss ++ s ∷ []) k b) same ∙ get_or-append_seam ss s [] b in
          subst (λ (x : OutlineScript). IsSoundPair count x (get_or (ss ++ s ∷ []) n b)) (sym first) (subst (λ (x : JudgedScript). IsSoundPair count o x) (sym last) here))
          (cases_lt n (length ss));
    }

-- the outline of one script of a set
outline_sound : (count : ℕ) (os : List OutlineScript) (ss : List JudgedScript) → AreSoundScripts count os ss → (n : ℕ) (o : OutlineScript) → n < length ss → IsSoundOutline count (get_or os n o)
outline_sound count os [] sound n o h = absurd (omega (arith, h))
outline_sound count os (s ∷ ss) sound n o h = (sound.each n o s h).outline

-- the outlines of all scripts of a set
pub outlines_sound : (many count : ℕ) (os : List OutlineScript) (ss : List JudgedScript) → many ≡ count → length ss ≡ count → AreSoundScripts many os ss → AreSoundOutlines count os
outlines_sound many count os ss same counted sound = record {
  number = sound.one_each ∙ counted;
  each = λ n o h. subst (λ (k : ℕ). IsSoundOutline k (get_or os n o)) same (outline_sound many os ss sound n o (omega (arith, h, counted)));
}
