-- A piece stands where it is completed, no front completes a longer one, and no rule is broken.
use Rattle.std.proofs.Common.{◌≡◌, ℕ, suc, ◌≤◌, List, [], ◌∷◌, ◌++◌, length, take, drop, sym, subst, ◌∙◌, arith}
use Rattle.std.proofs.lemmas.List.{length-take, take-append-drop}
use Rattle.script_lexer.specs.declared.opening.Opening.{Opening}
use Rattle.script_lexer.specs.declared.piece.Piece.{Piece}
use Rattle.script_lexer.specs.declared.fault.LexRule.{LexRule}
use Rattle.script_lexer.specs.Bytes.{opening_of}
use Rattle.script_lexer.specs.Pieces.{Completes, Spells}
use Rattle.script_lexer.specs.Rules.{rule_number, BreaksFrom}
use Rattle.script_lexer.specs.Answers.{Stands, IsLowest}

no_longer : (o : Opening) (b : ℕ) (bs : List ℕ) (n : ℕ) → n ≤ length bs → opening_of b ≡ o
    → ((os back : List ℕ) (q : Piece) → bs ≡ os ++ back → Completes o b os q → length os ≤ n)
    → (other back : List ℕ) (q : Piece) → (b ∷ take n bs) ++ drop n bs ≡ other ++ back → Spells other q → length other ≤ length (b ∷ take n bs)
no_longer o b bs n within opens most [] back q same spelled = absurd spelled
no_longer o b bs n within opens most (c ∷ os) back q same spelled =
    let head : b ≡ c = cc in
    let tail : take n bs ++ drop n bs ≡ os ++ back = cc in
    let rest : bs ≡ os ++ back = sym (take-append-drop n bs) ∙ tail in
    let at_c : Completes (opening_of b) b os q = subst (λ (x : ℕ). Completes (opening_of x) x os q) (sym head) spelled in
    let whole : Completes o b os q = subst (λ (x : Opening). Completes x b os q) opens at_c in
    let le : length os ≤ n = most os back q rest whole in
    omega (arith, length-take n bs)

pub stands : (o : Opening) (b : ℕ) (bs : List ℕ) (p : Piece) (n m : ℕ) → m ≡ suc n → n ≤ length bs → opening_of b ≡ o
    → Completes o b (take n bs) p
    → ((os back : List ℕ) (q : Piece) → bs ≡ os ++ back → Completes o b os q → length os ≤ n)
    → ((r : LexRule) → BreaksFrom o r b bs → ⊥)
    → Stands (b ∷ bs) p m
stands o b bs p n m e within opens whole most none =
    let at_suc : Stands (b ∷ bs) p (suc n) = record {
      some = omega arith;
      within = omega arith;
      longest = record {
        spelled = subst (λ (x : Opening). Completes x b (take n bs) p) (sym opens) whole;
        longest = no_longer o b bs n within opens most;
      };
      unbroken = λ r broken. none r (subst (λ (x : Opening). BreaksFrom x r b bs) opens broken);
    } in
    subst (Stands (b ∷ bs) p) (sym e) at_suc

pub lowest : (o : Opening) (b : ℕ) (bs : List ℕ) (r : LexRule) → opening_of b ≡ o → BreaksFrom o r b bs
    → ((q : LexRule) → BreaksFrom o q b bs → rule_number r ≤ rule_number q)
    → IsLowest (b ∷ bs) r
lowest o b bs r opens broken least = record {
  broken = subst (λ (x : Opening). BreaksFrom x r b bs) (sym opens) broken;
  lowest = λ q h. least q (subst (λ (x : Opening). BreaksFrom x q b bs) opens h);
}
