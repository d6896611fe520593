-- Joins, documentations and comments.
use Rattle.std.proofs.Common.{◌≡◌, ℕ, zero, suc, ◌+◌, ◌<◌, ◌≤◌, Bool, true, false, eqb, List, [], ◌∷◌, ◌++◌, length, get_or, take, drop, Some, None, refl, sym, ap, subst, ◌∙◌, ⊎_elim, arith, lit≤}
use Rattle.std.specs.Prelude.{◌&&◌, MatchBool, ◌==◌}
use Rattle.std.specs.List.{prefix_len}
use Rattle.std.proofs.lemmas.Bool.{eqb-true, eqb-false, eq-eqb, not-false, cases_Bool, cases_lt, and_parts}
use Rattle.std.proofs.lemmas.List.{length-drop, length-append, take-append-drop, drop_all, drop_more, take-take, append-nil, append_cancel_right}
use Rattle.std.proofs.lemmas.List.Sums.{prefix_len-le-length, prefix_len_stops}
use Rattle.script_lexer.specs.declared.opening.Opening.TheVariants as opening
use Rattle.script_lexer.specs.declared.token.Token.TheVariants as token
use Rattle.script_lexer.specs.declared.piece.Piece.TheVariants as piece
use Rattle.script_lexer.specs.declared.fault.LexRule.{LexRule}
use Rattle.script_lexer.specs.declared.fault.LexRule.TheVariants as rule
use Rattle.script_lexer.specs.Rules.{rule_number, BreaksFrom, BeginsWith}
use Rattle.script_lexer.specs.Answers.{Opens, Stands, IsLowest}
use Rattle.script_lexer.proofs.Standing.{stands, lowest}
use Rattle.script_lexer.specs.Bytes.{opening_of, is_blank, is_comment_byte, is_documentation_byte}
use Rattle.script_lexer.specs.Pieces.{IsComment, behind_close}
use Rattle.script_lexer.specs.Rules.{IsOpenComment}
use Rattle.script_lexer.specs.Answers.{begins_block}
use Rattle.script_lexer.proofs.Runs.{whole_run, stopped_run, run_past, behind_front, behind_front_more, stopped_length}

-- a piece that ends where a run stops is no longer than the run and one byte
most_stopped : (p : ℕ → Bool) (bs os back : List ℕ) (x : ℕ) → bs ≡ os ++ back → drop (prefix_len p os) os ≡ x ∷ [] → length os ≤ prefix_len p bs + 1
most_stopped p bs os back x e h =
    let len : length os ≡ prefix_len p os + 1 = stopped_length p os x h in
    let same : prefix_len p (os ++ back) ≡ prefix_len p os = stopped_run p os back (omega arith) in
    let here : prefix_len p bs ≡ prefix_len p os = ap (prefix_len p) e ∙ same in
    omega arith

-- ---- joins

no_join_rule : (b : ℕ) (bs : List ℕ) → BeginsWith (λ c. eqb c 10) (drop (prefix_len is_blank bs) bs) → (r : LexRule) → BreaksFrom opening.Join r b bs → ⊥
no_join_rule b bs h rule.BadByte broken = broken h
no_join_rule b bs h rule.OpenText broken = broken
no_join_rule b bs h rule.BadEscape broken = broken
no_join_rule b bs h rule.FloatLiteral broken = broken
no_join_rule b bs h rule.FloatWord broken = broken
no_join_rule b bs h rule.NumberRange broken = broken
no_join_rule b bs h rule.TextTooLong broken = broken
no_join_rule b bs h rule.OpenComment broken = broken
no_join_rule b bs h rule.TooLarge broken = broken

join_at : (b : ℕ) (bs : List ℕ) → opening_of b ≡ opening.Join → prefix_len is_blank bs < length bs → get_or bs (prefix_len is_blank bs) 0 ≡ 10 → Stands (b ∷ bs) piece.Join (prefix_len is_blank bs + 2)
join_at b bs opens lt at =
    let k = prefix_len is_blank bs in
    let begins : drop k bs ≡ get_or bs k 0 ∷ drop (k + 1) bs = drop_more bs k 0 lt in
    stands opening.Join b bs piece.Join (k + 1) (k + 2) (omega arith) (omega arith) opens
    (behind_front_more is_blank bs lt ∙ ap (λ (x : ℕ). x ∷ []) at, refl)
    (λ os back q e h. most_stopped is_blank bs os back 10 e h.0)
    (no_join_rule b bs (rw (begins, at) refl))

pub join_stands : (rest behind : List ℕ) (k : ℕ) → Opens opening.Join rest → behind ≡ drop 1 rest → k ≡ prefix_len is_blank behind → k < length behind → get_or behind k 0 ≡ 10 → Stands rest piece.Join (k + 2)
join_stands [] behind k opens is_behind run lt at = absurd opens
join_stands (b ∷ bs) behind k opens is_behind run lt at =
    let r : k ≡ prefix_len is_blank bs = run ∙ ap (prefix_len is_blank) is_behind in
    let lt' : prefix_len is_blank bs < length bs = omega (arith, r, ap length is_behind) in
    let at' : get_or bs (prefix_len is_blank bs) 0 ≡ 10 = cc in
    subst (λ (n : ℕ). Stands (b ∷ bs) piece.Join (n + 2)) (sym r) (join_at b bs opens lt' at')

-- what stands behind the blanks is no line end
not_begun : (bs : List ℕ) (k : ℕ) → (k < length bs → get_or bs k 0 ≡ 10 → ⊥) → BeginsWith (λ c. eqb c 10) (drop k bs) → ⊥
not_begun bs k none h =
    ⊎_elim
    (λ lt. let begins = drop_more bs k 0 lt in
    let is_ten : eqb (get_or bs k 0) 10 ≡ true = rw begins at h in
    none lt (eqb-true _ _ is_ten))
    (λ le. let ends = drop_all k bs le in
    let no : ⊥ = rw ends at h in no)
    (cases_lt k (length bs))

join_least : (b : ℕ) (bs : List ℕ) → (r : LexRule) → BreaksFrom opening.Join r b bs → 1 ≤ rule_number r
join_least b bs rule.BadByte broken = lit≤ tt
join_least b bs rule.OpenText broken = lit≤ tt
join_least b bs rule.BadEscape broken = lit≤ tt
join_least b bs rule.FloatLiteral broken = lit≤ tt
join_least b bs rule.FloatWord broken = lit≤ tt
join_least b bs rule.NumberRange broken = lit≤ tt
join_least b bs rule.TextTooLong broken = lit≤ tt
join_least b bs rule.OpenComment broken = lit≤ tt
join_least b bs rule.TooLarge broken = lit≤ tt

pub join_refused : (rest behind : List ℕ) (k : ℕ) → Opens opening.Join rest → behind ≡ drop 1 rest → k ≡ prefix_len is_blank behind → (k < length behind → get_or behind k 0 ≡ 10 → ⊥) → IsLowest rest rule.BadByte
join_refused [] behind k opens is_behind run none = absurd opens
join_refused (b ∷ bs) behind k opens is_behind run none =
    let none' : k < length bs → get_or bs k 0 ≡ 10 → ⊥ = subst (λ (t : List ℕ). k < length t → get_or t k 0 ≡ 10 → ⊥) is_behind none in
    let r : k ≡ prefix_len is_blank bs = run ∙ ap (prefix_len is_blank) is_behind in
    let open_end : BeginsWith (λ c. eqb c 10) (drop (prefix_len is_blank bs) bs) → ⊥ = subst (λ (n : ℕ). BeginsWith (λ c. eqb c 10) (drop n bs) → ⊥) r (not_begun bs k none') in
    lowest opening.Join b bs rule.BadByte opens open_end (join_least b bs)

-- ---- documentations

no_documentation_rule : (b : ℕ) (bs : List ℕ) → prefix_len is_documentation_byte bs < length bs → prefix_len is_documentation_byte bs ≤ 65535 → (r : LexRule) → BreaksFrom opening.Documentation r b bs → ⊥
no_documentation_rule b bs lt le rule.BadByte broken = broken
no_documentation_rule b bs lt le rule.OpenText broken = broken
no_documentation_rule b bs lt le rule.BadEscape broken = broken
no_documentation_rule b bs lt le rule.FloatLiteral broken = broken
no_documentation_rule b bs lt le rule.FloatWord broken = broken
no_documentation_rule b bs lt le rule.NumberRange broken = broken
no_documentation_rule b bs lt le rule.TextTooLong broken = absurd (omega arith)
no_documentation_rule b bs lt le rule.OpenComment broken = let none : length (drop (prefix_len is_documentation_byte bs) bs) ≡ 0 = ap length broken in absurd (omega (arith, length-drop (prefix_len is_documentation_byte bs) bs))
no_documentation_rule b bs lt le rule.TooLarge broken = broken

documentation_at : (b : ℕ) (bs : List ℕ) → opening_of b ≡ opening.Documentation → prefix_len is_documentation_byte bs < length bs → prefix_len is_documentation_byte bs ≤ 65535
    → Stands (b ∷ bs) (piece.Token (token.Doc (take (prefix_len is_documentation_byte bs) bs))) (prefix_len is_documentation_byte bs + 2)
documentation_at b bs opens lt le =
    let k = prefix_len is_documentation_byte bs in
    let is_brace : get_or bs k 0 ≡ 125 = eqb-true _ _ (not-false _ (prefix_len_stops is_documentation_byte bs 0 lt)) in
    let inner : take (prefix_len is_documentation_byte (take (k + 1) bs)) (take (k + 1) bs) ≡ take k bs =
    rw (run_past is_documentation_byte bs (k + 1) (omega arith)) (take-take k (k + 1) bs (omega arith)) in
    stands opening.Documentation b bs (piece.Token (token.Doc (take k bs))) (k + 1) (k + 2) (omega arith) (omega arith) opens
    (behind_front_more is_documentation_byte bs lt ∙ ap (λ (x : ℕ). x ∷ []) is_brace, ap (λ (t : List ℕ). piece.Token (token.Doc t)) (sym inner))
    (λ os back q e h. most_stopped is_documentation_byte bs os back 125 e h.0)
    (no_documentation_rule b bs lt le)

pub documentation_stands : (rest behind text : List ℕ) (k : ℕ) → Opens opening.Documentation rest → behind ≡ drop 1 rest → k ≡ prefix_len is_documentation_byte behind → k ≤ 65535 → k < length behind → text ≡ take k behind
    → Stands rest (piece.Token (token.Doc text)) (k + 2)
documentation_stands [] behind text k opens is_behind run le lt is_text = absurd opens
documentation_stands (b ∷ bs) behind text k opens is_behind run le lt is_text =
    let r : k ≡ prefix_len is_documentation_byte bs = run ∙ ap (prefix_len is_documentation_byte) is_behind in
    let t : text ≡ take (prefix_len is_documentation_byte bs) bs = cc in
    let lt' : prefix_len is_documentation_byte bs < length bs = omega (arith, r, ap length is_behind) in
    subst (λ (x : List ℕ). Stands (b ∷ bs) (piece.Token (token.Doc x)) (k + 2)) (sym t)
    (subst (λ (n : ℕ). Stands (b ∷ bs) (piece.Token (token.Doc (take (prefix_len is_documentation_byte bs) bs))) (n + 2)) (sym r) (documentation_at b bs opens lt' (omega arith)))

documentation_least_long : (b : ℕ) (bs : List ℕ) → (r : LexRule) → BreaksFrom opening.Documentation r b bs → 7 ≤ rule_number r
documentation_least_long b bs rule.BadByte broken = absurd broken
documentation_least_long b bs rule.OpenText broken = absurd broken
documentation_least_long b bs rule.BadEscape broken = absurd broken
documentation_least_long b bs rule.FloatLiteral broken = absurd broken
documentation_least_long b bs rule.FloatWord broken = absurd broken
documentation_least_long b bs rule.NumberRange broken = absurd broken
documentation_least_long b bs rule.TextTooLong broken = lit≤ tt
documentation_least_long b bs rule.OpenComment broken = lit≤ tt
documentation_least_long b bs rule.TooLarge broken = lit≤ tt

pub documentation_too_long : (rest behind : List ℕ) (k : ℕ) → Opens opening.Documentation rest → behind ≡ drop 1 rest → k ≡ prefix_len is_documentation_byte behind → 65535 < k → IsLowest rest rule.TextTooLong
documentation_too_long [] behind k opens is_behind run gt = absurd opens
documentation_too_long (b ∷ bs) behind k opens is_behind run gt =
    let r : k ≡ prefix_len is_documentation_byte bs = run ∙ ap (prefix_len is_documentation_byte) is_behind in
    lowest opening.Documentation b bs rule.TextTooLong opens (omega arith) (documentation_least_long b bs)

documentation_least_open : (b : ℕ) (bs : List ℕ) → prefix_len is_documentation_byte bs ≤ 65535 → (r : LexRule) → BreaksFrom opening.Documentation r b bs → 8 ≤ rule_number r
documentation_least_open b bs le rule.BadByte broken = absurd broken
documentation_least_open b bs le rule.OpenText broken = absurd broken
documentation_least_open b bs le rule.BadEscape broken = absurd broken
documentation_least_open b bs le rule.FloatLiteral broken = absurd broken
documentation_least_open b bs le rule.FloatWord broken = absurd broken
documentation_least_open b bs le rule.NumberRange broken = absurd broken
documentation_least_open b bs le rule.TextTooLong broken = absurd (omega arith)
documentation_least_open b bs le rule.OpenComment broken = lit≤ tt
documentation_least_open b bs le rule.TooLarge broken = lit≤ tt

pub documentation_open : (rest behind : List ℕ) (k : ℕ) → Opens opening.Documentation rest → behind ≡ drop 1 rest → k ≡ prefix_len is_documentation_byte behind → k ≤ 65535 → length behind ≤ k → IsLowest rest rule.OpenComment
documentation_open [] behind k opens is_behind run le ge = absurd opens
documentation_open (b ∷ bs) behind k opens is_behind run le ge =
    let r : k ≡ prefix_len is_documentation_byte bs = run ∙ ap (prefix_len is_documentation_byte) is_behind in
    lowest opening.Documentation b bs rule.OpenComment opens (drop_all (prefix_len is_documentation_byte bs) bs (omega (arith, r, ap length is_behind))) (documentation_least_open b bs (omega arith))

-- ---- comments up to the line's end

begins_block-take : (bs : List ℕ) (n : ℕ) → begins_block bs ≡ false → begins_block (take n bs) ≡ false
begins_block-take [] zero e = refl
begins_block-take [] (suc n) e = refl
begins_block-take (x ∷ bs) zero e = refl
begins_block-take (x ∷ bs) (suc n) e = e

is_line_comment : (bs : List ℕ) → begins_block bs ≡ false → drop (prefix_len is_comment_byte bs) bs ≡ [] → IsComment bs
is_line_comment [] e h = tt
is_line_comment (x ∷ bs) e h = subst (λ (t : Bool). MatchBool t (behind_close bs ≡ Some []) (drop (prefix_len is_comment_byte (x ∷ bs)) (x ∷ bs) ≡ [])) (sym e) h

line_comment_run : (bs : List ℕ) → begins_block bs ≡ false → IsComment bs → drop (prefix_len is_comment_byte bs) bs ≡ []
line_comment_run [] e h = refl
line_comment_run (x ∷ bs) e h = subst (λ (t : Bool). MatchBool t (behind_close bs ≡ Some []) (drop (prefix_len is_comment_byte (x ∷ bs)) (x ∷ bs) ≡ [])) e h

begins_block-front : (os back : List ℕ) → begins_block (os ++ back) ≡ false → begins_block os ≡ false
begins_block-front [] back e = refl
begins_block-front (x ∷ os) back e = e

not_open_comment : (bs : List ℕ) → begins_block bs ≡ false → IsOpenComment bs → ⊥
not_open_comment [] e h = h
not_open_comment (x ∷ bs) e h = eqb-false x 47 e h.0

no_line_comment_rule : (b : ℕ) (bs : List ℕ) → begins_block bs ≡ false → (r : LexRule) → BreaksFrom opening.Comment r b bs → ⊥
no_line_comment_rule b bs e rule.BadByte broken = broken
no_line_comment_rule b bs e rule.OpenText broken = broken
no_line_comment_rule b bs e rule.BadEscape broken = broken
no_line_comment_rule b bs e rule.FloatLiteral broken = broken
no_line_comment_rule b bs e rule.FloatWord broken = broken
no_line_comment_rule b bs e rule.NumberRange broken = broken
no_line_comment_rule b bs e rule.TextTooLong broken = broken
no_line_comment_rule b bs e rule.OpenComment broken = not_open_comment bs e broken
no_line_comment_rule b bs e rule.TooLarge broken = broken

pub line_comment_stands : (rest behind : List ℕ) (k : ℕ) → Opens opening.Comment rest → behind ≡ drop 1 rest → k ≡ prefix_len is_comment_byte behind → begins_block (drop 1 rest) ≡ false → Stands rest piece.Comment (1 + k)
line_comment_stands [] behind k opens is_behind run line = absurd opens
line_comment_stands (b ∷ bs) behind k opens is_behind run line =
    let r : k ≡ prefix_len is_comment_byte bs = run ∙ ap (prefix_len is_comment_byte) is_behind in
    let n = prefix_len is_comment_byte bs in
    let at_n : Stands (b ∷ bs) piece.Comment (1 + n) = stands opening.Comment b bs piece.Comment n (1 + n) (omega arith) (prefix_len-le-length is_comment_byte bs) opens
    (is_line_comment (take n bs) (begins_block-take bs n line) (behind_front is_comment_byte bs), refl)
    (λ os back q e h.
    let run_os : drop (prefix_len is_comment_byte os) os ≡ [] = line_comment_run os (begins_block-front os back (ap begins_block (sym e) ∙ line)) h.0 in
    let le : length os ≤ prefix_len is_comment_byte (os ++ back) = whole_run is_comment_byte os back run_os in
    rw e le)
    (no_line_comment_rule b bs line) in
    subst (λ (m : ℕ). Stands (b ∷ bs) piece.Comment (1 + m)) (sym r) at_n

-- ---- comments of several lines

-- the bytes up to the close close, whatever follows them
record Closes (bs after : List ℕ) : Type 0 where
  first : ℕ
  others : List ℕ
  split : bs ≡ (first ∷ others) ++ after
  any : (more : List ℕ) → behind_close ((first ∷ others) ++ more) ≡ Some more

closes_later : (b c : ℕ) (bs after : List ℕ) → ((b == 47) && (c == 59)) ≡ false → Closes (c ∷ bs) after → Closes (b ∷ c ∷ bs) after
closes_later b c bs after test h =
    let head : c ≡ h.first = ap (λ (t : List ℕ). get_or t 0 0) h.split in
    record {
      first = b;
      others = h.first ∷ h.others;
      split = ap (λ (t : List ℕ). b ∷ t) h.split;
      any = λ more. let test' : ((b == 47) && (h.first == 59)) ≡ false = subst (λ (x : ℕ). ((b == 47) && (x == 59)) ≡ false) head test in rw test' (h.any more);
    }

closes_now : (b c : ℕ) (bs after : List ℕ) → ((b == 47) && (c == 59)) ≡ true → bs ≡ after → Closes (b ∷ c ∷ bs) after
closes_now b c bs after test e = record {
  first = b;
  others = c ∷ [];
  split = ap (λ (t : List ℕ). b ∷ c ∷ t) e;
  any = λ more. rw test refl;
}

closes : (bs after : List ℕ) → behind_close bs ≡ Some after → Closes bs after
closes [] after e = absurd cc
closes (b ∷ []) after e = absurd cc
closes (b ∷ c ∷ bs) after e =
    ⊎_elim
    (λ (t : ((b == 47) && (c == 59)) ≡ true). let found : Some bs ≡ Some after = rw t at e in closes_now b c bs after t cc)
    (λ (t : ((b == 47) && (c == 59)) ≡ false). let later : behind_close (c ∷ bs) ≡ Some after = rw t at e in closes_later b c bs after t (closes (c ∷ bs) after later))
    (cases_Bool ((b == 47) && (c == 59)))

-- the bytes up to a close are whole, and those that are whole close there
close_take : (bs : List ℕ) (n : ℕ) → n ≤ length bs → behind_close bs ≡ Some (drop n bs) → behind_close (take n bs) ≡ Some []
close_take bs n le e =
    let h = closes bs (drop n bs) e in
    let same : take n bs ≡ h.first ∷ h.others = append_cancel_right (take n bs) (h.first ∷ h.others) (drop n bs) (take-append-drop n bs ∙ h.split) in
    rw same (ap behind_close (sym (append-nil (h.first ∷ h.others))) ∙ h.any [])

close_whole : (os back : List ℕ) → behind_close os ≡ Some [] → behind_close (os ++ back) ≡ Some back
close_whole os back e =
    let h = closes os [] e in
    let whole : os ≡ h.first ∷ h.others = h.split ∙ append-nil (h.first ∷ h.others) in
    rw whole (h.any back)

not_left_open : (bs after : List ℕ) → behind_close (drop 1 bs) ≡ Some after → IsOpenComment bs → ⊥
not_left_open [] after e h = h
not_left_open (x ∷ bs) after e h = absurd cc

no_block_comment_rule : (b : ℕ) (bs after : List ℕ) → behind_close (drop 1 bs) ≡ Some after → (r : LexRule) → BreaksFrom opening.Comment r b bs → ⊥
no_block_comment_rule b bs after e rule.BadByte broken = broken
no_block_comment_rule b bs after e rule.OpenText broken = broken
no_block_comment_rule b bs after e rule.BadEscape broken = broken
no_block_comment_rule b bs after e rule.FloatLiteral broken = broken
no_block_comment_rule b bs after e rule.FloatWord broken = broken
no_block_comment_rule b bs after e rule.NumberRange broken = broken
no_block_comment_rule b bs after e rule.TextTooLong broken = broken
no_block_comment_rule b bs after e rule.OpenComment broken = not_left_open bs after e broken
no_block_comment_rule b bs after e rule.TooLarge broken = broken

block_most : (body os back : List ℕ) (x n : ℕ) → x ≡ 47 → n ≤ length body → behind_close body ≡ Some (drop n body) → x ∷ body ≡ os ++ back → IsComment os → length os ≤ n + 1
block_most body [] back x n is_slash le e same h = omega arith
block_most body (y ∷ os) back x n is_slash le e same h =
    let slash : y ≡ 47 = cc in
    let tail : body ≡ os ++ back = cc in
    let test : (y == 47) ≡ true = eq-eqb _ _ slash in
    let closed : behind_close os ≡ Some [] = subst (λ (t : Bool). MatchBool t (behind_close os ≡ Some []) (drop (prefix_len is_comment_byte (y ∷ os)) (y ∷ os) ≡ [])) test h in
    let here : behind_close body ≡ Some back = ap behind_close tail ∙ close_whole os back closed in
    let is_back : drop n body ≡ back = cc in
    omega (arith, ap length tail, length-append os back, ap length is_back, length-drop n body)

block_is_comment : (x : ℕ) (bs : List ℕ) → x ≡ 47 → behind_close bs ≡ Some [] → IsComment (x ∷ bs)
block_is_comment x bs slash e = subst (λ (t : Bool). MatchBool t (behind_close bs ≡ Some []) (drop (prefix_len is_comment_byte (x ∷ bs)) (x ∷ bs) ≡ [])) (sym (eq-eqb _ _ slash)) e

block_at : (b x : ℕ) (body : List ℕ) (n : ℕ) → opening_of b ≡ opening.Comment → x ≡ 47 → n ≤ length body → behind_close body ≡ Some (drop n body) → Stands (b ∷ x ∷ body) piece.Comment (n + 2)
block_at b x body n opens slash le e =
    stands opening.Comment b (x ∷ body) piece.Comment (suc n) (n + 2) (omega arith) (omega arith) opens
    (block_is_comment x (take n body) slash (close_take body n le e), refl)
    (λ os back q same h. let most : length os ≤ n + 1 = block_most body os back x n slash le e same h.0 in omega arith)
    (no_block_comment_rule b (x ∷ body) (drop n body) e)

pub block_comment_stands : (rest body : List ℕ) (n : ℕ) → Opens opening.Comment rest → begins_block (drop 1 rest) ≡ true → body ≡ drop 2 rest → n ≤ length body → behind_close body ≡ Some (drop n body) → Stands rest piece.Comment (n + 2)
block_comment_stands [] body n opens block is_body le e = absurd opens
block_comment_stands (b ∷ []) body n opens block is_body le e = absurd cc
block_comment_stands (b ∷ x ∷ bs) body n opens block is_body le e =
    block_at b x bs n opens (eqb-true _ _ block) (subst (λ (t : List ℕ). n ≤ length t) is_body le) (subst (λ (t : List ℕ). behind_close t ≡ Some (drop n t)) is_body e)

-- ---- the search for a close

close_step : (b c : ℕ) (bs : List ℕ) → (b ≡ 47 → c ≡ 59 → ⊥) → behind_close (b ∷ c ∷ bs) ≡ behind_close (c ∷ bs)
close_step b c bs h =
    ⊎_elim
    (λ (t : ((b == 47) && (c == 59)) ≡ true). let p = and_parts (b == 47) (c == 59) t in absurd (h (eqb-true b 47 p.0) (eqb-true c 59 p.1)))
    (λ (t : ((b == 47) && (c == 59)) ≡ false). rw t refl)
    (cases_Bool ((b == 47) && (c == 59)))

pub close_goes_on : (bs : List ℕ) (i j k : ℕ) → j ≡ i + 1 → k ≡ j → j < length bs → (get_or bs i 0 ≡ 47 → get_or bs j 0 ≡ 59 → ⊥) → behind_close (drop i bs) ≡ behind_close (drop k bs)
close_goes_on bs i j k is_j is_k lt h =
    let one : drop i bs ≡ get_or bs i 0 ∷ drop (i + 1) bs = drop_more bs i 0 (omega arith) in
    let two : drop j bs ≡ get_or bs j 0 ∷ drop (j + 1) bs = drop_more bs j 0 lt in
    ap behind_close (one ∙ ap (λ (n : ℕ). get_or bs i 0 ∷ drop n bs) (sym is_j) ∙ ap (λ (t : List ℕ). get_or bs i 0 ∷ t) two) ∙ close_step (get_or bs i 0) (get_or bs j 0) (drop (j + 1) bs) h ∙ ap behind_close (sym two) ∙ ap (λ (n : ℕ). behind_close (drop n bs)) (sym is_k)

pub close_missing : (bs : List ℕ) (i : ℕ) → length bs ≤ i + 1 → behind_close (drop i bs) ≡ None
close_missing bs i le = short (drop i bs) (omega (arith, length-drop i bs))
  where
    short : (t : List ℕ) → length t ≤ 1 → behind_close t ≡ None
    short [] h = refl
    short (x ∷ []) h = refl
    short (x ∷ y ∷ t) h = absurd (omega arith)
