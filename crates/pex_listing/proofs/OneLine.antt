-- The first word of a text, and that lines are read in one way.
use Rattle.std.proofs.Common.{◌≡◌, ℕ, ◌<◌, ◌≤◌, ◌^◌, ◌==◌, cond, Bool, true, false, List, [], ◌∷◌, ◌++◌, length, Option, Some, None, refl, sym, subst, ap, ◌∙◌, append_assoc, ⊎_elim, arith}
use Rattle.std.specs.Prelude.{codes}
use Rattle.std.specs.Int.{w32, byte_at, from_be_bytes}
use Rattle.std.specs.List.{flat_map, AllByRecursion, position_or_len}
use Rattle.std.specs.Str.{bytes_eq}
use Rattle.std.proofs.lemmas.Bool.{agree_below_at, and_parts, cases_lt, eqb-true, eqb-false, not-true}
use Rattle.std.proofs.lemmas.Nat.{from_be_bytes-to_be_bytes_4}
use Rattle.std.proofs.lemmas.Option.{slice_get_past}
use Rattle.pex_values.specs.declared.values.Datum.{Datum}
use Rattle.pex_values.specs.declared.values.Datum.TheVariants.{NoneValue, Word, Quoted, Int, Float, Bool as BoolByte}
use Rattle.pex_values.specs.Opcodes.{operand_table, operands_of}
use Rattle.pex_values.specs.Plain.{PlainInstruction}
use Rattle.pex_values.specs.Shape.{AgreesWith, ArePair, IsReference, IsShapedDatum, IsShapedInstruction}
use Rattle.pex_values.specs.Spelling.{four_bytes}
use Rattle.pex_listing.specs.Lines.{eight_digits, reference}
use Rattle.pex_listing.specs.Listing.{datum, instruction, name, opcode_name, opcode_names, pair}
use Rattle.pex_listing.proofs.Cuts.{Same, byte, cut, ends_field, front, is_behind, is_token, past, same_front}
use Rattle.pex_listing.proofs.OneField.{digits_same, number_same, reference_same, signed_same}

-- ---- what a text begins with

abbrev pub first_word : List ℕ → List ℕ
first_word [] = []
first_word (b ∷ t) = cond (ends_field b) [] (b ∷ first_word t)

-- where lines of this word stand among others: those that may stand behind a line have a higher rank than its own parts
abbrev pub word_rank : List ℕ → ℕ
word_rank w =
    cond (bytes_eq w []) 20 (cond (bytes_eq w (codes "local")) 1 (cond (bytes_eq w (codes "param")) 2 (cond (bytes_eq w (codes "read")) 3
    (cond (bytes_eq w (codes "write")) 3 (cond (bytes_eq w (codes "function")) 4 (cond (bytes_eq w (codes "state")) 5 (cond (bytes_eq w (codes "property")) 6
    (cond (bytes_eq w (codes "variable")) 7 (cond (bytes_eq w (codes "object")) 8 (cond (bytes_eq w (codes "flag")) 9 (cond (bytes_eq w (codes "lines")) 10
    (cond (bytes_eq w (codes "debug")) 11 (cond (bytes_eq w (codes "nodebug")) 11 (cond (bytes_eq w (codes "string")) 12 0))))))))))))))

abbrev pub rank : List ℕ → ℕ
rank t = word_rank (first_word t)

pub word_at : (w t : List ℕ) → is_token w ≡ true → is_behind t ≡ true → first_word (w ++ t) ≡ w
word_at [] [] token behind = refl
word_at [] (b ∷ t) token behind = ap (λ c. cond c [] (b ∷ first_word t)) behind
word_at (b ∷ w) t token behind =
    let parts = and_parts _ _ token in
    ap (λ c. cond c [] (b ∷ first_word (w ++ t))) (not-true _ parts.0) ∙ ap (λ x. b ∷ x) (word_at w t parts.1 behind)

-- ---- parts one after another

module _ {X : Type 0} (Holds : X → Type 0) (text : X → List ℕ) (k after : ℕ) (low : after ≤ k) (starts : (x : X) (t : List ℕ) → Holds x → rank (text x ++ t) ≡ k) where
  pub each_keeps : (P : ℕ → Type 0) → P k → (xs : List X) (t : List ℕ) → AllByRecursion Holds xs → P (rank t) → P (rank (flat_map text xs ++ t))
  each_keeps P own [] t each holds = holds
  each_keeps P own (x ∷ xs) t each holds =
      subst (λ (u : List ℕ). P (rank u)) (sym (append_assoc (text x) (flat_map text xs) t)) (subst P (sym (starts x (flat_map text xs ++ t) each.0)) own)

  starts_no : (x : X) (xs : List X) (r s : List ℕ) → Holds x → (rank r ≡ k → ⊥) → r ≡ flat_map text (x ∷ xs) ++ s → ⊥
  starts_no x xs r s holds other e = other (ap rank e ∙ ap rank (append_assoc (text x) (flat_map text xs) s) ∙ starts x (flat_map text xs ++ s) holds)

  pub each_same : ((x y : X) (r s : List ℕ) → Holds x → Holds y → after ≤ rank r → after ≤ rank s → text x ++ r ≡ text y ++ s → Same x y r s)
      → (xs ys : List X) (r s : List ℕ) → AllByRecursion Holds xs → AllByRecursion Holds ys → after ≤ rank r → after ≤ rank s → (rank r ≡ k → ⊥) → (rank s ≡ k → ⊥)
      → flat_map text xs ++ r ≡ flat_map text ys ++ s → Same xs ys r s
  each_same one [] [] r s p q high top other no_more e = record { first = refl; rest = e }
  each_same one [] (y ∷ ys) r s p q high top other no_more e = absurd (starts_no y ys r s q.0 other e)
  each_same one (x ∷ xs) [] r s p q high top other no_more e = absurd (starts_no x xs s r p.0 no_more (sym e))
  each_same one (x ∷ xs) (y ∷ ys) r s p q high top other no_more e =
      let here = one x y (flat_map text xs ++ r) (flat_map text ys ++ s) p.0 q.0 (each_keeps (λ n. after ≤ n) low xs r p.1 high) (each_keeps (λ n. after ≤ n) low ys s q.1 top)
      (sym (append_assoc (text x) (flat_map text xs) r) ∙ e ∙ append_assoc (text y) (flat_map text ys) s) in
      let more = each_same one xs ys r s p.1 q.1 high top other no_more here.rest in
      record { first = λ i. here.first i ∷ more.first i; rest = more.rest }

-- ---- hexadecimal digits

eight_same : (a b : ℕ) (r s : List ℕ) → a < 2 ^ 32 → b < 2 ^ 32 → eight_digits a ++ r ≡ eight_digits b ++ s → Same a b r s
eight_same a b r s p q e =
    let d : byte_at 3 a ≡ byte_at 3 b = digits_same (byte_at 3 a) (byte_at 3 b) (ap (byte 0) e) (ap (byte 1) e) in
    let f : byte_at 2 a ≡ byte_at 2 b = digits_same (byte_at 2 a) (byte_at 2 b) (ap (byte 2) e) (ap (byte 3) e) in
    let g : byte_at 1 a ≡ byte_at 1 b = digits_same (byte_at 1 a) (byte_at 1 b) (ap (byte 4) e) (ap (byte 5) e) in
    let h : byte_at 0 a ≡ byte_at 0 b = digits_same (byte_at 0 a) (byte_at 0 b) (ap (byte 6) e) (ap (byte 7) e) in
    let all : four_bytes a ≡ four_bytes b = λ i. d i ∷ f i ∷ g i ∷ h i ∷ [] in
    record { first = sym (from_be_bytes-to_be_bytes_4 a p) ∙ ap (from_be_bytes w32) all ∙ from_be_bytes-to_be_bytes_4 b q; rest = ap (past 8) e }

-- ---- opcodes

abbrev place_of_name : List ℕ → ℕ
place_of_name w = position_or_len (λ s. bytes_eq w s) opcode_names

name_token : (o : ℕ) → o < 36 → is_token (opcode_name o) ≡ true
unfolding opcode_name
name_token o below = agree_below_at (λ k. is_token (opcode_name k)) (λ k. true) 36 o refl below

name_place : (o : ℕ) → o < 36 → place_of_name (opcode_name o) ≡ o
unfolding opcode_name
name_place o below = eqb-true _ _ (agree_below_at (λ k. place_of_name (opcode_name k) == k) (λ k. true) 36 o refl below)

name_rank : (o : ℕ) → o < 36 → word_rank (opcode_name o) ≡ 0
unfolding opcode_name
name_rank o below = eqb-true _ _ (agree_below_at (λ k. word_rank (opcode_name k) == 0) (λ k. true) 36 o refl below)

is_opcode : (o a b : ℕ) → AgreesWith (operands_of o) a b → o < 36
is_opcode o a b agrees = ⊎_elim (λ below. below) (λ above. absurd (subst (λ t. AgreesWith t a b) (slice_get_past operand_table o above) agrees)) (cases_lt o 36)

as_many : (t : Option (ℕ × Bool)) (a b c d : ℕ) → AgreesWith t a b → AgreesWith t c d → a ≡ c
as_many None a b c d p q = absurd p
as_many (Some (n, true)) a b c d p q = p ∙ sym q
as_many (Some (n, false)) a b c d p q = p.0 ∙ sym q.0

-- ---- values, instructions, and pairs of a name and a type

module _ (strings : List (List ℕ)) where
  pub name_same : (p q : ℕ) (r s : List ℕ) → IsReference (length strings) p → IsReference (length strings) q → is_behind r ≡ true → is_behind s ≡ true
      → name (reference strings) p ++ r ≡ name (reference strings) q ++ s → Same p q r s
  name_same p q r s known other_known behind other e = reference_same strings p q r s known other_known behind other (ap (past 1) e)

  pub datum_same : (d e : Datum) (r s : List ℕ) → IsShapedDatum (length strings) d → IsShapedDatum (length strings) e → is_behind r ≡ true → is_behind s ≡ true
      → datum (reference strings) d ++ r ≡ datum (reference strings) e ++ s → Same d e r s
  datum_same NoneValue NoneValue r s p q behind other e = record { first = refl; rest = ap (past 5) e }
  datum_same NoneValue (Word n) r s p q behind other e = absurd (eqb-false 110 105 refl (ap (byte 1) e))
  datum_same NoneValue (Quoted n) r s p q behind other e = absurd (eqb-false 110 116 refl (ap (byte 1) e))
  datum_same NoneValue (Int n) r s p q behind other e = absurd (eqb-false 110 105 refl (ap (byte 1) e))
  datum_same NoneValue (Float n) r s p q behind other e = absurd (eqb-false 110 102 refl (ap (byte 1) e))
  datum_same NoneValue (BoolByte n) r s p q behind other e = absurd (eqb-false 110 98 refl (ap (byte 1) e))
  datum_same (Word m) NoneValue r s p q behind other e = absurd (eqb-false 105 110 refl (ap (byte 1) e))
  datum_same (Word m) (Word n) r s p q behind other e = let f = reference_same strings m n r s p q behind other (ap (past 4) e) in record { first = ap Word f.first; rest = f.rest }
  datum_same (Word m) (Quoted n) r s p q behind other e = absurd (eqb-false 105 116 refl (ap (byte 1) e))
  datum_same (Word m) (Int n) r s p q behind other e = absurd (eqb-false 100 110 refl (ap (byte 2) e))
  datum_same (Word m) (Float n) r s p q behind other e = absurd (eqb-false 105 102 refl (ap (byte 1) e))
  datum_same (Word m) (BoolByte n) r s p q behind other e = absurd (eqb-false 105 98 refl (ap (byte 1) e))
  datum_same (Quoted m) NoneValue r s p q behind other e = absurd (eqb-false 116 110 refl (ap (byte 1) e))
  datum_same (Quoted m) (Word n) r s p q behind other e = absurd (eqb-false 116 105 refl (ap (byte 1) e))
  datum_same (Quoted m) (Quoted n) r s p q behind other e = let f = reference_same strings m n r s p q behind other (ap (past 6) e) in record { first = ap Quoted f.first; rest = f.rest }
  datum_same (Quoted m) (Int n) r s p q behind other e = absurd (eqb-false 116 105 refl (ap (byte 1) e))
  datum_same (Quoted m) (Float n) r s p q behind other e = absurd (eqb-false 116 102 refl (ap (byte 1) e))
  datum_same (Quoted m) (BoolByte n) r s p q behind other e = absurd (eqb-false 116 98 refl (ap (byte 1) e))
  datum_same (Int m) NoneValue r s p q behind other e = absurd (eqb-false 105 110 refl (ap (byte 1) e))
  datum_same (Int m) (Word n) r s p q behind other e = absurd (eqb-false 110 100 refl (ap (byte 2) e))
  datum_same (Int m) (Quoted n) r s p q behind other e = absurd (eqb-false 105 116 refl (ap (byte 1) e))
  datum_same (Int m) (Int n) r s p q behind other e = let f = signed_same m n r s p q behind other (ap (past 5) e) in record { first = ap Int f.first; rest = f.rest }
  datum_same (Int m) (Float n) r s p q behind other e = absurd (eqb-false 105 102 refl (ap (byte 1) e))
  datum_same (Int m) (BoolByte n) r s p q behind other e = absurd (eqb-false 105 98 refl (ap (byte 1) e))
  datum_same (Float m) NoneValue r s p q behind other e = absurd (eqb-false 102 110 refl (ap (byte 1) e))
  datum_same (Float m) (Word n) r s p q behind other e = absurd (eqb-false 102 105 refl (ap (byte 1) e))
  datum_same (Float m) (Quoted n) r s p q behind other e = absurd (eqb-false 102 116 refl (ap (byte 1) e))
  datum_same (Float m) (Int n) r s p q behind other e = absurd (eqb-false 102 105 refl (ap (byte 1) e))
  datum_same (Float m) (Float n) r s p q behind other e = let f = eight_same m n r s p q (ap (past 7) e) in record { first = ap Float f.first; rest = f.rest }
  datum_same (Float m) (BoolByte n) r s p q behind other e = absurd (eqb-false 102 98 refl (ap (byte 1) e))
  datum_same (BoolByte m) NoneValue r s p q behind other e = absurd (eqb-false 98 110 refl (ap (byte 1) e))
  datum_same (BoolByte m) (Word n) r s p q behind other e = absurd (eqb-false 98 105 refl (ap (byte 1) e))
  datum_same (BoolByte m) (Quoted n) r s p q behind other e = absurd (eqb-false 98 116 refl (ap (byte 1) e))
  datum_same (BoolByte m) (Int n) r s p q behind other e = absurd (eqb-false 98 105 refl (ap (byte 1) e))
  datum_same (BoolByte m) (Float n) r s p q behind other e = absurd (eqb-false 98 102 refl (ap (byte 1) e))
  datum_same (BoolByte m) (BoolByte n) r s p q behind other e = let f = number_same m n r s (omega (arith, p)) (omega (arith, q)) behind other (ap (past 6) e) in record { first = ap BoolByte f.first; rest = f.rest }

  pub datum_front : (d : Datum) (r : List ℕ) → front (datum (reference strings) d ++ r) ≡ 32
  datum_front NoneValue r = refl
  datum_front (Word n) r = refl
  datum_front (Quoted n) r = refl
  datum_front (Int n) r = refl
  datum_front (Float n) r = refl
  datum_front (BoolByte n) r = refl

  pub datum_behind : (d : Datum) (r : List ℕ) → is_behind (datum (reference strings) d ++ r) ≡ true
  datum_behind NoneValue r = refl
  datum_behind (Word n) r = refl
  datum_behind (Quoted n) r = refl
  datum_behind (Int n) r = refl
  datum_behind (Float n) r = refl
  datum_behind (BoolByte n) r = refl

  datums_behind : (ds : List Datum) (r : List ℕ) → is_behind r ≡ true → is_behind (flat_map (datum (reference strings)) ds ++ r) ≡ true
  datums_behind [] r behind = behind
  datums_behind (NoneValue ∷ ds) r behind = refl
  datums_behind (Word n ∷ ds) r behind = refl
  datums_behind (Quoted n ∷ ds) r behind = refl
  datums_behind (Int n ∷ ds) r behind = refl
  datums_behind (Float n ∷ ds) r behind = refl
  datums_behind (BoolByte n ∷ ds) r behind = refl

  fixed_same : (ds es : List Datum) (r s : List ℕ) → length ds ≡ length es → AllByRecursion (IsShapedDatum (length strings)) ds → AllByRecursion (IsShapedDatum (length strings)) es
      → is_behind r ≡ true → is_behind s ≡ true → flat_map (datum (reference strings)) ds ++ r ≡ flat_map (datum (reference strings)) es ++ s → Same ds es r s
  fixed_same [] [] r s long p q behind other e = record { first = refl; rest = e }
  fixed_same [] (y ∷ es) r s long p q behind other e = absurd (omega (arith, long))
  fixed_same (x ∷ ds) [] r s long p q behind other e = absurd (omega (arith, long))
  fixed_same (x ∷ ds) (y ∷ es) r s long p q behind other e =
      let text = datum (reference strings) in
      let here = datum_same x y (flat_map text ds ++ r) (flat_map text es ++ s) p.0 q.0 (datums_behind ds r behind) (datums_behind es s other)
      (sym (append_assoc (text x) (flat_map text ds) r) ∙ e ∙ append_assoc (text y) (flat_map text es) s) in
      let more = fixed_same ds es r s (omega (arith, long)) p.1 q.1 behind other here.rest in
      record { first = λ i. here.first i ∷ more.first i; rest = more.rest }

  no_more : (y : Datum) (es : List Datum) (r s : List ℕ) → 10 ∷ r ≡ flat_map (datum (reference strings)) (y ∷ es) ++ s → ⊥
  no_more y es r s e = eqb-false 10 32 refl (ap front e ∙ ap front (append_assoc (datum (reference strings) y) (flat_map (datum (reference strings)) es) s) ∙ datum_front y _)

  more_same : (ds es : List Datum) (r s : List ℕ) → AllByRecursion (IsShapedDatum (length strings)) ds → AllByRecursion (IsShapedDatum (length strings)) es
      → flat_map (datum (reference strings)) ds ++ 10 ∷ r ≡ flat_map (datum (reference strings)) es ++ 10 ∷ s → Same ds es r s
  more_same [] [] r s p q e = record { first = refl; rest = ap (past 1) e }
  more_same [] (y ∷ es) r s p q e = absurd (no_more y es r (10 ∷ s) e)
  more_same (x ∷ ds) [] r s p q e = absurd (no_more x ds s (10 ∷ r) (sym e))
  more_same (x ∷ ds) (y ∷ es) r s p q e =
      let text = datum (reference strings) in
      let here = datum_same x y (flat_map text ds ++ 10 ∷ r) (flat_map text es ++ 10 ∷ s) p.0 q.0 (datums_behind ds (10 ∷ r) refl) (datums_behind es (10 ∷ s) refl)
      (sym (append_assoc (text x) (flat_map text ds) (10 ∷ r)) ∙ e ∙ append_assoc (text y) (flat_map text es) (10 ∷ s)) in
      let more = more_same ds es r s p.1 q.1 here.rest in
      record { first = λ i. here.first i ∷ more.first i; rest = more.rest }

  instruction_row : (i : PlainInstruction) (r : List ℕ) → instruction (reference strings) i ++ r
      ≡ opcode_name i.opcode ++ (flat_map (datum (reference strings)) i.fixed ++ (flat_map (datum (reference strings)) i.more ++ 10 ∷ r))
  unfolding instruction
  instruction_row i r = simp append_assoc

  rest_behind : (i : PlainInstruction) (r : List ℕ) → is_behind (flat_map (datum (reference strings)) i.fixed ++ (flat_map (datum (reference strings)) i.more ++ 10 ∷ r)) ≡ true
  rest_behind i r = datums_behind i.fixed (flat_map (datum (reference strings)) i.more ++ 10 ∷ r) (datums_behind i.more (10 ∷ r) refl)

  pub instruction_rank : (i : PlainInstruction) (r : List ℕ) → IsShapedInstruction (length strings) i → rank (instruction (reference strings) i ++ r) ≡ 0
  instruction_rank i r shaped =
      let below = is_opcode i.opcode _ _ shaped.operands in
      ap rank (instruction_row i r) ∙ ap word_rank (word_at (opcode_name i.opcode) _ (name_token i.opcode below) (rest_behind i r)) ∙ name_rank i.opcode below

  pub instruction_same : (i j : PlainInstruction) (r s : List ℕ) → IsShapedInstruction (length strings) i → IsShapedInstruction (length strings) j
      → instruction (reference strings) i ++ r ≡ instruction (reference strings) j ++ s → Same i j r s
  instruction_same i j r s p q e =
      let in_i = is_opcode i.opcode _ _ p.operands in
      let in_j = is_opcode j.opcode _ _ q.operands in
      let word = cut (opcode_name i.opcode) (opcode_name j.opcode) _ _ (name_token i.opcode in_i) (name_token j.opcode in_j) (rest_behind i r) (rest_behind j s)
      (sym (instruction_row i r) ∙ e ∙ instruction_row j s) in
      let opcode : i.opcode ≡ j.opcode = sym (name_place i.opcode in_i) ∙ ap place_of_name word.first ∙ name_place j.opcode in_j in
      let long = as_many (operands_of j.opcode) _ _ _ _ (subst (λ o. AgreesWith (operands_of o) (length i.fixed) (length i.more)) opcode p.operands) q.operands in
      let fixed = fixed_same i.fixed j.fixed _ _ long p.fixed q.fixed (datums_behind i.more (10 ∷ r) refl) (datums_behind j.more (10 ∷ s) refl) word.rest in
      let more = more_same i.more j.more r s p.more q.more fixed.rest in
      record { first = λ k. record { opcode = opcode k; fixed = fixed.first k; more = more.first k }; rest = more.rest }

  pair_row : (word : List ℕ) (p : ℕ × ℕ) (t : List ℕ) → pair (reference strings) word p ++ t ≡ word ++ (name (reference strings) p.0 ++ (name (reference strings) p.1 ++ 10 ∷ t))
  pair_row word p t = simp append_assoc

  pub pair_same : (word : List ℕ) (p q : ℕ × ℕ) (r s : List ℕ) → ArePair (length strings) p → ArePair (length strings) q
      → pair (reference strings) word p ++ r ≡ pair (reference strings) word q ++ s → Same p q r s
  pair_same word p q r s known other e =
      let first = name_same p.0 q.0 (name (reference strings) p.1 ++ 10 ∷ r) (name (reference strings) q.1 ++ 10 ∷ s) known.name other.name refl refl
      (same_front word _ _ (sym (pair_row word p r) ∙ e ∙ pair_row word q s)) in
      let second = name_same p.1 q.1 (10 ∷ r) (10 ∷ s) known.kind other.kind refl refl first.rest in
      record { first = λ i. (first.first i, second.first i); rest = ap (past 1) second.rest }
