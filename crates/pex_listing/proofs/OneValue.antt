-- A listing is that of one value.
use Rattle.std.proofs.Common.{◌≡◌, ℕ, ◌<◌, ◌^◌, List, [], ◌∷◌, ◌++◌, length, Option, refl, sym, subst, ap, ◌∙◌, append_assoc, append-nil, ⊎_elim, arith}
use Rattle.std.specs.Prelude.{codes, IfSome, ◌⊎◌}
use Rattle.std.specs.List.{flat_map, AllByRecursion}
use Rattle.std.specs.Fmt.{decimal}
use Rattle.std.proofs.lemmas.Bool.{eqb-false}
use Rattle.pex_values.specs.Plain.{PlainObject, PlainDebug, PlainPex}
use Rattle.pex_values.specs.Shape.{IsShapedObject, IsShapedDebug, IsShapedFlag, IsWellShaped}
use Rattle.pex_listing.specs.Lines.{first_line, header_lines, quoted, reference, string_line}
use Rattle.pex_listing.specs.Listing as form
use Rattle.pex_listing.proofs.Cuts.{Same, past, same_front}
use Rattle.pex_listing.proofs.OneField.{number_same, quoted_same}
use Rattle.pex_listing.proofs.OneLine.{rank, each_keeps, each_same}
use Rattle.pex_listing.proofs.OnePart.{debug_rank, debug_same, flag_rank, flag_same, object_rank, object_same}

-- ---- the parts behind the string table

module _ (strings : List (List ℕ)) where
  abbrev tail : Option PlainDebug → List (ℕ × ℕ) → List PlainObject → List ℕ
  tail d fs os = form.debug (reference strings) d ++ (flat_map (form.flag (reference strings)) fs ++ flat_map (form.object (reference strings)) os)

  record Tail (d e : Option PlainDebug) (fs gs : List (ℕ × ℕ)) (os us : List PlainObject) : Type 0 where
    debug : d ≡ e
    flags : fs ≡ gs
    objects : os ≡ us

  objects_keep : (P : ℕ → Type 0) → P 8 → P 20 → (os : List PlainObject) → AllByRecursion (IsShapedObject (length strings)) os → P (rank (flat_map (form.object (reference strings)) os))
  objects_keep P own none os each =
      subst (λ t. P (rank t)) (append-nil (flat_map (form.object (reference strings)) os))
      (each_keeps (IsShapedObject (length strings)) (form.object (reference strings)) 8 8 (omega arith) (object_rank strings) P own os [] each none)

  flags_keep : (P : ℕ → Type 0) → P 8 → P 9 → P 20 → (fs : List (ℕ × ℕ)) (os : List PlainObject) → AllByRecursion (IsShapedFlag (length strings)) fs → AllByRecursion (IsShapedObject (length strings)) os
      → P (rank (flat_map (form.flag (reference strings)) fs ++ flat_map (form.object (reference strings)) os))
  flags_keep P own other none fs os each more =
      each_keeps (IsShapedFlag (length strings)) (form.flag (reference strings)) 9 0 (omega arith) (flag_rank strings) P other fs _ each (objects_keep P own none os more)

  tail_same : (d e : Option PlainDebug) (fs gs : List (ℕ × ℕ)) (os us : List PlainObject)
      → IfSome d (IsShapedDebug (length strings)) → AllByRecursion (IsShapedFlag (length strings)) fs → AllByRecursion (IsShapedObject (length strings)) os
      → IfSome e (IsShapedDebug (length strings)) → AllByRecursion (IsShapedFlag (length strings)) gs → AllByRecursion (IsShapedObject (length strings)) us
      → tail d fs os ≡ tail e gs us → Tail d e fs gs os us
  tail_same d e fs gs os us p1 p2 p3 q1 q2 q3 same =
      let debug = debug_same strings d e _ _ p1 q1 (flags_keep (λ n. n ≡ 10 → ⊥) (λ x. omega arith) (λ x. omega arith) (λ x. omega arith) fs os p2 p3)
      (flags_keep (λ n. n ≡ 10 → ⊥) (λ x. omega arith) (λ x. omega arith) (λ x. omega arith) gs us q2 q3) same in
      let flags = each_same (IsShapedFlag (length strings)) (form.flag (reference strings)) 9 0 (omega arith) (flag_rank strings) (λ x y t w h k high top. flag_same strings x y t w h k) fs gs _ _ p2 q2
      (omega arith) (omega arith) (objects_keep (λ n. n ≡ 9 → ⊥) (λ x. omega arith) (λ x. omega arith) os p3) (objects_keep (λ n. n ≡ 9 → ⊥) (λ x. omega arith) (λ x. omega arith) us q3) debug.rest in
      let objects = each_same (IsShapedObject (length strings)) (form.object (reference strings)) 8 8 (omega arith) (object_rank strings) (object_same strings) os us [] [] p3 q3
      (omega arith) (omega arith) (λ x. omega arith) (λ x. omega arith) (append-nil _ ∙ flags.rest ∙ sym (append-nil _)) in
      record { debug = debug.first; flags = flags.first; objects = objects.first }

-- ---- the parts before it

string_row : (word text r : List ℕ) → string_line word text ++ r ≡ word ++ 32 ∷ (quoted text ++ 10 ∷ r)
string_row word text r = simp append_assoc

string_same : (word t u r s : List ℕ) → string_line word t ++ r ≡ string_line word u ++ s → Same t u r s
string_same word t u r s e =
    let text = quoted_same t u (10 ∷ r) (10 ∷ s) (ap (past 1) (same_front word (32 ∷ (quoted t ++ 10 ∷ r)) (32 ∷ (quoted u ++ 10 ∷ s)) (sym (string_row word t r) ∙ e ∙ string_row word u s))) in
    record { first = text.first; rest = ap (past 1) text.rest }

string_rank : (t r : List ℕ) → Unit {0} → rank (string_line (codes "string") t ++ r) ≡ 12
string_rank t r known = ap rank (string_row (codes "string") t r)

any : (xs : List (List ℕ)) → AllByRecursion (λ (x : List ℕ). Unit {0}) xs
any [] = tt
any (x ∷ xs) = (tt, any xs)

first_row : (minor time : ℕ) (r : List ℕ) → first_line minor time ++ r ≡ codes "pex " ++ (decimal minor ++ 32 ∷ (decimal time ++ 10 ∷ r))
first_row minor time r = simp append_assoc

three : (a b c r : List ℕ) → (a ++ (b ++ c)) ++ r ≡ a ++ (b ++ (c ++ r))
three a b c r = simp append_assoc

five : (a b c d e : List ℕ) → a ++ b ++ c ++ d ++ e ≡ a ++ (b ++ (c ++ (d ++ e)))
five a b c d e = simp append_assoc

-- what stands behind the first line
abbrev behind_first : PlainPex → List ℕ
behind_first v =
    string_line (codes "source") v.source ++ (string_line (codes "user") v.user ++ (string_line (codes "machine") v.machine ++ (flat_map (string_line (codes "string")) v.strings
    ++ tail v.strings v.debug v.user_flags v.objects)))

listing_row : (v : PlainPex) → form.listing v ≡ codes "pex " ++ (decimal v.minor ++ 32 ∷ (decimal v.time ++ 10 ∷ behind_first v))
unfolding form.heading form.all_lines
listing_row v =
    let first = first_line v.minor v.time in
    let table = flat_map (string_line (codes "string")) v.strings in
    let rest = table ++ tail v.strings v.debug v.user_flags v.objects in
    let header = header_lines v.source v.user v.machine in
    five (first ++ header) table (form.debug (reference v.strings) v.debug) (flat_map (form.flag (reference v.strings)) v.user_flags) (flat_map (form.object (reference v.strings)) v.objects)
    ∙ append_assoc first header rest
    ∙ ap (λ t. first ++ t) (three (string_line (codes "source") v.source) (string_line (codes "user") v.user) (string_line (codes "machine") v.machine) rest)
    ∙ first_row v.minor v.time (behind_first v)

minor_small : (m : ℕ) → ((m ≡ 1) ⊎ (m ≡ 2)) → m < 2 ^ 64
minor_small m is = ⊎_elim (λ e. omega arith) (λ e. omega arith) is

pub one_value : (v w : PlainPex) → IsWellShaped v → IsWellShaped w → form.listing v ≡ form.listing w → v ≡ w
one_value v w p q e =
    let minor = number_same v.minor w.minor _ _ (minor_small v.minor p.minor) (minor_small w.minor q.minor) refl refl (ap (past 4) (sym (listing_row v) ∙ e ∙ listing_row w)) in
    let time = number_same v.time w.time _ _ p.time q.time refl refl (ap (past 1) minor.rest) in
    let source = string_same (codes "source") v.source w.source _ _ (ap (past 1) time.rest) in
    let user = string_same (codes "user") v.user w.user _ _ source.rest in
    let machine = string_same (codes "machine") v.machine w.machine _ _ user.rest in
    let strings = each_same (λ (x : List ℕ). Unit {0}) (string_line (codes "string")) 12 0 (omega arith) string_rank (λ x y r s h k high top. string_same (codes "string") x y r s) v.strings w.strings _ _ (any v.strings) (any w.strings)
    (omega arith) (omega arith) (no_string v) (no_string w) machine.rest in
    let parts = rest_same v w p q strings.first strings.rest in
    λ i. record { minor = minor.first i; time = time.first i; source = source.first i; user = user.first i; machine = machine.first i; strings = strings.first i; debug = parts.debug i; user_flags = parts.flags i; objects = parts.objects i }
  where
    no_string : (u : PlainPex) → rank (tail u.strings u.debug u.user_flags u.objects) ≡ 12 → ⊥
    no_string u is = eqb-false 11 12 refl (sym (debug_rank u.strings u.debug _) ∙ is)

    rest_same : (v w : PlainPex) → IsWellShaped v → IsWellShaped w → v.strings ≡ w.strings → tail v.strings v.debug v.user_flags v.objects ≡ tail w.strings w.debug w.user_flags w.objects
        → Tail v.strings v.debug w.debug v.user_flags w.user_flags v.objects w.objects
    rest_same v w p q same e =
        let n = sym same in
        tail_same v.strings v.debug w.debug v.user_flags w.user_flags v.objects w.objects p.debug p.user_flags p.objects
        (subst (λ ss. IfSome w.debug (IsShapedDebug (length ss))) n q.debug) (subst (λ ss. AllByRecursion (IsShapedFlag (length ss)) w.user_flags) n q.user_flags)
        (subst (λ ss. AllByRecursion (IsShapedObject (length ss)) w.objects) n q.objects) (e ∙ ap (λ ss. tail ss w.debug w.user_flags w.objects) n)
