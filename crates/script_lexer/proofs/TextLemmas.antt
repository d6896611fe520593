-- The items of a text.
use Rattle.std.proofs.Common.{◌≡◌, ℕ, ◌+◌, ◌-◌, ◌<◌, ◌≤◌, Bool, true, false, List, [], ◌∷◌, ◌++◌, length, get_or, take, drop, map, refl, sym, ap, subst, ◌∙◌, inl, inr, arith, append_assoc, lit≤}
use Rattle.std.specs.Prelude.{◌&&◌}
use Rattle.std.proofs.lemmas.Bool.{false≢true}
use Rattle.std.proofs.lemmas.List.{length-drop, length-append, drop_more, take_at, append-nil, length-map, map_push}
use Rattle.script_lexer.specs.declared.opening.Opening.TheVariants as opening
use Rattle.script_lexer.specs.declared.token.Token.TheVariants as token
use Rattle.script_lexer.specs.declared.piece.Piece.{Piece}
use Rattle.script_lexer.specs.declared.piece.Piece.TheVariants as piece
use Rattle.script_lexer.specs.declared.fault.LexRule.{LexRule}
use Rattle.script_lexer.specs.declared.fault.LexRule.TheVariants as rule
use Rattle.script_lexer.specs.Rules.{rule_number, BreaksFrom}
use Rattle.script_lexer.specs.Answers.{Opens, Stands, IsLowest}
use Rattle.script_lexer.proofs.Standing.{stands, lowest}
use Rattle.script_lexer.specs.declared.quoted.TextItem.{TextItem}
use Rattle.script_lexer.specs.declared.quoted.TextItem.TheVariants as item
use Rattle.script_lexer.specs.Bytes.{opening_of}
use Rattle.script_lexer.specs.Pieces.{Completes, IsItem, AreItems, item_bytes, items_bytes, item_value, is_good_item, are_good}
use Rattle.script_lexer.specs.Rules.{IsUnclosed}
use Rattle.script_lexer.specs.Answers.{Stops, BeginsItem, ReadsItems}

-- what was read so far, and what is left
pub record ReadSoFar (bytes meant : List ℕ) (good : Bool) (rest : List ℕ) : Type 0 where
  pub items : List TextItem
  pub are_items : AreItems items
  pub split : bytes ≡ items_bytes items ++ rest
  pub value : meant ≡ map item_value items
  pub goodness : good ≡ are_good items

-- ---- one more item

items_bytes-push : (is : List TextItem) (i : TextItem) → items_bytes (is ++ i ∷ []) ≡ items_bytes is ++ item_bytes i
items_bytes-push [] i = append-nil (item_bytes i)
items_bytes-push (j ∷ is) i = ap (λ (t : List ℕ). item_bytes j ++ t) (items_bytes-push is i) ∙ sym (append_assoc (item_bytes j) (items_bytes is) (item_bytes i))

AreItems-push : (is : List TextItem) (i : TextItem) → AreItems is → IsItem i → AreItems (is ++ i ∷ [])
AreItems-push [] i are one = (one, tt)
AreItems-push (j ∷ is) i are one = (are.0, AreItems-push is i are.1 one)

and_assoc : (a b c : Bool) → (a && (b && c)) ≡ ((a && b) && c)
and_assoc true b c = refl
and_assoc false b c = refl

and_true : (b : Bool) → (b && true) ≡ (true && b)
and_true true = refl
and_true false = refl

are_good-push : (is : List TextItem) (i : TextItem) → are_good (is ++ i ∷ []) ≡ (are_good is && is_good_item i)
are_good-push [] i = and_true (is_good_item i)
are_good-push (j ∷ is) i = ap (λ (t : Bool). is_good_item j && t) (are_good-push is i) ∙ and_assoc (is_good_item j) (are_good is) (is_good_item i)

pub reads_more : (bytes meant : List ℕ) (good : Bool) (rest : List ℕ) (i : TextItem) (meant' : List ℕ) (good' : Bool) (after : List ℕ) → ReadSoFar bytes meant good rest → BeginsItem rest i
    → meant' ≡ meant ++ item_value i ∷ [] → good' ≡ (good && is_good_item i) → after ≡ drop (length (item_bytes i)) rest → ReadSoFar bytes meant' good' after
reads_more bytes meant good rest i meant' good' after so_far begins value goodness left = record {
  items = so_far.items ++ i ∷ [];
  are_items = AreItems-push so_far.items i so_far.are_items begins.is_item;
  split = so_far.split ∙ ap (λ (t : List ℕ). items_bytes so_far.items ++ t) (begins.bytes ∙ ap (λ (t : List ℕ). item_bytes i ++ t) (sym left)) ∙ sym (append_assoc (items_bytes so_far.items) (item_bytes i) after) ∙ ap (λ (t : List ℕ). t ++ after) (sym (items_bytes-push so_far.items i));
  value = value ∙ ap (λ (t : List ℕ). t ++ item_value i ∷ []) so_far.value ∙ sym (map_push item_value so_far.items i);
  goodness = goodness ∙ ap (λ (t : Bool). t && is_good_item i) so_far.goodness ∙ sym (are_good-push so_far.items i);
}

-- ---- bytes have one reading as items, up to where it stops

no_stop_at_plain : (c : ℕ) (t : List ℕ) → IsItem (item.Plain c) → Stops (c ∷ t) → ⊥
no_stop_at_plain c [] is_item (inl e) = is_item.0 e
no_stop_at_plain c [] is_item (inr (inl e)) = is_item.2 e
no_stop_at_plain c [] is_item (inr (inr e)) = is_item.1 e
no_stop_at_plain c (d ∷ t) is_item (inl e) = is_item.0 e
no_stop_at_plain c (d ∷ t) is_item (inr (inl e)) = is_item.2 e
no_stop_at_plain c (d ∷ t) is_item (inr (inr e)) = is_item.1 e.0

no_stop_at_escaped : (c : ℕ) (t : List ℕ) → IsItem (item.Escaped c) → Stops (92 ∷ c ∷ t) → ⊥
no_stop_at_escaped c t is_item (inl e) = absurd (omega arith)
no_stop_at_escaped c t is_item (inr (inl e)) = absurd (omega arith)
no_stop_at_escaped c t is_item (inr (inr e)) = is_item e.1

-- a reading that stops at once has no items
nothing_more : (js : List TextItem) (x y : List ℕ) → AreItems js → Stops x → x ≡ items_bytes js ++ y → ([] ≡ js) × (x ≡ y)
nothing_more [] x y are stops e = (refl, e)
nothing_more (item.Plain c ∷ js) x y are stops e = absurd (no_stop_at_plain c (items_bytes js ++ y) are.0 (subst Stops e stops))
nothing_more (item.Escaped c ∷ js) x y are stops e = absurd (no_stop_at_escaped c (items_bytes js ++ y) are.0 (subst Stops e stops))

pub same_items : (is js : List TextItem) (x y : List ℕ) → AreItems is → AreItems js → Stops x → Stops y → items_bytes is ++ x ≡ items_bytes js ++ y → (is ≡ js) × (x ≡ y)
same_items [] js x y are bre stops stops' e = nothing_more js x y bre stops e
same_items (i ∷ is) [] x y are bre stops stops' e =
    let h = nothing_more (i ∷ is) y x are stops' (sym e) in
    (sym h.0, sym h.1)
same_items (item.Plain b ∷ is) (item.Plain c ∷ js) x y are bre stops stops' e =
    let head : b ≡ c = cc in
    let tail : items_bytes is ++ x ≡ items_bytes js ++ y = cc in
    let h = same_items is js x y are.1 bre.1 stops stops' tail in
    (cong_items (item.Plain b) (item.Plain c) is js (ap (λ (n : ℕ). item.Plain n) head) h.0, h.1)
  where
    cong_items : (i j : TextItem) (is js : List TextItem) → i ≡ j → is ≡ js → i ∷ is ≡ j ∷ js
    cong_items i j is js e f = cc
same_items (item.Plain b ∷ is) (item.Escaped c ∷ js) x y are bre stops stops' e =
    let head : b ≡ 92 = cc in
    absurd (are.0.1 head)
same_items (item.Escaped b ∷ is) (item.Plain c ∷ js) x y are bre stops stops' e =
    let head : 92 ≡ c = cc in
    absurd (bre.0.1 (sym head))
same_items (item.Escaped b ∷ is) (item.Escaped c ∷ js) x y are bre stops stops' e =
    let head : b ≡ c = cc in
    let tail : items_bytes is ++ x ≡ items_bytes js ++ y = cc in
    let h = same_items is js x y are.1 bre.1 stops stops' tail in
    (cong_items (item.Escaped b) (item.Escaped c) is js (ap (λ (n : ℕ). item.Escaped n) head) h.0, h.1)
  where
    cong_items : (i j : TextItem) (is js : List TextItem) → i ≡ j → is ≡ js → i ∷ is ≡ j ∷ js
    cong_items i j is js e f = cc

unclosed_stops : (x : List ℕ) → IsUnclosed x → Stops x
unclosed_stops [] h = tt
unclosed_stops (b ∷ []) h = inr h
unclosed_stops (b ∷ c ∷ x) h = inr h

quote_closes : (t : List ℕ) → IsUnclosed (34 ∷ t) → ⊥
quote_closes [] (inl e) = absurd (omega arith)
quote_closes [] (inr e) = absurd (omega arith)
quote_closes (c ∷ t) (inl e) = absurd (omega arith)
quote_closes (c ∷ t) (inr e) = absurd (omega (arith, e.0))

-- ---- texts that are closed

-- the bytes behind the opening quote are these items, and a quote closes them
record Closed (bs after : List ℕ) (items : List TextItem) : Type 0 where
  are : AreItems items
  split : bs ≡ items_bytes items ++ 34 ∷ after

module _ (b : ℕ) (bs after : List ℕ) (items : List TextItem) (closed : Closed bs after items) where
  not_open : (js : List TextItem) (x : List ℕ) → AreItems js → bs ≡ items_bytes js ++ x → IsUnclosed x → ⊥
  not_open js x are e unclosed =
      let h = same_items items js (34 ∷ after) x closed.are are (inl refl) (unclosed_stops x unclosed) (sym closed.split ∙ e) in
      quote_closes after (subst IsUnclosed (sym h.1) unclosed)

  one_closed : (js : List TextItem) (x : List ℕ) → AreItems js → bs ≡ items_bytes js ++ 34 ∷ x → items ≡ js
  one_closed js x are e = (same_items items js (34 ∷ after) (34 ∷ x) closed.are are (inl refl) (inl refl) (sym closed.split ∙ e)).0

  good_one : (js : List TextItem) (x : List ℕ) → AreItems js → bs ≡ items_bytes js ++ 34 ∷ x → are_good items ≡ are_good js
  good_one js x are e = ap are_good (one_closed js x are e)

  length_one : (js : List TextItem) (x : List ℕ) → AreItems js → bs ≡ items_bytes js ++ 34 ∷ x → length items ≡ length js
  length_one js x are e = ap length (one_closed js x are e)

  bytes_one : (js : List TextItem) (x : List ℕ) → AreItems js → bs ≡ items_bytes js ++ 34 ∷ x → length (items_bytes items) ≡ length (items_bytes js)
  bytes_one js x are e = ap (λ (t : List TextItem). length (items_bytes t)) (one_closed js x are e)

  text_most : (os back : List ℕ) (q : Piece) → bs ≡ os ++ back → Completes opening.Quote b os q → length os ≤ length (items_bytes items) + 1
  text_most os back q same h =
      let js = h.0 in
      let split : os ≡ items_bytes js ++ 34 ∷ [] = h.3 in
      let whole : bs ≡ items_bytes js ++ 34 ∷ back = same ∙ ap (λ (t : List ℕ). t ++ back) split ∙ append_assoc (items_bytes js) (34 ∷ []) back in
      let size = bytes_one js back h.1 whole in
      let len : length os ≡ length (items_bytes js) + 1 = ap length split ∙ length-append (items_bytes js) (34 ∷ []) in
      omega arith

no_text_rule : (b : ℕ) (bs after : List ℕ) (items : List TextItem) → Closed bs after items → are_good items ≡ true → length items ≤ 1024 → (r : LexRule) → BreaksFrom opening.Quote r b bs → ⊥
no_text_rule b bs after items closed good short rule.BadByte broken = broken
no_text_rule b bs after items closed good short rule.OpenText broken = not_open b bs after items closed broken.0 broken.1 broken.2 broken.3 broken.4
no_text_rule b bs after items closed good short rule.BadEscape broken = let e = good_one b bs after items closed broken.0 broken.1 broken.2 broken.3 in false≢true (sym broken.4 ∙ sym e ∙ good)
no_text_rule b bs after items closed good short rule.FloatLiteral broken = broken
no_text_rule b bs after items closed good short rule.FloatWord broken = broken
no_text_rule b bs after items closed good short rule.NumberRange broken = broken
no_text_rule b bs after items closed good short rule.TextTooLong broken = absurd (omega (arith, length_one b bs after items closed broken.0 broken.1 broken.2 broken.3, broken.4))
no_text_rule b bs after items closed good short rule.OpenComment broken = broken
no_text_rule b bs after items closed good short rule.TooLarge broken = broken

text_least_escape : (b : ℕ) (bs after : List ℕ) (items : List TextItem) → Closed bs after items → (r : LexRule) → BreaksFrom opening.Quote r b bs → 3 ≤ rule_number r
text_least_escape b bs after items closed rule.BadByte broken = absurd broken
text_least_escape b bs after items closed rule.OpenText broken = absurd (not_open b bs after items closed broken.0 broken.1 broken.2 broken.3 broken.4)
text_least_escape b bs after items closed rule.BadEscape broken = lit≤ tt
text_least_escape b bs after items closed rule.FloatLiteral broken = lit≤ tt
text_least_escape b bs after items closed rule.FloatWord broken = lit≤ tt
text_least_escape b bs after items closed rule.NumberRange broken = lit≤ tt
text_least_escape b bs after items closed rule.TextTooLong broken = lit≤ tt
text_least_escape b bs after items closed rule.OpenComment broken = lit≤ tt
text_least_escape b bs after items closed rule.TooLarge broken = lit≤ tt

text_least_long : (b : ℕ) (bs after : List ℕ) (items : List TextItem) → Closed bs after items → are_good items ≡ true → (r : LexRule) → BreaksFrom opening.Quote r b bs → 7 ≤ rule_number r
text_least_long b bs after items closed good rule.BadByte broken = absurd broken
text_least_long b bs after items closed good rule.OpenText broken = absurd (not_open b bs after items closed broken.0 broken.1 broken.2 broken.3 broken.4)
text_least_long b bs after items closed good rule.BadEscape broken = absurd (let e = good_one b bs after items closed broken.0 broken.1 broken.2 broken.3 in false≢true (sym broken.4 ∙ sym e ∙ good))
text_least_long b bs after items closed good rule.FloatLiteral broken = absurd broken
text_least_long b bs after items closed good rule.FloatWord broken = absurd broken
text_least_long b bs after items closed good rule.NumberRange broken = absurd broken
text_least_long b bs after items closed good rule.TextTooLong broken = lit≤ tt
text_least_long b bs after items closed good rule.OpenComment broken = lit≤ tt
text_least_long b bs after items closed good rule.TooLarge broken = lit≤ tt

-- what was read and the quote behind it
closed_at : (bs meant : List ℕ) (good : Bool) (len : ℕ) (r : ReadsItems bs meant good len) → len < length bs → get_or bs len 0 ≡ 34 → Closed bs (drop (len + 1) bs) r.items
closed_at bs meant good len r lt quote = record {
  are = r.are_items;
  split = r.split ∙ ap (λ (t : List ℕ). items_bytes r.items ++ t) (drop_more bs len 0 lt ∙ ap (λ (n : ℕ). n ∷ drop (len + 1) bs) quote);
}

items_len : (bs meant : List ℕ) (good : Bool) (len : ℕ) (r : ReadsItems bs meant good len) → length (items_bytes r.items) ≡ len
items_len bs meant good len r =
    let size = ap length r.split in
    omega (arith, r.within, length-append (items_bytes r.items) (drop len bs), length-drop len bs)

text_at : (b : ℕ) (bs meant : List ℕ) (len : ℕ) (r : ReadsItems bs meant true len) → opening_of b ≡ opening.Quote → len < length bs → get_or bs len 0 ≡ 34 → length meant ≤ 1024
    → Stands (b ∷ bs) (piece.Token (token.Quoted meant)) (len + 2)
text_at b bs meant len r opens lt quote short =
    let closed = closed_at bs meant true len r lt quote in
    let after = drop (len + 1) bs in
    let size = items_len bs meant true len r in
    let count : length r.items ≡ length meant = sym (ap length r.value ∙ length-map r.items item_value) in
    let whole : bs ≡ (items_bytes r.items ++ 34 ∷ []) ++ after = closed.split ∙ sym (append_assoc (items_bytes r.items) (34 ∷ []) after) in
    let front : take (len + 1) bs ≡ items_bytes r.items ++ 34 ∷ [] = ap (take (len + 1)) whole ∙ take_at (items_bytes r.items ++ 34 ∷ []) after (len + 1) (length-append (items_bytes r.items) (34 ∷ []) ∙ ap (λ (n : ℕ). n + 1) size) in
    stands opening.Quote b bs (piece.Token (token.Quoted meant)) (len + 1) (len + 2) (omega arith) (omega arith) opens
    (r.items, r.are_items, sym r.goodness, front, ap (λ (t : List ℕ). piece.Token (token.Quoted t)) r.value)
    (λ os back q same h. let most : length os ≤ length (items_bytes r.items) + 1 = text_most b bs after r.items closed os back q same h in omega arith)
    (no_text_rule b bs after r.items closed (sym r.goodness) (omega arith))

pub text_stands : (rest behind meant text : List ℕ) (good : Bool) (len : ℕ) → Opens opening.Quote rest → behind ≡ drop 1 rest → ReadsItems behind meant good len → len < length behind → get_or behind len 0 ≡ 34 → good ≡ true → length meant ≤ 1024 → text ≡ meant
    → Stands rest (piece.Token (token.Quoted text)) (len + 2)
text_stands [] behind meant text good len opens is_behind r lt quote is_good short is_text = absurd opens
text_stands (b ∷ bs) behind meant text good len opens is_behind r lt quote is_good short is_text =
    let r' : ReadsItems bs meant true len = subst (λ (t : List ℕ). ReadsItems t meant true len) is_behind (subst (λ (g : Bool). ReadsItems behind meant g len) is_good r) in
    let lt' : len < length bs = subst (λ (t : List ℕ). len < length t) is_behind lt in
    let quote' : get_or bs len 0 ≡ 34 = ap (λ (t : List ℕ). get_or t len 0) (sym is_behind) ∙ quote in
    subst (λ (t : List ℕ). Stands (b ∷ bs) (piece.Token (token.Quoted t)) (len + 2)) (sym is_text) (text_at b bs meant len r' opens lt' quote' short)

pub text_bad_escape : (rest behind meant : List ℕ) (good : Bool) (len : ℕ) → Opens opening.Quote rest → behind ≡ drop 1 rest → ReadsItems behind meant good len → len < length behind → get_or behind len 0 ≡ 34 → good ≡ false → IsLowest rest rule.BadEscape
text_bad_escape [] behind meant good len opens is_behind r lt quote is_bad = absurd opens
text_bad_escape (b ∷ bs) behind meant good len opens is_behind r lt quote is_bad =
    let r' : ReadsItems bs meant good len = subst (λ (t : List ℕ). ReadsItems t meant good len) is_behind r in
    let lt' : len < length bs = subst (λ (t : List ℕ). len < length t) is_behind lt in
    let quote' : get_or bs len 0 ≡ 34 = ap (λ (t : List ℕ). get_or t len 0) (sym is_behind) ∙ quote in
    let closed = closed_at bs meant good len r' lt' quote' in
    lowest opening.Quote b bs rule.BadEscape opens (r'.items, drop (len + 1) bs, r'.are_items, closed.split, sym r'.goodness ∙ is_bad) (text_least_escape b bs (drop (len + 1) bs) r'.items closed)

pub text_too_long : (rest behind meant : List ℕ) (good : Bool) (len : ℕ) → Opens opening.Quote rest → behind ≡ drop 1 rest → ReadsItems behind meant good len → len < length behind → get_or behind len 0 ≡ 34 → good ≡ true → 1024 < length meant → IsLowest rest rule.TextTooLong
text_too_long [] behind meant good len opens is_behind r lt quote is_good long = absurd opens
text_too_long (b ∷ bs) behind meant good len opens is_behind r lt quote is_good long =
    let r' : ReadsItems bs meant good len = subst (λ (t : List ℕ). ReadsItems t meant good len) is_behind r in
    let lt' : len < length bs = subst (λ (t : List ℕ). len < length t) is_behind lt in
    let quote' : get_or bs len 0 ≡ 34 = ap (λ (t : List ℕ). get_or t len 0) (sym is_behind) ∙ quote in
    let closed = closed_at bs meant good len r' lt' quote' in
    let count : length r'.items ≡ length meant = sym (ap length r'.value ∙ length-map r'.items item_value) in
    lowest opening.Quote b bs rule.TextTooLong opens (r'.items, drop (len + 1) bs, r'.are_items, closed.split, omega arith) (text_least_long b bs (drop (len + 1) bs) r'.items closed (sym r'.goodness ∙ is_good))
