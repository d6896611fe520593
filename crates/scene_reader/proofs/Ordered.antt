-- A map made of a list of pairs is the one that they make one after another.
use Rattle.std.proofs.Common.{◌≡◌, ℕ, Bool, true, false, cond, List, [], ◌∷◌, ◌++◌, Option, Some, None, String, Global, BTreeMap, Ordering, Less, Equal, Greater, string_bytes, string_cmp, is_eq, refl, sym, ap, ◌∙◌}
use Rattle.std.proofs.lemmas.Bool.{true≢false}
use Rattle.std.proofs.lemmas.Cmp.{alike_right, nat_list_cmp_total, tied_back, tied_itself}
use Rattle.std.proofs.lemmas.Map.Lookups.{exact_bytes, map_keys}
use Rattle.std.proofs.lemmas.Option.{none-some}
use Rattle.std.specs.BTreeMap as tree
use Rattle.std.specs.BTreeMap.{insert_entry, is_at}
use Rattle.std.specs.Cmp.{IsTotalOrder}
use Rattle.std.specs.List.{AllByRecursion}
use Rattle.std.specs.List.Sorted.{IsStrictlySortedBy}
use Rattle.std.specs.Map.{keys_of, lookup, update, update_all}
use Rattle.std.specs.Ordering.{eq_by_cmp, match_ordering, ordering_reverse}
use Rattle.serde_json.specs.Data.{Members, member, no_members, put}
use Rattle.serde_json.specs.View.{members_view, view}
use Rattle.serde_json.specs.declared.value.Value.{Value}
use Rattle.serde_json.proofs.Views.{Entry, members_view-insert_entry}
use Rattle.scene_reader.specs.Document.{put_all, put_from}

total_text : IsTotalOrder (string_cmp {Z = Global})
total_text = record {
  antisymm = λ x y. nat_list_cmp_total.antisymm (string_bytes x) (string_bytes y);
  trans = λ x y z. nat_list_cmp_total.trans (string_bytes x) (string_bytes y) (string_bytes z);
  congr = λ x y z. nat_list_cmp_total.congr (string_bytes x) (string_bytes y) (string_bytes z);
}

eq_back : (o : Ordering) → is_eq (ordering_reverse o) ≡ is_eq o
eq_back Less = refl
eq_back Equal = refl
eq_back Greater = refl

module _ {K : Type 0} {R : K → K → Ordering} (o : IsTotalOrder R) where
  below_too : (k l : K) (ks : List K) → R k l ≡ Less → AllByRecursion (λ y. R l y ≡ Less) ks → AllByRecursion (λ y. R k y ≡ Less) ks
  below_too k l [] h all = tt
  below_too k l (y ∷ ks) h all = (o.trans k l y h all.0, below_too k l ks h all.1)

  all_as : (p q : K) (ks : List K) → R p q ≡ Equal → AllByRecursion (λ y. R p y ≡ Less) ks → AllByRecursion (λ y. R q y ≡ Less) ks
  all_as p q [] h all = tt
  all_as p q (k ∷ ks) h all = (sym (o.congr p q k h) ∙ all.0, all_as p q ks h all.1)

module _ {K X : Type 0} {R : K → K → Ordering} (o : IsTotalOrder R) where
  module _ (k : K) (v : X) where
    below_by : (l : K) (e : K × X) (es more : List (K × X)) (order : Ordering) → R l k ≡ Less → AllByRecursion (λ y. R l y ≡ Less) (keys_of (e ∷ es)) → AllByRecursion (λ y. R l y ≡ Less) (keys_of more)
        → AllByRecursion (λ y. R l y ≡ Less) (keys_of (match_ordering order ((k, v) ∷ e ∷ es) ((e.0, v) ∷ es) (e ∷ more)))
    below_by l e es more Less h all rest = (h, all)
    below_by l e es more Equal h all rest = all
    below_by l e es more Greater h all rest = (all.0, rest)

    below_more : (l : K) (es : List (K × X)) → R l k ≡ Less → AllByRecursion (λ y. R l y ≡ Less) (keys_of es) → AllByRecursion (λ y. R l y ≡ Less) (keys_of (insert_entry R es k v))
    below_more l [] h all = (h, tt)
    below_more l (e ∷ es) h all = below_by l e es (insert_entry R es k v) (R k e.0) h all (below_more l es h all.1)

    ordered_by : (e : K × X) (es more : List (K × X)) (order : Ordering) → R k e.0 ≡ order → IsStrictlySortedBy R (keys_of (e ∷ es)) → (R e.0 k ≡ Less → AllByRecursion (λ y. R e.0 y ≡ Less) (keys_of more)) → IsStrictlySortedBy R (keys_of more)
        → IsStrictlySortedBy R (keys_of (match_ordering order ((k, v) ∷ e ∷ es) ((e.0, v) ∷ es) (e ∷ more)))
    unfolding IsStrictlySortedBy
    ordered_by e es more Less is s below rest = ((is, below_too o k e.0 (keys_of es) is s.0), s)
    ordered_by e es more Equal is s below rest = s
    ordered_by e es more Greater is s below rest = (below (o.antisymm e.0 k ∙ ap ordering_reverse is), rest)

    pub ordered_more : (es : List (K × X)) → IsStrictlySortedBy R (keys_of es) → IsStrictlySortedBy R (keys_of (insert_entry R es k v))
    unfolding IsStrictlySortedBy
    ordered_more [] s = (tt, tt)
    ordered_more (e ∷ es) s = ordered_by e es (insert_entry R es k v) (R k e.0) refl s (λ h. below_more e.0 es h s.0) (ordered_more es s.1)

    same_test : (q : K) → is_eq (R q k) ≡ is_eq (R k q)
    same_test q = ap is_eq (o.antisymm q k) ∙ eq_back (R k q)

    twice : (b : Bool) (w : Option X) (x : Option X) → cond b (Some v) x ≡ cond b (Some v) (cond b w x)
    twice true w x = refl
    twice false w x = refl

    apart : (a b : Bool) (w x : Option X) → (b ≡ true → a ≡ false) → cond a w (cond b (Some v) x) ≡ cond b (Some v) (cond a w x)
    apart true true w x h = absurd (true≢false (h refl))
    apart false true w x h = refl
    apart true false w x h = refl
    apart false false w x h = refl

    not_both : (q l : K) (order : Ordering) → R k q ≡ order → R k l ≡ Greater → is_eq order ≡ true → is_eq (R q l) ≡ false
    not_both q l Less is h e = absurd (true≢false (sym e))
    not_both q l Equal is h e = ap is_eq (sym (o.congr k q l is) ∙ h)
    not_both q l Greater is h e = absurd (true≢false (sym e))

    get_by : (e : K × X) (es more : List (K × X)) (q : K) (order : Ordering) → R k e.0 ≡ order → lookup (is_at (R q)) more ≡ cond (is_eq (R k q)) (Some v) (lookup (is_at (R q)) es)
        → lookup (is_at (R q)) (match_ordering order ((k, v) ∷ e ∷ es) ((e.0, v) ∷ es) (e ∷ more)) ≡ cond (is_eq (R k q)) (Some v) (lookup (is_at (R q)) (e ∷ es))
    get_by e es more q Less is h = ap (λ b. cond b (Some v) (lookup (is_at (R q)) (e ∷ es))) (same_test q)
    get_by e es more q Equal is h =
        let test : is_eq (R q e.0) ≡ is_eq (R k q) = ap is_eq (sym (alike_right o k e.0 q is)) ∙ same_test q in
        ap (λ b. cond b (Some v) (lookup (is_at (R q)) es)) test ∙ twice (is_eq (R k q)) (Some e.1) (lookup (is_at (R q)) es)
        ∙ ap (λ b. cond (is_eq (R k q)) (Some v) (cond b (Some e.1) (lookup (is_at (R q)) es))) (sym test)
    get_by e es more q Greater is h =
        ap (cond (is_eq (R q e.0)) (Some e.1)) h ∙ apart (is_eq (R q e.0)) (is_eq (R k q)) (Some e.1) (lookup (is_at (R q)) es) (λ t. not_both q e.0 (R k q) refl is t)

    pub get_more : (es : List (K × X)) (q : K) → lookup (is_at (R q)) (insert_entry R es k v) ≡ cond (is_eq (R k q)) (Some v) (lookup (is_at (R q)) es)
    get_more [] q = ap (λ b. cond b (Some v) None) (same_test q)
    get_more (e ∷ es) q = get_by e es (insert_entry R es k v) q (R k e.0) refl (get_more es q)

  abbrev insert_all : List (K × X) → List (K × X) → List (K × X)
  insert_all es [] = es
  insert_all es (x ∷ xs) = insert_all (insert_entry R es x.0 x.1) xs

  ordered_all : (es xs : List (K × X)) → IsStrictlySortedBy R (keys_of es) → IsStrictlySortedBy R (keys_of (insert_all es xs))
  ordered_all es [] s = s
  ordered_all es (x ∷ xs) s = ordered_all (insert_entry R es x.0 x.1) xs (ordered_more x.0 x.1 es s)

  same_update : (f g : K → Option X) (xs : List (K × X)) (q : K) → ((p : K) → f p ≡ g p) → update_all (eq_by_cmp R) f xs q ≡ update_all (eq_by_cmp R) g xs q
  same_update f g [] q h = h q
  same_update f g (x ∷ xs) q h = same_update (update (eq_by_cmp R) f x.0 (Some x.1)) (update (eq_by_cmp R) g x.0 (Some x.1)) xs q (λ p. ap (cond (is_eq (R x.0 p)) (Some x.1)) (h p))

  get_all : (es xs : List (K × X)) (q : K) → lookup (is_at (R q)) (insert_all es xs) ≡ update_all (eq_by_cmp R) (λ p. lookup (is_at (R p)) es) xs q
  get_all es [] q = refl
  get_all es (x ∷ xs) q =
      get_all (insert_entry R es x.0 x.1) xs q
      ∙ same_update (λ p. lookup (is_at (R p)) (insert_entry R es x.0 x.1)) (update (eq_by_cmp R) (λ p. lookup (is_at (R p)) es) x.0 (Some x.1)) xs q (λ p. get_more x.0 x.1 es p)

-- ---- lists in order in which the same is found

module _ {K X : Type 0} {R : K → K → Ordering} (o : IsTotalOrder R) where
  -- nothing is found that is below all
  none_below : (q : K) (es : List (K × X)) → AllByRecursion (λ y. R q y ≡ Less) (keys_of es) → lookup (is_at (R q)) es ≡ None
  none_below q [] all = refl
  none_below q (e ∷ es) all = ap (λ b. cond b (Some e.1) (lookup (is_at (R q)) es)) (ap is_eq all.0) ∙ none_below q es all.1

  below_first : (q : K) (e : K × X) (es : List (K × X)) → R q e.0 ≡ Less → IsStrictlySortedBy R (keys_of (e ∷ es)) → lookup (is_at (R q)) (e ∷ es) ≡ None
  unfolding IsStrictlySortedBy
  below_first q e es h s = none_below q (e ∷ es) (h, below_too o q e.0 (keys_of es) h s.0)

  found_first : (q : K) (e : K × X) (es : List (K × X)) → R q e.0 ≡ Equal → lookup (is_at (R q)) (e ∷ es) ≡ Some e.1
  found_first q e es h = ap (λ b. cond b (Some e.1) (lookup (is_at (R q)) es)) (ap is_eq h)

  past_first : (q : K) (e : K × X) (es : List (K × X)) → is_eq (R q e.0) ≡ false → lookup (is_at (R q)) (e ∷ es) ≡ lookup (is_at (R q)) es
  past_first q e es h = ap (λ b. cond b (Some e.1) (lookup (is_at (R q)) es)) h

  abbrev Same : List (K × X) → List (K × X) → Type 0
  Same es fs = (q : K) → lookup (is_at (R q)) es ≡ lookup (is_at (R q)) fs

  rest_at : (e g : K × X) (es fs : List (K × X)) → R e.0 g.0 ≡ Equal → IsStrictlySortedBy R (keys_of (e ∷ es)) → IsStrictlySortedBy R (keys_of (g ∷ fs)) → Same (e ∷ es) (g ∷ fs) → (q : K) (order : Ordering) → R q e.0 ≡ order
      → lookup (is_at (R q)) es ≡ lookup (is_at (R q)) fs
  unfolding IsStrictlySortedBy
  rest_at e g es fs h s t same q Equal is =
      let there : R q g.0 ≡ Equal = sym (alike_right o e.0 g.0 q h) ∙ is in
      none_below q es (all_as o e.0 q (keys_of es) (tied_back o q e.0 is) s.0) ∙ sym (none_below q fs (all_as o g.0 q (keys_of fs) (tied_back o q g.0 there) t.0))
  rest_at e g es fs h s t same q Less is =
      let there : R q g.0 ≡ Less = sym (alike_right o e.0 g.0 q h) ∙ is in
      sym (past_first q e es (ap is_eq is)) ∙ same q ∙ past_first q g fs (ap is_eq there)
  rest_at e g es fs h s t same q Greater is =
      let there : R q g.0 ≡ Greater = sym (alike_right o e.0 g.0 q h) ∙ is in
      sym (past_first q e es (ap is_eq is)) ∙ same q ∙ past_first q g fs (ap is_eq there)

  abbrev some_or : X → Option X → X
  some_or x None = x
  some_or x (Some y) = y

  module _ {B : Type 0} (f : K → B) (reads : (x y : K) → R x y ≡ Equal → f x ≡ f y) where
    alike_by : (e g : K × X) (es fs : List (K × X)) (order : Ordering) → R e.0 g.0 ≡ order → IsStrictlySortedBy R (keys_of (e ∷ es)) → IsStrictlySortedBy R (keys_of (g ∷ fs)) → Same (e ∷ es) (g ∷ fs) → (Same es fs → map_keys f es ≡ map_keys f fs)
        → map_keys f (e ∷ es) ≡ map_keys f (g ∷ fs)
    alike_by e g es fs Less is s t same more = absurd (none-some e.1 (sym (below_first e.0 g fs is t) ∙ sym (same e.0) ∙ found_first e.0 e es (tied_itself o e.0)))
    alike_by e g es fs Greater is s t same more =
        absurd (none-some g.1 (sym (below_first g.0 e es (o.antisymm g.0 e.0 ∙ ap ordering_reverse is) s) ∙ same g.0 ∙ found_first g.0 g fs (tied_itself o g.0)))
    alike_by e g es fs Equal is s t same more =
        let value : e.1 ≡ g.1 = ap (some_or e.1) (sym (found_first e.0 e es (tied_itself o e.0)) ∙ same e.0 ∙ found_first e.0 g fs is) in
        rw (reads e.0 g.0 is, value, more (λ q. rest_at e g es fs is s t same q (R q e.0) refl))

    alike : (es fs : List (K × X)) → IsStrictlySortedBy R (keys_of es) → IsStrictlySortedBy R (keys_of fs) → Same es fs → map_keys f es ≡ map_keys f fs
    unfolding IsStrictlySortedBy
    alike [] [] s t same = refl
    alike [] (g ∷ fs) s t same = absurd (none-some g.1 (same g.0 ∙ found_first g.0 g fs (tied_itself o g.0)))
    alike (e ∷ es) [] s t same = absurd (none-some e.1 (sym (same e.0) ∙ found_first e.0 e es (tied_itself o e.0)))
    alike (e ∷ es) (g ∷ fs) s t same = alike_by e g es fs (R e.0 g.0) refl s t same (alike es fs s.1 t.1)

put_inserted : (es xs : List Entry) → members_view (insert_all total_text es xs) ≡ put_from (members_view es) xs
put_inserted es [] = refl
put_inserted es (x ∷ xs) = put_inserted (insert_entry string_cmp es x.0 x.1) xs ∙ ap (λ ms. put_from ms xs) (members_view-insert_entry es x.0 x.1)

abbrev seen : List (List ℕ × Value) → Members
seen [] = no_members
seen (e ∷ es) = member e.0 (view e.1) (seen es)

seen_keys : (es : List Entry) → seen (map_keys string_bytes es) ≡ members_view es
seen_keys [] = refl
seen_keys (e ∷ es) = ap (member (string_bytes e.0) (view e.1)) (seen_keys es)

no_keys : IsStrictlySortedBy (string_cmp {Z = Global}) []
unfolding IsStrictlySortedBy
no_keys = tt

-- a map of a list's pairs, of which the last of equal keys stays
pub members_from_list : (xs : List Entry) (m : BTreeMap (String Global) Value) → tree.IsFromIterResult string_cmp xs m → members_view m.entries ≡ put_all xs
members_from_list xs m is =
    let all = insert_all total_text [] xs in
    let same : map_keys string_bytes m.entries ≡ map_keys string_bytes all =
    alike total_text string_bytes (λ x y e. exact_bytes (string_bytes x) (string_bytes y) e) m.entries all is.1 (ordered_all total_text [] xs no_keys) (λ q. is.0 q ∙ sym (get_all total_text [] xs q)) in
    sym (seen_keys m.entries) ∙ ap seen same ∙ seen_keys all ∙ put_inserted [] xs

pub put_push : (ms : Members) (xs : List Entry) (x : Entry) → put_from ms (xs ++ x ∷ []) ≡ put (string_bytes x.0) (view x.1) (put_from ms xs)
put_push ms [] x = refl
put_push ms (y ∷ xs) x = put_push (put (string_bytes y.0) (view y.1) ms) xs x
