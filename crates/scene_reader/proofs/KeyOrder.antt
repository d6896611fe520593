-- In a value that was read each key of an object stands once, in the order of their bytes.
use Rattle.std.proofs.Common.{ℕ, ◌≡◌, Bool, true, false, ◌&&◌, ◌||◌, List, [], ◌∷◌, Option, Some, None, option_map, option_and_then, Ordering, Less, Equal, Greater, nat_cmp, is_eq, bytes_eq, if◌then◌else◌, refl, sym, ap, subst, ◌∙◌}
use Rattle.std.specs.Cmp.Lexicographic.{slice_cmp}
use Rattle.std.specs.List.{AllByRecursion}
use Rattle.std.specs.Ordering.{match_ordering, ordering_reverse}
use Rattle.std.specs.Str.{is_utf8}
use Rattle.std.proofs.lemmas.Bool.{true≢false}
use Rattle.std.proofs.lemmas.Cmp.{nat_list_cmp_total, tied_itself}
use Rattle.std.proofs.lemmas.Map.Text.{is_eq-slice_cmp}
use Rattle.std.proofs.lemmas.Option.{none-some}
use Rattle.std.proofs.lemmas.Slice.Eq.{bytes_eq-Decides}
use Rattle.json.specs.Json as json
use Rattle.json.specs.Lex.{tokens}
use Rattle.serde_json.specs.Data.{Data, number, array, object, item, Members, no_members, member, put}
use Rattle.serde_json.specs.Find.{get_member}
use Rattle.serde_json.specs.Read.{max_depth, number_of, of_json, of_items, of_members, read}
use Rattle.serde_json.specs.Written.{has_float, members_have_float}
use Rattle.scene_reader.specs.KeyOrder.{AreItemsOrdered, AreOrdered, Before, IsOrdered}
use Rattle.scene_reader.specs.Reading.{have_only, is_among}
use Rattle.scene_reader.specs.SceneText.{json_in}

abbrev compare : List ℕ → List ℕ → Ordering
compare = slice_cmp nat_cmp

-- ---- a member that is put

before_too : (k l : List ℕ) (ms : Members) → compare k l ≡ Less → Before l ms → Before k ms
before_too k l no_members h b = tt
before_too k l (member m e ms) h b = (nat_list_cmp_total.trans k l m h b.0, before_too k l ms h b.1)

before_by : (q : List ℕ) (o : Ordering) (a b c : Members) → Before q a → Before q b → Before q c → Before q (match_ordering o a b c)
before_by q Less a b c x y z = x
before_by q Equal a b c x y z = y
before_by q Greater a b c x y z = z

before_put : (q k : List ℕ) (d : Data) (ms : Members) → compare q k ≡ Less → Before q ms → Before q (put k d ms)
before_put q k d no_members h b = (h, tt)
before_put q k d (member l e ms) h b =
    before_by q (compare k l) (member k d (member l e ms)) (member l d ms) (member l e (put k d ms)) (h, b) (b.0, b.1) (b.0, before_put q k d ms h b.1)

ordered_by : (o : Ordering) (k l : List ℕ) (d e : Data) (ms : Members) → compare k l ≡ o → IsOrdered d → AreOrdered (member l e ms) → AreOrdered (put k d ms)
    → AreOrdered (match_ordering o (member k d (member l e ms)) (member l d ms) (member l e (put k d ms)))
ordered_by Less k l d e ms is one all later = ((is, before_too k l ms is all.0), one, all)
ordered_by Equal k l d e ms is one all later = (all.0, one, all.2)
ordered_by Greater k l d e ms is one all later = (before_put l k d ms (nat_list_cmp_total.antisymm l k ∙ ap ordering_reverse is) all.0, all.1, later)

pub ordered_put : (k : List ℕ) (d : Data) (ms : Members) → IsOrdered d → AreOrdered ms → AreOrdered (put k d ms)
ordered_put k d no_members one all = (tt, one, tt)
ordered_put k d (member l e ms) one all = ordered_by (compare k l) k l d e ms refl one all (ordered_put k d ms one all.2)

-- ---- values that were read

abbrev IfAny : {A : Type 0} → (A → Type 0) → Option A → Type 0
IfAny P None = Unit {0}
IfAny P (Some a) = P a

any_map : {A B : Type 0} (P : A → Type 0) (Q : B → Type 0) (f : A → B) → ((a : A) → P a → Q (f a)) → (o : Option A) → IfAny P o → IfAny Q (option_map f o)
any_map P Q f h None x = tt
any_map P Q f h (Some a) x = h a x

any_then : {A B : Type 0} (P : A → Type 0) (Q : B → Type 0) (f : A → Option B) → ((a : A) → P a → IfAny Q (f a)) → (o : Option A) → IfAny P o → IfAny Q (option_and_then f o)
any_then P Q f h None x = tt
any_then P Q f h (Some a) x = h a x

whatever : {A : Type 0} (o : Option A) → IfAny (λ _. Unit {0}) o
whatever None = tt
whatever (Some a) = tt

mutual
  ordered_json : (j : json.Json) → IfAny IsOrdered (of_json j)
  ordered_json json.null = tt
  ordered_json (json.boolean b) = tt
  ordered_json (json.number s) = any_map (λ _. Unit {0}) IsOrdered number (λ a x. tt) (number_of s) (whatever (number_of s))
  ordered_json (json.string s) = tt
  ordered_json (json.array js) = any_map AreItemsOrdered IsOrdered array (λ a x. x) (of_items js) (ordered_items js)
  ordered_json (json.object ms) = any_map AreOrdered IsOrdered object (λ a x. x) (of_members ms no_members) (ordered_members ms no_members tt)

  ordered_items : (js : json.Items) → IfAny AreItemsOrdered (of_items js)
  ordered_items json.no_items = tt
  ordered_items (json.item j js) =
      any_then IsOrdered AreItemsOrdered (λ d. option_map (item d) (of_items js)) (λ d x. any_map AreItemsOrdered AreItemsOrdered (item d) (λ ds y. (x, y)) (of_items js) (ordered_items js)) (of_json j) (ordered_json j)

  ordered_members : (ms : json.Members) (found : Members) → AreOrdered found → IfAny AreOrdered (of_members ms found)
  ordered_members json.no_members found h = h
  ordered_members (json.member k j ms) found h =
      any_then IsOrdered AreOrdered (λ d. of_members ms (put k d found)) (λ d x. ordered_members ms (put k d found) (ordered_put k d found x h)) (of_json j) (ordered_json j)

ordered_read : (bytes : List ℕ) → IfAny IsOrdered (read bytes)
ordered_read bytes =
    let whole = option_and_then (λ p. json.if_last p.0 p.1) (json.value max_depth (tokens bytes)) in
    any_then (λ _. Unit {0}) IsOrdered of_json (λ j x. ordered_json j) whole (whatever whole)

ordered_text : (bytes : List ℕ) (utf8 : Bool) → IfAny IsOrdered (if utf8 then read bytes else None)
ordered_text bytes true = ordered_read bytes
ordered_text bytes false = tt

pub ordered-json_in : (bytes : List ℕ) (value : Data) → json_in bytes ≡ Some value → IsOrdered value
ordered-json_in bytes value is = subst (IfAny IsOrdered) is (ordered_text bytes (is_utf8 bytes))

-- ---- what stands at a key

same_key : (q k : List ℕ) → compare q k ≡ Equal → q ≡ k
same_key q k is = (bytes_eq-Decides q k).0 (sym (is_eq-slice_cmp q k) ∙ ap is_eq is)

none_before : (q : List ℕ) (ms : Members) → Before q ms → get_member q ms ≡ None
none_before q no_members b = refl
none_before q (member l e ms) b = rw b.0 (none_before q ms b.1)

later_by : (o : Ordering) (q k : List ℕ) (d e : Data) (ms : Members) → compare q k ≡ o → Before k ms → get_member q ms ≡ Some e → match_ordering o (get_member q ms) (Some d) (get_member q ms) ≡ Some e
later_by Less q k d e ms is b h = h
later_by Equal q k d e ms is b h = absurd (none-some e (sym (none_before q ms (subst (λ x. Before x ms) (sym (same_key q k is)) b)) ∙ h))
later_by Greater q k d e ms is b h = h

-- a key behind the first is found there
found_later : (q k : List ℕ) (d e : Data) (ms : Members) → Before k ms → get_member q ms ≡ Some e → get_member q (member k d ms) ≡ Some e
found_later q k d e ms b h = later_by (compare q k) q k d e ms refl b h

found_first : (k : List ℕ) (d : Data) (ms : Members) → get_member k (member k d ms) ≡ Some d
found_first k d ms = rw (tied_itself nat_list_cmp_total k) refl

some_back : {A : Type 0} (a b : A) → Some a ≡ Some b → a ≡ b
some_back a b is = ap (λ o. elim o as (λ _. _) [ None ↦ a | Some x ↦ x ]) is

ordered_at : (o : Ordering) (q k : List ℕ) (d e : Data) (ms : Members) → AreOrdered (member k d ms) → (get_member q ms ≡ Some e → IsOrdered e) → match_ordering o (get_member q ms) (Some d) (get_member q ms) ≡ Some e → IsOrdered e
ordered_at Less q k d e ms all later h = later h
ordered_at Equal q k d e ms all later h = subst IsOrdered (some_back d e h) all.1
ordered_at Greater q k d e ms all later h = later h

pub ordered_member : (q : List ℕ) (e : Data) (ms : Members) → AreOrdered ms → get_member q ms ≡ Some e → IsOrdered e
ordered_member q e no_members all h = absurd (none-some e h)
ordered_member q e (member k d ms) all h = ordered_at (compare q k) q k d e ms all (ordered_member q e ms all.2) h

-- ---- objects without other keys than these

both_true : (a b : Bool) → (a && b) ≡ true → (a ≡ true) × (b ≡ true)
both_true true b h = (refl, h)
both_true false b h = absurd (true≢false (sym h))

among_at : (keys : List (List ℕ)) (o : Ordering) (q k : List ℕ) (d e : Data) (ms : Members) → compare q k ≡ o → is_among keys k ≡ true → (get_member q ms ≡ Some e → is_among keys q ≡ true)
    → match_ordering o (get_member q ms) (Some d) (get_member q ms) ≡ Some e → is_among keys q ≡ true
among_at keys Less q k d e ms is here later h = later h
among_at keys Equal q k d e ms is here later h = subst (λ x. is_among keys x ≡ true) (sym (same_key q k is)) here
among_at keys Greater q k d e ms is here later h = later h

among : (keys : List (List ℕ)) (q : List ℕ) (e : Data) (ms : Members) → have_only keys ms ≡ true → get_member q ms ≡ Some e → is_among keys q ≡ true
among keys q e no_members only h = absurd (none-some e h)
among keys q e (member k d ms) only h =
    let parts = both_true (is_among keys k) (have_only keys ms) only in
    among_at keys (compare q k) q k d e ms refl parts.0 (among keys q e ms parts.1) h

among_by : (P : List ℕ → Type 0) (b : Bool) (key : List ℕ) (keys : List (List ℕ)) (q : List ℕ) → bytes_eq q key ≡ b → (b || is_among keys q) ≡ true → P key → (is_among keys q ≡ true → P q) → P q
among_by P true key keys q same h here later = subst P (sym ((bytes_eq-Decides q key).0 same)) here
among_by P false key keys q same h here later = later h

-- what holds of each key holds of one that is among them
of_each : (P : List ℕ → Type 0) (keys : List (List ℕ)) (q : List ℕ) → is_among keys q ≡ true → AllByRecursion P keys → P q
of_each P [] q h all = absurd (true≢false (sym h))
of_each P (key ∷ keys) q h all = among_by P (bytes_eq q key) key keys q refl h all.0 (λ more. of_each P keys q more all.1)

either_false : (a b : Bool) → a ≡ false → b ≡ false → (a || b) ≡ false
either_false a b x y = rw (x, y) refl

no_float_at : (ms : Members) → AreOrdered ms → ((q : List ℕ) (e : Data) → get_member q ms ≡ Some e → has_float e ≡ false) → members_have_float ms ≡ false
no_float_at no_members all h = refl
no_float_at (member k d ms) all h =
    either_false (has_float d) (members_have_float ms) (h k d (found_first k d ms)) (no_float_at ms all.2 (λ q e is. h q e (found_later q k d e ms all.0 is)))

-- an object whose keys are among these, and that has no float at any of them, has none
pub no_float_within : (keys : List (List ℕ)) (ms : Members) → AreOrdered ms → have_only keys ms ≡ true → AllByRecursion (λ key. (e : Data) → get_member key ms ≡ Some e → has_float e ≡ false) keys → members_have_float ms ≡ false
no_float_within keys ms all only each =
    no_float_at ms all (λ q e is. of_each (λ key. (e : Data) → get_member key ms ≡ Some e → has_float e ≡ false) keys q (among keys q e ms only is) each e is)

-- ---- keys after a member was put

only_by : (keys : List (List ℕ)) (o : Ordering) (k l : List ℕ) (d e : Data) (ms : Members) → is_among keys k ≡ true → have_only keys (member l e ms) ≡ true → have_only keys (put k d ms) ≡ true
    → have_only keys (match_ordering o (member k d (member l e ms)) (member l d ms) (member l e (put k d ms))) ≡ true
only_by keys Less k l d e ms here all later = rw (here, all) refl
only_by keys Equal k l d e ms here all later = all
only_by keys Greater k l d e ms here all later = rw ((both_true (is_among keys l) (have_only keys ms) all).0, later) refl

pub only_put : (keys : List (List ℕ)) (k : List ℕ) (d : Data) (ms : Members) → is_among keys k ≡ true → have_only keys ms ≡ true → have_only keys (put k d ms) ≡ true
only_put keys k d no_members here all = rw here refl
only_put keys k d (member l e ms) here all = only_by keys (compare k l) k l d e ms here all (only_put keys k d ms here (both_true (is_among keys l) (have_only keys ms) all).1)

pub other_key : (q k : List ℕ) → bytes_eq q k ≡ false → q ≡ k → ⊥
other_key q k apart same = true≢false (sym ((bytes_eq-Decides q k).1 same) ∙ apart)
