-- The map of files that a tree of names and bytes stands for.
use Rattle.std.proofs.Common.{◌≡◌, ℕ, Bool, true, false, cond, List, [], ◌∷◌, map, Option, None, Some, Ordering, refl, sym, ◌∙◌, ap, subst}
use Rattle.std.specs.Prelude.{IsSome, OnOk, OnErr, is_ok, unwrap_or, ◌++◌, Result, Ok, Err}
use Rattle.std.specs.Option.{option_map, option_copied_mut}
use Rattle.std.specs.Borrow.{MutBor}
use Rattle.std.specs.declared.alloc.AllocError.{AllocError}
use Rattle.std.specs.declared.cmp.Ordering.TheVariants.{Less, Equal, Greater}
use Rattle.std.specs.Ordering.{nat_cmp, eq_by_cmp, is_eq, match_ordering}
use Rattle.std.specs.Cmp.{tied_itself}
use Rattle.std.proofs.lemmas.Bool.{false≢true}
use Rattle.std.specs.Cmp.Lexicographic.{slice_cmp, nat_list_cmp_total}
use Rattle.std.specs.FinMap.{from_entries, insert, get, get-insert, get-from_entries, same_map, slice_cmp-IsAntisymmetric, nat_cmp-IsAntisymmetric}
use Rattle.std.specs.FinMap.Entries.{find, put, find-put, by_order}
use Rattle.std.specs.Map.{lookup, set_value}
use Rattle.std.specs.BTreeMap.{insert_entry, is_at}
use Rattle.std.specs.declared.alloc.Global.{Global}
use Rattle.std.specs.declared.vec.Vec.{Vec}
use Rattle.papy_io.specs.Files.{Files}
use Rattle.papy_io.specs.MemoryFiles.{entry_of, files_of, bytes_in}

abbrev pub names : List ℕ → List ℕ → Ordering
names = slice_cmp nat_cmp

abbrev keys_cmp : Vec ℕ Global → Vec ℕ Global → Ordering
keys_cmp a b = names a.items b.items

-- a look-up in the entries is one in the map
find_lookup : (es : List (Vec ℕ Global × Vec ℕ Global)) (q : List ℕ) → find names q (map entry_of es) ≡ option_map (λ v. v.items) (lookup (is_at (λ k. names q k.items)) es)
find_lookup [] q = refl
find_lookup (e ∷ es) q =
    elim (is_eq (names q e.0.items)) as (λ b. cond b (Some e.1.items) (find names q (map entry_of es)) ≡ option_map (λ v. v.items) (cond b (Some e.1) (lookup (is_at (λ k. names q k.items)) es))) [
      | true ↦ refl
      | false ↦ find_lookup es q
    ]

pub get_files_of : (es : List (Vec ℕ Global × Vec ℕ Global)) (q : List ℕ) → get (files_of es) q ≡ option_map (λ v. v.items) (lookup (is_at (λ k. names q k.items)) es)
get_files_of es q = get-from_entries nat_list_cmp_total _ q ∙ find_lookup es q

entries_insert : (es : List (Vec ℕ Global × Vec ℕ Global)) (k v : Vec ℕ Global) → map entry_of (insert_entry keys_cmp es k v) ≡ put names k.items v.items (map entry_of es)
entries_insert [] k v = refl
entries_insert (e ∷ es) k v =
    elim (names k.items e.0.items) as (λ o. map entry_of (match_ordering o ((k, v) ∷ e ∷ es) ((e.0, v) ∷ es) (e ∷ insert_entry keys_cmp es k v)) ≡ by_order o ((k.items, v.items) ∷ entry_of e ∷ map entry_of es) ((e.0.items, v.items) ∷ map entry_of es) (entry_of e ∷ put names k.items v.items (map entry_of es))) [
      | Less ↦ refl
      | Equal ↦ refl
      | Greater ↦ ap (λ t. entry_of e ∷ t) (entries_insert es k v)
    ]

-- entries that answer alike but at one name make maps that do
one_changed : (es fs : List (List ℕ × List ℕ)) (name bytes : List ℕ) → ((q : List ℕ) → find names q fs ≡ cond (eq_by_cmp names q name) (Some bytes) (find names q es)) → from_entries {R = names} fs ≡ insert (from_entries es) name bytes
one_changed es fs name bytes h = same_map nat_list_cmp_total (slice_cmp-IsAntisymmetric nat_cmp-IsAntisymmetric) _ _ (λ q.
    get-from_entries nat_list_cmp_total fs q ∙ h q
    ∙ sym (get-insert nat_list_cmp_total (from_entries es) name bytes q ∙ ap (cond (eq_by_cmp names q name) (Some bytes)) (get-from_entries nat_list_cmp_total es q)))

pub files_of-insert : (es : List (Vec ℕ Global × Vec ℕ Global)) (k v : Vec ℕ Global) → files_of (insert_entry keys_cmp es k v) ≡ insert (files_of es) k.items v.items
files_of-insert es k v = one_changed (map entry_of es) _ k.items v.items (λ q. ap (find names q) (entries_insert es k v) ∙ find-put names nat_list_cmp_total q k.items v.items (map entry_of es))

pub same_name : (a b : List ℕ) → is_eq (names a b) ≡ true → a ≡ b
same_name a b e = slice_cmp-IsAntisymmetric nat_cmp-IsAntisymmetric a b (tie (names a b) e) where
  tie : (o : Ordering) → is_eq o ≡ true → o ≡ Equal
  tie Less e = absurd (false≢true e)
  tie Equal e = refl
  tie Greater e = absurd (false≢true e)

-- where q ties with one of two names apart, the order of the two tests is free
apart : {A : Type 0} (q x name : List ℕ) (a b : Bool) (w v r : A) → is_eq (names q x) ≡ a → is_eq (names q name) ≡ b → is_eq (names name x) ≡ false → cond a v (cond b w r) ≡ cond b w (cond a v r)
apart q x name true true w v r ea eb e =
    let same : name ≡ x = sym (same_name q name eb) ∙ same_name q x ea in
    absurd (false≢true (sym e ∙ ap (λ n. is_eq (names n x)) same ∙ ap is_eq (tied_itself nat_list_cmp_total x)))
apart q x name true false w v r ea eb e = refl
apart q x name false b w v r ea eb e = refl

once : {A : Type 0} (b : Bool) (w v r : A) → cond b w r ≡ cond b w (cond b v r)
once true w v r = refl
once false w v r = refl

find_set : (es : List (Vec ℕ Global × Vec ℕ Global)) (name : List ℕ) (w : Vec ℕ Global) (q : List ℕ) → IsSome (lookup (is_at (λ k. names name k.items)) es) → find names q (map entry_of (set_value (is_at (λ k. names name k.items)) es w)) ≡ cond (eq_by_cmp names q name) (Some w.items) (find names q (map entry_of es))
find_set [] name w q h = absurd (false≢true h)
find_set (e ∷ es) name w q h =
    elim (is_eq (names name e.0.items)) as (λ b. is_eq (names name e.0.items) ≡ b → IsSome (cond b (Some e.1) (lookup (is_at (λ k. names name k.items)) es)) → find names q (map entry_of (cond b ((e.0, w) ∷ es) (e ∷ set_value (is_at (λ k. names name k.items)) es w))) ≡ cond (eq_by_cmp names q name) (Some w.items) (find names q (entry_of e ∷ map entry_of es))) [
      | true ↦ λ is _. once (is_eq (names q e.0.items)) (Some w.items) (Some e.1.items) (find names q (map entry_of es)) ∙ ap (λ n. cond (is_eq (names q n)) (Some w.items) (find names q (entry_of e ∷ map entry_of es))) (sym (same_name name e.0.items is))
      | false ↦ λ is there. ap (cond (is_eq (names q e.0.items)) (Some e.1.items)) (find_set es name w q there)
          ∙ apart q e.0.items name (is_eq (names q e.0.items)) (is_eq (names q name)) (Some w.items) (Some e.1.items) (find names q (map entry_of es)) refl refl is
    ] refl h

pub files_of-set_value : (es : List (Vec ℕ Global × Vec ℕ Global)) (name : List ℕ) (w : Vec ℕ Global) → IsSome (lookup (is_at (λ k. names name k.items)) es) → files_of (set_value (is_at (λ k. names name k.items)) es w) ≡ insert (files_of es) name w.items
files_of-set_value es name w h = one_changed (map entry_of es) _ name w.items (λ q. find_set es name w q h)

pub is_some-items : (o : Option (Vec ℕ Global)) → IsSome (option_map (λ v. v.items) o) → IsSome o
is_some-items None h = h
is_some-items (Some v) h = refl

pub is_some_copied : (o : Option (MutBor (Vec ℕ Global))) (p : Option (Vec ℕ Global)) → option_copied_mut o ≡ p → IsSome p → IsSome o
is_some_copied None p e h = subst IsSome (sym e) h
is_some_copied (Some v) p e h = refl

-- the bytes of the name that a look-up found
pub bytes_in_found : (es : List (Vec ℕ Global × Vec ℕ Global)) (m : Files) (name : List ℕ) (v : Vec ℕ Global) → files_of es ≡ m → Some v ≡ lookup (is_at (λ k. names name k.items)) es → bytes_in m name ≡ v.items
bytes_in_found es m name v e f =
    ap (λ n. bytes_in n name) (sym e) ∙ ap (λ o. unwrap_or o []) (get_files_of es name ∙ ap (option_map (λ v. v.items)) (sym f))

-- the bytes of the name that a look-up found were changed
pub files_after : (es fs : List (Vec ℕ Global × Vec ℕ Global)) (m : Files) (name : List ℕ) (v w : Vec ℕ Global) → files_of es ≡ m → Some v ≡ lookup (is_at (λ k. names name k.items)) es → fs ≡ set_value (is_at (λ k. names name k.items)) es w → files_of fs ≡ insert m name w.items
files_after es fs m name v w e f s =
    ap files_of s ∙ files_of-set_value es name w (subst IsSome f refl) ∙ ap (λ n. insert n name w.items) e

-- to write what is there changes nothing
pub insert_held : (m : Files) (name held : List ℕ) → get m name ≡ Some held → insert m name held ≡ m
insert_held m name held h = same_map nat_list_cmp_total (slice_cmp-IsAntisymmetric nat_cmp-IsAntisymmetric) _ _ (λ q.
    get-insert nat_list_cmp_total m name held q ∙ same q (is_eq (names q name)) refl) where
      same : (q : List ℕ) (b : Bool) → is_eq (names q name) ≡ b → cond b (Some held) (get m q) ≡ get m q
      same q true e = sym (ap (get m) (same_name q name e) ∙ h)
      same q false e = refl

pub after_ok : (r : Result (Unit {0}) AllocError) (held bytes new : List ℕ) (P : List ℕ → Type 0) → new ≡ cond (is_ok r) (held ++ bytes) held → P new → OnOk r (P (held ++ bytes))
after_ok (Ok u) held bytes new P e p = subst P e p
after_ok (Err f) held bytes new P e p = tt

pub after_err : (r : Result (Unit {0}) AllocError) (held bytes new : List ℕ) (P : List ℕ → Type 0) (Q : Type 0) → (P held → Q) → new ≡ cond (is_ok r) (held ++ bytes) held → P new → OnErr r Q
after_err (Ok u) held bytes new P Q f e p = tt
after_err (Err a) held bytes new P Q f e p = f (subst P e p)

-- a name that holds bytes holds those that are in it
pub held_bytes : (m : Files) (name : List ℕ) → IsSome (get m name) → get m name ≡ Some (bytes_in m name)
held_bytes m name h = some (get m name) h where
  some : (o : Option (List ℕ)) → IsSome o → o ≡ Some (unwrap_or o [])
  some None h = absurd (false≢true h)
  some (Some b) h = refl
