-- What a write to one link leaves of the lists that the links lead along.
use Rattle.std.proofs.Common.{◌≡◌, ◌≢◌, ℕ, zero, suc, ◌<◌, ◌≤◌, List, [], ◌∷◌, ◌++◌, length, Option, Some, None, Bool, true, false, cond, eqb, ◌||◌, sym, refl, ap, subst, ◌∙◌, inl, inr, ⊎_elim, arith}
use Rattle.std.proofs.Math.ListN.{set, length-set}
use Rattle.std.proofs.lemmas.List.{get_or-set_same, get_or-set_other}
use Rattle.std.proofs.lemmas.Grind.{get_or-set_at}
use Rattle.std.proofs.lemmas.Bool.{eq-eqb, ne_eqb, eqb-true}
use Rattle.std.proofs.lemmas.Map.Steps.{length-le_from_distinct_below}
use Rattle.std.specs.List.{last_or, list_any, IsDistinct, AllByRecursion}
use Rattle.lock_queue.specs.Links.{link_at, Leads, LeadsBack, Lacks, Has, AllDiffer, AllBelow, without, walk}

pub lacks-append : (xs ys : List ℕ) (k : ℕ) → Lacks xs k → Lacks ys k → Lacks (xs ++ ys) k
lacks-append [] ys k lacks_xs lacks_ys = lacks_ys
lacks-append (x ∷ xs) ys k lacks_xs lacks_ys = (lacks_xs.0, lacks-append xs ys k lacks_xs.1 lacks_ys)

pub lacks_left : (xs ys : List ℕ) (k : ℕ) → Lacks (xs ++ ys) k → Lacks xs k
lacks_left [] ys k lacks = tt
lacks_left (x ∷ xs) ys k lacks = (lacks.0, lacks_left xs ys k lacks.1)

pub lacks_right : (xs ys : List ℕ) (k : ℕ) → Lacks (xs ++ ys) k → Lacks ys k
lacks_right [] ys k lacks = lacks
lacks_right (x ∷ xs) ys k lacks = lacks_right xs ys k lacks.1

pub has_left : (xs ys : List ℕ) (k : ℕ) → Has xs k → Has (xs ++ ys) k
has_left [] ys k has = elim has [ ]
has_left (x ∷ xs) ys k has = ⊎_elim (λ e. inl e) (λ h. inr (has_left xs ys k h)) has

pub has_right : (xs ys : List ℕ) (k : ℕ) → Has ys k → Has (xs ++ ys) k
has_right [] ys k has = has
has_right (x ∷ xs) ys k has = inr (has_right xs ys k has)

-- a stack that a list lacks is none that it has
pub apart : (xs : List ℕ) (x k : ℕ) → Lacks xs x → Has xs k → x ≢ k
apart [] x k lacks has = elim has [ ]
apart (o ∷ os) x k lacks has =
    ⊎_elim (λ (e : o ≡ k). λ (f : x ≡ k). lacks.0 (e ∙ sym f)) (λ h. apart os x k lacks.1 h) has

pub differ-push : (xs : List ℕ) (k : ℕ) → AllDiffer xs → Lacks xs k → AllDiffer (xs ++ k ∷ [])
differ-push [] k differ lacks = (tt, tt)
differ-push (x ∷ xs) k differ lacks =
    (lacks-append xs (k ∷ []) x differ.0 (λ e. lacks.0 (sym e), tt), differ-push xs k differ.1 lacks.1)

pub below-push : (room : ℕ) (xs : List ℕ) (k : ℕ) → AllBelow room xs → k < room → AllBelow room (xs ++ k ∷ [])
below-push room [] k below within = (within, tt)
below-push room (x ∷ xs) k below within = (below.0, below-push room xs k below.1 within)

pub below_has : (room : ℕ) (xs : List ℕ) (k : ℕ) → AllBelow room xs → Has xs k → k < room
below_has room [] k below has = elim has [ ]
below_has room (x ∷ xs) k below has =
    ⊎_elim (λ (e : x ≡ k). let P : ℕ → Type 0 = λ n. n < room in subst P e below.0) (λ h. below_has room xs k below.1 h) has

-- ---- a list that is cut at one of its stacks
pub differ_without : (front back : List ℕ) (k : ℕ) → AllDiffer (front ++ k ∷ back) → AllDiffer (front ++ back)
differ_without [] back k differ = differ.1
differ_without (x ∷ xs) back k differ =
    (lacks-append xs back x (lacks_left xs (k ∷ back) x differ.0) (lacks_right xs (k ∷ back) x differ.0).1, differ_without xs back k differ.1)

pub below_without : (room : ℕ) (front back : List ℕ) (k : ℕ) → AllBelow room (front ++ k ∷ back) → AllBelow room (front ++ back)
below_without room [] back k below = below.1
below_without room (x ∷ xs) back k below = (below.0, below_without room xs back k below.1)

pub differ_back : (front back : List ℕ) (k : ℕ) → AllDiffer (front ++ k ∷ back) → AllDiffer (k ∷ back)
differ_back [] back k differ = differ
differ_back (x ∷ xs) back k differ = differ_back xs back k differ.1

pub record IsCut (xs : List ℕ) (k : ℕ) (front back : List ℕ) : Type 0 where
  pub whole : xs ≡ front ++ k ∷ back
  pub rest : without xs k ≡ front ++ back

pub cut_at : (xs : List ℕ) (k : ℕ) → AllDiffer xs → Has xs k → (front : List ℕ) × (back : List ℕ) × IsCut xs k front back
cut_at [] k differ has = elim has [ ]
cut_at (x ∷ xs) k differ has =
    ⊎_elim
    (λ (e : x ≡ k). ([], xs, record { whole = ap (λ n. n ∷ xs) e; rest = ap (λ b. cond b xs (x ∷ without xs k)) (eq-eqb x k e) }))
    (λ (h : Has xs k). let found = cut_at xs k differ.1 h in (
      x ∷ found.0,
      found.1,
      record {
        whole = ap (λ ys. x ∷ ys) found.2.whole;
        rest = ap (λ b. cond b xs (x ∷ without xs k)) (ne_eqb x k (apart xs x k differ.0 h)) ∙ ap (λ ys. x ∷ ys) found.2.rest;
      },
    ))
    has

-- ---- the last stack
pub last_or-append : (p : Option ℕ) (xs ys : List ℕ) → last_or p (xs ++ ys) ≡ last_or (last_or p xs) ys
last_or-append p [] ys = refl
last_or-append p (x ∷ xs) ys = last_or-append (Some x) xs ys

pub last_has : (x : ℕ) (xs : List ℕ) (b : ℕ) → last_or (Some x) xs ≡ Some b → Has (x ∷ xs) b
last_has x [] b e = inl (cc)
last_has x (y ∷ ys) b e = inr (last_has y ys b e)

-- ---- links to the next stack
pub leads-frame : (links : List (Option ℕ)) (k : ℕ) (v start : Option ℕ) (xs : List ℕ) → Lacks xs k → Leads links start xs → Leads (set links k v) start xs
leads-frame links k v start [] lacks leads = leads
leads-frame links k v start (x ∷ xs) lacks leads =
    let P : Option ℕ → Type 0 = λ s. Leads (set links k v) s xs in
    (leads.0, subst P (sym (get_or-set_other links k x v None lacks.0)) (leads-frame links k v (link_at links x) xs lacks.1 leads.1))

abbrev pub pushed_links : List (Option ℕ) → ℕ → ℕ → List (Option ℕ)
pushed_links links last k = set (set links k None) last (Some k)

pub leads-push : (links : List (Option ℕ)) (start : Option ℕ) (xs : List ℕ) (b k : ℕ) → Leads links start xs → AllDiffer xs → last_or None xs ≡ Some b → Lacks xs k → b < length links → k < length links → Leads (pushed_links links b k) start (xs ++ k ∷ [])
leads-push links start [] b k leads differ last lacks b_in k_in = cc
leads-push links start (x ∷ []) b k leads differ last lacks b_in k_in =
    let x_is : x ≡ b = cc in
    let k_other : k ≢ b = λ e. lacks.0 (x_is ∙ sym e) in
    let b_in_set : b < length (set links k None) = omega (arith, length-set links k None) in (
      leads.0,
      (
        get_or-set_at (set links k None) b x (Some k) None x_is b_in_set,
        get_or-set_other (set links k None) b k (Some k) None k_other ∙ get_or-set_same links k None None k_in,
      ),
    )
leads-push links start (x ∷ y ∷ ys) b k leads differ last lacks b_in k_in =
    let x_other : x ≢ b = apart (y ∷ ys) x b differ.0 (last_has y ys b last) in
    let P : Option ℕ → Type 0 = λ s. Leads (pushed_links links b k) s ((y ∷ ys) ++ k ∷ []) in (
      leads.0,
      subst P (sym (get_or-set_other (set links k None) b x (Some k) None x_other ∙ get_or-set_other links k x None None lacks.0))
          (leads-push links (link_at links x) (y ∷ ys) b k leads.1 differ.1 last lacks.1 b_in k_in),
    )

pub leads_after : (links : List (Option ℕ)) (start : Option ℕ) (front back : List ℕ) (k : ℕ) → Leads links start (front ++ k ∷ back) → Leads links (link_at links k) back
leads_after links start [] back k leads = leads.1
leads_after links start (x ∷ xs) back k leads = leads_after links (link_at links x) xs back k leads.1

pub leads-remove : (links : List (Option ℕ)) (start : Option ℕ) (front back : List ℕ) (k b : ℕ) → Leads links start (front ++ k ∷ back) → AllDiffer (front ++ k ∷ back) → last_or None front ≡ Some b → b < length links → Leads (set links b (link_at links k)) start (front ++ back)
leads-remove links start [] back k b leads differ last b_in = cc
leads-remove links start (x ∷ []) back k b leads differ last b_in =
    let x_is : x ≡ b = cc in
    let P : Option ℕ → Type 0 = λ s. Leads (set links b (link_at links k)) s back in
    let Q : ℕ → Type 0 = λ n. Lacks back n in (
      leads.0,
      subst P (sym (get_or-set_at links b x (link_at links k) None x_is b_in))
          (leads-frame links b (link_at links k) (link_at links k) back (subst Q x_is differ.0.1) leads.1.1),
    )
leads-remove links start (x ∷ y ∷ ys) back k b leads differ last b_in =
    let x_other : x ≢ b = apart ((y ∷ ys) ++ k ∷ back) x b differ.0 (has_left (y ∷ ys) (k ∷ back) b (last_has y ys b last)) in
    let P : Option ℕ → Type 0 = λ s. Leads (set links b (link_at links k)) s ((y ∷ ys) ++ back) in (
      leads.0,
      subst P (sym (get_or-set_other links b x (link_at links k) None x_other))
          (leads-remove links (link_at links x) (y ∷ ys) back k b leads.1 differ.1 last b_in),
    )

-- ---- links to the stack before
pub back-frame : (links : List (Option ℕ)) (k : ℕ) (v before : Option ℕ) (xs : List ℕ) → Lacks xs k → LeadsBack links before xs → LeadsBack (set links k v) before xs
back-frame links k v before [] lacks leads = tt
back-frame links k v before (x ∷ xs) lacks leads =
    (get_or-set_other links k x v None lacks.0 ∙ leads.0, back-frame links k v (Some x) xs lacks.1 leads.1)

pub back-push : (links : List (Option ℕ)) (before : Option ℕ) (xs : List ℕ) (k : ℕ) → LeadsBack links before xs → Lacks xs k → k < length links → LeadsBack (set links k (last_or before xs)) before (xs ++ k ∷ [])
back-push links before [] k leads lacks k_in = (get_or-set_same links k before None k_in, tt)
back-push links before (x ∷ xs) k leads lacks k_in =
    (get_or-set_other links k x (last_or (Some x) xs) None lacks.0 ∙ leads.0, back-push links (Some x) xs k leads.1 lacks.1 k_in)

pub before_is : (links : List (Option ℕ)) (before : Option ℕ) (front back : List ℕ) (k : ℕ) → LeadsBack links before (front ++ k ∷ back) → link_at links k ≡ last_or before front
before_is links before [] back k leads = leads.0
before_is links before (x ∷ xs) back k leads = before_is links (Some x) xs back k leads.1

pub back-remove_last : (links : List (Option ℕ)) (before : Option ℕ) (front : List ℕ) (k : ℕ) → LeadsBack links before (front ++ k ∷ []) → LeadsBack links before (front ++ [])
back-remove_last links before [] k leads = tt
back-remove_last links before (x ∷ xs) k leads = (leads.0, back-remove_last links (Some x) xs k leads.1)

pub back-remove : (links : List (Option ℕ)) (before : Option ℕ) (front : List ℕ) (k y : ℕ) (ys : List ℕ) → LeadsBack links before (front ++ k ∷ y ∷ ys) → AllDiffer (front ++ k ∷ y ∷ ys) → y < length links → LeadsBack (set links y (last_or before front)) before (front ++ y ∷ ys)
back-remove links before [] k y ys leads differ y_in =
    (get_or-set_same links y before None y_in, back-frame links y before (Some y) ys differ.1.0 leads.1.1)
back-remove links before (x ∷ xs) k y ys leads differ y_in =
    let x_other : x ≢ y = apart (xs ++ k ∷ y ∷ ys) x y differ.0 (has_right xs (k ∷ y ∷ ys) y (inr (inl refl))) in
    (get_or-set_other links y x (last_or (Some x) xs) None x_other ∙ leads.0, back-remove links (Some x) xs k y ys leads.1 differ.1 y_in)

-- ---- the walk along links
pub walk_leads : (n : ℕ) (links : List (Option ℕ)) (start : Option ℕ) (xs : List ℕ) → Leads links start xs → length xs ≤ n → walk n links start ≡ xs
walk_leads zero links start [] leads fits = refl
walk_leads zero links start (x ∷ xs) leads fits = absurd (omega arith)
walk_leads (suc n) links start [] leads fits = ap (walk (suc n) links) leads
walk_leads (suc n) links start (x ∷ xs) leads fits =
    ap (walk (suc n) links) leads.0 ∙ ap (λ ys. x ∷ ys) (walk_leads n links (link_at links x) xs leads.1 (omega arith))

-- ---- stacks that differ, all below the room, are no more than the room
differ_distinct : (xs : List ℕ) (x : ℕ) → Lacks xs x → AllByRecursion (λ y. eqb x y ≡ false) xs
differ_distinct [] x lacks = tt
differ_distinct (y ∷ ys) x lacks = (ne_eqb x y (λ e. lacks.0 (sym e)), differ_distinct ys x lacks.1)

distinct_from_differ : (xs : List ℕ) → AllDiffer xs → IsDistinct eqb xs
unfolding IsDistinct
distinct_from_differ [] differ = tt
distinct_from_differ (x ∷ xs) differ = (differ_distinct xs x differ.0, distinct_from_differ xs differ.1)

first_below : (room x q : ℕ) (later : Bool) → x < room → (b : Bool) → eqb q x ≡ b → (later ≡ true → q < room) → b || later ≡ true → q < room
first_below room x q later below true e rest any = let P : ℕ → Type 0 = λ n. n < room in subst P (sym (eqb-true q x e)) below
first_below room x q later below false e rest any = rest any

below_any : (room : ℕ) (xs : List ℕ) (q : ℕ) → AllBelow room xs → list_any (eqb q) xs ≡ true → q < room
below_any room [] q below any = cc
below_any room (x ∷ xs) q below any =
    first_below room x q (list_any (eqb q) xs) below.0 (eqb q x) refl (below_any room xs q below.1) any

pub length-le_room : (room : ℕ) (xs : List ℕ) → AllDiffer xs → AllBelow room xs → length xs ≤ room
length-le_room room xs differ below = length-le_from_distinct_below xs room (distinct_from_differ xs differ) (λ q any. below_any room xs q below any)
