-- Lists of members as they grow.
use Rattle.std.proofs.Common.{◌≡◌, ℕ, ◌+◌, ◌<◌, suc, List, [], ◌∷◌, ◌++◌, length, get_or, take, refl, sym, ap, ◌∙◌, arith}
use Rattle.std.proofs.lemmas.List.{append_assoc, append-nil, length-take-le}
use Rattle.pex_set.specs.declared.inherited.OwnMember.{OwnMember}
use Rattle.pex_values.specs.declared.values.PexState.{PexState}
use Rattle.pex_verify.specs.declared.members.MemberLists.{MemberLists}
use Rattle.pex_verify.specs.Members.{Owner, with_places, with_methods, with_properties, methods_of_state, methods_of_states}
use Rattle.pex_verify.proofs.Pairs.{take_next}

with_places-push : {X Y : Type 0} (f : ℕ → X → Y) (place : ℕ) (xs : List X) (x : X) → with_places f place (xs ++ x ∷ []) ≡ with_places f place xs ++ f (place + length xs) x ∷ []
with_places-push f place [] x = let e : place + 0 ≡ place = omega arith in rw e refl
with_places-push {X} {Y} f place (y ∷ xs) x =
    let e : suc place + length xs ≡ place + suc (length xs) = omega arith in
    ap (λ (l : List Y). f place y ∷ l) (with_places-push f (suc place) xs x ∙ ap (λ (n : ℕ). with_places f (suc place) xs ++ f n x ∷ []) e)

-- one item more
pub with_places-next : {X Y : Type 0} (f : ℕ → X → Y) (xs : List X) (i : ℕ) (x d : X) → i < length xs → x ≡ get_or xs i d → with_places f 0 (take i xs) ++ f i x ∷ [] ≡ with_places f 0 (take (i + 1) xs)
with_places-next {X} {Y} f xs i x d within is =
    let long : length (take i xs) ≡ i = length-take-le i xs (omega arith) in
    let at : 0 + length (take i xs) ≡ i = omega arith in
    sym (ap (with_places f 0) (take_next xs i x d within is) ∙ with_places-push f 0 (take i xs) x ∙ ap (λ (n : ℕ). with_places f 0 (take i xs) ++ f n x ∷ []) at)

methods_of_states-push : (owner : Owner) (numbers : List ℕ) (place : ℕ) (states : List PexState) (state : PexState) → methods_of_states owner numbers place (states ++ state ∷ []) ≡ methods_of_states owner numbers place states ++ methods_of_state owner numbers (place + length states) state
methods_of_states-push owner numbers place [] state =
    let e : place + 0 ≡ place = omega arith in
    append-nil (methods_of_state owner numbers place state) ∙ ap (λ (n : ℕ). methods_of_state owner numbers n state) (sym e)
methods_of_states-push owner numbers place (first ∷ states) state =
    let e : suc place + length states ≡ place + suc (length states) = omega arith in
    ap (λ (l : List OwnMember). methods_of_state owner numbers place first ++ l)
    (methods_of_states-push owner numbers (suc place) states state ∙ ap (λ (n : ℕ). methods_of_states owner numbers (suc place) states ++ methods_of_state owner numbers n state) e)
    ∙ sym (append_assoc (methods_of_state owner numbers place first) (methods_of_states owner numbers (suc place) states) (methods_of_state owner numbers (place + suc (length states)) state))

pub methods_of_states-next : (owner : Owner) (numbers : List ℕ) (states : List PexState) (i : ℕ) (state d : PexState) → i < length states → state ≡ get_or states i d
    → methods_of_states owner numbers 0 (take i states) ++ methods_of_state owner numbers i state ≡ methods_of_states owner numbers 0 (take (i + 1) states)
methods_of_states-next owner numbers states i state d within is =
    let long : length (take i states) ≡ i = length-take-le i states (omega arith) in
    let at : 0 + length (take i states) ≡ i = omega arith in
    sym (ap (methods_of_states owner numbers 0) (take_next states i state d within is) ∙ methods_of_states-push owner numbers 0 (take i states) state ∙ ap (λ (n : ℕ). methods_of_states owner numbers 0 (take i states) ++ methods_of_state owner numbers n state) at)

-- more methods or properties, and then others
pub methods_more : (start lists later : MemberLists) (before more after : List OwnMember) → lists ≡ with_methods start before → later ≡ with_methods lists more → before ++ more ≡ after → later ≡ with_methods start after
methods_more start lists later before more after had adds whole =
    adds
    ∙ ap (λ (l : MemberLists). with_methods l more) had
    ∙ ap (λ (l : List OwnMember). record start { methods = l }) (append_assoc start.methods before more ∙ ap (λ (l : List OwnMember). start.methods ++ l) whole)

pub properties_more : (start lists later : MemberLists) (before more after : List OwnMember) → lists ≡ with_properties start before → later ≡ with_properties lists more → before ++ more ≡ after → later ≡ with_properties start after
properties_more start lists later before more after had adds whole =
    adds
    ∙ ap (λ (l : MemberLists). with_properties l more) had
    ∙ ap (λ (l : List OwnMember). record start { properties = l }) (append_assoc start.properties before more ∙ ap (λ (l : List OwnMember). start.properties ++ l) whole)

-- at the beginning
pub methods_none : (lists : MemberLists) → lists ≡ with_methods lists []
methods_none lists = ap (λ (l : List OwnMember). record lists { methods = l }) (sym (append-nil lists.methods))

pub properties_none : (lists : MemberLists) → lists ≡ with_properties lists []
properties_none lists = ap (λ (l : List OwnMember). record lists { properties = l }) (sym (append-nil lists.properties))
