-- Lists of broken rules, and the first of them.
use Rattle.std.proofs.Common.{append-nil, ℕ, ◌≡◌, ◌<◌, ◌≤◌, ◌+◌, List, [], ◌∷◌, ◌++◌, length, get_or, take, drop, Bool, sym, ap, subst, ◌∙◌}
use Rattle.std.specs.List.{flat_map}
use Rattle.std.specs.Prelude.{Result, Ok, Err, IsErrAnd}
use Rattle.std.proofs.lemmas.List.{drop_all, drop_more, take_more}
use Rattle.scene_reader.specs.declared.fault.SceneFault.{SceneFault}
use Rattle.scene_reader.specs.declared.fault.SceneFault.TheVariants as faults
use Rattle.scene_reader.specs.declared.fault.SceneRule.{SceneRule}
use Rattle.scene_binder.specs.Faults.{IsFirst, IsFirstBroken, IsJudgedBy, broken, in_turn}

IsFirst-append : (here rest : List SceneRule) (rule : SceneRule) → IsFirst here rule → IsFirst (here ++ rest) rule
IsFirst-append [] rest rule h = absurd h
IsFirst-append (first ∷ others) rest rule h = h

-- the first of some rules is the first of these and those that follow
pub first_here : (here rest : List SceneRule) (fault : SceneFault) → IsFirstBroken fault here → IsFirstBroken fault (here ++ rest)
first_here here rest (faults.Broken rule) h = IsFirst-append here rest rule h
first_here here rest faults.OutOfMemory h = tt

-- where none of the first rules is broken, the first is one of those that follow
pub first_later : (here rest : List SceneRule) (fault : SceneFault) → here ≡ [] → IsFirstBroken fault rest → IsFirstBroken fault (here ++ rest)
first_later here rest fault none h = subst (λ rules. IsFirstBroken fault (rules ++ rest)) (sym none) h

pub none_later : (here rest : List SceneRule) → here ≡ [] → rest ≡ [] → here ++ rest ≡ []
none_later here rest none others = ap (λ rules. rules ++ rest) none ∙ others

-- a fault that is handed on
pub judged_err : {X : Type 0} (result : Result X SceneFault) (rules : List SceneRule) (fault : SceneFault) → IsErrAnd result (λ other. other ≡ fault) → IsFirstBroken fault rules → IsJudgedBy rules result
judged_err (Ok x) rules fault is h = absurd is
judged_err (Err other) rules fault is h = subst (λ f. IsFirstBroken f rules) (sym is) h

pub judged_later : {X : Type 0} (here rest : List SceneRule) (result : Result X SceneFault) → here ≡ [] → IsJudgedBy rest result → IsJudgedBy (here ++ rest) result
judged_later here rest result none h = subst (λ rules. IsJudgedBy (rules ++ rest) result) (sym none) h

pub judged_end : {X : Type 0} (rules : List SceneRule) (result : Result X SceneFault) → IsJudgedBy rules result → IsJudgedBy (rules ++ []) result
judged_end rules result h = subst (λ all. IsJudgedBy all result) (sym (append-nil rules)) h

-- the first of two rules, where what was tested is what is said
pub broken_same : (rule : SceneRule) (told here : Bool) → told ≡ here → (fault : SceneFault) → IsFirstBroken fault (broken rule told) → IsFirstBroken fault (broken rule here)
broken_same rule told here same fault h = subst (λ b. IsFirstBroken fault (broken rule b)) same h

pub none_same : (rule : SceneRule) (told here : Bool) → told ≡ here → broken rule told ≡ [] → broken rule here ≡ []
none_same rule told here same h = subst (λ b. broken rule b ≡ []) same h

module _ {X : Type 0} (breaks : List X → X → List SceneRule) (items : List X) (n : ℕ) where
  -- what was judged so far broke nothing
  abbrev pub IsPassed : Type 0
  IsPassed = in_turn breaks [] items ≡ in_turn breaks (take n items) (drop n items)

  split_turn : (x : X) → n < length items → x ≡ get_or items n x → in_turn breaks (take n items) (drop n items) ≡ breaks (take n items) x ++ in_turn breaks (take (n + 1) items) (drop (n + 1) items)
  split_turn x lt is =
      let left : drop n items ≡ x ∷ drop (n + 1) items = drop_more items n x lt ∙ ap (λ y. y ∷ drop (n + 1) items) (sym is) in
      let before : take n items ++ x ∷ [] ≡ take (n + 1) items = sym (take_more items n x lt ∙ ap (λ y. take n items ++ y ∷ []) (sym is)) in
      ap (in_turn breaks (take n items)) left ∙ ap (λ xs. breaks (take n items) x ++ in_turn breaks xs (drop (n + 1) items)) before

  pub turn_broken : (x : X) (fault : SceneFault) → n < length items → x ≡ get_or items n x → IsPassed → IsFirstBroken fault (breaks (take n items) x) → IsFirstBroken fault (in_turn breaks [] items)
  turn_broken x fault lt is passed h =
      subst (IsFirstBroken fault) (sym (passed ∙ split_turn x lt is)) (first_here (breaks (take n items) x) _ fault h)

  pub turn_passed : (x : X) → n < length items → x ≡ get_or items n x → IsPassed → breaks (take n items) x ≡ [] → in_turn breaks [] items ≡ in_turn breaks (take (n + 1) items) (drop (n + 1) items)
  turn_passed x lt is passed none =
      passed ∙ (split_turn x lt is ∙ ap (λ rules. rules ++ in_turn breaks (take (n + 1) items) (drop (n + 1) items)) none)

  pub turns_done : length items ≤ n → IsPassed → in_turn breaks [] items ≡ []
  turns_done past passed = passed ∙ ap (in_turn breaks (take n items)) (drop_all n items past)

module _ {X : Type 0} (breaks : X → List SceneRule) (items : List X) (n : ℕ) where
  abbrev pub IsEachPassed : Type 0
  IsEachPassed = flat_map breaks items ≡ flat_map breaks (drop n items)

  split_each : (x : X) → n < length items → x ≡ get_or items n x → flat_map breaks (drop n items) ≡ breaks x ++ flat_map breaks (drop (n + 1) items)
  split_each x lt is = ap (flat_map breaks) (drop_more items n x lt ∙ ap (λ y. y ∷ drop (n + 1) items) (sym is))

  pub each_broken : (x : X) (fault : SceneFault) → n < length items → x ≡ get_or items n x → IsEachPassed → IsFirstBroken fault (breaks x) → IsFirstBroken fault (flat_map breaks items)
  each_broken x fault lt is passed h = subst (IsFirstBroken fault) (sym (passed ∙ split_each x lt is)) (first_here (breaks x) _ fault h)

  pub each_passed : (x : X) → n < length items → x ≡ get_or items n x → IsEachPassed → breaks x ≡ [] → flat_map breaks items ≡ flat_map breaks (drop (n + 1) items)
  each_passed x lt is passed none = passed ∙ (split_each x lt is ∙ ap (λ rules. rules ++ flat_map breaks (drop (n + 1) items)) none)

  pub each_done : length items ≤ n → IsEachPassed → flat_map breaks items ≡ []
  each_done past passed = passed ∙ ap (flat_map breaks) (drop_all n items past)
