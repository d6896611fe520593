-- What fits stays so where arrays are added, and where values of the right types are read and written.
use Rattle.std.proofs.Common.{◌≡◌, ℕ, zero, suc, ◌<◌, Bool, true, false, cond, ◌||◌, List, [], ◌∷◌, ◌++◌, map, length, replicate, ℤ, pos, Option, Some, None, refl, sym, ap, subst, ◌∙◌, arith}
use Rattle.std.specs.Prelude.{slice_get, slice_index_or, slice_set, int_lt, nat_lt}
use Rattle.std.specs.Int.RustNames.{unsigned_abs}
use Rattle.std.specs.List.{list_any, AllByRecursion}
use Rattle.std.proofs.lemmas.Bool.{eqb-true, ltb-true}
use Rattle.std.proofs.Math.Dec.{eqb}
use Rattle.core_tree.specs.declared.core_type.CoreType.{CoreType}
use Rattle.core_tree.specs.declared.core_type.CoreType.TheVariants as kinds
use Rattle.core_tree.specs.declared.value.Value.{Value}
use Rattle.core_tree.specs.declared.value.Value.TheVariants as values
use Rattle.script_meaning.specs.Arrays.{items_of, is_index, with_items}
use Rattle.run_laws.specs.Fits.{Known, known, IsOfScript, IsInstanceOf, HoldsElements, HasType, IsResult, HaveTypes, typed, Extends, variable_kinds, VariablesFit, ArrayFits}
use Rattle.run_laws.specs.Keeps.{IsVariable}
use Rattle.script_meaning.specs.Evaluation.{state_changed}
use Rattle.script_meaning.specs.Requests.{Sight}
use Rattle.core_tree.specs.Values.{default_of, default_result, element_kind}
use Rattle.script_meaning.specs.World.{Variables, ArrayState, values_of, variable_of, with_variable}

-- ---- lists
pub all_so : {X : Type 0} (P Q : X → Type 0) → ((x : X) → P x → Q x) → (xs : List X) → AllByRecursion P xs → AllByRecursion Q xs
all_so P Q so [] a = tt
all_so P Q so (x ∷ xs) a = (so x a.0, all_so P Q so xs a.1)

pub all_at : {X : Type 0} (P : X → Type 0) (xs : List X) (n : ℕ) (d : X) → n < length xs → AllByRecursion P xs → P (slice_index_or xs n d)
all_at P [] n d h a = absurd (omega arith)
all_at P (x ∷ xs) zero d h a = a.0
all_at P (x ∷ xs) (suc n) d h a = let below : n < length xs = omega arith in all_at P xs n d below a.1

pub all_or : {X : Type 0} (P : X → Type 0) (xs : List X) (n : ℕ) (d : X) → P d → AllByRecursion P xs → P (slice_index_or xs n d)
all_or P [] n d p a = p
all_or P (x ∷ xs) zero d p a = a.0
all_or P (x ∷ xs) (suc n) d p a = all_or P xs n d p a.1

pub get_more : {X : Type 0} (xs ys : List X) (n : ℕ) (x : X) → slice_get xs n ≡ Some x → slice_get (xs ++ ys) n ≡ Some x
get_more [] ys n x e = absurd (cc)
get_more (y ∷ xs) ys zero x e = e
get_more (y ∷ xs) ys (suc n) x e = get_more xs ys n x e

pub get_last : {X : Type 0} (xs : List X) (x : X) → slice_get (xs ++ x ∷ []) (length xs) ≡ Some x
get_last [] x = refl
get_last (y ∷ xs) x = get_last xs x

-- ---- more arrays
pub extends_self : (now : Known) → Extends now now
extends_self now = record { outline = refl; instances = refl; arrays = λ n k e. e }

pub extends_on : (now then later : Known) → Extends now then → Extends then later → Extends now later
extends_on now then later a b =
    record { outline = a.outline ∙ b.outline; instances = a.instances ∙ b.instances; arrays = λ n k e. b.arrays n k (a.arrays n k e) }

elements_moved : (kind : CoreType) (x y : Option CoreType) → ((k : CoreType) → x ≡ Some k → y ≡ Some k) → HoldsElements (Some kind) x → HoldsElements (Some kind) y
elements_moved kind None y f h = absurd h
elements_moved kind (Some e) y f h = subst (λ z. HoldsElements (Some kind) z) (sym (f e refl)) h

array_moved : (o : Option CoreType) (x y : Option CoreType) → ((k : CoreType) → x ≡ Some k → y ≡ Some k) → HoldsElements o x → HoldsElements o y
array_moved None x y f h = absurd h
array_moved (Some kind) x y f h = elements_moved kind x y f h

instance_moved : (now then : Known) (kind : CoreType) (n : ℕ) → Extends now then → IsInstanceOf now kind n → IsInstanceOf then kind n
instance_moved now then (kinds.Script script) n e h =
    subst (λ o. IsOfScript o script (slice_get then.instances n)) e.outline (subst (λ is. IsOfScript now.outline script (slice_get is n)) e.instances h)
instance_moved now then _ n e h = absurd h

pub has_moved : (now then : Known) → Extends now then → (kind : CoreType) (value : Value) → HasType now kind value → HasType then kind value
has_moved now then e kind values.NoneValue h = h
has_moved now then e kind (values.Int n) h = h
has_moved now then e kind (values.Bool b) h = h
has_moved now then e kind (values.Text t) h = h
has_moved now then e kind (values.Instance n) h = instance_moved now then kind n e h
has_moved now then e kind (values.Array n) h =
    array_moved (element_kind kind) (slice_get now.arrays n) (slice_get then.arrays n) (e.arrays n) h

pub result_moved : (now then : Known) → Extends now then → (kind : Option CoreType) (value : Value) → IsResult now kind value → IsResult then kind value
result_moved now then e None value h = h
result_moved now then e (Some kind) value h = has_moved now then e kind value h

pub types_moved : (now then : Known) → Extends now then → (ks : List (Option CoreType)) (vs : List Value) → HaveTypes now ks vs → HaveTypes then ks vs
types_moved now then e [] [] h = tt
types_moved now then e (k ∷ ks) (v ∷ vs) h = (result_moved now then e k v h.0, types_moved now then e ks vs h.1)
types_moved now then e [] (v ∷ vs) h = absurd h
types_moved now then e (k ∷ ks) [] h = absurd h

pub variables_moved : (now then : Known) → Extends now then → (vs : Variables) → AllByRecursion (VariablesFit now) vs → AllByRecursion (VariablesFit then) vs
variables_moved now then e vs a =
    all_so (VariablesFit now) (VariablesFit then) (λ of_script h. subst (λ o. HaveTypes then (typed (variable_kinds (slice_get o of_script.0))) of_script.1) e.outline (types_moved now then e (typed (variable_kinds (slice_get now.outline of_script.0))) of_script.1 h)) vs a

pub items_moved : (now then : Known) → Extends now then → (kind : CoreType) (vs : List Value) → AllByRecursion (HasType now kind) vs → AllByRecursion (HasType then kind) vs
items_moved now then e kind vs a = all_so (HasType now kind) (HasType then kind) (has_moved now then e kind) vs a

pub arrays_moved : (now then : Known) → Extends now then → (arrays : List ArrayState) → AllByRecursion (ArrayFits now) arrays → AllByRecursion (ArrayFits then) arrays
arrays_moved now then e arrays a =
    all_so (ArrayFits now) (ArrayFits then) (λ array h. items_moved now then e array.kind array.items h) arrays a

-- ---- values in places
pub type_at : (known : Known) (ks : List (Option CoreType)) (n : ℕ) (k : Option CoreType) (vs : List Value) → slice_get ks n ≡ Some k → HaveTypes known ks vs → IsResult known k (slice_index_or vs n values.NoneValue)
type_at known [] n k vs e h = absurd (cc)
type_at known (j ∷ ks) n k [] e h = absurd h
type_at known (j ∷ ks) zero k (v ∷ vs) e h = let same : j ≡ k = cc in subst (λ x. IsResult known x v) same h.0
type_at known (j ∷ ks) (suc n) k (v ∷ vs) e h = type_at known ks n k vs e h.1

pub type_set : (known : Known) (ks : List (Option CoreType)) (n : ℕ) (k : Option CoreType) (value : Value) (vs : List Value) → slice_get ks n ≡ Some k → IsResult known k value → HaveTypes known ks vs → HaveTypes known ks (slice_set vs n value)
type_set known [] n k value vs e w h = absurd (cc)
type_set known (j ∷ ks) n k value [] e w h = absurd h
type_set known (j ∷ ks) zero k value (v ∷ vs) e w h = let same : k ≡ j = cc in (subst (λ x. IsResult known x value) same w, h.1)
type_set known (j ∷ ks) (suc n) k value (v ∷ vs) e w h = (h.0, type_set known ks n k value vs e w h.1)

pub types_joined : (known : Known) (ks js : List (Option CoreType)) (vs ws : List Value) → HaveTypes known ks vs → HaveTypes known js ws → HaveTypes known (ks ++ js) (vs ++ ws)
types_joined known [] js [] ws h g = g
types_joined known (k ∷ ks) js (v ∷ vs) ws h g = (h.0, types_joined known ks js vs ws h.1 g)
types_joined known [] js (v ∷ vs) ws h g = absurd h
types_joined known (k ∷ ks) js [] ws h g = absurd h

pub typed_at : (ks : List CoreType) (n : ℕ) (k : CoreType) → slice_get ks n ≡ Some k → slice_get (typed ks) n ≡ Some (Some k)
typed_at [] n k e = absurd (cc)
typed_at (j ∷ ks) zero k e = ap (λ o. Some o) e
typed_at (j ∷ ks) (suc n) k e = typed_at ks n k e

-- ---- defaults
pub default_fits : (known : Known) (kind : CoreType) → HasType known kind (default_of kind)
default_fits known kinds.Int = refl
default_fits known kinds.Bool = refl
default_fits known kinds.Text = refl
default_fits known (kinds.Script s) = refl
default_fits known kinds.IntArray = refl
default_fits known kinds.BoolArray = refl
default_fits known kinds.TextArray = refl
default_fits known (kinds.ScriptArray s) = refl

pub default_result_fits : (known : Known) (kind : Option CoreType) → IsResult known kind (default_result kind)
default_result_fits known None = refl
default_result_fits known (Some kind) = default_fits known kind

pub defaults_fit : (known : Known) (ks : List CoreType) → HaveTypes known (typed ks) (map default_of ks)
defaults_fit known [] = tt
defaults_fit known (k ∷ ks) = (default_fits known k, defaults_fit known ks)

-- ---- variables
module _ (known : Known) where
  entry_fits : (here : Bool) (first : ℕ × List Value) (rest : Variables) (script number : ℕ) (kind : CoreType) → eqb first.0 script ≡ here → IsVariable known.outline script number kind → VariablesFit known first → (here ≡ false → HasType known kind (slice_index_or (values_of rest script) number values.NoneValue)) → HasType known kind (slice_index_or (cond here first.1 (values_of rest script)) number values.NoneValue)
  entry_fits true first rest script number kind e v h more =
      type_at known (typed (variable_kinds (slice_get known.outline first.0))) number (Some kind) first.1 (typed_at (variable_kinds (slice_get known.outline first.0)) number kind (subst (λ s. IsVariable known.outline s number kind) (sym (eqb-true first.0 script e)) v)) h
  entry_fits false first rest script number kind e v h more = more refl

  later : (here rest : Bool) → here || rest ≡ true → here ≡ false → rest ≡ true
  later true rest a b = absurd (cc)
  later false rest a b = a

  pub variable_fits : (vs : Variables) (script number : ℕ) (kind : CoreType) → list_any (λ above. eqb above script) (map (λ of_script. of_script.0) vs) ≡ true → IsVariable known.outline script number kind → AllByRecursion (VariablesFit known) vs → HasType known kind (variable_of vs script number)
  variable_fits [] script number kind i v a = absurd (cc)
  variable_fits (first ∷ rest) script number kind i v a =
      entry_fits (eqb first.0 script) first rest script number kind refl v a.0 (λ f. variable_fits rest script number kind (later (eqb first.0 script) (list_any (λ above. eqb above script) (map (λ of_script. of_script.0) rest)) i f) v a.1)

  written_entry : (here : Bool) (first : ℕ × List Value) (rest with : Variables) (script number : ℕ) (kind : CoreType) (value : Value) → eqb first.0 script ≡ here → IsVariable known.outline script number kind → HasType known kind value → VariablesFit known first → AllByRecursion (VariablesFit known) rest → AllByRecursion (VariablesFit known) with → AllByRecursion (VariablesFit known) (cond here ((first.0, slice_set first.1 number value) ∷ rest) (first ∷ with))
  written_entry true first rest with script number kind value e v w h a b =
      (type_set known (typed (variable_kinds (slice_get known.outline first.0))) number (Some kind) value first.1 (typed_at (variable_kinds (slice_get known.outline first.0)) number kind (subst (λ s. IsVariable known.outline s number kind) (sym (eqb-true first.0 script e)) v)) w h, a)
  written_entry false first rest with script number kind value e v w h a b = (h, b)

  pub variable_written : (vs : Variables) (script number : ℕ) (kind : CoreType) (value : Value) → IsVariable known.outline script number kind → HasType known kind value → AllByRecursion (VariablesFit known) vs → AllByRecursion (VariablesFit known) (with_variable vs script number value)
  variable_written [] script number kind value v w a = tt
  variable_written (first ∷ rest) script number kind value v w a =
      written_entry (eqb first.0 script) first rest (with_variable rest script number value) script number kind value refl v w a.0 a.1 (variable_written rest script number kind value v w a.1)

written_scripts_by : (here : Bool) (first : ℕ × List Value) (values : List Value) (rest with : Variables) → map (λ of_script. of_script.0) with ≡ map (λ of_script. of_script.0) rest → map (λ of_script. of_script.0) (cond here ((first.0, values) ∷ rest) (first ∷ with)) ≡ first.0 ∷ map (λ of_script. of_script.0) rest
written_scripts_by true first values rest with e = refl
written_scripts_by false first values rest with e = ap (λ ss. first.0 ∷ ss) e

pub written_scripts : (vs : Variables) (script number : ℕ) (value : Value) → map (λ of_script. of_script.0) (with_variable vs script number value) ≡ map (λ of_script. of_script.0) vs
written_scripts [] script number value = refl
written_scripts (first ∷ rest) script number value =
    written_scripts_by (eqb first.0 script) first (slice_set first.1 number value) rest (with_variable rest script number value) (written_scripts rest script number value)

-- ---- arrays
abbrev pub kinds_of : List ArrayState → List CoreType
kinds_of arrays = map (λ array. array.kind) arrays

items_of_kind : (known : Known) (a : ArrayState) (kind : CoreType) → HoldsElements (Some kind) (Some a.kind) → ArrayFits known a → AllByRecursion (HasType known kind) a.items
items_of_kind known a kind e h = subst (λ k. AllByRecursion (HasType known k) a.items) e h

pub items_fit : (known : Known) (arrays : List ArrayState) (n : ℕ) (kind : CoreType) → HoldsElements (Some kind) (slice_get (kinds_of arrays) n) → AllByRecursion (ArrayFits known) arrays → AllByRecursion (HasType known kind) (items_of arrays n)
items_fit known [] n kind e a = absurd e
items_fit known (first ∷ rest) zero kind e a = items_of_kind known first kind e a.0
items_fit known (first ∷ rest) (suc n) kind e a = items_fit known rest n kind e a.1

pub same_kinds : (arrays : List ArrayState) (n : ℕ) (items : List Value) → kinds_of (with_items arrays n items) ≡ kinds_of arrays
same_kinds [] n items = refl
same_kinds (first ∷ rest) zero items = refl
same_kinds (first ∷ rest) (suc n) items = ap (λ ks. first.kind ∷ ks) (same_kinds rest n items)

pub arrays_written : (known : Known) (arrays : List ArrayState) (n : ℕ) (kind : CoreType) (items : List Value) → HoldsElements (Some kind) (slice_get (kinds_of arrays) n) → AllByRecursion (HasType known kind) items → AllByRecursion (ArrayFits known) arrays → AllByRecursion (ArrayFits known) (with_items arrays n items)
arrays_written known [] n kind items e w a = absurd e
arrays_written known (first ∷ rest) zero kind items e w a =
    (subst (λ k. AllByRecursion (HasType known k) items) (sym e) w, a.1)
arrays_written known (first ∷ rest) (suc n) kind items e w a = (a.0, arrays_written known rest n kind items e w a.1)

pub all_written : {X : Type 0} (P : X → Type 0) (xs : List X) (n : ℕ) (y : X) → P y → AllByRecursion P xs → AllByRecursion P (slice_set xs n y)
all_written P [] n y p a = tt
all_written P (x ∷ xs) zero y p a = (p, a.1)
all_written P (x ∷ xs) (suc n) y p a = (a.0, all_written P xs n y p a.1)

pub all_repeated : {X : Type 0} (P : X → Type 0) (n : ℕ) (x : X) → P x → AllByRecursion P (replicate n x)
all_repeated P zero x p = tt
all_repeated P (suc n) x p = (p, all_repeated P n x p)

pub all_more : {X : Type 0} (P : X → Type 0) (xs : List X) (x : X) → AllByRecursion P xs → P x → AllByRecursion P (xs ++ x ∷ [])
all_more P [] x a p = (p, tt)
all_more P (y ∷ xs) x a p = (a.0, all_more P xs x a.1 p)

index_by : (below : Bool) (n m : ℕ) → cond below false (nat_lt n m) ≡ true → n < m
index_by true n m e = absurd (cc)
index_by false n m e = ltb-true n m e

pub index_within : (items : List Value) (index : ℤ) → is_index items index ≡ true → unsigned_abs index < length items
index_within items index e = index_by (int_lt index (pos 0)) (unsigned_abs index) (length items) e

-- ---- the state
pub by_own : (P : Sight → Type 0) (own : Option ℕ) (state : List ℕ) (sight : Sight) → P sight → P (record sight { state = state }) → P (state_changed own state sight)
by_own P None state sight same changed = same
by_own P (Some own) state sight same changed = changed
