-- What is read of strings that are there is read of them once there are more strings, and lists that say what others do.
use Rattle.std.proofs.Common.{◌≡◌, ℕ, ◌+◌, ◌<◌, ◌≤◌, zero, suc, Bool, true, false, List, [], ◌∷◌, ◌++◌, length, get_or, map, min, take, drop, Option, Some, None, refl, sym, ap, subst, ◌∙◌, arith}
use Rattle.std.proofs.lemmas.List.{append-nil, append_assoc, take_more, map-append}
use Rattle.std.specs.Prelude.{slice_get, codes, is_some}
use Rattle.core_tree.specs.declared.core_type.CoreType.{CoreType}
use Rattle.core_tree.specs.declared.script.CoreVariable.{CoreVariable}
use Rattle.core_tree.specs.declared.value.Value.{Value}
use Rattle.core_tree.specs.declared.value.Value.TheVariants as values
use Rattle.core_tree.specs.Set as trees
use Rattle.code_lower.specs.declared.place.Place.{Place}
use Rattle.code_lower.specs.declared.place.Place.TheVariants as place
use Rattle.code_lower.specs.declared.place.Lowered.{Lowered}
use Rattle.pex_values.specs.declared.values.Datum.{Datum}
use Rattle.pex_values.specs.declared.values.PexVariable.{PexVariable}
use Rattle.pex_values.specs.Plain.{PlainInstruction, PlainFunction, PlainState, PlainProperty, PlainObject, PlainLines}
use Rattle.code_emit.specs.declared.operands.Operand.{Operand}
use Rattle.code_emit.specs.declared.operands.Operand.TheVariants as operand
use Rattle.code_emit.specs.Spelled
use Rattle.code_emit.specs.Spelled.{Each, EachWith, Scope, Form, Part, SpellsWord, SpellsLiteral, SpellsPlace, SpellsOperand, SpellsForm, SpellsSlot, SpellsSlots, SpellsCode, SpellsLines, SpellsFunction, SpellsNamed, SpellsState, SpellsAccessor, SpellsAuto, SpellsFull, SpellsAccess, SpellsProperty, SpellsVariable, SpellsFlag, SpellsObject, parent_name}
use Rattle.code_emit.specs.Strings.{Home, Origin, Table, AreNamed, Reads, ReadsName, name_of, type_name}
use Rattle.code_emit.specs.Writing.{GoesOn}

-- ---- tables that grow
abbrev pub grown : Table → List (List ℕ) → Table
grown t added = record { home = t.home; strings = t.strings ++ added }

is_grown : (old new : Table) (goes : GoesOn old new) → new ≡ grown old goes.added
is_grown old new goes =
    ap (λ (h : Home). record { home = h; strings = new.strings }) goes.home
    ∙ ap (λ (s : List (List ℕ)). record { home = old.home; strings = s }) goes.strings

-- what holds of a table holds of one with more strings
pub carried : (P : Table → Type 0) → ((t : Table) (added : List (List ℕ)) → P t → P (grown t added)) → (old new : Table) → GoesOn old new → P old → P new
carried P more old new goes is = subst P (sym (is_grown old new goes)) (more old goes.added is)

there_later : (strings added : List (List ℕ)) (k : ℕ) (x : List ℕ) → slice_get strings k ≡ Some x → slice_get (strings ++ added) k ≡ Some x
there_later [] added k x is = cc
there_later (s ∷ strings) added zero x is = is
there_later (s ∷ strings) added (suc k) x is = there_later strings added k x is

pub part_is : (o p s t n m : List ℕ) (kind : ℕ) → o ≡ p → s ≡ t → n ≡ m → ◌≡◌ {A = Part} (record { object = o; state = s; name = n; kind = kind }) (record { object = p; state = t; name = m; kind = kind })
part_is o p s t n m kind first second third = cc

pub accessor_some : (from : Origin) (t : Table) (part : Part) (f : Option PlainFunction) (tree : Option trees.Function) (es : List PlainLines) → SpellsAccessor from t part f tree es → is_some f ≡ is_some tree
accessor_some from t part None None es is = refl
accessor_some from t part (Some f) (Some tree) es is = refl
accessor_some from t part None (Some tree) es is = absurd is
accessor_some from t part (Some f) None es is = absurd is

-- ---- lists
pub each_later : {A B : Type 0} (P Q : A → B → Type 0) → ((x : A) (y : B) → P x y → Q x y) → (xs : List A) (ys : List B) → Each P xs ys → Each Q xs ys
each_later P Q later [] [] all = tt
each_later P Q later (x ∷ xs) (y ∷ ys) all = (later x y all.0, each_later P Q later xs ys all.1)
each_later P Q later [] (y ∷ ys) all = absurd all
each_later P Q later (x ∷ xs) [] all = absurd all

pub each_more : {A B : Type 0} (P Q : A → B → Type 0) → ((x : A) (y : B) → P x y → Q x y) → (xs : List A) (ys : List B) (x : A) (y : B) → Each P xs ys → Q x y → Each Q (xs ++ x ∷ []) (ys ++ y ∷ [])
each_more P Q later [] [] x y all is = (is, tt)
each_more P Q later (a ∷ xs) (b ∷ ys) x y all is = (later a b all.0, each_more P Q later xs ys x y all.1 is)
each_more P Q later [] (b ∷ ys) x y all is = absurd all
each_more P Q later (a ∷ xs) [] x y all is = absurd all

pub each_length : {A B : Type 0} (P : A → B → Type 0) (xs : List A) (ys : List B) → Each P xs ys → length xs ≡ length ys
each_length P [] [] all = refl
each_length P (x ∷ xs) (y ∷ ys) all = ap (λ (n : ℕ). suc n) (each_length P xs ys all.1)
each_length P [] (y ∷ ys) all = absurd all
each_length P (x ∷ xs) [] all = absurd all

pub with_later : {A B E : Type 0} (P Q : A → B → List E → Type 0) → ((x : A) (y : B) (es : List E) → P x y es → Q x y es) → (xs : List A) (ys : List B) (es : List E) → EachWith P xs ys es → EachWith Q xs ys es
with_later P Q later [] [] es all = all
with_later P Q later (x ∷ xs) (y ∷ ys) es all =
    (all.0, all.1, all.2, later x y all.0 all.3, with_later P Q later xs ys all.1 all.4)
with_later P Q later [] (y ∷ ys) es all = absurd all
with_later P Q later (x ∷ xs) [] es all = absurd all

pub with_more : {A B E : Type 0} (P Q : A → B → List E → Type 0) → ((x : A) (y : B) (es : List E) → P x y es → Q x y es) → (xs : List A) (ys : List B) (es : List E) (x : A) (y : B) (e : List E) → EachWith P xs ys es → Q x y e → EachWith Q (xs ++ x ∷ []) (ys ++ y ∷ []) (es ++ e)
with_more {E = E} P Q later [] [] es x y e all is =
    let eq : es ++ e ≡ e ++ [] = ap (λ (s : List E). s ++ e) all ∙ sym (append-nil e) in
    (e, [], eq, is, refl)
with_more {E = E} P Q later (a ∷ xs) (b ∷ ys) es x y e all is =
    let eq : es ++ e ≡ all.0 ++ (all.1 ++ e) = ap (λ (s : List E). s ++ e) all.2 ∙ append_assoc all.0 all.1 e in
    (all.0, all.1 ++ e, eq, later a b all.0 all.3, with_more P Q later xs ys all.1 x y e all.4 is)
with_more P Q later [] (b ∷ ys) es x y e all is = absurd all
with_more P Q later (a ∷ xs) [] es x y e all is = absurd all

pub item_taken : {X : Type 0} (os : List X) (n : ℕ) (o : X) → n < length os → o ≡ get_or os n o → take (n + 1) os ≡ take n os ++ o ∷ []
item_taken {X} os n o less e = take_more os n o less ∙ ap (λ (x : X). take n os ++ x ∷ []) (sym e)

pub read_at : {X : Type 0} (os : List X) (n : ℕ) (d : X) → n < length os → get_or os n d ≡ get_or os n (get_or os n d)
read_at [] n d less = absurd (omega arith)
read_at (x ∷ xs) zero d less = refl
read_at (x ∷ xs) (suc n) d less = read_at xs n d (omega arith)

pub taken_all : {X : Type 0} (os : List X) (n : ℕ) → length os ≤ n → take n os ≡ os
taken_all [] zero less = refl
taken_all [] (suc n) less = refl
taken_all (x ∷ xs) zero less = absurd (omega arith)
taken_all {X} (x ∷ xs) (suc n) less =
    let fewer : length xs ≤ n = omega arith in
    ap (λ (ys : List X). x ∷ ys) (taken_all xs n fewer)

pub dropped_most : {X : Type 0} (xs : List X) (n k : ℕ) → n ≡ min (length xs) k → drop n xs ≡ drop k xs
dropped_most [] zero zero is = refl
dropped_most [] zero (suc k) is = refl
dropped_most [] (suc n) zero is = refl
dropped_most [] (suc n) (suc k) is = refl
dropped_most (x ∷ xs) zero zero is = refl
dropped_most (x ∷ xs) zero (suc k) is = absurd (omega arith)
dropped_most (x ∷ xs) (suc n) zero is = absurd (omega arith)
dropped_most (x ∷ xs) (suc n) (suc k) is = dropped_most xs n k (omega arith)

pub taken : {X Y : Type 0} (view : X → Y) (os : List X) (n : ℕ) (o : X) → n < length os → o ≡ get_or os n o → map view (take (n + 1) os) ≡ map view (take n os) ++ view o ∷ []
taken {X} {Y} view os n o less e =
    ap (map view) (item_taken os n o less e) ∙ map-append view (take n os) (o ∷ [])

-- a loop over items went on, and what it found says what the items do
pub views_more : {A B V W : Type 0} (P Q : V → W → Type 0) → ((v : V) (w : W) → P v w → Q v w) → (view : A → V) (seen : B → W) (found : List A) (os : List B) (n : ℕ) (x : A) (o : B) → n < length os → o ≡ get_or os n o → Each P (map view found) (map seen (take n os)) → Q (view x) (seen o) → Each Q (map view (found ++ x ∷ [])) (map seen (take (n + 1) os))
views_more {V = V} {W = W} P Q later view seen found os n x o less e all is =
    let L : List V → Type 0 = λ vs. Each Q vs (map seen (take (n + 1) os)) in
    let R : List W → Type 0 = λ ws. Each Q (map view found ++ view x ∷ []) ws in
    subst L (sym (map-append view found (x ∷ []))) (subst R (sym (taken seen os n o less e)) (each_more P Q later (map view found) (map seen (take n os)) (view x) (seen o) all is))

-- the same where each item has debug entries
pub views_with : {A B V W E : Type 0} (P Q : V → W → List E → Type 0) → ((v : V) (w : W) (es : List E) → P v w es → Q v w es) → (view : A → V) (seen : B → W) (found : List A) (os : List B) (n : ℕ) (x : A) (o : B) (es more : List E) → n < length os → o ≡ get_or os n o → EachWith P (map view found) (map seen (take n os)) es → Q (view x) (seen o) more → EachWith Q (map view (found ++ x ∷ [])) (map seen (take (n + 1) os)) (es ++ more)
views_with {V = V} {W = W} P Q later view seen found os n x o es more less e all is =
    let L : List V → Type 0 = λ vs. EachWith Q vs (map seen (take (n + 1) os)) (es ++ more) in
    let R : List W → Type 0 = λ ws. EachWith Q (map view found ++ view x ∷ []) ws (es ++ more) in
    subst L (sym (map-append view found (x ∷ []))) (subst R (sym (taken seen os n o less e)) (with_more P Q later (map view found) (map seen (take n os)) es (view x) (seen o) more all is))

pub slots_more : (old new : Table) → ((n : ℕ) (s : ℕ × ℕ) (k : Option CoreType) → SpellsSlot old n s k → SpellsSlot new n s k) → (n m : ℕ) (ss : List (ℕ × ℕ)) (ks : List (Option CoreType)) (s : ℕ × ℕ) (k : Option CoreType) → m ≡ n + length ks → SpellsSlots old n ss ks → SpellsSlot new m s k → SpellsSlots new n (ss ++ s ∷ []) (ks ++ k ∷ [])
slots_more old new later n m [] [] s k at all is =
    let same : m ≡ n = omega (arith, at) in
    (subst (λ (i : ℕ). SpellsSlot new i s k) same is, tt)
slots_more old new later n m (a ∷ ss) (b ∷ ks) s k at all is =
    let next : m ≡ suc n + length ks = omega (arith, at) in
    (later n a b all.0, slots_more old new later (suc n) m ss ks s k next all.1 is)
slots_more old new later n m [] (b ∷ ks) s k at all is = absurd all
slots_more old new later n m (a ∷ ss) [] s k at all is = absurd all

module _ (t : Table) (added : List (List ℕ)) where
  pub reads : (k : ℕ) (x : List ℕ) → Reads t.strings k x → Reads (t.strings ++ added) k x
  reads k x is = record { there = there_later t.strings added k x is.there }

  pub name : (k : ℕ) (n : Option (List ℕ)) → ReadsName t.strings k n → ReadsName (t.strings ++ added) k n
  name k None is = is
  name k (Some x) is = reads k x is

  pub word : (d : Datum) (n : Option (List ℕ)) → SpellsWord t d n → SpellsWord (grown t added) d n
  word d n is = (is.0, is.1, name is.0 n is.2)

  pub literal : (d : Datum) (v : Value) → SpellsLiteral t d v → SpellsLiteral (grown t added) d v
  literal d values.NoneValue is = is
  literal d (values.Int n) is = is
  literal d (values.Bool b) is = is
  literal d (values.Text text) is = (is.0, is.1, reads is.0 text is.2)
  literal d (values.Instance n) is = is
  literal d (values.Array n) is = is

  operand_place : (slots : List (ℕ × ℕ)) (d : Datum) (o : Place) → SpellsPlace (record { table = t; slots = slots }) d o → SpellsPlace (record { table = grown t added; slots = slots }) d o
  operand_place slots d (place.Literal value) is = literal d value.now is
  operand_place slots d (place.Local number) is = is
  operand_place slots d (place.Temporary number kind) is = is
  operand_place slots d (place.Nothing number) is = is
  operand_place slots d (place.Variable number kind) is = word d (slice_get t.home.variables number) is
  operand_place slots d place.OwnInstance is = word d (Some (codes "self")) is
  operand_place slots d place.StateText is = word d (Some (codes "::State")) is

  operand_any : (slots : List (ℕ × ℕ)) (d : Datum) (o : Operand) → SpellsOperand (record { table = t; slots = slots }) d o → SpellsOperand (record { table = grown t added; slots = slots }) d o
  operand_any slots d (operand.At o) is = operand_place slots d o is
  operand_any slots d (operand.Member n) is = word d (Some n.now) is
  operand_any slots d (operand.Script number) is = word d (slice_get t.home.scripts number) is
  operand_any slots d (operand.Number number) is = is
  operand_any slots d operand.Nothing is = is

  form : (slots : List (ℕ × ℕ)) (i : PlainInstruction) (f : Form) → SpellsForm (record { table = t; slots = slots }) i f → SpellsForm (record { table = grown t added; slots = slots }) i f
  form slots i f is = record {
    opcode = is.opcode;
    fixed = each_later (SpellsOperand (record { table = t; slots = slots })) (SpellsOperand (record { table = grown t added; slots = slots })) (operand_any slots) i.fixed f.fixed is.fixed;
    more = each_later (SpellsPlace (record { table = t; slots = slots })) (SpellsPlace (record { table = grown t added; slots = slots })) (operand_place slots) i.more f.more is.more;
  }

  slot : (n : ℕ) (s : ℕ × ℕ) (k : Option CoreType) → SpellsSlot t n s k → SpellsSlot (grown t added) n s k
  slot n s k is = record { name = reads s.0 _ is.name; kind_is = name s.1 _ is.kind_is }

  slots_later : (n : ℕ) (ss : List (ℕ × ℕ)) (ks : List (Option CoreType)) → SpellsSlots t n ss ks → SpellsSlots (grown t added) n ss ks
  slots_later n [] [] all = tt
  slots_later n (s ∷ ss) (k ∷ ks) all = (slot n s k all.0, slots_later (suc n) ss ks all.1)
  slots_later n [] (k ∷ ks) all = absurd all
  slots_later n (s ∷ ss) [] all = absurd all

  code : (tree : trees.Function) (lowered : Lowered) (f : PlainFunction) → SpellsCode t tree lowered f → SpellsCode (grown t added) tree lowered f
  code tree lowered f is = record {
    result = name f.result _ is.result;
    doc = reads f.doc _ is.doc;
    flags = is.flags;
    bits = is.bits;
    parameters = is.parameters;
    slots = slots_later 0 (f.parameters ++ f.locals) lowered.kinds.items is.slots;
    code = each_later (Spelled.SpellsInstruction (record { table = t; slots = f.parameters ++ f.locals })) (Spelled.SpellsInstruction (record { table = grown t added; slots = f.parameters ++ f.locals })) (λ i c. form (f.parameters ++ f.locals) i (Spelled.form_of c)) f.code _ is.code;
  }

  lines : (part : Part) (e : PlainLines) (ns : List ℕ) → SpellsLines t part e ns → SpellsLines (grown t added) part e ns
  lines part e ns is = record {
    object = reads e.object _ is.object;
    state = reads e.state _ is.state;
    function = reads e.function _ is.function;
    kind = is.kind;
    lines_are = is.lines_are;
  }

  told : (part : Part) (es : List PlainLines) (ls : List (List ℕ)) → Each (SpellsLines t part) es ls → Each (SpellsLines (grown t added) part) es ls
  told part es ls all = each_later (SpellsLines t part) (SpellsLines (grown t added) part) (lines part) es ls all

  variable : (v : PexVariable) (tree : CoreVariable) → SpellsVariable t v tree → SpellsVariable (grown t added) v tree
  variable v tree is = record {
    name = reads v.name _ is.name;
    kind = name v.kind _ is.kind;
    flags = is.flags;
    value = literal v.value tree.value is.value;
  }

  module _ (from : Origin) where
    function : (part : Part) (f : PlainFunction) (tree : trees.Function) (es : List PlainLines) → SpellsFunction from t part f tree es → SpellsFunction from (grown t added) part f tree es
    function part f tree es is = record {
      lowered = is.lowered;
      is_lowered = is.is_lowered;
      spelled = code tree is.lowered f is.spelled;
      told = told part es _ is.told;
    }

    named : (state : List ℕ) (f : ℕ × PlainFunction) (tree : trees.Function) (es : List PlainLines) → SpellsNamed from t state f tree es → SpellsNamed from (grown t added) state f tree es
    named state f tree es is = record { name = reads f.0 _ is.name; function = function _ f.1 tree es is.function }

    state_later : (s : PlainState) (tree : trees.State) (es : List PlainLines) → SpellsState from t s tree es → SpellsState from (grown t added) s tree es
    state_later s tree es is = record {
      name = reads s.name _ is.name;
      functions = with_later (SpellsNamed from t tree.name) (SpellsNamed from (grown t added) tree.name) (named tree.name) s.functions tree.functions es is.functions;
    }

    accessor : (part : Part) (f : Option PlainFunction) (tree : Option trees.Function) (es : List PlainLines) → SpellsAccessor from t part f tree es → SpellsAccessor from (grown t added) part f tree es
    accessor part None None es is = is
    accessor part (Some f) (Some tree) es is = function part f tree es is
    accessor part None (Some tree) es is = absurd is
    accessor part (Some f) None es is = absurd is

    access : (p : PlainProperty) (n : List ℕ) (tree : trees.Access) (es : List PlainLines) → SpellsAccess from t p n tree es → SpellsAccess from (grown t added) p n tree es
    access p n (trees.Auto variable) es is = record {
      reference = is.reference;
      variable_is = is.variable_is;
      names = name is.reference _ is.names;
      bits = is.bits;
      read = is.read;
      write = is.write;
      none = is.none;
    }
    access p n (trees.Full read write) es is = record {
      first = is.first;
      second = is.second;
      both = is.both;
      variable = is.variable;
      bits = is.bits;
      read_is = accessor _ p.read read is.first is.read_is;
      write_is = accessor _ p.write write is.second is.write_is;
    }

    property : (p : PlainProperty) (tree : trees.Property) (es : List PlainLines) → SpellsProperty from t p tree es → SpellsProperty from (grown t added) p tree es
    property p tree es is = record {
      name = reads p.name _ is.name;
      kind = name p.kind _ is.kind;
      doc = reads p.doc _ is.doc;
      flags = is.flags;
      access = access p tree.name tree.access es is.access;
    }

    object : (o : PlainObject) (tree : trees.Script) (es : List PlainLines) → SpellsObject from t o tree es → SpellsObject from (grown t added) o tree es
    object o tree es is = record {
      name = reads o.name _ is.name;
      parent = name o.parent _ is.parent;
      doc = reads o.doc _ is.doc;
      flags = is.flags;
      auto_state = reads o.auto_state _ is.auto_state;
      variables = each_later (SpellsVariable t) (SpellsVariable (grown t added)) variable o.variables tree.variables is.variables;
      of_properties = is.of_properties;
      of_states = is.of_states;
      both = is.both;
      properties = with_later (SpellsProperty from t) (SpellsProperty from (grown t added)) property o.properties tree.properties is.of_properties is.properties;
      states = with_later (SpellsState from t) (SpellsState from (grown t added)) state_later o.states tree.states is.of_states is.states;
    }

-- ---- the same of any table to which strings were added
module _ (old new : Table) (goes : GoesOn old new) where
  pub reads_on : (k : ℕ) (x : List ℕ) → Reads old.strings k x → Reads new.strings k x
  reads_on k x is = carried (λ (t : Table). Reads t.strings k x) (λ t added is. reads t added k x is) old new goes is

  pub noted_on : (noted : List (Option ℕ)) → AreNamed old noted → AreNamed new noted
  noted_on noted are = carried (λ (t : Table). AreNamed t noted) (λ t added are other place is. name t added place (name_of t.home other) (are other place is)) old new goes are

  pub type_on : (k : ℕ) (kind : Option CoreType) → ReadsName old.strings k (type_name old.home.scripts kind) → ReadsName new.strings k (type_name new.home.scripts kind)
  type_on k kind is = carried (λ (t : Table). ReadsName t.strings k (type_name t.home.scripts kind)) (λ t added is. name t added k (type_name t.home.scripts kind) is) old new goes is

  pub parent_on : (k : ℕ) (parent : Option ℕ) → ReadsName old.strings k (parent_name old.home.scripts parent) → ReadsName new.strings k (parent_name new.home.scripts parent)
  parent_on k parent is = carried (λ (t : Table). ReadsName t.strings k (parent_name t.home.scripts parent)) (λ t added is. name t added k (parent_name t.home.scripts parent) is) old new goes is

  pub place_on : (slots : List (ℕ × ℕ)) (d : Datum) (o : Place) → SpellsPlace (record { table = old; slots = slots }) d o → SpellsPlace (record { table = new; slots = slots }) d o
  place_on slots d o is = carried (λ (t : Table). SpellsPlace (record { table = t; slots = slots }) d o) (λ t added is. operand_place t added slots d o is) old new goes is

  pub operand_on : (slots : List (ℕ × ℕ)) (d : Datum) (o : Operand) → SpellsOperand (record { table = old; slots = slots }) d o → SpellsOperand (record { table = new; slots = slots }) d o
  operand_on slots d o is = carried (λ (t : Table). SpellsOperand (record { table = t; slots = slots }) d o) (λ t added is. operand_any t added slots d o is) old new goes is

  pub operands_on : (slots : List (ℕ × ℕ)) (ds : List Datum) (os : List Operand) → Each (SpellsOperand (record { table = old; slots = slots })) ds os → Each (SpellsOperand (record { table = new; slots = slots })) ds os
  operands_on slots ds os all = each_later (SpellsOperand (record { table = old; slots = slots })) (SpellsOperand (record { table = new; slots = slots })) (operand_on slots) ds os all

  pub form_on : (slots : List (ℕ × ℕ)) (i : PlainInstruction) (f : Form) → SpellsForm (record { table = old; slots = slots }) i f → SpellsForm (record { table = new; slots = slots }) i f
  form_on slots i f is = carried (λ (t : Table). SpellsForm (record { table = t; slots = slots }) i f) (λ t added is. form t added slots i f is) old new goes is

  pub slot_on : (n : ℕ) (s : ℕ × ℕ) (k : Option CoreType) → SpellsSlot old n s k → SpellsSlot new n s k
  slot_on n s k is = carried (λ (t : Table). SpellsSlot t n s k) (λ t added is. slot t added n s k is) old new goes is

  pub slots_on : (n : ℕ) (ss : List (ℕ × ℕ)) (ks : List (Option CoreType)) → SpellsSlots old n ss ks → SpellsSlots new n ss ks
  slots_on n ss ks is = carried (λ (t : Table). SpellsSlots t n ss ks) (λ t added is. slots_later t added n ss ks is) old new goes is

  pub told_on : (part : Part) (es : List PlainLines) (ls : List (List ℕ)) → Each (SpellsLines old part) es ls → Each (SpellsLines new part) es ls
  told_on part es ls is = carried (λ (t : Table). Each (SpellsLines t part) es ls) (λ t added is. told t added part es ls is) old new goes is

  pub variable_on : (v : PexVariable) (tree : CoreVariable) → SpellsVariable old v tree → SpellsVariable new v tree
  variable_on v tree is = carried (λ (t : Table). SpellsVariable t v tree) (λ t added is. variable t added v tree is) old new goes is

  pub named_on : (from : Origin) (state : List ℕ) (f : ℕ × PlainFunction) (tree : trees.Function) (es : List PlainLines) → SpellsNamed from old state f tree es → SpellsNamed from new state f tree es
  named_on from state f tree es is = carried (λ (t : Table). SpellsNamed from t state f tree es) (λ t added is. named t added from state f tree es is) old new goes is

  pub state_on : (from : Origin) (s : PlainState) (tree : trees.State) (es : List PlainLines) → SpellsState from old s tree es → SpellsState from new s tree es
  state_on from s tree es is = carried (λ (t : Table). SpellsState from t s tree es) (λ t added is. state_later t added from s tree es is) old new goes is

  pub accessor_on : (from : Origin) (part : Part) (f : Option PlainFunction) (tree : Option trees.Function) (es : List PlainLines) → SpellsAccessor from old part f tree es → SpellsAccessor from new part f tree es
  accessor_on from part f tree es is = carried (λ (t : Table). SpellsAccessor from t part f tree es) (λ t added is. accessor t added from part f tree es is) old new goes is

  pub property_on : (from : Origin) (p : PlainProperty) (tree : trees.Property) (es : List PlainLines) → SpellsProperty from old p tree es → SpellsProperty from new p tree es
  property_on from p tree es is = carried (λ (t : Table). SpellsProperty from t p tree es) (λ t added is. property t added from p tree es is) old new goes is

  pub object_on : (from : Origin) (o : PlainObject) (tree : trees.Script) (es : List PlainLines) → SpellsObject from old o tree es → SpellsObject from new o tree es
  object_on from o tree es is = carried (λ (t : Table). SpellsObject from t o tree es) (λ t added is. object t added from o tree es is) old new goes is
