-- Functions with their lines, properties and states.
use Rattle.std.proofs.Common.{◌≡◌, ℕ, suc, ◌==◌, Bool, true, false, ◌&&◌, List, [], ◌∷◌, ◌++◌, map, length, Option, None, Some, refl, sym, ap, subst, ◌∙◌, append_assoc, arith}
use Rattle.std.specs.Prelude.{slice_get}
use Rattle.std.specs.List.{AllByRecursion}
use Rattle.std.specs.Option.{unwrap_or}
use Rattle.std.proofs.lemmas.Option.{get_or_from_slice_get}
use Rattle.core_tree.specs.Set as trees
use Rattle.pex_values.specs.Plain.{PlainFunction, PlainInstruction, PlainLines, PlainProperty, PlainState}
use Rattle.code_meaning.specs.Code.{Function, Instruction}
use Rattle.pex_meaning.specs.Functions.{Home, entries_of, has_bit, is_for, lines_meant, own_function, string, variable_names}
use Rattle.pex_meaning.specs.Meant.{access_meant, accessor_meant, method_meant, own_state, property_meant, variable_meant}
use Rattle.pex_meaning.specs.Names.{are_same, first_named}
use Rattle.code_lower.specs.declared.place.Coded.{Coded}
use Rattle.code_lower.specs.Lowered.{meant}
use Rattle.code_lower.specs.Whole.{function_with}
use Rattle.code_emit.specs.Spelled.{Each, EachWith, SpellsAccess, SpellsAccessor, SpellsFunction, SpellsInstruction, SpellsLines, SpellsNamed, SpellsProperty, SpellsState, lines_told, part_of}
use Rattle.code_emit.specs.Strings.{Origin, ReadsName, home_of}
use Rattle.emit_laws.specs.Members.{AccessFits, AccessMeans, AccessorFits, AccessorMeans, CodeFits, Differ, IsCodeOf, PropertyMeans, StateFits, StateMeans}
use Rattle.emit_laws.specs.Readable.{HomeFits, IsHome}
use Rattle.emit_laws.proofs.Entries.{Apart, all_joined, apart_by, each_length, first_false, last_false, lines_told_are, table, third_false}
use Rattle.emit_laws.proofs.Functions.{function_read}
use Rattle.emit_laws.proofs.Operands.{distinct_found}

lines_same : (items : List (Coded × ℕ)) → map (λ (i : Coded × ℕ). i.1) items ≡ map (λ (i : Instruction × ℕ). i.1) (map (λ (i : Coded × ℕ). (meant i.0, i.1)) items)
lines_same [] = refl
lines_same (item ∷ items) = ap (λ l. item.1 ∷ l) (lines_same items)

length_mapped : {X Y : Type 0} (f : X → Y) (xs : List X) → length (map f xs) ≡ length xs
length_mapped f [] = refl
length_mapped f (x ∷ xs) = let e = length_mapped f xs in ap suc e

module _ (from : Origin) (home : Home) (object : string home home.object.name ≡ from.script.name) (is : IsHome home (table from home object)) where
  abbrev Entries : Type 0
  Entries = List PlainLines

  -- ---- a function
  lines_by : (told : Bool) (state name : List ℕ) (kind : ℕ) (code : List PlainInstruction) (items : List (Coded × ℕ)) (before entries after : Entries) → length code ≡ length items → (told ≡ true → items ≡ []) → entries_of home ≡ before ++ (entries ++ after) → Apart home kind state name before → Each (SpellsLines (table from home object) (part_of from state name kind)) entries (lines_told told (map (λ (i : Coded × ℕ). i.1) items)) → lines_meant home kind state name (length code) ≡ map (λ (i : Coded × ℕ). i.1) items
  lines_by true state name kind [] items before entries after e native all apart are = sym (ap (λ (l : List (Coded × ℕ)). map (λ (i : Coded × ℕ). i.1) l) (native refl))
  lines_by true state name kind (i ∷ code) items before entries after e native all apart are =
      let none : length items ≡ 0 = ap (λ (l : List (Coded × ℕ)). length l) (native refl) in
      absurd (omega (arith, e, none))
  lines_by false state name kind code items before entries after e native all apart are =
      lines_told_are from home object state name kind before entries after (map (λ (i : Coded × ℕ). i.1) items) all apart are (length code) (e ∙ sym (length_mapped (λ (i : Coded × ℕ). i.1) items))

  own_read : (state name : List ℕ) (kind : ℕ) (f : PlainFunction) (tree : trees.Function) (before entries after : Entries) → entries_of home ≡ before ++ (entries ++ after) → Apart home kind state name before → CodeFits from (table from home object) f tree → SpellsFunction from (table from home object) (part_of from state name kind) f tree entries → IsCodeOf from name tree (own_function home kind state name f)
  own_read state name kind f tree before entries after all apart tree_fits spells =
      let lowered = spells.lowered in
      let fits = tree_fits lowered spells.is_lowered spells.spelled in
      let more = spells.is_lowered.temporaries in
      let items = lowered.code.items in
      let as_many = each_length (SpellsInstruction (record { table = table from home object; slots = f.parameters ++ f.locals })) f.code (map (λ (i : Coded × ℕ). i.0) items) spells.spelled.code ∙ length_mapped (λ (i : Coded × ℕ). i.0) items in
      let lines = lines_by tree.is_native state name kind f.code items before entries after as_many fits.native all apart spells.told ∙ lines_same items in
      record {
        lowered = lowered;
        is_lowered = spells.is_lowered;
        is =
            function_read home (table from home object) tree lowered f more name (lines_meant home kind state name (length f.code)) is fits spells.is_lowered.kinds spells.spelled
            ∙ ap (λ (l : List ℕ). record (function_with tree more lowered) { name = name; lines = l }) lines;
      }

  code_at : (name other : List ℕ) (tree : trees.Function) (f g : Function) → name ≡ other → g ≡ f → IsCodeOf from name tree f → IsCodeOf from name tree g
  code_at name other tree f g n e code = record { lowered = code.lowered; is_lowered = code.is_lowered; is = e ∙ code.is }

  -- ---- the functions of a state
  apart_further : (k : ℕ) (s : List ℕ) (names : List (List ℕ)) (before entries : Entries) → AllByRecursion (λ n. Apart home k s n before) names → AllByRecursion (λ n. Apart home k s n entries) names → AllByRecursion (λ n. Apart home k s n (before ++ entries)) names
  apart_further k s [] before entries h l = tt
  apart_further k s (n ∷ names) before entries h l =
      (all_joined (λ entry. is_for home k s n entry ≡ false) before entries h.0 l.0, apart_further k s names before entries h.1 l.1)

  apart_names : (state name : List ℕ) (kind : ℕ) (entries : Entries) (lines : List (List ℕ)) → Each (SpellsLines (table from home object) (part_of from state name kind)) entries lines → (names : List (List ℕ)) → AllByRecursion (λ other. are_same name other ≡ false) names → AllByRecursion (λ n. Apart home kind state n entries) names
  apart_names state name kind entries lines are [] differ = tt
  apart_names state name kind entries lines are (n ∷ names) differ =
      (apart_by from home object state name kind kind state n (λ a. last_false (kind == kind) a (are_same state state) (are_same name n) differ.0) entries lines are, apart_names state name kind entries lines are names differ.1)

  method_read : (state : List ℕ) (f : ℕ × PlainFunction) (tree : trees.Function) (before entries after : Entries) → entries_of home ≡ before ++ (entries ++ after) → Apart home 0 state tree.name before → CodeFits from (table from home object) f.1 tree → SpellsNamed from (table from home object) state f tree entries → IsCodeOf from tree.name tree (method_meant home state f)
  method_read state f tree before entries after all apart fits spells =
      let named = get_or_from_slice_get home.file.strings f.0 tree.name [] spells.name.there in
      code_at tree.name tree.name tree (own_function home 0 state tree.name f.1) (method_meant home state f) refl (ap (λ (n : List ℕ). own_function home 0 state n f.1) named) (own_read state tree.name 0 f.1 tree before entries after all apart fits spells.function)

  methods_read : (state : List ℕ) (functions : List (ℕ × PlainFunction)) (more : List trees.Function) (before entries after : Entries) → entries_of home ≡ before ++ (entries ++ after) → AllByRecursion (λ n. Apart home 0 state n before) (map (λ (f : trees.Function). f.name) more) → Differ (map (λ (f : trees.Function). f.name) more) → Each (λ (f : ℕ × PlainFunction) t. CodeFits from (table from home object) f.1 t) functions more → EachWith (SpellsNamed from (table from home object) state) functions more entries → Each (λ (t : trees.Function) (f : Function). IsCodeOf from t.name t f) more (map (method_meant home state) functions)
  methods_read state [] [] before entries after all apart differ fits spells = tt
  methods_read state [] (tree ∷ more) before entries after all apart differ fits spells = absurd spells
  methods_read state (f ∷ functions) [] before entries after all apart differ fits spells = absurd spells
  methods_read state (f ∷ functions) (tree ∷ more) before entries after all apart differ fits spells =
      let first = spells.0 in
      let rest = spells.1 in
      let here : entries_of home ≡ before ++ (first ++ (rest ++ after)) = all ∙ ap (λ (l : Entries). before ++ (l ++ after)) spells.2 ∙ ap (λ (l : Entries). before ++ l) (append_assoc first rest after) in
      let there : entries_of home ≡ (before ++ first) ++ (rest ++ after) = here ∙ sym (append_assoc before first (rest ++ after)) in
      let others = apart_names state tree.name 0 first (lines_told tree.is_native (map (λ (i : Coded × ℕ). i.1) spells.3.function.lowered.code.items)) spells.3.function.told (map (λ (f : trees.Function). f.name) more) differ.0 in
      (method_read state f tree before first (rest ++ after) here apart.0 fits.0 spells.3, methods_read state functions more (before ++ first) rest after there (apart_further 0 state (map (λ (f : trees.Function). f.name) more) before first apart.1 others) differ.1 fits.1 spells.4)

  -- ---- states
  -- none is for a function of this state
  abbrev StateApart : List ℕ → Entries → Type 0
  StateApart state entries = (name : List ℕ) → Apart home 0 state name entries

  state_apart : (state other name : List ℕ) → are_same state other ≡ false → (functions : List (ℕ × PlainFunction)) (more : List trees.Function) (entries : Entries) → EachWith (SpellsNamed from (table from home object) state) functions more entries → Apart home 0 other name entries
  state_apart state other name differ [] [] entries spells = subst (λ (l : Entries). Apart home 0 other name l) (sym spells) tt
  state_apart state other name differ [] (tree ∷ more) entries spells = absurd spells
  state_apart state other name differ (f ∷ functions) [] entries spells = absurd spells
  state_apart state other name differ (f ∷ functions) (tree ∷ more) entries spells =
      subst (λ (l : Entries). Apart home 0 other name l) (sym spells.2)
      (all_joined (λ entry. is_for home 0 other name entry ≡ false) spells.0 spells.1
      (apart_by from home object state tree.name 0 0 other name (λ a. third_false (0 == 0) a (are_same state other) (are_same tree.name name) differ) spells.0 (lines_told tree.is_native (map (λ (i : Coded × ℕ). i.1) spells.3.function.lowered.code.items)) spells.3.function.told)
      (state_apart state other name differ functions more spells.1 spells.4))

  states_apart : (state : List ℕ) (functions : List (ℕ × PlainFunction)) (more : List trees.Function) (before entries : Entries) → EachWith (SpellsNamed from (table from home object) state) functions more entries → (names : List (List ℕ)) → AllByRecursion (λ other. are_same state other ≡ false) names → AllByRecursion (λ s. StateApart s before) names → AllByRecursion (λ s. StateApart s (before ++ entries)) names
  states_apart state functions more before entries spells [] differ apart = tt
  states_apart state functions more before entries spells (s ∷ names) differ apart =
      ((λ name. all_joined (λ entry. is_for home 0 s name entry ≡ false) before entries (apart.0 name) (state_apart state s name differ.0 functions more entries spells)), states_apart state functions more before entries spells names differ.1 apart.1)

  named_apart : (state : List ℕ) (before : Entries) → StateApart state before → (names : List (List ℕ)) → AllByRecursion (λ n. Apart home 0 state n before) names
  named_apart state before apart [] = tt
  named_apart state before apart (n ∷ names) = (apart n, named_apart state before apart names)

  state_read : (s : PlainState) (tree : trees.State) (before entries after : Entries) → entries_of home ≡ before ++ (entries ++ after) → StateApart tree.name before → StateFits from (table from home object) s tree → SpellsState from (table from home object) s tree entries → StateMeans from tree (own_state home s)
  state_read s tree before entries after all apart fits spells =
      let named = get_or_from_slice_get home.file.strings s.name tree.name [] spells.name.there in
      record {
        name = named;
        functions = subst (λ (n : List ℕ). Each (λ (t : trees.Function) (f : Function). IsCodeOf from t.name t f) tree.functions (map (method_meant home n) s.functions)) (sym named) (methods_read tree.name s.functions tree.functions before entries after all (named_apart tree.name before apart (map (λ (f : trees.Function). f.name) tree.functions)) fits.names fits.functions spells.functions);
      }

  pub states_read : (states : List PlainState) (more : List trees.State) (before entries after : Entries) → entries_of home ≡ before ++ (entries ++ after) → AllByRecursion (λ s. StateApart s before) (map (λ (s : trees.State). s.name) more) → Differ (map (λ (s : trees.State). s.name) more) → Each (StateFits from (table from home object)) states more → EachWith (SpellsState from (table from home object)) states more entries → Each (StateMeans from) more (map (own_state home) states)
  states_read [] [] before entries after all apart differ fits spells = tt
  states_read [] (tree ∷ more) before entries after all apart differ fits spells = absurd spells
  states_read (s ∷ states) [] before entries after all apart differ fits spells = absurd spells
  states_read (s ∷ states) (tree ∷ more) before entries after all apart differ fits spells =
      let first = spells.0 in
      let rest = spells.1 in
      let here : entries_of home ≡ before ++ (first ++ (rest ++ after)) = all ∙ ap (λ (l : Entries). before ++ (l ++ after)) spells.2 ∙ ap (λ (l : Entries). before ++ l) (append_assoc first rest after) in
      let there : entries_of home ≡ (before ++ first) ++ (rest ++ after) = here ∙ sym (append_assoc before first (rest ++ after)) in
      (state_read s tree before first (rest ++ after) here apart.0 fits.0 spells.3, states_read states more (before ++ first) rest after there (states_apart tree.name s.functions tree.functions before first spells.3.functions (map (λ (s : trees.State). s.name) more) differ.0 apart.1) differ.1 fits.1 spells.4)

  -- ---- properties
  -- none is for a function that reads or writes this property
  abbrev PropertyApart : List ℕ → Entries → Type 0
  PropertyApart name entries = Apart home 1 [] name entries × Apart home 2 [] name entries

  accessor_apart : (name : List ℕ) (kind k : ℕ) (s n : List ℕ) → ((a : Bool) → ((kind == k) && a && are_same [] s && are_same name n) ≡ false) → (o : Option PlainFunction) (tree : Option trees.Function) (entries : Entries) → SpellsAccessor from (table from home object) (part_of from [] name kind) o tree entries → Apart home k s n entries
  accessor_apart name kind k s n differs None None entries spells = subst (λ (l : Entries). Apart home k s n l) (sym spells) tt
  accessor_apart name kind k s n differs None (Some tree) entries spells = absurd spells
  accessor_apart name kind k s n differs (Some f) None entries spells = absurd spells
  accessor_apart name kind k s n differs (Some f) (Some tree) entries spells =
      apart_by from home object [] name kind k s n differs entries (lines_told tree.is_native (map (λ (i : Coded × ℕ). i.1) spells.lowered.code.items)) spells.told

  access_apart : (p : PlainProperty) (name : List ℕ) (k : ℕ) (s n : List ℕ) → ((a : Bool) → ((1 == k) && a && are_same [] s && are_same name n) ≡ false) → ((a : Bool) → ((2 == k) && a && are_same [] s && are_same name n) ≡ false) → (access : trees.Access) (entries : Entries) → SpellsAccess from (table from home object) p name access entries → Apart home k s n entries
  access_apart p name k s n one two (trees.Auto variable) entries spells = subst (λ (l : Entries). Apart home k s n l) (sym spells.none) tt
  access_apart p name k s n one two (trees.Full read write) entries spells =
      subst (λ (l : Entries). Apart home k s n l) (sym spells.both)
      (all_joined (λ entry. is_for home k s n entry ≡ false) spells.first spells.second (accessor_apart name 1 k s n one p.read read spells.first spells.read_is) (accessor_apart name 2 k s n two p.write write spells.second spells.write_is))

  accessor_read : (name : List ℕ) (kind reference : ℕ) (o : Option PlainFunction) (tree : Option trees.Function) (before entries after : Entries) → string home reference ≡ name → entries_of home ≡ before ++ (entries ++ after) → Apart home kind [] name before → AccessorFits from (table from home object) o tree → SpellsAccessor from (table from home object) (part_of from [] name kind) o tree entries → AccessorMeans from name tree (accessor_meant home kind reference o)
  accessor_read name kind reference None None before entries after named all apart fits spells = tt
  accessor_read name kind reference None (Some tree) before entries after named all apart fits spells = absurd spells
  accessor_read name kind reference (Some f) None before entries after named all apart fits spells = absurd spells
  accessor_read name kind reference (Some f) (Some tree) before entries after named all apart fits spells =
      code_at name name tree (own_function home kind [] name f) (own_function home kind [] (string home reference) f) refl (ap (λ (n : List ℕ). own_function home kind [] n f) named) (own_read [] name kind f tree before entries after all apart fits spells)

  pub variable_by : (reference variable : ℕ) (o : Option (List ℕ)) → HomeFits (home_of from) → slice_get (home_of from).variables variable ≡ o → ReadsName home.file.strings reference o → variable_meant home reference ≡ variable
  variable_by reference variable None fits e reads = absurd reads
  variable_by reference variable (Some name) fits e reads =
      ap (λ (n : List ℕ). unwrap_or (first_named n (variable_names home)) 0) (get_or_from_slice_get home.file.strings reference name [] reads.there)
      ∙ ap (λ (l : List (List ℕ)). unwrap_or (first_named name l) 0) is.variables
      ∙ ap (λ (o : Option ℕ). unwrap_or o 0) (distinct_found (home_of from).variables fits.variables.distinct variable name e)

  access_read : (p : PlainProperty) (name : List ℕ) (access : trees.Access) (before entries after : Entries) → HomeFits (home_of from) → string home p.name ≡ name → entries_of home ≡ before ++ (entries ++ after) → PropertyApart name before → AccessFits from (table from home object) p access → SpellsAccess from (table from home object) p name access entries → AccessMeans from name access (access_meant home p p.variable)
  access_read p name (trees.Auto variable) before entries after names named all apart fits spells =
      subst (λ (o : Option ℕ). AccessMeans from name (trees.Auto variable) (access_meant home p o)) (sym spells.variable_is)
      (variable_by spells.reference variable (slice_get (home_of from).variables variable) names refl spells.names, ap (λ (n : ℕ). has_bit n 1) spells.bits, ap (λ (n : ℕ). has_bit n 2) spells.bits)
  access_read p name (trees.Full read write) before entries after names named all apart fits spells =
      let first = spells.first in
      let second = spells.second in
      let here : entries_of home ≡ before ++ (first ++ (second ++ after)) = all ∙ ap (λ (l : Entries). before ++ (l ++ after)) spells.both ∙ ap (λ (l : Entries). before ++ l) (append_assoc first second after) in
      let there : entries_of home ≡ (before ++ first) ++ (second ++ after) = here ∙ sym (append_assoc before first (second ++ after)) in
      let read_apart = accessor_apart name 1 2 [] name (λ a. first_false (1 == 2) a (are_same [] []) (are_same name name) refl) p.read read first spells.read_is in
      subst (λ (o : Option ℕ). AccessMeans from name (trees.Full read write) (access_meant home p o)) (sym spells.variable)
      (accessor_read name 1 p.name p.read read before first (second ++ after) named here apart.0 fits.0 spells.read_is, accessor_read name 2 p.name p.write write (before ++ first) second after named there (all_joined (λ entry. is_for home 2 [] name entry ≡ false) before first apart.1 read_apart) fits.1 spells.write_is)

  property_read : (p : PlainProperty) (tree : trees.Property) (before entries after : Entries) → HomeFits (home_of from) → entries_of home ≡ before ++ (entries ++ after) → PropertyApart tree.name before → AccessFits from (table from home object) p tree.access → SpellsProperty from (table from home object) p tree entries → PropertyMeans from tree (property_meant home p)
  property_read p tree before entries after names all apart fits spells =
      let named = get_or_from_slice_get home.file.strings p.name tree.name [] spells.name.there in
      record { name = named; access = access_read p tree.name tree.access before entries after names named all apart fits spells.access }

  properties_apart : (p : PlainProperty) (name : List ℕ) (access : trees.Access) (before entries : Entries) → SpellsAccess from (table from home object) p name access entries → (names : List (List ℕ)) → AllByRecursion (λ other. are_same name other ≡ false) names → AllByRecursion (λ n. PropertyApart n before) names → AllByRecursion (λ n. PropertyApart n (before ++ entries)) names
  properties_apart p name access before entries spells [] differ apart = tt
  properties_apart p name access before entries spells (n ∷ names) differ apart =
      let one = access_apart p name 1 [] n (λ a. last_false (1 == 1) a (are_same [] []) (are_same name n) differ.0) (λ a. last_false (2 == 1) a (are_same [] []) (are_same name n) differ.0) access entries spells in
      let two = access_apart p name 2 [] n (λ a. last_false (1 == 2) a (are_same [] []) (are_same name n) differ.0) (λ a. last_false (2 == 2) a (are_same [] []) (are_same name n) differ.0) access entries spells in
      ((all_joined (λ entry. is_for home 1 [] n entry ≡ false) before entries apart.0.0 one, all_joined (λ entry. is_for home 2 [] n entry ≡ false) before entries apart.0.1 two), properties_apart p name access before entries spells names differ.1 apart.1)

  pub properties_read : (properties : List PlainProperty) (more : List trees.Property) (before entries after : Entries) → HomeFits (home_of from) → entries_of home ≡ before ++ (entries ++ after) → AllByRecursion (λ n. PropertyApart n before) (map (λ (p : trees.Property). p.name) more) → Differ (map (λ (p : trees.Property). p.name) more) → Each (λ p (t : trees.Property). AccessFits from (table from home object) p t.access) properties more → EachWith (SpellsProperty from (table from home object)) properties more entries → Each (PropertyMeans from) more (map (property_meant home) properties)
  properties_read [] [] before entries after names all apart differ fits spells = tt
  properties_read [] (tree ∷ more) before entries after names all apart differ fits spells = absurd spells
  properties_read (p ∷ properties) [] before entries after names all apart differ fits spells = absurd spells
  properties_read (p ∷ properties) (tree ∷ more) before entries after names all apart differ fits spells =
      let first = spells.0 in
      let rest = spells.1 in
      let here : entries_of home ≡ before ++ (first ++ (rest ++ after)) = all ∙ ap (λ (l : Entries). before ++ (l ++ after)) spells.2 ∙ ap (λ (l : Entries). before ++ l) (append_assoc first rest after) in
      let there : entries_of home ≡ (before ++ first) ++ (rest ++ after) = here ∙ sym (append_assoc before first (rest ++ after)) in
      (property_read p tree before first (rest ++ after) names here apart.0 fits.0 spells.3, properties_read properties more (before ++ first) rest after names there (properties_apart p tree.name tree.access before first spells.3.access (map (λ (p : trees.Property). p.name) more) differ.0 apart.1) differ.1 fits.1 spells.4)

  -- entries of properties are for no function of a state
  pub no_state : (properties : List PlainProperty) (more : List trees.Property) (entries : Entries) → EachWith (SpellsProperty from (table from home object)) properties more entries → (state : List ℕ) → StateApart state entries
  no_state [] [] entries spells state name = subst (λ (l : Entries). Apart home 0 state name l) (sym spells) tt
  no_state [] (tree ∷ more) entries spells state name = absurd spells
  no_state (p ∷ properties) [] entries spells state name = absurd spells
  no_state (p ∷ properties) (tree ∷ more) entries spells state name =
      subst (λ (l : Entries). Apart home 0 state name l) (sym spells.2)
      (all_joined (λ entry. is_for home 0 state name entry ≡ false) spells.0 spells.1
      (access_apart p tree.name 0 state name (λ a. first_false (1 == 0) a (are_same [] state) (are_same tree.name name) refl) (λ a. first_false (2 == 0) a (are_same [] state) (are_same tree.name name) refl) tree.access spells.0 spells.3.access)
      (no_state properties more spells.1 spells.4 state name))

  -- where nothing was told before
  pub none_before : (names : List (List ℕ)) → AllByRecursion (λ n. PropertyApart n []) names
  none_before [] = tt
  none_before (n ∷ names) = ((tt, tt), none_before names)

  pub no_states : (before : Entries) → ((state : List ℕ) → StateApart state before) → (names : List (List ℕ)) → AllByRecursion (λ s. StateApart s before) names
  no_states before apart [] = tt
  no_states before apart (s ∷ names) = (apart s, no_states before apart names)
