-- What a scene is read from has no float.
use Rattle.std.proofs.Common.{ℕ, ◌≡◌, Bool, true, false, List, [], ◌∷◌, ◌||◌, Option, Some, None, option_and_then, bytes_eq, if◌then◌else◌, refl, ap, subst}
use Rattle.std.specs.Prelude.{ℤ, pos, neg_ℤ, ◌^◌, ◌-◌, codes}
use Rattle.std.specs.List.{AllByRecursion}
use Rattle.std.proofs.lemmas.Option.{none-some}
use Rattle.serde_json.specs.Data.{unsigned, negative, float, Data, null, boolean, number, string, array, object, Items, no_items, item, Members, no_members, member}
use Rattle.serde_json.specs.Find.{as_bool, as_number, as_str, as_u64, get_member}
use Rattle.serde_json.specs.Written.{has_float, items_have_float, members_have_float}
use Rattle.scene_reader.specs.Reading.{Reading, Misshapen, Excessive, Fits, both, closed, each_item, each_member, entries, have_only, limited, list, needed, optional, reading_map, there, there_or}
use Rattle.scene_reader.specs.SceneOf.{binding, binding_of, call, call_of, calling, calls, count, device, instance, instance_name, instance_of, instances, int, keys, latency, latency_from, of_version, order, parts, place, plan_of, prompt_from, quantum_from, scene, scene_value, short, sleep, tape, text, trace, tracing, truth_from, turn, version_from, version_in, whole}
use Rattle.core_tree.specs.Scenes.{Listed}
use Rattle.core_tree.specs.declared.scene_tree.SceneValue.TheVariants as values
use Rattle.scene_reader.specs.declared.parts.Version.{Version}
use Rattle.scene_reader.specs.declared.parts.Version.TheVariants.{One, Two}
use Rattle.scene_reader.specs.KeyOrder.{AreItemsOrdered, AreOrdered, IsOrdered}
use Rattle.scene_reader.proofs.KeyOrder.{no_float_within, ordered_member}

-- ---- what was read, where all of it was

abbrev pub IsFit : {T : Type 0} → Reading T → Type 0
IsFit Misshapen = ⊥
IsFit Excessive = ⊥
IsFit (Fits t) = Unit {0}

pub map_fit : {A B : Type 0} (f : A → B) (r : Reading A) → IsFit (reading_map f r) → IsFit r
map_fit f Misshapen h = h
map_fit f Excessive h = h
map_fit f (Fits a) h = tt

pub both_fit : {A B : Type 0} (r : Reading A) (s : Reading B) → IsFit (both r s) → IsFit r × IsFit s
both_fit Misshapen s h = absurd h
both_fit Excessive Misshapen h = absurd h
both_fit Excessive Excessive h = absurd h
both_fit Excessive (Fits b) h = absurd h
both_fit (Fits a) Misshapen h = absurd h
both_fit (Fits a) Excessive h = absurd h
both_fit (Fits a) (Fits b) h = (tt, tt)

pub limited_fit : {T : Type 0} (keeps : T → Bool) (r : Reading T) → IsFit (limited keeps r) → IsFit r
limited_fit keeps Misshapen h = h
limited_fit keeps Excessive h = h
limited_fit keeps (Fits t) h = tt

pub only_fit : {T : Type 0} (b : Bool) (r : Reading T) → IsFit (if b then r else Misshapen) → (b ≡ true) × IsFit r
only_fit true r h = (refl, h)
only_fit false r h = absurd h

-- ---- parts that have no float

-- an ordered value without its form, or without a float
abbrev NoFloat : {T : Type 0} → (Data → Reading T) → Type 0
NoFloat read = (d : Data) → IsOrdered d → IsFit (read d) → has_float d ≡ false

-- the same of what stands at a key
abbrev NoFloatAt : Members → List ℕ → Type 0
NoFloatAt ms key = (e : Data) → get_member key ms ≡ Some e → has_float e ≡ false

either_false : (a b : Bool) → a ≡ false → b ≡ false → (a || b) ≡ false
either_false a b x y = rw (x, y) refl

module _ {T : Type 0} (read : Data → Reading T) (free : NoFloat read) where
  at_needed : (key : List ℕ) (ms : Members) → AreOrdered ms → IsFit (needed key read (object ms)) → NoFloatAt ms key
  at_needed key ms all h e is = free e (ordered_member key e ms all is) (subst (λ o. IsFit (there read o)) is h)

  at_optional : (key : List ℕ) (absent : T) (ms : Members) → AreOrdered ms → IsFit (optional key absent read (object ms)) → NoFloatAt ms key
  at_optional key absent ms all h e is = free e (ordered_member key e ms all is) (subst (λ o. IsFit (there_or absent read o)) is h)

  free_items : (ds : Items) → AreItemsOrdered ds → IsFit (each_item read ds) → items_have_float ds ≡ false
  free_items no_items all h = refl
  free_items (item d ds) all h =
      let parts = both_fit (read d) (each_item read ds) (map_fit (λ p. p.0 ∷ p.1) (both (read d) (each_item read ds)) h) in
      either_false (has_float d) (items_have_float ds) (free d all.0 parts.0) (free_items ds all.1 parts.1)

  free_list : NoFloat (list read)
  free_list null all h = refl
  free_list (boolean b) all h = refl
  free_list (number n) all h = absurd h
  free_list (string s) all h = refl
  free_list (array ds) all h = free_items ds all h
  free_list (object ms) all h = absurd h

  module _ (name : List ℕ → Reading (List ℕ)) where
    free_members : (ms : Members) → AreOrdered ms → IsFit (each_member name read ms) → members_have_float ms ≡ false
    free_members no_members all h = refl
    free_members (member k d ms) all h =
        let parts = both_fit (both (name k) (read d)) (each_member name read ms) (map_fit (λ p. p.0 ∷ p.1) (both (both (name k) (read d)) (each_member name read ms)) h) in
        let one = both_fit (name k) (read d) parts.0 in
        either_false (has_float d) (members_have_float ms) (free d all.1 one.1) (free_members ms all.2 parts.1)

    free_entries : NoFloat (entries name read)
    free_entries null all h = refl
    free_entries (boolean b) all h = refl
    free_entries (number n) all h = absurd h
    free_entries (string s) all h = refl
    free_entries (array ds) all h = absurd h
    free_entries (object ms) all h = free_members ms all h

  free_limited : (keeps : T → Bool) → NoFloat (λ d. limited keeps (read d))
  free_limited keeps d all h = free d all (limited_fit keeps (read d) h)

free_closed : {T : Type 0} (names : List (List ℕ)) (read : Data → Reading T) → ((ms : Members) → AreOrdered ms → IsFit (read (object ms)) → AllByRecursion (NoFloatAt ms) names) → NoFloat (closed names read)
free_closed names read each null all h = refl
free_closed names read each (boolean b) all h = refl
free_closed names read each (number n) all h = absurd h
free_closed names read each (string s) all h = refl
free_closed names read each (array ds) all h = absurd h
free_closed names read each (object ms) all h =
    let parts = only_fit (have_only names ms) (read (object ms)) h in
    no_float_within names ms all parts.0 (each ms all parts.1)

some_back : {A : Type 0} (a b : A) → Some a ≡ Some b → a ≡ b
some_back a b is = ap (λ o. elim o as (λ _. _) [ None ↦ a | Some x ↦ x ]) is

-- ---- numbers and texts

free_whole : (least most : ℤ) → NoFloat (whole least most)
free_whole least most null all h = refl
free_whole least most (boolean b) all h = refl
free_whole least most (number (unsigned n)) all h = refl
free_whole least most (number (negative z)) all h = refl
free_whole least most (number (float x)) all h = absurd h
free_whole least most (string s) all h = refl
free_whole least most (array ds) all h = absurd h
free_whole least most (object ms) all h = absurd h

free_count : (least most : ℕ) → NoFloat (count least most)
free_count least most null all h = refl
free_count least most (boolean b) all h = refl
free_count least most (number (unsigned n)) all h = refl
free_count least most (number (negative z)) all h = refl
free_count least most (number (float x)) all h = absurd h
free_count least most (string s) all h = refl
free_count least most (array ds) all h = absurd h
free_count least most (object ms) all h = absurd h

free_text : NoFloat text
free_text null all h = refl
free_text (boolean b) all h = refl
free_text (number n) all h = absurd h
free_text (string s) all h = refl
free_text (array ds) all h = absurd h
free_text (object ms) all h = absurd h

free_name : NoFloat instance_name
free_name null all h = refl
free_name (boolean b) all h = refl
free_name (number n) all h = absurd h
free_name (string s) all h = refl
free_name (array ds) all h = absurd h
free_name (object ms) all h = absurd h

-- what is a text, or whole, or a truth, has no float
free_str : (e : Data) (s : List ℕ) → as_str e ≡ Some s → has_float e ≡ false
free_str null s is = refl
free_str (boolean b) s is = refl
free_str (number n) s is = absurd (none-some s is)
free_str (string t) s is = refl
free_str (array ds) s is = absurd (none-some s is)
free_str (object ms) s is = absurd (none-some s is)

free_u64 : (e : Data) (n : ℕ) → option_and_then as_u64 (as_number e) ≡ Some n → has_float e ≡ false
free_u64 null n is = refl
free_u64 (boolean b) n is = refl
free_u64 (number (unsigned m)) n is = refl
free_u64 (number (negative z)) n is = refl
free_u64 (number (float x)) n is = absurd (none-some n is)
free_u64 (string s) n is = refl
free_u64 (array ds) n is = absurd (none-some n is)
free_u64 (object ms) n is = absurd (none-some n is)

free_truth : (e : Data) → IsFit (truth_from (as_bool e)) → has_float e ≡ false
free_truth null h = refl
free_truth (boolean b) h = refl
free_truth (number n) h = absurd h
free_truth (string s) h = refl
free_truth (array ds) h = absurd h
free_truth (object ms) h = absurd h

-- ---- values, instances and calls

free_int : NoFloat int
free_int = free_whole (neg_ℤ (pos (2 ^ 31))) (pos (2 ^ 31 - 1))

free_scene_value : NoFloat scene_value
free_scene_value null all h = refl
free_scene_value (boolean b) all h = refl
free_scene_value (number n) all h = free_int (number n) all (map_fit values.Int (int (number n)) h)
free_scene_value (string s) all h = refl
free_scene_value (array ds) all h = absurd h
free_scene_value (object ms) all h = free_closed (codes "instance" ∷ []) (λ value. reading_map values.Instance (needed (codes "instance") text value))
    (λ ms all h. (at_needed text free_text (codes "instance") ms all (map_fit values.Instance (needed (codes "instance") text (object ms)) h), tt)) (object ms) all h

free_instance : NoFloat instance
free_instance = free_closed (codes "name" ∷ codes "script" ∷ codes "set" ∷ []) _ (λ ms all h.
    let value = object ms in
    let sets = optional (codes "set") [] (entries short scene_value) value in
    let rest = both (needed (codes "script") text value) sets in
    let one = both_fit (needed (codes "name") instance_name value) rest (map_fit instance_of (both (needed (codes "name") instance_name value) rest) h) in
    let two = both_fit (needed (codes "script") text value) sets one.1 in (
      at_needed instance_name free_name (codes "name") ms all one.0,
      (
        at_needed text free_text (codes "script") ms all two.0,
        (at_optional (entries short scene_value) (free_entries scene_value free_scene_value short) (codes "set") [] ms all two.1, tt),
      ),
    ))

free_call : NoFloat call
free_call = free_closed (codes "turn" ∷ codes "instance" ∷ codes "function" ∷ codes "arguments" ∷ []) _ (λ ms all h.
    let value = object ms in
    let fourth = optional (codes "arguments") [] (list scene_value) value in
    let third = both (needed (codes "function") text value) fourth in
    let second = both (needed (codes "instance") text value) third in
    let one = both_fit (needed (codes "turn") turn value) second (map_fit call_of (both (needed (codes "turn") turn value) second) h) in
    let two = both_fit (needed (codes "instance") text value) third one.1 in
    let three = both_fit (needed (codes "function") text value) fourth two.1 in (
      at_needed turn (free_count 0 1000000) (codes "turn") ms all one.0,
      (
        at_needed text free_text (codes "instance") ms all two.0,
        (
          at_needed text free_text (codes "function") ms all three.0,
          (at_optional (list scene_value) (free_list scene_value free_scene_value) (codes "arguments") [] ms all three.1, tt),
        ),
      ),
    ))

-- ---- natives

free_prompt : (version : Version) (o : Option Data) → IsFit (prompt_from version o) → (e : Data) → o ≡ Some e → has_float e ≡ false
free_prompt version None h e is = absurd (none-some e is)
free_prompt One (Some d) h e is = absurd h
free_prompt Two (Some d) h e is = subst (λ x. has_float x ≡ false) (some_back d e is) (free_truth d h)

-- where a latency fits, so does whether the native is prompt, and a latency that is written is a number of turns
latency_fit : (o : Option Data) (prompt : Reading Bool) → IsFit (latency_from o prompt) → IsFit prompt × ((e : Data) → o ≡ Some e → IsFit (turn e))
latency_fit o Misshapen h = absurd h
latency_fit o Excessive h = absurd h
latency_fit None (Fits true) h = (tt, λ e is. absurd (none-some e is))
latency_fit (Some d) (Fits true) h = absurd h
latency_fit None (Fits false) h = (tt, λ e is. absurd (none-some e is))
latency_fit (Some d) (Fits false) h = (tt, λ e is. subst (λ x. IsFit (turn x)) (some_back d e is) (map_fit Some (turn d) h))

free_latency : (version : Version) (ms : Members) → AreOrdered ms → IsFit (latency version (object ms)) → NoFloatAt ms (codes "latency") × NoFloatAt ms (codes "prompt")
free_latency version ms all h =
    let parts = latency_fit (get_member (codes "latency") ms) (prompt_from version (get_member (codes "prompt") ms)) h in
    (λ e is. free_count 0 1000000 e (ordered_member (codes "latency") e ms all is) (parts.1 e is), free_prompt version (get_member (codes "prompt") ms) parts.0)

module _ (version : Version) (ms : Members) (all : AreOrdered ms) (kind : NoFloatAt ms (codes "kind")) where
  free_sleep : IsFit (sleep (object ms)) → members_have_float ms ≡ false
  free_sleep h = let parts = only_fit (have_only (codes "kind" ∷ []) ms) _ h in no_float_within (codes "kind" ∷ []) ms all parts.0 (kind, tt)

  free_trace : IsFit (trace version (object ms)) → members_have_float ms ≡ false
  free_trace h =
      let parts = only_fit (have_only (codes "kind" ∷ codes "latency" ∷ codes "prompt" ∷ []) ms) _ h in
      let two = free_latency version ms all (map_fit tracing (latency version (object ms)) parts.1) in
      no_float_within (codes "kind" ∷ codes "latency" ∷ codes "prompt" ∷ []) ms all parts.0 (kind, (two.0, (two.1, tt)))

  free_device : IsFit (device version (object ms)) → members_have_float ms ≡ false
  free_device h =
      let parts = only_fit (have_only (codes "kind" ∷ codes "device" ∷ codes "latency" ∷ codes "prompt" ∷ []) ms) _ h in
      let value = object ms in
      let pair = both_fit (needed (codes "device") place value) (latency version value) (map_fit (λ p. calling p.0 p.1) (both (needed (codes "device") place value) (latency version value)) parts.1) in
      let two = free_latency version ms all pair.1 in
      no_float_within (codes "kind" ∷ codes "device" ∷ codes "latency" ∷ codes "prompt" ∷ []) ms all parts.0 (kind, (at_needed place (free_count 0 65535) (codes "device") ms all pair.0, (two.0, (two.1, tt))))

  either_kind : (a b c : Bool) → IsFit (if a then sleep (object ms) else (if b then trace version (object ms) else (if c then device version (object ms) else Misshapen))) → members_have_float ms ≡ false
  either_kind true b c h = free_sleep h
  either_kind false true c h = free_trace h
  either_kind false false true h = free_device h
  either_kind false false false h = absurd h

str_then : (o : Option Data) (s : List ℕ) → option_and_then as_str o ≡ Some s → (e : Data) → o ≡ Some e → has_float e ≡ false
str_then None s is e at = absurd (none-some e at)
str_then (Some d) s is e at = free_str e s (subst (λ x. as_str x ≡ Some s) (some_back d e at) is)

free_kind : (version : Version) (ms : Members) → AreOrdered ms → (o : Option (List ℕ)) → option_and_then as_str (get_member (codes "kind") ms) ≡ o → IsFit (binding_of version o (object ms)) → members_have_float ms ≡ false
free_kind version ms all None is h = absurd h
free_kind version ms all (Some kind) is h =
    either_kind version ms all (str_then (get_member (codes "kind") ms) kind is) (bytes_eq kind (codes "sleep")) (bytes_eq kind (codes "trace")) (bytes_eq kind (codes "device")) h

free_binding : (version : Version) → NoFloat (binding version)
free_binding version null all h = refl
free_binding version (boolean b) all h = refl
free_binding version (number n) all h = absurd h
free_binding version (string s) all h = refl
free_binding version (array ds) all h = absurd h
free_binding version (object ms) all h = free_kind version ms all (option_and_then as_str (get_member (codes "kind") ms)) refl h

-- ---- the scene

free_order : NoFloat order
free_order null all h = refl
free_order (boolean b) all h = refl
free_order (number n) all h = absurd h
free_order (string s) all h = refl
free_order (array ds) all h =
    let stacks = list place (array ds) in
    free_list place (free_count 0 65535) (array ds) all (limited_fit _ stacks (map_fit Listed (limited _ stacks) h))
free_order (object ms) all h = absurd h

free_quantum : (version : Version) (o : Option Data) → IsFit (quantum_from version o) → (e : Data) → o ≡ Some e → IsOrdered e → has_float e ≡ false
free_quantum version None h e is ordered = absurd (none-some e is)
free_quantum One (Some d) h e is ordered = absurd h
free_quantum Two (Some d) h e is ordered = free_count 1 1000 e ordered (subst (λ x. IsFit (count 1 1000 x)) (some_back d e is) h)

free_tape : NoFloat tape
free_tape = free_limited (list int) (free_list int free_int) _

free_instances : NoFloat instances
free_instances = free_limited (list instance) (free_list instance free_instance) _

free_calls : NoFloat calls
free_calls = free_limited (list call) (free_list call free_call) _

version_number : (d : Data) (o : Option ℕ) → option_and_then as_u64 (as_number d) ≡ o → (v : Version) → version_from o ≡ Some v → has_float d ≡ false
version_number d None whole_is v is = absurd (none-some v is)
version_number d (Some n) whole_is v is = free_u64 d n whole_is

version_then : (o : Option Data) (v : Version) → version_from (option_and_then as_u64 (option_and_then as_number o)) ≡ Some v → (e : Data) → o ≡ Some e → has_float e ≡ false
version_then None v is e at = absurd (none-some e at)
version_then (Some d) v is e at = subst (λ x. has_float x ≡ false) (some_back d e at) (version_number d (option_and_then as_u64 (as_number d)) refl v is)

free_parts : (version : Version) (ms : Members) → AreOrdered ms → version_in (object ms) ≡ Some version → IsFit (parts version (object ms)) → AllByRecursion (NoFloatAt ms) keys
free_parts version ms all is h =
    let value = object ms in
    let seventh = optional (codes "tapes") [] (list tape) value in
    let sixth = both (optional (codes "natives") [] (entries short (binding version)) value) seventh in
    let fifth = both (needed (codes "calls") calls value) sixth in
    let fourth = both (needed (codes "instances") instances value) fifth in
    let third = both (needed (codes "order") order value) fourth in
    let second = both (needed (codes "turns") turn value) third in
    let one = both_fit (quantum_from version (get_member (codes "quantum") ms)) second (map_fit plan_of (both (quantum_from version (get_member (codes "quantum") ms)) second) h) in
    let two = both_fit (needed (codes "turns") turn value) third one.1 in
    let three = both_fit (needed (codes "order") order value) fourth two.1 in
    let four = both_fit (needed (codes "instances") instances value) fifth three.1 in
    let five = both_fit (needed (codes "calls") calls value) sixth four.1 in
    let six = both_fit (optional (codes "natives") [] (entries short (binding version)) value) seventh five.1 in (
      version_then (get_member (codes "version") ms) version is,
      (
        at_needed instances free_instances (codes "instances") ms all four.0,
        (
          at_needed calls free_calls (codes "calls") ms all five.0,
          (
            at_needed order free_order (codes "order") ms all three.0,
            (
              at_needed turn (free_count 0 1000000) (codes "turns") ms all two.0,
              (
                at_optional (entries short (binding version)) (free_entries (binding version) (free_binding version) short) (codes "natives") [] ms all six.0,
                (
                  at_optional (list tape) (free_list tape free_tape) (codes "tapes") [] ms all six.1,
                  (λ e at. free_quantum version (get_member (codes "quantum") ms) one.0 e at (ordered_member (codes "quantum") e ms all at), tt),
                ),
              ),
            ),
          ),
        ),
      ),
    )

free_version : (o : Option Version) (ms : Members) → AreOrdered ms → version_in (object ms) ≡ o → IsFit (of_version o (object ms)) → AllByRecursion (NoFloatAt ms) keys
free_version None ms all is h = absurd h
free_version (Some version) ms all is h = free_parts version ms all is h

-- the value of a scene has no float
pub free_scene : (d : Data) → IsOrdered d → IsFit (scene d) → has_float d ≡ false
free_scene = free_closed keys (λ value. of_version (version_in value) value) (λ ms all h. free_version (version_in (object ms)) ms all refl h)
