-- A value with `version` 2 is the scene that the value is.
use Rattle.std.proofs.Common.{ℕ, ◌≡◌, Bool, true, false, List, [], ◌∷◌, Option, Some, None, option_and_then, bytes_eq, if◌then◌else◌, refl, ap, ◌∙◌}
use Rattle.std.specs.Prelude.{codes}
use Rattle.serde_json.specs.Data.{unsigned, Data, null, boolean, number, string, array, object, Members, no_members, member, put}
use Rattle.serde_json.specs.Find.{as_object, as_str, get, get_member}
use Rattle.serde_json.proofs.Views.{get_member-put, get_member-put_other}
use Rattle.scene_reader.specs.Reading.{Reading, Misshapen, Excessive, Fits, both, each_member, entries, has_only, have_only, list, members_in, needed, reading_map, there, there_or}
use Rattle.scene_reader.specs.Plan.{ScenePlan}
use Rattle.scene_reader.specs.SceneOf.{binding, binding_of, calls, calling, device, instances, keys, latency, latency_from, of_version, order, parts, place, plan_of, prompt_from, quantum_from, scene, short, sleep, tape, trace, tracing, turn, version_in}
use Rattle.scene_reader.specs.SceneText.{with_version_2}
use Rattle.scene_reader.specs.declared.parts.Version.{Version}
use Rattle.scene_reader.specs.declared.parts.Version.TheVariants.{One, Two}
use Rattle.scene_reader.proofs.KeyOrder.{only_put, other_key}
use Rattle.scene_reader.proofs.NoFloat.{IsFit, both_fit, map_fit, only_fit}

-- ---- what fits in version 1 is the same in version 2

abbrev IsKept : {T : Type 0} → Reading T → Reading T → Type 0
IsKept r s = IsFit r → s ≡ r

kept_map : {A B : Type 0} (f : A → B) (r s : Reading A) → IsKept r s → IsKept (reading_map f r) (reading_map f s)
kept_map f r s k h = ap (reading_map f) (k (map_fit f r h))

kept_both : {A B : Type 0} (r r2 : Reading A) (s s2 : Reading B) → IsKept r r2 → IsKept s s2 → IsKept (both r s) (both r2 s2)
kept_both r r2 s s2 k l h = let parts = both_fit r s h in rw (k parts.0, l parts.1) refl

kept_only : {T : Type 0} (b : Bool) (r s : Reading T) → IsKept r s → IsKept (if b then r else Misshapen) (if b then s else Misshapen)
kept_only true r s k h = k h
kept_only false r s k h = refl

kept_prompt : (o : Option Data) → IsKept (prompt_from One o) (prompt_from Two o)
kept_prompt None h = refl
kept_prompt (Some d) h = absurd h

latency_prompt : (o : Option Data) (p : Reading Bool) → IsFit (latency_from o p) → IsFit p
latency_prompt o Misshapen h = h
latency_prompt o Excessive h = h
latency_prompt o (Fits b) h = tt

kept_latency : (d : Data) → IsKept (latency One d) (latency Two d)
kept_latency d h =
    let latest = get (codes "latency") d in
    let prompt = get (codes "prompt") d in
    ap (latency_from latest) (kept_prompt prompt (latency_prompt latest (prompt_from One prompt) h))

kept_trace : (d : Data) → IsKept (trace One d) (trace Two d)
kept_trace d =
    kept_only (has_only (codes "kind" ∷ codes "latency" ∷ codes "prompt" ∷ []) (as_object d)) (reading_map tracing (latency One d)) (reading_map tracing (latency Two d)) (kept_map tracing (latency One d) (latency Two d) (kept_latency d))

kept_device : (d : Data) → IsKept (device One d) (device Two d)
kept_device d =
    let number_of = needed (codes "device") place d in
    kept_only (has_only (codes "kind" ∷ codes "device" ∷ codes "latency" ∷ codes "prompt" ∷ []) (as_object d)) _ _
    (kept_map (λ p. calling p.0 p.1) (both number_of (latency One d)) (both number_of (latency Two d)) (kept_both number_of number_of (latency One d) (latency Two d) (λ _. refl) (kept_latency d)))

kept_kind : (a b c : Bool) (d : Data) → IsKept (if a then sleep d else (if b then trace One d else (if c then device One d else Misshapen))) (if a then sleep d else (if b then trace Two d else (if c then device Two d else Misshapen)))
kept_kind true b c d h = refl
kept_kind false true c d h = kept_trace d h
kept_kind false false true d h = kept_device d h
kept_kind false false false d h = refl

kept_binding_of : (o : Option (List ℕ)) (d : Data) → IsKept (binding_of One o d) (binding_of Two o d)
kept_binding_of None d h = refl
kept_binding_of (Some kind) d h = kept_kind (bytes_eq kind (codes "sleep")) (bytes_eq kind (codes "trace")) (bytes_eq kind (codes "device")) d h

kept_binding : (d : Data) → IsKept (binding One d) (binding Two d)
kept_binding d h = kept_binding_of (option_and_then as_str (get (codes "kind") d)) d h

kept_members : (ms : Members) → IsKept (each_member short (binding One) ms) (each_member short (binding Two) ms)
kept_members no_members h = refl
kept_members (member k d ms) h =
    let rest = each_member short (binding One) ms in
    let rest_2 = each_member short (binding Two) ms in
    kept_map (λ p. p.0 ∷ p.1) (both (both (short k) (binding One d)) rest) (both (both (short k) (binding Two d)) rest_2)
    (kept_both (both (short k) (binding One d)) (both (short k) (binding Two d)) rest rest_2 (kept_both (short k) (short k) (binding One d) (binding Two d) (λ _. refl) (kept_binding d)) (kept_members ms)) h

kept_within : (o : Option Members) → IsKept (members_in short (binding One) o) (members_in short (binding Two) o)
kept_within None h = refl
kept_within (Some ms) h = kept_members ms h

kept_natives : (o : Option Data) → IsKept (there_or [] (entries short (binding One)) o) (there_or [] (entries short (binding Two)) o)
kept_natives None h = refl
kept_natives (Some d) h = kept_within (as_object d) h

kept_quantum : (o : Option Data) → IsKept (quantum_from One o) (quantum_from Two o)
kept_quantum None h = refl
kept_quantum (Some d) h = absurd h

kept_parts : (d : Data) → IsKept (parts One d) (parts Two d)
kept_parts d =
    let q = get (codes "quantum") d in
    let n = get (codes "natives") d in
    let a = there turn (get (codes "turns") d) in
    let b = there order (get (codes "order") d) in
    let c = there instances (get (codes "instances") d) in
    let e = there calls (get (codes "calls") d) in
    let t = there_or [] (list tape) (get (codes "tapes") d) in
    let n_1 = there_or [] (entries short (binding One)) n in
    let n_2 = there_or [] (entries short (binding Two)) n in
    kept_map plan_of (both (quantum_from One q) (both a (both b (both c (both e (both n_1 t)))))) (both (quantum_from Two q) (both a (both b (both c (both e (both n_2 t))))))
    (kept_both (quantum_from One q) (quantum_from Two q) (both a (both b (both c (both e (both n_1 t))))) (both a (both b (both c (both e (both n_2 t))))) (kept_quantum q)
    (kept_both a a (both b (both c (both e (both n_1 t)))) (both b (both c (both e (both n_2 t)))) (λ _. refl)
    (kept_both b b (both c (both e (both n_1 t))) (both c (both e (both n_2 t))) (λ _. refl)
    (kept_both c c (both e (both n_1 t)) (both e (both n_2 t)) (λ _. refl)
    (kept_both e e (both n_1 t) (both n_2 t) (λ _. refl) (kept_both n_1 n_2 t t (kept_natives n) (λ _. refl)))))))

kept_version : (o : Option Version) (d : Data) → IsKept (of_version o d) (parts Two d)
kept_version None d h = absurd h
kept_version (Some One) d h = kept_parts d h
kept_version (Some Two) d h = refl

-- ---- what stands at the other keys

module _ (ms : Members) where
  abbrev upgraded : Members
  upgraded = put (codes "version") (number (unsigned 2)) ms

  stays : (key : List ℕ) → bytes_eq key (codes "version") ≡ false → get_member key upgraded ≡ get_member key ms
  stays key apart = get_member-put_other key (codes "version") (number (unsigned 2)) ms (other_key key (codes "version") apart)

  same_parts : parts Two (object upgraded) ≡ parts Two (object ms)
  same_parts =
      rw (stays (codes "quantum") refl, stays (codes "turns") refl, stays (codes "order") refl, stays (codes "instances") refl, stays (codes "calls") refl, stays (codes "natives") refl, stays (codes "tapes") refl) refl

  version_is : version_in (object upgraded) ≡ Some Two
  version_is = rw (get_member-put (codes "version") (number (unsigned 2)) ms) refl

  parts_are : of_version (version_in (object upgraded)) (object upgraded) ≡ parts Two (object ms)
  parts_are = ap (λ v. of_version v (object upgraded)) version_is ∙ same_parts

  same_only : (b c : Bool) (r s : Reading ScenePlan) → c ≡ true → s ≡ r → b ≡ true → (if c then s else Misshapen) ≡ (if b then r else Misshapen)
  same_only b c r s h is k = rw (h, k, is) refl

  same_object : IsFit (scene (object ms)) → scene (object upgraded) ≡ scene (object ms)
  same_object h =
      let first = only_fit (have_only keys ms) (of_version (version_in (object ms)) (object ms)) h in
      same_only (have_only keys ms) (have_only keys upgraded) (of_version (version_in (object ms)) (object ms)) (of_version (version_in (object upgraded)) (object upgraded))
      (only_put keys (codes "version") (number (unsigned 2)) ms refl first.0) (parts_are ∙ kept_version (version_in (object ms)) (object ms) first.1) first.0

-- a scene is the same with `version` 2
pub same_scene : (d : Data) → IsFit (scene d) → scene (with_version_2 d) ≡ scene d
same_scene null h = absurd h
same_scene (boolean b) h = absurd h
same_scene (number n) h = absurd h
same_scene (string s) h = absurd h
same_scene (array ds) h = absurd h
same_scene (object ms) h = same_object ms h
