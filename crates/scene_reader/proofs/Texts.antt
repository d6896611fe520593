-- Texts that have a JSON value or none, and values with another version.
use Rattle.std.proofs.Common.{ℕ, ◌≡◌, ◌≤◌, ◌<◌, Bool, true, false, List, length, Option, Some, None, Ordering, Less, Equal, Greater, refl, sym, ap, subst, ◌∙◌, arith}
use Rattle.std.specs.Prelude.{codes, nat_lt}
use Rattle.std.specs.Ordering.{match_ordering}
use Rattle.std.specs.Str.{IsUtf8, is_utf8}
use Rattle.std.proofs.lemmas.Bool.{cond-false, cond-true, lt-ltb}
use Rattle.std.proofs.lemmas.Option.{none-some}
use Rattle.std.proofs.lemmas.Str.{IsUtf8-from_is_utf8, is_utf8-from_IsUtf8}
use Rattle.serde_json.specs.Data.{Data, null, boolean, number, string, array, object, Members, no_members, member, put, depth, members_depth, unsigned}
use Rattle.serde_json.specs.Read.{max_depth, read}
use Rattle.serde_json.proofs.Nesting.{depth-read}
use Rattle.scene_reader.specs.declared.fault.ReadFault.{ReadFault}
use Rattle.scene_reader.specs.declared.fault.ReadFault.TheVariants as reads
use Rattle.scene_reader.specs.declared.fault.SceneRule.{SceneRule}
use Rattle.scene_reader.specs.declared.fault.SceneRule.TheVariants.{NotJson, Limit}
use Rattle.scene_reader.specs.declared.fault.SceneFault.TheVariants as faults
use Rattle.scene_reader.specs.SceneText.{IsFaultByRule, IsTextFault, json_in, json_rule, text_fault, text_rule, with_version_2}

pub json_in-read : (bytes : List ℕ) (value : Data) → IsUtf8 bytes → read bytes ≡ Some value → json_in bytes ≡ Some value
json_in-read bytes value text is = cond-true (is_utf8 bytes) (read bytes) None (is_utf8-from_IsUtf8 bytes text) ∙ is

no_json_by : (bytes : List ℕ) (b : Bool) → is_utf8 bytes ≡ b → (IsUtf8 bytes → read bytes ≡ None) → json_in bytes ≡ None
no_json_by bytes true is h = cond-true (is_utf8 bytes) (read bytes) None is ∙ h (IsUtf8-from_is_utf8 bytes is)
no_json_by bytes false is h = cond-false (is_utf8 bytes) (read bytes) None is

pub json_in-none : (bytes : List ℕ) → (IsUtf8 bytes → read bytes ≡ None) → json_in bytes ≡ None
json_in-none bytes h = no_json_by bytes (is_utf8 bytes) refl h

-- the rule of a text that isn't too large is that of its value
pub text_rule-small : (bytes : List ℕ) (o : Option Data) → nat_lt 16777216 (length bytes) ≡ false → json_in bytes ≡ o → text_rule bytes ≡ json_rule o
text_rule-small bytes o small is = cond-false (nat_lt 16777216 (length bytes)) (Some Limit) (json_rule (json_in bytes)) small ∙ ap json_rule is

pub text_rule-large : (bytes : List ℕ) → 16777216 < length bytes → text_rule bytes ≡ Some Limit
text_rule-large bytes large = cond-true (nat_lt 16777216 (length bytes)) (Some Limit) (json_rule (json_in bytes)) (lt-ltb 16777216 (length bytes) large)

-- ---- depth

by_order : (o : Ordering) (a b c : Members) (n : ℕ) → members_depth a ≤ n → members_depth b ≤ n → members_depth c ≤ n → members_depth (match_ordering o a b c) ≤ n
by_order Less a b c n p q r = p
by_order Equal a b c n p q r = q
by_order Greater a b c n p q r = r

members_depth-put : (k : List ℕ) (d : Data) (ms : Members) (n : ℕ) → depth d ≤ n → members_depth ms ≤ n → members_depth (put k d ms) ≤ n
members_depth-put k d no_members n p q = omega arith
members_depth-put k d (member l e ms) n p q =
    by_order _ (member k d (member l e ms)) (member l d ms) (member l e (put k d ms)) n (omega arith) (omega arith) (omega (arith, members_depth-put k d ms n p (omega arith)))

pub depth-with_version_2 : (d : Data) (n : ℕ) → depth d ≤ n → depth (with_version_2 d) ≤ n
depth-with_version_2 null n h = h
depth-with_version_2 (boolean b) n h = h
depth-with_version_2 (number x) n h = h
depth-with_version_2 (string s) n h = h
depth-with_version_2 (array ds) n h = h
depth-with_version_2 (object ms) n h =
    let put_is : members_depth (put (codes "version") (number (unsigned 2)) ms) ≤ members_depth ms = members_depth-put (codes "version") (number (unsigned 2)) ms (members_depth ms) (omega arith) (omega arith) in
    omega (arith, h, put_is)

depth_by : (bytes : List ℕ) (value : Data) (b : Bool) → is_utf8 bytes ≡ b → json_in bytes ≡ Some value → depth (with_version_2 value) ≤ max_depth
depth_by bytes value true e is =
    depth-with_version_2 value max_depth (depth-read bytes value (sym (cond-true (is_utf8 bytes) (read bytes) None e) ∙ is))
depth_by bytes value false e is =
    absurd (none-some value (sym (cond-false (is_utf8 bytes) (read bytes) None e) ∙ is))

-- what a text reads as nests no deeper than a text may
pub depth-json_in : (bytes : List ℕ) (value : Data) → json_in bytes ≡ Some value → depth (with_version_2 value) ≤ max_depth
depth-json_in bytes value is = depth_by bytes value (is_utf8 bytes) refl is

-- ---- faults

memory_always : (o : Option SceneRule) → IsFaultByRule o faults.OutOfMemory
memory_always None = refl
memory_always (Some rule) = tt

-- the fault of a text that has no JSON value, or for which there was no memory
pub refused_text : (bytes : List ℕ) (e : ReadFault) → nat_lt 16777216 (length bytes) ≡ false → (e ≡ reads.Invalid → json_in bytes ≡ None) → IsTextFault bytes (text_fault e)
refused_text bytes reads.Invalid small h = subst (λ o. IsFaultByRule o (faults.Broken NotJson)) (sym (text_rule-small bytes None small (h refl))) refl
refused_text bytes reads.OutOfMemory small h = memory_always (text_rule bytes)
