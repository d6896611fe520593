-- Casts in the terms of the definitions.
use Rattle.std.proofs.Common.{◌≡◌, ℕ, zero, suc, ◌<◌, ◌++◌, Bool, true, false, ◌&&◌, cond, List, [], ◌∷◌, map, length, Option, Some, None, refl, sym, ap, ◌∙◌, arith}
use Rattle.std.specs.Char.{digit_value}
use Rattle.std.specs.Prelude.{codes, ◌==◌, slice_get, ℤ, pos, negsuc, FitsSigned, int_le, nat_lt}
use Rattle.std.specs.Bool.{Decides}
use Rattle.std.specs.Int.{w32}
use Rattle.std.specs.List.{list_all, list_any}
use Rattle.std.specs.Option.{option_and_then, option_map}
use Rattle.std.specs.Str.Parse.{AllDigits}
use Rattle.std.proofs.lemmas.Bool.Decides.{Decides-and, Decides-at, Decides-ltb, nat_tests, not_from_Decides}
use Rattle.std.proofs.lemmas.List.{length-map}
use Rattle.std.proofs.lemmas.Option.{slice_get-map}
use Rattle.core_tree.specs.declared.outline.OutlineScript.{OutlineScript}
use Rattle.core_tree.specs.declared.scene.BoundInstance.{BoundInstance}
use Rattle.core_tree.specs.declared.scene.Scene.{Scene}
use Rattle.core_tree.specs.declared.value.Value.{Value}
use Rattle.core_tree.specs.declared.value.Value.TheVariants as values
use Rattle.core_tree.specs.Outlines.{name_in, parents_of, script_shape}
use Rattle.papy_base.specs.Decimal.{IsInt, int_value, without_minus}
use Rattle.papy_base.specs.Lineage as objects
use Rattle.papy_base.specs.Lineage.{parent_of, stands_below}
use Rattle.script_meaning.specs.Values as meant
use Rattle.script_meaning.specs.Values.{int_of_text, is_child, is_digit, is_int_text, is_of_script, parent_in, upward, written}
use Rattle.body_runner.specs.Casts.{plain_text, text_of_bound}
use Rattle.body_runner.specs.Sights.{titles_of}

-- ---- numbers of texts
digit_at : (c : ℕ) → Decides (is_digit c) (digit_value c < 10)
digit_at c = (λ e. grind (arith, nat_tests), λ h. grind (arith, nat_tests))

digits_at : (ds : List ℕ) → Decides (list_all is_digit ds) (AllDigits 10 ds)
digits_at [] = (λ e. tt, λ h. refl)
digits_at (c ∷ cs) = Decides-and (is_digit c) (list_all is_digit cs) (digit_at c) (digits_at cs)

fits_at : (v : ℤ) → Decides (int_le (negsuc 2147483647) v && int_le v (pos 2147483647)) (FitsSigned w32 v)
fits_at (pos n) =
    (λ e. record { sfits = grind (arith, nat_tests) }, λ h. let l = h.sfits in grind (arith, nat_tests))
fits_at (negsuc n) =
    (λ e. record { sfits = grind (arith, nat_tests) }, λ h. let l = h.sfits in grind (arith, nat_tests))

grouped : (x c d : Bool) → (x && c && d) ≡ (x && (c && d))
grouped true c d = refl
grouped false c d = refl

int_text_at : (text : List ℕ) → Decides (is_int_text text) (IsInt text)
int_text_at text =
    let some = nat_lt 0 (length (without_minus text)) in
    let digits = list_all is_digit (without_minus text) in
    let low = int_le (negsuc 2147483647) (int_value text) in
    let high = int_le (int_value text) (pos 2147483647) in
    Decides-at (is_int_text text) (some && digits && (low && high)) (grouped (some && digits) low high) (Decides-and (some && digits) (low && high) (Decides-and some digits (Decides-ltb 0 (length (without_minus text))) (digits_at (without_minus text))) (fits_at (int_value text)))

pub read_same : (text : List ℕ) (number : ℤ) → (IsInt text → number ≡ int_value text) → (¬ (IsInt text) → number ≡ pos 0) → number ≡ int_of_text text
read_same text number is other =
    elim (is_int_text text) as (λ t. is_int_text text ≡ t → number ≡ cond t (int_value text) (pos 0)) [
      | true ↦ λ e. is ((int_text_at text).0 e)
      | false ↦ λ e. other (not_from_Decides (is_int_text text) (int_text_at text) e)
    ] refl

-- ---- scripts upward
parent_by : (found : Option OutlineScript) → parent_in (option_map script_shape found) ≡ option_and_then (λ parent. parent) (option_map (λ (script : OutlineScript). script.parent) found)
parent_by None = refl
parent_by (Some script) = refl

parent_same : (scripts : List OutlineScript) (script : ℕ) → parent_in (slice_get (map script_shape scripts) script) ≡ parent_of (parents_of scripts) script
parent_same scripts script =
    ap parent_in (slice_get-map script_shape scripts script) ∙ (parent_by (slice_get scripts script) ∙ ap (option_and_then (λ parent. parent)) (sym (slice_get-map (λ (script : OutlineScript). script.parent) scripts script)))

upward_same : (scripts : List OutlineScript) (left : ℕ) (script : Option ℕ) → upward left (map script_shape scripts) script ≡ objects.upward left (parents_of scripts) script
unfolding objects.upward
upward_same scripts zero script = refl
upward_same scripts (suc left) None = refl
upward_same scripts (suc left) (Some script) =
    ap (λ l. script ∷ l) (ap (upward left (map script_shape scripts)) (parent_same scripts script) ∙ upward_same scripts left (parent_of (parents_of scripts) script))

child_same : (scripts : List OutlineScript) (child parent : ℕ) → is_child (map script_shape scripts) child parent ≡ stands_below (parents_of scripts) child parent
child_same scripts child parent =
    let count : length (map script_shape scripts) ≡ length (parents_of scripts) = length-map scripts script_shape ∙ sym (length-map scripts (λ (script : OutlineScript). script.parent)) in
    ap (list_any (λ script. script == parent)) (ap (λ n. upward n (map script_shape scripts) (Some child)) count ∙ upward_same scripts (length (parents_of scripts)) (Some child))

abbrev title_of : BoundInstance → ℕ × List ℕ
title_of instance = (instance.script, instance.name)

of_script_by : (scripts : List OutlineScript) (script own : ℕ) (found : Option BoundInstance) → option_map (λ (b : BoundInstance). b.script) found ≡ Some own → stands_below (parents_of scripts) own script ≡ is_of_script (map script_shape scripts) script (option_map title_of found)
of_script_by scripts script own None e = absurd (cc)
of_script_by scripts script own (Some b) e =
    let same : b.script ≡ own = cc in
    sym (child_same scripts own script) ∙ ap (λ n. is_child (map script_shape scripts) n script) (sym same)

pub of_script : (scripts : List OutlineScript) (scene : Scene) (script instance own : ℕ) → option_map (λ (b : BoundInstance). b.script) (slice_get scene.instances.items instance) ≡ Some own → stands_below (parents_of scripts) own script ≡ is_of_script (map script_shape scripts) script (slice_get (titles_of scene) instance)
of_script scripts scene script instance own e =
    of_script_by scripts script own (slice_get scene.instances.items instance) e ∙ ap (is_of_script (map script_shape scripts) script) (sym (slice_get-map title_of scene.instances.items instance))

of_none_by : (scripts : List OutlineScript) (script : ℕ) (found : Option BoundInstance) → ◌≡◌ {A = Option ℕ} (option_map (λ (b : BoundInstance). b.script) found) None → false ≡ is_of_script (map script_shape scripts) script (option_map title_of found)
of_none_by scripts script None e = refl
of_none_by scripts script (Some b) e = absurd (cc)

pub of_no_script : (scripts : List OutlineScript) (scene : Scene) (script instance : ℕ) → ◌≡◌ {A = Option ℕ} (option_map (λ (b : BoundInstance). b.script) (slice_get scene.instances.items instance)) None → false ≡ is_of_script (map script_shape scripts) script (slice_get (titles_of scene) instance)
of_no_script scripts scene script instance e =
    of_none_by scripts script (slice_get scene.instances.items instance) e ∙ ap (is_of_script (map script_shape scripts) script) (sym (slice_get-map title_of scene.instances.items instance))

-- ---- texts
name_by : (found : Option OutlineScript) → name_in found ≡ meant.name_in (option_map script_shape found)
name_by None = refl
name_by (Some script) = refl

name_same : (scripts : List OutlineScript) (script : ℕ) → name_in (slice_get scripts script) ≡ meant.script_name (map script_shape scripts) script
name_same scripts script = name_by (slice_get scripts script) ∙ ap meant.name_in (sym (slice_get-map script_shape scripts script))

bound_by : (scripts : List OutlineScript) (found : Option BoundInstance) → text_of_bound scripts found ≡ meant.instance_text (map script_shape scripts) (option_map title_of found)
bound_by scripts None = refl
bound_by scripts (Some b) = ap (λ name. 91 ∷ name ++ codes " <" ++ b.name ++ codes ">]") (name_same scripts b.script)

pub text_meant : (scripts : List OutlineScript) (scene : Scene) (value : Value) → plain_text scripts scene value ≡ written (map script_shape scripts) (titles_of scene) value
text_meant scripts scene values.NoneValue = refl
text_meant scripts scene (values.Int n) = refl
text_meant scripts scene (values.Bool b) = refl
text_meant scripts scene (values.Text t) = refl
text_meant scripts scene (values.Instance n) =
    bound_by scripts (slice_get scene.instances.items n) ∙ ap (meant.instance_text (map script_shape scripts)) (sym (slice_get-map title_of scene.instances.items n))
text_meant scripts scene (values.Array n) = refl
