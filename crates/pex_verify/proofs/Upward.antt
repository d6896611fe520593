-- Scripts upward are objects upward.
use Rattle.std.proofs.Common.{◌≡◌, ℕ, zero, suc, ◌<◌, ◌==◌, List, [], ◌∷◌, length, Option, None, Some, refl, sym, ap, ◌∙◌, arith}
use Rattle.std.specs.Prelude.{slice_get}
use Rattle.std.specs.List.{list_any}
use Rattle.std.specs.Option.{option_and_then}
use Rattle.std.proofs.lemmas.Option.{none-some}
use Rattle.core_tree.specs.Outlines.{ScriptShape}
use Rattle.script_meaning.specs.Values.{upward, lineage, parent_in, is_child}
use Rattle.papy_base.specs.Lineage as objects
use Rattle.papy_base.specs.Lineage.{AreRooted, stands_below, parent_of}

module _ (outline : List ScriptShape) (parents : List (Option ℕ)) (count : length outline ≡ length parents) (same : (script : ℕ) → parent_in (slice_get outline script) ≡ parent_of parents script) where
  same_upward : (left : ℕ) (script : Option ℕ) → upward left outline script ≡ objects.upward left parents script
  unfolding objects.upward
  same_upward zero script = refl
  same_upward (suc left) None = refl
  same_upward (suc left) (Some script) =
      ap (λ l. script ∷ l) (ap (upward left outline) (same script) ∙ same_upward left (parent_of parents script))

  pub same_lineage : (script : Option ℕ) → lineage outline script ≡ objects.lineage parents script
  same_lineage script = ap (λ n. upward n outline script) count ∙ same_upward (length parents) script

  pub same_child : (script above : ℕ) → is_child outline script above ≡ stands_below parents script above
  same_child script above = ap (list_any (λ other. other == above)) (same_lineage (Some script))

  within : (xs : List (Option ℕ)) (place item : ℕ) → option_and_then (λ parent. parent) (slice_get xs place) ≡ Some item → place < length xs
  within [] place item e = absurd (none-some item e)
  within (x ∷ xs) zero item e = omega arith
  within (x ∷ xs) (suc place) item e = let l = within xs place item e in omega arith

  pub rooted_from_objects : AreRooted parents → (script parent : ℕ) → parent_in (slice_get outline script) ≡ Some parent → lineage outline (Some script) ≡ script ∷ lineage outline (Some parent)
  rooted_from_objects rooted script parent e =
      let above : parent_of parents script ≡ Some parent = sym (same script) ∙ e in
      same_lineage (Some script) ∙ rooted script (within parents script parent above) ∙ ap (λ o. script ∷ objects.lineage parents o) above ∙ ap (λ l. script ∷ l) (sym (same_lineage (Some parent)))
