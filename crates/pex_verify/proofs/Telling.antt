-- What the scripts of a set that was verified offer, by its outline and in every state.
use Rattle.std.proofs.Common.{◌≡◌, ℕ, ◌<◌, ◌≤◌, ◌==◌, Bool, true, false, cond, List, [], ◌∷◌, length, map, Option, refl, sym, ap, ◌∙◌, ⊎_elim, arith}
use Rattle.std.specs.Prelude.{slice_get}
use Rattle.std.specs.Option.{option_map}
use Rattle.std.specs.declared.alloc.Global.{Global}
use Rattle.std.specs.declared.vec.Vec.{Vec}
use Rattle.std.proofs.lemmas.Bool.{cases_lt}
use Rattle.std.proofs.lemmas.Option.{slice_get-map, slice_get_past}
use Rattle.std.proofs.lemmas.Simd.{map-map}
use Rattle.core_tree.specs.Outlines.{ScriptShape, script_shape}
use Rattle.papy_base.specs.declared.name.Name.{Name}
use Rattle.code_meaning.specs.Code.{Script, State}
use Rattle.code_meaning.specs.LookUp.{states_in}
use Rattle.script_meaning.specs.Requests.{functions_in}
use Rattle.pex_verify.specs.declared.judged.JudgedFunction.{JudgedFunction}
use Rattle.pex_verify.specs.JudgedCode.{function_of, outline_of, script_of, scripts_of}
use Rattle.pex_verify.specs.Offering.{KeepsTypes, TellsFunctions, empty_functions, shape_of}
use Rattle.pex_verify.specs.Outlining.{functions_without_state, loaded_shape}
use Rattle.pex_verify.specs.Sets.{JudgedSet}
use Rattle.pex_verify.specs.Whole.{IsJudgedSet}
use Rattle.pex_verify.proofs.Context.{objects, tables, views}
use Rattle.pex_verify.proofs.EmptyStates.{no_bytes_test}
use Rattle.pex_verify.proofs.Facts.{outline_count, scripts_count}
use Rattle.pex_verify.proofs.Methods.{replaces_whole}
use Rattle.pex_verify.proofs.Offered.{keeps_types}
use Rattle.pex_verify.proofs.Viewed.{at_number, views_outlined, views_viewed}
use Rattle.pex_verify.proofs.Written.{plain_state}

-- ---- the functions of the first empty state
one_or_rest : (outline : List ScriptShape) (b : Bool) (own rest : List JudgedFunction) (more : List State) → map loaded_shape rest ≡ map shape_of (empty_functions more)
    → map loaded_shape (cond b own rest) ≡ map shape_of (cond b (map (function_of outline) own) (empty_functions more))
one_or_rest outline true own rest more h = sym (map-map shape_of (function_of outline) own)
one_or_rest outline false own rest more h = h

same_functions : (outline : List ScriptShape) (states : List (Name × Vec JudgedFunction Global)) → map loaded_shape (functions_without_state states) ≡ map shape_of (empty_functions (map (plain_state outline) states))
same_functions outline [] = refl
same_functions outline (state ∷ rest) =
    one_or_rest outline (length state.0 == 0) state.1.items (functions_without_state rest) (map (plain_state outline) rest) (same_functions outline rest)
    ∙ ap (λ b. map shape_of (cond b (map (function_of outline) state.1.items) (empty_functions (map (plain_state outline) rest)))) (sym (no_bytes_test state.0))

module _ {set : JudgedSet} (whole : IsJudgedSet set) where
  tells_within : (n : ℕ) → n < length (objects whole) → functions_in (slice_get (outline_of set) n) ≡ map shape_of (empty_functions (states_in (slice_get (scripts_of set) n)))
  tells_within n within =
      let at = at_number whole n within in
      ap functions_in (slice_get-map script_shape set.outline n ∙ ap (option_map script_shape) at.shape_at)
      ∙ at.is.object.loaded.shape.functions
      ∙ same_functions (outline_of set) at.script.states.items
      ∙ ap (λ (s : Option Script). map shape_of (empty_functions (states_in s))) (sym (slice_get-map (script_of (outline_of set)) set.scripts n ∙ ap (option_map (script_of (outline_of set))) at.script_at))

  tells_past : (n : ℕ) → length (objects whole) ≤ n → functions_in (slice_get (outline_of set) n) ≡ map shape_of (empty_functions (states_in (slice_get (scripts_of set) n)))
  tells_past n past =
      ap functions_in (slice_get_past (outline_of set) n (omega (arith, outline_count whole)))
      ∙ ap (λ (s : Option Script). map shape_of (empty_functions (states_in s))) (sym (slice_get_past (scripts_of set) n (omega (arith, scripts_count whole))))

  pub tells_functions : TellsFunctions (outline_of set) (scripts_of set)
  tells_functions n = ⊎_elim (tells_within n) (tells_past n) (cases_lt n (length (objects whole)))

  pub keeps_all_types : KeepsTypes (outline_of set) (scripts_of set)
  keeps_all_types =
      keeps_types (tables whole).types whole.judged.names (outline_of set) (scripts_of set) (views whole) (views_viewed whole) (replaces_whole whole) (views_outlined whole)
