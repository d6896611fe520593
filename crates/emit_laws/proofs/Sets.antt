-- The files of a set, one after another.
use Rattle.std.proofs.Common.{◌≡◌, ℕ, List, [], ◌∷◌, ◌++◌, map, length, drop, refl, sym, ap, subst, ◌∙◌}
use Rattle.std.specs.List.{flat_map}
use Rattle.std.proofs.lemmas.List.{map-append}
use Rattle.std.proofs.lemmas.Option.{get_or_from_slice_get}
use Rattle.core_tree.specs.declared.script.CoreScript.{CoreScript}
use Rattle.core_tree.specs.declared.script.CoreSet.{CoreSet}
use Rattle.core_tree.specs.Outlines.{script_outline}
use Rattle.core_tree.specs.Set as trees
use Rattle.pex_values.specs.Plain.{PlainObject, PlainPex}
use Rattle.pex_meaning.specs.Meant.{homes_in, outline_meant, script_meant, script_outlined, scripts_meant}
use Rattle.pex_meaning.specs.Names.{object_names, script_names, string_at}
use Rattle.pex_meaning.specs.Prelude.{prelude}
use Rattle.code_emit.specs.Spelled.{Each}
use Rattle.emit_laws.specs.Members.{ScriptMeans}
use Rattle.emit_laws.specs.Sets.{FileFits, FilesSpell, OutlinesFit, ScriptsMean, origin}
use Rattle.emit_laws.proofs.Outlines.{outline_read}
use Rattle.emit_laws.proofs.Scripts.{script_read}

-- ---- names
names_in : (set : CoreSet) (files : List PlainPex) (scripts : List CoreScript) → FilesSpell set files scripts → flat_map object_names files ≡ map (λ (script : CoreScript). script.name) scripts
names_in set [] [] spells = refl
names_in set [] (script ∷ scripts) spells = absurd spells
names_in set (file ∷ files) [] spells = absurd spells
names_in set (file ∷ files) (script ∷ scripts) spells =
    let named = get_or_from_slice_get file.strings spells.0.object.name script.name [] spells.0.spelled.name.there in
    ap (λ (l : List PlainObject). map (λ (object : PlainObject). string_at file.strings object.name) l ++ flat_map object_names files) spells.0.objects
    ∙ ap (λ (n : List ℕ). n ∷ flat_map object_names files) named
    ∙ ap (λ (l : List (List ℕ)). script.name ∷ l) (names_in set files scripts spells.1)

names_are : (set : CoreSet) (first more : List CoreScript) (files : List PlainPex) → set.scripts.items ≡ first ++ more → map (λ (script : CoreScript). script.name) first ≡ object_names prelude → FilesSpell set files more → script_names files ≡ map (λ (script : CoreScript). script.name) set.scripts.items
names_are set first more files all named spells =
    ap (λ (l : List (List ℕ)). object_names prelude ++ l) (names_in set files more spells)
    ∙ ap (λ (l : List (List ℕ)). l ++ map (λ (script : CoreScript). script.name) more) (sym named)
    ∙ sym (map-append (λ (script : CoreScript). script.name) first more)
    ∙ ap (λ (l : List CoreScript). map (λ (script : CoreScript). script.name) l) (sym all)

-- ---- scripts
files_read : (set : CoreSet) (names : List (List ℕ)) → names ≡ map (λ (script : CoreScript). script.name) set.scripts.items → (files : List PlainPex) (scripts : List CoreScript) → FilesSpell set files scripts → Each (FileFits set) files scripts → ScriptsMean set scripts (map script_meant (flat_map (homes_in names) files))
files_read set names e [] [] spells fits = tt
files_read set names e [] (script ∷ scripts) spells fits = absurd spells
files_read set names e (file ∷ files) [] spells fits = absurd spells
files_read set names e (file ∷ files) (script ∷ scripts) spells fits =
    let object = spells.0.object in
    let read = script_read (origin set script) file spells.0 (fits.0 object spells.0.objects) in
    let here = subst (λ (l : List (List ℕ)). ScriptMeans (origin set script) (trees.script_of script) (script_meant (record { scripts = l; file = file; object = object }))) (sym e) read in
    let others = files_read set names e files scripts spells.1 fits.1 in
    subst (λ (l : List PlainObject). ScriptsMean set (script ∷ scripts) (map script_meant (map (λ (o : PlainObject). record { scripts = names; file = file; object = o }) l ++ flat_map (homes_in names) files))) (sym spells.0.objects) (here, others)

pub set_read : (set : CoreSet) (first more : List CoreScript) (files : List PlainPex) → set.scripts.items ≡ first ++ more → map (λ (script : CoreScript). script.name) first ≡ object_names prelude → FilesSpell set files more → Each (FileFits set) files more → ScriptsMean set more (drop (length prelude.objects) (scripts_meant files))
set_read set first more files all named spells fits =
    files_read set (script_names files) (names_are set first more files all named spells) files more spells fits

-- ---- outlines
outlines_in : (set : CoreSet) (names : List (List ℕ)) → names ≡ map (λ (script : CoreScript). script.name) set.scripts.items → (files : List PlainPex) (scripts : List CoreScript) → FilesSpell set files scripts → Each (FileFits set) files scripts → OutlinesFit set scripts → map script_outlined (flat_map (homes_in names) files) ≡ map script_outline scripts
outlines_in set names e [] [] spells fits outlines = refl
outlines_in set names e [] (script ∷ scripts) spells fits outlines = absurd spells
outlines_in set names e (file ∷ files) [] spells fits outlines = absurd spells
outlines_in set names e (file ∷ files) (script ∷ scripts) spells fits outlines =
    let object = spells.0.object in
    let here = ap (λ (l : List (List ℕ)). script_outlined (record { scripts = l; file = file; object = object })) e ∙ outline_read (origin set script) file spells.0 (fits.0 object spells.0.objects) outlines.0 in
    let others = outlines_in set names e files scripts spells.1 fits.1 outlines.1 in
    ap (λ (l : List PlainObject). map script_outlined (map (λ (o : PlainObject). record { scripts = names; file = file; object = o }) l ++ flat_map (homes_in names) files)) spells.0.objects
    ∙ (λ j. here j ∷ others j)

pub outlines_read : (set : CoreSet) (first more : List CoreScript) (files : List PlainPex) → set.scripts.items ≡ first ++ more → map (λ (script : CoreScript). script.name) first ≡ object_names prelude → FilesSpell set files more → Each (FileFits set) files more → OutlinesFit set more → drop (length prelude.objects) (outline_meant files) ≡ map script_outline more
outlines_read set first more files all named spells fits outlines =
    outlines_in set (script_names files) (names_are set first more files all named spells) files more spells fits outlines
