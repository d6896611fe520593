-- The parts of properties in files, and in the prelude, which has no properties.
use Rattle.std.proofs.Common.{◌≡◌, ℕ, ◌<◌, List, [], ◌∷◌, length, get_or, map, Option, Some, None, is_some, All, zero, suc, refl, sym, subst, ◌∙◌, arith}
use Rattle.std.specs.List.{AllByRecursion}
use Rattle.std.specs.Option.{option_map}
use Rattle.pex_set.specs.Plain.{HasNoProperties}
use Rattle.pex_values.specs.Plain.{plain_object, plain_property, plain_function}
use Rattle.pex_values.specs.Shape.{IsShapedObject, IsShapedProperty}
use Rattle.pex_values.specs.declared.values.Pex.{Pex}
use Rattle.pex_values.specs.declared.values.PexFunction.{PexFunction}
use Rattle.pex_values.specs.declared.values.PexObject.{PexObject}
use Rattle.pex_values.specs.declared.values.PexProperty.{PexProperty}
use Rattle.pex_verify.specs.Files.{IsFile}
use Rattle.pex_verify.specs.Sources.{HasParts, HaveParts}

-- what holds of each item of a list by what holds of its plain form
each_of : {X Y : Type 0} (P : Y → Type 0) (Q : X → Type 0) (f : X → Y) → ((x : X) → P (f x) → Q x) → (xs : List X) → AllByRecursion P (map f xs) → (k : ℕ) (d : X) → k < length xs → Q (get_or xs k d)
each_of P Q f one [] all k d h = absurd (omega (arith, h))
each_of P Q f one (x ∷ xs) all zero d h = one x all.0
each_of P Q f one (x ∷ xs) all (suc k) d h = each_of P Q f one xs all.1 k d (omega (arith, h))

is_some-map : (o : Option PexFunction) → is_some o ≡ is_some (option_map plain_function o)
is_some-map None = refl
is_some-map (Some f) = refl

shaped_parts : (strings : ℕ) (p : PexProperty) → IsShapedProperty strings (plain_property p) → HasParts p
shaped_parts strings p shaped =
    record { variable = shaped.has_variable; read = is_some-map p.read ∙ shaped.has_read; write = is_some-map p.write ∙ shaped.has_write }

object_parts : (strings : ℕ) (o : PexObject) → IsShapedObject strings (plain_object o) → All HasParts o.properties.items
object_parts strings o shaped =
    each_of (IsShapedProperty strings) HasParts plain_property (shaped_parts strings) o.properties.items shaped.properties

pub file_parts : (v : Pex) → IsFile v → HaveParts v
file_parts v file =
    each_of (IsShapedObject (length v.strings.items)) (λ (o : PexObject). All HasParts o.properties.items) plain_object (object_parts (length v.strings.items)) v.objects.items file.shaped.objects

pub plain_parts : (v : Pex) → All HasNoProperties v.objects.items → HaveParts v
plain_parts v none = λ k o within. subst (λ (l : List PexProperty). All HasParts l) (sym (none k o within)) (λ j p h. absurd (omega (arith, h)))

pub files_parts : (files : List Pex) → All IsFile files → All HaveParts files
files_parts files each = λ k v within. file_parts (get_or files k v) (each k v within)
