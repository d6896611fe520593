-- A whole value fits where its parts do and its spelling isn't too long.
use Rattle.std.proofs.Common.{◌≡◌, ℕ, ◌≤◌, List, [], ◌∷◌, ◌++◌, length, arith}
use Rattle.std.specs.Prelude.{Result, Err, IsErrOf}
use Rattle.std.specs.List.{flat_map, AllByRecursion}
use Rattle.std.proofs.lemmas.List.{length-append}
use Rattle.pex_values.specs.Fit.{Fits, FitsObject, limit}
use Rattle.pex_values.specs.Plain.{PlainObject, PlainPex}
use Rattle.pex_values.specs.Spelling.{two_bytes, four_bytes, eight_bytes, string, list, flag, debug, heading, size_of, object, object_data, spelling}
use Rattle.pex_codec.specs.Writing.{Writes, FitsParts, HasSize}
use Rattle.pex_codec.specs.declared.faults.EncodeFault.{EncodeFault}
use Rattle.pex_codec.specs.declared.faults.EncodeFault.TheVariants.{TooManyItems, OutOfMemory}

data_within : (o : PlainObject) → length (object_data o) ≤ length (object o)
unfolding object
data_within o = omega (arith, length-append (two_bytes o.name ++ four_bytes (size_of o.size_form (length (object_data o)))) (object_data o))

sizes : (os : List PlainObject) → length (flat_map object os) ≤ limit → AllByRecursion FitsObject os → AllByRecursion HasSize os
sizes [] short each = tt
sizes (o ∷ os) short each =
    let both = length-append (object o) (flat_map object os) in
    ((each.0, omega (arith, data_within o)), sizes os (omega arith) each.1)

lists_of : (os : List PlainObject) → AllByRecursion HasSize os → AllByRecursion FitsObject os
lists_of [] each = tt
lists_of (o ∷ os) each = (each.0.0, lists_of os each.1)

objects_within : (v : PlainPex) → length (flat_map object v.objects) ≤ length (spelling v)
unfolding spelling
objects_within v =
    let front = heading v.minor ++ eight_bytes v.time ++ string v.source ++ string v.user ++ string v.machine ++ list string v.strings ++ debug v.debug ++ list flag v.user_flags in
    omega (arith, length-append front (list object v.objects), length-append (two_bytes (length v.objects)) (flat_map object v.objects))

pub parts_of : (v : PlainPex) → Fits v → FitsParts v
parts_of v fits = record {
  header = record { source = fits.source; user = fits.user; machine = fits.machine };
  tables = record { strings = (fits.strings, fits.each_string); debug = fits.debug; user_flags = fits.user_flags };
  objects = (fits.objects, sizes v.objects (omega (arith, objects_within v, fits.size)) fits.each_object);
}

pub whole_of : (v : PlainPex) → FitsParts v → length (spelling v) ≤ limit → Fits v
whole_of v parts short = record {
  source = parts.header.source;
  user = parts.header.user;
  machine = parts.header.machine;
  strings = parts.tables.strings.0;
  each_string = parts.tables.strings.1;
  debug = parts.tables.debug;
  user_flags = parts.tables.user_flags;
  objects = parts.objects.0;
  each_object = lists_of v.objects parts.objects.1;
  size = short;
}

-- a part that doesn't fit makes the whole not fit
pub refused : {T : Type 0} (U : Type 0) (fault e : EncodeFault) (r : Result T EncodeFault) (old new bytes : List ℕ) (Part Whole : Type 0)
    → r ≡ Err e → e ≡ fault → Writes {T = U} (Err fault) old new Part bytes → (Whole → Part) → IsErrOf r TooManyItems → ¬ Whole
refused U TooManyItems e r old new bytes Part Whole is same wrote part err = λ whole. wrote (part whole)
refused U OutOfMemory e r old new bytes Part Whole is same wrote part err = absurd cc
