use Rattle.std.proofs.Common.{◌≡◌, None, length, vec_len, map, arith, ap, sym, ◌∙◌}
use Rattle.std.specs.declared.alloc.Global.{Global}
use Rattle.std.specs.declared.vec.Vec.{Vec}
use Rattle.std.proofs.lemmas.List.{length-map}
use Rattle.pex_meaning.specs.Prelude.{prelude, members}
use Rattle.pex_values.specs.declared.values.PexObject.{PexObject}
use Rattle.pex_values.specs.Plain.{plain_named, plain_object}
use Rattle.pex_set.proofs.prelude.Prelude.new.Goals as goal

counted : (objects : Vec PexObject Global) → map plain_object objects.items ≡ prelude.objects → vec_len objects ≡ 6
counted objects made =
    let count : length objects.items ≡ 6 = sym (length-map objects.items plain_object) ∙ ap length made in
    omega (arith, count, objects.ok.0)

pub returns-clause-file : goal.returns-clause-file
returns-clause-file c =
    let strings : c.in_ok-strings.strings.items ≡ prelude.strings = c.in_ok-strings.ensures in
    let seen : c.as_slice-2.result.now ≡ prelude.strings = c.as_slice-2.ensures.value ∙ strings in
    let objects : map plain_object c.in_ok-objects.objects.items ≡ prelude.objects = rw seen at c.in_ok-objects.ensures.objects in
    λ k. record {
      minor = 2;
      time = 0;
      source = c.in_ok-try_from_bytes.ensures k;
      user = c.in_ok-try_from_bytes-2.ensures k;
      machine = c.in_ok-try_from_bytes-3.ensures k;
      strings = strings k;
      debug = None;
      user_flags = c.new.ensures.items k;
      objects = objects k;
    }

pub returns-clause-members : goal.returns-clause-members
returns-clause-members c =
    let seen : c.as_slice.result.now ≡ prelude.strings = c.as_slice.ensures.value ∙ c.in_ok-strings.ensures in
    let made : map plain_named c.in_ok-members.members.items ≡ members = rw seen at c.in_ok-members.ensures in
    made

pub returns-clause-objects : goal.returns-clause-objects
returns-clause-objects c =
    let seen : c.as_slice-2.result.now ≡ prelude.strings = c.as_slice-2.ensures.value ∙ c.in_ok-strings.ensures in
    let made : map plain_object c.in_ok-objects.objects.items ≡ prelude.objects = rw seen at c.in_ok-objects.ensures.objects in
    counted c.in_ok-objects.objects made
