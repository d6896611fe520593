-- The parts of a state in a row.
use Rattle.std.specs.Prelude.{Option, Some, None, IfSome, ⊤, ◌^◌}
use Rattle.std.proofs.Common.{◌≡◌, ℕ, List, ◌++◌, refl, sym, ap, ◌∙◌, arith}
use Rattle.machine_state.specs.Plain.{PlainInstance}
use Rattle.machine_state.specs.Ranges.{IsU16, IsU32, IsPairInRange, IsSleeperInRange, IsInstanceInRange, IsArrayInRange, IsDeviceInRange, IsStackInRange, IsInRange}
use Rattle.machine_state.specs.Savable.{firsts, IsNumbered, IsSavableInstance, IsSavableArray, IsSavableDevice, IsSavableStack, IsSavable}
use Rattle.pex_values.specs.Spelling.{two_bytes, four_bytes, list, pair}
use Rattle.stack_save.proofs.Lists.{flat3, flat4, flat5}
use Rattle.stack_save.specs.Parts.{HasTaken, IsPart, AreParts, AreAscending, AreLocks, AreThings}
use Rattle.stack_save.specs.Reading.{number_at, number_or_none_at, list_at, pair_at, owners_at, free_at, asleep_at, instance_at, array_at, device_at, stack_at, locks_at, things_at, state_at, state_of}
use Rattle.stack_save.specs.Spelling.{number_or_none, instance, array, device, stack, sleeper, PlainLocks, PlainThings, locks, things, state}

numbered_in_range : (n : Option ℕ) → IsNumbered n → IfSome n IsU16
numbered_in_range None p = tt
numbered_in_range (Some n) p = omega arith

five_rows : (r0 r1 r2 r3 r4 r5 a b c d e : List ℕ) → r0 ≡ a ++ r1 → r1 ≡ b ++ r2 → r2 ≡ c ++ r3 → r3 ≡ d ++ r4 → r4 ≡ e ++ r5 → r0 ≡ (a ++ b ++ c ++ d ++ e) ++ r5
five_rows r0 r1 r2 r3 r4 r5 a b c d e e0 e1 e2 e3 e4 =
    e0
    ∙ (ap (λ (x : List ℕ). a ++ x) (e1 ∙ ap (λ (x : List ℕ). b ++ x) (e2 ∙ ap (λ (x : List ℕ). c ++ x) (e3 ∙ ap (λ (x : List ℕ). d ++ x) e4)))
    ∙ sym (flat5 a b c d e r5))

-- the locks are taken as their lists are
pub locks_taken : (l : PlainLocks) (r0 r1 r2 r3 r4 : List ℕ)
    → HasTaken (AreAscending firsts IsPairInRange) (list pair) (owners_at r0) l.owners r0 r1
    → HasTaken (AreParts (2 ^ 16) (λ (x : ℕ × ℕ). ⊤) IsPairInRange) (list pair) (list_at pair_at r1) l.waiters r1 r2
    → HasTaken (AreAscending (λ (free : List ℕ). free) IsU16) (list two_bytes) (free_at r2) l.free r2 r3
    → HasTaken (AreAscending firsts IsSleeperInRange) (list sleeper) (asleep_at r3) l.asleep r3 r4
    → HasTaken AreLocks locks (locks_at r0) l r0 r4
unfolding locks locks_at
locks_taken l r0 r1 r2 r3 r4 a b c d = record {
  may = record { owners = a.may; waiters = b.may; free = c.may; asleep = d.may };
  found = rw (a.found, b.found, c.found, d.found) refl;
  bytes =
      a.bytes
      ∙ (ap (λ (x : List ℕ). list pair l.owners ++ x) (b.bytes ∙ ap (λ (x : List ℕ). list pair l.waiters ++ x) (c.bytes ∙ ap (λ (x : List ℕ). list two_bytes l.free ++ x) d.bytes))
      ∙ sym (flat4 (list pair l.owners) (list pair l.waiters) (list two_bytes l.free) (list sleeper l.asleep) r4));
}

-- and the arrays, the devices and the stacks as theirs are
pub things_taken : (h : PlainThings) (r0 r1 r2 r3 : List ℕ)
    → HasTaken (AreParts (2 ^ 16) IsSavableArray IsArrayInRange) (list array) (list_at array_at r0) h.arrays r0 r1
    → HasTaken (AreParts (2 ^ 16) IsSavableDevice IsDeviceInRange) (list device) (list_at device_at r1) h.devices r1 r2
    → HasTaken (AreParts (2 ^ 16) IsSavableStack IsStackInRange) (list stack) (list_at stack_at r2) h.stacks r2 r3
    → HasTaken AreThings things (things_at r0) h r0 r3
unfolding things things_at
things_taken h r0 r1 r2 r3 a b c = record {
  may = record { arrays = a.may; devices = b.may; stacks = c.may };
  found = rw (a.found, b.found, c.found) refl;
  bytes =
      a.bytes
      ∙ (ap (λ (x : List ℕ). list array h.arrays ++ x) (b.bytes ∙ ap (λ (x : List ℕ). list device h.devices ++ x) c.bytes)
      ∙ sym (flat3 (list array h.arrays) (list device h.devices) (list stack h.stacks) r3));
}

-- a state is taken as its parts are
pub row_taken : (turn : ℕ) (last : Option ℕ) (instances : List PlainInstance) (l : PlainLocks) (h : PlainThings) (r0 r1 r2 r3 r4 r5 : List ℕ)
    → HasTaken IsU32 four_bytes (number_at 4 r0) turn r0 r1
    → HasTaken IsNumbered number_or_none (number_or_none_at r1) last r1 r2
    → HasTaken (AreParts (2 ^ 16) IsSavableInstance IsInstanceInRange) (list instance) (list_at instance_at r2) instances r2 r3
    → HasTaken AreLocks locks (locks_at r3) l r3 r4
    → HasTaken AreThings things (things_at r4) h r4 r5
    → HasTaken (IsPart IsSavable IsInRange) state (state_at r0) (state_of turn last instances l h) r0 r5
unfolding state state_at
row_taken turn last instances l h r0 r1 r2 r3 r4 r5 a b c d e = record {
  may = record {
    savable = record {
      last = b.may;
      instances = c.may.count;
      each_instance = c.may.savable;
      owners = d.may.owners.fit.count;
      owners_ascend = d.may.owners.ascend;
      waiters = d.may.waiters.count;
      free = d.may.free.fit.count;
      free_ascend = d.may.free.ascend;
      asleep = d.may.asleep.fit.count;
      asleep_ascend = d.may.asleep.ascend;
      arrays = e.may.arrays.count;
      each_array = e.may.arrays.savable;
      devices = e.may.devices.count;
      each_device = e.may.devices.savable;
      stacks = e.may.stacks.count;
      each_stack = e.may.stacks.savable;
    };
    in_range = record {
      turn = a.may;
      last = numbered_in_range last b.may;
      instances = c.may.in_range;
      owners = d.may.owners.fit.in_range;
      waiters = d.may.waiters.in_range;
      free = d.may.free.fit.in_range;
      asleep = d.may.asleep.fit.in_range;
      arrays = e.may.arrays.in_range;
      devices = e.may.devices.in_range;
      stacks = e.may.stacks.in_range;
    };
  };
  found = rw (a.found, b.found, c.found, d.found, e.found) refl;
  bytes = five_rows r0 r1 r2 r3 r4 r5 (four_bytes turn) (number_or_none last) (list instance instances) (locks l) (things h) a.bytes b.bytes c.bytes d.bytes e.bytes;
}
