use Rattle.std.proofs.Common.{◌≡◌, ℕ, List, length, map, vec_len, sym, subst, arith}
use Rattle.std.specs.List.{AllByRecursion}
use Rattle.run_laws.specs.TypedCode.{IsTyped}
use Rattle.pex_verify.specs.declared.judged.JudgedInstruction.{JudgedInstruction}
use Rattle.pex_verify.specs.Judged.{AreTypedIn, placed_in}
use Rattle.pex_verify.specs.Places.{bounds_of}
use Rattle.pex_verify.specs.JudgedCode.{instruction_of}
use Rattle.pex_verify.specs.Soundness.{IsSoundInstruction}
use Rattle.pex_verify.proofs.Lists.{each_grown, mapped_grown}
use Rattle.pex_verify.proofs.function.load_code.Goals as goal

pub loop-place-preserved : goal.loop-place-preserved
loop-place-preserved c =
    let IsSound : ℕ → JudgedInstruction → Type 0 = IsSoundInstruction (bounds_of c.args.scope.now.home.now) (vec_len c.args.scope.now.slots.now.list) (length c.args.code.now) in
    let before = c.loop-place.invariant in
    let old = c.loop-place.loaded in
    let last : length old.items ≡ c.loop-place.place = omega (arith, before.0) in
    let here : IsSound (length old.items) c.in-Ok.found = subst (λ (n : ℕ). IsSound n c.in-Ok.found) (sym last) c.in-Ok.ensures.sound in
    let grown : AreTypedIn c.args.scope.now c.push_reserved.new.self.items = λ final.
    subst (λ (xs : List JudgedInstruction). AllByRecursion (IsTyped (placed_in c.args.scope.now final)) (map (instruction_of final.outline) xs)) (sym c.push_reserved.ensures.items) (mapped_grown (IsTyped (placed_in c.args.scope.now final)) (instruction_of final.outline) old.items c.in-Ok.found (before.1.1.1 final) (c.in-Ok.ensures.typed final)) in
    (omega (arith, before.0, c.push_reserved.ensures.len), (omega (arith, before.1.0, c.push_reserved.ensures.capacity), (each_grown IsSound old.items c.push_reserved.new.self.items c.in-Ok.found c.push_reserved.ensures.items before.1.1.0 here, grown)))
