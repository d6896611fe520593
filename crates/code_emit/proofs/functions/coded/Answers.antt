use Rattle.std.proofs.Common.{ℕ, List, ◌≡◌, ◌++◌, length, map, take, drop, Option, sym, ap, subst, ◌∙◌, arith, rules}
use Rattle.std.specs.List.{AllByRecursion}
use Rattle.std.proofs.lemmas.List.{take-append-drop}
use Rattle.core_tree.specs.declared.core_type.CoreType.{CoreType}
use Rattle.code_lower.specs.declared.place.Coded.{Coded}
use Rattle.pex_values.specs.Plain.{plain_instruction}
use Rattle.pex_values.specs.Shape.{ArePair}
use Rattle.code_emit.specs.Spelled.{Each, SpellsInstruction, SpellsSlots}
use Rattle.code_emit.proofs.Goes.{more, goes_further}
use Rattle.code_emit.proofs.Later.{reference_later, pairs_later, taken_pairs, dropped_pairs}
use Rattle.code_emit.proofs.Spelling.{reads_on, type_on, slots_on}
use Rattle.code_emit.proofs.functions.coded.Goals as goal

pub returns-clause-function : goal.returns-clause-function
returns-clause-function c =
    let n = length c.code.new.strings.strings in
    let third = more c.in_ok-doc.ensures.goes in
    let fourth = more c.in_ok-slots.ensures.goes in
    let last = more c.in_ok-code.ensures.goes in
    let there : AllByRecursion (ArePair n) c.deref-4.result.now = rw c.deref-4.ensures.value (pairs_later (length c.slots.new.strings.strings) n last c.in_ok-slots.slots.items c.in_ok-slots.ensures.slots) in
    record {
      result = reference_later (length c.numbered.new.self.strings) n (omega arith) c.in_ok-result.result c.in_ok-result.ensures.place;
      doc = reference_later (length c.text.new.self.strings) n (omega arith) c.in_ok-doc.doc c.in_ok-doc.ensures.place;
      flags = c.flag_bits.ensures.within;
      bits = c.function_bits.ensures.within;
      parameters = taken_pairs n _ c.deref-4.result.now _ c.in_ok-parameters.ensures.parameters there;
      locals = dropped_pairs n _ c.deref-4.result.now _ c.in_ok-parameters.ensures.locals there;
      code = c.in_ok-code.ensures.code;
    }

whole : (slots parameters locals : List (ℕ × ℕ)) (n : ℕ) → parameters ≡ take n slots → locals ≡ drop n slots → parameters ++ locals ≡ slots
whole slots parameters locals n first last = cc (first, last, take-append-drop n slots)

pub returns-clause-spelled : goal.returns-clause-spelled
returns-clause-spelled c =
    let last = c.in_ok-code.ensures.goes in
    let fourth = goes_further _ _ _ c.in_ok-slots.ensures.goes last in
    let third = goes_further _ _ _ c.in_ok-doc.ensures.goes fourth in
    let lowered = c.args.lowered.now in
    let code = c.in_ok-code.code.items in
    let parts : c.in_ok-parameters.parameters.items ++ c.in_ok-parameters.locals.items ≡ c.in_ok-slots.slots.items = whole c.deref-4.result.now _ _ _ c.in_ok-parameters.ensures.parameters c.in_ok-parameters.ensures.locals ∙ c.deref-4.ensures.value in
    let Slots : List (ℕ × ℕ) → List (Option CoreType) → Type 0 = λ ss ks. SpellsSlots c.code.new.strings 0 ss ks in
    let Code : List (ℕ × ℕ) → List (Coded × ℕ) → Type 0 = λ ss cs. Each (SpellsInstruction (record { table = c.code.new.strings; slots = ss })) (map plain_instruction code) (map (λ i. i.0) cs) in
    record {
      result = type_on _ _ third c.in_ok-result.result c.args.of.now.result c.in_ok-result.ensures.named;
      doc = reads_on _ _ fourth c.in_ok-doc.doc _ c.in_ok-doc.ensures.named;
      flags = c.flag_bits.ensures.value;
      bits = c.function_bits.ensures.value;
      parameters = c.in_ok-parameters.ensures.count ∙ search rules;
      slots = subst (λ (ss : List (ℕ × ℕ)). Slots ss lowered.kinds.items) (sym parts) (slots_on _ _ last 0 c.in_ok-slots.slots.items lowered.kinds.items (rw c.deref.ensures.value at c.in_ok-slots.ensures.spelled));
      code = subst (λ (ss : List (ℕ × ℕ)). Code ss lowered.code.items) (c.deref-2.ensures.value ∙ sym parts) (subst (λ (cs : List (Coded × ℕ)). Code c.deref-2.result.now cs) c.deref-3.ensures.value c.in_ok-code.ensures.spelled);
    }
