-- Instructions by their forms.
use Rattle.std.proofs.Common.{◌≡◌, ℕ, Bool, true, false, List, [], ◌∷◌, map, Option, None, Some, refl, ap, ◌∙◌}
use Rattle.std.specs.Prelude.{slice_get, slice_index_or, unsigned_abs, IfSome, zero, suc}
use Rattle.std.specs.List.{AllByRecursion}
use Rattle.std.specs.Option.{unwrap_or}
use Rattle.std.proofs.lemmas.Option.{get_or_from_slice_get}
use Rattle.core_tree.specs.declared.core_type.CoreType.{CoreType}
use Rattle.pex_values.specs.declared.values.Datum.{Datum}
use Rattle.pex_values.specs.declared.values.Datum.TheVariants as datum
use Rattle.pex_values.specs.Plain.{PlainInstruction}
use Rattle.code_meaning.specs.Code.{Operand, Instruction}
use Rattle.code_meaning.specs.Code as op
use Rattle.pex_meaning.specs.Instructions.{Operands, arguments, at, four, instruction_meant, name_meant, number_at, number_meant, operand_meant, script_at, three, two}
use Rattle.pex_meaning.specs.Instructions as reading
use Rattle.pex_meaning.specs.Names.{first_named}
use Rattle.code_lower.specs.declared.place.Binary.{Binary}
use Rattle.code_lower.specs.declared.place.Binary.TheVariants as binary
use Rattle.code_lower.specs.declared.place.Coded.{Coded}
use Rattle.code_lower.specs.declared.place.Coded.TheVariants as coded
use Rattle.code_lower.specs.declared.place.Place.{Place}
use Rattle.code_lower.specs.declared.place.Search.{Search}
use Rattle.code_lower.specs.declared.place.Search.TheVariants as search_from
use Rattle.code_lower.specs.declared.place.Unary.{Unary}
use Rattle.code_lower.specs.declared.place.Unary.TheVariants as unary
use Rattle.code_lower.specs.Lowered.{binary_code, jump_code, meant, operand_of, search_code, unary_code}
use Rattle.code_emit.specs.Spelled.{Each, Scope, SpellsInstruction, SpellsOperand, SpellsPlace, SpellsWord, form_of}
use Rattle.code_emit.specs.Spelled as spelled
use Rattle.emit_laws.specs.Readable.{InstructionFits, PlaceFits, ScopeFits, scope_read}
use Rattle.emit_laws.proofs.Operands.{distinct_found, place_read}

-- what is said of each two items is said of those at one place
each_at : {A B : Type 0} (Says : A → B → Type 0) (d : A) (xs : List A) (ys : List B) → Each Says xs ys → (n : ℕ) → IfSome (slice_get ys n) (Says (slice_index_or xs n d))
each_at Says d [] [] are n = tt
each_at Says d [] (y ∷ ys) are n = absurd are
each_at Says d (x ∷ xs) [] are n = absurd are
each_at Says d (x ∷ xs) (y ∷ ys) are zero = are.0
each_at Says d (x ∷ xs) (y ∷ ys) are (suc n) = each_at Says d xs ys are.1 n

-- ---- opcodes
unary_form : (opcode : Unary) (x : Operands) → reading.form_of (spelled.unary_code opcode) x ≡ two (unary_code opcode) x
unary_form unary.Not x = refl
unary_form unary.INeg x = refl
unary_form unary.Assign x = refl
unary_form unary.Cast x = refl
unary_form unary.ArrayLength x = refl

binary_form : (opcode : Binary) (x : Operands) → reading.form_of (spelled.binary_code opcode) x ≡ three (binary_code opcode) x
binary_form binary.IAdd x = refl
binary_form binary.ISub x = refl
binary_form binary.IMul x = refl
binary_form binary.IDiv x = refl
binary_form binary.IMod x = refl
binary_form binary.StrCat x = refl
binary_form binary.CmpEq x = refl
binary_form binary.CmpLt x = refl
binary_form binary.CmpLe x = refl
binary_form binary.CmpGt x = refl
binary_form binary.CmpGe x = refl
binary_form binary.ArrayGetElement x = refl

search_form : (opcode : Search) (x : Operands) → reading.form_of (spelled.search_code opcode) x ≡ four (search_code opcode) x
search_form search_from.First x = refl
search_form search_from.Last x = refl

jump_form : (decided : Bool) (x : Operands) → reading.form_of (spelled.jump_code decided) x ≡ jump_code decided (at x 0) (number_at x 1)
jump_form true x = refl
jump_form false x = refl

module _ (is_global : Bool) (scope : Scope) (kinds : List (Option CoreType)) (fits : ScopeFits scope kinds) where
  abbrev here : reading.Scope
  here = scope_read is_global scope

  abbrev parts : PlainInstruction → Operands
  parts i = record { scope = here; fixed = i.fixed; more = i.more }

  -- the instruction of an opcode
  opened : (i : PlainInstruction) (opcode : ℕ) → i.opcode ≡ opcode → instruction_meant here i ≡ reading.form_of opcode (parts i)
  opened i opcode e = ap (λ (n : ℕ). reading.form_of n (parts i)) e

  reads : (d : Datum) (place : Place) → PlaceFits is_global place → SpellsPlace scope d place → operand_meant here d ≡ operand_of place
  reads d place own is = place_read is_global scope kinds d place fits own is

  name_read : (d : Datum) (name : List ℕ) → SpellsWord scope.table d (Some name) → name_meant here d ≡ name
  name_read d name is = ap (name_meant here) is.1 ∙ get_or_from_slice_get scope.table.strings is.0 name [] is.2.there

  script_read : (d : Datum) (number : ℕ) (o : Option (List ℕ)) → slice_get scope.table.home.scripts number ≡ o → SpellsWord scope.table d o → unwrap_or (first_named (name_meant here d) scope.table.home.scripts) 0 ≡ number
  script_read d number None e is = absurd is.2
  script_read d number (Some name) e is =
      ap (λ (l : List ℕ). unwrap_or (first_named l scope.table.home.scripts) 0) (name_read d name is)
      ∙ ap (λ (o : Option ℕ). unwrap_or o 0) (distinct_found scope.table.home.scripts fits.names.scripts number name e)

  arguments_read : (more : List Datum) (places : List Place) → AllByRecursion (PlaceFits is_global) places → Each (SpellsPlace scope) more places → map (operand_meant here) more ≡ map operand_of places
  arguments_read [] [] own are = refl
  arguments_read [] (place ∷ places) own are = absurd are
  arguments_read (d ∷ more) [] own are = absurd are
  arguments_read (d ∷ more) (place ∷ places) own are =
      let first = reads d place own.0 are.0 in
      let others = arguments_read more places own.1 are.1 in
      λ j. first j ∷ others j

  -- what is said of the operand at a place
  said : (i : PlainInstruction) (code : Coded) → SpellsInstruction scope i code → (n : ℕ) → IfSome (slice_get (form_of code).fixed n) (SpellsOperand scope (slice_index_or i.fixed n datum.NoneValue))
  said i code is n = each_at (SpellsOperand scope) datum.NoneValue i.fixed (form_of code).fixed is.fixed n

  pub instruction_read : (i : PlainInstruction) (code : Coded) → InstructionFits is_global code → SpellsInstruction scope i code → instruction_meant here i ≡ meant code
  instruction_read i (coded.Unary opcode result of) own is =
      let code = coded.Unary opcode result of in
      let first = reads (slice_index_or i.fixed 0 datum.NoneValue) result own.0 (said i code is 0) in
      let second = reads (slice_index_or i.fixed 1 datum.NoneValue) of own.1.0 (said i code is 1) in
      opened i (spelled.unary_code opcode) is.opcode ∙ unary_form opcode (parts i) ∙ (λ j. unary_code opcode (first j) (second j))
  instruction_read i (coded.Binary opcode result left right) own is =
      let code = coded.Binary opcode result left right in
      let first = reads (slice_index_or i.fixed 0 datum.NoneValue) result own.0 (said i code is 0) in
      let second = reads (slice_index_or i.fixed 1 datum.NoneValue) left own.1.0 (said i code is 1) in
      let third = reads (slice_index_or i.fixed 2 datum.NoneValue) right own.1.1.0 (said i code is 2) in
      opened i (spelled.binary_code opcode) is.opcode ∙ binary_form opcode (parts i) ∙ (λ j. binary_code opcode (first j) (second j) (third j))
  instruction_read i (coded.Search opcode array result searched start) own is =
      let code = coded.Search opcode array result searched start in
      let first = reads (slice_index_or i.fixed 0 datum.NoneValue) array own.0 (said i code is 0) in
      let second = reads (slice_index_or i.fixed 1 datum.NoneValue) result own.1.0 (said i code is 1) in
      let third = reads (slice_index_or i.fixed 2 datum.NoneValue) searched own.1.1.0 (said i code is 2) in
      let fourth = reads (slice_index_or i.fixed 3 datum.NoneValue) start own.1.1.1.0 (said i code is 3) in
      opened i (spelled.search_code opcode) is.opcode ∙ search_form opcode (parts i) ∙ (λ j. search_code opcode (first j) (second j) (third j) (fourth j))
  instruction_read i (coded.NewArray result count) own is =
      let code = coded.NewArray result count in
      let first = reads (slice_index_or i.fixed 0 datum.NoneValue) result own.0 (said i code is 0) in
      opened i 0x1E is.opcode ∙ (λ j. op.ArrayCreate (first j) (unsigned_abs (number_meant (said i code is 1 j))))
  instruction_read i (coded.PropGet name of result) own is =
      let code = coded.PropGet name of result in
      let called = name_read (slice_index_or i.fixed 0 datum.NoneValue) name.now (said i code is 0) in
      let second = reads (slice_index_or i.fixed 1 datum.NoneValue) of own.0 (said i code is 1) in
      let third = reads (slice_index_or i.fixed 2 datum.NoneValue) result own.1.0 (said i code is 2) in
      opened i 0x1C is.opcode ∙ (λ j. op.PropGet (called j) (second j) (third j))
  instruction_read i (coded.PropSet name of value) own is =
      let code = coded.PropSet name of value in
      let called = name_read (slice_index_or i.fixed 0 datum.NoneValue) name.now (said i code is 0) in
      let second = reads (slice_index_or i.fixed 1 datum.NoneValue) of own.0 (said i code is 1) in
      let third = reads (slice_index_or i.fixed 2 datum.NoneValue) value own.1.0 (said i code is 2) in
      opened i 0x1D is.opcode ∙ (λ j. op.PropSet (called j) (second j) (third j))
  instruction_read i (coded.SetElement array index value) own is =
      let code = coded.SetElement array index value in
      let first = reads (slice_index_or i.fixed 0 datum.NoneValue) array own.0 (said i code is 0) in
      let second = reads (slice_index_or i.fixed 1 datum.NoneValue) index own.1.0 (said i code is 1) in
      let third = reads (slice_index_or i.fixed 2 datum.NoneValue) value own.1.1.0 (said i code is 2) in
      opened i 0x21 is.opcode ∙ (λ j. op.ArraySetElement (first j) (second j) (third j))
  instruction_read i (coded.Return None) own is =
      opened i 0x1A is.opcode ∙ ap (λ (d : Datum). op.Return (operand_meant here d)) (said i (coded.Return None) is 0)
  instruction_read i (coded.Return (Some value)) own is =
      let first = reads (slice_index_or i.fixed 0 datum.NoneValue) value own.0 (said i (coded.Return (Some value)) is 0) in
      opened i 0x1A is.opcode ∙ ap (λ o. op.Return o) first
  instruction_read i (coded.CallMethod name of result more) own is =
      let code = coded.CallMethod name of result more in
      let called = name_read (slice_index_or i.fixed 0 datum.NoneValue) name.now (said i code is 0) in
      let second = reads (slice_index_or i.fixed 1 datum.NoneValue) of own.0 (said i code is 1) in
      let third = reads (slice_index_or i.fixed 2 datum.NoneValue) result own.1.0 (said i code is 2) in
      let others = arguments_read i.more more.items own.1.1 is.more in
      opened i 0x17 is.opcode ∙ (λ j. op.CallMethod (called j) (second j) (third j) (others j))
  instruction_read i (coded.CallParent name result more) own is =
      let code = coded.CallParent name result more in
      let called = name_read (slice_index_or i.fixed 0 datum.NoneValue) name.now (said i code is 0) in
      let second = reads (slice_index_or i.fixed 1 datum.NoneValue) result own.0 (said i code is 1) in
      let others = arguments_read i.more more.items own.1 is.more in
      opened i 0x18 is.opcode ∙ (λ j. op.CallParent (called j) (second j) (others j))
  instruction_read i (coded.CallStatic script name result more) own is =
      let code = coded.CallStatic script name result more in
      let first = script_read (slice_index_or i.fixed 0 datum.NoneValue) script (slice_get scope.table.home.scripts script) refl (said i code is 0) in
      let called = name_read (slice_index_or i.fixed 1 datum.NoneValue) name.now (said i code is 1) in
      let third = reads (slice_index_or i.fixed 2 datum.NoneValue) result own.0 (said i code is 2) in
      let others = arguments_read i.more more.items own.1 is.more in
      opened i 0x19 is.opcode ∙ (λ j. op.CallStatic (first j) (called j) (third j) (others j))
  instruction_read i (coded.Jump offset) own is =
      opened i 0x14 is.opcode ∙ ap (λ (d : Datum). op.Jmp (number_meant d)) (said i (coded.Jump offset) is 0)
  instruction_read i (coded.JumpIf decided condition offset) own is =
      let code = coded.JumpIf decided condition offset in
      let first = reads (slice_index_or i.fixed 0 datum.NoneValue) condition own.0 (said i code is 0) in
      let second = ap number_meant (said i code is 1) in
      opened i (spelled.jump_code decided) is.opcode ∙ jump_form decided (parts i) ∙ (λ j. jump_code decided (first j) (second j))
