-- Instructions, functions and states of a listing break no rule.
use Rattle.std.proofs.Common.{◌≡◌, ℕ, suc, ◌+◌, ◌<◌, ◌≤◌, true, false, List, [], ◌∷◌, ◌++◌, length, Option, Some, None, is_some, refl, sym, ap, ◌∙◌, append_assoc, append-nil, arith}
use Rattle.std.specs.Prelude.{codes, ◌||◌, IfSome}
use Rattle.std.specs.Fmt.{decimal}
use Rattle.std.specs.List.{flat_map, AllByRecursion}
use Rattle.std.specs.Str.{bytes_eq}
use Rattle.std.proofs.lemmas.Bool.{cond-true, lt-ltb}
use Rattle.std.proofs.lemmas.List.{length-append}
use Rattle.pex_values.specs.Fit.{FitsFunction, FitsState}
use Rattle.pex_values.specs.Opcodes.{operands_of}
use Rattle.pex_values.specs.Plain.{PlainInstruction, PlainFunction, PlainState}
use Rattle.pex_values.specs.Shape.{ArePair, IsShapedInstruction, IsShapedFunction, IsShapedNamed, IsShapedState}
use Rattle.pex_values.specs.Spelling as spell
use Rattle.pex_values.proofs.Sizes.{function_size, named_size, state_size}
use Rattle.pex_listing.specs.Breaks.{Awaited, One, Many, a_name, asked, done, function_line, function_lines, judged, least_bytes, left_after, line_of, may_stand, opcode_line, operands, paid, pair_line}
use Rattle.pex_listing.specs.Lines.{reference}
use Rattle.pex_listing.specs.Listing as form
use Rattle.pex_listing.proofs.Cuts.{is_token}
use Rattle.pex_listing.proofs.OneField.{decimal_token, reference_token}
use Rattle.pex_listing.proofs.Unbroken.{reference_unbroken}
use Rattle.listing_laws.proofs.Steps.{AreTokens, Clean, OneClean, clear, each_clean, fields_clean, none_more, row, same_awaited, same_room, same_text, weaken, word_rank}
use Rattle.listing_laws.proofs.Forms.{datum_fields, datums_row, datums_tokens, beside, byte_rule, flags_rule, is_opcode, opcode_among, opcode_place, opcode_rank, opcode_so, opcode_token, tokens_both}

module _ (strings : List (List ℕ)) where
  -- ---- parameters and locals

  pair_row : (word : List ℕ) (p : ℕ × ℕ) (r : List ℕ) → form.pair (reference strings) word p ++ r ≡ word ++ row (reference strings p.0 ∷ reference strings p.1 ∷ []) r
  pair_row word p r = simp append_assoc

  pair_form : (p : ℕ × ℕ) → ArePair (length strings) p → pair_line strings (reference strings p.0 ∷ reference strings p.1 ∷ []) ≡ clear 4 [] []
  pair_form p holds = λ i. beside 4 (judged (reference_unbroken strings p.0 holds.name i) (judged (reference_unbroken strings p.1 holds.kind i) (clear 0 [] [])))

  param_line : (text : List ℕ) (fs : List (List ℕ)) → line_of strings (codes "param") text fs ≡ pair_line strings fs
  unfolding line_of
  param_line text fs = refl

  local_line : (text : List ℕ) (fs : List (List ℕ)) → line_of strings (codes "local") text fs ≡ pair_line strings fs
  unfolding line_of
  local_line text fs = refl

  pair_tokens : (p : ℕ × ℕ) → ArePair (length strings) p → AreTokens (reference strings p.0 ∷ reference strings p.1 ∷ [])
  pair_tokens p holds = (reference_token strings p.0 holds.name, (reference_token strings p.1 holds.kind, tt))

  param_clean : (awaited : List Awaited) → OneClean (ArePair (length strings)) (form.pair (reference strings) (codes "param")) spell.pair strings 0 (codes "param" ∷ []) refl awaited
  param_clean awaited = λ p n rest r holds few next.
      same_text 0 (Many (codes "param" ∷ []) n ∷ awaited) strings (4 + rest) _ _ (pair_row (codes "param") p r)
      (fields_clean 0 (Many (codes "param" ∷ []) n ∷ awaited) strings (codes "param") 4 rest [] r (omega arith) (lt-ltb n 65535 few) (reference strings p.0 ∷ reference strings p.1 ∷ []) refl (pair_tokens p holds)
      (λ text. param_line text _ ∙ pair_form p holds) next)

  local_clean : (awaited : List Awaited) → OneClean (ArePair (length strings)) (form.pair (reference strings) (codes "local")) spell.pair strings 1 (codes "local" ∷ []) refl awaited
  local_clean awaited = λ p n rest r holds few next.
      same_text 1 (Many (codes "local" ∷ []) n ∷ awaited) strings (4 + rest) _ _ (pair_row (codes "local") p r)
      (fields_clean 1 (Many (codes "local" ∷ []) n ∷ awaited) strings (codes "local") 4 rest [] r (omega arith) (lt-ltb n 65535 few) (reference strings p.0 ∷ reference strings p.1 ∷ []) refl (pair_tokens p holds)
      (λ text. local_line text _ ∙ pair_form p holds) (weaken 0 1 _ strings rest r (omega arith) next))

  -- ---- instructions

  abbrev instruction_fields : PlainInstruction → List (List ℕ)
  instruction_fields i = flat_map (datum_fields strings) i.fixed ++ flat_map (datum_fields strings) i.more

  instruction_row : (i : PlainInstruction) (r : List ℕ) → form.instruction (reference strings) i ++ r ≡ form.opcode_name i.opcode ++ row (instruction_fields i) r
  unfolding form.instruction
  instruction_row i r =
      let text = form.datum (reference strings) in
      let whole : form.instruction (reference strings) i ++ r ≡ form.opcode_name i.opcode ++ (flat_map text i.fixed ++ (flat_map text i.more ++ row [] r)) = simp append_assoc in
      whole
      ∙ ap (λ t. form.opcode_name i.opcode ++ (flat_map text i.fixed ++ t)) (datums_row strings i.more [] r ∙ ap (λ fs. row fs r) (append-nil _))
      ∙ ap (λ t. form.opcode_name i.opcode ++ t) (datums_row strings i.fixed (flat_map (datum_fields strings) i.more) r)

  code_line : (o : ℕ) (text : List ℕ) (fs : List (List ℕ)) → o < 36 → line_of strings (form.opcode_name o) text fs ≡ operands strings (operands_of o) fs
  unfolding line_of
  code_line o text fs below = cond-true _ _ _ (opcode_among o below) ∙ ap (λ p. opcode_line strings p fs) (opcode_place o below)

  instruction_size : (i : PlainInstruction) → length (spell.instruction i) ≡ 1 + (length (flat_map spell.datum i.fixed) + length (spell.counted (operands_of i.opcode) i.more))
  unfolding spell.instruction
  instruction_size i = omega (arith, length-append (spell.one_byte i.opcode ++ flat_map spell.datum i.fixed) (spell.counted (operands_of i.opcode) i.more), length-append (spell.one_byte i.opcode) (flat_map spell.datum i.fixed))

  instruction_clean : (awaited : List Awaited) → OneClean (IsShapedInstruction (length strings)) (form.instruction (reference strings)) spell.instruction strings 2 form.opcode_names refl awaited
  instruction_clean awaited = λ i n rest r holds few next.
      let below = is_opcode i.opcode _ _ holds.operands in
      let bytes = length (spell.instruction i) in
      let word = form.opcode_name i.opcode in
      let among = opcode_among i.opcode below in
      same_text 2 (Many form.opcode_names n ∷ awaited) strings (bytes + rest) _ _ (instruction_row i r)
      (fields_clean 2 (Many form.opcode_names n ∷ awaited) strings word bytes rest [] r (let rank = opcode_rank i.opcode below in omega arith) (cond-true _ _ _ among ∙ lt-ltb n 65535 few) (instruction_fields i) (opcode_token i.opcode below)
      (tokens_both strings _ _ (datums_tokens strings i.fixed holds.fixed) (datums_tokens strings i.more holds.more))
      (λ text. code_line i.opcode text _ below ∙ opcode_so strings (operands_of i.opcode) i.fixed i.more holds.operands holds.fixed holds.more ∙ ap (λ m. clear m [] []) (sym (instruction_size i)))
      (same_awaited 0 (Many form.opcode_names (suc n) ∷ awaited) strings rest r _ (cond-true _ _ _ among) (weaken 0 2 _ strings rest r (omega arith) next)))

  -- ---- functions

  abbrev body : PlainFunction → ℕ
  body f = length (flat_map spell.pair f.parameters) + (length (flat_map spell.pair f.locals) + length (flat_map spell.instruction f.code))

  abbrev behind_line : PlainFunction → List ℕ → List ℕ
  behind_line f r = flat_map (form.pair (reference strings) (codes "param")) f.parameters ++ (flat_map (form.pair (reference strings) (codes "local")) f.locals ++ (flat_map (form.instruction (reference strings)) f.code ++ r))

  abbrev function_fields : PlainFunction → List (List ℕ)
  function_fields f = reference strings f.result ∷ reference strings f.doc ∷ decimal f.flags ∷ decimal f.bits ∷ []

  function_row : (f : PlainFunction) (r : List ℕ) → form.function (reference strings) f ++ r ≡ row (function_fields f) (behind_line f r)
  unfolding form.function
  function_row f r = simp append_assoc

  function_tokens : (f : PlainFunction) → IsShapedFunction (length strings) f → AreTokens (function_fields f)
  function_tokens f shaped =
      (reference_token strings f.result shaped.result, (reference_token strings f.doc shaped.doc, (decimal_token f.flags (omega (arith, shaped.flags)), (decimal_token f.bits (omega (arith, shaped.bits)), tt))))

  function_form : (f : PlainFunction) → IsShapedFunction (length strings) f → function_line strings (function_fields f) ≡ clear 0 function_lines []
  function_form f shaped = λ i. judged (reference_unbroken strings f.result shaped.result i) (judged (reference_unbroken strings f.doc shaped.doc i)
      (judged (flags_rule f.flags shaped.flags i) (judged (byte_rule f.bits shaped.bits i) (clear 0 function_lines []))))

  body_clean : (f : PlainFunction) (awaited : List Awaited) (rest : ℕ) (r : List ℕ) → IsShapedFunction (length strings) f → FitsFunction f → Clean 3 awaited strings rest r
      → Clean 0 (function_lines ++ awaited) strings (body f + rest) (behind_line f r)
  body_clean f awaited rest r shaped fits next =
      let code : Clean 2 (Many form.opcode_names 0 ∷ awaited) strings (length (flat_map spell.instruction f.code) + rest) (flat_map (form.instruction (reference strings)) f.code ++ r) =
      each_clean (IsShapedInstruction (length strings)) (form.instruction (reference strings)) spell.instruction strings 2 form.opcode_names refl awaited (instruction_clean awaited) f.code 0 rest r shaped.code (omega (arith, fits.code)) next in
      let to_code = flat_map (form.instruction (reference strings)) f.code ++ r in
      let code_room = length (flat_map spell.instruction f.code) + rest in
      let locals : Clean 1 (Many (codes "local" ∷ []) 0 ∷ Many form.opcode_names 0 ∷ awaited) strings (length (flat_map spell.pair f.locals) + code_room) (flat_map (form.pair (reference strings) (codes "local")) f.locals ++ to_code) =
      each_clean (ArePair (length strings)) (form.pair (reference strings) (codes "local")) spell.pair strings 1 (codes "local" ∷ []) refl _ (local_clean _) f.locals 0 _ _ shaped.locals (omega (arith, fits.locals)) code in
      let parameters = each_clean (ArePair (length strings)) (form.pair (reference strings) (codes "param")) spell.pair strings 0 (codes "param" ∷ []) refl _ (param_clean _) f.parameters 0 _ _ shaped.parameters (omega (arith, fits.parameters)) locals in
      same_room 0 (function_lines ++ awaited) strings _ (behind_line f r) (body f + rest) (omega arith) parameters

  -- the line of a function, behind its first words
  function_clean : (k : ℕ) (opened awaited : List Awaited) (word : List ℕ) (first : List (List ℕ)) (bytes rest : ℕ) (f : PlainFunction) (r : List ℕ) → k ≤ word_rank word → may_stand opened word ≡ true → left_after opened word ≡ awaited
      → is_token word ≡ true → AreTokens first → ((text : List ℕ) → line_of strings word text (first ++ function_fields f) ≡ clear bytes function_lines [])
      → IsShapedFunction (length strings) f → FitsFunction f → Clean 3 awaited strings rest r → Clean k opened strings (bytes + (body f + rest)) (word ++ row (first ++ function_fields f) (behind_line f r))
  function_clean k opened awaited word first bytes rest f r high stands left token each form shaped fits next =
      fields_clean k opened strings word bytes (body f + rest) function_lines (behind_line f r) high stands (first ++ function_fields f) token (tokens_both strings first (function_fields f) each (function_tokens f shaped)) form
      (same_awaited 0 (function_lines ++ awaited) strings (body f + rest) (behind_line f r) _ (ap (λ a. function_lines ++ a) left) (body_clean f awaited rest r shaped fits next))

  function_bytes : (f : PlainFunction) → length (spell.function f) ≡ 15 + body f
  function_bytes f = omega (arith, function_size f)

  pub read_line : (text : List ℕ) (fs : List (List ℕ)) → line_of strings (codes "read") text fs ≡ function_line strings fs
  unfolding line_of
  read_line text fs = refl

  pub write_line : (text : List ℕ) (fs : List (List ℕ)) → line_of strings (codes "write") text fs ≡ function_line strings fs
  unfolding line_of
  write_line text fs = refl

  named_line : (text : List ℕ) (fs : List (List ℕ)) → line_of strings (codes "function") text fs ≡ paid 17 (a_name strings (function_line strings)) fs
  unfolding line_of
  named_line text fs = refl

  accessor_row : (word : List ℕ) (f : PlainFunction) (r : List ℕ) → form.accessor (reference strings) word (Some f) ++ r ≡ word ++ row (function_fields f) (behind_line f r)
  accessor_row word f r = append_assoc word (form.function (reference strings) f) r ∙ ap (λ t. word ++ t) (function_row f r)

  -- the bytes of an accessor beyond its least
  abbrev pub beyond : Option PlainFunction → ℕ
  beyond None = 0
  beyond (Some f) = body f

  pub accessor_bytes : (f : Option PlainFunction) → length (spell.optional spell.function f) ≡ least_bytes (is_some f) + beyond f
  accessor_bytes None = refl
  accessor_bytes (Some f) = function_bytes f

  module _ (word : List ℕ) (is_accessor : (text : List ℕ) (fs : List (List ℕ)) → line_of strings word text fs ≡ function_line strings fs) (high : 3 ≤ word_rank word) (token : is_token word ≡ true) (same : bytes_eq word word ≡ true) where
    pub accessor_clean : (f : Option PlainFunction) (awaited : List Awaited) (rest : ℕ) (r : List ℕ) → IfSome f (IsShapedFunction (length strings)) → IfSome f FitsFunction → Clean 3 awaited strings rest r
        → Clean 3 (asked (is_some f) word ++ awaited) strings (beyond f + rest) (form.accessor (reference strings) word f ++ r)
    accessor_clean None awaited rest r shaped fits next = same_room 3 awaited strings rest r (0 + rest) (sym (none_more rest)) next
    accessor_clean (Some f) awaited rest r shaped fits next =
        same_text 3 (One (word ∷ []) ∷ awaited) strings (body f + rest) _ _ (accessor_row word f r)
        (same_room 3 (One (word ∷ []) ∷ awaited) strings (0 + (body f + rest)) (word ++ row (function_fields f) (behind_line f r)) (body f + rest) (none_more (body f + rest))
        (function_clean 3 (One (word ∷ []) ∷ awaited) awaited word [] 0 rest f r high (ap (λ b. b || false) same) refl token tt
        (λ text. is_accessor text (function_fields f) ∙ function_form f shaped) shaped fits next))

  abbrev IsNamed : ℕ × PlainFunction → Type 0
  IsNamed f = IsShapedNamed (length strings) f × FitsFunction f.1

  named_row : (f : ℕ × PlainFunction) (r : List ℕ) → form.named (reference strings) f ++ r ≡ codes "function" ++ row ((reference strings f.0 ∷ []) ++ function_fields f.1) (behind_line f.1 r)
  named_row f r =
      let whole : form.named (reference strings) f ++ r ≡ codes "function" ++ (32 ∷ (reference strings f.0 ++ (form.function (reference strings) f.1 ++ r))) = simp append_assoc in
      whole ∙ ap (λ t. codes "function" ++ (32 ∷ (reference strings f.0 ++ t))) (function_row f.1 r)

  named_clean : (awaited : List Awaited) → OneClean IsNamed (form.named (reference strings)) spell.named strings 4 (codes "function" ∷ []) refl awaited
  named_clean awaited = λ f n rest r holds few next.
      same_text 4 (Many (codes "function" ∷ []) n ∷ awaited) strings (length (spell.named f) + rest) (codes "function" ++ row ((reference strings f.0 ∷ []) ++ function_fields f.1) (behind_line f.1 r)) _ (named_row f r)
      (same_room 4 (Many (codes "function" ∷ []) n ∷ awaited) strings (17 + (body f.1 + rest)) (codes "function" ++ row ((reference strings f.0 ∷ []) ++ function_fields f.1) (behind_line f.1 r)) (length (spell.named f) + rest) (omega (arith, named_size f, function_bytes f.1))
      (function_clean 4 (Many (codes "function" ∷ []) n ∷ awaited) (Many (codes "function" ∷ []) (suc n) ∷ awaited) (codes "function") (reference strings f.0 ∷ []) 17 rest f.1 r (omega arith) (lt-ltb n 65535 few) refl refl
      (reference_token strings f.0 holds.0.name, tt)
      (λ text. named_line text _ ∙ (λ i. beside 17 (judged (reference_unbroken strings f.0 holds.0.name i) (function_form f.1 holds.0.function i))))
      holds.0.function holds.1 (weaken 3 4 _ strings rest r (omega arith) next)))

  -- ---- states

  abbrev pub IsState : PlainState → Type 0
  IsState s = IsShapedState (length strings) s × FitsState s

  state_line : (text : List ℕ) (fs : List (List ℕ)) → line_of strings (codes "state") text fs ≡ paid 4 (a_name strings (done (Many (codes "function" ∷ []) 0 ∷ []) [])) fs
  unfolding line_of
  state_line text fs = refl

  state_row : (s : PlainState) (r : List ℕ) → form.state (reference strings) s ++ r ≡ codes "state" ++ row (reference strings s.name ∷ []) (flat_map (form.named (reference strings)) s.functions ++ r)
  unfolding form.state
  state_row s r = simp append_assoc

  pub both : {X : Type 0} (P Q : X → Type 0) (xs : List X) → AllByRecursion P xs → AllByRecursion Q xs → AllByRecursion (λ x. P x × Q x) xs
  both P Q [] p q = tt
  both P Q (x ∷ xs) p q = ((p.0, q.0), both P Q xs p.1 q.1)

  pub state_clean : (awaited : List Awaited) → OneClean IsState (form.state (reference strings)) spell.state strings 7 (codes "state" ∷ []) refl awaited
  state_clean awaited = λ s n rest r holds few next.
      let after = Many (codes "state" ∷ []) (suc n) ∷ awaited in
      let behind = flat_map (form.named (reference strings)) s.functions ++ r in
      let line = codes "state" ++ row (reference strings s.name ∷ []) behind in
      let functions = each_clean IsNamed (form.named (reference strings)) spell.named strings 4 (codes "function" ∷ []) refl after (named_clean after) s.functions 0 rest r (both _ _ s.functions holds.0.functions holds.1.each) (omega (arith, holds.1.functions))
      (weaken 5 7 after strings rest r (omega arith) next) in
      same_text 7 (Many (codes "state" ∷ []) n ∷ awaited) strings (length (spell.state s) + rest) line _ (state_row s r)
      (same_room 7 (Many (codes "state" ∷ []) n ∷ awaited) strings (4 + (length (flat_map spell.named s.functions) + rest)) line (length (spell.state s) + rest) (omega (arith, state_size s))
      (fields_clean 7 (Many (codes "state" ∷ []) n ∷ awaited) strings (codes "state") 4 (length (flat_map spell.named s.functions) + rest) (Many (codes "function" ∷ []) 0 ∷ []) behind (omega arith) (lt-ltb n 65535 few)
      (reference strings s.name ∷ []) refl (reference_token strings s.name holds.0.name, tt)
      (λ text. state_line text _ ∙ (λ i. beside 4 (judged (reference_unbroken strings s.name holds.0.name i) (clear 0 (Many (codes "function" ∷ []) 0 ∷ []) []))))
      (weaken 0 4 (Many (codes "function" ∷ []) 0 ∷ after) strings (length (flat_map spell.named s.functions) + rest) behind (omega arith) functions)))
