-- The members of a value are read in one way.
use Rattle.std.proofs.Common.{◌≡◌, ℕ, ◌<◌, ◌≤◌, ◌^◌, true, List, [], ◌∷◌, ◌++◌, length, Option, Some, None, is_some, refl, sym, subst, ap, ◌∙◌, append_assoc, arith}
use Rattle.std.specs.Prelude.{codes, IfSome}
use Rattle.std.specs.List.{flat_map, AllByRecursion}
use Rattle.std.proofs.lemmas.Bool.{both_ways, eqb-false}
use Rattle.pex_values.specs.declared.values.PexVariable.{PexVariable}
use Rattle.pex_values.specs.declared.values.SizeForm.{SizeForm}
use Rattle.pex_values.specs.declared.values.SizeForm.TheVariants.{Counted, Bare}
use Rattle.pex_values.specs.Bits as bits_of
use Rattle.pex_values.specs.Plain.{PlainFunction, PlainState, PlainProperty, PlainObject, PlainLines, PlainDebug}
use Rattle.pex_values.specs.Shape.{ArePair, IsReference, IsShapedInstruction, IsShapedFunction, IsShapedNamed, IsShapedState, IsShapedVariable, IsShapedProperty, IsShapedObject, IsShapedLines, IsShapedDebug, IsShapedFlag}
use Rattle.pex_listing.specs.Lines.{number, reference}
use Rattle.pex_listing.specs.Listing as form
use Rattle.pex_listing.proofs.Cuts.{Same, byte, front, is_behind, past, same_front}
use Rattle.pex_listing.proofs.OneField.{number_same}
use Rattle.pex_listing.proofs.OneLine.{rank, each_keeps, each_same, name_same, datum_behind, datum_same, instruction_rank, instruction_same, pair_same}

number_field : (m n : ℕ) (r s : List ℕ) → m < 2 ^ 64 → n < 2 ^ 64 → is_behind r ≡ true → is_behind s ≡ true → number m ++ r ≡ number n ++ s → Same m n r s
number_field m n r s p q behind other e = number_same m n r s p q behind other (ap (past 1) e)

module _ (strings : List (List ℕ)) where
  -- ---- functions

  function_row : (f : PlainFunction) (r : List ℕ) → form.function (reference strings) f ++ r
      ≡ form.name (reference strings) f.result ++ (form.name (reference strings) f.doc ++ (number f.flags ++ (number f.bits ++ 10 ∷ (flat_map (form.pair (reference strings) (codes "param")) f.parameters
      ++ (flat_map (form.pair (reference strings) (codes "local")) f.locals ++ (flat_map (form.instruction (reference strings)) f.code ++ r))))))
  unfolding form.function
  function_row f r = simp append_assoc

  code_keeps : (P : ℕ → Type 0) → P 0 → (f : PlainFunction) (r : List ℕ) → IsShapedFunction (length strings) f → P (rank r) → P (rank (flat_map (form.instruction (reference strings)) f.code ++ r))
  code_keeps P own f r shaped holds =
      each_keeps (IsShapedInstruction (length strings)) (form.instruction (reference strings)) 0 0 (omega arith) (λ i t h. instruction_rank strings i t h) P own f.code r shaped.code holds

  locals_keep : (P : ℕ → Type 0) → P 0 → P 1 → (f : PlainFunction) (r : List ℕ) → IsShapedFunction (length strings) f → P (rank r)
      → P (rank (flat_map (form.pair (reference strings) (codes "local")) f.locals ++ (flat_map (form.instruction (reference strings)) f.code ++ r)))
  locals_keep P own other f r shaped holds =
      each_keeps (ArePair (length strings)) (form.pair (reference strings) (codes "local")) 1 0 (omega arith) (λ p t h. refl) P other f.locals
      (flat_map (form.instruction (reference strings)) f.code ++ r) shaped.locals (code_keeps P own f r shaped holds)

  pub function_same : (f g : PlainFunction) (r s : List ℕ) → IsShapedFunction (length strings) f → IsShapedFunction (length strings) g → 3 ≤ rank r → 3 ≤ rank s
      → form.function (reference strings) f ++ r ≡ form.function (reference strings) g ++ s → Same f g r s
  function_same f g r s p q high top e =
      let result = name_same strings f.result g.result _ _ p.result q.result refl refl (sym (function_row f r) ∙ e ∙ function_row g s) in
      let doc = name_same strings f.doc g.doc _ _ p.doc q.doc refl refl result.rest in
      let flags = number_field f.flags g.flags _ _ (omega (arith, p.flags)) (omega (arith, q.flags)) refl refl doc.rest in
      let bits = number_field f.bits g.bits _ _ (omega (arith, p.bits)) (omega (arith, q.bits)) refl refl flags.rest in
      let pairs = λ (word : List ℕ). each_same (ArePair (length strings)) (form.pair (reference strings) word) in
      let parameters = pairs (codes "param") 2 0 (omega arith) (λ x t h. refl) (λ x y t u h k high top. pair_same strings (codes "param") x y t u h k) f.parameters g.parameters _ _ p.parameters q.parameters
      (omega arith) (omega arith) (locals_keep (λ n. n ≡ 2 → ⊥) (λ x. omega arith) (λ x. omega arith) f r p (λ x. omega arith)) (locals_keep (λ n. n ≡ 2 → ⊥) (λ x. omega arith) (λ x. omega arith) g s q (λ x. omega arith))
      (ap (past 1) bits.rest) in
      let locals = pairs (codes "local") 1 0 (omega arith) (λ x t h. refl) (λ x y t u h k high top. pair_same strings (codes "local") x y t u h k) f.locals g.locals _ _ p.locals q.locals
      (omega arith) (omega arith) (code_keeps (λ n. n ≡ 1 → ⊥) (λ x. omega arith) f r p (λ x. omega arith)) (code_keeps (λ n. n ≡ 1 → ⊥) (λ x. omega arith) g s q (λ x. omega arith)) parameters.rest in
      let code = each_same (IsShapedInstruction (length strings)) (form.instruction (reference strings)) 0 0 (omega arith) (λ i t h. instruction_rank strings i t h)
      (λ x y t u h k high top. instruction_same strings x y t u h k) f.code g.code r s p.code q.code (omega arith) (omega arith) (λ x. omega arith) (λ x. omega arith) locals.rest in
      record {
        first = λ i. record { result = result.first i; doc = doc.first i; flags = flags.first i; bits = bits.first i; parameters = parameters.first i; locals = locals.first i; code = code.first i };
        rest = code.rest;
      }

  named_row : (f : ℕ × PlainFunction) (r : List ℕ) → form.named (reference strings) f ++ r ≡ codes "function" ++ (form.name (reference strings) f.0 ++ (form.function (reference strings) f.1 ++ r))
  named_row f r = simp append_assoc

  function_behind : (f : PlainFunction) (r : List ℕ) → is_behind (form.function (reference strings) f ++ r) ≡ true
  function_behind f r = ap is_behind (function_row f r)

  named_same : (f g : ℕ × PlainFunction) (r s : List ℕ) → IsShapedNamed (length strings) f → IsShapedNamed (length strings) g → 3 ≤ rank r → 3 ≤ rank s
      → form.named (reference strings) f ++ r ≡ form.named (reference strings) g ++ s → Same f g r s
  named_same f g r s p q high top e =
      let name = name_same strings f.0 g.0 (form.function (reference strings) f.1 ++ r) (form.function (reference strings) g.1 ++ s) p.name q.name (function_behind f.1 r) (function_behind g.1 s)
      (ap (past 8) (sym (named_row f r) ∙ e ∙ named_row g s)) in
      let function = function_same f.1 g.1 r s p.function q.function high top name.rest in
      record { first = λ i. (name.first i, function.first i); rest = function.rest }

  accessor_same : (word : List ℕ) (f g : Option PlainFunction) (r s : List ℕ) → is_some f ≡ is_some g → IfSome f (IsShapedFunction (length strings)) → IfSome g (IsShapedFunction (length strings))
      → 3 ≤ rank r → 3 ≤ rank s → form.accessor (reference strings) word f ++ r ≡ form.accessor (reference strings) word g ++ s → Same f g r s
  accessor_same word None None r s same p q high top e = record { first = refl; rest = e }
  accessor_same word None (Some g) r s same p q high top e = absurd (both_ways true (sym same) refl)
  accessor_same word (Some f) None r s same p q high top e = absurd (both_ways true same refl)
  accessor_same word (Some f) (Some g) r s same p q high top e =
      let text = form.function (reference strings) in
      let function = function_same f g r s p q high top (same_front word (text f ++ r) (text g ++ s) (sym (append_assoc word (text f) r) ∙ e ∙ append_assoc word (text g) s)) in
      record { first = ap Some function.first; rest = function.rest }

  write_high : (f : Option PlainFunction) (r : List ℕ) → 3 ≤ rank r → 3 ≤ rank (form.accessor (reference strings) (codes "write") f ++ r)
  write_high None r high = high
  write_high (Some f) r high =
      subst (λ t. 3 ≤ rank t) (sym (append_assoc (codes "write") (form.function (reference strings) f) r ∙ ap (λ t. codes "write" ++ t) (function_row f r))) (omega arith)

  -- ---- states, variables and properties

  state_row : (t : PlainState) (r : List ℕ) → form.state (reference strings) t ++ r ≡ codes "state" ++ (form.name (reference strings) t.name ++ 10 ∷ (flat_map (form.named (reference strings)) t.functions ++ r))
  unfolding form.state
  state_row t r = simp append_assoc

  state_rank : (t : PlainState) (r : List ℕ) → IsShapedState (length strings) t → rank (form.state (reference strings) t ++ r) ≡ 5
  state_rank t r shaped = ap rank (state_row t r)

  named_rank : (f : ℕ × PlainFunction) (r : List ℕ) → IsShapedNamed (length strings) f → rank (form.named (reference strings) f ++ r) ≡ 4
  named_rank f r shaped = ap rank (named_row f r)

  state_same : (t u : PlainState) (r s : List ℕ) → IsShapedState (length strings) t → IsShapedState (length strings) u → 5 ≤ rank r → 5 ≤ rank s
      → form.state (reference strings) t ++ r ≡ form.state (reference strings) u ++ s → Same t u r s
  state_same t u r s p q high top e =
      let name = name_same strings t.name u.name _ _ p.name q.name refl refl (ap (past 5) (sym (state_row t r) ∙ e ∙ state_row u s)) in
      let functions = each_same (IsShapedNamed (length strings)) (form.named (reference strings)) 4 3 (omega arith) named_rank named_same t.functions u.functions r s p.functions q.functions
      (omega arith) (omega arith) (λ x. omega arith) (λ x. omega arith) (ap (past 1) name.rest) in
      record { first = λ i. record { name = name.first i; functions = functions.first i }; rest = functions.rest }

  variable_row : (v : PexVariable) (r : List ℕ) → form.variable (reference strings) v ++ r
      ≡ codes "variable" ++ (form.name (reference strings) v.name ++ (form.name (reference strings) v.kind ++ (number v.flags ++ (form.datum (reference strings) v.value ++ 10 ∷ r))))
  unfolding form.variable
  variable_row v r = simp append_assoc

  variable_rank : (v : PexVariable) (r : List ℕ) → IsShapedVariable (length strings) v → rank (form.variable (reference strings) v ++ r) ≡ 7
  variable_rank v r shaped = ap rank (variable_row v r)

  variable_same : (v w : PexVariable) (r s : List ℕ) → IsShapedVariable (length strings) v → IsShapedVariable (length strings) w → form.variable (reference strings) v ++ r ≡ form.variable (reference strings) w ++ s → Same v w r s
  variable_same v w r s p q e =
      let name = name_same strings v.name w.name _ _ p.name q.name refl refl (ap (past 8) (sym (variable_row v r) ∙ e ∙ variable_row w s)) in
      let kind = name_same strings v.kind w.kind _ _ p.kind q.kind refl refl name.rest in
      let flags = number_field v.flags w.flags _ _ (omega (arith, p.flags)) (omega (arith, q.flags)) (datum_behind strings v.value _) (datum_behind strings w.value _) kind.rest in
      let value = datum_same strings v.value w.value (10 ∷ r) (10 ∷ s) p.value q.value refl refl flags.rest in
      record { first = λ i. record { name = name.first i; kind = kind.first i; flags = flags.first i; value = value.first i }; rest = ap (past 1) value.rest }

  own_same : (m n : Option ℕ) (r s : List ℕ) → is_some m ≡ is_some n → IfSome m (IsReference (length strings)) → IfSome n (IsReference (length strings))
      → form.own_variable (reference strings) m ++ 10 ∷ r ≡ form.own_variable (reference strings) n ++ 10 ∷ s → Same m n r s
  own_same None None r s same p q e = record { first = refl; rest = ap (past 1) e }
  own_same None (Some n) r s same p q e = absurd (both_ways true (sym same) refl)
  own_same (Some m) None r s same p q e = absurd (both_ways true same refl)
  own_same (Some m) (Some n) r s same p q e = let name = name_same strings m n (10 ∷ r) (10 ∷ s) p q refl refl e in record { first = ap Some name.first; rest = ap (past 1) name.rest }

  own_behind : (m : Option ℕ) (r : List ℕ) → is_behind (form.own_variable (reference strings) m ++ 10 ∷ r) ≡ true
  own_behind None r = refl
  own_behind (Some m) r = refl

  property_row : (p : PlainProperty) (r : List ℕ) → form.property (reference strings) p ++ r
      ≡ codes "property" ++ (form.name (reference strings) p.name ++ (form.name (reference strings) p.kind ++ (form.name (reference strings) p.doc ++ (number p.flags ++ (number p.bits
      ++ (form.own_variable (reference strings) p.variable ++ 10 ∷ (form.accessor (reference strings) (codes "read") p.read ++ (form.accessor (reference strings) (codes "write") p.write ++ r))))))))
  unfolding form.property_line
  property_row p r = simp append_assoc

  property_rank : (p : PlainProperty) (r : List ℕ) → IsShapedProperty (length strings) p → rank (form.property (reference strings) p ++ r) ≡ 6
  property_rank p r shaped = ap rank (property_row p r)

  property_same : (x y : PlainProperty) (r s : List ℕ) → IsShapedProperty (length strings) x → IsShapedProperty (length strings) y → 3 ≤ rank r → 3 ≤ rank s
      → form.property (reference strings) x ++ r ≡ form.property (reference strings) y ++ s → Same x y r s
  property_same x y r s p q high top e =
      let name = name_same strings x.name y.name _ _ p.name q.name refl refl (ap (past 8) (sym (property_row x r) ∙ e ∙ property_row y s)) in
      let kind = name_same strings x.kind y.kind _ _ p.kind q.kind refl refl name.rest in
      let doc = name_same strings x.doc y.doc _ _ p.doc q.doc refl refl kind.rest in
      let flags = number_field x.flags y.flags _ _ (omega (arith, p.flags)) (omega (arith, q.flags)) refl refl doc.rest in
      let bits = number_field x.bits y.bits _ _ (omega (arith, p.bits)) (omega (arith, q.bits)) (own_behind x.variable _) (own_behind y.variable _) flags.rest in
      let variable = own_same x.variable y.variable _ _ (p.has_variable ∙ ap bits_of.has_variable bits.first ∙ sym q.has_variable) p.variable q.variable bits.rest in
      let read = accessor_same (codes "read") x.read y.read _ _ (p.has_read ∙ ap bits_of.has_read bits.first ∙ sym q.has_read) p.read q.read (write_high x.write r high) (write_high y.write s top) variable.rest in
      let write = accessor_same (codes "write") x.write y.write r s (p.has_write ∙ ap bits_of.has_write bits.first ∙ sym q.has_write) p.write q.write high top read.rest in
      record {
        first = λ i. record { name = name.first i; kind = kind.first i; doc = doc.first i; flags = flags.first i; bits = bits.first i; variable = variable.first i; read = read.first i; write = write.first i };
        rest = write.rest;
      }

  -- ---- objects

  size_form_same : (a b : SizeForm) (r s : List ℕ) → form.size_form a ++ r ≡ form.size_form b ++ s → Same a b r s
  size_form_same Counted Counted r s e = record { first = refl; rest = ap (past 8) e }
  size_form_same Counted Bare r s e = absurd (eqb-false 99 98 refl (ap (byte 1) e))
  size_form_same Bare Counted r s e = absurd (eqb-false 98 99 refl (ap (byte 1) e))
  size_form_same Bare Bare r s e = record { first = refl; rest = ap (past 5) e }

  size_form_behind : (a : SizeForm) (r : List ℕ) → is_behind (form.size_form a ++ r) ≡ true
  size_form_behind Counted r = refl
  size_form_behind Bare r = refl

  object_row : (o : PlainObject) (r : List ℕ) → form.object (reference strings) o ++ r
      ≡ codes "object" ++ (form.name (reference strings) o.name ++ (form.size_form o.size_form ++ (form.name (reference strings) o.parent ++ (form.name (reference strings) o.doc ++ (number o.flags
      ++ (form.name (reference strings) o.auto_state ++ 10 ∷ (flat_map (form.variable (reference strings)) o.variables ++ (flat_map (form.property (reference strings)) o.properties
      ++ (flat_map (form.state (reference strings)) o.states ++ r)))))))))
  unfolding form.object form.object_line
  object_row o r = simp append_assoc

  pub object_rank : (o : PlainObject) (r : List ℕ) → IsShapedObject (length strings) o → rank (form.object (reference strings) o ++ r) ≡ 8
  object_rank o r shaped = ap rank (object_row o r)

  states_keep : (P : ℕ → Type 0) → P 5 → (o : PlainObject) (r : List ℕ) → IsShapedObject (length strings) o → P (rank r) → P (rank (flat_map (form.state (reference strings)) o.states ++ r))
  states_keep P own o r shaped holds = each_keeps (IsShapedState (length strings)) (form.state (reference strings)) 5 5 (omega arith) state_rank P own o.states r shaped.states holds

  properties_keep : (P : ℕ → Type 0) → P 5 → P 6 → (o : PlainObject) (r : List ℕ) → IsShapedObject (length strings) o → P (rank r)
      → P (rank (flat_map (form.property (reference strings)) o.properties ++ (flat_map (form.state (reference strings)) o.states ++ r)))
  properties_keep P own other o r shaped holds =
      each_keeps (IsShapedProperty (length strings)) (form.property (reference strings)) 6 3 (omega arith) property_rank P other o.properties (flat_map (form.state (reference strings)) o.states ++ r)
      shaped.properties (states_keep P own o r shaped holds)

  pub object_same : (o u : PlainObject) (r s : List ℕ) → IsShapedObject (length strings) o → IsShapedObject (length strings) u → 8 ≤ rank r → 8 ≤ rank s
      → form.object (reference strings) o ++ r ≡ form.object (reference strings) u ++ s → Same o u r s
  object_same o u r s p q high top e =
      let name = name_same strings o.name u.name _ _ p.name q.name (size_form_behind o.size_form _) (size_form_behind u.size_form _) (ap (past 6) (sym (object_row o r) ∙ e ∙ object_row u s)) in
      let size = size_form_same o.size_form u.size_form _ _ name.rest in
      let parent = name_same strings o.parent u.parent _ _ p.parent q.parent refl refl size.rest in
      let doc = name_same strings o.doc u.doc _ _ p.doc q.doc refl refl parent.rest in
      let flags = number_field o.flags u.flags _ _ (omega (arith, p.flags)) (omega (arith, q.flags)) refl refl doc.rest in
      let auto = name_same strings o.auto_state u.auto_state _ _ p.auto_state q.auto_state refl refl flags.rest in
      let variables = each_same (IsShapedVariable (length strings)) (form.variable (reference strings)) 7 0 (omega arith) variable_rank (λ x y t w h k high top. variable_same x y t w h k) o.variables u.variables _ _
      p.variables q.variables (omega arith) (omega arith)
      (properties_keep (λ n. n ≡ 7 → ⊥) (λ x. omega arith) (λ x. omega arith) o r p (λ x. omega arith)) (properties_keep (λ n. n ≡ 7 → ⊥) (λ x. omega arith) (λ x. omega arith) u s q (λ x. omega arith))
      (ap (past 1) auto.rest) in
      let properties = each_same (IsShapedProperty (length strings)) (form.property (reference strings)) 6 3 (omega arith) property_rank property_same o.properties u.properties _ _ p.properties q.properties
      (states_keep (λ n. 3 ≤ n) (omega arith) o r p (omega arith)) (states_keep (λ n. 3 ≤ n) (omega arith) u s q (omega arith))
      (states_keep (λ n. n ≡ 6 → ⊥) (λ x. omega arith) o r p (λ x. omega arith)) (states_keep (λ n. n ≡ 6 → ⊥) (λ x. omega arith) u s q (λ x. omega arith)) variables.rest in
      let states = each_same (IsShapedState (length strings)) (form.state (reference strings)) 5 5 (omega arith) state_rank state_same o.states u.states r s p.states q.states (omega arith) (omega arith)
      (λ x. omega arith) (λ x. omega arith) properties.rest in
      record {
        first = λ i. record { name = name.first i; size_form = size.first i; parent = parent.first i; doc = doc.first i; flags = flags.first i; auto_state = auto.first i; variables = variables.first i; properties = properties.first i; states = states.first i };
        rest = states.rest;
      }

  -- ---- debug information and flags

  behind_numbers : (ks : List ℕ) (t : List ℕ) → is_behind (flat_map number ks ++ 10 ∷ t) ≡ true
  behind_numbers [] t = refl
  behind_numbers (k ∷ ks) t = refl

  numbers_same : (ms ns : List ℕ) (r s : List ℕ) → AllByRecursion (λ n. n < 2 ^ 16) ms → AllByRecursion (λ n. n < 2 ^ 16) ns → flat_map number ms ++ 10 ∷ r ≡ flat_map number ns ++ 10 ∷ s → Same ms ns r s
  numbers_same [] [] r s p q e = record { first = refl; rest = ap (past 1) e }
  numbers_same [] (n ∷ ns) r s p q e = absurd (eqb-false 10 32 refl (ap front e))
  numbers_same (m ∷ ms) [] r s p q e = absurd (eqb-false 32 10 refl (ap front e))
  numbers_same (m ∷ ms) (n ∷ ns) r s p q e =
      let here = number_field m n (flat_map number ms ++ 10 ∷ r) (flat_map number ns ++ 10 ∷ s) (omega (arith, p.0)) (omega (arith, q.0)) (behind_numbers ms r) (behind_numbers ns s)
      (sym (append_assoc (number m) (flat_map number ms) (10 ∷ r)) ∙ e ∙ append_assoc (number n) (flat_map number ns) (10 ∷ s)) in
      let more = numbers_same ms ns r s p.1 q.1 here.rest in
      record { first = λ i. here.first i ∷ more.first i; rest = more.rest }

  lines_row : (x : PlainLines) (r : List ℕ) → form.lines (reference strings) x ++ r
      ≡ codes "lines" ++ (form.name (reference strings) x.object ++ (form.name (reference strings) x.state ++ (form.name (reference strings) x.function ++ (number x.kind ++ (flat_map number x.lines ++ 10 ∷ r)))))
  unfolding form.lines
  lines_row x r = simp append_assoc

  lines_rank : (x : PlainLines) (r : List ℕ) → IsShapedLines (length strings) x → rank (form.lines (reference strings) x ++ r) ≡ 10
  lines_rank x r shaped = ap rank (lines_row x r)

  lines_same : (x y : PlainLines) (r s : List ℕ) → IsShapedLines (length strings) x → IsShapedLines (length strings) y → form.lines (reference strings) x ++ r ≡ form.lines (reference strings) y ++ s → Same x y r s
  lines_same x y r s p q e =
      let object = name_same strings x.object y.object _ _ p.object q.object refl refl (ap (past 5) (sym (lines_row x r) ∙ e ∙ lines_row y s)) in
      let state = name_same strings x.state y.state _ _ p.state q.state refl refl object.rest in
      let function = name_same strings x.function y.function _ _ p.function q.function refl refl state.rest in
      let kind = number_field x.kind y.kind _ _ (omega (arith, p.kind)) (omega (arith, q.kind)) (behind_numbers x.lines r) (behind_numbers y.lines s) function.rest in
      let numbers = numbers_same x.lines y.lines r s p.lines q.lines kind.rest in
      record { first = λ i. record { object = object.first i; state = state.first i; function = function.first i; kind = kind.first i; lines = numbers.first i }; rest = numbers.rest }

  debug_none : (r : List ℕ) → form.debug (reference strings) None ++ r ≡ codes "nodebug" ++ 10 ∷ r
  unfolding form.debug
  debug_none r = refl

  debug_row : (d : PlainDebug) (r : List ℕ) → form.debug (reference strings) (Some d) ++ r ≡ codes "debug" ++ (number d.time ++ 10 ∷ (flat_map (form.lines (reference strings)) d.functions ++ r))
  unfolding form.debug
  debug_row d r = simp append_assoc

  pub debug_rank : (d : Option PlainDebug) (r : List ℕ) → rank (form.debug (reference strings) d ++ r) ≡ 11
  debug_rank None r = ap rank (debug_none r)
  debug_rank (Some d) r = ap rank (debug_row d r)

  pub debug_same : (d f : Option PlainDebug) (r s : List ℕ) → IfSome d (IsShapedDebug (length strings)) → IfSome f (IsShapedDebug (length strings)) → (rank r ≡ 10 → ⊥) → (rank s ≡ 10 → ⊥)
      → form.debug (reference strings) d ++ r ≡ form.debug (reference strings) f ++ s → Same d f r s
  debug_same None None r s p q other no_more e = record { first = refl; rest = ap (past 8) (sym (debug_none r) ∙ e ∙ debug_none s) }
  debug_same None (Some f) r s p q other no_more e = absurd (eqb-false 110 100 refl (ap front (sym (debug_none r) ∙ e ∙ debug_row f s)))
  debug_same (Some d) None r s p q other no_more e = absurd (eqb-false 100 110 refl (ap front (sym (debug_row d r) ∙ e ∙ debug_none s)))
  debug_same (Some d) (Some f) r s p q other no_more e =
      let time = number_field d.time f.time _ _ p.time q.time refl refl (ap (past 5) (sym (debug_row d r) ∙ e ∙ debug_row f s)) in
      let functions = each_same (IsShapedLines (length strings)) (form.lines (reference strings)) 10 0 (omega arith) lines_rank (λ x y t w h k high top. lines_same x y t w h k) d.functions f.functions r s
      p.functions q.functions (omega arith) (omega arith) other no_more (ap (past 1) time.rest) in
      record { first = λ i. Some (record { time = time.first i; functions = functions.first i }); rest = functions.rest }

  flag_row : (f : ℕ × ℕ) (r : List ℕ) → form.flag (reference strings) f ++ r ≡ codes "flag" ++ (form.name (reference strings) f.0 ++ (number f.1 ++ 10 ∷ r))
  flag_row f r = simp append_assoc

  pub flag_rank : (f : ℕ × ℕ) (r : List ℕ) → IsShapedFlag (length strings) f → rank (form.flag (reference strings) f ++ r) ≡ 9
  flag_rank f r shaped = ap rank (flag_row f r)

  pub flag_same : (f g : ℕ × ℕ) (r s : List ℕ) → IsShapedFlag (length strings) f → IsShapedFlag (length strings) g → form.flag (reference strings) f ++ r ≡ form.flag (reference strings) g ++ s → Same f g r s
  flag_same f g r s p q e =
      let name = name_same strings f.0 g.0 _ _ p.name q.name refl refl (ap (past 4) (sym (flag_row f r) ∙ e ∙ flag_row g s)) in
      let index = number_field f.1 g.1 _ _ (omega (arith, p.index)) (omega (arith, q.index)) refl refl name.rest in
      record { first = λ i. (name.first i, index.first i); rest = ap (past 1) index.rest }
