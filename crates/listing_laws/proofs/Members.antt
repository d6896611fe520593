-- The variables, properties and objects of a listing break no rule.
use Rattle.std.proofs.Common.{◌≡◌, ℕ, suc, ◌+◌, true, List, [], ◌∷◌, ◌++◌, length, Option, Some, None, is_some, refl, sym, ap, ◌∙◌, append_assoc, arith}
use Rattle.std.specs.Prelude.{codes, IfSome}
use Rattle.std.specs.Fmt.{decimal}
use Rattle.std.specs.List.{flat_map}
use Rattle.std.proofs.lemmas.Bool.{lt-ltb}
use Rattle.pex_values.specs.Bits as bits_of
use Rattle.pex_values.specs.declared.values.PexVariable.{PexVariable}
use Rattle.pex_values.specs.declared.values.SizeForm.{SizeForm}
use Rattle.pex_values.specs.declared.values.SizeForm.TheVariants.{Counted, Bare}
use Rattle.pex_values.specs.Fit.{FitsState, FitsProperty, FitsObject}
use Rattle.pex_values.specs.Plain.{PlainProperty, PlainObject}
use Rattle.pex_values.specs.Shape.{IsReference, IsShapedState, IsShapedVariable, IsShapedProperty, IsShapedObject}
use Rattle.pex_values.specs.Spelling as spell
use Rattle.pex_values.proofs.Sizes.{variable_size, property_size, object_data_size, object_size}
use Rattle.pex_listing.specs.Breaks.{Awaited, Many, Form, a_field, a_name, a_number, a_value, accessor_lines, asked, done, judged, least_bytes, line_of, object_lines, own_variable, paid, property_end, size_rule, some_flags}
use Rattle.pex_listing.specs.Lines.{reference}
use Rattle.pex_listing.specs.Listing as form
use Rattle.pex_listing.proofs.Cuts.{is_token}
use Rattle.pex_listing.proofs.OneField.{decimal_token, reference_token}
use Rattle.pex_listing.proofs.Unbroken.{reference_unbroken}
use Rattle.listing_laws.proofs.Steps.{AreTokens, Clean, OneClean, clear, each_clean, fields_clean, none_more, row, same_awaited, same_room, same_text, weaken}
use Rattle.listing_laws.proofs.Forms.{datum_fields, datum_row, datum_tokens, beside, flags_rule, number_so, tokens_both, value_so}
use Rattle.listing_laws.proofs.Parts.{IsState, accessor_bytes, accessor_clean, beyond, both, read_line, state_clean, write_line}

module _ (strings : List (List ℕ)) where
  -- ---- variables

  abbrev variable_fields : PexVariable → List (List ℕ)
  variable_fields v = reference strings v.name ∷ reference strings v.kind ∷ decimal v.flags ∷ datum_fields strings v.value ++ []

  variable_row : (v : PexVariable) (r : List ℕ) → form.variable (reference strings) v ++ r ≡ codes "variable" ++ row (variable_fields v) r
  unfolding form.variable
  variable_row v r =
      let whole : form.variable (reference strings) v ++ r ≡ codes "variable" ++ (32 ∷ (reference strings v.name ++ (32 ∷ (reference strings v.kind ++ (32 ∷ (decimal v.flags ++ (form.datum (reference strings) v.value ++ row [] r))))))) = simp append_assoc in
      whole ∙ ap (λ t. codes "variable" ++ (32 ∷ (reference strings v.name ++ (32 ∷ (reference strings v.kind ++ (32 ∷ (decimal v.flags ++ t))))))) (datum_row strings v.value [] r)

  variable_line : (text : List ℕ) (fs : List (List ℕ)) → line_of strings (codes "variable") text fs ≡ paid 8 (a_name strings (a_name strings (some_flags (a_value strings (done [] []))))) fs
  unfolding line_of
  variable_line text fs = refl

  variable_form : (v : PexVariable) → IsShapedVariable (length strings) v → paid 8 (a_name strings (a_name strings (some_flags (a_value strings (done [] []))))) (variable_fields v) ≡ clear (8 + (length (spell.datum v.value) + 0)) [] []
  variable_form v shaped = λ i. beside 8 (judged (reference_unbroken strings v.name shaped.name i) (judged (reference_unbroken strings v.kind shaped.kind i)
      (judged (flags_rule v.flags shaped.flags i) (value_so strings 0 [] (done [] []) v.value [] shaped.value refl i))))

  variable_clean : (awaited : List Awaited) → OneClean (IsShapedVariable (length strings)) (form.variable (reference strings)) spell.variable strings 5 (codes "variable" ∷ []) refl awaited
  variable_clean awaited = λ v n rest r holds few next.
      let line = codes "variable" ++ row (variable_fields v) r in
      let before = Many (codes "variable" ∷ []) n ∷ awaited in
      let bytes = 8 + (length (spell.datum v.value) + 0) in
      same_text 5 before strings (length (spell.variable v) + rest) line _ (variable_row v r)
      (same_room 5 before strings (bytes + rest) line (length (spell.variable v) + rest) (omega (arith, variable_size v))
      (fields_clean 5 before strings (codes "variable") bytes rest [] r (omega arith) (lt-ltb n 65535 few) (variable_fields v) refl
      (reference_token strings v.name holds.name, (reference_token strings v.kind holds.kind, (decimal_token v.flags (omega (arith, holds.flags)), tokens_both strings (datum_fields strings v.value) [] (datum_tokens strings v.value holds.value) tt)))
      (λ text. variable_line text (variable_fields v) ∙ variable_form v holds)
      (weaken 0 5 (Many (codes "variable" ∷ []) (suc n) ∷ awaited) strings rest r (omega arith) next)))

  -- ---- properties

  abbrev pub IsProperty : PlainProperty → Type 0
  IsProperty p = IsShapedProperty (length strings) p × FitsProperty p

  abbrev own_fields : Option ℕ → List (List ℕ)
  own_fields None = []
  own_fields (Some place) = reference strings place ∷ []

  abbrev property_fields : PlainProperty → List (List ℕ)
  property_fields p = reference strings p.name ∷ reference strings p.kind ∷ reference strings p.doc ∷ decimal p.flags ∷ decimal p.bits ∷ own_fields p.variable

  own_row : (o : Option ℕ) (r : List ℕ) → form.own_variable (reference strings) o ++ row [] r ≡ row (own_fields o) r
  own_row None r = refl
  own_row (Some place) r = refl

  own_tokens : (o : Option ℕ) → IfSome o (IsReference (length strings)) → AreTokens (own_fields o)
  own_tokens None shaped = tt
  own_tokens (Some place) shaped = (reference_token strings place shaped, tt)

  abbrev accessors : PlainProperty → List ℕ → List ℕ
  accessors p r = form.accessor (reference strings) (codes "read") p.read ++ (form.accessor (reference strings) (codes "write") p.write ++ r)

  property_row : (p : PlainProperty) (r : List ℕ) → form.property (reference strings) p ++ r ≡ codes "property" ++ row (property_fields p) (accessors p r)
  unfolding form.property_line
  property_row p r =
      let front = λ (t : List ℕ). codes "property" ++ (32 ∷ (reference strings p.name ++ (32 ∷ (reference strings p.kind ++ (32 ∷ (reference strings p.doc ++ (32 ∷ (decimal p.flags ++ (32 ∷ (decimal p.bits ++ t)))))))))) in
      let whole : form.property (reference strings) p ++ r ≡ front (form.own_variable (reference strings) p.variable ++ row [] (accessors p r)) = simp append_assoc in
      whole ∙ ap front (own_row p.variable (accessors p r))

  property_text : (text : List ℕ) (fs : List (List ℕ)) → line_of strings (codes "property") text fs ≡ paid 11 (a_name strings (a_name strings (a_name strings (some_flags (a_number 0 255 (property_end strings)))))) fs
  unfolding line_of
  property_text text fs = refl

  own_so : (x : Form) (o : Option ℕ) (bytes : ℕ) (inside : List Awaited) → IfSome o (IsReference (length strings)) → x [] ≡ clear bytes inside []
      → own_variable strings (is_some o) x (own_fields o) ≡ clear (length (spell.optional spell.two_bytes o) + bytes) inside []
  own_so x None bytes inside shaped e = e ∙ ap (λ n. clear n inside []) (none_more bytes)
  own_so x (Some place) bytes inside shaped e = λ i. beside 2 (judged (reference_unbroken strings place shaped i) (e i))

  abbrev least : PlainProperty → ℕ
  least p = least_bytes (bits_of.has_read p.bits) + least_bytes (bits_of.has_write p.bits)

  end_so : (p : PlainProperty) → IsShapedProperty (length strings) p → property_end strings p.bits (own_fields p.variable) ≡ clear (length (spell.optional spell.two_bytes p.variable) + (least p + 0)) (accessor_lines p.bits) []
  end_so p shaped =
      ap (λ b. own_variable strings b (paid (least p) (done (accessor_lines p.bits) [])) (own_fields p.variable)) (sym shaped.has_variable)
      ∙ own_so (paid (least p) (done (accessor_lines p.bits) [])) p.variable (least p + 0) (accessor_lines p.bits) shaped.variable refl

  abbrev property_bytes : PlainProperty → ℕ
  property_bytes p = 11 + (length (spell.optional spell.two_bytes p.variable) + (least p + 0))

  property_form : (p : PlainProperty) → IsShapedProperty (length strings) p
      → paid 11 (a_name strings (a_name strings (a_name strings (some_flags (a_number 0 255 (property_end strings)))))) (property_fields p) ≡ clear (property_bytes p) (accessor_lines p.bits) []
  property_form p shaped = λ i. beside 11 (judged (reference_unbroken strings p.name shaped.name i) (judged (reference_unbroken strings p.kind shaped.kind i) (judged (reference_unbroken strings p.doc shaped.doc i)
      (judged (flags_rule p.flags shaped.flags i)
      (number_so (length (spell.optional spell.two_bytes p.variable) + (least p + 0)) (accessor_lines p.bits) [] 0 255 (property_end strings) p.bits (own_fields p.variable) (omega arith) (omega (arith, shaped.bits)) (omega arith) (end_so p shaped) i)))))

  property_room : (p : PlainProperty) (rest : ℕ) → IsShapedProperty (length strings) p → length (spell.property p) + rest ≡ property_bytes p + (beyond strings p.read + (beyond strings p.write + rest))
  property_room p rest shaped =
      let read : least_bytes (is_some p.read) ≡ least_bytes (bits_of.has_read p.bits) = ap least_bytes shaped.has_read in
      let write : least_bytes (is_some p.write) ≡ least_bytes (bits_of.has_write p.bits) = ap least_bytes shaped.has_write in
      omega (arith, property_size p, accessor_bytes strings p.read, accessor_bytes strings p.write, read, write)

  property_clean : (awaited : List Awaited) → OneClean IsProperty (form.property (reference strings)) spell.property strings 6 (codes "property" ∷ []) refl awaited
  property_clean awaited = λ p n rest r holds few next.
      let shaped = holds.0 in
      let line = codes "property" ++ row (property_fields p) (accessors p r) in
      let before = Many (codes "property" ∷ []) n ∷ awaited in
      let after = Many (codes "property" ∷ []) (suc n) ∷ awaited in
      let room = beyond strings p.read + (beyond strings p.write + rest) in
      let write = accessor_clean strings (codes "write") (write_line strings) (omega arith) refl refl p.write after rest r shaped.write holds.1.write (weaken 3 6 after strings rest r (omega arith) next) in
      let read = accessor_clean strings (codes "read") (read_line strings) (omega arith) refl refl p.read (asked (is_some p.write) (codes "write") ++ after) (beyond strings p.write + rest)
      (form.accessor (reference strings) (codes "write") p.write ++ r) shaped.read holds.1.read write in
      let inside : accessor_lines p.bits ++ after ≡ asked (is_some p.read) (codes "read") ++ (asked (is_some p.write) (codes "write") ++ after) =
      append_assoc (asked (bits_of.has_read p.bits) (codes "read")) (asked (bits_of.has_write p.bits) (codes "write")) after
      ∙ ap (λ b. asked b (codes "read") ++ (asked (bits_of.has_write p.bits) (codes "write") ++ after)) (sym shaped.has_read)
      ∙ ap (λ b. asked (is_some p.read) (codes "read") ++ (asked b (codes "write") ++ after)) (sym shaped.has_write) in
      same_text 6 before strings (length (spell.property p) + rest) line _ (property_row p r)
      (same_room 6 before strings (property_bytes p + room) line (length (spell.property p) + rest) (property_room p rest shaped)
      (fields_clean 6 before strings (codes "property") (property_bytes p) room (accessor_lines p.bits) (accessors p r) (omega arith) (lt-ltb n 65535 few) (property_fields p) refl
      (reference_token strings p.name shaped.name, (reference_token strings p.kind shaped.kind, (reference_token strings p.doc shaped.doc, (decimal_token p.flags (omega (arith, shaped.flags)), (decimal_token p.bits (omega (arith, shaped.bits)), own_tokens p.variable shaped.variable)))))
      (λ text. property_text text (property_fields p) ∙ property_form p shaped)
      (same_awaited 0 (asked (is_some p.read) (codes "read") ++ (asked (is_some p.write) (codes "write") ++ after)) strings room (accessors p r) (accessor_lines p.bits ++ after) inside
      (weaken 0 3 (asked (is_some p.read) (codes "read") ++ (asked (is_some p.write) (codes "write") ++ after)) strings room (accessors p r) (omega arith) read))))

  -- ---- objects

  abbrev pub IsObject : PlainObject → Type 0
  IsObject o = IsShapedObject (length strings) o × FitsObject o

  abbrev size_word : SizeForm → List ℕ
  size_word Counted = codes "counted"
  size_word Bare = codes "bare"

  size_front : (z : SizeForm) (t : List ℕ) → form.size_form z ++ t ≡ 32 ∷ (size_word z ++ t)
  size_front Counted t = refl
  size_front Bare t = refl

  size_so : (z : SizeForm) → size_rule (size_word z) ≡ None
  size_so Counted = refl
  size_so Bare = refl

  size_token : (z : SizeForm) → is_token (size_word z) ≡ true
  size_token Counted = refl
  size_token Bare = refl

  abbrev object_fields : PlainObject → List (List ℕ)
  object_fields o = reference strings o.name ∷ size_word o.size_form ∷ reference strings o.parent ∷ reference strings o.doc ∷ decimal o.flags ∷ reference strings o.auto_state ∷ []

  abbrev members : PlainObject → List ℕ → List ℕ
  members o r = flat_map (form.variable (reference strings)) o.variables ++ (flat_map (form.property (reference strings)) o.properties ++ (flat_map (form.state (reference strings)) o.states ++ r))

  object_row : (o : PlainObject) (r : List ℕ) → form.object (reference strings) o ++ r ≡ codes "object" ++ row (object_fields o) (members o r)
  unfolding form.object form.object_line
  object_row o r =
      let behind = 32 ∷ (reference strings o.parent ++ (32 ∷ (reference strings o.doc ++ (32 ∷ (decimal o.flags ++ (32 ∷ (reference strings o.auto_state ++ row [] (members o r)))))))) in
      let whole : form.object (reference strings) o ++ r ≡ codes "object" ++ (32 ∷ (reference strings o.name ++ (form.size_form o.size_form ++ behind))) = simp append_assoc in
      whole ∙ ap (λ t. codes "object" ++ (32 ∷ (reference strings o.name ++ t))) (size_front o.size_form behind)

  object_text : (text : List ℕ) (fs : List (List ℕ)) → line_of strings (codes "object") text fs
      ≡ paid 22 (a_name strings (a_field size_rule (a_name strings (a_name strings (some_flags (a_name strings (done object_lines []))))))) fs
  unfolding line_of
  object_text text fs = refl

  object_form : (o : PlainObject) → IsShapedObject (length strings) o
      → paid 22 (a_name strings (a_field size_rule (a_name strings (a_name strings (some_flags (a_name strings (done object_lines []))))))) (object_fields o) ≡ clear 22 object_lines []
  object_form o shaped = λ i. beside 22 (judged (reference_unbroken strings o.name shaped.name i) (judged (size_so o.size_form i) (judged (reference_unbroken strings o.parent shaped.parent i) (judged (reference_unbroken strings o.doc shaped.doc i)
      (judged (flags_rule o.flags shaped.flags i) (judged (reference_unbroken strings o.auto_state shaped.auto_state i) (clear 0 object_lines [])))))))

  abbrev member_bytes : PlainObject → ℕ → ℕ
  member_bytes o rest = length (flat_map spell.variable o.variables) + (length (flat_map spell.property o.properties) + (length (flat_map spell.state o.states) + rest))

  members_clean : (o : PlainObject) (awaited : List Awaited) (rest : ℕ) (r : List ℕ) → IsObject o → Clean 8 awaited strings rest r → Clean 5 (object_lines ++ awaited) strings (member_bytes o rest) (members o r)
  members_clean o awaited rest r holds next =
      let shaped = holds.0 in
      let fits = holds.1 in
      let to_states = flat_map (form.state (reference strings)) o.states ++ r in
      let states = each_clean (IsState strings) (form.state (reference strings)) spell.state strings 7 (codes "state" ∷ []) refl awaited (state_clean strings awaited) o.states 0 rest r
      (both strings (IsShapedState (length strings)) FitsState o.states shaped.states fits.each_state) (omega (arith, fits.states)) next in
      let properties = each_clean IsProperty (form.property (reference strings)) spell.property strings 6 (codes "property" ∷ []) refl (Many (codes "state" ∷ []) 0 ∷ awaited) (property_clean (Many (codes "state" ∷ []) 0 ∷ awaited)) o.properties 0
      (length (flat_map spell.state o.states) + rest) to_states (both strings (IsShapedProperty (length strings)) FitsProperty o.properties shaped.properties fits.each_property) (omega (arith, fits.properties)) states in
      each_clean (IsShapedVariable (length strings)) (form.variable (reference strings)) spell.variable strings 5 (codes "variable" ∷ []) refl (Many (codes "property" ∷ []) 0 ∷ Many (codes "state" ∷ []) 0 ∷ awaited)
      (variable_clean (Many (codes "property" ∷ []) 0 ∷ Many (codes "state" ∷ []) 0 ∷ awaited)) o.variables 0 (length (flat_map spell.property o.properties) + (length (flat_map spell.state o.states) + rest))
      (flat_map (form.property (reference strings)) o.properties ++ to_states) shaped.variables (omega (arith, fits.variables)) properties

  pub object_clean : (awaited : List Awaited) → OneClean IsObject (form.object (reference strings)) spell.object strings 8 (codes "object" ∷ []) refl awaited
  object_clean awaited = λ o n rest r holds few next.
      let shaped = holds.0 in
      let line = codes "object" ++ row (object_fields o) (members o r) in
      let before = Many (codes "object" ∷ []) n ∷ awaited in
      let after = Many (codes "object" ∷ []) (suc n) ∷ awaited in
      same_text 8 before strings (length (spell.object o) + rest) line _ (object_row o r)
      (same_room 8 before strings (22 + member_bytes o rest) line (length (spell.object o) + rest) (omega (arith, object_size o, object_data_size o))
      (fields_clean 8 before strings (codes "object") 22 (member_bytes o rest) object_lines (members o r) (omega arith) (lt-ltb n 65535 few) (object_fields o) refl
      (reference_token strings o.name shaped.name, (size_token o.size_form, (reference_token strings o.parent shaped.parent, (reference_token strings o.doc shaped.doc, (decimal_token o.flags (omega (arith, shaped.flags)), (reference_token strings o.auto_state shaped.auto_state, tt))))))
      (λ text. object_text text (object_fields o) ∙ object_form o shaped)
      (weaken 0 5 (object_lines ++ after) strings (member_bytes o rest) (members o r) (omega arith) (members_clean o after rest r holds next))))
