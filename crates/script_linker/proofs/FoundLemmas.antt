-- What several searches for a broken rule find, one after another.
use Rattle.std.proofs.Common.{ℕ, zero, suc, ◌≡◌, ◌<◌, ◌⊎◌, List, [], ◌∷◌, ◌++◌, length, map, get_or, Contains, Option, Some, None, IfNone, IfSome, IsSome, IsTrue, is_some, not, Bool, true, false, true≢false, inr, inl, ⊎_elim, refl, sym, ap, subst, ◌∙◌, arith}
use Rattle.std.specs.List.{flat_map}
use Rattle.std.proofs.lemmas.List.{get_or-map, length-map}
use Rattle.std.proofs.lemmas.List.Elements.{Contains-append_left, Contains-append_right, Contains-append_cases}
use Rattle.script_parser.specs.declared.script.Function.{Function}
use Rattle.script_parser.specs.declared.script.Script.{Script}
use Rattle.papy_base.specs.declared.earliest.Earliest.{Earliest}
use Rattle.papy_base.specs.declared.earliest.BrokenRule.{BrokenRule}
use Rattle.script_linker.specs.declared.fault.LinkRule.{LinkRule}
use Rattle.papy_base.specs.Earliest.{FindsAmong}
use Rattle.script_parser.specs.Lines.{function_line, heading_lines, lines_with, property_line, property_lines, state_lines, variable_line}

-- the lines of the first list are among those of the second
pub record AreAmong (few many : List ℕ) : Type 0 where
  pub each : (n : ℕ) → Contains few n → Contains many n

pub FindsAmong-nothing : (lines : List ℕ) (a : Earliest LinkRule) → FindsAmong lines a a
FindsAmong-nothing lines a = record { each = λ found is. inl is; stays = λ none. none }

pub FindsAmong-then : {few many : List ℕ} {a b c : Earliest LinkRule} → AreAmong few many → FindsAmong many a b → FindsAmong few b c → FindsAmong many a c
FindsAmong-then within first second = record {
  each = λ found is.
      ⊎_elim
      (λ before. first.each found before)
      (λ here. inr (within.each found.line here))
      (second.each found is);
  stays = λ none. first.stays (second.stays none);
}

pub AreAmong-all : (lines : List ℕ) → AreAmong lines lines
AreAmong-all lines = record { each = λ n in_few. in_few }

pub AreAmong-left : {few : List ℕ} (left right : List ℕ) → AreAmong few left → AreAmong few (left ++ right)
AreAmong-left left right within = record { each = λ n in_few. Contains-append_left left right n (within.each n in_few) }

pub AreAmong-right : {few : List ℕ} (left right : List ℕ) → AreAmong few right → AreAmong few (left ++ right)
AreAmong-right left right within = record { each = λ n in_few. Contains-append_right left right n (within.each n in_few) }

pub AreAmong-append : {left right many : List ℕ} → AreAmong left many → AreAmong right many → AreAmong (left ++ right) many
AreAmong-append {left} {right} {many} first second = record {
  each = λ n in_few.
      ⊎_elim
      (λ here. first.each n here)
      (λ there. second.each n there)
      (Contains-append_cases left right n in_few);
}

-- a line alone is among others that contain it
pub AreAmong-one : (line : ℕ) (many : List ℕ) → Contains many line → AreAmong (line ∷ []) many
AreAmong-one line many inside = record {
  each = λ n in_few.
      let first : in_few.0 ≡ 0 = omega (arith, in_few.1) in
      let same : line ≡ n = sym (ap (λ k. get_or (line ∷ []) k n) first) ∙ in_few.2 in
      subst (Contains many) same inside;
}

pub AreAmong-first : (line : ℕ) (rest : List ℕ) → AreAmong (line ∷ []) (line ∷ rest)
AreAmong-first line rest = AreAmong-left (line ∷ []) rest (AreAmong-all (line ∷ []))

pub AreAmong-rest : (line : ℕ) (rest : List ℕ) → AreAmong rest (line ∷ rest)
AreAmong-rest line rest = AreAmong-right (line ∷ []) rest (AreAmong-all rest)

pub AreAmong-trans : {few some many : List ℕ} → AreAmong few some → AreAmong some many → AreAmong few many
AreAmong-trans first second = record { each = λ n in_few. second.each n (first.each n in_few) }

pub Contains-map : {X : Type 0} (line_of : X → ℕ) (xs : List X) (i : ℕ) (x : X) → i < length xs → x ≡ get_or xs i x → Contains (map line_of xs) (line_of x)
Contains-map line_of xs i x lt is =
    (i, rw length-map lt, get_or-map line_of xs i x (line_of x) lt ∙ ap line_of (sym is))

-- the lines of one thing of a list are among those of all
pub AreAmong-item : {X : Type 0} (line_of : X → ℕ) (xs : List X) (i : ℕ) (x : X) → i < length xs → x ≡ get_or xs i x → AreAmong (line_of x ∷ []) (map line_of xs)
AreAmong-item line_of xs i x lt is = AreAmong-one (line_of x) (map line_of xs) (Contains-map line_of xs i x lt is)

in_flat_map : {X : Type 0} (lines_of : X → List ℕ) (xs : List X) (i : ℕ) (d : X) (n : ℕ) → i < length xs → Contains (lines_of (get_or xs i d)) n → Contains (flat_map lines_of xs) n
in_flat_map lines_of [] i d n lt here = absurd (omega arith)
in_flat_map lines_of (x ∷ xs) zero d n lt here = Contains-append_left (lines_of x) (flat_map lines_of xs) n here
in_flat_map lines_of (x ∷ xs) (suc i) d n lt here =
    Contains-append_right (lines_of x) (flat_map lines_of xs) n (in_flat_map lines_of xs i d n (omega arith) here)

pub AreAmong-items : {X : Type 0} (lines_of : X → List ℕ) (xs : List X) (i : ℕ) (x : X) → i < length xs → x ≡ get_or xs i x → AreAmong (lines_of x) (flat_map lines_of xs)
AreAmong-items lines_of xs i x lt is = record {
  each = λ n here. in_flat_map lines_of xs i x n lt (subst (λ y. Contains (lines_of y) n) is here);
}

-- each line of the first function is one of the second
AreAmong-each : {X : Type 0} (line_of : X → ℕ) (lines_of : X → List ℕ) (xs : List X) → ((x : X) → Contains (lines_of x) (line_of x)) → AreAmong (map line_of xs) (flat_map lines_of xs)
AreAmong-each {X = X} line_of lines_of xs inside = record { each = λ n in_few. go xs n in_few.0 in_few.1 in_few.2 }
  where
    go : (ys : List X) (n k : ℕ) → k < length (map line_of ys) → get_or (map line_of ys) k n ≡ n → Contains (flat_map lines_of ys) n
    go [] n k lt is = absurd (omega arith)
    go (y ∷ ys) n zero lt is = Contains-append_left (lines_of y) (flat_map lines_of ys) n (subst (Contains (lines_of y)) is (inside y))
    go (y ∷ ys) n (suc k) lt is = Contains-append_right (lines_of y) (flat_map lines_of ys) n (go ys n k (omega arith) is)

-- the parts of the lines of a script with these functions
module _ (functions : List Function) (script : Script) where
  abbrev variables : List ℕ
  variables = map variable_line script.variables.items

  abbrev properties : List ℕ
  properties = flat_map property_lines script.properties.items

  abbrev own : List ℕ
  own = map function_line functions

  abbrev states : List ℕ
  states = flat_map state_lines script.states.items

  abbrev heading : List ℕ
  heading = heading_lines script

  from_properties : {few : List ℕ} → AreAmong few (heading ++ variables ++ properties) → AreAmong few (lines_with functions script)
  from_properties within = AreAmong-left _ states (AreAmong-left _ own within)

  pub of_heading : AreAmong heading (lines_with functions script)
  of_heading = from_properties (AreAmong-left _ properties (AreAmong-left _ variables (AreAmong-all heading)))

  pub of_script : AreAmong (script.line ∷ []) (lines_with functions script)
  of_script = AreAmong-one script.line _ (of_heading.each script.line (0, omega arith, refl))

  pub of_fields : AreAmong (variables ++ map property_line script.properties.items) (lines_with functions script)
  of_fields =
      AreAmong-append
      (from_properties (AreAmong-left _ properties (AreAmong-right heading variables (AreAmong-all variables))))
      (from_properties (AreAmong-right (heading ++ variables) properties (AreAmong-each property_line property_lines script.properties.items (λ property. (0, omega arith, refl)))))

  pub of_properties : AreAmong properties (lines_with functions script)
  of_properties = from_properties (AreAmong-right (heading ++ variables) properties (AreAmong-all properties))

  pub of_functions : AreAmong own (lines_with functions script)
  of_functions = AreAmong-left _ states (AreAmong-right (heading ++ variables ++ properties) own (AreAmong-all own))

  pub of_states : AreAmong states (lines_with functions script)
  of_states = AreAmong-right (heading ++ variables ++ properties ++ own) states (AreAmong-all states)

-- all that was found is on these lines, where nothing was found before
pub found_on : {lines : List ℕ} {a b : Earliest LinkRule} → a.found ≡ None → FindsAmong lines a b → (one : BrokenRule LinkRule) → b.found ≡ Some one → Contains lines one.line
found_on nothing finds one is = ⊎_elim (λ before. cc) (λ here. here) (finds.each one is)

pub IfSome-found_on : {lines : List ℕ} {a b : Earliest LinkRule} → a.found ≡ None → FindsAmong lines a b → IfSome b.found (λ one. Contains lines one.line)
IfSome-found_on {lines} {a} {b} nothing finds = go b.found refl
  where
    go : (found : Option (BrokenRule LinkRule)) → b.found ≡ found → IfSome found (λ one. Contains lines one.line)
    go None is = tt
    go (Some one) is = found_on nothing finds one is

-- the same of a fault at the line of the script in their place
pub limit_on : (functions : List Function) (script : Script) {a b : Earliest LinkRule} → a.found ≡ None → FindsAmong (lines_with functions script) a b → (found : Option (BrokenRule LinkRule)) → IfSome found (λ one. (b.found ≡ Some one) ⊎ (one.line ≡ script.line)) → IfSome found (λ one. Contains (lines_with functions script) one.line)
limit_on functions script nothing finds None is = tt
limit_on functions script nothing finds (Some one) is =
    ⊎_elim
    (λ before. found_on nothing finds one before)
    (λ same. (of_heading functions script).each one.line (0, omega arith, sym same))
    is

-- where nothing is found, a thing that would have been noted breaks no rule
pub unbroken : (is_broken : Bool) (found : Option (BrokenRule LinkRule)) → (IsTrue is_broken → IsSome found) → found ≡ None → ¬ IsTrue is_broken
unbroken is_broken (Some one) noted none = cc
unbroken is_broken None noted none = λ broken. true≢false (sym (noted broken))

-- what was looked up is there, unless r says that nothing was found
pub IsSome-unless : {X : Type 0} {found : Option X} (named : Option X) (r : Bool) → is_some found ≡ not r → found ≡ named → ¬ IsTrue r → IsSome named
IsSome-unless named true says same is_known = absurd (is_known refl)
IsSome-unless named false says same is_known = subst IsSome same says

pub IfNone-from : {X : Type 0} (o : Option X) (P : Type 0) → (o ≡ None → P) → IfNone o P
IfNone-from None P holds = holds refl
IfNone-from (Some x) P holds = tt
