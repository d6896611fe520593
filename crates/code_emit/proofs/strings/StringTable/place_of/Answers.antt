use Rattle.std.proofs.Common.{◌≡◌, ℕ, ◌≤◌, List, length, map, Option, Some, refl, sym, ap, subst, ◌∙◌, arith, rules, length-append}
use Rattle.std.specs.Prelude.{slice_get, IfSome}
use Rattle.pex_values.specs.Shape.{IsReference}
use Rattle.code_emit.specs.declared.strings.StringTable.TheInside.{Inside}
use Rattle.code_emit.specs.Strings.{Table, home_of, origin_of, with_string}
use Rattle.code_emit.specs.Writing.{GoesOn}
use Rattle.code_emit.proofs.Goes.{more}
use Rattle.code_emit.proofs.Later.{all_later, some_later, reference_later}
use Rattle.code_emit.proofs.Spelling.{noted_on}
use Rattle.code_emit.proofs.StringLemmas.{shown, list_any-shown, shown-insert_key, found_string, found_named, stored_named, with_string_goes}
use Rattle.std.proofs.lemmas.List.{length-map}
use Rattle.std.proofs.lemmas.List.Elements.{same_from_all_zip}
use Rattle.code_emit.proofs.strings.StringTable.place_of.Goals as goal

abbrev table_of : Inside → Table
table_of i = record { home = home_of (origin_of i.source); strings = shown i.numbers.keys }

pub invariant_of-self-2 : goal.invariant_of-self-2
invariant_of-self-2 c =
    let i = c.self.inside in
    let keys = i.numbers.keys in
    let copied : c.in_ok-to_vec.field-0.items ≡ c.args.string.now = search (rules, same_from_all_zip) in
    let is : shown c.insert_full.new.self.keys ≡ with_string (shown keys) c.args.string.now = ap shown c.in_ok-inserted.ensures.keys ∙ shown-insert_key keys c.in_ok-to_vec.field-0 ∙ ap (λ (t : List ℕ). with_string (shown keys) t) copied in
    let goes : GoesOn (table_of i) (record { home = home_of (origin_of i.source); strings = shown c.insert_full.new.self.keys }) = with_string_goes _ _ c.args.string.now refl is in
    let longer : length keys ≤ length c.insert_full.new.self.keys = omega (arith, more goes, length-map keys (λ k. k.items), length-map c.insert_full.new.self.keys (λ k. k.items)) in (
      search rules,
      all_later (λ (place : Option ℕ). IfSome place (IsReference (length keys))) (λ (place : Option ℕ). IfSome place (IsReference (length c.insert_full.new.self.keys))) (λ place is. some_later _ _ (reference_later (length keys) (length c.insert_full.new.self.keys) longer) place is) i.noted.items c.self.invariant.1,
      noted_on _ _ goes i.noted.items c.self.invariant.2,
    )

pub returns-in-Some-clause-added : goal.returns-in-Some-clause-added
returns-in-Some-clause-added c =
    let keys = c.self.inside.numbers.keys in
    let string = c.args.string.now in
    let P : Table → Type 0 = λ t. t.strings ≡ with_string t.strings string in
    subst P c.self.view_is (found_string (shown keys) string (sym (list_any-shown string keys) ∙ sym c.in-Some.ensures.found))

pub returns-in-Some-clause-named : goal.returns-in-Some-clause-named
returns-in-Some-clause-named c =
    let keys = c.self.inside.numbers.keys in
    let P : Table → Type 0 = λ t. slice_get t.strings c.in-Some.place ≡ Some c.args.string.now in
    record { there = subst P c.self.view_is (found_named c.args.string.now keys c.in-Some.place (sym c.get_index_of.ensures.index ∙ c.in-Some.is)) }

pub returns-clause-added : goal.returns-clause-added
returns-clause-added c =
    let keys = c.self.inside.numbers.keys in
    let string = c.args.string.now in
    let copied : c.in_ok-to_vec.field-0.items ≡ c.args.string.now = search (rules, same_from_all_zip) in
    ap shown c.in_ok-inserted.ensures.keys
    ∙ shown-insert_key keys c.in_ok-to_vec.field-0
    ∙ ap (λ (t : List ℕ). with_string (shown keys) t) copied
    ∙ ap (λ (t : Table). with_string t.strings string) c.self.view_is

pub returns-clause-place : goal.returns-clause-place
returns-clause-place c = record {
  below = omega (arith, length-map c.insert_full.new.self.keys (λ k. k.items), c.in_ok-inserted.ensures.within);
  fits = search rules;
}

pub returns-clause-named : goal.returns-clause-named
returns-clause-named c =
    let stored = c.in_ok-inserted.ensures.stored in
    let copied : c.in_ok-to_vec.field-0.items ≡ c.args.string.now = search (rules, same_from_all_zip) in
    let P : List ℕ → Type 0 = λ s. slice_get (shown c.insert_full.new.self.keys) c.in_ok-inserted.inserted.0 ≡ Some s in
    record { there = subst P copied (stored_named c.in_ok-to_vec.field-0.items c.insert_full.new.self.keys _ stored.0 stored.1 stored.2) }

pub returns-clause-goes : goal.returns-clause-goes
returns-clause-goes c =
    let keys = c.self.inside.numbers.keys in
    let string = c.args.string.now in
    let copied : c.in_ok-to_vec.field-0.items ≡ c.args.string.now = search (rules, same_from_all_zip) in
    let is = ap shown c.in_ok-inserted.ensures.keys ∙ shown-insert_key keys c.in_ok-to_vec.field-0 ∙ ap (λ (t : List ℕ). with_string (shown keys) t) copied ∙ ap (λ (t : Table). with_string t.strings string) c.self.view_is in
    with_string_goes _ _ string (ap (λ (t : Table). t.home) c.self.view_is) is
