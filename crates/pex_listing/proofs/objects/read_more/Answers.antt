use Rattle.std.proofs.Common.{◌≡◌, ◌+◌, Bool, true, false, [], List, length, vec_len, refl, ap, sym, ◌∙◌, subst, rules, arith}
use Rattle.std.specs.Prelude.{⊤, ℕ}
use Rattle.std.specs.List.{flat_map, AllByRecursion}
use Rattle.std.proofs.lemmas.Bool.{false≢true}
use Rattle.pex_values.specs.declared.values.Datum.{Datum}
use Rattle.pex_values.specs.Shape.{IsShapedDatum}
use Rattle.pex_values.specs.Spelling as spell
use Rattle.pex_listing.specs.declared.listing.Listing.{Listing}
use Rattle.pex_listing.specs.declared.strings.StringWords.{StringWords}
use Rattle.pex_listing.specs.Listing as form
use Rattle.pex_listing.specs.Breaks.{Awaited, all_values, done, values_behind}
use Rattle.pex_listing.specs.Left.{Leaves, Pays, has_field, line_left, view}
use Rattle.pex_listing.specs.Opened.{Gives, Spends}
use Rattle.pex_listing.specs.Reading.{more_bytes}
use Rattle.pex_listing.specs.Spelled.{spelled_in}
use Rattle.pex_listing.proofs.Following.{no_more, some_field, value_next}
use Rattle.pex_listing.proofs.Parts.{ReadsFields, fields_nothing, fields_more}
use Rattle.pex_listing.proofs.Taken.{spent_takes}
use Rattle.pex_listing.proofs.objects.read_more.Goals as goal

abbrev More : StringWords → Bool → Listing → Listing → List Datum → Type 0
More names may old new ds = Gives (AllByRecursion (IsShapedDatum (vec_len names.spelled)) ds) (flat_map (form.datum (spelled_in names)) ds) (more_bytes may + length (flat_map spell.datum ds)) old new

some_more : (names : StringWords) (may : Bool) (old between new : Listing) (ds : List Datum) → may ≡ true → Spends 5 old between
    → ReadsFields (IsShapedDatum (vec_len names.spelled)) (form.datum (spelled_in names)) spell.datum between new ds → More names may old new ds
some_more names may old between new ds is spends read = subst (λ b. More names b old new ds) (sym is) (record { takes = spent_takes spends read.takes; holds = read.each })

no_more_values : (names : StringWords) (may : Bool) (l : Listing) (ds : List Datum) → may ≡ false → ds ≡ [] → More names may l l ds
no_more_values names may l ds is none =
    let read = fields_nothing (IsShapedDatum (vec_len names.spelled)) (form.datum (spelled_in names)) spell.datum l ds none in
    subst (λ b. More names b l l ds) (sym is) (record {
      takes = record { good = read.takes.good; taken = read.takes.taken; shorter = read.takes.shorter; room = λ good. omega (arith, read.takes.room good); rest = read.takes.rest };
      holds = read.each;
    })

pub loop-values-init : goal.loop-values-init
loop-values-init c = record {
  read = fields_nothing (IsShapedDatum (vec_len c.args.names.now.spelled)) (form.datum (spelled_in c.args.names.now)) spell.datum c.spend.new.self _ c.new-values.ensures.items;
  left = λ strings table s awaited. refl;
}

pub loop-values-preserved : goal.loop-values-preserved
loop-values-preserved c =
    let has = sym c.loop-values-test.ensures in
    let text = some_field (view c.loop-values.listing) has in
    record {
      read = fields_more c.read_datum.result _ c.loop-values.invariant.read c.read_datum.ensures.gives c.in_ok-push.ensures.items;
      left = λ strings table s awaited.
          c.loop-values.invariant.left strings table s awaited
          ∙ value_next strings s awaited (view c.loop-values.listing) text.0 text.1
          ∙ (c.read_datum.ensures.left strings table).left s awaited (all_values strings);
    }

pub loop-values-smaller : goal.loop-values-smaller
loop-values-smaller c = c.read_datum.ensures.shorter (sym c.loop-values-test.ensures)

left_none : (strings : List (List ℕ)) (may : Bool) (l : Listing) → may ≡ false → Leaves ⊤ (λ _. values_behind strings may) (λ _. done [] []) l l
left_none strings may l is = record { left = λ s awaited k. ap (λ b. line_left s awaited (values_behind strings b) (view l)) is }

left_some : (strings : List (List ℕ)) (may : Bool) (old spent new : Listing) → may ≡ true → Pays 5 old spent → has_field (view new) ≡ false
    → ((s : List (List ℕ)) (awaited : List Awaited) → line_left s awaited (all_values strings) (view spent) ≡ line_left s awaited (all_values strings) (view new))
    → Leaves ⊤ (λ _. values_behind strings may) (λ _. done [] []) old new
left_some strings may old spent new is pays none read = record {
  left = λ s awaited k.
      ap (λ b. line_left s awaited (values_behind strings b) (view old)) is
      ∙ pays.left s awaited (all_values strings)
      ∙ read s awaited
      ∙ no_more s awaited (all_values strings) refl (view new) none;
}

pub returns-then-not-may_follow : goal.returns-then-not-may_follow
returns-then-not-may_follow c =
    let no : c.args.may_follow ≡ false = search rules in
    record {
      values = no_more_values c.args.names.now c.args.may_follow c.args.listing.now _ no c.new-values.ensures.items;
      none = λ is. c.new-values.ensures.items;
      left = λ strings table. left_none strings c.args.may_follow c.args.listing.now no;
    }

pub returns : goal.returns
returns c =
    let may : c.args.may_follow ≡ true = search rules in
    record {
      values = some_more c.args.names.now c.args.may_follow c.args.listing.now c.spend.new.self c.loop-values.listing _ may c.spend.ensures.spends c.loop-values.invariant.read;
      none = λ is. absurd (false≢true (sym is ∙ may));
      left = λ strings table.
          left_some strings c.args.may_follow c.args.listing.now c.spend.new.self c.loop-values.listing may c.spend.ensures.pays (sym c.loop-values-test.ensures) (c.loop-values.invariant.left strings table);
    }
