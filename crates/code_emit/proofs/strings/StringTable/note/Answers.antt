use Rattle.std.proofs.Common.{◌≡◌, ℕ, ◌≤◌, List, length, map, set, Option, Some, sym, ap, subst, ◌∙◌, arith}
use Rattle.std.proofs.lemmas.List.{length-map}
use Rattle.pex_values.specs.Shape.{IsReference}
use Rattle.code_emit.specs.declared.strings.StringTable.TheInside.{Inside}
use Rattle.code_emit.specs.Strings.{Table, AreNamed, AreNoted, ReadsName, home_of, name_of, origin_of}
use Rattle.code_emit.proofs.Noted.{set_noted, longer_noted, set_named, longer_named}
use Rattle.code_emit.proofs.strings.StringTable.note.Goals as goal
use Rattle.code_emit.proofs.strings.StringTable.note.Goals.{then-slot-len+in_ok-resize, else-slot-len}

abbrev table_of : Inside → Table
table_of i = record { home = home_of (origin_of i.source); strings = map (λ k. k.items) i.numbers.keys }

pub invariant_of-self-2 : goal.invariant_of-self-2
invariant_of-self-2 c =
    let i = c.self.inside in
    let at = c.slot-slot.result in
    let place = c.args.place in
    let name = c.args.name in
    let Named : Table → Type 0 = λ t. ReadsName t.strings place (name_of t.home name) in
    let Placed : Table → Type 0 = λ t. IsReference (length t.strings) place in
    let named : Named (table_of i) = subst Named (sym c.self.view_is) c.requires.named in
    let placed : Placed (table_of i) = subst Placed (sym c.self.view_is) c.requires.place in
    let fits : IsReference (length i.numbers.keys) place = subst (λ (n : ℕ). IsReference n place) (length-map i.numbers.keys (λ k. k.items)) placed in
    let P : Inside → Type 0 = λ j. (length j.numbers.keys ≤ 65535) × AreNoted (length j.numbers.keys) (set j.noted.items at (Some place)) × AreNamed (table_of j) (set j.noted.items at (Some place)) in
    elim c.if-slot-len.branch [
      | then-slot-len+in_ok-resize w ↦
          let Q : List (Option ℕ) → Type 0 = λ noted. (length i.numbers.keys ≤ 65535) × AreNoted (length i.numbers.keys) (set noted at (Some place)) × AreNamed (table_of i) (set noted at (Some place)) in
          subst P (sym w.self-inside-is) (subst Q (sym w.in_ok-resize.ensures.items) (c.self.invariant.0, set_noted _ _ at place (longer_noted _ _ i.noted.items _ c.self.invariant.1) fits, set_named (table_of i) _ name at place c.slot-slot.ensures.place (longer_named (table_of i) _ i.noted.items _ c.self.invariant.2) named))
      | else-slot-len w ↦
          subst P (sym w.self-inside-is) (c.self.invariant.0, set_noted _ i.noted.items at place c.self.invariant.1 fits, set_named (table_of i) i.noted.items name at place c.slot-slot.ensures.place c.self.invariant.2 named)
    ]
