-- Strings are added.
use Rattle.std.proofs.Common.{◌≡◌, ℕ, ◌≤◌, List, [], ◌++◌, length, refl, sym, ap, subst, ◌∙◌, arith, length-append}
use Rattle.std.proofs.lemmas.List.{append-nil, append_assoc}
use Rattle.code_emit.specs.Strings.{Table}
use Rattle.code_emit.specs.Writing.{GoesOn}

pub goes_nowhere : (old new : Table) → new ≡ old → GoesOn old new
goes_nowhere old new same = record {
  home = ap (λ (t : Table). t.home) same;
  added = [];
  strings = ap (λ (t : Table). t.strings) same ∙ sym (append-nil old.strings);
}

pub goes_further : (first second third : Table) → GoesOn first second → GoesOn second third → GoesOn first third
goes_further first second third one two = record {
  home = two.home ∙ one.home;
  added = one.added ++ two.added;
  strings = two.strings ∙ ap (λ (ss : List (List ℕ)). ss ++ two.added) one.strings ∙ append_assoc first.strings one.added two.added;
}

pub more : {old new : Table} → GoesOn old new → length old.strings ≤ length new.strings
more {old} {new} goes = omega (arith, ap (λ (ss : List (List ℕ)). length ss) goes.strings, length-append old.strings goes.added)

pub ruleset going = (goes_nowhere, goes_further)
