use Rattle.std.proofs.Common.{arith, ◌≡◌, ◌∙◌, sym, map, ℕ, ◌<◌, ◌≤◌, length, Bool, List}
use Rattle.std.proofs.lemmas.Bool.Decides.{nat_tests}
use Rattle.std.proofs.lemmas.List.{length-map}
use Rattle.std.proofs.lemmas.List.Folds.{list_all-map}
use Rattle.std.specs.List.{list_all}
use Rattle.std.specs.String.{string_bytes}
use Rattle.papyrus_cmd.specs.Command.{are_named, is_named}
use Rattle.papyrus_cmd.proofs.command.are_named.Goals as goal

-- words within the limit have the ending where each of them has it
within_limit : (ending : List ℕ) (words : List (List ℕ)) (r : Bool) → 0 < length words → length words ≤ 256 → r ≡ list_all (is_named ending) words → r ≡ are_named ending words
within_limit ending words r some few e = grind (arith, nat_tests)

pub returns : goal.returns
returns c =
    let size : length (map string_bytes c.args.words.now) ≡ length c.args.words.now = length-map c.args.words.now string_bytes in
    within_limit c.args.ending.now (map string_bytes c.args.words.now) c.each_is_named.result (grind (arith, nat_tests)) (omega arith)
    (c.each_is_named.ensures ∙ sym (list_all-map (is_named c.args.ending.now) string_bytes c.args.words.now))
