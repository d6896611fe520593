use Rattle.std.proofs.Common.{arith, ◌≡◌, ◌∙◌, sym, map, ℕ, ◌<◌, ◌≤◌, length, Bool, List}
use Rattle.std.proofs.lemmas.Bool.Decides.{nat_tests}
use Rattle.std.proofs.lemmas.List.{length-map}
use Rattle.std.proofs.lemmas.List.Folds.{list_all-map}
use Rattle.std.specs.List.{list_all}
use Rattle.std.specs.String.{string_bytes}
use Rattle.papyrus_cmd.specs.Command.{is_file_word, are_pex_words}
use Rattle.papyrus_cmd.proofs.command.are_pex_words.Goals as goal

-- words within the limit are files where each of them is one
within_limit : (words : List (List ℕ)) (r : Bool) → 0 < length words → length words ≤ 256 → r ≡ list_all is_file_word words → r ≡ are_pex_words words
within_limit words r some few e = grind (arith, nat_tests)

pub returns : goal.returns
returns c =
    let size : length (map string_bytes c.args.words.now) ≡ length c.args.words.now = length-map c.args.words.now string_bytes in
    within_limit (map string_bytes c.args.words.now) c.each_is_file_word.result (grind (arith, nat_tests)) (omega arith)
    (c.each_is_file_word.ensures ∙ sym (list_all-map is_file_word string_bytes c.args.words.now))
