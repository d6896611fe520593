use Rattle.std.proofs.Common.{arith, ◌≡◌, ◌∙◌, sym, map, ℕ, length, Bool, List}
use Rattle.std.proofs.lemmas.Bool.Decides.{nat_tests}
use Rattle.std.proofs.lemmas.List.{length-map}
use Rattle.std.proofs.lemmas.List.Folds.{list_all-map}
use Rattle.std.specs.List.{list_all}
use Rattle.std.specs.String.{string_bytes}
use Rattle.papyrus_cmd.specs.Command.{is_file_word, are_file_words}
use Rattle.papyrus_cmd.proofs.command.are_file_words.Goals as goal

-- so many words are files where each of them is one
of_count : (count : ℕ) (words : List (List ℕ)) (r : Bool) → length words ≡ count → r ≡ list_all is_file_word words → r ≡ are_file_words count words
of_count count words r size e = grind (arith, nat_tests)

pub returns-then-words-count : goal.returns-then-words-count
returns-then-words-count c =
    let size : length (map string_bytes c.args.words.now) ≡ length c.args.words.now = length-map c.args.words.now string_bytes in
    of_count c.args.count (map string_bytes c.args.words.now) c.each_is_file_word.result (omega arith)
    (c.each_is_file_word.ensures ∙ sym (list_all-map is_file_word string_bytes c.args.words.now))
