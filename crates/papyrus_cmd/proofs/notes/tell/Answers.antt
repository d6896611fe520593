use Rattle.std.proofs.Common.{◌≡◌, ◌∙◌, sym, ap, map, []}
use Rattle.std.specs.String.{string_bytes}
use Rattle.std.proofs.lemmas.List.{get_or-map, length-map}
use Rattle.command_files.specs.Ending.{word_at}
use Rattle.papyrus_cmd.proofs.notes.tell.Goals as goal

pub returns-in-ReadFault : goal.returns-in-ReadFault
returns-in-ReadFault g c =
    let within = rw (c.in-ReadFault.is, length-map) at c.requires in
    let script = c.index-words-word.result in
    let file : word_at (map string_bytes c.args.words.now) c.in-ReadFault.word ≡ string_bytes script =
    get_or-map string_bytes c.args.words.now c.in-ReadFault.word script [] within ∙ ap string_bytes (sym c.index-words-word.is) in
    let told = rw c.as_bytes.ensures.value at c.tell_unread.ensures in
    rw (c.in-ReadFault.is, file) told

pub returns-in-Refused : goal.returns-in-Refused
returns-in-Refused g c =
    let within = rw (c.in-Refused.is, length-map) at c.requires in
    let script = c.index-words-word-in-Refused.result in
    let file : word_at (map string_bytes c.args.words.now) c.in-Refused.word ≡ string_bytes script =
    get_or-map string_bytes c.args.words.now c.in-Refused.word script [] within ∙ ap string_bytes (sym c.index-words-word-in-Refused.is) in
    let told = rw c.as_bytes-in-Refused.ensures.value at c.tell_refused.ensures in
    rw (c.in-Refused.is, file) told
