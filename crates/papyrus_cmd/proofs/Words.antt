-- The words behind a command: how many there are, and which of them was missed.
use Rattle.std.proofs.Common.{arith, inl, inr, ◌⊎◌, zero, ◌≡◌, ◌∙◌, ◌<◌, ◌≤◌, ◌+◌, ◌-◌, ◌*◌, ℕ, suc, Bool, true, false, List, [], ◌∷◌, refl, sym, ap, subst, take, drop, map, length, slice_index_or, nat_eq, nat_lt, nat_le, String, Global}
use Rattle.std.specs.Prelude.{Option, None, Some, Contains, codes, ◌&&◌, if◌then◌else◌}
use Rattle.std.specs.List.{list_all}
use Rattle.std.specs.Str.{all_ascii_digits, bytes_eq}
use Rattle.std.specs.String.{string_bytes}
use Rattle.std.proofs.lemmas.Bool.Decides.{nat_tests}
use Rattle.std.proofs.lemmas.Grind.{common_steps}
use Rattle.std.proofs.lemmas.List.{length-map}
use Rattle.papyrus_cmd.specs.declared.command.Command.{Command}
use Rattle.papyrus_cmd.specs.declared.command.Command.TheVariants.{Help, Version, Files, Play}
use Rattle.papyrus_cmd.specs.declared.command.FileCommand.{FileCommand}
use Rattle.papyrus_cmd.specs.declared.command.FileCommand.TheVariants.{Compile, Check, Show, Asm, Upgrade, Waits, Lift}
use Rattle.papyrus_cmd.specs.declared.command.PlayCommand.{PlayCommand}
use Rattle.papyrus_cmd.specs.declared.command.PlayCommand.TheVariants.{Once, Run, Exec, Journal, Hold, Resume, Sample}
use Rattle.command_files.specs.declared.ending.Ending.{Ending}
use Rattle.command_files.specs.declared.ending.Ending.TheVariants.{Done, OutOfMemory, Usage, ReadFault, WriteFault, Refused, NotBuilt}
use Rattle.command_files.specs.Ending.{MissesScript, word_at}
use Rattle.papyrus_cmd.specs.Command.{are_file_words, are_named, are_pex_words, are_script_words, begins_above_zero, command_of, counted_number, either_command, file_command, files_of, files_played, files_read, files_used, hold_command, hold_of, is_file_word, is_named, play_command, read_on, resume_command, resume_of, sample_command, stand_behind_file, turn_count, without_second}
use Rattle.papyrus_cmd.specs.Dispatch.{IsBetween, SuitsFiles, SuitsPlay}
use Rattle.run_commands.specs.Program.{MissesRead}
use Rattle.papyrus_cmd.specs.Missed.{MissesPlayed, MissesWord}
use Rattle.papyrus_cmd.specs.TopCall.{RunsNone, runs_scripts}
use Rattle.papyrus_cmd.proofs.OutputsOf.{names_behind, names-behind}

-- ---- how many

first-true : (a b : Bool) → (a && b) ≡ true → a ≡ true
first-true true b is = refl
first-true false b is = absurd (cc)

both-true : (a b : Bool) → (a && b) ≡ true → b ≡ true
both-true true b is = is
both-true false b is = absurd (cc)

-- words within two limits that each pass a test
limited : (size : ℕ) (all : Bool) → (nat_lt 0 size && (nat_le size 256 && all)) ≡ true → IsBetween 1 256 size
limited size all is =
    let some : nat_lt 0 size ≡ true = first-true (nat_lt 0 size) (nat_le size 256 && all) is in
    let few : nat_le size 256 ≡ true = first-true (nat_le size 256) all (both-true (nat_lt 0 size) (nat_le size 256 && all) is) in
    record { some = grind (arith, nat_tests); few = grind (arith, nat_tests) }

named-words : (ending : List ℕ) (words : List (List ℕ)) → are_named ending words ≡ true → IsBetween 1 256 (length words)
named-words ending words is = limited (length words) (list_all (is_named ending) words) is

script-words : (words : List (List ℕ)) → are_script_words words ≡ true → IsBetween 1 256 (length words)
script-words words is = named-words (codes ".psc") words is

pex-words : (words : List (List ℕ)) → are_pex_words words ≡ true → IsBetween 1 256 (length words)
pex-words words is = limited (length words) (list_all is_file_word words) is

file-words : (count : ℕ) (words : List (List ℕ)) → are_file_words count words ≡ true → IsBetween count count (length words)
file-words count words is =
    let counted : nat_eq (length words) count ≡ true = first-true (nat_eq (length words) count) (list_all is_file_word words) is in
    record { some = grind (arith, nat_tests); few = grind (arith, nat_tests) }

-- one word more stands in front
behind-file : (least most : ℕ) (are : List (List ℕ) → Bool) → ((words : List (List ℕ)) → are words ≡ true → IsBetween least most (length words)) → (words : List (List ℕ)) → stand_behind_file are words ≡ true → IsBetween (least + 1) (most + 1) (length words)
behind-file least most are between [] is = absurd (cc)
behind-file least most are between (file ∷ words) is =
    let within = between words (both-true (is_file_word file) (are words) is) in
    record { some = omega (arith, within.some); few = omega (arith, within.few) }

-- two files before compiled files
two-files : (words : List (List ℕ)) → stand_behind_file (stand_behind_file are_pex_words) words ≡ true → IsBetween 3 258 (length words)
two-files words is = behind-file 2 257 (stand_behind_file are_pex_words) (behind-file 1 256 are_pex_words pex-words) words is

-- digits read on never make a number smaller
read-more : (number : ℕ) (digits : List ℕ) → number ≤ read_on number digits
read-more number [] = omega arith
read-more number (digit ∷ digits) = let more = read-more (10 * number + (digit - 48)) digits in omega arith

above-zero : (word : List ℕ) → begins_above_zero word ≡ true → 1 ≤ read_on 0 word
above-zero [] is = absurd (cc)
above-zero (byte ∷ bytes) is =
    let above : 48 < byte = grind (arith, nat_tests) in
    let more = read-more (10 * 0 + (byte - 48)) bytes in omega arith

counted : (above digits : Bool) (number workers : ℕ) → (above ≡ true → 1 ≤ number) → (if above && (digits && nat_le number 200) then Some number else None) ≡ Some workers → IsBetween 1 200 workers
counted false digits number workers some is = absurd (cc)
counted true false number workers some is = absurd (cc)
counted true true number workers some is = within (nat_le number 200) refl is
  where
    within : (few : Bool) → few ≡ nat_le number 200 → (if few then Some number else None) ≡ Some workers → IsBetween 1 200 workers
    within false same found = absurd (cc)
    within true same found =
        let e : number ≡ workers = cc in
        let one = some refl in
        let most : number ≤ 200 = grind (arith, nat_tests) in
        record { some = omega arith; few = omega arith }

worker-words : (word : List ℕ) (workers : ℕ) → counted_number 200 word ≡ Some workers → IsBetween 1 200 workers
worker-words word workers is = counted (begins_above_zero word) (all_ascii_digits word) (read_on 0 word) workers (above-zero word) is

sampled : (found : Option ℕ) (command : PlayCommand) (count : ℕ) → ((workers : ℕ) → found ≡ Some workers → IsBetween 1 200 workers) → Rattle.papyrus_cmd.specs.Command.sample_of found ≡ Some command → SuitsPlay command count
sampled None command count between is = absurd (cc)
sampled (Some workers) command count between is =
    let e : Sample workers ≡ command = cc in subst (λ c. SuitsPlay c count) e (between workers refl)

sample-words : (words : List (List ℕ)) (command : PlayCommand) (count : ℕ) → sample_command words ≡ Some command → SuitsPlay command count
sample-words [] command count is = absurd (cc)
sample-words (word ∷ []) command count is = sampled (counted_number 200 word) command count (worker-words word) is
sample-words (word ∷ next ∷ words) command count is = absurd (cc)

held : (b : Bool) (found : Option ℕ) (command : PlayCommand) (count : ℕ) → (b ≡ true → IsBetween 4 259 count) → (if b then hold_of found else None) ≡ Some command → SuitsPlay command count
held false found command count between is = absurd (cc)
held true None command count between is = absurd (cc)
held true (Some turns) command count between is = let e : Hold turns ≡ command = cc in subst (λ c. SuitsPlay c count) e (between refl)

hold-words : (words : List (List ℕ)) (command : PlayCommand) → hold_command words ≡ Some command → SuitsPlay command (length words)
hold-words [] command is = absurd (cc)
hold-words (word ∷ words) command is =
    held (stand_behind_file (stand_behind_file are_pex_words) words) (turn_count word) command (length (word ∷ words))
    (λ b. let within = two-files words b in record { some = omega (arith, within.some); few = omega (arith, within.few) }) is

resumed : (b : Bool) (found : Option ℕ) (command : PlayCommand) (count : ℕ) → (b ≡ true → IsBetween 2 2 count) → (if b then resume_of found else None) ≡ Some command → SuitsPlay command count
resumed false found command count between is = absurd (cc)
resumed true None command count between is = absurd (cc)
resumed true (Some turns) command count between is = let e : Resume turns ≡ command = cc in subst (λ c. SuitsPlay c count) e (between refl)

resume-words : (words : List (List ℕ)) (command : PlayCommand) → resume_command words ≡ Some command → SuitsPlay command (length words)
resume-words [] command is = absurd (cc)
resume-words (word ∷ words) command is =
    resumed (are_file_words 1 words) (turn_count word) command (length (word ∷ words))
    (λ b. let within = file-words 1 words b in record { some = omega (arith, within.some); few = omega (arith, within.few) }) is

-- ---- by the command

play-found : (b1 b2 b3 b4 b5 b6 b7 : Bool) (hold resume sample : Option PlayCommand) (command : PlayCommand) (count : ℕ) → (b1 ≡ true → SuitsPlay Once count) → (b2 ≡ true → SuitsPlay Run count) → (b3 ≡ true → SuitsPlay Exec count) → (b4 ≡ true → SuitsPlay Journal count) →
    (hold ≡ Some command → SuitsPlay command count) → (resume ≡ Some command → SuitsPlay command count) → (sample ≡ Some command → SuitsPlay command count) →
    (if b1 then Some Once else if b2 then Some Run else if b3 then Some Exec else if b4 then Some Journal else if b5 then hold else if b6 then resume else if b7 then sample else None) ≡ Some command → SuitsPlay command count
play-found true b2 b3 b4 b5 b6 b7 h r s command count once run exec journal hold resume sample is = let e : Once ≡ command = cc in subst (λ c. SuitsPlay c count) e (once refl)
play-found false true b3 b4 b5 b6 b7 h r s command count once run exec journal hold resume sample is = let e : Run ≡ command = cc in subst (λ c. SuitsPlay c count) e (run refl)
play-found false false true b4 b5 b6 b7 h r s command count once run exec journal hold resume sample is = let e : Exec ≡ command = cc in subst (λ c. SuitsPlay c count) e (exec refl)
play-found false false false true b5 b6 b7 h r s command count once run exec journal hold resume sample is = let e : Journal ≡ command = cc in subst (λ c. SuitsPlay c count) e (journal refl)
play-found false false false false true b6 b7 h r s command count once run exec journal hold resume sample is = hold is
play-found false false false false false true b7 h r s command count once run exec journal hold resume sample is = resume is
play-found false false false false false false true h r s command count once run exec journal hold resume sample is = sample is
play-found false false false false false false false h r s command count once run exec journal hold resume sample is = absurd (cc)

play-suits : (name : List ℕ) (words : List (List ℕ)) (command : PlayCommand) → play_command name words ≡ Some command → SuitsPlay command (length words)
play-suits name words command is =
    play-found (bytes_eq name (codes "once") && are_script_words words) (bytes_eq name (codes "run") && stand_behind_file are_script_words words) (bytes_eq name (codes "exec") && stand_behind_file are_pex_words words) (bytes_eq name (codes "journal") && stand_behind_file (stand_behind_file are_pex_words) words)
    (bytes_eq name (codes "hold")) (bytes_eq name (codes "resume")) (bytes_eq name (codes "sample")) (hold_command words) (resume_command words) (sample_command words) command (length words)
    (λ b. script-words words (both-true (bytes_eq name (codes "once")) (are_script_words words) b))
    (λ b. behind-file 1 256 are_script_words script-words words (both-true (bytes_eq name (codes "run")) (stand_behind_file are_script_words words) b))
    (λ b. behind-file 1 256 are_pex_words pex-words words (both-true (bytes_eq name (codes "exec")) (stand_behind_file are_pex_words words) b))
    (λ b. two-files words (both-true (bytes_eq name (codes "journal")) (stand_behind_file (stand_behind_file are_pex_words) words) b))
    (hold-words words command) (resume-words words command) (sample-words words command (length words)) is

files-found : (b1 b2 b3 b4 b5 b6 b7 : Bool) (command : FileCommand) (count : ℕ) → (b1 ≡ true → SuitsFiles Compile count) → (b2 ≡ true → SuitsFiles Check count) → (b3 ≡ true → SuitsFiles Show count) → (b4 ≡ true → SuitsFiles Asm count) → (b5 ≡ true → SuitsFiles Upgrade count) → (b6 ≡ true → SuitsFiles Waits count) → (b7 ≡ true → SuitsFiles Lift count) →
    (if b1 then Some Compile else if b2 then Some Check else if b3 then Some Show else if b4 then Some Asm else if b5 then Some Upgrade else if b6 then Some Waits else if b7 then Some Lift else None) ≡ Some command → SuitsFiles command count
files-found true b2 b3 b4 b5 b6 b7 command count compile check show asm upgrade waits lift is = let e : Compile ≡ command = cc in subst (λ c. SuitsFiles c count) e (compile refl)
files-found false true b3 b4 b5 b6 b7 command count compile check show asm upgrade waits lift is = let e : Check ≡ command = cc in subst (λ c. SuitsFiles c count) e (check refl)
files-found false false true b4 b5 b6 b7 command count compile check show asm upgrade waits lift is = let e : Show ≡ command = cc in subst (λ c. SuitsFiles c count) e (show refl)
files-found false false false true b5 b6 b7 command count compile check show asm upgrade waits lift is = let e : Asm ≡ command = cc in subst (λ c. SuitsFiles c count) e (asm refl)
files-found false false false false true b6 b7 command count compile check show asm upgrade waits lift is = let e : Upgrade ≡ command = cc in subst (λ c. SuitsFiles c count) e (upgrade refl)
files-found false false false false false true b7 command count compile check show asm upgrade waits lift is = let e : Waits ≡ command = cc in subst (λ c. SuitsFiles c count) e (waits refl)
files-found false false false false false false true command count compile check show asm upgrade waits lift is = let e : Lift ≡ command = cc in subst (λ c. SuitsFiles c count) e (lift refl)
files-found false false false false false false false command count compile check show asm upgrade waits lift is = absurd (cc)

files-suit : (name : List ℕ) (words : List (List ℕ)) (command : FileCommand) → file_command name words ≡ Some command → SuitsFiles command (length words)
files-suit name words command is =
    files-found (bytes_eq name (codes "compile") && are_script_words words) (bytes_eq name (codes "check") && are_file_words 1 words) (bytes_eq name (codes "show") && are_file_words 1 words) (bytes_eq name (codes "asm") && are_file_words 2 words) (bytes_eq name (codes "upgrade") && are_file_words 2 words) (bytes_eq name (codes "waits") && are_file_words 1 words) (bytes_eq name (codes "lift") && are_named (codes ".pex") words) command (length words)
    (λ b. script-words words (both-true (bytes_eq name (codes "compile")) (are_script_words words) b))
    (λ b. file-words 1 words (both-true (bytes_eq name (codes "check")) (are_file_words 1 words) b))
    (λ b. file-words 1 words (both-true (bytes_eq name (codes "show")) (are_file_words 1 words) b))
    (λ b. file-words 2 words (both-true (bytes_eq name (codes "asm")) (are_file_words 2 words) b))
    (λ b. file-words 2 words (both-true (bytes_eq name (codes "upgrade")) (are_file_words 2 words) b))
    (λ b. file-words 1 words (both-true (bytes_eq name (codes "waits")) (are_file_words 1 words) b))
    (λ b. named-words (codes ".pex") words (both-true (bytes_eq name (codes "lift")) (are_named (codes ".pex") words) b)) is

either-play : (play : Option PlayCommand) (files : Option FileCommand) (command : PlayCommand) → either_command play files ≡ Some (Play command) → play ≡ Some command
either-play (Some play) files command is = let e : play ≡ command = cc in ap Some e
either-play None (Some files) command is = absurd (cc)
either-play None None command is = absurd (cc)

either-files : (play : Option PlayCommand) (files : Option FileCommand) (command : FileCommand) → either_command play files ≡ Some (Files command) → files ≡ Some command
either-files (Some play) files command is = absurd (cc)
either-files None (Some files) command is = let e : files ≡ command = cc in ap Some e
either-files None None command is = absurd (cc)

-- a word that stands alone
lone-play : (b1 b2 : Bool) (command : PlayCommand) → (if b1 then Some Help else if b2 then Some Version else None) ≡ Some (Play command) → ⊥
lone-play true b2 command is = cc
lone-play false true command is = cc
lone-play false false command is = cc

lone-files : (b1 b2 : Bool) (command : FileCommand) → (if b1 then Some Help else if b2 then Some Version else None) ≡ Some (Files command) → ⊥
lone-files true b2 command is = cc
lone-files false true command is = cc
lone-files false false command is = cc

play-behind : (words : List (List ℕ)) (command : PlayCommand) → command_of words ≡ Some (Play command) → SuitsPlay command (length (drop 1 words))
play-behind [] command is = absurd (cc)
play-behind (name ∷ []) command is = absurd (lone-play (bytes_eq name (codes "--help")) (bytes_eq name (codes "--version")) command is)
play-behind (name ∷ word ∷ words) command is =
    play-suits name (word ∷ words) command (either-play (play_command name (word ∷ words)) (file_command name (word ∷ words)) command is)

files-behind : (words : List (List ℕ)) (command : FileCommand) → command_of words ≡ Some (Files command) → SuitsFiles command (length (drop 1 words))
files-behind [] command is = absurd (cc)
files-behind (name ∷ []) command is = absurd (lone-files (bytes_eq name (codes "--help")) (bytes_eq name (codes "--version")) command is)
files-behind (name ∷ word ∷ words) command is =
    files-suit name (word ∷ words) command (either-files (play_command name (word ∷ words)) (file_command name (word ∷ words)) command is)

count-behind : (words : List (String Global)) → length (take (length words - 1) (drop 1 words)) ≡ length (drop 1 (map string_bytes words))
count-behind words = sym (length-map (take (length words - 1) (drop 1 words)) string_bytes) ∙ ap length (names-behind words)

pub play_suits : (words : List (String Global)) (command : PlayCommand) → command_of (map string_bytes words) ≡ Some (Play command) → SuitsPlay command (length (take (length words - 1) (drop 1 words)))
play_suits words command is = subst (SuitsPlay command) (sym (count-behind words)) (play-behind (map string_bytes words) command is)

pub files_suit : (words : List (String Global)) (command : FileCommand) → command_of (map string_bytes words) ≡ Some (Files command) → SuitsFiles command (length (take (length words - 1) (drop 1 words)))
files_suit words command is = subst (SuitsFiles command) (sym (count-behind words)) (files-behind (map string_bytes words) command is)

-- the words of a command that runs scripts are of none that doesn't
pub play_runs : (words : List (List ℕ)) (command : PlayCommand) → command_of words ≡ Some (Play command) → RunsNone words → ⊥
play_runs words command is none =
    let P : Option Command → Type 0 = λ found. runs_scripts found ≡ false in
    let no : true ≡ false = subst P is none in absurd (cc)

-- ---- which was missed

-- a word of the first ones behind a command
behind : (d : List ℕ) (n : ℕ) (words : List (List ℕ)) (place : ℕ) → place < length (take n (drop 1 words)) → slice_index_or (take n (drop 1 words)) place d ≡ slice_index_or words (suc place) d
behind d n [] place within = grind (arith, common_steps)
behind d n (name ∷ words) place within = grind (arith, common_steps)

behind-all : (words : List (List ℕ)) (place : ℕ) → place < length (drop 1 words) → word_at (drop 1 words) place ≡ word_at words (suc place)
behind-all [] place within = absurd (omega arith)
behind-all (name ∷ words) place within = refl

-- any default serves where there is a word
any-default : (words : List (List ℕ)) (place : ℕ) (d e : List ℕ) → place < length words → slice_index_or words place d ≡ slice_index_or words place e
any-default words place d e within = grind (arith, common_steps)

missed-first : (n : ℕ) (words : List (List ℕ)) (ending : Ending) (missed : Option (List ℕ)) → files_read words ≡ take n (drop 1 words) → MissesScript (take n (drop 1 words)) ending missed → MissesWord words ending missed
missed-first n words (ReadFault word) missed reads (place, word_is, within, missed_is) =
    let there : suc place < length words = grind (arith, common_steps) in
    let same : word_at (take n (drop 1 words)) place ≡ word_at words (suc place) = behind [] n words place within in
    let here : word_at words word ≡ word_at words (suc place) = ap (word_at words) word_is in
    let found : slice_index_or (take n (drop 1 words)) place (word_at words word) ≡ word_at words word =
    any-default (take n (drop 1 words)) place (word_at words word) [] within ∙ same ∙ sym here in
    record {
      within = omega (arith, word_is, there);
      read = subst (λ xs. Contains xs (word_at words word)) (sym reads) (place, within, found);
      missed_is = missed_is ∙ ap Some (same ∙ sym here);
    }
missed-first n words Done missed reads misses = tt
missed-first n words OutOfMemory missed reads misses = tt
missed-first n words Usage missed reads misses = tt
missed-first n words WriteFault missed reads misses = tt
missed-first n words (Refused word place rule) missed reads misses = tt
missed-first n words NotBuilt missed reads misses = tt

whole : (names : List (List ℕ)) → names ≡ take (length names) names
whole names = grind (arith, common_steps)

used-first : (command : FileCommand) (names : List (List ℕ)) → (n : ℕ) × (files_used command names ≡ take n names)
used-first Compile names = (length names, whole names)
used-first Check names = (length names, whole names)
used-first Show names = (length names, whole names)
used-first Asm names = (1, refl)
used-first Upgrade names = (1, refl)
used-first Waits names = (length names, whole names)
used-first Lift names = (length names, whole names)

-- the first words, all of which are files that are read
first-misses : (command : PlayCommand) (n : ℕ) (words : List (List ℕ)) (ending : Ending) (missed : Option (List ℕ)) → command_of words ≡ Some (Play command) → files_played command (drop 1 words) ≡ take n (drop 1 words) → MissesScript (take n (drop 1 words)) ending missed →
    MissesWord words ending missed
first-misses command n words ending missed is reads misses = missed-first n words ending missed (ap (files_of words) is ∙ reads) misses

-- the word of this number is one of those that name a scene or a compiled file
read-misses : (named first : ℕ) (reads : List (List ℕ)) (words : List (List ℕ)) (ending : Ending) (missed : Option (List ℕ)) → files_read words ≡ reads →
    ((place : ℕ) → place < length (drop 1 words) → (suc place ≡ named) ⊎ (first ≤ suc place) → Contains reads (word_at (drop 1 words) place)) → MissesRead named first (drop 1 words) ending missed → MissesWord words ending missed
read-misses named first reads words (ReadFault word) missed are each (place, word_is, within, which, missed_is) =
    let there : suc place < length words = grind (arith, common_steps) in
    let same : word_at (drop 1 words) place ≡ word_at words (suc place) = behind-all words place within in
    let here : word_at words (suc place) ≡ word_at words word = ap (word_at words) (sym word_is) in
    let holds : Contains reads (word_at (drop 1 words) place) = each place within (subst (λ w. (w ≡ named) ⊎ (first ≤ w)) word_is which) in
    let at_word : Contains reads (word_at words word) = subst (Contains reads) (same ∙ here) holds in
    record {
      within = omega (arith, word_is, there);
      read = subst (λ xs. Contains xs (word_at words word)) (sym are) at_word;
      missed_is = missed_is ∙ ap Some (same ∙ here);
    }
read-misses named first reads words Done missed are each misses = tt
read-misses named first reads words OutOfMemory missed are each misses = tt
read-misses named first reads words Usage missed are each misses = tt
read-misses named first reads words WriteFault missed are each misses = tt
read-misses named first reads words (Refused word place rule) missed are each misses = tt
read-misses named first reads words NotBuilt missed are each misses = tt

-- a word of a list
contains-at : (words : List (List ℕ)) (place : ℕ) → place < length words → Contains words (word_at words place)
contains-at words place within = (place, within, any-default words place (word_at words place) [] within)

-- a word of a list without its second one
contains-rest : (words : List (List ℕ)) (place : ℕ) → place < length words → (suc place ≡ 1) ⊎ (3 ≤ suc place) → Contains (without_second words) (word_at words place)
contains-rest [] place within which = absurd (omega arith)
contains-rest (first ∷ []) zero within which = contains-at (first ∷ []) 0 within
contains-rest (first ∷ []) (suc place) within which = absurd (omega arith)
contains-rest (first ∷ second ∷ words) zero within which = contains-at (first ∷ words) 0 (omega arith)
contains-rest (first ∷ second ∷ words) (suc zero) within (inl is) = absurd (omega arith)
contains-rest (first ∷ second ∷ words) (suc zero) within (inr is) = absurd (omega arith)
contains-rest (first ∷ second ∷ words) (suc (suc place)) within which = contains-at (first ∷ words) (suc place) (omega arith)

-- the same of a list behind its first word
contains-behind : (words : List (List ℕ)) (place : ℕ) → place < length words → (suc place ≡ 2) ⊎ (4 ≤ suc place) → Contains (without_second (drop 1 words)) (word_at words place)
contains-behind [] place within which = absurd (omega arith)
contains-behind (number ∷ words) zero within (inl is) = absurd (omega arith)
contains-behind (number ∷ words) zero within (inr is) = absurd (omega arith)
contains-behind (number ∷ words) (suc place) within (inl is) = contains-rest words place (omega arith) (inl (omega arith))
contains-behind (number ∷ words) (suc place) within (inr is) = contains-rest words place (omega arith) (inr (omega arith))

contains-second : (words : List (List ℕ)) (place : ℕ) → place < length words → (suc place ≡ 2) ⊎ (length words + 1 ≤ suc place) → Contains (drop 1 words) (word_at words place)
contains-second [] place within which = absurd (omega arith)
contains-second (number ∷ words) zero within (inl is) = absurd (omega arith)
contains-second (number ∷ words) (suc place) within (inl is) = contains-at words place (omega arith)
contains-second words place within (inr is) = absurd (omega arith)

play-missed : (words : List (List ℕ)) (command : PlayCommand) (ending : Ending) (missed : Option (List ℕ)) → command_of words ≡ Some (Play command) → MissesPlayed command (drop 1 words) ending missed → MissesWord words ending missed
play-missed words Once ending missed is misses = first-misses Once (length (drop 1 words)) words ending missed is (whole (drop 1 words)) (subst (λ names. MissesScript names ending missed) (whole (drop 1 words)) misses)
play-missed words Run ending missed is misses = first-misses Run (length (drop 1 words)) words ending missed is (whole (drop 1 words)) (subst (λ names. MissesScript names ending missed) (whole (drop 1 words)) misses)
play-missed words Exec ending missed is misses = read-misses 1 2 (drop 1 words) words ending missed (ap (files_of words) is) (λ place within which. contains-at (drop 1 words) place within) misses
play-missed words Journal ending missed is misses = read-misses 1 3 (without_second (drop 1 words)) words ending missed (ap (files_of words) is) (contains-rest (drop 1 words)) misses
play-missed words (Hold turns) ending missed is misses = read-misses 2 4 (without_second (drop 1 (drop 1 words))) words ending missed (ap (files_of words) is) (contains-behind (drop 1 words)) misses
play-missed words (Resume turns) ending missed is misses = read-misses 2 (length (drop 1 words) + 1) (drop 1 (drop 1 words)) words ending missed (ap (files_of words) is) (contains-second (drop 1 words)) misses
play-missed words (Sample workers) ending missed is misses = first-misses (Sample workers) 0 words ending missed is refl misses

pub play_misses : (words : List (String Global)) (command : PlayCommand) (ending : Ending) (missed : Option (List ℕ)) → command_of (map string_bytes words) ≡ Some (Play command) → MissesPlayed command (names_behind words) ending missed → MissesWord (map string_bytes words) ending missed
play_misses words command ending missed is misses =
    play-missed (map string_bytes words) command ending missed is (subst (λ names. MissesPlayed command names ending missed) (names-behind words) misses)

pub files_missed : (words : List (String Global)) (command : FileCommand) (ending : Ending) (missed : Option (List ℕ)) → command_of (map string_bytes words) ≡ Some (Files command) → MissesScript (files_used command (names_behind words)) ending missed → MissesWord (map string_bytes words) ending missed
files_missed words command ending missed is misses =
    let all = map string_bytes words in
    let first = used-first command (drop 1 all) in
    let reads : files_read all ≡ take first.0 (drop 1 all) = ap (files_of all) is ∙ first.1 in
    missed-first first.0 all ending missed reads (subst (λ names. MissesScript names ending missed) (ap (files_used command) (names-behind words) ∙ first.1) misses)
