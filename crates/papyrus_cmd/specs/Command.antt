-- Which words are a command, and which files it reads.
use Rattle.std.specs.Prelude.{ℕ, Bool, false, ◌+◌, ◌-◌, ◌*◌, ◌&&◌, List, [], ◌∷◌, length, take, drop, Option, Some, None, nat_lt, nat_le, nat_eq, codes, if◌then◌else◌}
use Rattle.std.specs.List.{list_all}
use Rattle.std.specs.Str.{all_ascii_digits, bytes_eq, str_eq_ignore_ascii_case}
use Rattle.papyrus_cmd.specs.declared.command.Command.{Command}
use Rattle.papyrus_cmd.specs.declared.command.Command.TheVariants.{Help, Version, Files, Play}
use Rattle.papyrus_cmd.specs.declared.command.FileCommand.{FileCommand}
use Rattle.papyrus_cmd.specs.declared.command.FileCommand.TheVariants.{Compile, Check, Show, Asm, Upgrade, Waits, Lift}
use Rattle.papyrus_cmd.specs.declared.command.PlayCommand.{PlayCommand}
use Rattle.papyrus_cmd.specs.declared.command.PlayCommand.TheVariants.{Once, Run, Exec, Journal, Hold, Resume, Sample}

-- one byte or more, followed by an ending of four bytes in any case, and at most 4,096 bytes in all
abbrev pub is_named : List ℕ → List ℕ → Bool
is_named ending word = nat_lt 4 (length word) && (nat_le (length word) 4096 && str_eq_ignore_ascii_case (drop (length word - 4) word) ending)

-- 1 to 256 such words
abbrev pub are_named : List ℕ → List (List ℕ) → Bool
are_named ending words = nat_lt 0 (length words) && (nat_le (length words) 256 && list_all (is_named ending) words)

-- scripts
abbrev pub are_script_words : List (List ℕ) → Bool
are_script_words words = are_named (codes ".psc") words

-- 1 to 4,096 bytes
abbrev pub is_file_word : List ℕ → Bool
is_file_word word = nat_lt 0 (length word) && nat_le (length word) 4096

-- 1 to 256 compiled files
abbrev pub are_pex_words : List (List ℕ) → Bool
are_pex_words words = nat_lt 0 (length words) && (nat_le (length words) 256 && list_all is_file_word words)

-- so many files
abbrev pub are_file_words : ℕ → List (List ℕ) → Bool
are_file_words count words = nat_eq (length words) count && list_all is_file_word words

-- a file, with such words behind it
abbrev pub stand_behind_file : (List (List ℕ) → Bool) → List (List ℕ) → Bool
stand_behind_file are [] = false
stand_behind_file are (file ∷ words) = is_file_word file && are words

-- the number that decimal digits write, behind those of this number
abbrev pub read_on : ℕ → List ℕ → ℕ
read_on number [] = number
read_on number (digit ∷ digits) = read_on (10 * number + (digit - 48)) digits

-- the first byte stands behind `0` in the order of bytes
abbrev pub begins_above_zero : List ℕ → Bool
begins_above_zero [] = false
begins_above_zero (byte ∷ bytes) = nat_lt 48 byte

-- decimal digits without zeros in front, of a number of at most this one
abbrev pub writes_count : ℕ → List ℕ → Bool
writes_count most word = begins_above_zero word && (all_ascii_digits word && nat_le (read_on 0 word) most)

-- the number that a word writes so
abbrev pub counted_number : ℕ → List ℕ → Option ℕ
counted_number most word = if writes_count most word then Some (read_on 0 word) else None

-- the same where the number may be 0
abbrev pub turn_count : List ℕ → Option ℕ
turn_count word = if bytes_eq word (codes "0") then Some 0 else counted_number 1000000 word

abbrev pub sample_of : Option ℕ → Option PlayCommand
sample_of None = None
sample_of (Some workers) = Some (Sample workers)

-- the number of workers, and no word behind it
abbrev pub sample_command : List (List ℕ) → Option PlayCommand
sample_command [] = None
sample_command (word ∷ []) = sample_of (counted_number 200 word)
sample_command (word ∷ next ∷ words) = None

abbrev pub hold_of : Option ℕ → Option PlayCommand
hold_of None = None
hold_of (Some turns) = Some (Hold turns)

-- a number of turns, two files, and compiled files behind them
abbrev pub hold_command : List (List ℕ) → Option PlayCommand
hold_command [] = None
hold_command (word ∷ words) = if stand_behind_file (stand_behind_file are_pex_words) words then hold_of (turn_count word) else None

abbrev pub resume_of : Option ℕ → Option PlayCommand
resume_of None = None
resume_of (Some turns) = Some (Resume turns)

-- a number of turns, and a file
abbrev pub resume_command : List (List ℕ) → Option PlayCommand
resume_command [] = None
resume_command (word ∷ words) = if are_file_words 1 words then resume_of (turn_count word) else None

-- a word with those behind it, as a command that runs scripts
abbrev pub play_command : List ℕ → List (List ℕ) → Option PlayCommand
play_command name words =
    if bytes_eq name (codes "once") && are_script_words words then Some Once
    else if bytes_eq name (codes "run") && stand_behind_file are_script_words words then Some Run
    else if bytes_eq name (codes "exec") && stand_behind_file are_pex_words words then Some Exec
    else if bytes_eq name (codes "journal") && stand_behind_file (stand_behind_file are_pex_words) words then Some Journal
    else if bytes_eq name (codes "hold") then hold_command words
    else if bytes_eq name (codes "resume") then resume_command words
    else if bytes_eq name (codes "sample") then sample_command words
    else None

-- the same as a command that works on files
abbrev pub file_command : List ℕ → List (List ℕ) → Option FileCommand
file_command name words =
    if bytes_eq name (codes "compile") && are_script_words words then Some Compile
    else if bytes_eq name (codes "check") && are_file_words 1 words then Some Check
    else if bytes_eq name (codes "show") && are_file_words 1 words then Some Show
    else if bytes_eq name (codes "asm") && are_file_words 2 words then Some Asm
    else if bytes_eq name (codes "upgrade") && are_file_words 2 words then Some Upgrade
    else if bytes_eq name (codes "waits") && are_file_words 1 words then Some Waits
    else if bytes_eq name (codes "lift") && are_named (codes ".pex") words then Some Lift
    else None

abbrev pub either_command : Option PlayCommand → Option FileCommand → Option Command
either_command (Some play) file = Some (Play play)
either_command None (Some file) = Some (Files file)
either_command None None = None

-- a word that stands alone
abbrev pub lone_command : List ℕ → Option Command
lone_command name =
    if bytes_eq name (codes "--help") then Some Help
    else if bytes_eq name (codes "--version") then Some Version
    else None

abbrev pub command_of : List (List ℕ) → Option Command
command_of [] = None
command_of (name ∷ []) = lone_command name
command_of (name ∷ word ∷ words) = either_command (play_command name (word ∷ words)) (file_command name (word ∷ words))

-- the words but for the second
abbrev pub without_second : List (List ℕ) → List (List ℕ)
without_second [] = []
without_second (first ∷ []) = first ∷ []
without_second (first ∷ second ∷ words) = first ∷ words

-- of the words behind a command that runs scripts, those that name a file which it reads
abbrev pub files_played : PlayCommand → List (List ℕ) → List (List ℕ)
files_played Once names = names
files_played Run names = names
files_played Exec names = names
files_played Journal names = without_second names
files_played (Hold turns) names = without_second (drop 1 names)
files_played (Resume turns) names = drop 1 names
files_played (Sample workers) names = []

-- the same of a command that works on files
abbrev pub files_used : FileCommand → List (List ℕ) → List (List ℕ)
files_used Compile names = names
files_used Check names = names
files_used Show names = names
files_used Asm names = take 1 names
files_used Upgrade names = take 1 names
files_used Waits names = names
files_used Lift names = names

-- the words that name a file which the command reads
abbrev pub files_of : List (List ℕ) → Option Command → List (List ℕ)
files_of words (Some (Play command)) = files_played command (drop 1 words)
files_of words (Some (Files command)) = files_used command (drop 1 words)
files_of words (Some Help) = []
files_of words (Some Version) = []
files_of words None = []

abbrev pub files_read : List (List ℕ) → List (List ℕ)
files_read words = files_of words (command_of words)
