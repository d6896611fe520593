-- What a command writes, told in the words of another.
use Rattle.std.proofs.Common.{arith, ◌≡◌, inl, inr, ◌-◌, ℕ, List, [], ◌∷◌, refl, sym, ap, subst, map, take, drop, length, String, Global}
use Rattle.std.specs.Prelude.{Option, None, Some, IfSome}
use Rattle.std.specs.String.{string_bytes}
use Rattle.std.proofs.lemmas.Grind.{common_steps}
use Rattle.papy_io.specs.Files.{Files}
use Rattle.papyrus_cmd.specs.declared.command.Command.{Command}
use Rattle.command_files.specs.declared.ending.Ending.{Ending}
use Rattle.command_files.specs.declared.ending.Ending.TheVariants.{Done, OutOfMemory, Usage, ReadFault, WriteFault, Refused, NotBuilt}
use Rattle.command_files.specs.Outputs.{IsPart, Outputs}
use Rattle.papyrus_cmd.specs.Answers.{CommandOn, CommandAnswers, Answers}
use Rattle.papyrus_cmd.specs.Command.{command_of}

-- one way to end implies another
abbrev Implies : (Files → Ending → List ℕ → Type 0) → (Files → Ending → List ℕ → Type 0) → Type 0
Implies Ends Others = (files : Files) (ending : Ending) (text : List ℕ) → Ends files ending text → Others files ending text

told-implied : (Ends Others : Files → Ending → List ℕ → Type 0) → Implies Ends Others → (holds : Option Files) (ending : Ending) (text : List ℕ) →
    IfSome holds (λ files. Ends files ending text) → IfSome holds (λ files. Others files ending text)
told-implied Ends Others implies None ending text ends = tt
told-implied Ends Others implies (Some files) ending text ends = implies files ending text ends

part-implied : (Ends Others : Files → Ending → List ℕ → Type 0) → Implies Ends Others → (files : Files) (part : List ℕ) → IsPart (Ends files) part → IsPart (Others files) part
part-implied Ends Others implies files part (inl none) = inl none
part-implied Ends Others implies files part (inr (text, n, ends, is)) = inr (text, n, implies files Done text ends, is)

told-part-implied : (Ends Others : Files → Ending → List ℕ → Type 0) → Implies Ends Others → (holds : Option Files) (part : List ℕ) →
    IfSome holds (λ files. IsPart (Ends files) part) → IfSome holds (λ files. IsPart (Others files) part)
told-part-implied Ends Others implies None part is = tt
told-part-implied Ends Others implies (Some files) part is = part-implied Ends Others implies files part is

outputs-implied : (Ends Others : Files → Ending → List ℕ → Type 0) → Implies Ends Others → (holds : Option Files) (ending : Ending) (before now : Option (List ℕ)) →
    Outputs Ends holds ending before now → Outputs Others holds ending before now
outputs-implied Ends Others implies holds Done before now (text, appended, ends) = (text, appended, told-implied Ends Others implies holds Done text ends)
outputs-implied Ends Others implies holds OutOfMemory before now (part, appended, is) = (part, appended, told-part-implied Ends Others implies holds part is)
outputs-implied Ends Others implies holds WriteFault before now (part, appended, is) = (part, appended, told-part-implied Ends Others implies holds part is)
outputs-implied Ends Others implies holds (ReadFault word) before now same = same
outputs-implied Ends Others implies holds Usage before now (same, ends) = (same, told-implied Ends Others implies holds Usage [] ends)
outputs-implied Ends Others implies holds (Refused word place rule) before now (inl (same, ends)) = inl (same, told-implied Ends Others implies holds (Refused word place rule) [] ends)
outputs-implied Ends Others implies holds (Refused word place rule) before now (inr late) =
    inr (record {
      rule_is = late.rule_is;
      text = late.text;
      appended = late.appended;
      ends = told-implied Ends Others implies holds (Refused word place rule) late.text late.ends;
      part = told-part-implied Ends Others implies holds late.text late.part;
    })
outputs-implied Ends Others implies holds NotBuilt before now (same, ends) = (same, told-implied Ends Others implies holds NotBuilt [] ends)

command-answers : (command : Command) (words : List (List ℕ)) → command_of words ≡ Some command → Implies (CommandOn command (drop 1 words)) (Answers words)
command-answers command words is files ending text ends =
    let P : Option Command → Type 0 = λ found. CommandAnswers found words files ending text in subst P (sym is) ends

pub names-behind : (words : List (String Global)) → map string_bytes (take (length words - 1) (drop 1 words)) ≡ drop 1 (map string_bytes words)
names-behind [] = refl
names-behind (word ∷ words) = ap (map string_bytes) (grind (arith, common_steps))

-- what a command writes that is given the words behind it
pub command_outputs : (command : Command) (words : List (String Global)) (holds : Option Files) (ending : Ending) (before now : Option (List ℕ)) → command_of (map string_bytes words) ≡ Some command →
    Outputs (CommandOn command (map string_bytes (take (length words - 1) (drop 1 words)))) holds ending before now → Outputs (Answers (map string_bytes words)) holds ending before now
command_outputs command words holds ending before now is outputs =
    let P : List (List ℕ) → Type 0 = λ names. Outputs (CommandOn command names) holds ending before now in
    outputs-implied _ _ (command-answers command (map string_bytes words) is) holds ending before now (subst P (names-behind words) outputs)

-- the names that stand behind the command
abbrev pub names_behind : List (String Global) → List (List ℕ)
names_behind words = map string_bytes (take (length words - 1) (drop 1 words))
