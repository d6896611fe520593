-- The report of a run.
use Rattle.std.specs.Prelude.{◌≡◌, ℕ, List, [], ◌∷◌, ◌++◌, Option, codes}
use Rattle.std.specs.Fmt.{decimal}
use Rattle.papy_io.specs.Sink.{Appended}
use Rattle.stack_machine.specs.Written.{IsLines}

-- the first line of a closing report: the number of turns
abbrev pub turns_line : ℕ → List ℕ
turns_line turns = codes "turns " ++ (decimal turns ++ 10 ∷ [])

-- a closing report after so many turns: their number, and then the lines of instances and stacks
pub record IsClosing (turns : ℕ) (text : List ℕ) : Type 0 where
  pub rest : List ℕ
  pub are_lines : IsLines rest
  pub text_is : text ≡ turns_line turns ++ rest

-- a report of so many turns: the lines that were written in them, each with its line feed, and then the closing report
pub record IsReport (turns : ℕ) (text : List ℕ) : Type 0 where
  pub lines : List ℕ
  pub closing : List ℕ
  pub are_lines : IsLines lines
  pub closes : IsClosing turns closing
  pub text_is : text ≡ lines ++ closing

-- a closing report was written
pub record Closes (turns : ℕ) (before now : Option (List ℕ)) : Type 0 where
  pub text : List ℕ
  pub closing : IsClosing turns text
  pub appended : Appended text before now

-- a report was written
pub record Reports (turns : ℕ) (before now : Option (List ℕ)) : Type 0 where
  pub text : List ℕ
  pub report : IsReport turns text
  pub appended : Appended text before now
