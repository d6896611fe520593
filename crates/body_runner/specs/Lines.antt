-- The lines that a run writes into its report.
use Rattle.std.specs.Prelude.{ℕ, List, [], ◌∷◌, ◌++◌, Option, None, Some}
use Rattle.std.specs.Fmt.{decimal}
use Rattle.papy_base.specs.declared.faults.StackFault.{StackFault}
use Rattle.papy_base.specs.ReportWords.{escaped, fault_name}

-- `#k text`
abbrev pub trace_line : ℕ → List ℕ → List ℕ
trace_line stack text = 35 ∷ decimal stack ++ 32 ∷ escaped text ++ 10 ∷ []

-- `!k Script.function:line Kind`
abbrev pub fault_line : ℕ → List ℕ → List ℕ → ℕ → StackFault → List ℕ
fault_line stack script function line fault =
    33 ∷ decimal stack ++ 32 ∷ script ++ 46 ∷ function ++ 58 ∷ decimal line ++ 32 ∷ fault_name fault ++ 10 ∷ []

-- the source line, 0 where the file tells none
abbrev pub line_in : Option ℕ → ℕ
line_in None = 0
line_in (Some line) = line
