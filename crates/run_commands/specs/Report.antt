-- What the commands that run scripts write of a run.
use Rattle.std.specs.Prelude.{◌≡◌, ◌≢◌, ℕ, zero, suc, ◌+◌, ◌≤◌, List, [], ◌∷◌, ◌++◌, Option, codes}
use Rattle.std.specs.Fmt.{decimal}
use Rattle.std.specs.Io.BufRead.{drop_through, take_through}
use Rattle.core_tree.specs.declared.scene_tree.SceneTree.{SceneTree}
use Rattle.core_tree.specs.declared.scene_tree.TurnOrder.TheVariants as orders
use Rattle.papy_io.specs.Sink.{Appended}
use Rattle.scene_runner.specs.Report.{IsClosing, IsReport}

-- the report of a run of at most so many turns
pub record IsReportWithin (most : ℕ) (text : List ℕ) : Type 0 where
  pub turns : ℕ
  pub within : turns ≤ most
  pub report : IsReport turns text

-- the closing report of a run of at most so many turns
pub record IsClosingWithin (most : ℕ) (text : List ℕ) : Type 0 where
  pub turns : ℕ
  pub within : turns ≤ most
  pub closing : IsClosing turns text

-- the report of a run of a scene: of its turns, or, in round order only, of fewer
pub record IsReportOf (tree : SceneTree) (text : List ℕ) : Type 0 where
  pub turns : ℕ
  pub within : turns ≤ tree.turns
  pub whole : tree.order ≢ orders.Round → turns ≡ tree.turns
  pub report : IsReport turns text

-- the report of a run of a scene was written
pub record WritesReport (tree : SceneTree) (before now : Option (List ℕ)) : Type 0 where
  pub text : List ℕ
  pub report : IsReportOf tree text
  pub appended : Appended text before now

-- the most turns of the scene of a file or of a sample, and those of the scene of one script
abbrev pub most_turns : ℕ
most_turns = 1000000

abbrev pub default_turns : ℕ
default_turns = 10000

-- the first line of `sample`: one script for the hub, and one for each worker
abbrev pub scripts_line : ℕ → List ℕ
scripts_line workers = codes "scripts " ++ (decimal (workers + 1) ++ 10 ∷ [])

-- so many lines of a text, each with its line break, or all that there are
abbrev pub first_lines : ℕ → List ℕ → List ℕ
first_lines zero text = []
first_lines (suc count) text = take_through 10 text ++ first_lines count (drop_through 10 text)

-- what is written of a sample's closing report: the turns, the hub and its total
abbrev pub sample_text : ℕ → List ℕ → List ℕ
sample_text workers closing = scripts_line workers ++ first_lines 3 closing
