use Rattle.std.proofs.Common.{All, sym, subst}
use Rattle.pex_verify.specs.Files.{IsFile}
use Rattle.pex_verify.specs.Sets.{JudgedSet}
use Rattle.pex_verify.specs.Whole.{IsJudgedSet}
use Rattle.pex_verify.proofs.judged_files.JudgedFiles.files.Goals as goal

pub returns-clause-judged : goal.returns-clause-judged
returns-clause-judged c = subst (λ (v : JudgedSet). IsJudgedSet v) c.self.view_is c.self.invariant.whole

pub returns-clause-valid : goal.returns-clause-valid
returns-clause-valid c = c.self.invariant.whole.sound.files
