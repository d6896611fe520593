use Rattle.std.proofs.Common.{ap, ◌∙◌, vec_len}
use Rattle.pex_verify.specs.Meanings.{where_none_is_none}
use Rattle.pex_verify.proofs.scripts.SetHeads.value_type.Goals as goal

pub returns : goal.returns
returns c = record {
  meaning = c.without_none.ensures.meaning ∙ ap where_none_is_none c.result_type.ensures.meaning;
  among = c.without_none.ensures.among (vec_len c.args.self.now.heads) c.result_type.ensures.among;
}
