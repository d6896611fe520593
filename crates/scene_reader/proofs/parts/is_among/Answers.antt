use Rattle.std.proofs.Common.{rules, sym, ◌∙◌}
use Rattle.std.specs.Prelude.{bytes_eq}
use Rattle.std.proofs.lemmas.Iterator.{YieldsList-from_slice}
use Rattle.std.proofs.lemmas.Iterator.Search.{any_from_yields_List}
use borrow.Author.Tests.{tests}
use Rattle.scene_reader.proofs.Found.{any_map}
use Rattle.scene_reader.proofs.parts.is_among.Goals as goal

pub returns : goal.returns
returns c =
    any_from_yields_List (λ k. bytes_eq c.args.key.now k.now) _ _ c.any.result c.any.ensures.ran (YieldsList-from_slice c.args.keys.now cc) (λ x b q k. search (rules, tests))
    ∙ sym (any_map (bytes_eq c.args.key.now) (λ k. k.now) c.args.keys.now)
