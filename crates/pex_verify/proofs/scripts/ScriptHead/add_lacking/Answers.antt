use Rattle.std.proofs.Common.{map, inr, Some}
use Rattle.pex_verify.specs.Signatures.{declared_by}
use Rattle.pex_verify.specs.Heads.{empty_functions}
use Rattle.pex_verify.proofs.Heads.{offers_next}
use Rattle.pex_verify.proofs.scripts.ScriptHead.add_lacking.Goals as goal

pub returns : goal.returns
returns c = λ members above numbers object rootless at given. record {
  parent = given.parent;
  properties = given.properties;
  empty_state = given.empty_state;
  functions = offers_next members (map Some (map (declared_by numbers) (empty_functions numbers object))) c.args.self.now.functions.items c.push.new.self.items c.args.self.now.lacking.items c.push-2.new.self.items c.args.signature c.args.place c.in_ok-push.ensures.items c.in_ok-push-2.ensures.items at given.functions;
  lacks = inr rootless;
}
