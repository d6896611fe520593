use Rattle.std.proofs.Common.{◌≡◌, map}
use Rattle.serde_json.specs.View.{members_view}
use Rattle.scene_reader.specs.Reading.{have_only}
use Rattle.scene_reader.proofs.parts.have_only.Given as goal

abbrev pub invariant-loop-key : goal.invariant-loop-key
invariant-loop-key l = have_only (map (λ k. k.now) l.keys) (members_view l.object.entries) ≡ have_only (map (λ k. k.now) l.keys) (members_view l.key-iterator)
