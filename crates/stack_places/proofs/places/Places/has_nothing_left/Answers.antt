use Rattle.std.proofs.Common.{◌≡◌, true, ◌&&◌, length, map, sym, ap, ◌∙◌, arith}
use Rattle.std.proofs.lemmas.List.{length-map}
use Rattle.core_tree.specs.Scenes.{call_shape}
use Rattle.script_meaning.specs.Turns.{no_call_left}
use Rattle.stack_places.specs.Places.{placed}
use Rattle.stack_places.proofs.Left.{none_left}
use Rattle.stack_places.proofs.places.Places.has_nothing_left.Goals as goal

pub returns : goal.returns
returns c = λ world t s.
    let calls = map call_shape c.args.scene.now.calls.items in
    let here = placed c.args.self.now.lists world in
    let yes : c.are_all_done.result ≡ true = c.if-not-are_all_done.false in
    let ok = c.args.scene.now.calls.ok.0 in
    let same = length-map c.args.scene.now.calls.items call_shape in
    let many : c.len.result ≡ length calls = omega (arith, c.len.ensures, ok, same) in
    none_left calls here c.len.result c.from.result c.args.turn many (c.from.ensures ∙ c.requires.begun) t ∙ ap (λ a. a && no_call_left calls here) (sym yes ∙ c.are_all_done.ensures world s)
