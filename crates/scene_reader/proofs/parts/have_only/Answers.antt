use Rattle.std.proofs.Common.{map, ap, ◌∙◌, ◌&&◌, ◌≡◌, true, false, rules, sym, string_bytes}
use Rattle.serde_json.specs.View.{members_view}
use Rattle.scene_reader.specs.Reading.{have_only, is_among}
use Rattle.scene_reader.proofs.parts.have_only.Goals as goal

pub loop-key-preserved : goal.loop-key-preserved
loop-key-preserved c =
    let keys = map (λ k. k.now) c.args.keys.now in
    let text : c.as_str.result.now ≡ string_bytes c.in-Some.key.now = search rules in
    let among : is_among keys (string_bytes c.in-Some.key.now) ≡ true = sym (ap (is_among keys) text) ∙ sym c.is_among.ensures ∙ c.if-not-is_among.false in
    c.loop-key.invariant ∙ ap (λ es. have_only keys (members_view es)) c.in-Some.ensures.steps ∙ ap (λ b. b && have_only keys (members_view c.next.new.self)) among

pub returns-then-not-is_among : goal.returns-then-not-is_among
returns-then-not-is_among c =
    let keys = map (λ k. k.now) c.args.keys.now in
    let text : c.as_str.result.now ≡ string_bytes c.in-Some.key.now = search rules in
    let among : is_among keys (string_bytes c.in-Some.key.now) ≡ false = sym (ap (is_among keys) text) ∙ sym c.is_among.ensures ∙ c.if-not-is_among.true in
    sym (c.loop-key.invariant ∙ ap (λ es. have_only keys (members_view es)) c.in-Some.ensures.steps ∙ ap (λ b. b && have_only keys (members_view c.next.new.self)) among)

pub returns : goal.returns
returns c =
    let keys = map (λ k. k.now) c.args.keys.now in
    sym (c.loop-key.invariant ∙ ap (λ es. have_only keys (members_view es)) c.in-None.ensures.steps.0)
