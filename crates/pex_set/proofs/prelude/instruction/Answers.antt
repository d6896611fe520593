use Rattle.std.proofs.Common.{◌≡◌, ◌<◌, ◌≤◌, length, map, arith, ap, sym, ◌∙◌}
use Rattle.std.proofs.lemmas.List.{take_all}
use Rattle.std.proofs.lemmas.Simd.{map-map}
use Rattle.pex_values.specs.declared.values.Datum.TheVariants.{Word}
use Rattle.pex_set.specs.Rows.{reference_in}
use Rattle.pex_set.proofs.Made.{listed_more}
use Rattle.pex_set.proofs.prelude.instruction.Goals as goal

pub loop-name-preserved : goal.loop-name-preserved
loop-name-preserved c =
    let less : c.loop-name.name-index < length c.args.names.now = omega arith in
    c.in_ok-push.ensures.items
    ∙ listed_more (λ name. Word (reference_in c.args.strings.now name.now)) c.loop-name.fixed.items _ c.args.names.now c.loop-name.name-index _ less c.loop-name.invariant (ap Word c.reference.ensures)

pub returns : goal.returns
returns c =
    let strings = c.args.strings.now in
    let names = c.args.names.now in
    let enough : length names ≤ c.loop-name.name-index = omega arith in
    let fixed : c.loop-name.fixed.items ≡ map (λ name. Word (reference_in strings name)) (map (λ name. name.now) names) = c.loop-name.invariant
    ∙ ap (map (λ name. Word (reference_in strings name.now))) (take_all c.loop-name.name-index names enough)
    ∙ sym (map-map (λ name. Word (reference_in strings name)) (λ name. name.now) names) in
    λ k. record { opcode = c.args.opcode; fixed = fixed k; more = c.new.ensures.items k }
