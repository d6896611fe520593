use Rattle.std.proofs.Common.{[], rules}
use Rattle.std.specs.Prelude.{codes}
use Rattle.serde_json.specs.Find.{get}
use Rattle.serde_json.specs.View.{view}
use Rattle.scene_reader.specs.Reading.{IsPartFault, both, entries, list, needed, optional}
use Rattle.scene_reader.specs.SceneOf.{binding, calls, instances, order, parts, plan_of, quantum_from, short, tape, turn}
use Rattle.scene_reader.proofs.Found.{both_lost, found_both, found_map, found_pairs, lost, map_lost, then_lost}
use Rattle.scene_reader.proofs.scene.parts_of.Goals as goal

pub returns-in_err-calls-clause-found : goal.returns-in_err-calls-clause-found
returns-in_err-calls-clause-found c =
    let d = view c.args.value.now in
    let h : IsPartFault (parts c.args.reader.version d) c.in_err-calls.field-0.0 = lost (needed (codes "calls") calls d) (parts c.args.reader.version d) _
    (λ is. map_lost plan_of _ (then_lost _ _ (then_lost _ _ (then_lost _ _ (then_lost _ _ (both_lost _ _ is)))))) c.in_err-calls.ensures.found in
    search (rules, h)

pub returns-in_err-natives-clause-found : goal.returns-in_err-natives-clause-found
returns-in_err-natives-clause-found c =
    let d = view c.args.value.now in
    let h : IsPartFault (parts c.args.reader.version d) c.in_err-natives.field-0.0 = lost (optional (codes "natives") [] (entries short (binding c.args.reader.version)) d) (parts c.args.reader.version d) _
    (λ is. map_lost plan_of _ (then_lost _ _ (then_lost _ _ (then_lost _ _ (then_lost _ _ (then_lost _ _ (both_lost _ _ is))))))) c.in_err-natives.ensures.found in
    search (rules, h)

pub returns-in_err-tapes-clause-found : goal.returns-in_err-tapes-clause-found
returns-in_err-tapes-clause-found c =
    let d = view c.args.value.now in
    let h : IsPartFault (parts c.args.reader.version d) c.in_err-tapes.field-0.0 = lost (optional (codes "tapes") [] (list tape) d) (parts c.args.reader.version d) _
    (λ is. map_lost plan_of _ (then_lost _ _ (then_lost _ _ (then_lost _ _ (then_lost _ _ (then_lost _ _ (then_lost _ _ is))))))) c.in_err-tapes.ensures.found in
    search (rules, h)

pub returns-clause-found : goal.returns-clause-found
returns-clause-found c =
    let d = view c.args.value.now in
    let version = c.args.reader.version in
    let quantum = quantum_from version (get (codes "quantum") d) in
    let turns = needed (codes "turns") turn d in
    let ordered = needed (codes "order") order d in
    let placed = needed (codes "instances") instances d in
    let called = needed (codes "calls") calls d in
    let natives = optional (codes "natives") [] (entries short (binding version)) d in
    let tapes = optional (codes "tapes") [] (list tape) d in
    found_map plan_of _ _ (both quantum (both turns (both ordered (both placed (both called (both natives tapes)))))) _
    (found_both _ _ _ quantum (both turns (both ordered (both placed (both called (both natives tapes))))) _ _ c.in_ok-quantum.ensures.found
    (found_both _ _ _ turns (both ordered (both placed (both called (both natives tapes)))) _ _ c.in_ok-turns.ensures.found
    (found_both _ _ _ ordered (both placed (both called (both natives tapes))) _ _ c.in_ok-order.ensures.found
    (found_both _ _ _ placed (both called (both natives tapes)) _ _ c.in_ok-instances.ensures.found
    (found_both _ _ _ called (both natives tapes) _ _ c.in_ok-calls.ensures.found
    (found_both _ _ _ natives tapes _ _ (found_pairs _ _ natives _ c.in_ok-natives.ensures.found) c.in_ok-tapes.ensures.found))))))
