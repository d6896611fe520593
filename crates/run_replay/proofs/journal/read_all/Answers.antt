use Rattle.std.proofs.Common.{◌≡◌, [], sym, ◌∙◌, arith, length}
use Rattle.std.proofs.lemmas.Bool.{eqb-true, false≢true}
use Rattle.std.proofs.lemmas.List.{nil_from_length}
use Rattle.run_replay.proofs.JournalLemmas.{read_none, read_more, read_fault, cut_short, read_all}
use Rattle.run_replay.proofs.journal.read_all.Goals as goal

pub loop-rest-init : goal.loop-rest-init
loop-rest-init c = read_none c.args.bytes.now c.args.book.now c.requires.new

pub step-requires-clause-room : goal.step-requires-clause-room
step-requires-clause-room c = λ i. omega (arith, c.loop-rest.invariant.bounded.counts i, c.loop-rest.invariant.within, c.requires.few)

pub loop-rest-preserved : goal.loop-rest-preserved
loop-rest-preserved c = read_more c.args.bytes.now c.loop-rest.rest.now c.in-Ok.behind.now c.loop-rest.book c.step.new.book c.loop-rest.number c.loop-rest.invariant c.in-Ok.ensures

pub returns-in-Err-clause-read : goal.returns-in-Err-clause-read
returns-in-Err-clause-read c = read_fault c.args.bytes.now c.loop-rest.rest.now c.loop-rest.book c.loop-rest.number c.in-Err.fault c.loop-rest.invariant c.in-Err.ensures

pub returns-then-not-has_ended-clause-read : goal.returns-then-not-has_ended-clause-read
returns-then-not-has_ended-clause-read c =
    let none : c.loop-rest.rest.now ≡ [] = nil_from_length c.loop-rest.rest.now (eqb-true (length c.loop-rest.rest.now) 0 (sym c.is_empty.ensures ∙ c.loop-rest-test.false)) in
    rw c.bad_line.ensures (cut_short c.args.bytes.now c.loop-rest.rest.now c.loop-rest.book c.loop-rest.number c.loop-rest.invariant none (λ over. false≢true (sym c.if-not-has_ended.true ∙ c.has_ended.ensures.1 over)))

pub returns : goal.returns
returns c =
    let none : c.loop-rest.rest.now ≡ [] = nil_from_length c.loop-rest.rest.now (eqb-true (length c.loop-rest.rest.now) 0 (sym c.is_empty.ensures ∙ c.loop-rest-test.false)) in
    record {
      read = read_all c.args.bytes.now c.loop-rest.rest.now c.loop-rest.book c.loop-rest.number c.loop-rest.invariant none (c.has_ended.ensures.0 c.if-not-has_ended.false);
      room = λ i. omega (arith, c.loop-rest.invariant.bounded.counts i, c.loop-rest.invariant.within, c.requires.few);
      few = omega (arith, c.loop-rest.invariant.bounded.few, c.loop-rest.invariant.within, c.requires.few);
    }
