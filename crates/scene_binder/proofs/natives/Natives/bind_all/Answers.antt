use Rattle.std.proofs.Common.{◌≡◌, ◌+◌, ◌∷◌, ◌++◌, ◌∙◌, [], take, ap, sym, subst}
use Rattle.std.proofs.lemmas.List.{take_more}
use Rattle.std.proofs.lemmas.List.Elements.{All-get_or}
use Rattle.scene_reader.specs.Limits.{NativeKeeps}
use Rattle.papy_base.specs.Case.{folded}
use Rattle.scene_binder.specs.Faults.{IsFirstBroken, native_breaks}
use Rattle.scene_binder.specs.NativeList.{AreBoundBy}
use Rattle.scene_binder.specs.NativeState.{AreSettled, known_breaks, native_under}
use Rattle.scene_binder.proofs.JudgeLemmas.{judged_err, turn_broken, turn_passed, turns_done}
use Rattle.scene_binder.proofs.StateLemmas.{AreSettled-entry, known_same}
use Rattle.scene_binder.proofs.natives.Natives.bind_all.Goals as goal

pub loop-entry-preserved : goal.loop-entry-preserved
loop-entry-preserved c =
    let entries = c.args.entries.now in
    let place = c.loop-entry.entry-index in
    let entry = c.entry-item.result in
    let before = c.loop-entry.invariant in
    let last = c.in_ok-bind.ensures in
    let lt = c.loop-entry-test.true in
    let grown : take (place + 1) entries ≡ take place entries ++ entry ∷ [] = take_more entries place entry lt ∙ ap (λ x. take place entries ++ x ∷ []) (sym c.entry-item.is) in
    record {
      natives = λ scripts h. last.natives scripts (before.natives scripts h);
      devices = last.devices ∙ before.devices;
      bound = λ scripts h start.
          let own = last.bound scripts (take place entries) (before.natives scripts h) (before.bound scripts h start) in
          let named = subst (λ name. AreBoundBy scripts (take place entries ++ (name, entry.1) ∷ []) c.bind.new.self) c.as_bytes.ensures own in
          subst (λ xs. AreBoundBy scripts xs c.bind.new.self) (sym grown) named;
      limits = λ keeps h.
          let own = subst NativeKeeps (sym c.entry-item.is) (All-get_or NativeKeeps entries place entry lt keeps) in
          last.limits own.1 (before.limits keeps h);
      judged = λ scripts h start.
          let natives = before.natives scripts h in
          let name = c.as_bytes.result.now in
          let known : known_breaks c.loop-entry.self.devices (native_under c.loop-entry.self (folded name)) entry.1 ≡ native_breaks scripts c.loop-entry.self.devices (take place entries) (name, entry.1) = known_same scripts c.loop-entry.self (take place entries) name entry.1 natives (before.settled scripts h start) in
          let here = subst (λ n. native_breaks scripts c.loop-entry.self.devices (take place entries) (n, entry.1) ≡ []) c.as_bytes.ensures (sym known ∙ last.judged) in
          let none = subst (λ d. native_breaks scripts d (take place entries) entry ≡ []) before.devices here in
          turn_passed (native_breaks scripts c.args.self.now.devices) entries place entry lt c.entry-item.is (before.judged scripts h start) none;
      settled = λ scripts h start.
          let more = AreSettled-entry scripts c.loop-entry.self c.bind.new.self c.as_bytes.result.now entry.1 (before.natives scripts h) last.binds (take place entries) (before.settled scripts h start) in
          let named = subst (λ name. AreSettled scripts (take place entries ++ (name, entry.1) ∷ []) [] c.bind.new.self) c.as_bytes.ensures more in
          subst (λ xs. AreSettled scripts xs [] c.bind.new.self) (sym grown) named;
    }

pub returns-in_err-bind-clause-judged : goal.returns-in_err-bind-clause-judged
returns-in_err-bind-clause-judged c = λ scripts h start.
    let entries = c.args.entries.now in
    let place = c.loop-entry.entry-index in
    let entry = c.entry-item.result in
    let before = c.loop-entry.invariant in
    let fault = c.in_err-bind.field-0.0 in
    let name = c.as_bytes.result.now in
    let known : known_breaks c.loop-entry.self.devices (native_under c.loop-entry.self (folded name)) entry.1 ≡ native_breaks scripts c.loop-entry.self.devices (take place entries) (name, entry.1) = known_same scripts c.loop-entry.self (take place entries) name entry.1 (before.natives scripts h) (before.settled scripts h start) in
    let told = subst (IsFirstBroken fault) known c.in_err-bind.ensures.judged in
    let here = subst (λ n. IsFirstBroken fault (native_breaks scripts c.loop-entry.self.devices (take place entries) (n, entry.1))) c.as_bytes.ensures told in
    let own = subst (λ d. IsFirstBroken fault (native_breaks scripts d (take place entries) entry)) before.devices here in
    judged_err c.from_residual.result _ fault c.from_residual.ensures.1 (turn_broken (native_breaks scripts c.args.self.now.devices) entries place entry fault c.loop-entry-test.true c.entry-item.is (before.judged scripts h start) own)

pub returns-clause-judged : goal.returns-clause-judged
returns-clause-judged c = λ scripts h start.
    turns_done (native_breaks scripts c.args.self.now.devices) c.args.entries.now c.loop-entry.entry-index c.loop-entry-test.false (c.loop-entry.invariant.judged scripts h start)
