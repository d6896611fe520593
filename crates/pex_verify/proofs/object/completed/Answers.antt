use Rattle.std.proofs.Common.{ℕ, List, [], ◌∷◌, ◌++◌, Global, Vec, sym, subst, ap, ◌∙◌, rules, arith}
use Rattle.std.proofs.lemmas.Bool.Decides.{nat_tests}
use Rattle.std.proofs.lemmas.List.{append-nil}
use Rattle.papy_base.specs.declared.name.Name.{Name}
use Rattle.pex_verify.specs.Sites.{site_of}
use Rattle.pex_verify.specs.declared.judged.JudgedFunction.{JudgedFunction}
use Rattle.pex_verify.specs.Places.{bounds_of}
use Rattle.pex_verify.specs.Soundness.{AreSoundFunctions, IsSoundState}
use Rattle.pex_verify.specs.Matching.{Written, IsWritten, AreWritten}
use Rattle.pex_verify.specs.States.{WrittenState, IsState, AreStates, lacking_written}
use Rattle.pex_verify.proofs.Lists.{all_grown}
use Rattle.pex_verify.proofs.Pairs.{Paired-none, Paired-push}
use Rattle.pex_verify.proofs.States.{added_none, added_some}
use Rattle.pex_verify.proofs.object.completed.Goals as goal

pub returns-then-is_empty-clause-written : goal.returns-then-is_empty-clause-written
returns-then-is_empty-clause-written c = λ before given.
    let site = site_of c.args.home.now in
    let IsFunction : ℕ → Written → JudgedFunction → Type 0 = λ n w f. IsWritten site w f in
    let functions = c.in_ok-add_members.ensures.written [] (subst (λ (l : List JudgedFunction). AreWritten site [] l) (sym c.new-added.ensures.items) (Paired-none Written JudgedFunction IsFunction)) in
    let none = added_none site (lacking_written c.args.home.now) c.add_members.new.functions.items functions (grind (arith, nat_tests)) in
    subst (λ (l : List WrittenState). AreStates site l c.args.states.items) (sym (ap (λ (l : List WrittenState). before ++ l) none ∙ append-nil before)) given

pub returns-clause-sound : goal.returns-clause-sound
returns-clause-sound c =
    let bounds = bounds_of c.args.home.now in
    let IsSound : Name × Vec JudgedFunction Global → Type 0 = λ state. IsSoundState bounds state.1.items in
    let none : AreSoundFunctions bounds [] = search rules in
    let functions : AreSoundFunctions bounds c.add_members.new.functions.items = c.in_ok-add_members.ensures.sound (subst (λ (l : List JudgedFunction). AreSoundFunctions bounds l) (sym c.new-added.ensures.items) none) in
    let state : IsSoundState bounds c.add_members.new.functions.items = record { each = functions } in
    all_grown IsSound c.args.states.items c.push.new.self.items (c.in_ok-from_bytes.field-0, c.add_members.new.functions) c.in_ok-push.ensures.items c.requires state

pub returns-clause-written : goal.returns-clause-written
returns-clause-written c = λ before given.
    let site = site_of c.args.home.now in
    let written = lacking_written c.args.home.now in
    let IsFunction : ℕ → Written → JudgedFunction → Type 0 = λ n w f. IsWritten site w f in
    let functions = c.in_ok-add_members.ensures.written [] (subst (λ (l : List JudgedFunction). AreWritten site [] l) (sym c.new-added.ensures.items) (Paired-none Written JudgedFunction IsFunction)) in
    let IsLoaded : ℕ → WrittenState → Name × Vec JudgedFunction Global → Type 0 = λ n w s. IsState site w s in
    let state : WrittenState = record { name = []; functions = written } in
    let loaded : Name × Vec JudgedFunction Global = (c.in_ok-from_bytes.field-0, c.add_members.new.functions) in
    let some = added_some site written c.add_members.new.functions.items functions (grind (arith, nat_tests)) in
    let here : IsState site state loaded = record { name = search rules; functions = functions } in
    subst (λ (l : List WrittenState). AreStates site l c.push.new.self.items) (ap (λ (l : List WrittenState). before ++ l) (sym some))
    (subst (λ (l : List (Name × Vec JudgedFunction Global)). AreStates site (before ++ state ∷ []) l) (sym {A = List (Name × Vec JudgedFunction Global)} c.in_ok-push.ensures.items)
    (Paired-push WrittenState (Name × Vec JudgedFunction Global) IsLoaded before c.args.states.items state loaded given here))
