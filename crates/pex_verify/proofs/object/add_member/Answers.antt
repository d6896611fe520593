use Rattle.std.proofs.Common.{◌≡◌, ℕ, ◌<◌, ◌≤◌, List, [], ◌∷◌, ◌++◌, Option, None, Some, length, get_or, sym, ap, subst, ◌∙◌, arith}
use Rattle.std.specs.Prelude.{slice_get}
use Rattle.std.proofs.lemmas.List.{append-nil}
use Rattle.std.proofs.lemmas.Option.{slice_get-get_or, slice_get_past}
use Rattle.pex_values.specs.declared.values.PexFunction.{PexFunction}
use Rattle.pex_verify.specs.Sites.{site_of}
use Rattle.pex_verify.specs.declared.judged.JudgedFunction.{JudgedFunction}
use Rattle.pex_verify.specs.Matching.{Written, IsWritten, AreWritten}
use Rattle.pex_verify.specs.Places.{bounds_of}
use Rattle.pex_verify.specs.Soundness.{IsSoundFunction}
use Rattle.pex_verify.specs.States.{written_member, member_written}
use Rattle.pex_verify.proofs.Lists.{all_grown}
use Rattle.pex_verify.proofs.Pairs.{Paired-push}
use Rattle.pex_verify.proofs.object.add_member.Goals as goal

pub returns-in_default-clause-written : goal.returns-in_default-clause-written
returns-in_default-clause-written c = λ before given.
    let home = c.args.home.now in
    let list = home.members.now.list.now in
    let past : length list ≤ c.args.place = omega (arith, c.in_default.ensures.lookup.3) in
    let none : slice_get list c.args.place ≡ None = slice_get_past list c.args.place past in
    subst (λ (l : List Written). AreWritten (site_of home) l c.args.functions.now.items) (sym (ap (λ (o : Option (ℕ × PexFunction)). before ++ member_written home o) none ∙ append-nil before)) given

pub returns-clause-sound : goal.returns-clause-sound
returns-clause-sound c = λ old.
    all_grown (IsSoundFunction (bounds_of c.args.home.now)) c.args.functions.now.items c.push.new.self.items c.in_ok-load_member.field-0 c.in_ok-push.ensures.items old c.in_ok-load_member.ensures.sound

pub returns-clause-written : goal.returns-clause-written
returns-clause-written c = λ before given.
    let home = c.args.home.now in
    let site = site_of home in
    let list = home.members.now.list.now in
    let place = c.args.place in
    let member = c.in-Some.member.now in
    let within : place < length list = omega (arith, c.in-Some.ensures.lookup.3.0) in
    let at : member ≡ get_or list place member = c.in-Some.ensures.lookup.1 in
    let found : slice_get list place ≡ Some member = slice_get-get_or list place member within ∙ ap Some (sym at) in
    let IsLoaded : ℕ → Written → JudgedFunction → Type 0 = λ n w f. IsWritten site w f in
    let pushed = Paired-push Written JudgedFunction IsLoaded before c.args.functions.now.items (written_member home member) c.in_ok-load_member.field-0 given c.in_ok-load_member.ensures.written in
    subst (λ (l : List Written). AreWritten site l c.push.new.self.items) (ap (λ (o : Option (ℕ × PexFunction)). before ++ member_written home o) (sym found))
    (subst (λ (l : List JudgedFunction). AreWritten site (before ++ written_member home member ∷ []) l) (sym {A = List JudgedFunction} c.in_ok-push.ensures.items) pushed)
