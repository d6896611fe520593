use Rattle.std.proofs.Common.{◌≡◌, ℕ, ◌+◌, ◌<◌, [], ◌∷◌, length, take, ap, ◌∙◌, arith}
use Rattle.pex_set.specs.Names.{empty_name}
use Rattle.pex_set.specs.declared.inherited.OwnMember.{OwnMember}
use Rattle.pex_verify.specs.declared.members.MemberLists.{MemberLists}
use Rattle.pex_verify.specs.declared.scripts.Signature.{Signature}
use Rattle.pex_verify.specs.Members.{Owner, owner_in, member_of, with_places, with_methods}
use Rattle.pex_verify.proofs.MemberLists.{methods_more, with_places-next}
use Rattle.pex_verify.proofs.members.MemberLists.add_functions.Goals as goal

pub loop-place-preserved : goal.loop-place-preserved
loop-place-preserved c =
    let start = c.args.self.now in
    let object = c.args.object in
    let owner = owner_in start object in
    let functions = c.args.functions.now in
    let member : ℕ → Signature → OwnMember = λ place function. member_of owner c.args.state (empty_name, function.name) place in
    let i = c.loop-place.place in
    let function = c.index-functions-place.result in
    let within : i < length functions = omega arith in
    let lists = c.loop-place.self in
    let later = c.add_method.new.self in
    let same : owner_in lists object ≡ owner = ap (λ (l : MemberLists). owner_in l object) c.loop-place.invariant in
    let adds : later ≡ with_methods lists (member i function ∷ []) = c.in_ok-add_method.ensures ∙ ap (λ (o : Owner). with_methods lists (member_of o c.args.state (empty_name, function.name) i ∷ [])) same in
    methods_more start lists later (with_places member 0 (take i functions)) (member i function ∷ []) (with_places member 0 (take (i + 1) functions)) c.loop-place.invariant adds (with_places-next member functions i function function within c.index-functions-place.is)
