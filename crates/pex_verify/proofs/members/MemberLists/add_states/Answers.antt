use Rattle.std.proofs.Common.{◌≡◌, ◌+◌, ◌<◌, length, take, ap, ◌∙◌, arith}
use Rattle.pex_verify.specs.declared.members.MemberLists.{MemberLists}
use Rattle.pex_verify.specs.Members.{Owner, owner_in, with_methods, methods_of_state, methods_of_states}
use Rattle.pex_verify.proofs.MemberLists.{methods_more, methods_of_states-next}
use Rattle.pex_verify.proofs.members.MemberLists.add_states.Goals as goal

pub loop-place-preserved : goal.loop-place-preserved
loop-place-preserved c =
    let start = c.args.self.now in
    let object = c.args.object in
    let owner = owner_in start object in
    let names = c.args.names.now in
    let states = c.args.states.now in
    let i = c.loop-place.place in
    let state = c.index-states-place.result in
    let within : i < length states = omega arith in
    let lists = c.loop-place.self in
    let later = c.add_state.new.self in
    let same : owner_in lists object ≡ owner = ap (λ (l : MemberLists). owner_in l object) c.loop-place.invariant in
    let adds : later ≡ with_methods lists (methods_of_state owner names i state) = c.in_ok-add_state.ensures ∙ ap (λ (o : Owner). with_methods lists (methods_of_state o names i state)) same in
    methods_more start lists later (methods_of_states owner names 0 (take i states)) (methods_of_state owner names i state) (methods_of_states owner names 0 (take (i + 1) states)) c.loop-place.invariant adds (methods_of_states-next owner names states i state state within c.index-states-place.is)
