use Rattle.std.proofs.Common.{◌≡◌, ℕ, ◌+◌, ◌<◌, List, [], ◌∷◌, ◌++◌, length, get_or, take, refl, ap, ◌∙◌, arith}
use Rattle.pex_set.specs.Names.{empty_name}
use Rattle.papy_base.specs.declared.descent.Span.{Span}
use Rattle.pex_set.specs.declared.inherited.OwnMember.{OwnMember}
use Rattle.pex_verify.specs.declared.members.MemberLists.{MemberLists}
use Rattle.pex_verify.specs.declared.scripts.PropertySignature.{PropertySignature}
use Rattle.pex_verify.specs.Members.{Owner, owner_in, member_of, with_places, with_properties}
use Rattle.pex_verify.proofs.MemberLists.{properties_more, with_places-next}
use Rattle.pex_verify.proofs.members.MemberLists.add_properties.Goals as goal

pub loop-place-preserved : goal.loop-place-preserved
loop-place-preserved c =
    let start = c.args.self.now in
    let object = c.args.object in
    let owner = owner_in start object in
    let properties = c.args.properties.now in
    let member : ℕ → PropertySignature → OwnMember = λ place property. member_of owner 0 (empty_name, property.name) place in
    let i = c.loop-place.place in
    let none : PropertySignature = record { name = 0; kind = 0; bits = 0 } in
    let property : PropertySignature = get_or properties i none in
    let within : i < length properties = omega arith in
    let lists = c.loop-place.self in
    let later : MemberLists = record lists { properties = c.add.new.self } in
    let same : owner_in lists object ≡ owner = ap (λ (l : MemberLists). owner_in l object) c.loop-place.invariant in
    let span : c.span-span.result ≡ owner.span = c.span-span.ensures ∙ ap (λ (o : Owner). o.span) same in
    let one : Span → OwnMember = λ s. record { names = (empty_name, property.name); span = s; place = record { object = object; state = 0; place = i } } in
    let adds : later ≡ with_properties lists (member i property ∷ []) =
    ap (λ (l : List OwnMember). let whole : MemberLists = record lists { properties = l } in whole) (c.in_ok-add.ensures ∙ ap (λ (s : Span). lists.properties ++ one s ∷ []) span) in
    properties_more start lists later (with_places member 0 (take i properties)) (member i property ∷ []) (with_places member 0 (take (i + 1) properties)) c.loop-place.invariant adds (with_places-next member properties i property none within refl)
