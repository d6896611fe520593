use Rattle.std.proofs.Common.{◌≡◌, ℕ, ◌+◌, ◌<◌, List, [], ◌∷◌, ◌++◌, length, get_or, map, take, refl, sym, subst, arith}
use Rattle.std.proofs.lemmas.List.{append-nil}
use Rattle.pex_values.specs.declared.values.PexObject.{PexObject}
use Rattle.pex_verify.specs.declared.scripts.ScriptHead.{ScriptHead}
use Rattle.pex_verify.specs.Heads.{Placed, placed, AreHeads, IsHeadOf, members_of, parent_at}
use Rattle.pex_verify.specs.Tables.{all_members}
use Rattle.pex_verify.proofs.Tables.{all_members-next, counted_with}
use Rattle.pex_verify.proofs.Pairs.{Paired-push, behind_next, take_next}
use Rattle.pex_verify.proofs.scripts.add_heads.Goals as goal

pub loop-object-init : goal.loop-object-init
loop-object-init c =
    let heads = c.args.heads.now.items in (
      omega arith,
      λ before given. subst (λ (l : List Placed). AreHeads (members_of c.args.members.now) c.args.parents.now l heads) (sym (append-nil before)) given,
      λ descent before counted given. subst (λ (l : List Placed). c.args.lists.now ≡ all_members descent l heads) (sym (append-nil before)) given,
    )

pub loop-object-preserved : goal.loop-object-preserved
loop-object-preserved c =
    let source = c.args.source.now in
    let objects = source.pex.now.objects.items in
    let members = members_of c.args.members.now in
    let parents = c.args.parents.now in
    let IsHead : ℕ → Placed → ScriptHead → Type 0 = λ n o h. IsHeadOf members (parent_at parents n) o.source.names.now o.object h in
    let i = c.loop-object.object-index in
    let heads = c.loop-object.heads in
    let object = c.object-item.result in
    let head = c.in_ok-head.head in
    let within : i < length objects = omega arith in
    let is : object ≡ get_or objects i object = subst (λ (l : List PexObject). object ≡ get_or l i object) c.deref-object-items.ensures.value c.object-item.is in
    let with_done : List Placed → List Placed = λ before. before ++ map (placed source) (take i objects) in
    let wider : (before : List Placed) → with_done before ++ placed source object ∷ [] ≡ before ++ map (placed source) (take (i + 1) objects) = λ before.
    behind_next (placed source) before (with_done before) (with_done before ++ placed source object ∷ []) (take i objects) (take (i + 1) objects) object refl (take_next objects i object object within is) refl in
    let here : IsHead (length heads.items) (placed source object) head = subst (λ (n : ℕ). IsHead n (placed source object) head) (omega arith) c.in_ok-head.ensures in (
      omega (arith, c.in_ok-push.ensures.len),
      λ before given.
          let done = with_done before in
          let pushed = Paired-push Placed ScriptHead IsHead done heads.items (placed source object) head (c.loop-object.invariant.1 before given) here in
          subst (λ (l : List Placed). AreHeads members parents l c.push.new.self.items) (wider before)
          (subst (λ (hs : List ScriptHead). AreHeads members parents (done ++ placed source object ∷ []) hs) (sym c.in_ok-push.ensures.items) pushed),
      λ descent before counted given.
          let done = with_done before in
          let as_many : length done ≡ length heads.items = omega (arith, counted_with (placed source) before objects i (omega arith), counted, c.loop-object.invariant.0) in
          let number : c.len-number.result ≡ length heads.items = omega arith in
          subst (λ (l : List Placed). c.add.new.self ≡ all_members descent l c.push.new.self.items) (wider before)
          (all_members-next descent done heads.items c.push.new.self.items c.loop-object.lists c.add.new.self c.len-number.result (placed source object) head c.in_ok-push.ensures.items as_many number (c.loop-object.invariant.2 descent before counted given) c.in_ok-add.ensures),
    )
