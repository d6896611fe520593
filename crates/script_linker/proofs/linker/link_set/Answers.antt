use Rattle.std.proofs.Common.{rules, ℕ, ◌≡◌, ◌<◌, ◌≤◌, ◌∙◌, false, length, ap, IfErr, sym, subst, arith}
use Rattle.std.proofs.lemmas.Result.{IfErr-weaker}
use Rattle.papy_base.specs.Circles.{is_marked, MarksCircles, NoneMarked}
use Rattle.papy_base.specs.Lineage.{AreAmong, AreRooted}
use Rattle.script_linker.specs.Lookup.{HasPreludeParents, StartsWithPrelude}
use Rattle.script_parser.specs.Lines.{heading_lines}
use Rattle.script_linker.specs.Link.{IsFaultOn, declared_lines}
use Rattle.script_linker.proofs.FoundLemmas.{of_heading}
use Rattle.script_linker.proofs.LinkLemmas.{HasNumbers-behind, IsFaultOn-more}
use Rattle.script_linker.proofs.LookupLemmas.{NoneMarked-behind, length-parents_of}
use Rattle.script_linker.proofs.linker.link_set.Goals as goal

pub new-requires-clause-rooted : goal.new-requires-clause-rooted
new-requires-clause-rooted c =
    let files = c.args.files.items in
    let parents = c.in_ok-parents.parents.items in
    let marks = c.in_ok-circles.circles.items in
    let same : c.as_slice-3.result.now ≡ parents = c.as_slice-3.ensures.value in
    let among : AreAmong parents = c.in_ok-parents.ensures.among in
    let exact = subst (λ ps. AreAmong ps → MarksCircles ps marks) same c.in_ok-circles.ensures.exact among in
    let rooted = subst (λ ps. AreAmong ps → NoneMarked marks → AreRooted ps) same c.in_ok-circles.ensures.rooted among in
    let known : HasPreludeParents parents = c.in_ok-parents.ensures.prelude (subst StartsWithPrelude (sym c.as_slice-2.ensures.value) c.requires.start) in
    let count : length parents ≡ length files = ap length c.in_ok-parents.ensures.parents ∙ length-parents_of c.as_slice-2.result.now ∙ ap length c.as_slice-2.ensures.value in
    let long : length marks ≡ length parents = sym c.in_ok-circles.circles.ok.0 ∙ c.in_ok-circles.ensures.length ∙ ap length same in
    let behind = subst (λ ms. (n : ℕ) → 6 ≤ n → n < length files → is_marked ms n ≡ false) c.deref-2.ensures.value (subst (λ fs. (n : ℕ) → 6 ≤ n → n < length fs → is_marked c.deref-2.result.now n ≡ false) c.as_slice-4.ensures.value c.in_ok-judge_scripts.ensures.rooted) in
    rooted (NoneMarked-behind parents known marks (omega (arith, c.requires.start.count, count)) long exact (λ n past below. behind n past (omega (arith, count, below))))

pub returns-in_err-judge_scripts-clause-broken : goal.returns-in_err-judge_scripts-clause-broken
returns-in_err-judge_scripts-clause-broken c =
    let result = c.from_residual-in_err-judge_scripts.result in
    let files = c.args.files.items in
    let on : IfErr result (IsFaultOn (λ n. heading_lines) c.as_slice-4.result.now) = search rules in
    IfErr-weaker result _ _ (IsFaultOn-more (λ n. heading_lines) (declared_lines c.args.declared.now) (λ n script. of_heading _ script) files) (rw c.as_slice-4.ensures.value at on)

pub invariant_of-result : goal.invariant_of-result
invariant_of-result c =
    HasNumbers-behind c.args.files.items c.in_ok-scripts.scripts c.in_ok-scripts.ensures (omega (arith, c.requires.count)) c.requires.start.count c.requires.small c.in_ok-judge_members.ensures.few
