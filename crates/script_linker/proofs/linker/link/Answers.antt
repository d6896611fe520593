use Rattle.std.proofs.Common.{IfErr, ap, ◌≡◌, ◌+◌, length, map, take, drop, sym, subst, ◌∙◌, arith}
use Rattle.std.proofs.lemmas.Result.{IfErr-weaker}
use Rattle.script_linker.specs.Link.{AreFilesOf, IsFaultOf, IsFaultOn, declared_lines, function_count}
use Rattle.script_linker.specs.Generated.{AreStandard, HaveGiven, standard_scripts}
use Rattle.script_linker.specs.Lookup.{StartsWithPrelude}
use Rattle.script_linker.proofs.LinkLemmas.{AreFilesOf-behind, IsFaultOf-completed, IfOk-is}
use Rattle.script_linker.proofs.linker.link.Goals as goal

pub returns-clause-files : goal.returns-clause-files
returns-clause-files c =
    let set = c.in_ok-set.set.items in
    let count : length set ≡ length c.add_generated.new.files.items + 6 = omega (arith, c.in_ok-set.ensures.count, c.in_ok-set.set.ok.0, c.add_generated.new.files.ok.0) in
    IfOk-is c.link_set.result set (AreFilesOf c.args.files.items) c.link_set.ensures.files (AreFilesOf-behind c.in_ok-add_generated.ensures.completed c.in_ok-set.ensures.files count)

pub returns-clause-given : goal.returns-clause-given
returns-clause-given c =
    let given = subst (HaveGiven c.args.files.items) (sym c.in_ok-set.ensures.files) c.in_ok-add_generated.ensures.given in
    IfOk-is c.link_set.result c.in_ok-set.set.items (λ set. HaveGiven c.args.files.items (drop 6 set)) c.link_set.ensures.files given

pub returns-clause-standard : goal.returns-clause-standard
returns-clause-standard c =
    IfOk-is c.link_set.result c.in_ok-set.set.items (λ set. AreStandard standard_scripts (take 6 set)) c.link_set.ensures.files c.in_ok-set.ensures.standard

pub returns-clause-prelude : goal.returns-clause-prelude
returns-clause-prelude c =
    IfOk-is c.link_set.result c.in_ok-set.set.items StartsWithPrelude c.link_set.ensures.files c.in_ok-set.ensures.start

pub returns-clause-broken : goal.returns-clause-broken
returns-clause-broken c =
    let files = c.args.files.items in
    let set = c.in_ok-set.set.items in
    let count : length set ≡ length c.add_generated.new.files.items + 6 = omega (arith, c.in_ok-set.ensures.count, c.in_ok-set.set.ok.0, c.add_generated.new.files.ok.0) in
    let of = AreFilesOf-behind c.in_ok-add_generated.ensures.completed c.in_ok-set.ensures.files count in
    let declared = c.as_slice-2.ensures.value ∙ c.in_ok-declared.ensures ∙ ap (map function_count) c.as_slice.ensures.value in
    let on = subst (λ counts. IfErr c.link_set.result (IsFaultOn (declared_lines counts) set)) declared c.link_set.ensures.broken in
    IfErr-weaker c.link_set.result (IsFaultOn (declared_lines (map function_count files)) set) (IsFaultOf files) (IsFaultOf-completed files set of) on
