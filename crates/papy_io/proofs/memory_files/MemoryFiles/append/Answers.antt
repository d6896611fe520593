use Rattle.std.proofs.Common.{◌≡◌, ◌++◌, ap, ◌∙◌, sym, subst, cond}
use Rattle.std.specs.Prelude.{IsSome, is_ok}
use Rattle.std.specs.Option.{option_copied_mut}
use Rattle.std.specs.FinMap.{insert, get}
use Rattle.papy_io.specs.MemoryFiles.{files_of, bytes_in}
use Rattle.papy_io.proofs.FileMap.{get_files_of, is_some-items, is_some_copied, bytes_in_found, files_after, insert_held, after_ok, after_err, held_bytes}
use Rattle.papy_io.proofs.memory_files.MemoryFiles.append.Goals as goal

pub unwrap-held-requires : goal.unwrap-held-requires
unwrap-held-requires c =
    let name = c.args.name.now in
    let found = is_some-items _ (subst IsSome (get_files_of c.self.inside.tree.entries name) (subst (λ m. IsSome (get m name)) (sym c.self.view_is) c.requires)) in
    is_some_copied c.get_mut.result _ c.get_mut.ensures.value found

pub returns-clause-ok : goal.returns-clause-ok
returns-clause-ok c =
    let name = c.args.name.now in
    let old = c.self.inside.tree.entries in
    let grown = c.extend_from_slice.new.self in
    let found = ap option_copied_mut (sym c.unwrap-held.ensures) ∙ c.get_mut.ensures.value in
    let held = bytes_in_found old _ name _ c.self.view_is found in
    after_ok c.extend_from_slice.result (bytes_in c.args.self.now name) c.args.bytes.now grown.items
    (λ t. files_of (c.get_mut.follows.lender grown).entries ≡ insert c.args.self.now name t)
    (subst (λ h. grown.items ≡ cond (is_ok c.extend_from_slice.result) (h ++ c.args.bytes.now) h) (sym held) c.extend_from_slice.ensures.items)
    (files_after old _ _ name _ grown c.self.view_is found (c.get_mut.follows.holds grown).0)

pub returns-clause-err : goal.returns-clause-err
returns-clause-err c =
    let name = c.args.name.now in
    let old = c.self.inside.tree.entries in
    let grown = c.extend_from_slice.new.self in
    let found = ap option_copied_mut (sym c.unwrap-held.ensures) ∙ c.get_mut.ensures.value in
    let held = bytes_in_found old _ name _ c.self.view_is found in
    after_err c.extend_from_slice.result (bytes_in c.args.self.now name) c.args.bytes.now grown.items
    (λ t. files_of (c.get_mut.follows.lender grown).entries ≡ insert c.args.self.now name t)
    (files_of (c.get_mut.follows.lender grown).entries ≡ c.args.self.now)
    (λ e. e ∙ insert_held c.args.self.now name (bytes_in c.args.self.now name) (held_bytes c.args.self.now name c.requires))
    (subst (λ h. grown.items ≡ cond (is_ok c.extend_from_slice.result) (h ++ c.args.bytes.now) h) (sym held) c.extend_from_slice.ensures.items)
    (files_after old _ _ name _ grown c.self.view_is found (c.get_mut.follows.holds grown).0)
