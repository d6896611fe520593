use Rattle.std.proofs.Common.{sym, ap, ◌∙◌, Some, Vec, Global, ℕ}
use Rattle.std.specs.Option.{option_map}
use Rattle.std.specs.FinMap.{get}
use Rattle.papy_io.proofs.FileMap.{get_files_of}
use Rattle.papy_io.proofs.memory_files.MemoryFiles.get.Goals as goal

pub returns-in-Some : goal.returns-in-Some
returns-in-Some c =
    let name = c.args.name.now in
    ap Some c.as_slice.ensures.value
    ∙ ap (option_map (λ (v : Vec ℕ Global). v.items)) c.in-Some.ensures.value
    ∙ sym (get_files_of c.self.inside.tree.entries name)
    ∙ ap (λ m. get m name) c.self.view_is

pub returns-in-None : goal.returns-in-None
returns-in-None c =
    let name = c.args.name.now in
    ap (option_map (λ (v : Vec ℕ Global). v.items)) c.in-None.ensures.value
    ∙ sym (get_files_of c.self.inside.tree.entries name)
    ∙ ap (λ m. get m name) c.self.view_is
