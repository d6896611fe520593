-- What completing files keeps.
use Rattle.std.proofs.Common.{ℕ, ◌≡◌, ◌+◌, ◌-◌, ◌<◌, ◌≤◌, List, ◌++◌, length, map, take, drop, get_or, All, Contains, Option, Some, None, IfSome, IsSome, option_and_then, refl, append_assoc, Result, Ok, Err, IfOk, set, length-set, length-take, ◌≢◌, sym, ap, subst, ◌∙◌, ⊎_elim, arith}
use Rattle.std.proofs.lemmas.List.{get_or-drop, get_or-map, get_or_default, get_or-set_same, get_or-set_other, get_or-take, take-append-le, take_all}
use Rattle.std.proofs.lemmas.Bool.{cases_eq, cases_lt}
use Rattle.script_parser.specs.declared.script.Script.{Script}
use Rattle.script_linker.specs.declared.set.SourceFile.{SourceFile}
use Rattle.papy_base.specs.declared.earliest.BrokenRule.{BrokenRule}
use Rattle.script_linker.specs.declared.fault.LinkRule.{LinkRule}
use Rattle.script_linker.specs.declared.fault.LinkFault.{LinkFault}
use Rattle.script_linker.specs.declared.fault.LinkFault.TheVariants.{Broken, OutOfMemory}
use Rattle.script_parser.specs.Lines.{lines_of, lines_with, own_lines}
use Rattle.script_linker.specs.Link.{IsCompleted, AreCompleted, AreFilesOf, IsFaultOf, IsFaultOn, declared_lines, function_count}
use Rattle.script_linker.specs.Lookup.{HasNumbers, HasSmallScript, script_named}
use Rattle.script_linker.specs.Rules.{IsNoParent, IsParent}
use Rattle.script_linker.proofs.FoundLemmas.{AreAmong}

pub IsCompleted-trans : (a b c : SourceFile) → IsCompleted a b → IsCompleted b c → IsCompleted a c
IsCompleted-trans a b c p q = record {
  name = q.name ∙ p.name;
  rest = let completed : Script → Script = λ s. record s { functions = c.script.functions } in q.rest ∙ ap completed p.rest;
  added = p.added ++ q.added;
  functions = q.functions ∙ ap (λ xs. xs ++ q.added) p.functions ∙ append_assoc a.script.functions.items p.added q.added;
}

-- completed files behind six others
pub AreFilesOf-behind : {files completed set : List SourceFile} → AreCompleted files completed → drop 6 set ≡ completed → length set ≡ length completed + 6 → AreFilesOf files set
AreFilesOf-behind {files} {completed} {set} done behind count = record {
  count = omega (arith, done.count);
  each = λ n d l.
      let turned : n + 6 ≡ 6 + n = omega arith in
      let at : get_or set (n + 6) d ≡ get_or completed n d = ap (λ k. get_or set k d) turned ∙ sym (get_or-drop 6 set n d) ∙ ap (λ xs. get_or xs n d) behind in
      subst (λ file. IsCompleted (get_or files n d) file) (sym at) (done.each n d l);
}

-- a completed file's own lines are those that it had before
own_lines-completed : (before after : SourceFile) → IsCompleted before after → own_lines (function_count before) after.script ≡ lines_of before.script
own_lines-completed before after done =
    let own = before.script.functions.items in
    let first : take (length own) after.script.functions.items ≡ own =
    ap (take (length own)) done.functions ∙ take-append-le (length own) own done.added (omega arith) ∙ take_all (length own) own (omega arith) in
    ap (λ functions. lines_with functions after.script) first ∙ ap (lines_with own) done.rest

-- a fault on a line of a completed file is one on a line of the file
pub IsFaultOf-completed : (files set : List SourceFile) → AreFilesOf files set → (fault : LinkFault) → IsFaultOn (declared_lines (map function_count files)) set fault → IsFaultOf files fault
IsFaultOf-completed files set of OutOfMemory on = tt
IsFaultOf-completed files set of (Broken file line rule) on =
    let inside : file < length files = omega (arith, of.count, on.0) in (
      inside,
      λ source.
          let count = get_or-map function_count files file source 0 inside in
          let after = (get_or set (file + 6) source).script in
          let own = subst (λ n. Contains (own_lines n after) line) count (on.1 source) in
          subst (λ lines. Contains lines line) (own_lines-completed (get_or files file source) (get_or set (file + 6) source) (of.each file source inside)) own,
    )

-- the fault of a rule that is broken on a line of the file of this number in the set
pub IsFaultOn-at : (lines : ℕ → Script → List ℕ) (set : List SourceFile) (number line : ℕ) (rule : LinkRule) (fault : LinkFault) → fault ≡ Broken (number - 6) line rule → 6 ≤ number → number < length set
    → ((source : SourceFile) → Contains (lines (number - 6) (get_or set number source).script) line) → IsFaultOn lines set fault
IsFaultOn-at lines set number line rule fault is behind inside on =
    let back : number - 6 + 6 ≡ number = omega arith in
    subst (IsFaultOn lines set) (sym is) (omega arith, λ source. subst (λ n. Contains (lines (number - 6) (get_or set n source).script) line) (sym back) (on source))

-- what is on the lines of a file that was read is on those of the file of its number
pub IfSome-at : (lines : Script → List ℕ) (files : List SourceFile) (number : ℕ) (read : SourceFile) → number < length files → read ≡ get_or files number read
    → (found : Option (BrokenRule LinkRule)) → IfSome found (λ one. Contains (lines read.script) one.line) → IfSome found (λ one. (file : SourceFile) → Contains (lines (get_or files number file).script) one.line)
IfSome-at lines files number read inside is None on = tt
IfSome-at lines files number read inside is (Some one) on = λ file.
    let at : read ≡ get_or files number file = is ∙ get_or_default files number read file inside in
    subst (λ source. Contains (lines source.script) one.line) at on

pub IsFaultOn-more : (few many : ℕ → Script → List ℕ) → ((n : ℕ) (script : Script) → AreAmong (few n script) (many n script)) → (set : List SourceFile) (fault : LinkFault) → IsFaultOn few set fault → IsFaultOn many set fault
IsFaultOn-more few many within set OutOfMemory on = tt
IsFaultOn-more few many within set (Broken file line rule) on =
    (on.0, λ source. (within file (get_or set (file + 6) source).script).each line (on.1 source))

-- one more file is completed
pub AreCompleted-set : (old new : List SourceFile) (i : ℕ) (before after : SourceFile) → AreCompleted old new → i < length new → before ≡ get_or new i before → IsCompleted before after → AreCompleted old (set new i after)
AreCompleted-set old new i before after done lt is step = record {
  count = length-set new i after ∙ done.count;
  each = λ n d l.
      ⊎_elim
      (λ (same : n ≡ i).
      let was : get_or new n d ≡ before = ap (λ k. get_or new k d) same ∙ get_or_default new i d before lt ∙ sym is in
      let now : get_or (set new i after) n d ≡ after = ap (λ k. get_or (set new i after) k d) same ∙ get_or-set_same new i after d lt in
      subst (λ file. IsCompleted (get_or old n d) file) (sym now) (IsCompleted-trans _ _ _ (subst (λ file. IsCompleted (get_or old n d) file) was (done.each n d l)) step))
      (λ (other : n ≢ i).
      let kept : get_or (set new i after) n d ≡ get_or new n d = get_or-set_other new i n after d other in
      subst (λ file. IsCompleted (get_or old n d) file) (sym kept) (done.each n d l))
      (cases_eq n i);
}

pub IfOk-is : {T E : Type 0} (r : Result T E) (x : T) (P : T → Type 0) → IfOk r (λ y. y ≡ x) → P x → IfOk r P
IfOk-is (Ok y) x P same holds = subst P (sym same) holds
IfOk-is (Err e) x P same holds = tt

-- the prelude's scripts have few members, and so have those behind it
pub HasNumbers-behind : (files set : List SourceFile) → set ≡ files → length files < 65536 → 6 ≤ length files → All HasSmallScript (take 6 files)
    → ((n : ℕ) (file : SourceFile) → 6 ≤ n → n < length set → HasSmallScript (get_or set n file)) → HasNumbers set
HasNumbers-behind files set same count enough small rest = record {
  scripts = rw same count;
  members = λ n d inside.
      ⊎_elim
      (λ (l : n < 6).
      let short : n < length (take 6 files) = simp length-take (omega arith) in
      let first : HasSmallScript (get_or files n d) = subst HasSmallScript (get_or-take 6 files n d l) (small n d short) in
      subst (λ xs. HasSmallScript (get_or xs n d)) (sym same) first)
      (λ (g : 6 ≤ n). rest n d g inside)
      (cases_lt n 6);
}

IsParent-from : (found : Option ℕ) → ¬ IsNoParent found → IsParent found
IsParent-from None can_be = can_be tt
IsParent-from (Some parent) can_be =
    ⊎_elim
    (λ (l : parent < 3). absurd (can_be l))
    (λ (g : 3 ≤ parent). g)
    (cases_lt parent 3)

-- a script that doesn't lack the parent that it names
pub parent_found : (files : List SourceFile) (parent : Option (List ℕ)) (found : Option ℕ) → found ≡ option_and_then (script_named files) parent → ¬ (IsSome parent × IsNoParent found)
    → IfSome parent (λ name. IsParent (script_named files name))
parent_found files None found is has = tt
parent_found files (Some name) found is has =
    IsParent-from (script_named files name) (λ lacks. has (refl, subst IsNoParent (sym is) lacks))
