use Rattle.std.proofs.Common.{◌≡◌, ℕ, List, [], ◌∷◌, ◌++◌, length, map, Some, inl, refl, sym, ap, subst, ◌∙◌, arith}
use Rattle.std.specs.List.{AllByRecursion}
use Rattle.core_tree.specs.Set.{script_of}
use Rattle.pex_values.specs.declared.debug.PexLines.{PexLines}
use Rattle.pex_values.specs.declared.values.PexObject.{PexObject}
use Rattle.pex_values.specs.Plain.{PlainLines, PlainObject, plain_lines, plain_object}
use Rattle.pex_values.specs.Shape.{IsShapedFlag, IsShapedLines, IsShapedObject}
use Rattle.code_emit.specs.Spelled.{Each, SpellsFlag, SpellsObject, user_flags}
use Rattle.code_emit.specs.Strings.{Home, Origin, Table, home_of, origin_of}
use Rattle.code_emit.specs.Writing.{GoesOn, Notes}
use Rattle.code_emit.proofs.Goes.{more}
use Rattle.code_emit.proofs.Later.{entries_later, object_later}
use Rattle.code_emit.proofs.Spelling.{object_on}
use Rattle.code_emit.proofs.emitter.emit_file.Goals as goal

-- the entries that were added to none
first_entries : (n : ℕ) (before after : List PexLines) (P : List PlainLines → Type 0) (notes : Notes n (map plain_lines before) (map plain_lines after) P) → before ≡ [] → map plain_lines after ≡ notes.added
first_entries n before after P notes none =
    notes.entries ∙ ap (λ (es : List PexLines). map plain_lines es ++ notes.added) none

pub returns-clause-shaped : goal.returns-clause-shaped
returns-clause-shaped c =
    let m = length c.object.new.writer.strings.strings in
    let n = length c.user_flags.new.strings.strings in
    let longer = more c.in_ok-user_flags.ensures.goes in
    let noted = c.in_ok-object.ensures.spelled in
    let entries = first_entries m c.new-2.result.items c.object.new.writer.debug.items _ noted c.new-2.ensures.items in
    let size : length c.in_ok-strings.strings.items ≡ n = ap (λ (ss : List (List ℕ)). length ss) c.in_ok-strings.ensures in
    let Entries : ℕ → Type 0 = λ k. AllByRecursion (IsShapedLines k) (map plain_lines c.object.new.writer.debug.items) in
    let Flags : ℕ → Type 0 = λ k. AllByRecursion (IsShapedFlag k) c.in_ok-user_flags.user_flags.items in
    let Objects : ℕ → List PexObject → Type 0 = λ k os. AllByRecursion (IsShapedObject k) (map plain_object os) in
    let objects : Objects n c.in_ok-objects.objects.items = subst (Objects n) (sym c.in_ok-objects.ensures.items) (object_later m n longer _ c.in_ok-object.ensures.object, tt) in
    let noted_later : Entries n = entries_later m n longer _ (subst (λ (es : List PlainLines). AllByRecursion (IsShapedLines m) es) (sym entries) noted.shaped) in
    record {
      minor = inl refl;
      time = omega arith;
      debug = record { time = omega arith; functions = subst Entries (sym size) noted_later };
      user_flags = subst Flags (sym size) c.in_ok-user_flags.ensures.flags;
      objects = subst (λ (k : ℕ). Objects k c.in_ok-objects.objects.items) (sym size) objects;
    }

table_is : (table : Table) (home : Home) (strings : List (List ℕ)) → table.home ≡ home → strings ≡ table.strings → table ≡ record { home = home; strings = strings }
table_is table home strings first second =
    ap (λ (h : Home). record { home = h; strings = table.strings }) first
    ∙ ap (λ (s : List (List ℕ)). record { home = home; strings = s }) (sym second)

pub returns-clause-spelled : goal.returns-clause-spelled
returns-clause-spelled c =
    let from : Origin = origin_of c.args.source in
    let mid : Table = c.object.new.writer.strings in
    let new : Table = c.user_flags.new.strings in
    let goes : GoesOn mid new = c.in_ok-user_flags.ensures.goes in
    let noted = c.in_ok-object.ensures.spelled in
    let object : PlainObject = plain_object c.in_ok-object.object in
    let entries = first_entries (length mid.strings) c.new-2.result.items c.object.new.writer.debug.items _ noted c.new-2.ensures.items in
    let home : new.home ≡ home_of from = goes.home ∙ c.in_ok-object.ensures.goes.home ∙ ap (λ (t : Table). t.home) c.new.ensures in
    let same = table_is new (home_of from) c.in_ok-strings.strings.items home c.in_ok-strings.ensures in
    record {
      object = object;
      objects = ap (λ (os : List PexObject). map plain_object os) c.in_ok-objects.ensures.items;
      entries = noted.added;
      debug = ap (λ (es : List PlainLines). Some (record { time = 0; functions = es })) entries;
      spelled = subst (λ (t : Table). SpellsObject from t object (script_of from.script) noted.added) same (object_on mid new goes from object (script_of from.script) noted.added noted.are);
      flags = subst (λ (t : Table). Each (SpellsFlag t) c.in_ok-user_flags.user_flags.items user_flags) same c.in_ok-user_flags.ensures.spelled;
    }
