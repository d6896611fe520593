-- The bytes of a whole file.
use Rattle.std.proofs.Common.{◌≡◌, ℕ, zero, suc, ◌+◌, ◌<◌, ◌≤◌, ◌^◌, List, ◌++◌, length, Bool, true, false, Option, Some, None, inl, inr, refl, sym, ap, subst, ◌∙◌, arith}
use Rattle.std.specs.Prelude.{IfSome, ◌==◌, ◌||◌, ◌⊎◌, nat_le}
use Rattle.std.specs.List.{flat_map}
use Rattle.std.proofs.lemmas.Bool.Decides.{nat_tests}
use Rattle.pex_values.specs.Fit.{IsCounted, FitsDebug}
use Rattle.pex_values.specs.Plain.{PlainLines, PlainDebug, PlainObject, PlainPex}
use Rattle.pex_values.specs.Shape.{IsReference, IsShapedLines, IsShapedDebug, IsShapedFlag, IsShapedObject, IsWellShaped}
use Rattle.pex_values.specs.Spelling.{one_byte, two_bytes, four_bytes, eight_bytes, string, list, lines, debug, flag, object, heading, spelling}
use Rattle.pex_codec.specs.declared.faults.PexRule.TheVariants.{BadMagic, BadVersion, BadGame, BadDebugFlag}
use Rattle.pex_codec.specs.declared.cursor.FileHeader.{FileHeader}
use Rattle.pex_codec.specs.declared.cursor.LinesHead.{LinesHead}
use Rattle.pex_codec.specs.Laws.{AreBytes}
use Rattle.pex_codec.specs.Reading.{Reader, Got, then_read, read_as, judged, byte_at, number_at, list_at, lines_head_at, lines_with, lines_at, debug_flag_at, debug_with, debug_at, flag_at, heading_at, Texts, texts_at, pex_with, pex_at}
use Rattle.pex_codec.specs.Writing.{FitEach}
use Rattle.pex_codec.proofs.Exact.{Spans, Stands, IsExact, joined, spelled_as, same_got, ended_at, taken, viewed, follow, ending, judged_exact, row2, row3, row4, row5, byte_exact, two_exact, four_exact, eight_exact, string_exact, items_exact, list_exact}
use Rattle.pex_codec.proofs.ExactCode.{reference_exact, each_first, each_second, each_both}
use Rattle.pex_codec.proofs.ExactObject.{IsSized, object_exact}

-- ---- debug information

record IsLinesHead (strings : ℕ) (h : LinesHead) : Type 0 where
  pub object : IsReference strings h.object
  pub state : IsReference strings h.state
  pub function : IsReference strings h.function
  pub kind : h.kind < 2 ^ 8
  pub lines : h.lines < 2 ^ 16

abbrev lines_head : LinesHead → List ℕ
lines_head h = two_bytes h.object ++ two_bytes h.state ++ two_bytes h.function ++ one_byte h.kind ++ two_bytes h.lines

abbrev make_head : ℕ → ℕ → ℕ → ℕ → ℕ → LinesHead
make_head object state function kind lines = record { object = object; state = state; function = function; kind = kind; lines = lines }

head_complete : (strings : ℕ) (h : LinesHead) (at : ℕ) (rest : List ℕ) → IsLinesHead strings h → lines_head_at strings at (lines_head h ++ rest) ≡ Got h (at + length (lines_head h)) rest
unfolding lines_head_at
head_complete strings h at rest p =
    let r = reference_exact strings in
    row5 (lines_head_at strings) at (two_bytes h.object) (two_bytes h.state) (two_bytes h.function) (one_byte h.kind) (two_bytes h.lines) rest h
    (follow _ r h.object at _ p.object ∙ (follow _ r h.state (at + 2) _ p.state ∙ (follow _ r h.function (at + 2 + 2) _ p.function
    ∙ (follow (λ kind at4 rest4. read_as (λ lines. make_head h.object h.state h.function kind lines) (number_at 2 at4 rest4)) byte_exact h.kind (at + 2 + 2 + 2) (two_bytes h.lines ++ rest) p.kind
    ∙ ending (λ lines. make_head h.object h.state h.function h.kind lines) two_exact h.lines (at + 2 + 2 + 2 + 1) rest p.lines))))

head_sound : (strings : ℕ) (h : LinesHead) (at : ℕ) (bytes : List ℕ) (end : ℕ) (rest : List ℕ) → AreBytes bytes → lines_head_at strings at bytes ≡ Got h end rest → Stands (IsLinesHead strings) lines_head h at bytes end rest
unfolding lines_head_at
head_sound strings h at bytes end rest b e =
    let r = reference_exact strings in
    let of_object = taken r _ at bytes h end rest b e in
    let of_state = taken r _ of_object.mid of_object.behind h end rest of_object.others of_object.later in
    let of_function = taken r _ of_state.mid of_state.behind h end rest of_state.others of_state.later in
    let kind = taken byte_exact _ of_function.mid of_function.behind h end rest of_function.others of_function.later in
    let count = viewed two_exact _ kind.mid kind.behind h end rest kind.others kind.later in
    subst (λ z. Stands (IsLinesHead strings) lines_head z at bytes end rest) count.is
    (record {
      may = record { object = of_object.may; state = of_state.may; function = of_function.may; kind = kind.may; lines = count.may };
      spans = joined (joined (joined (joined of_object.spans of_state.spans) of_function.spans) kind.spans) count.spans;
      others = count.others;
    })

lines_head_exact : (strings : ℕ) → IsExact (IsLinesHead strings) lines_head (lines_head_at strings)
lines_head_exact strings = record { complete = head_complete strings; sound = head_sound strings }

abbrev pub ShapedLines : ℕ → PlainLines → Type 0
ShapedLines strings e = IsShapedLines strings e × IsCounted e.lines

abbrev head_of : PlainLines → LinesHead
head_of e = record { object = e.object; state = e.state; function = e.function; kind = e.kind; lines = length e.lines }

abbrev make_lines : LinesHead → List ℕ → PlainLines
make_lines h lines = record { object = h.object; state = h.state; function = h.function; kind = h.kind; lines = lines }

lines_complete : (strings : ℕ) (e : PlainLines) (at : ℕ) (rest : List ℕ) → ShapedLines strings e → lines_at strings at (lines e ++ rest) ≡ Got e (at + length (lines e)) rest
unfolding lines lines_at
lines_complete strings e at rest p =
    row2 (lines_at strings) at (lines_head (head_of e)) (flat_map two_bytes e.lines) rest e
    (follow lines_with (lines_head_exact strings) (head_of e) at (flat_map two_bytes e.lines ++ rest) (record { object = p.0.object; state = p.0.state; function = p.0.function; kind = p.0.kind; lines = p.1 })
    ∙ ending (λ numbers. make_lines (head_of e) numbers) (items_exact two_exact (length e.lines)) e.lines (at + 9) rest (refl, p.0.lines))

lines_sound : (strings : ℕ) (x : PlainLines) (at : ℕ) (bytes : List ℕ) (end : ℕ) (rest : List ℕ) → AreBytes bytes → lines_at strings at bytes ≡ Got x end rest → Stands (ShapedLines strings) lines x at bytes end rest
unfolding lines lines_at
lines_sound strings x at bytes end rest b e =
    let head = taken (lines_head_exact strings) lines_with at bytes x end rest b e in
    let h = head.part in
    let numbers = viewed (items_exact two_exact h.lines) (λ numbers. make_lines h numbers) head.mid head.behind x end rest head.others head.later in
    let count = sym numbers.may.0 in
    let number = λ (n : ℕ). two_bytes h.object ++ two_bytes h.state ++ two_bytes h.function ++ one_byte h.kind ++ two_bytes n ++ flat_map two_bytes numbers.part in
    subst (λ z. Stands (ShapedLines strings) lines z at bytes end rest) numbers.is
    (record {
      may = (record { object = head.may.object; state = head.may.state; function = head.may.function; kind = head.may.kind; lines = numbers.may.1 }, subst (λ (n : ℕ). n < 2 ^ 16) count head.may.lines);
      spans = spelled_as (ap number count) (joined head.spans numbers.spans);
      others = numbers.others;
    })

pub lines_exact : (strings : ℕ) → IsExact (ShapedLines strings) lines (lines_at strings)
lines_exact strings = record { complete = lines_complete strings; sound = lines_sound strings }

abbrev ShapedInfo : ℕ → PlainDebug → Type 0
ShapedInfo strings d = IsShapedDebug strings d × FitsDebug d

abbrev pub ShapedDebug : ℕ → Option PlainDebug → Type 0
ShapedDebug strings d = IfSome d (ShapedInfo strings)

debug_flag_exact : IsExact (λ flag. (flag < 256) × (nat_le flag 1 ≡ true)) one_byte debug_flag_at
unfolding debug_flag_at
debug_flag_exact = judged_exact (λ flag. nat_le flag 1) BadDebugFlag (λ at. at) byte_exact

abbrev make_debug : ℕ → List PlainLines → PlainDebug
make_debug time functions = record { time = time; functions = functions }

debug_complete : (strings : ℕ) (d : Option PlainDebug) (at : ℕ) (rest : List ℕ) → ShapedDebug strings d → debug_at strings at (debug d ++ rest) ≡ Got d (at + length (debug d)) rest
unfolding debug debug_at debug_flag_at
debug_complete strings None at rest p = ended_at None rest (suc at) (at + 1) (omega arith)
debug_complete strings (Some d) at rest p =
    let functions = each_both (IsShapedLines strings) (λ e. IsCounted e.lines) d.functions p.0.functions p.1.each in
    row3 (debug_at strings) at (one_byte 1) (eight_bytes d.time) (list lines d.functions) rest (Some d)
    (follow (λ time at1 rest1. read_as (λ functions. Some (make_debug time functions)) (list_at (lines_at strings) at1 rest1)) eight_exact d.time (suc at) (list lines d.functions ++ rest) p.0.time
    ∙ (ending (λ functions. Some (make_debug d.time functions)) (list_exact (lines_exact strings)) d.functions (suc at + 8) rest (p.1.functions, functions)
    ∙ ended_at (Some d) rest (suc at + 8 + length (list lines d.functions)) (at + 1 + 8 + length (list lines d.functions)) (omega arith)))

debug_behind : (strings n : ℕ) (d : Option PlainDebug) (at : ℕ) (bytes : List ℕ) (end : ℕ) (rest : List ℕ) → n ≤ 1 → AreBytes bytes → (mid : ℕ) (behind : List ℕ) → Spans at bytes (one_byte n) mid behind → AreBytes behind
    → debug_with strings n mid behind ≡ Got d end rest → Stands (ShapedDebug strings) debug d at bytes end rest
unfolding debug
debug_behind strings zero d at bytes end rest small b mid behind spans others e =
    same_got (λ z i r. Stands (ShapedDebug strings) debug z at bytes i r) None d mid end behind rest e (record { may = tt; spans = spans; others = others })
debug_behind strings (suc zero) d at bytes end rest small b mid behind spans others e =
    let time = taken eight_exact (λ time at1 rest1. read_as (λ functions. Some (make_debug time functions)) (list_at (lines_at strings) at1 rest1)) mid behind d end rest others e in
    let functions = viewed (list_exact (lines_exact strings)) (λ functions. Some (make_debug time.part functions)) time.mid time.behind d end rest time.others time.later in
    subst (λ z. Stands (ShapedDebug strings) debug z at bytes end rest) functions.is
    (record {
      may = (
        record { time = time.may; functions = each_first (IsShapedLines strings) (λ e. IsCounted e.lines) functions.part functions.may.1 },
        record { functions = functions.may.0; each = each_second (IsShapedLines strings) (λ e. IsCounted e.lines) functions.part functions.may.1 },
      );
      spans = joined spans (joined time.spans functions.spans);
      others = functions.others;
    })
debug_behind strings (suc (suc n)) d at bytes end rest small b mid behind spans others e = absurd (omega (arith, small))

debug_sound : (strings : ℕ) (d : Option PlainDebug) (at : ℕ) (bytes : List ℕ) (end : ℕ) (rest : List ℕ) → AreBytes bytes → debug_at strings at bytes ≡ Got d end rest → Stands (ShapedDebug strings) debug d at bytes end rest
unfolding debug_at
debug_sound strings d at bytes end rest b e =
    let n = taken debug_flag_exact (debug_with strings) at bytes d end rest b e in
    let small : n.part ≤ 1 = let t = n.may.1 in grind (arith, nat_tests) in
    debug_behind strings n.part d at bytes end rest small b n.mid n.behind n.spans n.others n.later

pub debug_exact : (strings : ℕ) → IsExact (ShapedDebug strings) debug (debug_at strings)
debug_exact strings = record { complete = debug_complete strings; sound = debug_sound strings }

-- ---- flags

pub flag_exact : (strings : ℕ) → IsExact (IsShapedFlag strings) flag (flag_at strings)
unfolding flag_at
flag_exact strings =
    let r = reference_exact strings in
    record {
      complete = λ x at rest p.
          row2 (flag_at strings) at (two_bytes x.0) (one_byte x.1) rest x
          (follow (λ name at1 rest1. read_as (λ index. (name, index)) (byte_at at1 rest1)) r x.0 at (one_byte x.1 ++ rest) p.name
          ∙ ending (λ index. (x.0, index)) byte_exact x.1 (at + 2) rest p.index);
      sound = λ x at bytes end rest b e.
          let name = taken r (λ name at1 rest1. read_as (λ index. (name, index)) (byte_at at1 rest1)) at bytes x end rest b e in
          let index = viewed byte_exact (λ index. (name.part, index)) name.mid name.behind x end rest name.others name.later in
          subst (λ z. Stands (IsShapedFlag strings) flag z at bytes end rest) index.is (record { may = record { name = name.may; index = index.may }; spans = joined name.spans index.spans; others = index.others });
    }

-- ---- the header

abbrev IsMinor : ℕ → Type 0
IsMinor n = (n ≡ 1) ⊎ (n ≡ 2)

record IsHeading (h : FileHeader) : Type 0 where
  pub minor : IsMinor h.minor
  pub time : h.time < 2 ^ 64

abbrev heading_bytes : FileHeader → List ℕ
heading_bytes h = heading h.minor ++ eight_bytes h.time

minor_tests : (n : ℕ) → IsMinor n → (n < 256) × ((n == 1 || n == 2) ≡ true)
minor_tests n (inl e) = subst (λ (m : ℕ). (m < 256) × ((m == 1 || m == 2) ≡ true)) (sym e) (omega arith, refl)
minor_tests n (inr e) = subst (λ (m : ℕ). (m < 256) × ((m == 1 || m == 2) ≡ true)) (sym e) (omega arith, refl)

minor_from : (first second : Bool) (n : ℕ) → (n == 1) ≡ first → (n == 2) ≡ second → (first || second) ≡ true → IsMinor n
minor_from true second n e1 e2 e = inl (grind (arith, nat_tests))
minor_from false true n e1 e2 e = inr (grind (arith, nat_tests))
minor_from false false n e1 e2 e = absurd cc

magic_exact : IsExact (λ n. (n < 2 ^ 32) × ((n == 0xFA57C0DE) ≡ true)) four_bytes (λ at bytes. judged (λ magic. magic == 0xFA57C0DE) BadMagic at (number_at 4 at bytes))
magic_exact = judged_exact (λ magic. magic == 0xFA57C0DE) BadMagic (λ at. at) four_exact

major_exact : IsExact (λ n. (n < 256) × ((n == 3) ≡ true)) one_byte (λ at bytes. judged (λ major. major == 3) BadVersion at (byte_at at bytes))
major_exact = judged_exact (λ major. major == 3) BadVersion (λ at. at) byte_exact

minor_exact : IsExact (λ n. (n < 256) × ((n == 1 || n == 2) ≡ true)) one_byte (λ at bytes. judged (λ minor. minor == 1 || minor == 2) BadVersion at (byte_at at bytes))
minor_exact = judged_exact (λ minor. minor == 1 || minor == 2) BadVersion (λ at. at) byte_exact

game_exact : IsExact (λ n. (n < 2 ^ 16) × ((n == 1) ≡ true)) two_bytes (λ at bytes. judged (λ game. game == 1) BadGame at (number_at 2 at bytes))
game_exact = judged_exact (λ game. game == 1) BadGame (λ at. at) two_exact

abbrev make_heading : ℕ → ℕ → FileHeader
make_heading minor time = record { minor = minor; time = time }

abbrev behind_game : ℕ → ℕ → Reader FileHeader
behind_game minor game at bytes = read_as (λ time. make_heading minor time) (number_at 8 at bytes)

abbrev behind_minor : ℕ → Reader FileHeader
behind_minor minor at bytes = then_read (judged (λ game. game == 1) BadGame at (number_at 2 at bytes)) (behind_game minor)

abbrev behind_major : ℕ → Reader FileHeader
behind_major major at bytes = then_read (judged (λ minor. minor == 1 || minor == 2) BadVersion at (byte_at at bytes)) behind_minor

abbrev behind_magic : ℕ → Reader FileHeader
behind_magic magic at bytes = then_read (judged (λ major. major == 3) BadVersion at (byte_at at bytes)) behind_major

heading_complete : (h : FileHeader) (at : ℕ) (rest : List ℕ) → IsHeading h → heading_at at (heading_bytes h ++ rest) ≡ Got h (at + length (heading_bytes h)) rest
unfolding heading_at
heading_complete h at rest p =
    row5 heading_at at (four_bytes 0xFA57C0DE) (one_byte 3) (one_byte h.minor) (two_bytes 1) (eight_bytes h.time) rest h
    (follow behind_magic magic_exact 0xFA57C0DE at (one_byte 3 ++ (one_byte h.minor ++ (two_bytes 1 ++ (eight_bytes h.time ++ rest)))) (omega arith, refl)
    ∙ (follow behind_major major_exact 3 (at + 4) (one_byte h.minor ++ (two_bytes 1 ++ (eight_bytes h.time ++ rest))) (omega arith, refl)
    ∙ (follow behind_minor minor_exact h.minor (at + 4 + 1) (two_bytes 1 ++ (eight_bytes h.time ++ rest)) (minor_tests h.minor p.minor)
    ∙ (follow (behind_game h.minor) game_exact 1 (at + 4 + 1 + 1) (eight_bytes h.time ++ rest) (omega arith, refl)
    ∙ ending (λ time. make_heading h.minor time) eight_exact h.time (at + 4 + 1 + 1 + 2) rest p.time))))

heading_sound : (h : FileHeader) (at : ℕ) (bytes : List ℕ) (end : ℕ) (rest : List ℕ) → AreBytes bytes → heading_at at bytes ≡ Got h end rest → Stands IsHeading heading_bytes h at bytes end rest
unfolding heading_at
heading_sound h at bytes end rest b e =
    let magic = taken magic_exact behind_magic at bytes h end rest b e in
    let major = taken major_exact behind_major magic.mid magic.behind h end rest magic.others magic.later in
    let minor = taken minor_exact behind_minor major.mid major.behind h end rest major.others major.later in
    let game = taken game_exact (behind_game minor.part) minor.mid minor.behind h end rest minor.others minor.later in
    let time = viewed eight_exact (λ time. make_heading minor.part time) game.mid game.behind h end rest game.others game.later in
    let magic_is : magic.part ≡ 0xFA57C0DE = let t = magic.may.1 in grind (arith, nat_tests) in
    let major_is : major.part ≡ 3 = let t = major.may.1 in grind (arith, nat_tests) in
    let game_is : game.part ≡ 1 = let t = game.may.1 in grind (arith, nat_tests) in
    let fields = λ (m v g : ℕ). four_bytes m ++ one_byte v ++ one_byte minor.part ++ two_bytes g ++ eight_bytes time.part in
    let same : fields magic.part major.part game.part ≡ fields 0xFA57C0DE 3 1 =
    ap (λ (m : ℕ). fields m major.part game.part) magic_is ∙ (ap (λ (v : ℕ). fields 0xFA57C0DE v game.part) major_is ∙ ap (λ (g : ℕ). fields 0xFA57C0DE 3 g) game_is) in
    subst (λ z. Stands IsHeading heading_bytes z at bytes end rest) time.is
    (record {
      may = record { minor = minor_from (minor.part == 1) (minor.part == 2) minor.part refl refl minor.may.1; time = time.may };
      spans = spelled_as same (joined (joined (joined (joined magic.spans major.spans) minor.spans) game.spans) time.spans);
      others = time.others;
    })

heading_exact : IsExact IsHeading heading_bytes heading_at
heading_exact = record { complete = heading_complete; sound = heading_sound }

record FitTexts (t : Texts) : Type 0 where
  pub source : IsCounted t.source
  pub user : IsCounted t.user
  pub machine : IsCounted t.machine
  pub strings : FitEach IsCounted t.strings

abbrev texts_bytes : Texts → List ℕ
texts_bytes t = string t.source ++ string t.user ++ string t.machine ++ list string t.strings

abbrev make_texts : List ℕ → List ℕ → List ℕ → List (List ℕ) → Texts
make_texts source user machine strings = record { source = source; user = user; machine = machine; strings = strings }

texts_complete : (t : Texts) (at : ℕ) (rest : List ℕ) → FitTexts t → texts_at at (texts_bytes t ++ rest) ≡ Got t (at + length (texts_bytes t)) rest
unfolding texts_at
texts_complete t at rest p =
    let a = string t.source in
    let b = string t.user in
    let c = string t.machine in
    row4 texts_at at a b c (list string t.strings) rest t
    (follow _ string_exact t.source at (b ++ (c ++ (list string t.strings ++ rest))) p.source ∙ (follow _ string_exact t.user (at + length a) (c ++ (list string t.strings ++ rest)) p.user
    ∙ (follow _ string_exact t.machine (at + length a + length b) (list string t.strings ++ rest) p.machine
    ∙ ending (λ strings. make_texts t.source t.user t.machine strings) (list_exact string_exact) t.strings (at + length a + length b + length c) rest p.strings)))

texts_sound : (t : Texts) (at : ℕ) (bytes : List ℕ) (end : ℕ) (rest : List ℕ) → AreBytes bytes → texts_at at bytes ≡ Got t end rest → Stands FitTexts texts_bytes t at bytes end rest
unfolding texts_at
texts_sound t at bytes end rest b e =
    let source = taken string_exact _ at bytes t end rest b e in
    let user = taken string_exact _ source.mid source.behind t end rest source.others source.later in
    let machine = taken string_exact _ user.mid user.behind t end rest user.others user.later in
    let strings = viewed (list_exact string_exact) _ machine.mid machine.behind t end rest machine.others machine.later in
    subst (λ z. Stands FitTexts texts_bytes z at bytes end rest) strings.is
    (record {
      may = record { source = source.may; user = user.may; machine = machine.may; strings = strings.may };
      spans = joined (joined (joined source.spans user.spans) machine.spans) strings.spans;
      others = strings.others;
    })

texts_exact : IsExact FitTexts texts_bytes texts_at
texts_exact = record { complete = texts_complete; sound = texts_sound }

-- ---- the whole

-- the value is well shaped, and each of its lists fits its count
pub record IsFile (v : PlainPex) : Type 0 where
  pub shaped : IsWellShaped v
  pub source : IsCounted v.source
  pub user : IsCounted v.user
  pub machine : IsCounted v.machine
  pub strings : FitEach IsCounted v.strings
  pub debug : IfSome v.debug FitsDebug
  pub user_flags : IsCounted v.user_flags
  pub objects : FitEach IsSized v.objects

info_both : (strings : ℕ) (d : Option PlainDebug) → IfSome d (IsShapedDebug strings) → IfSome d FitsDebug → ShapedDebug strings d
info_both strings None p q = tt
info_both strings (Some d) p q = (p, q)

info_first : (strings : ℕ) (d : Option PlainDebug) → ShapedDebug strings d → IfSome d (IsShapedDebug strings)
info_first strings None p = tt
info_first strings (Some d) p = p.0

info_second : (strings : ℕ) (d : Option PlainDebug) → ShapedDebug strings d → IfSome d FitsDebug
info_second strings None p = tt
info_second strings (Some d) p = p.1

abbrev make_pex : FileHeader → Texts → Option PlainDebug → List (ℕ × ℕ) → List PlainObject → PlainPex
make_pex h t debug flags objects = record {
  minor = h.minor;
  time = h.time;
  source = t.source;
  user = t.user;
  machine = t.machine;
  strings = t.strings;
  debug = debug;
  user_flags = flags;
  objects = objects;
}

abbrev behind_texts : FileHeader → Texts → Reader PlainPex
behind_texts h t at bytes = pex_with h t at bytes

abbrev behind_heading : FileHeader → Reader PlainPex
behind_heading h at bytes = then_read (texts_at at bytes) (behind_texts h)

pex_complete : (v : PlainPex) (at : ℕ) (rest : List ℕ) → IsFile v → pex_at at (spelling v ++ rest) ≡ Got v (at + length (spelling v)) rest
unfolding spelling pex_at
pex_complete v at rest p =
    let n = length v.strings in
    let h = make_heading v.minor v.time in
    let t = make_texts v.source v.user v.machine v.strings in
    let ts = texts_bytes t in
    let ds = debug v.debug in
    let fs = list flag v.user_flags in
    let os = list object v.objects in
    let objects = each_both (IsShapedObject n) IsSized v.objects p.shaped.objects p.objects.1 in
    row5 pex_at at (heading_bytes h) ts ds fs os rest v
    (follow behind_heading heading_exact h at (ts ++ (ds ++ (fs ++ (os ++ rest)))) (record { minor = p.shaped.minor; time = p.shaped.time })
    ∙ (follow (behind_texts h) texts_exact t (at + 16) (ds ++ (fs ++ (os ++ rest))) (record { source = p.source; user = p.user; machine = p.machine; strings = p.strings })
    ∙ (follow _ (debug_exact n) v.debug (at + 16 + length ts) (fs ++ (os ++ rest)) (info_both n v.debug p.shaped.debug p.debug)
    ∙ (follow _ (list_exact (flag_exact n)) v.user_flags (at + 16 + length ts + length ds) (os ++ rest) (p.user_flags, p.shaped.user_flags)
    ∙ ending (λ objects. make_pex h t v.debug v.user_flags objects) (list_exact (object_exact n)) v.objects (at + 16 + length ts + length ds + length fs) rest (p.objects.0, objects)))))

pex_sound : (v : PlainPex) (at : ℕ) (bytes : List ℕ) (end : ℕ) (rest : List ℕ) → AreBytes bytes → pex_at at bytes ≡ Got v end rest → Stands IsFile spelling v at bytes end rest
unfolding spelling pex_at
pex_sound v at bytes end rest b e =
    let h = taken heading_exact behind_heading at bytes v end rest b e in
    let t = taken texts_exact (behind_texts h.part) h.mid h.behind v end rest h.others h.later in
    let n = length t.part.strings in
    let d = taken (debug_exact n) _ t.mid t.behind v end rest t.others t.later in
    let flags = taken (list_exact (flag_exact n)) _ d.mid d.behind v end rest d.others d.later in
    let objects = viewed (list_exact (object_exact n)) (λ objects. make_pex h.part t.part d.part flags.part objects) flags.mid flags.behind v end rest flags.others flags.later in
    subst (λ z. Stands IsFile spelling z at bytes end rest) objects.is
    (record {
      may = record {
        shaped = record {
          minor = h.may.minor;
          time = h.may.time;
          debug = info_first n d.part d.may;
          user_flags = flags.may.1;
          objects = each_first (IsShapedObject n) IsSized objects.part objects.may.1;
        };
        source = t.may.source;
        user = t.may.user;
        machine = t.may.machine;
        strings = t.may.strings;
        debug = info_second n d.part d.may;
        user_flags = flags.may.0;
        objects = (objects.may.0, each_second (IsShapedObject n) IsSized objects.part objects.may.1);
      };
      spans = joined (joined (joined (joined h.spans t.spans) d.spans) flags.spans) objects.spans;
      others = objects.others;
    })

pub pex_exact : IsExact IsFile spelling pex_at
pex_exact = record { complete = pex_complete; sound = pex_sound }
