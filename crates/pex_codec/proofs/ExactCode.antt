-- The bytes of values, instructions and functions.
use Rattle.std.proofs.Common.{◌≡◌, ℕ, zero, suc, ◌+◌, ◌<◌, ◌≤◌, ◌^◌, ℤ, pos, negsuc, List, [], ◌∷◌, ◌++◌, length, Bool, true, false, Option, Some, None, refl, sym, ap, subst, ◌∙◌, append_assoc, arith}
use Rattle.std.specs.Prelude.{FitsSigned, nat_le, nat_lt, is_some, ◌==◌}
use Rattle.std.specs.Int.{w32, cast_unsigned, cast_signed}
use Rattle.std.specs.List.{flat_map, AllByRecursion}
use Rattle.std.proofs.lemmas.Bool.Decides.{nat_tests}
use Rattle.std.proofs.lemmas.Int.{to_z-of_z, of_z-to_z}
use Rattle.std.proofs.Math.Facts.{sfits_to_z}
use Rattle.std.proofs.lemmas.List.{append-nil, nil_from_length}
use Rattle.pex_values.specs.declared.values.Datum.{Datum}
use Rattle.pex_values.specs.declared.values.Datum.TheVariants.{NoneValue, Word, Quoted, Int, Float, Bool as BoolByte}
use Rattle.pex_values.specs.Fit.{FitsInstruction, FitsFunction, FitsState}
use Rattle.pex_values.specs.Opcodes.{operands_of}
use Rattle.pex_values.specs.Plain.{PlainInstruction, PlainFunction, PlainState}
use Rattle.pex_values.specs.Shape.{IsReference, ArePair, AgreesWith, IsShapedDatum, IsShapedInstruction, IsShapedFunction, IsShapedNamed, IsShapedState}
use Rattle.pex_values.specs.Spelling.{one_byte, two_bytes, four_bytes, datum, counted, instruction, pair, list, function, named, state}
use Rattle.pex_codec.specs.declared.faults.PexRule.TheVariants.{BadKind, BadOpcode, BadCount, BadIndex}
use Rattle.pex_codec.specs.declared.cursor.FunctionHead.{FunctionHead}
use Rattle.pex_codec.specs.Laws.{AreBytes}
use Rattle.pex_codec.specs.Reading.{Reader, Got, read_as, judged, number_at, reference_at, list_at, kind_at, datum_with, datum_at, pair_at, opcode_at, count_at, instruction_with, instruction_at, function_head_at, function_with, function_at, named_at, state_at}
use Rattle.pex_codec.proofs.Exact.{Spans, Stands, IsExact, joined, spelled_as, same_got, ended_at, short_got, taken, viewed, follow, ending, exact_as, judged_exact, row2, row3, row4, row5, byte_exact, two_exact, four_exact, items_exact, list_exact}

-- ---- references

reference_shape : (strings n : ℕ) → (n < 2 ^ 16) × (nat_lt n strings ≡ true) → IsReference strings n
reference_shape strings n p = record { below = grind (arith, nat_tests); fits = p.0 }

reference_tests : (strings n : ℕ) → IsReference strings n → (n < 2 ^ 16) × (nat_lt n strings ≡ true)
reference_tests strings n p =
    let b = p.below in
    (p.fits, grind (arith, nat_tests))

pub reference_exact : (strings : ℕ) → IsExact (IsReference strings) two_bytes (reference_at strings)
unfolding reference_at
reference_exact strings = exact_as (IsReference strings) (reference_shape strings) (reference_tests strings) (judged_exact (λ n. nat_lt n strings) BadIndex (λ at. at) two_exact)

-- ---- values

unsigned_fits : (n : ℤ) → FitsSigned w32 n → cast_unsigned w32 n < 2 ^ 32
unsigned_fits (pos n) f = omega (arith, f.sfits)
unsigned_fits (negsuc n) f = omega arith

abbrev IsKind : ℕ → Type 0
IsKind kind = (kind < 256) × (nat_le kind 5 ≡ true)

kind_exact : IsExact IsKind one_byte kind_at
unfolding kind_at
kind_exact = judged_exact (λ kind. nat_le kind 5) BadKind (λ at. at) byte_exact

datum_complete : (strings : ℕ) (x : Datum) (at : ℕ) (rest : List ℕ) → IsShapedDatum strings x → datum_at strings at (datum x ++ rest) ≡ Got x (at + length (datum x)) rest
unfolding datum_at kind_at
datum_complete strings NoneValue at rest p = ended_at NoneValue rest (suc at) (at + 1) (omega arith)
datum_complete strings (Word n) at rest p = ending Word (reference_exact strings) n (suc at) rest p ∙ ended_at (Word n) rest (suc at + 2) (at + 3) (omega arith)
datum_complete strings (Quoted n) at rest p = ending Quoted (reference_exact strings) n (suc at) rest p ∙ ended_at (Quoted n) rest (suc at + 2) (at + 3) (omega arith)
datum_complete strings (Int n) at rest p =
    ending (λ m. Int (cast_signed w32 m)) four_exact (cast_unsigned w32 n) (suc at) rest (unsigned_fits n p)
    ∙ (ap (λ z. Got (Int z) (suc at + 4) rest) (to_z-of_z w32 n p) ∙ ended_at (Int n) rest (suc at + 4) (at + 5) (omega arith))
datum_complete strings (Float n) at rest p = ending Float four_exact n (suc at) rest p ∙ ended_at (Float n) rest (suc at + 4) (at + 5) (omega arith)
datum_complete strings (BoolByte n) at rest p = ended_at (BoolByte n) rest (suc (suc at)) (at + 2) (omega arith)

-- what stands behind a kind
record DatumBehind (strings kind : ℕ) (x : Datum) (at : ℕ) (bytes : List ℕ) (end : ℕ) (rest : List ℕ) : Type 0 where
  pub may : IsShapedDatum strings x
  pub body : List ℕ
  pub spelled : one_byte kind ++ body ≡ datum x
  pub spans : Spans at bytes body end rest
  pub others : AreBytes rest

datum_behind : (strings kind : ℕ) (x : Datum) (at : ℕ) (bytes : List ℕ) (end : ℕ) (rest : List ℕ) → kind ≤ 5 → AreBytes bytes → datum_with strings kind at bytes ≡ Got x end rest → DatumBehind strings kind x at bytes end rest
datum_behind strings zero x at bytes end rest k b e =
    same_got (λ z i r. DatumBehind strings 0 z at bytes i r) NoneValue x at end bytes rest e (record { may = tt; body = []; spelled = refl; spans = record { spelled = refl; ended = omega arith }; others = b })
datum_behind strings (suc zero) x at bytes end rest k b e =
    let v = viewed (reference_exact strings) Word at bytes x end rest b e in
    subst (λ z. DatumBehind strings 1 z at bytes end rest) v.is (record { may = v.may; body = two_bytes v.part; spelled = refl; spans = v.spans; others = v.others })
datum_behind strings (suc (suc zero)) x at bytes end rest k b e =
    let v = viewed (reference_exact strings) Quoted at bytes x end rest b e in
    subst (λ z. DatumBehind strings 2 z at bytes end rest) v.is (record { may = v.may; body = two_bytes v.part; spelled = refl; spans = v.spans; others = v.others })
datum_behind strings (suc (suc (suc zero))) x at bytes end rest k b e =
    let v = viewed four_exact (λ n. Int (cast_signed w32 n)) at bytes x end rest b e in
    subst (λ z. DatumBehind strings 3 z at bytes end rest) v.is
    (record { may = sfits_to_z {w = w32} {n = v.part} (record { fits = v.may }); body = four_bytes v.part; spelled = ap (λ (n : ℕ). 3 ∷ four_bytes n) (sym (of_z-to_z w32 v.part v.may)); spans = v.spans; others = v.others })
datum_behind strings (suc (suc (suc (suc zero)))) x at bytes end rest k b e =
    let v = viewed four_exact Float at bytes x end rest b e in
    subst (λ z. DatumBehind strings 4 z at bytes end rest) v.is (record { may = v.may; body = four_bytes v.part; spelled = refl; spans = v.spans; others = v.others })
datum_behind strings (suc (suc (suc (suc (suc zero))))) x at bytes end rest k b e =
    let v = viewed byte_exact BoolByte at bytes x end rest b e in
    subst (λ z. DatumBehind strings 5 z at bytes end rest) v.is (record { may = v.may; body = one_byte v.part; spelled = refl; spans = v.spans; others = v.others })
datum_behind strings (suc (suc (suc (suc (suc (suc n)))))) x at bytes end rest k b e = absurd (omega (arith, k))

datum_sound : (strings : ℕ) (x : Datum) (at : ℕ) (bytes : List ℕ) (end : ℕ) (rest : List ℕ) → AreBytes bytes → datum_at strings at bytes ≡ Got x end rest → Stands (IsShapedDatum strings) datum x at bytes end rest
unfolding datum_at
datum_sound strings x at bytes end rest b e =
    let kind = taken kind_exact (datum_with strings) at bytes x end rest b e in
    let small : kind.part ≤ 5 = let t = kind.may.1 in grind (arith, nat_tests) in
    let d = datum_behind strings kind.part x kind.mid kind.behind end rest small kind.others kind.later in
    record { may = d.may; spans = spelled_as d.spelled (joined kind.spans d.spans); others = d.others }

pub datum_exact : (strings : ℕ) → IsExact (IsShapedDatum strings) datum (datum_at strings)
datum_exact strings = record { complete = datum_complete strings; sound = datum_sound strings }

pub pair_exact : (strings : ℕ) → IsExact (ArePair strings) pair (pair_at strings)
unfolding pair_at
pair_exact strings =
    let r = reference_exact strings in
    record {
      complete = λ x at rest p.
          row2 (pair_at strings) at (two_bytes x.0) (two_bytes x.1) rest x
          (follow (λ name at1 rest1. read_as (λ kind. (name, kind)) (reference_at strings at1 rest1)) r x.0 at (two_bytes x.1 ++ rest) p.name
          ∙ ending (λ kind. (x.0, kind)) r x.1 (at + 2) rest p.kind);
      sound = λ x at bytes end rest b e.
          let name = taken r (λ name at1 rest1. read_as (λ kind. (name, kind)) (reference_at strings at1 rest1)) at bytes x end rest b e in
          let kind = viewed r (λ kind. (name.part, kind)) name.mid name.behind x end rest name.others name.later in
          subst (λ z. Stands (ArePair strings) pair z at bytes end rest) kind.is (record { may = record { name = name.may; kind = kind.may }; spans = joined name.spans kind.spans; others = kind.others });
    }

-- ---- instructions

abbrev IsCount : ℕ → Type 0
IsCount n = n < 2 ^ 31

-- the number of operands more, as an integer value
abbrev count_bytes : ℕ → List ℕ
count_bytes n = 3 ∷ four_bytes n

-- the number behind its kind, refused at the kind
abbrev count_behind : ℕ → Reader ℕ
count_behind offset at bytes = judged (λ n. nat_lt n (2 ^ 31)) BadCount offset (number_at 4 at bytes)

number_behind_exact : (offset : ℕ) → IsExact (λ n. (n < 2 ^ 32) × (nat_lt n (2 ^ 31) ≡ true)) four_bytes (count_behind offset)
number_behind_exact offset = judged_exact (λ n. nat_lt n (2 ^ 31)) BadCount (λ at. offset) four_exact

three_exact : IsExact (λ kind. IsKind kind × ((kind == 3) ≡ true)) one_byte (λ at bytes. judged (λ kind. kind == 3) BadCount at (kind_at at bytes))
three_exact = judged_exact (λ kind. kind == 3) BadCount (λ at. at) kind_exact

count_complete : (n at : ℕ) (rest : List ℕ) → IsCount n → count_at at (count_bytes n ++ rest) ≡ Got n (at + length (count_bytes n)) rest
unfolding count_at
count_complete n at rest p =
    row2 count_at at (one_byte 3) (four_bytes n) rest n
    (follow (λ kind at1 rest1. count_behind at at1 rest1) three_exact 3 at (four_bytes n ++ rest) ((omega arith, refl), refl)
    ∙ (number_behind_exact at).complete n (at + 1) rest (omega (arith, p), grind (arith, nat_tests, p)))

count_sound : (n at : ℕ) (bytes : List ℕ) (end : ℕ) (rest : List ℕ) → AreBytes bytes → count_at at bytes ≡ Got n end rest → Stands IsCount count_bytes n at bytes end rest
unfolding count_at
count_sound n at bytes end rest b e =
    let kind = taken three_exact (λ kind at1 rest1. count_behind at at1 rest1) at bytes n end rest b e in
    let t = (number_behind_exact at).sound n kind.mid kind.behind end rest kind.others kind.later in
    let is_three : kind.part ≡ 3 = let k = kind.may.1 in grind (arith, nat_tests) in
    let small : n < 2 ^ 31 = let k = t.may.1 in grind (arith, nat_tests) in
    record { may = small; spans = spelled_as (ap (λ (k : ℕ). one_byte k ++ four_bytes n) is_three) (joined kind.spans t.spans); others = t.others }

count_exact : IsExact IsCount count_bytes count_at
count_exact = record { complete = count_complete; sound = count_sound }

-- the operands behind an opcode
record AreOperands (strings code : ℕ) (o : Option (ℕ × Bool)) (i : PlainInstruction) : Type 0 where
  pub opcode : i.opcode ≡ code
  pub agree : AgreesWith o (length i.fixed) (length i.more)
  pub fixed : AllByRecursion (IsShapedDatum strings) i.fixed
  pub more : AllByRecursion (IsShapedDatum strings) i.more
  pub count : IsCount (length i.more)

abbrev operands : Option (ℕ × Bool) → PlainInstruction → List ℕ
operands o i = flat_map datum i.fixed ++ counted o i.more

abbrev make : ℕ → List Datum → List Datum → PlainInstruction
make opcode fixed more = record { opcode = opcode; fixed = fixed; more = more }

operands_complete : (strings opcode : ℕ) (o : Option (ℕ × Bool)) (i : PlainInstruction) (at : ℕ) (rest : List ℕ) → AreOperands strings opcode o i
    → instruction_with strings opcode o at (operands o i ++ rest) ≡ Got i (at + length (operands o i)) rest
operands_complete strings opcode None i at rest p = absurd p.agree
operands_complete strings opcode (Some (n, false)) i at rest p =
    let none : i.more ≡ [] = nil_from_length i.more p.agree.1 in
    let same : make opcode i.fixed [] ≡ i = rw (sym p.opcode) (ap (λ (m : List Datum). make i.opcode i.fixed m) (sym none)) in
    row2 (instruction_with strings opcode (Some (n, false))) at (flat_map datum i.fixed) [] rest i
    (ending (λ fixed. make opcode fixed []) (items_exact (datum_exact strings) n) i.fixed at rest (p.agree.0, p.fixed)
    ∙ (ap (λ x. Got x (at + length (flat_map datum i.fixed)) rest) same ∙ ended_at i rest (at + length (flat_map datum i.fixed)) (at + length (flat_map datum i.fixed) + 0) (omega arith)))
operands_complete strings opcode (Some (n, true)) i at rest p =
    let d = datum_exact strings in
    let k = length i.more in
    let fixed = flat_map datum i.fixed in
    let more = flat_map datum i.more in
    let flat : fixed ++ (count_bytes k ++ more) ≡ (fixed ++ count_bytes k) ++ more = sym (append_assoc fixed (count_bytes k) more) in
    let same : make opcode i.fixed i.more ≡ i = ap (λ (m : ℕ). make m i.fixed i.more) (sym p.opcode) in
    subst (λ z. instruction_with strings opcode (Some (n, true)) at (z ++ rest) ≡ Got i (at + length z) rest) (sym flat)
    (row3 (instruction_with strings opcode (Some (n, true))) at fixed (count_bytes k) more rest i
    (follow _ (items_exact d n) i.fixed at (count_bytes k ++ (more ++ rest)) (p.agree, p.fixed)
    ∙ (follow _ count_exact k (at + length fixed) (more ++ rest) p.count
    ∙ (ending (λ xs. make opcode i.fixed xs) (items_exact d k) i.more (at + length fixed + length (count_bytes k)) rest (refl, p.more)
    ∙ ap (λ x. Got x (at + length fixed + length (count_bytes k) + length more) rest) same))))

operands_sound : (strings opcode : ℕ) (o : Option (ℕ × Bool)) (i : PlainInstruction) (at : ℕ) (bytes : List ℕ) (end : ℕ) (rest : List ℕ) → AreBytes bytes
    → instruction_with strings opcode o at bytes ≡ Got i end rest → Stands (AreOperands strings opcode o) (operands o) i at bytes end rest
operands_sound strings opcode None i at bytes end rest b e = short_got i end rest e
operands_sound strings opcode (Some (n, false)) i at bytes end rest b e =
    let v = viewed (items_exact (datum_exact strings) n) (λ fixed. make opcode fixed []) at bytes i end rest b e in
    subst (λ z. Stands (AreOperands strings opcode (Some (n, false))) (operands (Some (n, false))) z at bytes end rest) v.is
    (record {
      may = record { opcode = refl; agree = (v.may.0, refl); fixed = v.may.1; more = tt; count = omega arith };
      spans = spelled_as (sym (append-nil (flat_map datum v.part))) v.spans;
      others = v.others;
    })
operands_sound strings opcode (Some (n, true)) i at bytes end rest b e =
    let d = datum_exact strings in
    let fixed = taken (items_exact d n) _ at bytes i end rest b e in
    let count = taken count_exact _ fixed.mid fixed.behind i end rest fixed.others fixed.later in
    let more = viewed (items_exact d count.part) (λ xs. make opcode fixed.part xs) count.mid count.behind i end rest count.others count.later in
    subst (λ z. Stands (AreOperands strings opcode (Some (n, true))) (operands (Some (n, true))) z at bytes end rest) more.is
    (record {
      may = record { opcode = refl; agree = fixed.may.0; fixed = fixed.may.1; more = more.may.1; count = subst IsCount (sym more.may.0) count.may };
      spans = joined fixed.spans (spelled_as (ap (λ (k : ℕ). count_bytes k ++ flat_map datum more.part) (sym more.may.0)) (joined count.spans more.spans));
      others = more.others;
    })

opcode_exact : IsExact (λ opcode. (opcode < 256) × (is_some (operands_of opcode) ≡ true)) one_byte opcode_at
unfolding opcode_at
opcode_exact = judged_exact (λ opcode. is_some (operands_of opcode)) BadOpcode (λ at. at) byte_exact

agree_some : (o : Option (ℕ × Bool)) (f m : ℕ) → AgreesWith o f m → is_some o ≡ true
agree_some None f m a = absurd a
agree_some (Some x) f m a = refl

abbrev pub ShapedInstruction : ℕ → PlainInstruction → Type 0
ShapedInstruction strings i = IsShapedInstruction strings i × FitsInstruction i

instruction_complete : (strings : ℕ) (i : PlainInstruction) (at : ℕ) (rest : List ℕ) → ShapedInstruction strings i → instruction_at strings at (instruction i ++ rest) ≡ Got i (at + length (instruction i)) rest
unfolding instruction instruction_at
instruction_complete strings i at rest p =
    let o = operands_of i.opcode in
    row2 (instruction_at strings) at (one_byte i.opcode) (operands o i) rest i
    (follow (λ opcode at1 rest1. instruction_with strings opcode (operands_of opcode) at1 rest1) opcode_exact i.opcode at (operands o i ++ rest) (p.0.opcode, agree_some o (length i.fixed) (length i.more) p.0.operands)
    ∙ operands_complete strings i.opcode o i (at + 1) rest (record { opcode = refl; agree = p.0.operands; fixed = p.0.fixed; more = p.0.more; count = p.1 }))

instruction_sound : (strings : ℕ) (i : PlainInstruction) (at : ℕ) (bytes : List ℕ) (end : ℕ) (rest : List ℕ) → AreBytes bytes → instruction_at strings at bytes ≡ Got i end rest → Stands (ShapedInstruction strings) instruction i at bytes end rest
unfolding instruction instruction_at
instruction_sound strings i at bytes end rest b e =
    let opcode = taken opcode_exact (λ opcode at1 rest1. instruction_with strings opcode (operands_of opcode) at1 rest1) at bytes i end rest b e in
    let t = operands_sound strings opcode.part (operands_of opcode.part) i opcode.mid opcode.behind end rest opcode.others opcode.later in
    let same = sym t.may.opcode in
    record {
      may = (
        record {
          opcode = subst (λ (n : ℕ). n < 2 ^ 8) same opcode.may.0;
          operands = subst (λ (n : ℕ). AgreesWith (operands_of n) (length i.fixed) (length i.more)) same t.may.agree;
          fixed = t.may.fixed;
          more = t.may.more;
        },
        t.may.count,
      );
      spans = spelled_as (ap (λ (n : ℕ). one_byte n ++ operands (operands_of n) i) same) (joined opcode.spans t.spans);
      others = t.others;
    }

pub instruction_exact : (strings : ℕ) → IsExact (ShapedInstruction strings) instruction (instruction_at strings)
instruction_exact strings = record { complete = instruction_complete strings; sound = instruction_sound strings }

-- ---- functions

pub each_first : {A : Type 0} (P Q : A → Type 0) (xs : List A) → AllByRecursion (λ x. P x × Q x) xs → AllByRecursion P xs
each_first P Q [] h = tt
each_first P Q (x ∷ xs) h = (h.0.0, each_first P Q xs h.1)

pub each_second : {A : Type 0} (P Q : A → Type 0) (xs : List A) → AllByRecursion (λ x. P x × Q x) xs → AllByRecursion Q xs
each_second P Q [] h = tt
each_second P Q (x ∷ xs) h = (h.0.1, each_second P Q xs h.1)

pub each_both : {A : Type 0} (P Q : A → Type 0) (xs : List A) → AllByRecursion P xs → AllByRecursion Q xs → AllByRecursion (λ x. P x × Q x) xs
each_both P Q [] p q = tt
each_both P Q (x ∷ xs) p q = ((p.0, q.0), each_both P Q xs p.1 q.1)

record IsFunctionHead (strings : ℕ) (h : FunctionHead) : Type 0 where
  pub result : IsReference strings h.result
  pub doc : IsReference strings h.doc
  pub flags : h.flags < 2 ^ 32
  pub bits : h.bits < 2 ^ 8
  pub parameters : h.parameters < 2 ^ 16

abbrev make_head : ℕ → ℕ → ℕ → ℕ → ℕ → FunctionHead
make_head result doc flags bits parameters = record { result = result; doc = doc; flags = flags; bits = bits; parameters = parameters }

abbrev function_head : FunctionHead → List ℕ
function_head h = two_bytes h.result ++ two_bytes h.doc ++ four_bytes h.flags ++ one_byte h.bits ++ two_bytes h.parameters

head_complete : (strings : ℕ) (h : FunctionHead) (at : ℕ) (rest : List ℕ) → IsFunctionHead strings h → function_head_at strings at (function_head h ++ rest) ≡ Got h (at + length (function_head h)) rest
unfolding function_head_at
head_complete strings h at rest p =
    let r = reference_exact strings in
    row5 (function_head_at strings) at (two_bytes h.result) (two_bytes h.doc) (four_bytes h.flags) (one_byte h.bits) (two_bytes h.parameters) rest h
    (follow _ r h.result at _ p.result ∙ (follow _ r h.doc (at + 2) _ p.doc ∙ (follow _ four_exact h.flags (at + 2 + 2) _ p.flags
    ∙ (follow (λ bits at4 rest4. read_as (λ parameters. make_head h.result h.doc h.flags bits parameters) (number_at 2 at4 rest4)) byte_exact h.bits (at + 2 + 2 + 4) (two_bytes h.parameters ++ rest) p.bits
    ∙ ending (λ parameters. make_head h.result h.doc h.flags h.bits parameters) two_exact h.parameters (at + 2 + 2 + 4 + 1) rest p.parameters))))

head_sound : (strings : ℕ) (h : FunctionHead) (at : ℕ) (bytes : List ℕ) (end : ℕ) (rest : List ℕ) → AreBytes bytes → function_head_at strings at bytes ≡ Got h end rest → Stands (IsFunctionHead strings) function_head h at bytes end rest
unfolding function_head_at
head_sound strings h at bytes end rest b e =
    let r = reference_exact strings in
    let result = taken r _ at bytes h end rest b e in
    let doc = taken r _ result.mid result.behind h end rest result.others result.later in
    let flags = taken four_exact _ doc.mid doc.behind h end rest doc.others doc.later in
    let bits = taken byte_exact _ flags.mid flags.behind h end rest flags.others flags.later in
    let parameters = viewed two_exact _ bits.mid bits.behind h end rest bits.others bits.later in
    subst (λ z. Stands (IsFunctionHead strings) function_head z at bytes end rest) parameters.is
    (record {
      may = record { result = result.may; doc = doc.may; flags = flags.may; bits = bits.may; parameters = parameters.may };
      spans = joined (joined (joined (joined result.spans doc.spans) flags.spans) bits.spans) parameters.spans;
      others = parameters.others;
    })

function_head_exact : (strings : ℕ) → IsExact (IsFunctionHead strings) function_head (function_head_at strings)
function_head_exact strings = record { complete = head_complete strings; sound = head_sound strings }

abbrev pub ShapedFunction : ℕ → PlainFunction → Type 0
ShapedFunction strings f = IsShapedFunction strings f × FitsFunction f

abbrev head_of : PlainFunction → FunctionHead
head_of f = record { result = f.result; doc = f.doc; flags = f.flags; bits = f.bits; parameters = length f.parameters }

function_complete : (strings : ℕ) (f : PlainFunction) (at : ℕ) (rest : List ℕ) → ShapedFunction strings f → function_at strings at (function f ++ rest) ≡ Got f (at + length (function f)) rest
unfolding function function_at
function_complete strings f at rest p =
    let pairs = pair_exact strings in
    let n = length f.parameters in
    let code = each_both (IsShapedInstruction strings) FitsInstruction f.code p.0.code p.1.instructions in
    row4 (function_at strings) at (function_head (head_of f)) (flat_map pair f.parameters) (list pair f.locals) (list instruction f.code) rest f
    (follow (function_with strings) (function_head_exact strings) (head_of f) at _ (record { result = p.0.result; doc = p.0.doc; flags = p.0.flags; bits = p.0.bits; parameters = p.1.parameters })
    ∙ (follow _ (items_exact pairs n) f.parameters (at + 11) _ (refl, p.0.parameters)
    ∙ (follow _ (list_exact pairs) f.locals (at + 11 + length (flat_map pair f.parameters)) _ (p.1.locals, p.0.locals)
    ∙ ending _ (list_exact (instruction_exact strings)) f.code (at + 11 + length (flat_map pair f.parameters) + length (list pair f.locals)) rest (p.1.code, code))))

function_sound : (strings : ℕ) (f : PlainFunction) (at : ℕ) (bytes : List ℕ) (end : ℕ) (rest : List ℕ) → AreBytes bytes → function_at strings at bytes ≡ Got f end rest → Stands (ShapedFunction strings) function f at bytes end rest
unfolding function function_at
function_sound strings f at bytes end rest b e =
    let pairs = pair_exact strings in
    let head = taken (function_head_exact strings) (function_with strings) at bytes f end rest b e in
    let h = head.part in
    let parameters = taken (items_exact pairs h.parameters) _ head.mid head.behind f end rest head.others head.later in
    let locals = taken (list_exact pairs) _ parameters.mid parameters.behind f end rest parameters.others parameters.later in
    let code = viewed (list_exact (instruction_exact strings)) _ locals.mid locals.behind f end rest locals.others locals.later in
    let count = sym parameters.may.0 in
    let number = λ (n : ℕ). two_bytes h.result ++ two_bytes h.doc ++ four_bytes h.flags ++ one_byte h.bits ++ two_bytes n ++ flat_map pair parameters.part ++ list pair locals.part ++ list instruction code.part in
    subst (λ z. Stands (ShapedFunction strings) function z at bytes end rest) code.is
    (record {
      may = (
        record {
          result = head.may.result;
          doc = head.may.doc;
          flags = head.may.flags;
          bits = head.may.bits;
          parameters = parameters.may.1;
          locals = locals.may.1;
          code = each_first (IsShapedInstruction strings) FitsInstruction code.part code.may.1;
        },
        record {
          parameters = subst (λ (n : ℕ). n < 2 ^ 16) count head.may.parameters;
          locals = locals.may.0;
          code = code.may.0;
          instructions = each_second (IsShapedInstruction strings) FitsInstruction code.part code.may.1;
        },
      );
      spans = spelled_as (ap number count) (joined (joined (joined head.spans parameters.spans) locals.spans) code.spans);
      others = code.others;
    })

pub function_exact : (strings : ℕ) → IsExact (ShapedFunction strings) function (function_at strings)
function_exact strings = record { complete = function_complete strings; sound = function_sound strings }

abbrev pub ShapedNamed : ℕ → ℕ × PlainFunction → Type 0
ShapedNamed strings f = IsShapedNamed strings f × FitsFunction f.1

pub named_exact : (strings : ℕ) → IsExact (ShapedNamed strings) named (named_at strings)
unfolding named_at
named_exact strings =
    let r = reference_exact strings in
    let fs = function_exact strings in
    record {
      complete = λ x at rest p.
          row2 (named_at strings) at (two_bytes x.0) (function x.1) rest x
          (follow (λ name at1 rest1. read_as (λ function. (name, function)) (function_at strings at1 rest1)) r x.0 at (function x.1 ++ rest) p.0.name
          ∙ ending (λ function. (x.0, function)) fs x.1 (at + 2) rest (p.0.function, p.1));
      sound = λ x at bytes end rest b e.
          let name = taken r (λ name at1 rest1. read_as (λ function. (name, function)) (function_at strings at1 rest1)) at bytes x end rest b e in
          let body = viewed fs (λ function. (name.part, function)) name.mid name.behind x end rest name.others name.later in
          subst (λ z. Stands (ShapedNamed strings) named z at bytes end rest) body.is
          (record { may = (record { name = name.may; function = body.may.0 }, body.may.1); spans = joined name.spans body.spans; others = body.others });
    }

abbrev make_state : ℕ → List (ℕ × PlainFunction) → PlainState
make_state name functions = record { name = name; functions = functions }

abbrev pub ShapedState : ℕ → PlainState → Type 0
ShapedState strings s = IsShapedState strings s × FitsState s

pub state_exact : (strings : ℕ) → IsExact (ShapedState strings) state (state_at strings)
unfolding state state_at
state_exact strings =
    let r = reference_exact strings in
    let fs = list_exact (named_exact strings) in
    record {
      complete = λ x at rest p.
          row2 (state_at strings) at (two_bytes x.name) (list named x.functions) rest x
          (follow (λ name at1 rest1. read_as (λ functions. make_state name functions) (list_at (named_at strings) at1 rest1)) r x.name at (list named x.functions ++ rest) p.0.name
          ∙ ending (λ functions. make_state x.name functions) fs x.functions (at + 2) rest (p.1.functions, each_both (IsShapedNamed strings) (λ f. FitsFunction f.1) x.functions p.0.functions p.1.each));
      sound = λ x at bytes end rest b e.
          let name = taken r (λ name at1 rest1. read_as (λ functions. make_state name functions) (list_at (named_at strings) at1 rest1)) at bytes x end rest b e in
          let functions = viewed fs (λ functions. make_state name.part functions) name.mid name.behind x end rest name.others name.later in
          subst (λ z. Stands (ShapedState strings) state z at bytes end rest) functions.is
          (record {
            may = (
              record { name = name.may; functions = each_first (IsShapedNamed strings) (λ f. FitsFunction f.1) functions.part functions.may.1 },
              record { functions = functions.may.0; each = each_second (IsShapedNamed strings) (λ f. FitsFunction f.1) functions.part functions.may.1 },
            );
            spans = joined name.spans functions.spans;
            others = functions.others;
          });
    }
