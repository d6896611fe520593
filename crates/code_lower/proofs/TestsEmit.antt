-- The tests of an If, whose jumps land behind what they lead over.
use Rattle.std.proofs.Common.{◌≡◌, ℕ, suc, ◌-◌, ◌<◌, true, List, [], ◌∷◌, ◌++◌, length, sym, ap, subst, ◌∙◌, arith, append_assoc}
use Rattle.std.specs.Prelude.{pos, slice_set}
use Rattle.std.proofs.lemmas.List.{append-nil, length-append}
use Rattle.core_tree.specs.declared.expression.Core.{Core}
use Rattle.core_tree.specs.declared.statement.CoreLine.{CoreLine}
use Rattle.std.specs.declared.alloc.Global.{Global}
use Rattle.std.specs.declared.vec.Vec.{Vec}
use Rattle.core_tree.specs.Tree.{expression_of, block_of, branches_of, Expression, Block, NoStatement, Branches, NoBranch, MoreBranches, If}
use Rattle.code_meaning.specs.Code.{Instruction}
use Rattle.code_meaning.specs.Code as op
use Rattle.emit_meaning.specs.Codes.{Routine, CodesBlock, no_statement_code, otherwise_code, last_code, branch_code, if_code, lined}
use Rattle.code_lower.specs.declared.place.Place.{Place}
use Rattle.code_lower.specs.Slots.{Slots, Grows}
use Rattle.code_lower.specs.Lowered.{State, Serves, Emits, GaveBack, operand_of, is_value}
use Rattle.code_lower.specs.Statements.{StatementEmits, BlockReaches, BranchesEmit, Guards, landed_on, landed_always}
use Rattle.code_lower.proofs.Operands.{grows_further, grows_to, serves_before}
use Rattle.code_lower.proofs.EitherEmits.{seam}
use Rattle.code_lower.proofs.StatementsEmit.{none_out}

abbrev Lines : Type 0
Lines = List (Instruction × ℕ)

same_grows : (a b : State) → b.slots ≡ a.slots → Grows a.slots b.slots
same_grows a b e = grows_to a.slots b.slots (ap (λ (s : Slots). s.kinds) e) (ap (λ (s : Slots). s.own) e)

pub block_coded : (r : Routine) (body : Block) (a b : State) (reaches : BlockReaches body NoStatement a b) → Serves b r → CodesBlock r body reaches.seg
block_coded r body a b reaches serves = subst (λ (l : Lines). CodesBlock r body l) (append-nil reaches.seg) (reaches.codes r serves [] no_statement_code)

pub guards_is : (test : Expression) (body : Block) (s0 s1 s2 s3 s4 : State) (o : Place) → Emits test s0 s1 o → is_value o ≡ true → GaveBack s1.slots s2.slots (o ∷ []) → s2 ≡ record s1 { slots = s2.slots } → s3 ≡ record s2 { code = s2.code ++ (op.JmpF (operand_of o) (pos 0), s2.line) ∷ [] } → BlockReaches body NoStatement s3 s4 → Guards s0.line test body s0 s4 (length s2.code) o
guards_is test body s0 s1 s2 s3 s4 o t value gave same jumped b = record {
  test_code = t.seg;
  seg = b.seg;
  at_is = ap (λ (c : Lines). length c) code2;
  code = b.adds.code ∙ (ap (λ (c : Lines). c ++ b.seg) code3 ∙ append_assoc (s0.code ++ lined s0.line t.seg) ((op.JmpF (operand_of o) (pos 0), s0.line) ∷ []) b.seg);
  known = known41 ∙ t.adds.known;
  grows = grows_further s0.slots s1.slots s4.slots t.adds.grows grows14;
  gives = t.gives ∙ value;
  tests = λ r serves. t.codes r (serves_before s1 s4 r (sym known41) grows14 serves) [] (none_out s0);
  codes = λ r serves. block_coded r body s3 s4 b serves;
}
  where
    line2 : s2.line ≡ s0.line
    line2 = ap (λ (s : State). s.line) same ∙ t.adds.line

    code2 : s2.code ≡ s0.code ++ lined s0.line t.seg
    code2 = ap (λ (s : State). s.code) same ∙ t.adds.code

    code3 : s3.code ≡ (s0.code ++ lined s0.line t.seg) ++ (op.JmpF (operand_of o) (pos 0), s0.line) ∷ []
    code3 = ap (λ (s : State). s.code) jumped ∙ (ap (λ (m : ℕ). s2.code ++ (op.JmpF (operand_of o) (pos 0), m) ∷ []) line2 ∙ ap (λ (c : Lines). c ++ (op.JmpF (operand_of o) (pos 0), s0.line) ∷ []) code2)

    known41 : s4.known ≡ s1.known
    known41 = b.adds.known ∙ (ap (λ (s : State). s.known) jumped ∙ ap (λ (s : State). s.known) same)

    grows14 : Grows s1.slots s4.slots
    grows14 = grows_further s1.slots s2.slots s4.slots (grows_to s1.slots s2.slots gave.kinds gave.own) (grows_further s2.slots s3.slots s4.slots (same_grows s2 s3 (ap (λ (s : State). s.slots) jumped)) b.adds.grows)

pub otherwise_emits : (otherwise : Block) (a b : State) → BlockReaches otherwise NoStatement a b → BranchesEmit NoBranch otherwise a b
otherwise_emits otherwise a b reaches = record {
  seg = reaches.seg;
  adds = reaches.adds;
  codes = λ r serves. otherwise_code otherwise reaches.seg (block_coded r otherwise a b reaches serves);
}

-- how far it is over what was added behind a place
over : (front : Lines) (i : Instruction × ℕ) (rest code : Lines) → code ≡ front ++ i ∷ rest → length code - length front ≡ suc (length rest)
over front i rest code e =
    let a : length code ≡ length (front ++ i ∷ rest) = ap (λ (c : Lines). length c) e in
    let b = length-append front (i ∷ rest) in
    omega arith

landed_is : (s t : State) (front rest : Lines) (i : Instruction × ℕ) (at line : ℕ) (o : Place) → t ≡ landed_on s at line o → s.code ≡ front ++ i ∷ rest → at ≡ length front → t.code ≡ front ++ (op.JmpF (operand_of o) (pos (suc (length rest))), line) ∷ rest
landed_is s t front rest i at line o land e here =
    ap (λ (x : State). x.code) land ∙ (ap (λ (k : ℕ). slice_set s.code k (op.JmpF (operand_of o) (pos (length s.code - k)), line)) here ∙ (ap (λ (k : ℕ). slice_set s.code (length front) (op.JmpF (operand_of o) (pos k), line)) (over front i rest s.code e) ∙ (ap (λ (c : Lines). slice_set c (length front) (op.JmpF (operand_of o) (pos (suc (length rest))), line)) e ∙ seam front i (op.JmpF (operand_of o) (pos (suc (length rest))), line) rest)))

landed_always_is : (s t : State) (front rest : Lines) (i : Instruction × ℕ) (at line : ℕ) → t ≡ landed_always s at line → s.code ≡ front ++ i ∷ rest → at ≡ length front → t.code ≡ front ++ (op.Jmp (pos (suc (length rest))), line) ∷ rest
landed_always_is s t front rest i at line land e here =
    ap (λ (x : State). x.code) land ∙ (ap (λ (k : ℕ). slice_set s.code k (op.Jmp (pos (length s.code - k)), line)) here ∙ (ap (λ (k : ℕ). slice_set s.code (length front) (op.Jmp (pos k), line)) (over front i rest s.code e) ∙ (ap (λ (c : Lines). slice_set c (length front) (op.Jmp (pos (suc (length rest))), line)) e ∙ seam front i (op.Jmp (pos (suc (length rest))), line) rest)))

-- the last test, without an Else
pub last_emits : (line at : ℕ) (test : Expression) (body : Block) (s a b c : State) (o : Place) → a ≡ record s { line = line } → Guards line test body a b at o → c ≡ landed_on b at line o → BranchesEmit (MoreBranches line test body NoBranch) NoStatement s c
last_emits line at test body s a b c o begun g land = record {
  seg = lined line g.test_code ++ (jump, line) ∷ g.seg;
  adds = record {
    code = code ∙ append_assoc s.code (lined line g.test_code) ((jump, line) ∷ g.seg);
    known = known_cb ∙ (g.known ∙ ap (λ (x : State). x.known) begun);
    grows = grows_further s.slots a.slots c.slots (same_grows s a (ap (λ (x : State). x.slots) begun)) (grows_further a.slots b.slots c.slots g.grows grows_bc);
  };
  codes = λ r serves.
      let before : Serves b r = serves_before b c r (sym known_cb) grows_bc serves in
      last_code line test body g.test_code (operand_of o) g.seg (g.tests r before) g.gives (g.codes r before);
}
  where
    jump : Instruction
    jump = op.JmpF (operand_of o) (pos (suc (length g.seg)))

    known_cb : c.known ≡ b.known
    known_cb = ap (λ (x : State). x.known) land

    grows_bc : Grows b.slots c.slots
    grows_bc = same_grows b c (ap (λ (x : State). x.slots) land)

    code : c.code ≡ (s.code ++ lined line g.test_code) ++ (jump, line) ∷ g.seg
    code =
        landed_is b c (a.code ++ lined line g.test_code) g.seg (op.JmpF (operand_of o) (pos 0), line) at line o land g.code g.at_is ∙ ap (λ (x : State). (x.code ++ lined line g.test_code) ++ (jump, line) ∷ g.seg) begun

-- a test with others, or an Else, behind it
pub branch_emits : (line at : ℕ) (test : Expression) (body otherwise : Block) (rest : Branches) (s a b c d e f : State) (o : Place) → a ≡ record s { line = line } → Guards line test body a b at o → c ≡ record b { code = b.code ++ (op.Jmp (pos 0), b.line) ∷ [] } → d ≡ landed_on c at line o → BranchesEmit rest otherwise d e → f ≡ landed_always e (length b.code) b.line → BranchesEmit (MoreBranches line test body rest) otherwise s f
branch_emits line at test body otherwise rest s a b c d e f o begun g jumped land others last = record {
  seg = lined line g.test_code ++ (jump, line) ∷ (g.seg ++ (leave, b.line) ∷ others.seg);
  adds = record {
    code = code_f ∙ (ap (λ (l : Lines). l ++ (leave, b.line) ∷ others.seg) (ap (λ (x : State). (x.code ++ lined line g.test_code) ++ (jump, line) ∷ g.seg) begun) ∙ regroup s.code (lined line g.test_code) g.seg others.seg (jump, line) (leave, b.line));
    known = known_fb ∙ (g.known ∙ ap (λ (x : State). x.known) begun);
    grows = grows_further s.slots a.slots f.slots (same_grows s a (ap (λ (x : State). x.slots) begun)) (grows_further a.slots b.slots f.slots g.grows grows_bf);
  };
  codes = λ r serves.
      let before : Serves b r = serves_before b f r (sym known_fb) grows_bf serves in
      let behind : Serves e r = serves_before e f r (sym known_fe) grows_ef serves in
      branch_code line b.line test body rest otherwise g.test_code (operand_of o) g.seg others.seg (g.tests r before) g.gives (g.codes r before) (others.codes r behind);
}
  where
    jump : Instruction
    jump = op.JmpF (operand_of o) (pos (suc (suc (length g.seg))))

    leave : Instruction
    leave = op.Jmp (pos (suc (length others.seg)))

    front : Lines
    front = a.code ++ lined line g.test_code

    regroup : (w x y z : Lines) (i j : Instruction × ℕ) → ((w ++ x) ++ i ∷ y) ++ j ∷ z ≡ w ++ (x ++ i ∷ (y ++ j ∷ z))
    regroup w x y z i j = simp append_assoc

    more : ℕ
    more = length (g.seg ++ (op.Jmp (pos 0), b.line) ∷ [])

    more_is : more ≡ suc (length g.seg)
    more_is = let q = length-append g.seg ((op.Jmp (pos 0), b.line) ∷ []) in omega arith

    code_c : c.code ≡ front ++ (op.JmpF (operand_of o) (pos 0), line) ∷ (g.seg ++ (op.Jmp (pos 0), b.line) ∷ [])
    code_c =
        ap (λ (x : State). x.code) jumped ∙ (ap (λ (l : Lines). l ++ (op.Jmp (pos 0), b.line) ∷ []) g.code ∙ append_assoc front ((op.JmpF (operand_of o) (pos 0), line) ∷ g.seg) ((op.Jmp (pos 0), b.line) ∷ []))

    code_d : d.code ≡ front ++ (jump, line) ∷ (g.seg ++ (op.Jmp (pos 0), b.line) ∷ [])
    code_d =
        landed_is c d front (g.seg ++ (op.Jmp (pos 0), b.line) ∷ []) (op.JmpF (operand_of o) (pos 0), line) at line o land code_c g.at_is ∙ ap (λ (k : ℕ). front ++ (op.JmpF (operand_of o) (pos (suc k)), line) ∷ (g.seg ++ (op.Jmp (pos 0), b.line) ∷ [])) more_is

    code_e : e.code ≡ (front ++ (jump, line) ∷ g.seg) ++ (op.Jmp (pos 0), b.line) ∷ others.seg
    code_e =
        others.adds.code ∙ (ap (λ (l : Lines). l ++ others.seg) code_d ∙ ends front g.seg others.seg (jump, line) (op.Jmp (pos 0), b.line))
      where
        ends : (x y z : Lines) (i j : Instruction × ℕ) → (x ++ i ∷ (y ++ j ∷ [])) ++ z ≡ (x ++ i ∷ y) ++ j ∷ z
        ends x y z i j = simp append_assoc

    end_is : length b.code ≡ length (front ++ (jump, line) ∷ g.seg)
    end_is =
        let u : length b.code ≡ length (front ++ (op.JmpF (operand_of o) (pos 0), line) ∷ g.seg) = ap (λ (l : Lines). length l) g.code in
        let v = length-append front ((op.JmpF (operand_of o) (pos 0), line) ∷ g.seg) in
        let w = length-append front ((jump, line) ∷ g.seg) in
        omega arith

    code_f : f.code ≡ (front ++ (jump, line) ∷ g.seg) ++ (leave, b.line) ∷ others.seg
    code_f = landed_always_is e f (front ++ (jump, line) ∷ g.seg) others.seg (op.Jmp (pos 0), b.line) (length b.code) b.line last code_e end_is

    known_fe : f.known ≡ e.known
    known_fe = ap (λ (x : State). x.known) last

    known_fb : f.known ≡ b.known
    known_fb = known_fe ∙ (others.adds.known ∙ (ap (λ (x : State). x.known) land ∙ ap (λ (x : State). x.known) jumped))

    grows_ef : Grows e.slots f.slots
    grows_ef = same_grows e f (ap (λ (x : State). x.slots) last)

    grows_bf : Grows b.slots f.slots
    grows_bf = grows_further b.slots c.slots f.slots (same_grows b c (ap (λ (x : State). x.slots) jumped)) (grows_further c.slots d.slots f.slots (same_grows c d (ap (λ (x : State). x.slots) land)) (grows_further d.slots e.slots f.slots others.adds.grows grows_ef))

pub guards_within : (line at : ℕ) (test : Expression) (body : Block) (a b : State) (o : Place) → Guards line test body a b at o → at < length b.code
guards_within line at test body a b o g =
    let front : Lines = a.code ++ lined line g.test_code in
    let u : length b.code ≡ length (front ++ (op.JmpF (operand_of o) (pos 0), line) ∷ g.seg) = ap (λ (l : Lines). length l) g.code in
    let v = length-append front ((op.JmpF (operand_of o) (pos 0), line) ∷ g.seg) in
    let w : at ≡ length front = g.at_is in
    omega arith

pub if_emits : (line : ℕ) (branches : Branches) (otherwise : Block) (a b : State) → BranchesEmit branches otherwise a b → StatementEmits line (If branches otherwise) a b
if_emits line branches otherwise a b emits = record {
  seg = emits.seg;
  adds = emits.adds;
  codes = λ r serves. if_code line branches otherwise emits.seg (emits.codes r serves);
}

-- ---- the same, as the calls say it
abbrev pub Test : Type 0
Test = ℕ × Core × Vec CoreLine Global

pub last_of : (tests rest : List Test) (otherwise body : List CoreLine) (first : Test) (line at : ℕ) (s a b c : State) (o : Place) → tests ≡ first ∷ rest → rest ≡ [] → otherwise ≡ [] → line ≡ first.0 → body ≡ first.2.items → a ≡ record s { line = line } → Guards a.line (expression_of first.1) (block_of body) a b at o → c ≡ landed_on b at line o → BranchesEmit (branches_of tests) (block_of otherwise) s c
last_of tests rest otherwise body first line at s a b c o split none empty line_is body_is begun guards land =
    let g : Guards line (expression_of first.1) (block_of body) a b at o = subst (λ (n : ℕ). Guards n (expression_of first.1) (block_of body) a b at o) (ap (λ (x : State). x.line) begun) guards in
    let here : BranchesEmit (MoreBranches line (expression_of first.1) (block_of body) NoBranch) NoStatement s c = last_emits line at (expression_of first.1) (block_of body) s a b c o begun g land in
    let e1 : BranchesEmit (MoreBranches first.0 (expression_of first.1) (block_of body) NoBranch) NoStatement s c = subst (λ (n : ℕ). BranchesEmit (MoreBranches n (expression_of first.1) (block_of body) NoBranch) NoStatement s c) line_is here in
    let e2 : BranchesEmit (MoreBranches first.0 (expression_of first.1) (block_of first.2.items) NoBranch) NoStatement s c = subst (λ (l : List CoreLine). BranchesEmit (MoreBranches first.0 (expression_of first.1) (block_of l) NoBranch) NoStatement s c) body_is e1 in
    let e3 : BranchesEmit (branches_of (first ∷ rest)) NoStatement s c = subst (λ (l : List Test). BranchesEmit (branches_of (first ∷ l)) NoStatement s c) (sym none) e2 in
    let e4 : BranchesEmit (branches_of tests) NoStatement s c = subst (λ (l : List Test). BranchesEmit (branches_of l) NoStatement s c) (sym split) e3 in
    subst (λ (l : List CoreLine). BranchesEmit (branches_of tests) (block_of l) s c) (sym empty) e4

pub branch_of : (tests rest : List Test) (otherwise body : List CoreLine) (first : Test) (line at end end_line : ℕ) (s a b c d e f : State) (o : Place) → tests ≡ first ∷ rest → line ≡ first.0 → body ≡ first.2.items → a ≡ record s { line = line } → Guards a.line (expression_of first.1) (block_of body) a b at o → end ≡ length b.code → end_line ≡ b.line → c ≡ record b { code = b.code ++ (op.Jmp (pos 0), b.line) ∷ [] } → d ≡ landed_on c at line o → BranchesEmit (branches_of rest) (block_of otherwise) d e → f ≡ landed_always e end end_line → BranchesEmit (branches_of tests) (block_of otherwise) s f
branch_of tests rest otherwise body first line at end end_line s a b c d e f o split line_is body_is begun guards end_is end_line_is jumped land others last =
    let g : Guards line (expression_of first.1) (block_of body) a b at o = subst (λ (n : ℕ). Guards n (expression_of first.1) (block_of body) a b at o) (ap (λ (x : State). x.line) begun) guards in
    let last' : f ≡ landed_always e (length b.code) b.line = last ∙ (ap (λ (n : ℕ). landed_always e n end_line) end_is ∙ ap (λ (n : ℕ). landed_always e (length b.code) n) end_line_is) in
    let here : BranchesEmit (MoreBranches line (expression_of first.1) (block_of body) (branches_of rest)) (block_of otherwise) s f = branch_emits line at (expression_of first.1) (block_of body) (block_of otherwise) (branches_of rest) s a b c d e f o begun g jumped land others last' in
    let e1 : BranchesEmit (MoreBranches first.0 (expression_of first.1) (block_of body) (branches_of rest)) (block_of otherwise) s f = subst (λ (n : ℕ). BranchesEmit (MoreBranches n (expression_of first.1) (block_of body) (branches_of rest)) (block_of otherwise) s f) line_is here in
    let e2 : BranchesEmit (branches_of (first ∷ rest)) (block_of otherwise) s f = subst (λ (l : List CoreLine). BranchesEmit (MoreBranches first.0 (expression_of first.1) (block_of l) (branches_of rest)) (block_of otherwise) s f) body_is e1 in
    subst (λ (l : List Test). BranchesEmit (branches_of l) (block_of otherwise) s f) (sym split) e2

pub none_of : (tests : List Test) (otherwise : Block) (a b : State) → tests ≡ [] → BranchesEmit NoBranch otherwise a b → BranchesEmit (branches_of tests) otherwise a b
none_of tests otherwise a b none emits = subst (λ (l : List Test). BranchesEmit (branches_of l) otherwise a b) (sym none) emits
