-- What is done with values, and compound assignments.
use Rattle.std.proofs.Common.{◌≡◌, ◌⊎◌, ℕ, ◌<◌, ◌≤◌, Bool, true, false, ◌||◌, List, [], ◌∷◌, ◌++◌, map, length, Option, Some, inl, inr, refl, sym, ap, subst, ◌∙◌, arith, append_assoc}
use Rattle.std.proofs.lemmas.List.{append-nil, length-append}
use Rattle.core_tree.specs.declared.core_type.CoreType.{CoreType}
use Rattle.core_tree.specs.declared.operator.Arith.{Arith}
use Rattle.core_tree.specs.declared.operator.Arith.TheVariants as signs
use Rattle.core_tree.specs.Tree.{Expression, Expressions, NoExpression, Effect, StoreLocal, StoreField, Statement, Do, ChangeProperty, ChangeElement, one, two, three}
use Rattle.code_meaning.specs.Code.{Operand, Slot, Instruction}
use Rattle.code_meaning.specs.Code as op
use Rattle.emit_meaning.specs.Codes.{Routine, Among, with_operand, slot_count, arith_code, affected, CanAffect, calls, CodesAll, no_code, CodesStatement, do_code, change_property_code, change_element_code, lined}
use Rattle.code_lower.specs.declared.place.Place.{Place}
use Rattle.code_lower.specs.declared.place.Place.TheVariants as place
use Rattle.code_lower.specs.Slots.{Slots, IsOut, IsOwn, AreOut, Grows}
use Rattle.code_lower.specs.Lowered.{Known, State, Serves, Adds, Emits, Keeps, Reaches, Instructs, Places, operand_of, is_value, slots_of, temporaries_of, IsTemporaryAmong, AreGiven, binary_code, arith_binary}
use Rattle.code_lower.specs.Statements.{StatementEmits, Changed}
use Rattle.code_lower.proofs.Operands.{reaches_none, reaches_more, grows_nowhere, grows_further, grows_to, serves_before, lined_joined, out_with, temporary_slot, gives_one, given_joined, given_still, given_grown, given_kept, apart_not, slot_kind}
use Rattle.code_lower.proofs.FormsEmit.{one_reach}
use Rattle.code_lower.proofs.StatementsEmit.{none_out}

-- ---- instructions that were added on one line
pub record Writes (a b : State) (seg : List Instruction) : Type 0 where
  pub code : b.code ≡ a.code ++ lined a.line seg
  pub line : b.line ≡ a.line
  pub known : b.known ≡ a.known
  pub grows : Grows a.slots b.slots

pub writes_further : (a b c : State) (first second : List Instruction) → Writes a b first → Writes b c second → Writes a c (first ++ second)
writes_further a b c first second g h = record {
  code = h.code ∙ (ap (λ (l : ℕ). b.code ++ lined l second) g.line ∙ (ap (λ (x : List (Instruction × ℕ)). x ++ lined a.line second) g.code ∙ (append_assoc a.code (lined a.line first) (lined a.line second) ∙ ap (λ (x : List (Instruction × ℕ)). a.code ++ x) (sym (lined_joined a.line first second)))));
  line = h.line ∙ g.line;
  known = h.known ∙ g.known;
  grows = grows_further a.slots b.slots c.slots g.grows h.grows;
}

pub added_writes : (a b : State) (seg : List Instruction) → Adds a b seg → Writes a b seg
added_writes a b seg g = record { code = g.code; line = g.line; known = g.known; grows = g.grows }

pub instruct_writes : (a b : State) (i : Instruction) (os : List Place) → Instructs a b i os → Writes a b (i ∷ [])
instruct_writes a b i os g = record { code = g.code; line = g.line; known = g.known; grows = grows_to a.slots b.slots g.gave.kinds g.gave.own }

pub place_writes : (a b : State) (kind : Option CoreType) (o : Place) → Places a b kind o → Writes a b []
place_writes a b kind o p = record { code = p.code ∙ sym (append-nil a.code); line = p.line; known = p.known; grows = p.grows }

pub one_writes : (a b : State) (i : Instruction) → b ≡ record a { code = a.code ++ (i, a.line) ∷ [] } → Writes a b (i ∷ [])
one_writes a b i same = record {
  code = ap (λ (s : State). s.code) same;
  line = ap (λ (s : State). s.line) same;
  known = ap (λ (s : State). s.known) same;
  grows = let e : b.slots ≡ a.slots = ap (λ (s : State). s.slots) same in grows_to a.slots b.slots (ap (λ (s : Slots). s.kinds) e) (ap (λ (s : Slots). s.own) e);
}

pub serves_written : (a b : State) (r : Routine) (seg : List Instruction) → Writes a b seg → Serves b r → Serves a r
serves_written a b r seg g s = serves_before a b r (sym g.known) g.grows s

-- a statement all of whose instructions are on its line
pub written_emits : (statement : Statement) (a b : State) (seg : List Instruction) → Writes a b seg → ((r : Routine) → Serves b r → CodesStatement r a.line statement (lined a.line seg)) → StatementEmits a.line statement a b
written_emits statement a b seg g codes = record {
  seg = lined a.line seg;
  adds = record { code = g.code; known = g.known; grows = g.grows };
  codes = codes;
}

-- ---- effects
pub effect_emits : (all : Expressions) (effect : Effect) (a b c : State) (os : List Place) (i : Instruction) → Reaches all NoExpression a b os → Instructs b c i os → affected effect (map operand_of os) ≡ i ∷ [] → ((r : Routine) → Serves c r → CanAffect r effect) → StatementEmits a.line (Do effect all) a c
effect_emits all effect a b c os i reaches instructs same can =
    written_emits (Do effect all) a c (reaches.seg ++ i ∷ []) (writes_further a b c reaches.seg (i ∷ []) (added_writes a b reaches.seg reaches.adds) last) codes
  where
    last : Writes b c (i ∷ [])
    last = instruct_writes b c i os instructs

    codes : (r : Routine) → Serves c r → CodesStatement r a.line (Do effect all) (lined a.line (reaches.seg ++ i ∷ []))
    codes r serves =
        let each : CodesAll r all [] (reaches.seg ++ []) (map operand_of os ++ []) = reaches.codes r (serves_written b c r (i ∷ []) last serves) [] (none_out a) [] [] no_code in
        let each' : CodesAll r all [] reaches.seg (map operand_of os) = subst (λ (l : List Operand). CodesAll r all [] reaches.seg l) (append-nil (map operand_of os)) (subst (λ (l : List Instruction). CodesAll r all [] l (map operand_of os ++ [])) (append-nil reaches.seg) each) in
        subst (λ (l : List Instruction). CodesStatement r a.line (Do effect all) (lined a.line (reaches.seg ++ l))) same (do_code a.line effect all reaches.seg (map operand_of os) each' (can r serves))

-- an effect on one value
pub store_emits : (to : Expression) (effect : Effect) (a b c : State) (o : Place) (i : Instruction) → Emits to a b o → is_value o ≡ true → Instructs b c i (o ∷ []) → affected effect (operand_of o ∷ []) ≡ i ∷ [] → ((r : Routine) → Serves c r → CanAffect r effect) → StatementEmits a.line (Do effect (one to)) a c
store_emits to effect a b c o i emits value instructs same can =
    effect_emits (one to) effect a b c (o ∷ []) i (one_reach to a b o emits value) instructs same can

pub own_has : (s t : State) (r : Routine) (k : ℕ) → IsOwn s.slots k → t.known ≡ s.known → Grows s.slots t.slots → Serves t r → CanAffect r (StoreLocal k)
own_has s t r k own known grows after =
    let serves : Serves s r = serves_before s t r (sym known) grows after in
    let e : r.own ≡ s.slots.own = serves.own in
    (subst (λ (n : ℕ). k < n) (sym e) own.numbered, fits serves e, (own.kind.0, slot_kind s r k serves (omega (arith, own.numbered, own.fits)) ∙ own.kind.1))
  where
    fits : (serves : Serves s r) → r.own ≡ s.slots.own → r.own ≤ slot_count r
    fits serves e =
        let a : slot_count r ≡ length (s.slots.kinds ++ serves.more) = ap (λ (l : List (Option CoreType)). length l) serves.kinds in
        let b = length-append s.slots.kinds serves.more in
        omega (arith, own.fits)

pub field_has : (s t : State) (r : Routine) (k : ℕ) → k < s.known.variables → t.known ≡ s.known → Serves t r → CanAffect r (StoreField k)
field_has s t r k less known serves = serves.variables k (subst (λ (x : Known). k < x.variables) (sym known) less)

-- ---- the operation of a compound assignment
arith_coded : (operation : Arith) (to left right : Operand) → binary_code (arith_binary operation) to left right ≡ arith_code operation to left right
arith_coded signs.Add to left right = refl
arith_coded signs.Sub to left right = refl
arith_coded signs.Mul to left right = refl
arith_coded signs.Div to left right = refl
arith_coded signs.Rem to left right = refl
arith_coded signs.Join to left right = refl

pub read_given : (right : Expression) (a b c : State) (kind : CoreType) (old two new : Place) → IsTemporaryAmong a.slots old → AreOut a.slots (temporaries_of (old ∷ [])) → Emits right a b two → Places b c (Some kind) new → AreGiven c.slots (old ∷ two ∷ [])
read_given right a b c kind old two new given out emits p =
    given_joined c.slots (old ∷ []) two (given_kept a.slots c.slots (old ∷ []) (grows_further a.slots b.slots c.slots emits.adds.grows p.grows) (λ k o. p.kept k (emits.adds.kept k o)) (gives_one a.slots old given)) (given_grown b.slots c.slots two p.grows (λ k m. p.kept k) emits.given) (emits.apart (temporaries_of (old ∷ [])) out)

pub temporaries_out : (s : Slots) (o : Place) → IsTemporaryAmong s o → AreOut s (temporaries_of (o ∷ []))
temporaries_out s (place.Literal value) t = λ k m. absurd m
temporaries_out s (place.Local n) t = λ k m. absurd m
temporaries_out s (place.Variable n kind) t = λ k m. absurd m
temporaries_out s place.OwnInstance t = λ k m. absurd m
temporaries_out s place.StateText t = λ k m. absurd m
temporaries_out s (place.Nothing n) t = λ k m. absurd m
temporaries_out s (place.Temporary n kind) t = λ k m. either k m
  where
    either : (k : ℕ) → (k ≡ n) ⊎ ⊥ → IsOut s k
    either k (inl e) = subst (λ (j : ℕ). IsOut s j) (sym e) t.out
    either k (inr m) = absurd m

-- those that aren't among two operands
apart_two : (right : Expression) (a b : State) (old two : Place) → Emits right a b two → (k : ℕ) → ¬ Among k (temporaries_of (old ∷ [])) → IsOut a.slots k → ¬ Among k (temporaries_of (old ∷ two ∷ []))
apart_two right a b old two emits k not out = λ m. both old not m
  where
    only : (j : ℕ) → (j ≡ k) ⊎ ⊥ → IsOut a.slots j
    only j (inl e) = subst (λ (n : ℕ). IsOut a.slots n) (sym e) out
    only j (inr m) = absurd m

    second : ¬ Among k (temporaries_of (two ∷ []))
    second = λ m. apart_not (k ∷ []) two (emits.apart (k ∷ []) (λ j n. only j n)) k m (inl refl)

    split : (n : ℕ) → ¬ ((k ≡ n) ⊎ ⊥) → (k ≡ n) ⊎ Among k (temporaries_of (two ∷ [])) → ⊥
    split n first (inl e) = first (inl e)
    split n first (inr m) = second m

    both : (o : Place) → ¬ Among k (temporaries_of (o ∷ [])) → Among k (temporaries_of (o ∷ two ∷ [])) → ⊥
    both (place.Literal value) first m = second m
    both (place.Local n) first m = second m
    both (place.Variable n kind) first m = second m
    both place.OwnInstance first m = second m
    both place.StateText first m = second m
    both (place.Nothing n) first m = second m
    both (place.Temporary n kind) first m = split n first m

pub changed_is : (right : Expression) (operation : Arith) (kind : CoreType) (a b c d : State) (old two new : Place) → IsTemporaryAmong a.slots old → Emits right a b two → is_value two ≡ true → Places b c (Some kind) new → Instructs c d (binary_code (arith_binary operation) (operand_of new) (operand_of old) (operand_of two)) (old ∷ two ∷ []) → Changed right operation kind a d old new
changed_is right operation kind a b c d old two new given emits value p i = record {
  seg = emits.seg;
  two = operand_of two;
  number = p.number;
  is = p.is;
  code = subst (λ (x : Instruction). d.code ≡ a.code ++ lined a.line (emits.seg ++ x ∷ [])) instruction_is writes.code;
  line = writes.line;
  known = writes.known;
  grows = writes.grows;
  kept = λ k not out. i.gave.kept k (apart_two right a b old two emits k not out) (p.kept k (emits.adds.kept k out));
  codes = λ r serves live out. emits.codes r (serves_before b d r (sym (i.known ∙ p.known)) grows_bd serves) live out;
  gives = emits.gives ∙ value;
  free = λ r serves live out. p.result d r (grows_to c.slots d.slots i.gave.kinds i.gave.own) serves live (λ k m. emits.adds.kept k (out k m));
  apart = λ live out. p.apart live (λ k m. emits.adds.kept k (out k m));
  given = given_grown c.slots d.slots new (grows_to c.slots d.slots i.gave.kinds i.gave.own) (λ k m out. i.gave.kept k (p.fresh (old ∷ two ∷ []) given_b k (temporary_slot k (new ∷ []) m)) out) p.given;
}
  where
    added : Instruction
    added = binary_code (arith_binary operation) (operand_of new) (operand_of old) (operand_of two)

    instruction_is : added ≡ arith_code operation (Slot p.number) (operand_of old) (operand_of two)
    instruction_is = arith_coded operation (operand_of new) (operand_of old) (operand_of two) ∙ ap (λ (x : Operand). arith_code operation x (operand_of old) (operand_of two)) p.is

    grows_bd : Grows b.slots d.slots
    grows_bd = grows_further b.slots c.slots d.slots p.grows (grows_to c.slots d.slots i.gave.kinds i.gave.own)

    writes : Writes a d (emits.seg ++ added ∷ [])
    writes = writes_further a b d emits.seg (added ∷ []) (added_writes a b emits.seg emits.adds) (writes_further b c d [] (added ∷ []) (place_writes b c (Some kind) new p) (instruct_writes c d added (old ∷ two ∷ []) i))

    given_b : AreGiven b.slots (old ∷ two ∷ [])
    given_b = given_joined b.slots (old ∷ []) two (given_kept a.slots b.slots (old ∷ []) emits.adds.grows emits.adds.kept (gives_one a.slots old given)) emits.given (emits.apart (temporaries_of (old ∷ [])) (temporaries_out a.slots old given))

-- operands that were there before are still, and the new value behind them
pub held_given : (right : Expression) (operation : Arith) (kind : CoreType) (a b c d : State) (os : List Place) (old new : Place) (i : Instruction) → AreGiven a.slots os → AreOut a.slots (slots_of os) → Places a b (Some kind) old → c ≡ record b { code = b.code ++ (i, b.line) ∷ [] } → Changed right operation kind c d old new → AreGiven d.slots (os ++ new ∷ [])
held_given right operation kind a b c d os old new i given out p same changed =
    given_joined d.slots os new (given_still a.slots d.slots os (grows_further a.slots c.slots d.slots grows_ac changed.grows) (λ k m o. changed.kept k (λ n. p.fresh os given k (temporary_slot k (old ∷ []) n) m) (there k o)) given) changed.given (changed.apart (temporaries_of os) (λ k m. there k (out k (temporary_slot k os m))))
  where
    slots : c.slots ≡ b.slots
    slots = ap (λ (s : State). s.slots) same

    there : (k : ℕ) → IsOut a.slots k → IsOut c.slots k
    there k o = subst (λ (s : Slots). IsOut s k) (sym slots) (p.kept k o)

    grows_ac : Grows a.slots c.slots
    grows_ac = subst (λ (s : Slots). Grows a.slots s) (sym slots) p.grows

pub old_given : (a b c : State) (kind : CoreType) (old : Place) (i : Instruction) → Places a b (Some kind) old → c ≡ record b { code = b.code ++ (i, b.line) ∷ [] } → IsTemporaryAmong c.slots old
old_given a b c kind old i p same = subst (λ (s : Slots). IsTemporaryAmong s old) (sym (ap (λ (x : State). x.slots) same)) p.given

number_out : (s : Slots) (o : Place) (n : ℕ) → operand_of o ≡ Slot n → AreOut s (slots_of (o ∷ [])) → IsOut s n
number_out s (place.Literal value) n e out = absurd (cc)
number_out s (place.Local k) n e out = let q : k ≡ n = cc in subst (λ (j : ℕ). IsOut s j) q (out k (inl refl))
number_out s (place.Variable k kind) n e out = absurd (cc)
number_out s place.OwnInstance n e out = absurd (cc)
number_out s place.StateText n e out = absurd (cc)
number_out s (place.Temporary k kind) n e out = let q : k ≡ n = cc in subst (λ (j : ℕ). IsOut s j) q (out k (inl refl))
number_out s (place.Nothing k) n e out = let q : k ≡ n = cc in subst (λ (j : ℕ). IsOut s j) q (out k (inl refl))

-- an array and an index that are kept while the right side is evaluated
pub two_held : (array index right : Expression) (a b c d e : State) (first kept second held : Place) (calling later : Bool) → Emits array a b first → is_value first ≡ true → Keeps calling b c first kept → (calling ≡ false → (calls index ≡ false) × (calls right ≡ false)) → Emits index c d second → is_value second ≡ true → Keeps later d e second held → (later ≡ false → calls right ≡ false) → Reaches (three array index right) (one right) a e (kept ∷ held ∷ [])
two_held array index right a b c d e first kept second held calling later emits value keeps none emits' value' keeps' none' =
    let all : Expressions = three array index right in
    reaches_more all index (one right) a c d e (kept ∷ []) second held later (reaches_more all array (two index right) a a b c [] first kept calling (reaches_none all a) emits value keeps (λ q. both (calls index) (calls right) (none q).0 (none q).1)) emits' value' keeps' (λ q. ap (λ (y : Bool). y || false) (none' q))
  where
    both : (x y : Bool) → x ≡ false → y ≡ false → (x || (y || false)) ≡ false
    both x y p q = ap (λ (z : Bool). z || (y || false)) p ∙ ap (λ (z : Bool). z || false) q

property_joined : (a b c : List Instruction) (g x y : Instruction) → (((a ++ b) ++ ([] ++ g ∷ [])) ++ (c ++ x ∷ [])) ++ y ∷ [] ≡ a ++ (b ++ (g ∷ (c ++ (x ∷ y ∷ []))))
property_joined a b c g x y = simp append_assoc

pub change_property_emits : (of right : Expression) (name : List ℕ) (kind : CoreType) (operation : Arith) (s0 s1 s2 s3 s4 s7 s8 : State) (first kept old new : Place) → Emits of s0 s1 first → is_value first ≡ true → Keeps true s1 s2 first kept → Places s2 s3 (Some kind) old → s4 ≡ record s3 { code = s3.code ++ (op.PropGet name (operand_of kept) (operand_of old), s3.line) ∷ [] } → Changed right operation kind s4 s7 old new → Instructs s7 s8 (op.PropSet name (operand_of kept) (operand_of new)) (kept ∷ new ∷ []) → StatementEmits s0.line (ChangeProperty of name kind operation right) s0 s8
change_property_emits of right name kind operation s0 s1 s2 s3 s4 s7 s8 first kept old new e value k p same ch i =
    written_emits (ChangeProperty of name kind operation right) s0 s8 whole (subst (λ (l : List Instruction). Writes s0 s8 l) code_is writes) codes
  where
    get : Instruction
    get = op.PropGet name (operand_of kept) (operand_of old)

    put : Instruction
    put = op.PropSet name (operand_of kept) (operand_of new)

    act : Instruction
    act = arith_code operation (Slot ch.number) (operand_of old) ch.two

    whole : List Instruction
    whole = e.seg ++ (k.copy ++ (op.PropGet name (operand_of kept) (Slot p.number) ∷ (ch.seg ++ (arith_code operation (Slot ch.number) (Slot p.number) ch.two ∷ op.PropSet name (operand_of kept) (Slot ch.number) ∷ []))))

    to2 : Writes s0 s2 (e.seg ++ k.copy)
    to2 = writes_further s0 s1 s2 e.seg k.copy (added_writes s0 s1 e.seg e.adds) (added_writes s1 s2 k.copy k.adds)

    from2 : Writes s2 s4 ([] ++ get ∷ [])
    from2 = writes_further s2 s3 s4 [] (get ∷ []) (place_writes s2 s3 (Some kind) old p) (one_writes s3 s4 get same)

    act_writes : Writes s4 s7 (ch.seg ++ act ∷ [])
    act_writes = record { code = ch.code; line = ch.line; known = ch.known; grows = ch.grows }

    put_writes : Writes s7 s8 (put ∷ [])
    put_writes = instruct_writes s7 s8 put (kept ∷ new ∷ []) i

    writes : Writes s0 s8 ((((e.seg ++ k.copy) ++ ([] ++ get ∷ [])) ++ (ch.seg ++ act ∷ [])) ++ put ∷ [])
    writes = writes_further s0 s7 s8 (((e.seg ++ k.copy) ++ ([] ++ get ∷ [])) ++ (ch.seg ++ act ∷ [])) (put ∷ []) (writes_further s0 s4 s7 ((e.seg ++ k.copy) ++ ([] ++ get ∷ [])) (ch.seg ++ act ∷ []) (writes_further s0 s2 s4 (e.seg ++ k.copy) ([] ++ get ∷ []) to2 from2) act_writes) put_writes

    code_is : (((e.seg ++ k.copy) ++ ([] ++ get ∷ [])) ++ (ch.seg ++ act ∷ [])) ++ put ∷ [] ≡ whole
    code_is =
        property_joined e.seg k.copy ch.seg get act put ∙ (ap (λ (x : Operand). e.seg ++ (k.copy ++ (op.PropGet name (operand_of kept) x ∷ (ch.seg ++ (arith_code operation (Slot ch.number) x ch.two ∷ put ∷ []))))) p.is ∙ ap (λ (x : Operand). e.seg ++ (k.copy ++ (op.PropGet name (operand_of kept) (Slot p.number) ∷ (ch.seg ++ (arith_code operation (Slot ch.number) (Slot p.number) ch.two ∷ op.PropSet name (operand_of kept) x ∷ []))))) ch.is)

    codes : (r : Routine) → Serves s8 r → CodesStatement r s0.line (ChangeProperty of name kind operation right) (lined s0.line whole)
    codes r serves8 =
        let serves7 : Serves s7 r = serves_written s7 s8 r (put ∷ []) put_writes serves8 in
        let serves4 : Serves s4 r = serves_written s4 s7 r (ch.seg ++ act ∷ []) act_writes serves7 in
        let serves2 : Serves s2 r = serves_written s2 s4 r ([] ++ get ∷ []) from2 serves4 in
        let serves1 : Serves s1 r = serves_before s1 s2 r (sym k.adds.known) k.adds.grows serves2 in
        let live : List ℕ = with_operand [] (operand_of kept) in
        let out2 : AreOut s2.slots live = out_with s2.slots [] kept (λ j m. absurd m) (k.out e.out) in
        let slots : s4.slots ≡ s3.slots = ap (λ (s : State). s.slots) same in
        let out4 : AreOut s4.slots live = λ j m. subst (λ (s : Slots). IsOut s j) (sym slots) (p.kept j (out2 j m)) in
        let out4' : AreOut s4.slots (p.number ∷ live) = λ j m. subst (λ (s : Slots). IsOut s j) (sym slots) (both j (λ n. p.kept j (out2 j n)) m) in
        change_property_code s0.line of right name kind operation e.seg k.copy ch.seg (operand_of first) (operand_of kept) ch.two p.number ch.number (e.codes r serves1 [] (none_out s0)) (e.gives ∙ value) (k.keeps r serves2 true (λ q. q) [] (none_out s1)) (p.result s4 r (subst (λ (s : Slots). Grows s3.slots s) (sym slots) (grows_nowhere s3.slots)) serves4 live out2) (ch.codes r serves7 (p.number ∷ live) out4') ch.gives (ch.free r serves7 live out4)
      where
        both : (j : ℕ) → (Among j (with_operand [] (operand_of kept)) → IsOut s3.slots j) → (j ≡ p.number) ⊎ Among j (with_operand [] (operand_of kept)) → IsOut s3.slots j
        both j more (inl q) = subst (λ (n : ℕ). IsOut s3.slots n) (sym q) (number_out s3.slots old p.number p.is p.out)
        both j more (inr m) = more m

element_joined : (a b c d f : List Instruction) (g x y : Instruction) → ((((a ++ b) ++ (c ++ d)) ++ ([] ++ g ∷ [])) ++ (f ++ x ∷ [])) ++ y ∷ [] ≡ a ++ (b ++ (c ++ (d ++ (g ∷ (f ++ (x ∷ y ∷ []))))))
element_joined a b c d f g x y = simp append_assoc

pub change_element_emits : (array index right : Expression) (kind : CoreType) (operation : Arith) (t0 t1 t2 s1 s2 s3 s4 s7 s8 : State) (first kept second held old new : Place) (calling later : Bool) → Emits array t0 t1 first → is_value first ≡ true → Keeps calling t1 t2 first kept → (calling ≡ false → (calls index ≡ false) × (calls right ≡ false)) → Emits index t2 s1 second → is_value second ≡ true → Keeps later s1 s2 second held → (later ≡ false → calls right ≡ false) → Places s2 s3 (Some kind) old → s4 ≡ record s3 { code = s3.code ++ (op.ArrayGetElement (operand_of old) (operand_of kept) (operand_of held), s3.line) ∷ [] } → Changed right operation kind s4 s7 old new → Instructs s7 s8 (op.ArraySetElement (operand_of kept) (operand_of held) (operand_of new)) (kept ∷ held ∷ new ∷ []) → StatementEmits t0.line (ChangeElement array index kind operation right) t0 s8
change_element_emits array index right kind operation t0 t1 t2 s1 s2 s3 s4 s7 s8 first kept second held old new calling later e value k none e' value' k' none' p same ch i =
    written_emits (ChangeElement array index kind operation right) t0 s8 whole (subst (λ (l : List Instruction). Writes t0 s8 l) code_is writes) codes
  where
    get : Instruction
    get = op.ArrayGetElement (operand_of old) (operand_of kept) (operand_of held)

    put : Instruction
    put = op.ArraySetElement (operand_of kept) (operand_of held) (operand_of new)

    act : Instruction
    act = arith_code operation (Slot ch.number) (operand_of old) ch.two

    whole : List Instruction
    whole = e.seg ++ (k.copy ++ (e'.seg ++ (k'.copy ++ (op.ArrayGetElement (Slot p.number) (operand_of kept) (operand_of held) ∷ (ch.seg ++ (arith_code operation (Slot ch.number) (Slot p.number) ch.two ∷ op.ArraySetElement (operand_of kept) (operand_of held) (Slot ch.number) ∷ []))))))

    first_writes : Writes t0 t2 (e.seg ++ k.copy)
    first_writes = writes_further t0 t1 t2 e.seg k.copy (added_writes t0 t1 e.seg e.adds) (added_writes t1 t2 k.copy k.adds)

    second_writes : Writes t2 s2 (e'.seg ++ k'.copy)
    second_writes = writes_further t2 s1 s2 e'.seg k'.copy (added_writes t2 s1 e'.seg e'.adds) (added_writes s1 s2 k'.copy k'.adds)

    to2 : Writes t0 s2 ((e.seg ++ k.copy) ++ (e'.seg ++ k'.copy))
    to2 = writes_further t0 t2 s2 (e.seg ++ k.copy) (e'.seg ++ k'.copy) first_writes second_writes

    from2 : Writes s2 s4 ([] ++ get ∷ [])
    from2 = writes_further s2 s3 s4 [] (get ∷ []) (place_writes s2 s3 (Some kind) old p) (one_writes s3 s4 get same)

    act_writes : Writes s4 s7 (ch.seg ++ act ∷ [])
    act_writes = record { code = ch.code; line = ch.line; known = ch.known; grows = ch.grows }

    put_writes : Writes s7 s8 (put ∷ [])
    put_writes = instruct_writes s7 s8 put (kept ∷ held ∷ new ∷ []) i

    writes : Writes t0 s8 (((((e.seg ++ k.copy) ++ (e'.seg ++ k'.copy)) ++ ([] ++ get ∷ [])) ++ (ch.seg ++ act ∷ [])) ++ put ∷ [])
    writes = writes_further t0 s7 s8 ((((e.seg ++ k.copy) ++ (e'.seg ++ k'.copy)) ++ ([] ++ get ∷ [])) ++ (ch.seg ++ act ∷ [])) (put ∷ []) (writes_further t0 s4 s7 (((e.seg ++ k.copy) ++ (e'.seg ++ k'.copy)) ++ ([] ++ get ∷ [])) (ch.seg ++ act ∷ []) (writes_further t0 s2 s4 ((e.seg ++ k.copy) ++ (e'.seg ++ k'.copy)) ([] ++ get ∷ []) to2 from2) act_writes) put_writes

    code_is : ((((e.seg ++ k.copy) ++ (e'.seg ++ k'.copy)) ++ ([] ++ get ∷ [])) ++ (ch.seg ++ act ∷ [])) ++ put ∷ [] ≡ whole
    code_is =
        element_joined e.seg k.copy e'.seg k'.copy ch.seg get act put ∙ (ap (λ (x : Operand). e.seg ++ (k.copy ++ (e'.seg ++ (k'.copy ++ (op.ArrayGetElement x (operand_of kept) (operand_of held) ∷ (ch.seg ++ (arith_code operation (Slot ch.number) x ch.two ∷ put ∷ []))))))) p.is ∙ ap (λ (x : Operand). e.seg ++ (k.copy ++ (e'.seg ++ (k'.copy ++ (op.ArrayGetElement (Slot p.number) (operand_of kept) (operand_of held) ∷ (ch.seg ++ (arith_code operation (Slot ch.number) (Slot p.number) ch.two ∷ op.ArraySetElement (operand_of kept) (operand_of held) x ∷ []))))))) ch.is)

    codes : (r : Routine) → Serves s8 r → CodesStatement r t0.line (ChangeElement array index kind operation right) (lined t0.line whole)
    codes r serves8 =
        let serves7 : Serves s7 r = serves_written s7 s8 r (put ∷ []) put_writes serves8 in
        let serves4 : Serves s4 r = serves_written s4 s7 r (ch.seg ++ act ∷ []) act_writes serves7 in
        let serves2 : Serves s2 r = serves_written s2 s4 r ([] ++ get ∷ []) from2 serves4 in
        let serves1 : Serves s1 r = serves_before s1 s2 r (sym k'.adds.known) k'.adds.grows serves2 in
        let servest : Serves t2 r = serves_written t2 s2 r (e'.seg ++ k'.copy) second_writes serves2 in
        let serves0 : Serves t1 r = serves_before t1 t2 r (sym k.adds.known) k.adds.grows servest in
        let live1 : List ℕ = with_operand [] (operand_of kept) in
        let live : List ℕ = with_operand live1 (operand_of held) in
        let outt : AreOut t2.slots live1 = out_with t2.slots [] kept (λ j m. absurd m) (k.out e.out) in
        let out1 : AreOut s1.slots live1 = λ j m. e'.adds.kept j (outt j m) in
        let out2 : AreOut s2.slots live = out_with s2.slots live1 held (λ j m. k'.adds.kept j (out1 j m)) (k'.out e'.out) in
        let slots : s4.slots ≡ s3.slots = ap (λ (s : State). s.slots) same in
        let out4 : AreOut s4.slots live = λ j m. subst (λ (s : Slots). IsOut s j) (sym slots) (p.kept j (out2 j m)) in
        let out4' : AreOut s4.slots (p.number ∷ live) = λ j m. subst (λ (s : Slots). IsOut s j) (sym slots) (both live j (λ n. p.kept j (out2 j n)) m) in
        change_element_code t0.line array index right kind operation e.seg k.copy e'.seg k'.copy ch.seg (operand_of first) (operand_of kept) (operand_of second) (operand_of held) ch.two p.number ch.number (e.codes r serves0 [] (none_out t0)) (e.gives ∙ value) (k.keeps r servest (calls index || calls right) (λ q. neither (calls index) (calls right) (none q).0 (none q).1) [] (none_out t1)) (e'.codes r serves1 live1 outt) (e'.gives ∙ value') (k'.keeps r serves2 (calls right) none' live1 out1) (p.result s4 r (subst (λ (s : Slots). Grows s3.slots s) (sym slots) (grows_nowhere s3.slots)) serves4 live out2) (ch.codes r serves7 (p.number ∷ live) out4') ch.gives (ch.free r serves7 live out4)
      where
        both : (l : List ℕ) (j : ℕ) → (Among j l → IsOut s3.slots j) → (j ≡ p.number) ⊎ Among j l → IsOut s3.slots j
        both l j more (inl q) = subst (λ (n : ℕ). IsOut s3.slots n) (sym q) (number_out s3.slots old p.number p.is p.out)
        both l j more (inr m) = more m

        neither : (x y : Bool) → x ≡ false → y ≡ false → (x || y) ≡ false
        neither x y q t = ap (λ (z : Bool). z || y) q ∙ t
