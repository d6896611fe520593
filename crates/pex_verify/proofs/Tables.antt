-- The members of a set, as its scripts come one behind the other.
use Rattle.std.proofs.Common.{◌≡◌, ℕ, ◌+◌, ◌≤◌, suc, List, [], ◌∷◌, ◌++◌, length, map, take, Option, refl, sym, ap, subst, ◌∙◌, length-append, arith}
use Rattle.std.proofs.lemmas.List.{length-map, length-take-le}
use Rattle.papy_base.specs.Ranks.{IsDescentOf}
use Rattle.papy_base.specs.declared.descent.Span.{Span}
use Rattle.pex_set.specs.declared.inherited.OwnMember.{OwnMember}
use Rattle.pex_verify.specs.declared.members.MemberLists.{MemberLists}
use Rattle.pex_verify.specs.declared.members.MemberTable.{MemberTable}
use Rattle.pex_verify.specs.declared.scripts.ScriptHead.{ScriptHead}
use Rattle.pex_verify.specs.Heads.{Placed}
use Rattle.pex_verify.specs.Members.{with_script}
use Rattle.pex_verify.specs.Tables.{no_members, collected, all_members, Inherits, IsTable}

abbrev with_placed : MemberLists → ℕ → Placed → ScriptHead → MemberLists
with_placed lists number o head = with_script lists number o.source.names.now o.object head

collected-push : (lists : MemberLists) (number : ℕ) (objects : List Placed) (heads : List ScriptHead) (o : Placed) (head : ScriptHead) → length objects ≡ length heads
    → collected lists number (objects ++ o ∷ []) (heads ++ head ∷ []) ≡ with_placed (collected lists number objects heads) (number + length heads) o head
collected-push lists number [] [] o head same = let e : number + 0 ≡ number = omega arith in rw e refl
collected-push lists number [] (h ∷ heads) o head same = absurd (omega (arith, same))
collected-push lists number (p ∷ objects) [] o head same = absurd (omega (arith, same))
collected-push lists number (p ∷ objects) (h ∷ heads) o head same =
    let e : suc number + length heads ≡ number + suc (length heads) = omega arith in
    let rest : length objects ≡ length heads = omega (arith, same) in
    let first = with_placed lists number p h in
    collected-push first (suc number) objects heads o head rest ∙ ap (λ (n : ℕ). with_placed (collected first (suc number) objects heads) n o head) e

-- one script more
pub all_members-next : (descent : List Span) (objects : List Placed) (heads later : List ScriptHead) (lists more : MemberLists) (number : ℕ) (o : Placed) (head : ScriptHead)
    → later ≡ heads ++ head ∷ [] → length objects ≡ length heads → number ≡ length heads
    → lists ≡ all_members descent objects heads → more ≡ with_script lists number o.source.names.now o.object head → more ≡ all_members descent (objects ++ o ∷ []) later
all_members-next descent objects heads later lists more number o head grown same at had adds =
    let e : number ≡ 0 + length heads = omega (arith, at) in
    adds
    ∙ ap (λ (l : MemberLists). with_placed l number o head) had
    ∙ ap (λ (n : ℕ). with_placed (all_members descent objects heads) n o head) e
    ∙ sym (collected-push (no_members descent) 0 objects heads o head same)
    ∙ ap (all_members descent (objects ++ o ∷ [])) (sym grown)

-- how many scripts there are with some of a file
pub counted_with : {X Y : Type 0} (f : X → Y) (before : List Y) (xs : List X) (i : ℕ) → i ≤ length xs → length (before ++ map f (take i xs)) ≡ length before + i
counted_with f before xs i within =
    length-append before (map f (take i xs)) ∙ ap (λ (n : ℕ). length before + n) (length-map (take i xs) f ∙ length-take-le i xs within)

collected-descent : (lists : MemberLists) (number : ℕ) (objects : List Placed) (heads : List ScriptHead) → (collected lists number objects heads).descent ≡ lists.descent
collected-descent lists number [] heads = refl
collected-descent lists number (o ∷ objects) [] = refl
collected-descent lists number (o ∷ objects) (h ∷ heads) = collected-descent (with_placed lists number o h) (suc number) objects heads

pub no_members-at : (lists : MemberLists) → lists.methods ≡ [] → lists.properties ≡ [] → lists ≡ no_members lists.descent
no_members-at lists methods properties =
    ap (λ (l : List OwnMember). record lists { methods = l }) methods ∙ ap (λ (l : List OwnMember). record lists { methods = []; properties = l }) properties

-- the table that is made of the members of all scripts
pub IsTable-of : (parents : List (Option ℕ)) (objects : List Placed) (heads : List ScriptHead) (descent : List Span) (lists : MemberLists) (table : MemberTable)
    → length descent ≡ length parents → IsDescentOf parents descent → lists ≡ all_members descent objects heads
    → table.descent ≡ lists.descent → Inherits lists.methods table.methods → Inherits lists.properties table.properties → IsTable parents objects heads table
IsTable-of parents objects heads descent lists table as_many ranks all kept methods properties =
    let same : table.descent ≡ descent = kept ∙ ap (λ (l : MemberLists). l.descent) all ∙ collected-descent (no_members descent) 0 objects heads in
    let whole : lists ≡ all_members table.descent objects heads = all ∙ ap (λ (d : List Span). all_members d objects heads) (sym same) in
    record {
      count = ap (λ (d : List Span). length d) same ∙ as_many;
      descent = subst (λ (d : List Span). IsDescentOf parents d) (sym same) ranks;
      methods = subst (λ (l : MemberLists). Inherits l.methods table.methods) whole methods;
      properties = subst (λ (l : MemberLists). Inherits l.properties table.properties) whole properties;
    }
