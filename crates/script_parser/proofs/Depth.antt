-- How many lines that begin a block are behind a reader that goes on, and which of them is too deep.
use Rattle.std.proofs.Common.{◌≡◌, ◌+◌, ◌-◌, ◌<◌, ◌≤◌, ℕ, zero, suc, Bool, List, [], ◌∷◌, length, get_or, take, cond, refl, sym, ap, ◌∙◌, arith, IsTrue}
use Rattle.std.specs.Prelude.{Some, slice_get, count_by}
use Rattle.std.proofs.lemmas.List.Sums.{count_by_more_yes, sum_by-take-le}
use Rattle.std.proofs.lemmas.Option.{get_or_from_slice_get, slice_get_within}
use Rattle.line_parser.specs.Blocks.{begins_block}
use Rattle.line_parser.specs.declared.fault.LineRule.{LineRule}
use Rattle.line_parser.specs.declared.fault.LineRule.TheVariants.{BadLine, TooDeep, BadBlock}
use Rattle.script_lexer.specs.declared.line.Line.{Line}
use Rattle.script_parser.specs.Faults.{BreaksRule, blocks_in}
use Rattle.script_parser.specs.Reader.{BlockAt, BreaksAt, Found, GoesOn, blocks_before}
use Rattle.script_parser.specs.declared.reader.LineAt.{LineAt}
use Rattle.script_parser.specs.declared.reader.LineReader.{LineReader}

take-shorter : {X : Type 0} (xs : List X) (a b : ℕ) → a ≤ b → take a (take b xs) ≡ take a xs
take-shorter xs zero b le = refl
take-shorter [] (suc a) zero le = refl
take-shorter [] (suc a) (suc b) le = refl
take-shorter (x ∷ xs) (suc a) zero le = absurd (omega arith)
take-shorter (x ∷ xs) (suc a) (suc b) le = ap (λ ys. x ∷ ys) (take-shorter xs a b (omega arith))

count-more : {X : Type 0} (p : X → Bool) (xs : List X) (a b : ℕ) → a ≤ b → count_by p (take a xs) ≤ count_by p (take b xs)
count-more p xs a b le =
    let shorter : count_by p (take a (take b xs)) ≤ count_by p (take b xs) = sum_by-take-le (λ x. cond (p x) 1 0) (take b xs) a in
    rw (take-shorter xs a b le) at shorter

blocks-more : (lines : List Line) (a b : ℕ) → a ≤ b → blocks_in (take a lines) ≤ blocks_in (take b lines)
blocks-more lines a b le = count-more (λ l. begins_block l.tokens.items) lines a b le

pub goes-further : (a b c : LineReader) → GoesOn a b → GoesOn b c → GoesOn a c
goes-further a b c first second = record { lines = cc; onward = omega (arith, first.onward, second.onward) }

pub blocks-onward : (old new : LineReader) (depth : ℕ) → GoesOn old new → 64 ≤ blocks_before old + depth → 64 ≤ blocks_before new + depth
blocks-onward old new depth on many =
    let more : blocks_in (take old.at old.lines.now) ≤ blocks_in (take new.at old.lines.now) = blocks-more old.lines.now old.at new.at on.onward in
    rw on.lines (omega (arith, more, many))

-- the line that was found begins a block
pub block-found : (old new : LineReader) (found : LineAt) (depth : ℕ) → Found old new found → IsTrue (begins_block found.line.now.tokens.items) → 64 ≤ blocks_before old + depth → BlockAt old.lines.now found.at depth
block-found old new found depth f begins many = record {
  line = found.line.now;
  found = f.stands;
  begins = begins;
  count = omega (arith, blocks-more old.lines.now old.at found.at f.onward);
}

-- behind it one block fewer may be open
pub block-inside : (old new : LineReader) (found : LineAt) (depth inner : ℕ) → GoesOn old new → Found old new found → IsTrue (begins_block found.line.now.tokens.items) → 64 ≤ blocks_before old + depth → inner + 1 ≡ depth →
    64 ≤ blocks_before new + inner
block-inside old new found depth inner on f begins many is =
    let within : found.at < length old.lines.now = slice_get_within old.lines.now found.at found.line.now f.stands in
    let line : get_or old.lines.now found.at found.line.now ≡ found.line.now = get_or_from_slice_get old.lines.now found.at found.line.now found.line.now f.stands in
    let one = count_by_more_yes (λ (l : Line). begins_block l.tokens.items) old.lines.now found.at found.line.now within (ap (λ (l : Line). begins_block l.tokens.items) line ∙ begins) in
    let before : blocks_in (take old.at old.lines.now) ≤ blocks_in (take found.at old.lines.now) = blocks-more old.lines.now old.at found.at f.onward in
    let behind : blocks_in (take (found.at + 1) old.lines.now) ≤ blocks_in (take new.at old.lines.now) = blocks-more old.lines.now (found.at + 1) new.at (omega (arith, f.behind)) in
    rw on.lines (omega (arith, one, before, behind, many, is))

-- the rule that is broken at a place is broken by the line of the place's number
pub rule-at : (lines : List Line) (at number : ℕ) (rule : LineRule) → ((line : Line) → slice_get lines at ≡ Some line → number ≡ line.number) → BreaksAt lines at rule → BreaksRule lines number rule
rule-at lines at number TooDeep is (n, deep) =
    (at, record { line = deep.line; found = deep.found; number_is = sym (is deep.line deep.found); deep = deep.deep })
rule-at lines at number BadLine is broken = tt
rule-at lines at number BadBlock is broken = tt
