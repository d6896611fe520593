-- What a reader of one piece answers.
use Rattle.std.specs.Prelude.{◌≡◌, ℕ, ◌<◌, ◌≤◌, List, [], ◌∷◌, length, take, drop, map, ◌++◌, ◌⊎◌, Option, None, Result, Ok, Err, ⊤, Bool, false, ◌==◌}
use Rattle.script_lexer.specs.declared.opening.Opening.{Opening}
use Rattle.script_lexer.specs.declared.piece.Piece.{Piece}
use Rattle.script_lexer.specs.declared.fault.LexRule.{LexRule}
use Rattle.papy_base.specs.declared.faults.Fault.{Fault}
use Rattle.papy_base.specs.declared.faults.Fault.TheVariants as fault
use Rattle.script_lexer.specs.declared.sign.Sign.{Sign}
use Rattle.script_lexer.specs.Words.{sign_of_bytes}
use Rattle.script_lexer.specs.Bytes.{opening_of}
use Rattle.script_lexer.specs.Pieces.{IsLongest, is_hexadecimal, IsItem, AreItems, item_bytes, items_bytes, item_value, are_good}
use Rattle.script_lexer.specs.Rules.{rule_number, Breaks, IsUnclosed}
use Rattle.script_lexer.specs.declared.quoted.TextItem.{TextItem}

-- the first byte opens this
abbrev pub Opens : Opening → List ℕ → Type 0
Opens o [] = ⊥
Opens o (b ∷ bytes) = opening_of b ≡ o

-- the longest piece here takes len bytes, and no rule is broken
pub record Stands (rest : List ℕ) (p : Piece) (len : ℕ) : Type 0 where
  pub some : 0 < len
  pub within : len ≤ length rest
  pub longest : IsLongest (take len rest) (drop len rest) p
  pub unbroken : (r : LexRule) → Breaks r rest → ⊥

-- the lowest rule that is broken here
pub record IsLowest (rest : List ℕ) (r : LexRule) : Type 0 where
  pub broken : Breaks r rest
  pub lowest : (q : LexRule) → Breaks q rest → rule_number r ≤ rule_number q

abbrev pub Refuses : List ℕ → Fault LexRule → Type 0
Refuses rest (fault.Broken r) = IsLowest rest r
Refuses rest fault.OutOfMemory = ⊤

abbrev pub Answers : List ℕ → Result (Piece × ℕ) (Fault LexRule) → Type 0
Answers rest (Ok found) = Stands rest found.0 found.1
Answers rest (Err f) = Refuses rest f

-- the test of a hexadecimal number, at all of its bytes
abbrev pub is_hexadecimal_at : List ℕ → Bool
is_hexadecimal_at [] = false
is_hexadecimal_at (b ∷ bytes) = is_hexadecimal b bytes

-- the item is the next of a text
pub record BeginsItem (rest : List ℕ) (i : TextItem) : Type 0 where
  pub is_item : IsItem i
  pub bytes : rest ≡ item_bytes i ++ drop (length (item_bytes i)) rest

-- a text stops here: a quote stands here, or it can't go on
abbrev pub Stops : List ℕ → Type 0
Stops [] = Unit {0}
Stops (b ∷ bytes) = (b ≡ 34) ⊎ IsUnclosed (b ∷ bytes)

-- what was read behind a quote, up to where the text stops
pub record ReadsItems (bytes meant : List ℕ) (good : Bool) (len : ℕ) : Type 0 where
  pub items : List TextItem
  pub are_items : AreItems items
  pub within : len ≤ length bytes
  pub split : bytes ≡ items_bytes items ++ drop len bytes
  pub stops : Stops (drop len bytes)
  pub value : meant ≡ map item_value items
  pub goodness : good ≡ are_good items

-- a slash, behind the semicolon of a comment
abbrev pub begins_block : List ℕ → Bool
begins_block [] = false
begins_block (b ∷ bytes) = b == 47

-- the sign of two bytes that stands here
abbrev pub pair_at : List ℕ → Option Sign
pair_at [] = None
pair_at (b ∷ []) = None
pair_at (b ∷ c ∷ bytes) = sign_of_bytes b c
