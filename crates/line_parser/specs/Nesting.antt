-- When a line is too long, or its brackets are too deep.
use Rattle.std.specs.Prelude.{ℕ, ◌+◌, ◌-◌, ◌<◌, ◌⊎◌, Bool, true, false, if◌then◌else◌, List, fold, length, take}
use Rattle.script_lexer.specs.declared.token.Spanned.{Spanned}
use Rattle.script_lexer.specs.declared.token.Token.{Token}
use Rattle.script_lexer.specs.declared.token.Token.TheVariants.{Sign as sign}
use Rattle.script_lexer.specs.declared.sign.Sign.TheVariants.{OpenParen, OpenBracket, CloseParen, CloseBracket}

-- `(` and `[`
abbrev pub opens : Token → Bool
opens (sign OpenParen) = true
opens (sign OpenBracket) = true
opens _ = false

-- `)` and `]`
abbrev pub closes : Token → Bool
closes (sign CloseParen) = true
closes (sign CloseBracket) = true
closes _ = false

-- how many are open after one more token; a closing sign lowers the count of both kinds, never below 0
abbrev pub open_next : ℕ → Spanned → ℕ
open_next n s = if opens s.token then n + 1 else (if closes s.token then n - 1 else n)

-- how many are open after these tokens
abbrev pub open_after : List Spanned → ℕ
open_after tokens = fold open_next 0 tokens

-- over 64 are open after some of the first tokens
abbrev pub OpensTooMany : List Spanned → Type 0
OpensTooMany tokens = (k : ℕ) × (64 < open_after (take k tokens))

abbrev pub IsTooDeep : List Spanned → Type 0
IsTooDeep tokens = (8000 < length tokens) ⊎ OpensTooMany tokens
