-- Which lines begin a block of statements.
use Rattle.std.specs.Prelude.{Bool, true, false, List, [], ◌∷◌, Option, Some, None}
use Rattle.script_lexer.specs.declared.keyword.Keyword.{Keyword}
use Rattle.script_lexer.specs.declared.keyword.Keyword.TheVariants.{If, While}
use Rattle.script_lexer.specs.declared.token.Spanned.{Spanned}
use Rattle.script_lexer.specs.declared.token.Token.{Token}
use Rattle.script_lexer.specs.declared.token.Token.TheVariants.{Key}
use Rattle.line_parser.specs.declared.tree.LineForm.{LineForm}
use Rattle.line_parser.specs.declared.tree.LineForm.TheVariants as form

abbrev pub keyword_of : Token → Option Keyword
keyword_of (Key keyword) = Some keyword
keyword_of _ = None

-- the keyword that comes first, where one does
abbrev pub first_keyword : List Spanned → Option Keyword
first_keyword [] = None
first_keyword (first ∷ rest) = keyword_of first.token

-- `If` and `While`
abbrev pub is_block_word : Keyword → Bool
is_block_word If = true
is_block_word While = true
is_block_word _ = false

abbrev pub is_block_start : Option Keyword → Bool
is_block_start None = false
is_block_start (Some keyword) = is_block_word keyword

-- the line begins with `If` or `While`
abbrev pub begins_block : List Spanned → Bool
begins_block tokens = is_block_start (first_keyword tokens)

-- the form is that of `If` or `While`
abbrev pub opens_block : LineForm → Bool
opens_block (form.If test) = true
opens_block (form.While test) = true
opens_block _ = false
