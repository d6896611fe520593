-- The words of a file, and how many different ones there are.
use Rattle.std.specs.Prelude.{◌≡◌, ℕ, List, [], ◌∷◌, length, flat_map}
use Rattle.std.specs.List.{IsDistinct, list_any}
use Rattle.std.specs.Str.{bytes_eq}
use Rattle.script_lexer.specs.declared.token.Token.{Token}
use Rattle.script_lexer.specs.declared.token.Token.TheVariants as token
use Rattle.script_lexer.specs.declared.token.Spanned.{Spanned}
use Rattle.script_lexer.specs.declared.line.Line.{Line}

-- the bytes that a word, a text or a documentation text holds, and none for another token
abbrev pub word_of : Token → List (List ℕ)
word_of (token.Word name) = name ∷ []
word_of (token.Key keyword) = []
word_of (token.Int number) = []
word_of (token.Quoted text) = text ∷ []
word_of (token.Doc text) = text ∷ []
word_of (token.Sign sign) = []

abbrev pub words_in : List Spanned → List (List ℕ)
words_in tokens = flat_map (λ s. word_of s.token) tokens

abbrev pub words_of : List Line → List (List ℕ)
words_of lines = flat_map (λ l. words_in l.tokens.items) lines

-- n different byte lists are among these
pub record CountsDifferent (words : List (List ℕ)) (n : ℕ) : Type 0 where
  pub all : List (List ℕ)
  pub differ : IsDistinct bytes_eq all
  pub members : (word : List ℕ) → list_any (bytes_eq word) all ≡ list_any (bytes_eq word) words
  pub count : n ≡ length all
