-- How keywords and signs are spelled.
use Rattle.std.specs.Prelude.{ℕ, ◌+◌, ◌*◌, ◌-◌, ◌/◌, ◌%◌, List, [], ◌∷◌, length, get_or, Option, Some, None, ◌==◌, nat_lt, if◌then◌else◌}
use Rattle.script_lexer.specs.declared.keyword.Keyword.{Keyword}
use Rattle.script_lexer.specs.declared.keyword.Keyword.TheVariants as keyword
use Rattle.script_lexer.specs.declared.sign.Sign.{Sign}
use Rattle.script_lexer.specs.declared.sign.Sign.TheVariants as sign

-- a keyword in small letters
abbrev pub keyword_spelling : Keyword → List ℕ
keyword_spelling keyword.As = 97 ∷ 115 ∷ []
keyword_spelling keyword.Auto = 97 ∷ 117 ∷ 116 ∷ 111 ∷ []
keyword_spelling keyword.AutoReadOnly = 97 ∷ 117 ∷ 116 ∷ 111 ∷ 114 ∷ 101 ∷ 97 ∷ 100 ∷ 111 ∷ 110 ∷ 108 ∷ 121 ∷ []
keyword_spelling keyword.Bool = 98 ∷ 111 ∷ 111 ∷ 108 ∷ []
keyword_spelling keyword.Else = 101 ∷ 108 ∷ 115 ∷ 101 ∷ []
keyword_spelling keyword.ElseIf = 101 ∷ 108 ∷ 115 ∷ 101 ∷ 105 ∷ 102 ∷ []
keyword_spelling keyword.EndEvent = 101 ∷ 110 ∷ 100 ∷ 101 ∷ 118 ∷ 101 ∷ 110 ∷ 116 ∷ []
keyword_spelling keyword.EndFunction = 101 ∷ 110 ∷ 100 ∷ 102 ∷ 117 ∷ 110 ∷ 99 ∷ 116 ∷ 105 ∷ 111 ∷ 110 ∷ []
keyword_spelling keyword.EndIf = 101 ∷ 110 ∷ 100 ∷ 105 ∷ 102 ∷ []
keyword_spelling keyword.EndProperty = 101 ∷ 110 ∷ 100 ∷ 112 ∷ 114 ∷ 111 ∷ 112 ∷ 101 ∷ 114 ∷ 116 ∷ 121 ∷ []
keyword_spelling keyword.EndState = 101 ∷ 110 ∷ 100 ∷ 115 ∷ 116 ∷ 97 ∷ 116 ∷ 101 ∷ []
keyword_spelling keyword.EndWhile = 101 ∷ 110 ∷ 100 ∷ 119 ∷ 104 ∷ 105 ∷ 108 ∷ 101 ∷ []
keyword_spelling keyword.Event = 101 ∷ 118 ∷ 101 ∷ 110 ∷ 116 ∷ []
keyword_spelling keyword.Extends = 101 ∷ 120 ∷ 116 ∷ 101 ∷ 110 ∷ 100 ∷ 115 ∷ []
keyword_spelling keyword.False = 102 ∷ 97 ∷ 108 ∷ 115 ∷ 101 ∷ []
keyword_spelling keyword.Float = 102 ∷ 108 ∷ 111 ∷ 97 ∷ 116 ∷ []
keyword_spelling keyword.Function = 102 ∷ 117 ∷ 110 ∷ 99 ∷ 116 ∷ 105 ∷ 111 ∷ 110 ∷ []
keyword_spelling keyword.Global = 103 ∷ 108 ∷ 111 ∷ 98 ∷ 97 ∷ 108 ∷ []
keyword_spelling keyword.If = 105 ∷ 102 ∷ []
keyword_spelling keyword.Import = 105 ∷ 109 ∷ 112 ∷ 111 ∷ 114 ∷ 116 ∷ []
keyword_spelling keyword.Int = 105 ∷ 110 ∷ 116 ∷ []
keyword_spelling keyword.Length = 108 ∷ 101 ∷ 110 ∷ 103 ∷ 116 ∷ 104 ∷ []
keyword_spelling keyword.Native = 110 ∷ 97 ∷ 116 ∷ 105 ∷ 118 ∷ 101 ∷ []
keyword_spelling keyword.New = 110 ∷ 101 ∷ 119 ∷ []
keyword_spelling keyword.None = 110 ∷ 111 ∷ 110 ∷ 101 ∷ []
keyword_spelling keyword.Parent = 112 ∷ 97 ∷ 114 ∷ 101 ∷ 110 ∷ 116 ∷ []
keyword_spelling keyword.Property = 112 ∷ 114 ∷ 111 ∷ 112 ∷ 101 ∷ 114 ∷ 116 ∷ 121 ∷ []
keyword_spelling keyword.Return = 114 ∷ 101 ∷ 116 ∷ 117 ∷ 114 ∷ 110 ∷ []
keyword_spelling keyword.ScriptName = 115 ∷ 99 ∷ 114 ∷ 105 ∷ 112 ∷ 116 ∷ 110 ∷ 97 ∷ 109 ∷ 101 ∷ []
keyword_spelling keyword.SelfWord = 115 ∷ 101 ∷ 108 ∷ 102 ∷ []
keyword_spelling keyword.State = 115 ∷ 116 ∷ 97 ∷ 116 ∷ 101 ∷ []
keyword_spelling keyword.String = 115 ∷ 116 ∷ 114 ∷ 105 ∷ 110 ∷ 103 ∷ []
keyword_spelling keyword.True = 116 ∷ 114 ∷ 117 ∷ 101 ∷ []
keyword_spelling keyword.While = 119 ∷ 104 ∷ 105 ∷ 108 ∷ 101 ∷ []

-- the place of a word in small letters among the candidates
abbrev pub keyword_place : List ℕ → ℕ
keyword_place word =
    if nat_lt (length word) 2 then 0
    else (3 * get_or word 0 0 + 4 * get_or word (length word / 2) 0 + 13 * get_or word (length word - 1) 0) % 64

abbrev pub sign_spelling : Sign → List ℕ
sign_spelling sign.OpenParen = 40 ∷ []
sign_spelling sign.CloseParen = 41 ∷ []
sign_spelling sign.OpenBracket = 91 ∷ []
sign_spelling sign.CloseBracket = 93 ∷ []
sign_spelling sign.Comma = 44 ∷ []
sign_spelling sign.Dot = 46 ∷ []
sign_spelling sign.Assign = 61 ∷ []
sign_spelling sign.Equal = 61 ∷ 61 ∷ []
sign_spelling sign.NotEqual = 33 ∷ 61 ∷ []
sign_spelling sign.Less = 60 ∷ []
sign_spelling sign.Greater = 62 ∷ []
sign_spelling sign.LessEqual = 60 ∷ 61 ∷ []
sign_spelling sign.GreaterEqual = 62 ∷ 61 ∷ []
sign_spelling sign.Plus = 43 ∷ []
sign_spelling sign.Minus = 45 ∷ []
sign_spelling sign.Star = 42 ∷ []
sign_spelling sign.Slash = 47 ∷ []
sign_spelling sign.Percent = 37 ∷ []
sign_spelling sign.Not = 33 ∷ []
sign_spelling sign.And = 38 ∷ 38 ∷ []
sign_spelling sign.Or = 124 ∷ 124 ∷ []
sign_spelling sign.PlusAssign = 43 ∷ 61 ∷ []
sign_spelling sign.MinusAssign = 45 ∷ 61 ∷ []
sign_spelling sign.StarAssign = 42 ∷ 61 ∷ []
sign_spelling sign.SlashAssign = 47 ∷ 61 ∷ []
sign_spelling sign.PercentAssign = 37 ∷ 61 ∷ []

-- the sign that is this byte
abbrev pub sign_of_byte : ℕ → Option Sign
sign_of_byte b =
    if b == 40 then Some sign.OpenParen
    else (if b == 41 then Some sign.CloseParen
    else (if b == 91 then Some sign.OpenBracket
    else (if b == 93 then Some sign.CloseBracket
    else (if b == 44 then Some sign.Comma
    else (if b == 46 then Some sign.Dot
    else (if b == 61 then Some sign.Assign
    else (if b == 60 then Some sign.Less
    else (if b == 62 then Some sign.Greater
    else (if b == 43 then Some sign.Plus
    else (if b == 45 then Some sign.Minus
    else (if b == 42 then Some sign.Star
    else (if b == 47 then Some sign.Slash
    else (if b == 37 then Some sign.Percent
    else (if b == 33 then Some sign.Not
    else None))))))))))))))

-- the sign that is this byte and `=`
abbrev pub sign_before_equal : ℕ → Option Sign
sign_before_equal b =
    if b == 61 then Some sign.Equal
    else (if b == 33 then Some sign.NotEqual
    else (if b == 60 then Some sign.LessEqual
    else (if b == 62 then Some sign.GreaterEqual
    else (if b == 43 then Some sign.PlusAssign
    else (if b == 45 then Some sign.MinusAssign
    else (if b == 42 then Some sign.StarAssign
    else (if b == 47 then Some sign.SlashAssign
    else (if b == 37 then Some sign.PercentAssign
    else None))))))))

-- the sign that is these two bytes
abbrev pub sign_of_bytes : ℕ → ℕ → Option Sign
sign_of_bytes b c =
    if c == 61 then sign_before_equal b
    else (if b == c then (if b == 38 then Some sign.And else (if b == 124 then Some sign.Or else None)) else None)
