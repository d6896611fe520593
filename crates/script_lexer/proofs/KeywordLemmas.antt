-- Keywords.
use Rattle.std.proofs.Common.{◌≡◌, ℕ, Bool, true, false, List, [], ◌∷◌, get_or, Option, Some, None, refl, sym, ap, ◌∙◌}
use Rattle.std.specs.Prelude.{◌==◌, ◌&&◌}
use Rattle.std.specs.List.{find}
use Rattle.papy_base.specs.Case.{folded}
use Rattle.script_lexer.specs.declared.keyword.Keyword.{Keyword}
use Rattle.script_lexer.specs.declared.keyword.Keyword.TheVariants as keyword
use Rattle.script_lexer.specs.Words.{keyword_spelling, keyword_place}

abbrev pub keywords : List Keyword
keywords = keyword.As ∷ keyword.Auto ∷ keyword.AutoReadOnly ∷ keyword.Bool ∷ keyword.Else ∷ keyword.ElseIf ∷ keyword.EndEvent ∷ keyword.EndFunction ∷ keyword.EndIf ∷ keyword.EndProperty ∷ keyword.EndState ∷ keyword.EndWhile ∷ keyword.Event ∷ keyword.Extends ∷ keyword.False ∷ keyword.Float ∷ keyword.Function ∷ keyword.Global ∷ keyword.If ∷ keyword.Import ∷ keyword.Int ∷ keyword.Length ∷ keyword.Native ∷ keyword.New ∷ keyword.None ∷ keyword.Parent ∷ keyword.Property ∷ keyword.Return ∷ keyword.ScriptName ∷ keyword.SelfWord ∷ keyword.State ∷ keyword.String ∷ keyword.True ∷ keyword.While ∷ []

-- the keywords at their places
abbrev pub candidates : List (Option Keyword)
candidates = Some keyword.Return ∷ Some keyword.If ∷ None ∷ Some keyword.False ∷ None ∷ None ∷ Some keyword.As ∷ None ∷ Some keyword.Parent ∷ Some keyword.Property ∷ Some keyword.ScriptName ∷ None ∷ Some keyword.AutoReadOnly ∷ None ∷ None ∷ Some keyword.Native ∷ Some keyword.EndProperty ∷ Some keyword.True ∷ Some keyword.Float ∷ None ∷ None ∷ None ∷ Some keyword.Auto ∷ Some keyword.Int ∷ Some keyword.Function ∷ None ∷ Some keyword.Extends ∷ Some keyword.Import ∷ Some keyword.Else ∷ None ∷ Some keyword.Bool ∷ None ∷ Some keyword.EndState ∷ None ∷ None ∷ Some keyword.None ∷ None ∷ None ∷ None ∷ Some keyword.Event ∷ Some keyword.Length ∷ Some keyword.New ∷ Some keyword.While ∷ Some keyword.EndEvent ∷ None ∷ Some keyword.EndIf ∷ None ∷ None ∷ Some keyword.EndWhile ∷ Some keyword.ElseIf ∷ None ∷ None ∷ None ∷ None ∷ None ∷ Some keyword.SelfWord ∷ Some keyword.String ∷ Some keyword.Global ∷ None ∷ None ∷ None ∷ Some keyword.EndFunction ∷ Some keyword.State ∷ None ∷ []

entry_of : (k : Keyword) (d : Option Keyword) → get_or candidates (keyword_place (keyword_spelling k)) d ≡ Some k
entry_of keyword.As d = refl
entry_of keyword.Auto d = refl
entry_of keyword.AutoReadOnly d = refl
entry_of keyword.Bool d = refl
entry_of keyword.Else d = refl
entry_of keyword.ElseIf d = refl
entry_of keyword.EndEvent d = refl
entry_of keyword.EndFunction d = refl
entry_of keyword.EndIf d = refl
entry_of keyword.EndProperty d = refl
entry_of keyword.EndState d = refl
entry_of keyword.EndWhile d = refl
entry_of keyword.Event d = refl
entry_of keyword.Extends d = refl
entry_of keyword.False d = refl
entry_of keyword.Float d = refl
entry_of keyword.Function d = refl
entry_of keyword.Global d = refl
entry_of keyword.If d = refl
entry_of keyword.Import d = refl
entry_of keyword.Int d = refl
entry_of keyword.Length d = refl
entry_of keyword.Native d = refl
entry_of keyword.New d = refl
entry_of keyword.None d = refl
entry_of keyword.Parent d = refl
entry_of keyword.Property d = refl
entry_of keyword.Return d = refl
entry_of keyword.ScriptName d = refl
entry_of keyword.SelfWord d = refl
entry_of keyword.State d = refl
entry_of keyword.String d = refl
entry_of keyword.True d = refl
entry_of keyword.While d = refl

pub only_candidate : (entries : List (Option Keyword)) (word : List ℕ) (place : ℕ) (d : Option Keyword) (k : Keyword) → entries ≡ candidates → place ≡ keyword_place (folded word) → folded word ≡ keyword_spelling k → get_or entries place d ≡ Some k
only_candidate entries word place d k table is_place is_word =
    let there : place ≡ keyword_place (keyword_spelling k) = is_place ∙ ap keyword_place is_word in
    ap (λ (t : List (Option Keyword)). get_or t place d) table ∙ ap (λ (n : ℕ). get_or candidates n d) there ∙ entry_of k d

abbrev same_bytes : List ℕ → List ℕ → Bool
same_bytes [] [] = true
same_bytes (x ∷ xs) (y ∷ ys) = (x == y) && same_bytes xs ys
same_bytes [] (y ∷ ys) = false
same_bytes (x ∷ xs) [] = false

abbrev keyword_of : List ℕ → Option Keyword
keyword_of bytes = find (λ k. same_bytes bytes (keyword_spelling k)) keywords

keyword_of-spelling : (k : Keyword) → keyword_of (keyword_spelling k) ≡ Some k
keyword_of-spelling keyword.As = refl
keyword_of-spelling keyword.Auto = refl
keyword_of-spelling keyword.AutoReadOnly = refl
keyword_of-spelling keyword.Bool = refl
keyword_of-spelling keyword.Else = refl
keyword_of-spelling keyword.ElseIf = refl
keyword_of-spelling keyword.EndEvent = refl
keyword_of-spelling keyword.EndFunction = refl
keyword_of-spelling keyword.EndIf = refl
keyword_of-spelling keyword.EndProperty = refl
keyword_of-spelling keyword.EndState = refl
keyword_of-spelling keyword.EndWhile = refl
keyword_of-spelling keyword.Event = refl
keyword_of-spelling keyword.Extends = refl
keyword_of-spelling keyword.False = refl
keyword_of-spelling keyword.Float = refl
keyword_of-spelling keyword.Function = refl
keyword_of-spelling keyword.Global = refl
keyword_of-spelling keyword.If = refl
keyword_of-spelling keyword.Import = refl
keyword_of-spelling keyword.Int = refl
keyword_of-spelling keyword.Length = refl
keyword_of-spelling keyword.Native = refl
keyword_of-spelling keyword.New = refl
keyword_of-spelling keyword.None = refl
keyword_of-spelling keyword.Parent = refl
keyword_of-spelling keyword.Property = refl
keyword_of-spelling keyword.Return = refl
keyword_of-spelling keyword.ScriptName = refl
keyword_of-spelling keyword.SelfWord = refl
keyword_of-spelling keyword.State = refl
keyword_of-spelling keyword.String = refl
keyword_of-spelling keyword.True = refl
keyword_of-spelling keyword.While = refl

-- two keywords of one spelling are one
pub same_keyword : (j k : Keyword) → keyword_spelling j ≡ keyword_spelling k → j ≡ k
same_keyword j k e = let found : Some j ≡ Some k = sym (keyword_of-spelling j) ∙ ap keyword_of e ∙ keyword_of-spelling k in cc
