-- The text of some lines, one after another.
use Rattle.std.proofs.Common.{◌≡◌, ℕ, ◌+◌, ◌<◌, ◌≤◌, List, [], ◌∷◌, ◌++◌, length, take, get_or, map, append_assoc, sym, ap, ◌∙◌, arith}
use Rattle.std.specs.Prelude.{codes}
use Rattle.std.proofs.lemmas.List.{map-append, take_more, take_all}
use Rattle.std.proofs.lemmas.List.Concat.{flat_map-append}
use Rattle.std.proofs.lemmas.List.{append-nil}
use Rattle.run_replay.specs.Lines.{JournalLine, Heading, Instance, Turn, Moved, ended_line, journal_text}
use Rattle.run_replay.specs.declared.lock_move.LockMove.{LockMove}

-- one line more
pub one_more : {X : Type 0} (line : X → JournalLine) (first : JournalLine) (xs : List X) (i : ℕ) (d : X) → i < length xs → journal_text (first ∷ map line (take (i + 1) xs)) ≡ journal_text (first ∷ map line (take i xs)) ++ ended_line (line (get_or xs i d))
one_more {X = X} line first xs i d inside =
    let lines = first ∷ map line (take i xs) in
    let last = line (get_or xs i d) in
    ap (λ (ys : List X). journal_text (first ∷ map line ys)) (take_more xs i d inside)
    ∙ ap (λ (ls : List JournalLine). journal_text (first ∷ ls)) (map-append line (take i xs) (get_or xs i d ∷ []))
    ∙ flat_map-append ended_line lines (last ∷ [])
    ∙ ap (λ (t : List ℕ). journal_text lines ++ t) (append-nil (ended_line last))

-- the name of one instance more
pub named_more : (names items : List (List ℕ)) (i : ℕ) (text one two three name bytes : List ℕ) → items ≡ names → i < length items → name ≡ get_or items i name → bytes ≡ name → text ≡ journal_text (Heading ∷ map Instance (take i names)) → one ≡ text ++ codes "instance " → two ≡ one ++ bytes → three ≡ two ++ 10 ∷ [] → three ≡ journal_text (Heading ∷ map Instance (take (i + 1) names))
named_more names items i text one two three name bytes whole inside item same so_far e1 e2 e3 =
    let joined : three ≡ text ++ (codes "instance " ++ (bytes ++ 10 ∷ [])) =
    e3 ∙ ap (λ (t : List ℕ). t ++ 10 ∷ []) (e2 ∙ ap (λ (t : List ℕ). t ++ bytes) e1)
    ∙ append_assoc (text ++ codes "instance ") bytes (10 ∷ []) ∙ append_assoc text (codes "instance ") (bytes ++ 10 ∷ []) in
    let line : text ++ (codes "instance " ++ (bytes ++ 10 ∷ [])) ≡ text ++ ended_line (Instance (get_or names i name)) =
    ap (λ (n : List ℕ). text ++ (codes "instance " ++ (n ++ 10 ∷ []))) (same ∙ item ∙ ap (λ (ns : List (List ℕ)). get_or ns i name) whole) in
    joined ∙ line ∙ ap (λ (t : List ℕ). t ++ ended_line (Instance (get_or names i name))) so_far ∙ sym (one_more Instance Heading names i name (omega (arith, ap length whole)))

-- all lines
pub all_lines : {X : Type 0} (line : X → JournalLine) (first : JournalLine) (xs ys : List X) (i : ℕ) (text : List ℕ) → ys ≡ xs → length ys ≤ i → text ≡ journal_text (first ∷ map line (take i xs)) → text ≡ journal_text (first ∷ map line xs)
all_lines {X = X} line first xs ys i text same past so_far =
    so_far ∙ ap (λ (zs : List X). journal_text (first ∷ map line zs)) (take_all i xs (omega (arith, ap length same)))

pub first_line : (turn : ℕ) (text : List ℕ) → text ≡ ended_line (Turn turn) → text ≡ journal_text (Turn turn ∷ [])
first_line turn text is = is ∙ sym (append-nil (ended_line (Turn turn)))

-- the text of one move more
pub moved_more : (turn : ℕ) (moves items : List LockMove) (i : ℕ) (text line more : List ℕ) (d : LockMove) → items ≡ moves → i < length items → line ≡ ended_line (Moved (get_or items i d)) → text ≡ journal_text (Turn turn ∷ map Moved (take i moves)) → more ≡ text ++ line → more ≡ journal_text (Turn turn ∷ map Moved (take (i + 1) moves))
moved_more turn moves items i text line more d same inside is so_far added =
    let here : line ≡ ended_line (Moved (get_or moves i d)) = is ∙ ap (λ (ms : List LockMove). ended_line (Moved (get_or ms i d))) same in
    added ∙ ap (λ (t : List ℕ). t ++ line) so_far ∙ ap (λ (t : List ℕ). journal_text (Turn turn ∷ map Moved (take i moves)) ++ t) here
    ∙ sym (one_more Moved (Turn turn) moves i d (omega (arith, ap length same)))
