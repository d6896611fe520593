-- No call is to come exactly where as many have begun as there are.
use Rattle.std.proofs.Common.{◌≡◌, ℕ, suc, ◌+◌, ◌≤◌, Bool, true, false, cond, ◌&&◌, List, [], ◌∷◌, length, refl, sym, ap, ◌∙◌, arith, count_by}
use Rattle.std.specs.List.{list_all}
use Rattle.std.proofs.Math.Dec.{leb, ltb}
use Rattle.std.proofs.lemmas.Bool.Decides.{nat_tests}
use Rattle.std.proofs.lemmas.List.Sums.{count_by-le-length, sum_by-cons}
use Rattle.core_tree.specs.Scenes.{CallShape}
use Rattle.script_meaning.specs.Turns.{no_call_left}
use Rattle.script_meaning.specs.World.{World}
use Rattle.stack_places.specs.Ending.{calls_before}

count_cons : (p : CallShape → Bool) (x : CallShape) (xs : List CallShape) → count_by p (x ∷ xs) ≡ cond (p x) 1 0 + count_by p xs
count_cons p x xs = sum_by-cons (λ y. cond (p y) 1 0) x xs

all_counted_by : (here : Bool) (n c now : ℕ) (all : Bool) → now ≡ cond here 1 0 + c → c ≤ n → leb n c ≡ all → leb (suc n) now ≡ here && all
all_counted_by true n c now all e l h = grind (arith, nat_tests)
all_counted_by false n c now all e l h = grind (arith, nat_tests)

all_counted : (p : CallShape → Bool) (xs : List CallShape) → leb (length xs) (count_by p xs) ≡ list_all p xs
all_counted p [] = refl
all_counted p (x ∷ xs) =
    all_counted_by (p x) (length xs) (count_by p xs) (count_by p (x ∷ xs)) (list_all p xs) (count_cons p x xs) (count_by-le-length p xs) (all_counted p xs)

-- so many have begun before this turn of a world
pub none_left : (calls : List CallShape) (world : World) (many started turn : ℕ) → many ≡ length calls → started ≡ calls_before turn calls → world.turn ≡ turn → leb many started ≡ no_call_left calls world
none_left calls world many started turn m b t =
    ap (λ n. leb n started) m ∙ (ap (λ n. leb (length calls) n) b ∙ (ap (λ n. leb (length calls) (calls_before n calls)) (sym t) ∙ all_counted (λ c. ltb c.turn world.turn) calls))
