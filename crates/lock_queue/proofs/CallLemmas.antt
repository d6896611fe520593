-- The parts of the locks agree after each call, of what the code read and wrote.
use Rattle.std.proofs.Common.{◌≡◌, ℕ, ◌*◌, ◌<◌, ◌≤◌, List, [], ◌∷◌, ◌++◌, length, replicate, Option, Some, None, is_none, ◌&&◌, Bool, true, false, cond, eqb, sym, refl, ap, subst, ◌∙◌}
use Rattle.std.proofs.Math.ListN.{set}
use Rattle.lock_queue.specs.declared.seat.Seat.{Seat}
use Rattle.lock_queue.specs.declared.seat.Seat.TheVariants.{Resting, Free, Waits, Holds}
use Rattle.lock_queue.specs.Links.{link_at, without, first_of}
use Rattle.lock_queue.specs.Order.{Sequence}
use Rattle.lock_queue.specs.Queues.{Lines, queue_at}
use Rattle.lock_queue.specs.Ready.{is_member}
use Rattle.lock_queue.specs.LockTable.{seat_at, is_first, is_some_of, IsIdle}
use Rattle.lock_queue.specs.Agreement.{Agree}
use Rattle.lock_queue.proofs.TransitionLemmas.{Agree-idle, Agree-join, Agree-take, Agree-release, Agree-resting}

pub joined : (seats : List Seat) (owners : List (Option ℕ)) (order order' : Sequence) (queues queues' : Lines) (words words' : List ℕ) (k i place : ℕ) (b : Bool) → Agree seats owners order queues words → k < length seats → i < length owners → IsIdle (seat_at seats k) → b ≡ is_none (link_at owners i) && is_none (first_of (queue_at queues.lists i)) → length words' ≡ length words → ((j : ℕ) → is_member words' j ≡ cond (eqb j k) b (is_member words j)) → place ≡ k → order' ≡ record order { stacks = order.stacks ++ k ∷ [] } → queues' ≡ record queues { lists = set queues.lists i (queue_at queues.lists i ++ k ∷ []) } → Agree (set seats place (Waits i)) owners order' queues' words'
joined seats owners order order' queues queues' words words' k i place b agree k_in i_in idle b_is room members place_is order_is queues_is =
    let P : ℕ → Type 0 = λ p. Agree (set seats p (Waits i)) owners order' queues' words' in
    let Q : Sequence → Type 0 = λ o. Agree (set seats k (Waits i)) owners o queues' words' in
    let R : Lines → Type 0 = λ q. Agree (set seats k (Waits i)) owners (record order { stacks = order.stacks ++ k ∷ [] }) q words' in
    subst P (sym place_is) (subst Q (sym order_is) (subst R (sym queues_is) (Agree-join seats owners order queues words words' k i b agree k_in i_in idle b_is room members)))

pub taken : (seats : List Seat) (owners : List (Option ℕ)) (order order' : Sequence) (queues queues' : Lines) (words : List ℕ) (k i place owner : ℕ) → Agree seats owners order queues words → k < length seats → i < length owners → seat_at seats k ≡ Waits i → is_none (link_at owners i) && is_first k (queue_at queues.lists i) ≡ true → place ≡ k → owner ≡ i → order' ≡ record order { stacks = without order.stacks k } → queues' ≡ record queues { lists = set queues.lists i (without (queue_at queues.lists i) k) } → Agree (set seats place (Holds i)) (set owners owner (Some k)) order' queues' words
taken seats owners order order' queues queues' words k i place owner agree k_in i_in seat may place_is owner_is order_is queues_is =
    let P : ℕ → Type 0 = λ p. Agree (set seats p (Holds i)) (set owners owner (Some k)) order' queues' words in
    let Q : ℕ → Type 0 = λ o. Agree (set seats k (Holds i)) (set owners o (Some k)) order' queues' words in
    let R : Sequence → Type 0 = λ o. Agree (set seats k (Holds i)) (set owners i (Some k)) o queues' words in
    let S : Lines → Type 0 = λ q. Agree (set seats k (Holds i)) (set owners i (Some k)) (record order { stacks = without order.stacks k }) q words in
    subst P (sym place_is) (subst Q (sym owner_is) (subst R (sym order_is) (subst S (sym queues_is) (Agree-take seats owners order queues words k i agree k_in i_in seat may))))

pub released : (seats : List Seat) (owners : List (Option ℕ)) (order : Sequence) (queues : Lines) (words between words' : List ℕ) (k i place owner : ℕ) (first : Option ℕ) → Agree seats owners order queues words → k < length seats → seat_at seats k ≡ Holds i → length words' ≡ length words → ((j : ℕ) → is_member between j ≡ cond (eqb j k) false (is_member words j)) → ((j : ℕ) → is_member words' j ≡ cond (is_some_of j first) true (is_member between j)) → first ≡ first_of (queue_at queues.lists i) → place ≡ k → owner ≡ i → Agree (set seats place Resting) (set owners owner None) order queues words'
released seats owners order queues words between words' k i place owner first agree k_in seat room taken_out put_in first_is place_is owner_is =
    let P : ℕ → Type 0 = λ p. Agree (set seats p Resting) (set owners owner None) order queues words' in
    let Q : ℕ → Type 0 = λ o. Agree (set seats k Resting) (set owners o None) order queues words' in
    subst P (sym place_is) (subst Q (sym owner_is) (Agree-release seats owners order queues words words' k i agree k_in seat room
    (λ j. put_in j ∙ ap (λ o. cond (is_some_of j o) true (is_member between j)) first_is ∙ ap (cond (is_some_of j (first_of (queue_at queues.lists i))) true) (taken_out j))))

pub freed : (seats : List Seat) (owners : List (Option ℕ)) (order : Sequence) (queues : Lines) (words words' : List ℕ) (k place : ℕ) → Agree seats owners order queues words → k < length seats → IsIdle (seat_at seats k) → length words' ≡ length words → ((j : ℕ) → is_member words' j ≡ cond (eqb j k) true (is_member words j)) → place ≡ k → Agree (set seats place Free) owners order queues words'
freed seats owners order queues words words' k place agree k_in idle room members place_is =
    let P : ℕ → Type 0 = λ p. Agree (set seats p Free) owners order queues words' in
    subst P (sym place_is) (Agree-idle seats owners order queues words words' k Free true agree k_in idle (refl, refl) (λ i e. cc) (λ i e. cc) refl room members)

pub rested : (seats : List Seat) (owners : List (Option ℕ)) (order : Sequence) (queues : Lines) (words words' : List ℕ) (k place : ℕ) → Agree seats owners order queues words → k < length seats → IsIdle (seat_at seats k) → length words' ≡ length words → ((j : ℕ) → is_member words' j ≡ cond (eqb j k) false (is_member words j)) → place ≡ k → Agree (set seats place Resting) owners order queues words'
rested seats owners order queues words words' k place agree k_in idle room members place_is =
    let P : ℕ → Type 0 = λ p. Agree (set seats p Resting) owners order queues words' in
    subst P (sym place_is) (Agree-idle seats owners order queues words words' k Resting false agree k_in idle (refl, refl) (λ i e. cc) (λ i e. cc) refl room members)

pub made : (seats : List Seat) (owners : List (Option ℕ)) (order : Sequence) (queues : Lines) (words : List ℕ) (stacks instances : ℕ) → seats ≡ replicate stacks Resting → owners ≡ replicate instances None → stacks < 65536 → stacks ≤ 64 * length words → ((j : ℕ) → is_member words j ≡ false) → order ≡ record { room = stacks; stacks = [] } → queues ≡ record { room = stacks; lists = replicate instances [] } → Agree seats owners order queues words
made seats owners order queues words stacks instances seats_are owners_are bounded room empty order_is queues_is =
    let P : List Seat → Type 0 = λ s. Agree s owners order queues words in
    let Q : List (Option ℕ) → Type 0 = λ o. Agree (replicate stacks Resting) o order queues words in
    subst P (sym seats_are) (subst Q (sym owners_are) (Agree-resting stacks instances words order queues bounded room empty order_is queues_is))
