-- The heads of a set's scripts, and the functions of their empty states.
use Rattle.std.proofs.Common.{◌≡◌, ◌+◌, ◌<◌, ℕ, Bool, true, false, List, [], ◌∷◌, ◌++◌, length, map, take, filter, refl, sym, ap, ◌∙◌, arith, slice_index_or, subst, append_assoc}
use Rattle.std.specs.List.{All, last_or}
use Rattle.std.specs.Prelude.{Option, None, Some}
use Rattle.std.proofs.lemmas.List.{append-nil, length-map, map-append, take_more}
use Rattle.std.proofs.lemmas.List.Elements.{All-push, All-same, filter-append}
use Rattle.line_parser.specs.declared.tree.Parameter.{Parameter}
use Rattle.script_linker.proofs.GeneratedLemmas.{Pairwise-append}
use Rattle.script_linker.specs.Generated.{Pairwise}
use Rattle.core_tree.specs.declared.core_type.CoreType.{CoreType}
use Rattle.core_tree.specs.declared.script.CoreFunction.{CoreFunction}
use Rattle.core_tree.specs.declared.script.CoreScript.{CoreScript}
use Rattle.core_tree.specs.declared.script.CoreState.{CoreState}
use Rattle.core_tree.specs.InRange.{ScriptInRange, Signature, Signatures}
use Rattle.core_tree.specs.InRange.{signature_of as core_signature, signatures as core_signatures}
use Rattle.core_tree.specs.Set.{empty_functions, empty_functions_of, function_of, script_of, state_of}
use Rattle.script_linker.specs.declared.set.SourceFile.{SourceFile}
use Rattle.script_parser.specs.declared.script.Function.{Function}
use Rattle.script_parser.specs.declared.script.State.{State}
use Rattle.type_scope.specs.Types.{file_signatures, signature_of, signatures, type_named}
use Rattle.type_rules.specs.Heads.{FunctionHead, ScriptHead, StateHead, core_function_head, core_script_head, core_state_head, function_head, parameter_type, script_head, state_head}
use Rattle.type_rules.specs.Ranges.{known}

-- ---- one thing more

-- heads of things in order, where one more is made of the next
pub heads-push : {X Y H : Type 0} (core : Y → H) (head : X → H) (xs : List X) (n : ℕ) (found all : List Y) (made : Y) → all ≡ found ++ made ∷ [] → map core found ≡ map head (take n xs) → n < length xs →
    ((x : X) → core made ≡ head (slice_index_or xs n x)) → map core all ≡ map head (take (n + 1) xs)
heads-push core head [] n found all made pushed so_far within is = absurd (omega arith)
heads-push {X} {Y} {H} core head (first ∷ rest) n found all made pushed so_far within is =
    ap (map core) pushed
    ∙ map-append core found (made ∷ [])
    ∙ ap (λ (heads : List H). heads ++ core made ∷ []) so_far
    ∙ ap (λ (h : H). map head (take n (first ∷ rest)) ++ h ∷ []) (is first)
    ∙ sym (map-append head (take n (first ∷ rest)) (slice_index_or (first ∷ rest) n first ∷ []))
    ∙ ap (map head) (sym (take_more (first ∷ rest) n first within))

-- the same where the next thing is at hand
pub heads-next : {X Y H : Type 0} (core : Y → H) (head : X → H) (xs : List X) (n : ℕ) (found all : List Y) (made : Y) (x : X) → all ≡ found ++ made ∷ [] → map core found ≡ map head (take n xs) → n < length xs →
    x ≡ slice_index_or xs n x → core made ≡ head x → map core all ≡ map head (take (n + 1) xs)
heads-next {X} {Y} {H} core head xs n found all made x pushed so_far within is made_is =
    ap (map core) pushed
    ∙ map-append core found (made ∷ [])
    ∙ ap (λ (heads : List H). heads ++ core made ∷ []) so_far
    ∙ ap (λ (h : H). map head (take n xs) ++ h ∷ []) (made_is ∙ ap head is)
    ∙ sym (map-append head (take n xs) (slice_index_or xs n x ∷ []))
    ∙ ap (map head) (sym (take_more xs n x within))

-- pairs in order, where the next thing of the first list has one more beside it
pub pairs-push : {X Y : Type 0} (R : X → Y → Type 0) (xs : List X) (n : ℕ) (found all : List Y) (made : Y) → all ≡ found ++ made ∷ [] → Pairwise R (take n xs) found → n < length xs →
    ((x : X) → R (slice_index_or xs n x) made) → Pairwise R (take (n + 1) xs) all
pairs-push R [] n found all made pushed so_far within is = absurd (omega arith)
pairs-push {X} {Y} R (first ∷ rest) n found all made pushed so_far within is =
    let both = Pairwise-append R (take n (first ∷ rest)) found (slice_index_or (first ∷ rest) n first ∷ []) (made ∷ []) so_far (is first, tt) in
    let behind = subst (λ (ys : List Y). Pairwise R (take n (first ∷ rest) ++ slice_index_or (first ∷ rest) n first ∷ []) ys) (sym pushed) both in
    subst (λ (xs : List X). Pairwise R xs all) (sym (take_more (first ∷ rest) n first within)) behind

pub scripts-push : (functions : Signatures) (scripts all : List CoreScript) (made : CoreScript) → all ≡ scripts ++ made ∷ [] → All (ScriptInRange functions) (map script_of scripts) →
    ScriptInRange functions (script_of made) → All (ScriptInRange functions) (map script_of all)
scripts-push functions scripts all made pushed so_far here =
    All-same (ScriptInRange functions) (map script_of all) (map script_of scripts ++ script_of made ∷ []) (ap (map script_of) pushed ∙ map-append script_of scripts (made ∷ []))
    (All-push (ScriptInRange functions) (map script_of scripts) (script_of made) so_far here)

-- ---- the functions that the empty state has

head_signature : FunctionHead → Signature
head_signature head = record { name = head.name; parameters = length head.parameters }

first_signatures : List StateHead → List Signature
first_signatures [] = []
first_signatures (empty ∷ named) = map head_signature empty.functions

functions-core : (functions : List CoreFunction) → map head_signature (map core_function_head functions) ≡ map core_signature (map function_of functions)
unfolding head_signature
functions-core [] = refl
functions-core (f ∷ rest) = ap (λ (ss : List Signature). core_signature (function_of f) ∷ ss) (functions-core rest)

functions-files : (set : List SourceFile) (functions : List Function) → map head_signature (map (function_head set) functions) ≡ map (λ f. signature_of f.heading) functions
unfolding head_signature
functions-files set [] = refl
functions-files set (f ∷ rest) =
    ap (λ (n : ℕ). record { name = f.heading.name; parameters = n } ∷ map head_signature (map (function_head set) rest)) (length-map f.heading.parameters.items (parameter_type set))
    ∙ ap (λ (ss : List Signature). signature_of f.heading ∷ ss) (functions-files set rest)

first-core : (states : List CoreState) → first_signatures (map core_state_head states) ≡ map core_signature (empty_functions_of (map state_of states))
unfolding first_signatures
first-core [] = refl
first-core (empty ∷ named) = functions-core empty.functions.items

scripts-core : (scripts : List CoreScript) → map (λ (h : ScriptHead). first_signatures h.states) (map core_script_head scripts) ≡ core_signatures (map script_of scripts)
scripts-core [] = refl
scripts-core (script ∷ rest) =
    ap (λ (ss : List Signature). ss ∷ map (λ (h : ScriptHead). first_signatures h.states) (map core_script_head rest)) (first-core script.states.items)
    ∙ ap (λ (sss : Signatures). map core_signature (empty_functions (script_of script)) ∷ sss) (scripts-core rest)

scripts-files : (set files : List SourceFile) → map (λ (h : ScriptHead). first_signatures h.states) (map (script_head set) files) ≡ signatures files
unfolding first_signatures
scripts-files set [] = refl
scripts-files set (file ∷ rest) =
    ap (λ (ss : List Signature). ss ∷ map (λ (h : ScriptHead). first_signatures h.states) (map (script_head set) rest)) (functions-files set file.script.functions.items)
    ∙ ap (λ (sss : Signatures). file_signatures file ∷ sss) (scripts-files set rest)

same_signatures : (set files : List SourceFile) (scripts : List CoreScript) → map core_script_head scripts ≡ map (script_head set) files → signatures files ≡ core_signatures (map script_of scripts)
same_signatures set files scripts heads =
    sym (scripts-files set files)
    ∙ ap (map (λ (h : ScriptHead). first_signatures h.states)) (sym heads)
    ∙ scripts-core scripts

pub set-in_range : (set files : List SourceFile) (scripts : List CoreScript) → map core_script_head scripts ≡ map (script_head set) files → All (ScriptInRange (signatures files)) (map script_of scripts) →
    All (ScriptInRange (core_signatures (map script_of scripts))) (map script_of scripts)
set-in_range set files scripts heads all =
    subst (λ (functions : Signatures). All (ScriptInRange functions) (map script_of scripts)) (same_signatures set files scripts heads) all

-- ---- one state more

-- the same behind the head of the empty state
pub states-push : (set : List SourceFile) (states : List State) (n : ℕ) (first : StateHead) (found all : List CoreState) (made : CoreState) (state : State) → all ≡ found ++ made ∷ [] →
    map core_state_head found ≡ first ∷ map (state_head set) (take n states) → n < length states → state ≡ slice_index_or states n state → core_state_head made ≡ state_head set state →
    map core_state_head all ≡ first ∷ map (state_head set) (take (n + 1) states)
states-push set states n first found all made state pushed so_far within is made_is =
    let next : map (state_head set) (take (n + 1) states) ≡ map (state_head set) (take n states) ++ state_head set state ∷ [] =
    ap (map (state_head set)) (take_more states n state within)
    ∙ map-append (state_head set) (take n states) (slice_index_or states n state ∷ [])
    ∙ ap (λ (s : State). map (state_head set) (take n states) ++ state_head set s ∷ []) (sym is) in
    ap (map core_state_head) pushed
    ∙ map-append core_state_head found (made ∷ [])
    ∙ ap (λ (heads : List StateHead). heads ++ core_state_head made ∷ []) so_far
    ∙ ap (λ (head : StateHead). first ∷ (map (state_head set) (take n states) ++ head ∷ [])) made_is
    ∙ ap (λ (heads : List StateHead). first ∷ heads) (sym next)

-- ---- the last thing of a kind

last-append : {X : Type 0} (found : Option X) (xs : List X) (x : X) → last_or found (xs ++ x ∷ []) ≡ Some x
last-append found [] x = refl
last-append found (y ∷ ys) x = last-append (Some y) ys x

-- the last of the things that the test picks, where the next is one of them
pub last-more : {X : Type 0} (p : X → Bool) (xs : List X) (n : ℕ) (x : X) → n < length xs → x ≡ slice_index_or xs n x → p x ≡ true → last_or None (filter p (take (n + 1) xs)) ≡ Some x
last-more {X} p xs n x within is picked =
    ap (λ (ys : List X). last_or None (filter p ys)) (take_more xs n x within)
    ∙ ap (λ (y : X). last_or None (filter p (take n xs ++ y ∷ []))) (sym is)
    ∙ ap (last_or None) (filter-append p (take n xs) (x ∷ []))
    ∙ rw picked (last-append None (filter p (take n xs)) x)

-- where it is none of them
pub last-same : {X : Type 0} (p : X → Bool) (xs : List X) (n : ℕ) (x : X) → n < length xs → x ≡ slice_index_or xs n x → p x ≡ false → last_or None (filter p (take (n + 1) xs)) ≡ last_or None (filter p (take n xs))
last-same {X} p xs n x within is left =
    ap (λ (ys : List X). last_or None (filter p ys)) (take_more xs n x within)
    ∙ ap (λ (y : X). last_or None (filter p (take n xs ++ y ∷ []))) (sym is)
    ∙ ap (last_or None) (filter-append p (take n xs) (x ∷ []))
    ∙ rw left (ap (last_or None) (append-nil (filter p (take n xs))))

-- ---- one parameter more

pub parameters-push : (set : List SourceFile) (parameters : List Parameter) (n : ℕ) (first : List CoreType) (found all : List (Option CoreType)) (parameter : Parameter) → n < length parameters → parameter ≡ slice_index_or parameters n parameter →
    all ≡ found ++ type_named set parameter.kind ∷ [] → map known found ≡ first ++ map (parameter_type set) (take n parameters) → map known all ≡ first ++ map (parameter_type set) (take (n + 1) parameters)
parameters-push set parameters n first found all parameter within is pushed so_far =
    let before : List CoreType = map (parameter_type set) (take n parameters) in
    let joined : (first ++ before) ++ parameter_type set parameter ∷ [] ≡ first ++ (before ++ parameter_type set parameter ∷ []) = simp append_assoc in
    let next : map (parameter_type set) (take (n + 1) parameters) ≡ before ++ parameter_type set parameter ∷ [] =
    ap (map (parameter_type set)) (take_more parameters n parameter within)
    ∙ map-append (parameter_type set) (take n parameters) (slice_index_or parameters n parameter ∷ [])
    ∙ ap (λ (p : Parameter). before ++ parameter_type set p ∷ []) (sym is) in
    ap (map known) pushed
    ∙ map-append known found (type_named set parameter.kind ∷ [])
    ∙ ap (λ (types : List CoreType). types ++ parameter_type set parameter ∷ []) so_far
    ∙ joined
    ∙ ap (λ (types : List CoreType). first ++ types) (sym next)
