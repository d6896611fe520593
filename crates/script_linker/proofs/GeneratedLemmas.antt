-- Which members a script is given, one after the other.
use Rattle.std.proofs.Common.{ℕ, suc, ◌≡◌, ◌+◌, ◌<◌, ◌≤◌, Bool, true, false, List, [], ◌∷◌, ◌++◌, ◌||◌, cond, map, length, take, drop, get_or, set, Option, Some, None, filter, is_some, sym, ap, subst, ◌∙◌, ⊎_elim, refl, arith, rules, All}
use Rattle.std.proofs.lemmas.List.{get_or_default, get_or-set_same, get_or-set_other, map_more, take-append-le, take_all}
use Rattle.std.proofs.lemmas.List.Elements.{All-cons, All-nil, filter-append}
use Rattle.std.specs.List.{AllByRecursion}
use Rattle.std.proofs.lemmas.Bool.{cases_lt, cond-true}
use Rattle.std.proofs.Math.Seq.{drop-append_seam, drop-length}
use Rattle.script_parser.specs.declared.script.Function.{Function}
use Rattle.script_linker.specs.declared.set.SourceFile.{SourceFile}
use Rattle.script_linker.specs.Lookup.{HasSmallScript, StartsWithPrelude, script_name, script_parent}
use Rattle.script_linker.specs.Generated.{IsStandard, standard_scripts, AreMembers, AreStandard, HasGiven, HaveGiven, IsMember, Member, Pairwise, given_to, Standard, is_lacking, lacking, state_members}
use Rattle.script_linker.specs.Rows.{lacking_among, member_of, standard_of}
use Rattle.papy_base.specs.declared.prelude.StandardFunction.{StandardFunction}
use Rattle.papy_base.specs.declared.prelude.StandardScript.{StandardScript}

pub Pairwise-append : {X Y : Type 0} (R : X → Y → Type 0) (xs : List X) (ys : List Y) (vs : List X) (ws : List Y) → Pairwise R xs ys → Pairwise R vs ws → Pairwise R (xs ++ vs) (ys ++ ws)
Pairwise-append R [] [] vs ws front back = back
Pairwise-append R [] (y ∷ ys) vs ws front back = absurd front
Pairwise-append R (x ∷ xs) [] vs ws front back = absurd front
Pairwise-append R (x ∷ xs) (y ∷ ys) vs ws front back = (front.0, Pairwise-append R xs ys vs ws front.1 back)

-- those of made functions whose names the functions lack
abbrev pub made_for : List Function → Function → List Function
made_for functions one = filter (λ made. is_lacking functions made.heading.name) (one ∷ [])

either : (b : Bool) (member : Member) (made : Function) → IsMember member made → AreMembers (cond b (member ∷ []) []) (cond b (made ∷ []) [])
either true member made is = (is, tt)
either false member made is = tt

AreMembers-one : (functions : List Function) (member : Member) (made : Function) → IsMember member made → AreMembers (lacking_among (member ∷ []) functions) (made_for functions made)
AreMembers-one functions member made is =
    subst (λ name. AreMembers (lacking_among (member ∷ []) functions) (cond (is_lacking functions name) (made ∷ []) [])) (sym is.name) (either (is_lacking functions member.name) member made is)

AreMembers-more : (functions : List Function) (members : List Member) (before after : List Function) (member : Member) (made : Function) → AreMembers (lacking_among members functions) before → after ≡ before ++ made_for functions made
    → IsMember member made → AreMembers (lacking_among (members ++ member ∷ []) functions) after
AreMembers-more functions members before after member made done added is =
    let both = Pairwise-append IsMember (lacking_among members functions) before (lacking_among (member ∷ []) functions) (made_for functions made) done (AreMembers-one functions member made is) in
    let p : Member → Bool = λ m. is_lacking functions m.name in
    let wanted = subst (λ ms. AreMembers ms (before ++ made_for functions made)) (sym (filter-append p members (member ∷ []))) both in
    subst (AreMembers (lacking_among (members ++ member ∷ []) functions)) (sym added) wanted

-- so do those of one more row
pub lacking-more : (functions : List Function) (rows : List StandardFunction) (i : ℕ) (row : StandardFunction) (before after : List Function) (made : Function) → i < length rows → AreMembers (lacking_among (map member_of (take i rows)) functions) before
    → after ≡ before ++ made_for functions made → IsMember (member_of (get_or rows i row)) made → AreMembers (lacking_among (map member_of (take (i + 1) rows)) functions) after
lacking-more functions rows i row before after made inside done added is =
    subst (λ members. AreMembers (lacking_among members functions) after) (sym (map_more member_of rows i row inside)) (AreMembers-more functions (map member_of (take i rows)) before after (member_of (get_or rows i row)) made done added is)

-- no functions lack every member
pub lacking-all : (members : List Member) → lacking_among members [] ≡ members
lacking-all [] = refl
lacking-all (member ∷ members) = ap (λ (rest : List Member). member ∷ rest) (lacking-all members)

-- a library and a script with a parent have the functions of their rows
pub own_members : (row : StandardScript) → (row.is_library || is_some row.parent) ≡ true → lacking_among (map member_of row.functions.now) [] ≡ (standard_of row).members
own_members row own =
    lacking-all (map member_of row.functions.now) ∙ sym (cond-true (row.is_library || is_some row.parent) (map member_of row.functions.now) state_members own)

-- ---- one file

pub given-added : (parent : Option (List ℕ)) (own after added : List Function) → is_some parent ≡ false → after ≡ own ++ added → AreMembers (lacking own) added → AreMembers (given_to parent own) (drop (length own) after)
given-added (Some parent) own after added orphan functions are = absurd (cc)
given-added None own after added orphan functions are =
    let rest : drop (length own) after ≡ added = ap (drop (length own)) functions ∙ drop-append_seam own added in
    subst (AreMembers (lacking own)) (sym rest) are

pub given-kept : (parent : Option (List ℕ)) (own : List Function) → is_some parent ≡ true → AreMembers (given_to parent own) (drop (length own) own)
given-kept None own child = absurd (cc)
given-kept (Some parent) own child = subst (AreMembers []) (sym (drop-length own)) tt

-- ---- all files

-- the files below a number are completed, and the others are as they were
pub record HaveGivenBelow (number : ℕ) (old new : List SourceFile) : Type 0 where
  pub done : (n : ℕ) (file : SourceFile) → n < number → HasGiven (get_or old n file) (get_or new n file)
  pub rest : (n : ℕ) (file : SourceFile) → number ≤ n → get_or new n file ≡ get_or old n file

pub HaveGivenBelow-more : (old new : List SourceFile) (i : ℕ) (before after : SourceFile) → HaveGivenBelow i old new → i < length new → before ≡ get_or new i before → HasGiven before after → HaveGivenBelow (i + 1) old (set new i after)
HaveGivenBelow-more old new i before after below inside is step = record {
  done = λ n d l.
      ⊎_elim
      (λ (less : n < i).
      let kept : get_or (set new i after) n d ≡ get_or new n d = get_or-set_other new i n after d (omega arith) in
      subst (λ file. HasGiven (get_or old n d) file) (sym kept) (below.done n d less))
      (λ (more : i ≤ n).
      let same : n ≡ i = omega arith in
      let was : get_or old n d ≡ before =
      sym (below.rest n d more) ∙ ap (λ k. get_or new k d) same ∙ get_or_default new i d before inside ∙ sym is in
      let now : get_or (set new i after) n d ≡ after =
      ap (λ k. get_or (set new i after) k d) same ∙ get_or-set_same new i after d inside in
      subst (λ file. HasGiven file (get_or (set new i after) n d)) (sym was) (subst (HasGiven before) (sym now) step))
      (cases_lt n i);
  rest = λ n d g. get_or-set_other new i n after d (omega arith) ∙ below.rest n d (omega arith);
}

-- the first six of the files behind the prelude's are the prelude's
pub AreStandard-first : (standard : List Standard) (prelude files set : List SourceFile) → length prelude ≡ 6 → set ≡ prelude ++ files → AreStandard standard prelude → AreStandard standard (take 6 set)
AreStandard-first standard prelude files set six is are =
    let front : take 6 set ≡ prelude = ap (take 6) is ∙ take-append-le 6 prelude files (omega (arith, six)) ∙ take_all 6 prelude (omega (arith, six)) in
    subst (AreStandard standard) (sym front) are

pub HaveGivenBelow-none : (files : List SourceFile) → HaveGivenBelow 0 files files
HaveGivenBelow-none files = record {
  done = λ n d l. absurd (omega arith);
  rest = λ n d g. refl;
}

pub HaveGiven-all : (number : ℕ) (old new : List SourceFile) → length old ≤ number → HaveGivenBelow number old new → HaveGiven old new
HaveGiven-all number old new all below = λ n file l. below.done n file (omega arith)

pub Pairwise-length : {X Y : Type 0} (R : X → Y → Type 0) (xs : List X) (ys : List Y) → Pairwise R xs ys → length ys ≡ length xs
Pairwise-length R [] [] pairs = refl
Pairwise-length R [] (y ∷ ys) pairs = absurd pairs
Pairwise-length R (x ∷ xs) [] pairs = absurd pairs
Pairwise-length R (x ∷ xs) (y ∷ ys) pairs = ap suc (Pairwise-length R xs ys pairs.1)

pub Pairwise-map : {X Y Z : Type 0} (R : X → Y → Type 0) (f : X → Z) (g : Y → Z) → ((x : X) (y : Y) → R x y → g y ≡ f x) → (xs : List X) (ys : List Y) → Pairwise R xs ys → map g ys ≡ map f xs
Pairwise-map R f g same [] [] pairs = refl
Pairwise-map R f g same [] (y ∷ ys) pairs = absurd pairs
Pairwise-map R f g same (x ∷ xs) [] pairs = absurd pairs
Pairwise-map R f g same (x ∷ xs) (y ∷ ys) pairs =
    let head = same x y pairs.0 in
    let tail = Pairwise-map R f g same xs ys pairs.1 in
    cc

abbrev pub row_name : Standard → List ℕ
row_name row = row.name

abbrev pub row_parent : Standard → Option (List ℕ)
row_parent row = row.parent

-- the names and parents of the standard scripts
pub StartsWithPrelude-standard : (files : List SourceFile) → AreStandard standard_scripts files → StartsWithPrelude files
StartsWithPrelude-standard files are =
    let six : length files ≡ 6 = Pairwise-length IsStandard standard_scripts files are in
    let whole : take 6 files ≡ files = take_all 6 files (omega (arith, six)) in
    record {
      count = omega (arith, six);
      names = ap (map script_name) whole ∙ Pairwise-map IsStandard row_name script_name (λ row file is. is.name) standard_scripts files are;
      parents = ap (map script_parent) whole ∙ Pairwise-map IsStandard row_parent script_parent (λ row file is. is.parent) standard_scripts files are;
    }

-- behind what the first rows declare stands what the next one declares
pub Pairwise-more : {W X Y : Type 0} (R : X → Y → Type 0) (f : W → X) (rows : List W) (before after : List Y) (i : ℕ) (row : W) (y : Y) → i < length rows → Pairwise R (map f (take i rows)) before → after ≡ before ++ y ∷ []
    → R (f (get_or rows i row)) y → Pairwise R (map f (take (i + 1) rows)) after
Pairwise-more R f rows before after i row y inside front is one =
    let more = Pairwise-append R (map f (take i rows)) before (f (get_or rows i row) ∷ []) (y ∷ []) front (one, tt) in
    subst (λ first. Pairwise R first after) (sym (map_more f rows i row inside)) (subst (Pairwise R (map f (take i rows) ++ f (get_or rows i row) ∷ [])) (sym is) more)

abbrev pub HasFewRows : Standard → Type 0
HasFewRows row = length row.members < 65536

small_file : (row : Standard) (file : SourceFile) → HasFewRows row → IsStandard row file → HasSmallScript file
small_file row file few is =
    let count = Pairwise-length IsMember row.members file.script.functions.items is.functions in
    (omega (arith, count), subst (λ properties. length properties < 65536) (sym is.properties) (omega arith))

pub small_files : (rows : List Standard) (files : List SourceFile) → AllByRecursion HasFewRows rows → AreStandard rows files → All HasSmallScript files
small_files [] [] few are = All-nil HasSmallScript
small_files [] (file ∷ files) few are = absurd are
small_files (row ∷ rows) [] few are = absurd are
small_files (row ∷ rows) (file ∷ files) few are =
    All-cons HasSmallScript file files (small_file row file few.0 are.0) (small_files rows files few.1 are.1)

pub small_standard : (files : List SourceFile) → AreStandard standard_scripts files → All HasSmallScript files
small_standard files are = small_files standard_scripts files (search rules) are
