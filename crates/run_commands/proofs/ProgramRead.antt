-- A scene and compiled files that were read one after another.
use Rattle.std.proofs.Common.{arith, ◌≡◌, ◌<◌, ◌≤◌, ◌+◌, ◌-◌, ◌^◌, ◌∙◌, ℕ, suc, Bool, true, false, List, [], ◌∷◌, ◌++◌, map, take, drop, length, refl, sym, ap, subst, inl, inr, slice_index_or, String, Global}
use Rattle.std.proofs.lemmas.Grind.{common_steps}
use Rattle.std.proofs.lemmas.List.{get_or-map, length-map, drop-map, map-append}
use Rattle.std.specs.Prelude.{Option, None, Some, Result, Ok, Err, IfErr, IfOk, IfSome, vec_len}
use Rattle.std.specs.List.{AllByRecursion}
use Rattle.std.specs.String.{string_bytes}
use Rattle.std.specs.declared.vec.Vec.{Vec}
use Rattle.papy_io.specs.Files.{Files, told_bytes}
use Rattle.pex_codec.specs.Decoding.{IsDecoded}
use Rattle.pex_values.specs.declared.values.Pex.{Pex}
use Rattle.pex_verify.specs.Files.{IsFile}
use Rattle.command_files.specs.declared.ending.Ending.{Ending}
use Rattle.command_files.specs.declared.ending.Ending.TheVariants.{Done, OutOfMemory, Usage, ReadFault, WriteFault, Refused, NotBuilt}
use Rattle.command_files.specs.declared.file_fault.FileFault.{FileFault}
use Rattle.command_files.specs.declared.file_fault.FileFault.TheVariants as file
use Rattle.command_files.specs.declared.pex_file.PexFile.{PexFile}
use Rattle.command_files.specs.declared.scene_file.KeptScene.{KeptScene}
use Rattle.papy_base.specs.Bytes.{bytes_of}
use Rattle.command_files.specs.Ending.{CountsReads, IsWordBelow, MissesScript, word_at}
use Rattle.command_files.specs.FileFault.{CountsFile, MissesFile, ending_at}
use Rattle.command_files.specs.Held.{AreHeld, Hold}
use Rattle.command_files.specs.PexFile.{ReadsPex}
use Rattle.command_files.specs.SceneFile.{ReadsKeptScene}
use Rattle.command_files.specs.Scripts.{CountsScripts}
use Rattle.command_files.proofs.HeldScripts.{held-more}
use Rattle.run_commands.specs.Program.{AreKept, AreSmall, AreSpelled, BreaksTogether, EndsOnProgram, EndsOnSet, EndsOnValues, EndsTogether, IsHeldProgram, IsSpelled, MissesRead, MissesValue, ReadsValue, Verifies, files_from, scene_of}
use Rattle.run_commands.specs.declared.program.Program.{Program}

-- ---- one file

pub is_file : (size : ℕ) (value : Pex) → IsDecoded size value → IsFile value
is_file size value decoded = record { shaped = decoded.shaped; fits = decoded.fits }

pub kept_is_file : (result : Result PexFile FileFault) → IfOk result (λ found. IsDecoded (vec_len found.bytes) found.value) → IfOk result (λ found. IsFile found.value)
kept_is_file (Ok found) decoded = is_file (vec_len found.bytes) found.value decoded
kept_is_file (Err fault) decoded = tt

pub kept_reads : (holds : Option Files) (name : List ℕ) (result : Result PexFile FileFault) → ReadsPex holds name result → ReadsValue true holds name result
kept_reads None name result read = tt
kept_reads (Some files) name (Ok found) (bytes, held, kept) = rw kept.kept held
kept_reads (Some files) name (Err (file.Refused place rule)) read = read
kept_reads (Some files) name (Err file.ReadFault) read = tt
kept_reads (Some files) name (Err file.OutOfMemory) read = tt

pub part_reads : (holds : Option Files) (name : List ℕ) (found : PexFile) (kept : PexFile) → ReadsPex holds name (Ok found) → ReadsValue false holds name (Ok kept)
part_reads None name found kept read = tt
part_reads (Some files) name found kept (bytes, held, read) = (bytes, held)

pub part_unread : (holds : Option Files) (name : List ℕ) (fault : FileFault) → ReadsPex holds name (Err fault) → ReadsValue false holds name (Err fault)
part_unread None name fault read = tt
part_unread (Some files) name (file.Refused place rule) read = read
part_unread (Some files) name file.ReadFault read = tt
part_unread (Some files) name file.OutOfMemory read = tt

-- the bytes spell the value, whether they were kept or not
pub kept_spelled : (holds : Option Files) (name : List ℕ) (result : Result PexFile FileFault) → ReadsPex holds name result → IfOk result (λ found. IfSome holds (IsSpelled name found.value))
kept_spelled None name (Ok found) read = tt
kept_spelled (Some files) name (Ok found) (bytes, held, kept) = (bytes, held, kept.spelled)
kept_spelled holds name (Err fault) read = tt

pub part_spelled : (holds : Option Files) (name : List ℕ) (found : PexFile) → ReadsPex holds name (Ok found) → IfSome holds (IsSpelled name found.value)
part_spelled None name found read = tt
part_spelled (Some files) name found (bytes, held, read) = (bytes, held, read.spelled)

-- ---- one file after another

-- the name of the file at this place
named : (names : List (String Global)) (place : ℕ) (name : String Global) → place < length names → name ≡ slice_index_or names place name →
    word_at (map string_bytes names) place ≡ string_bytes name
named names place name within is = get_or-map string_bytes names place name [] within ∙ ap string_bytes (sym is)

pub value_ends : (keep : Bool) (holds : Option Files) (first : ℕ) (names : List (String Global)) (place : ℕ) (name : String Global) (fault : FileFault) → place < length names → name ≡ slice_index_or names place name →
    ReadsValue keep holds (string_bytes name) (Err fault) → EndsOnValues first (map string_bytes names) holds (ending_at (first + place) fault)
value_ends keep holds first names place name file.ReadFault within is read = tt
value_ends keep holds first names place name file.OutOfMemory within is read = tt
value_ends keep None first names place name (file.Refused p rule) within is read = tt
value_ends keep (Some files) first names place name (file.Refused p rule) within is (bytes, held, refused) =
    let size : length (map string_bytes names) ≡ length names = length-map names string_bytes in
    let here : told_bytes (Some files) (word_at (map string_bytes names) place) ≡ Some bytes =
    ap (told_bytes (Some files)) (named names place name within is) ∙ held in
    record { at = place; bytes = bytes; within = omega arith; word_is = refl; held = here; refused = refused }

pub value_missed : (first : ℕ) (names : List (String Global)) (place : ℕ) (name : String Global) (fault : FileFault) (missed : Option (List ℕ)) → place < length names → name ≡ slice_index_or names place name →
    (bytes : List ℕ) → bytes ≡ string_bytes name → MissesFile {T = PexFile} bytes (Err fault) missed → MissesValue first (map string_bytes names) (ending_at (first + place) fault) missed
value_missed first names place name file.ReadFault missed within is bytes bytes_are misses =
    let size : length (map string_bytes names) ≡ length names = length-map names string_bytes in
    (place, refl, omega arith, misses ∙ ap Some (bytes_are ∙ sym (named names place name within is)))
value_missed first names place name file.OutOfMemory missed within is bytes bytes_are misses = tt
value_missed first names place name (file.Refused p rule) missed within is bytes bytes_are misses = tt

pub value_word : (first count place : ℕ) (fault : FileFault) → place < count → IsWordBelow (first + count) (ending_at (first + place) fault)
value_word first count place file.ReadFault within = omega arith
value_word first count place file.OutOfMemory within = tt
value_word first count place (file.Refused p rule) within = omega arith

pub value_counts : (word : ℕ) (fault : FileFault) (before now : ℕ) → CountsFile {T = PexFile} (Err fault) before now → CountsReads (ending_at word fault) before now
value_counts word file.ReadFault before now counts = counts
value_counts word file.OutOfMemory before now counts = counts
value_counts word (file.Refused p rule) before now counts = counts

-- one more file whose length fits four bytes
each-more : (P : List ℕ → Type 0) (xs : List (List ℕ)) (x : List ℕ) → AllByRecursion P xs → P x → AllByRecursion P (xs ++ x ∷ [])
each-more P [] x each is = (is, tt)
each-more P (y ∷ xs) x each is = (each.0, each-more P xs x each.1 is)

pub small_more : (kept : List (Vec ℕ Global)) (bytes : Vec ℕ Global) → AreSmall kept → length bytes.items ≤ 16777216 → AreSmall (kept ++ bytes ∷ [])
small_more kept bytes small few =
    let each : map bytes_of (kept ++ bytes ∷ []) ≡ map bytes_of kept ++ bytes.items ∷ [] = map-append bytes_of kept (bytes ∷ []) in
    let fits : length bytes.items < 2 ^ 32 = omega arith in
    subst (AllByRecursion (λ (b : List ℕ). length b < 2 ^ 32)) (sym each) (each-more (λ (b : List ℕ). length b < 2 ^ 32) (map bytes_of kept) bytes.items small fits)

hold-more : (files : Files) (names contents : List (List ℕ)) (name bytes : List ℕ) → Hold files names contents → told_bytes (Some files) name ≡ Some bytes → Hold files (names ++ name ∷ []) (contents ++ bytes ∷ [])
hold-more files [] [] name bytes hold held = (held, tt)
hold-more files [] (c ∷ contents) name bytes hold held = absurd hold
hold-more files (n ∷ names) [] name bytes hold held = absurd hold
hold-more files (n ∷ names) (c ∷ contents) name bytes hold held = (hold.0, hold-more files names contents name bytes hold.1 held)

-- the files so far and one more
pub kept_more : (keep : Bool) (holds : Option Files) (names : List (List ℕ)) (kept : List (Vec ℕ Global)) (name : List ℕ) (found : PexFile) → IfSome holds (AreKept keep names kept) → ReadsValue keep holds name (Ok found) →
    IfSome holds (AreKept keep (names ++ name ∷ []) (kept ++ found.bytes ∷ []))
kept_more keep None names kept name found are read = tt
kept_more true (Some files) names kept name found are read =
    let each : map bytes_of (kept ++ found.bytes ∷ []) ≡ map bytes_of kept ++ found.bytes.items ∷ [] = map-append bytes_of kept (found.bytes ∷ []) in
    subst (λ contents. Hold files (names ++ name ∷ []) contents) (sym each) (hold-more files names (map bytes_of kept) name found.bytes.items are read)
kept_more false (Some files) names kept name found are read = held-more (Some files) names name are read

spell-more : (files : Files) (names : List (List ℕ)) (values : List Pex) (name : List ℕ) (value : Pex) → AreSpelled names values files → IsSpelled name value files → AreSpelled (names ++ name ∷ []) (values ++ value ∷ []) files
spell-more files [] [] name value are is = (is, tt)
spell-more files [] (v ∷ values) name value are is = absurd are
spell-more files (n ∷ names) [] name value are is = absurd are
spell-more files (n ∷ names) (v ∷ values) name value are is = (are.0, spell-more files names values name value are.1 is)

pub spelled_more : (holds : Option Files) (names : List (List ℕ)) (values : List Pex) (name : List ℕ) (value : Pex) → IfSome holds (AreSpelled names values) → IfSome holds (IsSpelled name value) →
    IfSome holds (AreSpelled (names ++ name ∷ []) (values ++ value ∷ []))
spelled_more None names values name value are is = tt
spelled_more (Some files) names values name value are is = spell-more files names values name value are is

-- the files whether their bytes were kept or not
pub kept_are_held : (keep : Bool) (holds : Option Files) (names : List (List ℕ)) (kept : List (Vec ℕ Global)) → IfSome holds (AreKept keep names kept) → IfSome holds (AreHeld names)
kept_are_held keep None names kept are = tt
kept_are_held true (Some files) names kept are = (map bytes_of kept, are)
kept_are_held false (Some files) names kept are = are

-- ---- the words

-- those from one number on
pub names_from : (words : List (String Global)) (first : ℕ) → map string_bytes (take (length words - (first - 1)) (drop (first - 1) words)) ≡ files_from first (map string_bytes words)
names_from words first =
    let whole : take (length words - (first - 1)) (drop (first - 1) words) ≡ drop (first - 1) words = grind (arith, common_steps) in
    ap (map string_bytes) whole ∙ sym (drop-map string_bytes (first - 1) words)

pub count_from : (words : List (String Global)) (first : ℕ) → 0 < first → first ≤ length words → length (take (length words - (first - 1)) (drop (first - 1) words)) + first ≡ length words + 1
count_from words first above within =
    let size : length (take (length words - (first - 1)) (drop (first - 1) words)) ≡ length words - (first - 1) = grind (arith, common_steps) in omega arith

-- the word of this number
word_from : (words : List (List ℕ)) (first at : ℕ) → 0 < first → at < length (files_from first words) → word_at (files_from first words) at ≡ word_at words (first - 1 + at)
word_from words first at above within = grind (arith, common_steps)

count-drop : (words : List (List ℕ)) (n at : ℕ) → at < length (drop n words) → n + at < length words
count-drop words n at within = grind (arith, common_steps)

pub scene_named : (words : List (String Global)) (named : ℕ) (scene : String Global) → named - 1 < length words → scene ≡ slice_index_or words (named - 1) scene → scene_of named (map string_bytes words) ≡ string_bytes scene
scene_named words number scene within is = named words (number - 1) scene within is

-- ---- a scene that was not read

pub scene_misses : (words : List (String Global)) (number first : ℕ) (scene : String Global) (fault : FileFault) (missed : Option (List ℕ)) (bytes : List ℕ) → 0 < number → number - 1 < length words → scene ≡ slice_index_or words (number - 1) scene →
    bytes ≡ string_bytes scene → MissesFile {T = KeptScene} bytes (Err fault) missed → MissesRead number first (map string_bytes words) (ending_at number fault) missed
scene_misses words number first scene file.ReadFault missed bytes above within is bytes_are misses =
    let size : length (map string_bytes words) ≡ length words = length-map words string_bytes in
    let word : number ≡ suc (number - 1) = omega arith in
    (number - 1, word, omega arith, inl refl, misses ∙ ap Some (bytes_are ∙ sym (named words (number - 1) scene within is)))
scene_misses words number first scene file.OutOfMemory missed bytes above within is bytes_are misses = tt
scene_misses words number first scene (file.Refused p rule) missed bytes above within is bytes_are misses = tt

pub scene_counts : (word : ℕ) (fault : FileFault) (before now : ℕ) → CountsFile {T = KeptScene} (Err fault) before now → CountsReads (ending_at word fault) before now
scene_counts word file.ReadFault before now counts = counts
scene_counts word file.OutOfMemory before now counts = counts
scene_counts word (file.Refused p rule) before now counts = counts

pub scene_below : (count word : ℕ) (fault : FileFault) → word < count → IsWordBelow count (ending_at word fault)
scene_below count word file.ReadFault within = within
scene_below count word file.OutOfMemory within = tt
scene_below count word (file.Refused p rule) within = within

pub scene_ends : (words : List (List ℕ)) (number first : ℕ) (holds : Option Files) (fault : FileFault) → ReadsKeptScene holds (scene_of number words) (Err fault) → EndsOnProgram number first words holds (ending_at number fault)
scene_ends words number first None (file.Refused place rule) read = tt
scene_ends words number first (Some files) (file.Refused place rule) read = (read.0, inl (record { word_is = refl; refusal = read.1 }))
scene_ends words number first holds file.ReadFault read = tt
scene_ends words number first holds file.OutOfMemory read = tt

-- ---- files behind it

pub values_end : (words : List (List ℕ)) (number first : ℕ) (holds : Option Files) (scene : KeptScene) (ending : Ending) → ReadsKeptScene holds (scene_of number words) (Ok scene) → EndsOnValues first (files_from first words) holds ending →
    EndsOnProgram number first words holds ending
values_end words number first None scene (Refused word place rule) read ends = tt
values_end words number first (Some files) scene (Refused word place rule) read ends = ((scene.text.items, read), inr (inl ends))
values_end words number first holds scene (ReadFault word) read ends = tt
values_end words number first holds scene OutOfMemory read ends = tt
values_end words number first holds scene Done read ends = absurd ends
values_end words number first holds scene Usage read ends = absurd ends
values_end words number first holds scene WriteFault read ends = absurd ends
values_end words number first holds scene NotBuilt read ends = absurd ends

pub values_miss : (words : List (List ℕ)) (number first : ℕ) (ending : Ending) (missed : Option (List ℕ)) → 0 < first → MissesValue first (files_from first words) ending missed → MissesRead number first words ending missed
values_miss words number first (ReadFault word) missed above (at, word_is, within, missed_is) =
    let is : word ≡ suc (first - 1 + at) = omega arith in
    let there : first - 1 + at < length words = count-drop words (first - 1) at within in
    let behind : first ≤ word = omega arith in
    (first - 1 + at, is, there, inr behind, missed_is ∙ ap Some (word_from words first at above within))
values_miss words number first OutOfMemory missed above misses = tt
values_miss words number first Done missed above misses = tt
values_miss words number first Usage missed above misses = tt
values_miss words number first WriteFault missed above misses = tt
values_miss words number first (Refused word place rule) missed above misses = tt
values_miss words number first NotBuilt missed above misses = tt

-- ---- files together

pub together_ends : (words : List (List ℕ)) (number first count : ℕ) (holds : Option Files) (scene : KeptScene) (result : Result Program Ending) → count ≡ length (files_from first words) → ReadsKeptScene holds (scene_of number words) (Ok scene) →
    IfSome holds (AreHeld (files_from first words)) → Verifies first count result → IfErr result (EndsOnProgram number first words holds)
together_ends words number first count holds scene (Ok program) is read held ends = tt
together_ends words number first count None scene (Err (Refused word place rule)) is read held ends = tt
together_ends words number first count (Some files) scene (Err (Refused word place rule)) is read held ends =
    let together : BreaksTogether first (length (files_from first words)) word place rule = subst (λ n. BreaksTogether first n word place rule) is ends.0 in
    ((scene.text.items, read), inr (inr (together, held)))
together_ends words number first count holds scene (Err OutOfMemory) is read held ends = tt
together_ends words number first count holds scene (Err (ReadFault word)) is read held ends = tt
together_ends words number first count holds scene (Err Done) is read held ends = absurd ends.0
together_ends words number first count holds scene (Err Usage) is read held ends = absurd ends.0
together_ends words number first count holds scene (Err WriteFault) is read held ends = absurd ends.0
together_ends words number first count holds scene (Err NotBuilt) is read held ends = absurd ends.0

-- the same of files alone
pub values_end_set : (first : ℕ) (names : List (List ℕ)) (holds : Option Files) (ending : Ending) → EndsOnValues first names holds ending → EndsOnSet first names holds ending
values_end_set first names None (Refused word place rule) ends = tt
values_end_set first names (Some files) (Refused word place rule) ends = inl ends
values_end_set first names holds (ReadFault word) ends = tt
values_end_set first names holds OutOfMemory ends = tt
values_end_set first names holds Done ends = absurd ends
values_end_set first names holds Usage ends = absurd ends
values_end_set first names holds WriteFault ends = absurd ends
values_end_set first names holds NotBuilt ends = absurd ends

pub apart_ends : (first count : ℕ) (names : List (List ℕ)) (holds : Option Files) (ending : Ending) → count ≡ length names → IfSome holds (AreHeld names) → EndsTogether first count ending → EndsOnSet first names holds ending
apart_ends first count names None (Refused word place rule) is held ends = tt
apart_ends first count names (Some files) (Refused word place rule) is held ends = inr (subst (λ n. BreaksTogether first n word place rule) is ends.0, held)
apart_ends first count names holds OutOfMemory is held ends = tt
apart_ends first count names holds (ReadFault word) is held ends = absurd ends.1
apart_ends first count names holds Done is held ends = absurd ends.0
apart_ends first count names holds Usage is held ends = absurd ends.0
apart_ends first count names holds WriteFault is held ends = absurd ends.0
apart_ends first count names holds NotBuilt is held ends = absurd ends.0

pub apart_counts : (first count : ℕ) (ending : Ending) (before now : ℕ) → EndsTogether first count ending → now ≡ before → CountsReads ending before now
apart_counts first count (Refused word place rule) before now ends same = same
apart_counts first count OutOfMemory before now ends same = same
apart_counts first count (ReadFault word) before now ends same = absurd ends.1
apart_counts first count Done before now ends same = same
apart_counts first count Usage before now ends same = same
apart_counts first count WriteFault before now ends same = same
apart_counts first count NotBuilt before now ends same = same

pub behind_command : (names : List (List ℕ)) (ending : Ending) (missed : Option (List ℕ)) → MissesValue 1 names ending missed → MissesScript names ending missed
behind_command names (ReadFault word) missed (at, word_is, within, missed_is) = (at, omega arith, within, missed_is)
behind_command names OutOfMemory missed misses = tt
behind_command names Done missed misses = tt
behind_command names Usage missed misses = tt
behind_command names WriteFault missed misses = tt
behind_command names (Refused word place rule) missed misses = tt
behind_command names NotBuilt missed misses = tt

pub apart_misses : (first count : ℕ) (names : List (List ℕ)) (ending : Ending) (missed : Option (List ℕ)) → EndsTogether first count ending → MissesValue first names ending missed
apart_misses first count names (Refused word place rule) missed ends = tt
apart_misses first count names OutOfMemory missed ends = tt
apart_misses first count names (ReadFault word) missed ends = absurd ends.1
apart_misses first count names Done missed ends = tt
apart_misses first count names Usage missed ends = tt
apart_misses first count names WriteFault missed ends = tt
apart_misses first count names NotBuilt missed ends = tt

pub apart_below : (first count size : ℕ) (ending : Ending) → first + count ≤ size → EndsTogether first count ending → IsWordBelow size ending
apart_below first count size (Refused word place rule) within ends = let broken = ends.0 in omega (arith, broken.within, broken.word_is)
apart_below first count size OutOfMemory within ends = tt
apart_below first count size (ReadFault word) within ends = absurd ends.1
apart_below first count size Done within ends = tt
apart_below first count size Usage within ends = tt
apart_below first count size WriteFault within ends = tt
apart_below first count size NotBuilt within ends = tt

pub together_reads : (first count : ℕ) (result : Result Program Ending) (before now : ℕ) → Verifies first count result → now ≡ before → CountsScripts result before now
together_reads first count (Ok program) before now ends same = same
together_reads first count (Err ending) before now ends same = apart_counts first count ending before now ends same

pub together_misses : (number first count : ℕ) (words : List (List ℕ)) (result : Result Program Ending) (missed : Option (List ℕ)) → Verifies first count result → 0 < first → IfErr result (λ ending. MissesRead number first words ending missed)
together_misses number first count words (Ok program) missed ends above = tt
together_misses number first count words (Err ending) missed ends above = values_miss words number first ending missed above (apart_misses first count (files_from first words) ending missed ends)

pub together_word : (first count size : ℕ) (result : Result Program Ending) → first + count ≤ size → Verifies first count result → IfErr result (IsWordBelow size)
together_word first count size (Ok program) within ends = tt
together_word first count size (Err ending) within ends = apart_below first count size ending within ends

-- ---- what was read

pub program_held : (keep : Bool) (words : List (List ℕ)) (number first : ℕ) (holds : Option Files) (scene : KeptScene) (kept : Vec (Vec ℕ Global) Global) (result : Result Program Ending) → IfOk result (λ program. program.text ≡ scene.text) → IfOk result (λ program. program.kept ≡ kept) →
    ReadsKeptScene holds (scene_of number words) (Ok scene) → IfSome holds (AreKept keep (files_from first words) kept.items) → IfOk result (λ program. IfSome holds (IsHeldProgram number first keep words program))
program_held keep words number first holds scene kept (Err ending) text files read are = tt
program_held keep words number first None scene kept (Ok program) text files read are = tt
program_held keep words number first (Some held) scene kept (Ok program) text files read are =
    let same_text : scene.text.items ≡ program.text.items = ap (λ (v : Vec ℕ Global). v.items) (sym text) in
    let same_files : kept.items ≡ program.kept.items = ap (λ (v : Vec (Vec ℕ Global) Global). v.items) (sym files) in
    record { scene = read ∙ ap Some same_text; values = subst (λ items. AreKept keep (files_from first words) items held) same_files are }

-- what holds of a part that was passed on
pub carried : {A B : Type 0} (part : A → B) (P : B → Type 0) (x : B) (result : Result A Ending) → IfOk result (λ a. part a ≡ x) → P x → IfOk result (λ a. P (part a))
carried part P x (Ok a) is holds = subst P (sym is) holds
carried part P x (Err ending) is holds = tt
