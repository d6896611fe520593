use Rattle.std.proofs.Common.{◌^◌, ◌≡◌, ℕ, List, vec_len, length, ap, subst, ◌∙◌, arith, ◌<◌, [], ◌∷◌, refl, rules}
use Rattle.std.specs.Prelude.{IfSome, map, option_map, codes}
use Rattle.std.specs.List.{AllByRecursion, range_with_len}
use Rattle.pex_values.specs.declared.values.Pex.{Pex}
use Rattle.pex_values.specs.Fit.{FitsObject}
use Rattle.pex_values.specs.Plain.{plain_debug, plain_object, plain}
use Rattle.pex_values.specs.Shape.{IsShapedDebug, IsShapedFlag, IsShapedObject}
use Rattle.pex_values.specs.Spelling as spell
use Rattle.pex_values.proofs.Sizes.{spelling_size}
use Rattle.pex_listing.specs.Lines.{reference}
use Rattle.pex_listing.specs.Listing as form
use Rattle.pex_listing.specs.Spelled.{spelled_in, HasWords}
use Rattle.pex_listing.proofs.Parts.{viewed}
use Rattle.pex_listing.proofs.Shown.{spelled_is}
use Rattle.pex_listing.proofs.Whole.{TakesHead, TakesRest, whole}
use Rattle.pex_listing.specs.Breaks.{One, any_number_of, not_added, debug_line}
use Rattle.pex_listing.specs.Left.{IsTableOf, view}
use Rattle.pex_listing.specs.declared.strings.StringWords.{StringWords}
use Rattle.pex_listing.proofs.Opening.{one_may, read_err, memory_err, source_form, user_form, machine_form}
use Rattle.pex_listing.proofs.assembling.read_pex.Goals as goal

table_of : (strings : List (List ℕ)) (names : StringWords) (read : List (List ℕ)) → read ≡ strings → HasWords read names → map (λ bytes. bytes.items) names.spelled.items ≡ map (reference read) (range_with_len 0 (length read))
    → vec_len names.spelled ≡ length read → length strings < 2 ^ 16 → IsTableOf strings names
table_of strings names read is words spelled count few = record {
  words = subst (λ (s : List (List ℕ)). HasWords s names) is words;
  spelled = spelled_is names strings (spelled ∙ ap (λ (s : List (List ℕ)). map (reference s) (range_with_len 0 (length s))) is);
  count = count ∙ ap (λ (s : List (List ℕ)). length s) is;
  few = few;
}

pub returns : goal.returns
returns c =
    let n = vec_len c.in_ok-names.names.spelled in
    let names = c.in_ok-names.names in
    let strings = c.in_ok-strings.strings.items in
    let same : n ≡ length strings = c.in_ok-names.ensures.count ∙ ap (λ (s : List (List ℕ)). length s) c.deref.ensures.value in
    let ss = c.in_ok-strings.ensures.all in
    let d = c.in_ok-debug.ensures.reads in
    let fs = c.in_ok-user_flags.ensures.all in
    let os = viewed (IsShapedObject n) FitsObject spell.object (form.object (spelled_in names)) plain_object _ _ c.in_ok-objects.objects.items c.in_ok-objects.ensures.all in
    let v : Pex = record { minor = c.in_ok-version.version.0; time = c.in_ok-version.version.1; source = c.in_ok-source.source; user = c.in_ok-user.user; machine = c.in_ok-machine.machine; strings = c.in_ok-strings.strings; debug = c.in_ok-debug.debug; user_flags = c.in_ok-user_flags.user_flags; objects = c.in_ok-objects.objects } in
    let head : TakesHead v _ _ _ _ _ _ _ _ _ _ _ = record {
      first = c.in_ok-version.ensures.line;
      source = c.in_ok-source.ensures.line;
      user = c.in_ok-user.ensures.line;
      machine = c.in_ok-machine.ensures.line;
      table = ss.takes;
    } in
    let rest : TakesRest (spelled_in names) v _ _ _ _ _ _ _ _ _ _ = record {
      start = c.in_ok-debug_time.ensures.line;
      same = d.start;
      entries = d.takes;
      flags = fs.takes;
      objects = os.takes;
      end = c.in_ok-end.ensures.text;
    } in
    let spelled = c.in_ok-names.ensures.spelled ∙ ap (λ (s : List (List ℕ)). map (reference s) (range_with_len 0 (length s))) c.deref.ensures.value in
    record {
      shaped = record {
        minor = c.in_ok-version.ensures.shaped.0;
        time = c.in_ok-version.ensures.shaped.1;
        debug = subst (λ (m : ℕ). IfSome (option_map plain_debug v.debug) (IsShapedDebug m)) same d.shaped;
        user_flags = subst (λ (m : ℕ). AllByRecursion (IsShapedFlag m) v.user_flags.items) same fs.each;
        objects = subst (λ (m : ℕ). AllByRecursion (IsShapedObject m) (map plain_object v.objects.items)) same os.shaped;
      };
      fits = record {
        source = c.in_ok-source.ensures.counted;
        user = c.in_ok-user.ensures.counted;
        machine = c.in_ok-machine.ensures.counted;
        strings = ss.counted;
        each_string = ss.each;
        debug = d.fits;
        user_flags = fs.counted;
        objects = os.counted;
        each_object = os.fits;
        size = omega (arith, spelling_size (plain v), head.source.room, head.user.room, head.machine.room, head.table.room, head.first.room, rest.start.room, rest.entries.room, rest.flags.room, rest.objects.room, d.whole, c.requires);
      };
      text = whole head rest ∙ ap (λ s. form.all_lines s (plain v)) (spelled_is names strings spelled);
      left = λ good.
          let version = c.in_ok-version.ensures.left [] (One (codes "source" ∷ []) ∷ One (codes "user" ∷ []) ∷ One (codes "machine" ∷ []) ∷ any_number_of (codes "string") ∷ debug_line ∷ any_number_of (codes "flag") ∷ any_number_of (codes "object") ∷ []) good in
          let source = c.in_ok-source.ensures.left [] (One (codes "source" ∷ []) ∷ One (codes "user" ∷ []) ∷ One (codes "machine" ∷ []) ∷ any_number_of (codes "string") ∷ debug_line ∷ any_number_of (codes "flag") ∷ any_number_of (codes "object") ∷ []) not_added (λ s t. source_form s t) version.1 (one_may [] (One (codes "user" ∷ []) ∷ One (codes "machine" ∷ []) ∷ any_number_of (codes "string") ∷ debug_line ∷ any_number_of (codes "flag") ∷ any_number_of (codes "object") ∷ []) (codes "source") (view c.read_version.new.listing)) in
          let user = c.in_ok-user.ensures.left [] (One (codes "user" ∷ []) ∷ One (codes "machine" ∷ []) ∷ any_number_of (codes "string") ∷ debug_line ∷ any_number_of (codes "flag") ∷ any_number_of (codes "object") ∷ []) not_added (λ s t. user_form s t) source.1 (one_may [] (One (codes "machine" ∷ []) ∷ any_number_of (codes "string") ∷ debug_line ∷ any_number_of (codes "flag") ∷ any_number_of (codes "object") ∷ []) (codes "user") (view c.read_string.new.listing)) in
          let machine = c.in_ok-machine.ensures.left [] (One (codes "machine" ∷ []) ∷ any_number_of (codes "string") ∷ debug_line ∷ any_number_of (codes "flag") ∷ any_number_of (codes "object") ∷ []) not_added (λ s t. machine_form s t) user.1 (one_may [] (any_number_of (codes "string") ∷ debug_line ∷ any_number_of (codes "flag") ∷ any_number_of (codes "object") ∷ []) (codes "machine") (view c.read_string-2.new.listing)) in
          let table_read = c.in_ok-strings.ensures.left (debug_line ∷ any_number_of (codes "flag") ∷ any_number_of (codes "object") ∷ []) machine.1 in
          let strings = c.in_ok-strings.strings.items in
          let debug_time = c.in_ok-debug_time.ensures.left strings (any_number_of (codes "flag") ∷ any_number_of (codes "object") ∷ []) table_read.1 in
          let names = c.in_ok-names.names in
          let table = table_of strings names c.deref.result.now c.deref.ensures.value c.in_ok-names.ensures.words c.in_ok-names.ensures.spelled c.in_ok-names.ensures.count c.in_ok-strings.ensures.all.counted in
          let debug = c.in_ok-debug.ensures.left strings (any_number_of (codes "flag") ∷ any_number_of (codes "object") ∷ []) table debug_time.1 in
          let user_flags = c.in_ok-user_flags.ensures.left strings (any_number_of (codes "object") ∷ []) table debug.1 in
          let objects = c.in_ok-objects.ensures.left strings [] table user_flags.1 in
          let end = c.in_ok-end.ensures.left strings objects.1 in
          (version.0 ∙ source.0 ∙ user.0 ∙ machine.0 ∙ table_read.0 ∙ debug_time.0 ∙ debug.0 ∙ user_flags.0 ∙ objects.0 ∙ end.0, end.1);
    }

pub returns-in_err-version-clause-left : goal.returns-in_err-version-clause-left
returns-in_err-version-clause-left c = λ good.
    read_err _ _ c.in_err-version.field-0.0 c.from_residual.result (search rules) (refl) (c.in_err-version.ensures.left [] (One (codes "source" ∷ []) ∷ One (codes "user" ∷ []) ∷ One (codes "machine" ∷ []) ∷ any_number_of (codes "string") ∷ debug_line ∷ any_number_of (codes "flag") ∷ any_number_of (codes "object") ∷ []) good)

pub returns-in_err-source-clause-left : goal.returns-in_err-source-clause-left
returns-in_err-source-clause-left c = λ good.
    let version = c.in_ok-version.ensures.left [] (One (codes "source" ∷ []) ∷ One (codes "user" ∷ []) ∷ One (codes "machine" ∷ []) ∷ any_number_of (codes "string") ∷ debug_line ∷ any_number_of (codes "flag") ∷ any_number_of (codes "object") ∷ []) good in
    read_err _ _ c.in_err-source.field-0.0 c.from_residual-in_err-source.result (search rules) (version.0) (c.in_err-source.ensures.left [] (One (codes "source" ∷ []) ∷ One (codes "user" ∷ []) ∷ One (codes "machine" ∷ []) ∷ any_number_of (codes "string") ∷ debug_line ∷ any_number_of (codes "flag") ∷ any_number_of (codes "object") ∷ []) not_added (λ s t. source_form s t) version.1 (one_may [] (One (codes "user" ∷ []) ∷ One (codes "machine" ∷ []) ∷ any_number_of (codes "string") ∷ debug_line ∷ any_number_of (codes "flag") ∷ any_number_of (codes "object") ∷ []) (codes "source") (view c.read_version.new.listing)))

pub returns-in_err-user-clause-left : goal.returns-in_err-user-clause-left
returns-in_err-user-clause-left c = λ good.
    let version = c.in_ok-version.ensures.left [] (One (codes "source" ∷ []) ∷ One (codes "user" ∷ []) ∷ One (codes "machine" ∷ []) ∷ any_number_of (codes "string") ∷ debug_line ∷ any_number_of (codes "flag") ∷ any_number_of (codes "object") ∷ []) good in
    let source = c.in_ok-source.ensures.left [] (One (codes "source" ∷ []) ∷ One (codes "user" ∷ []) ∷ One (codes "machine" ∷ []) ∷ any_number_of (codes "string") ∷ debug_line ∷ any_number_of (codes "flag") ∷ any_number_of (codes "object") ∷ []) not_added (λ s t. source_form s t) version.1 (one_may [] (One (codes "user" ∷ []) ∷ One (codes "machine" ∷ []) ∷ any_number_of (codes "string") ∷ debug_line ∷ any_number_of (codes "flag") ∷ any_number_of (codes "object") ∷ []) (codes "source") (view c.read_version.new.listing)) in
    read_err _ _ c.in_err-user.field-0.0 c.from_residual-in_err-user.result (search rules) (version.0 ∙ source.0) (c.in_err-user.ensures.left [] (One (codes "user" ∷ []) ∷ One (codes "machine" ∷ []) ∷ any_number_of (codes "string") ∷ debug_line ∷ any_number_of (codes "flag") ∷ any_number_of (codes "object") ∷ []) not_added (λ s t. user_form s t) source.1 (one_may [] (One (codes "machine" ∷ []) ∷ any_number_of (codes "string") ∷ debug_line ∷ any_number_of (codes "flag") ∷ any_number_of (codes "object") ∷ []) (codes "user") (view c.read_string.new.listing)))

pub returns-in_err-machine-clause-left : goal.returns-in_err-machine-clause-left
returns-in_err-machine-clause-left c = λ good.
    let version = c.in_ok-version.ensures.left [] (One (codes "source" ∷ []) ∷ One (codes "user" ∷ []) ∷ One (codes "machine" ∷ []) ∷ any_number_of (codes "string") ∷ debug_line ∷ any_number_of (codes "flag") ∷ any_number_of (codes "object") ∷ []) good in
    let source = c.in_ok-source.ensures.left [] (One (codes "source" ∷ []) ∷ One (codes "user" ∷ []) ∷ One (codes "machine" ∷ []) ∷ any_number_of (codes "string") ∷ debug_line ∷ any_number_of (codes "flag") ∷ any_number_of (codes "object") ∷ []) not_added (λ s t. source_form s t) version.1 (one_may [] (One (codes "user" ∷ []) ∷ One (codes "machine" ∷ []) ∷ any_number_of (codes "string") ∷ debug_line ∷ any_number_of (codes "flag") ∷ any_number_of (codes "object") ∷ []) (codes "source") (view c.read_version.new.listing)) in
    let user = c.in_ok-user.ensures.left [] (One (codes "user" ∷ []) ∷ One (codes "machine" ∷ []) ∷ any_number_of (codes "string") ∷ debug_line ∷ any_number_of (codes "flag") ∷ any_number_of (codes "object") ∷ []) not_added (λ s t. user_form s t) source.1 (one_may [] (One (codes "machine" ∷ []) ∷ any_number_of (codes "string") ∷ debug_line ∷ any_number_of (codes "flag") ∷ any_number_of (codes "object") ∷ []) (codes "user") (view c.read_string.new.listing)) in
    read_err _ _ c.in_err-machine.field-0.0 c.from_residual-in_err-machine.result (search rules) (version.0 ∙ source.0 ∙ user.0) (c.in_err-machine.ensures.left [] (One (codes "machine" ∷ []) ∷ any_number_of (codes "string") ∷ debug_line ∷ any_number_of (codes "flag") ∷ any_number_of (codes "object") ∷ []) not_added (λ s t. machine_form s t) user.1 (one_may [] (any_number_of (codes "string") ∷ debug_line ∷ any_number_of (codes "flag") ∷ any_number_of (codes "object") ∷ []) (codes "machine") (view c.read_string-2.new.listing)))

pub returns-in_err-strings-clause-left : goal.returns-in_err-strings-clause-left
returns-in_err-strings-clause-left c = λ good.
    let version = c.in_ok-version.ensures.left [] (One (codes "source" ∷ []) ∷ One (codes "user" ∷ []) ∷ One (codes "machine" ∷ []) ∷ any_number_of (codes "string") ∷ debug_line ∷ any_number_of (codes "flag") ∷ any_number_of (codes "object") ∷ []) good in
    let source = c.in_ok-source.ensures.left [] (One (codes "source" ∷ []) ∷ One (codes "user" ∷ []) ∷ One (codes "machine" ∷ []) ∷ any_number_of (codes "string") ∷ debug_line ∷ any_number_of (codes "flag") ∷ any_number_of (codes "object") ∷ []) not_added (λ s t. source_form s t) version.1 (one_may [] (One (codes "user" ∷ []) ∷ One (codes "machine" ∷ []) ∷ any_number_of (codes "string") ∷ debug_line ∷ any_number_of (codes "flag") ∷ any_number_of (codes "object") ∷ []) (codes "source") (view c.read_version.new.listing)) in
    let user = c.in_ok-user.ensures.left [] (One (codes "user" ∷ []) ∷ One (codes "machine" ∷ []) ∷ any_number_of (codes "string") ∷ debug_line ∷ any_number_of (codes "flag") ∷ any_number_of (codes "object") ∷ []) not_added (λ s t. user_form s t) source.1 (one_may [] (One (codes "machine" ∷ []) ∷ any_number_of (codes "string") ∷ debug_line ∷ any_number_of (codes "flag") ∷ any_number_of (codes "object") ∷ []) (codes "user") (view c.read_string.new.listing)) in
    let machine = c.in_ok-machine.ensures.left [] (One (codes "machine" ∷ []) ∷ any_number_of (codes "string") ∷ debug_line ∷ any_number_of (codes "flag") ∷ any_number_of (codes "object") ∷ []) not_added (λ s t. machine_form s t) user.1 (one_may [] (any_number_of (codes "string") ∷ debug_line ∷ any_number_of (codes "flag") ∷ any_number_of (codes "object") ∷ []) (codes "machine") (view c.read_string-2.new.listing)) in
    read_err _ _ c.in_err-strings.field-0.0 c.from_residual-in_err-strings.result (search rules) (version.0 ∙ source.0 ∙ user.0 ∙ machine.0) (c.in_err-strings.ensures.left (debug_line ∷ any_number_of (codes "flag") ∷ any_number_of (codes "object") ∷ []) machine.1)

pub returns-in_err-debug_time-clause-left : goal.returns-in_err-debug_time-clause-left
returns-in_err-debug_time-clause-left c = λ good.
    let version = c.in_ok-version.ensures.left [] (One (codes "source" ∷ []) ∷ One (codes "user" ∷ []) ∷ One (codes "machine" ∷ []) ∷ any_number_of (codes "string") ∷ debug_line ∷ any_number_of (codes "flag") ∷ any_number_of (codes "object") ∷ []) good in
    let source = c.in_ok-source.ensures.left [] (One (codes "source" ∷ []) ∷ One (codes "user" ∷ []) ∷ One (codes "machine" ∷ []) ∷ any_number_of (codes "string") ∷ debug_line ∷ any_number_of (codes "flag") ∷ any_number_of (codes "object") ∷ []) not_added (λ s t. source_form s t) version.1 (one_may [] (One (codes "user" ∷ []) ∷ One (codes "machine" ∷ []) ∷ any_number_of (codes "string") ∷ debug_line ∷ any_number_of (codes "flag") ∷ any_number_of (codes "object") ∷ []) (codes "source") (view c.read_version.new.listing)) in
    let user = c.in_ok-user.ensures.left [] (One (codes "user" ∷ []) ∷ One (codes "machine" ∷ []) ∷ any_number_of (codes "string") ∷ debug_line ∷ any_number_of (codes "flag") ∷ any_number_of (codes "object") ∷ []) not_added (λ s t. user_form s t) source.1 (one_may [] (One (codes "machine" ∷ []) ∷ any_number_of (codes "string") ∷ debug_line ∷ any_number_of (codes "flag") ∷ any_number_of (codes "object") ∷ []) (codes "user") (view c.read_string.new.listing)) in
    let machine = c.in_ok-machine.ensures.left [] (One (codes "machine" ∷ []) ∷ any_number_of (codes "string") ∷ debug_line ∷ any_number_of (codes "flag") ∷ any_number_of (codes "object") ∷ []) not_added (λ s t. machine_form s t) user.1 (one_may [] (any_number_of (codes "string") ∷ debug_line ∷ any_number_of (codes "flag") ∷ any_number_of (codes "object") ∷ []) (codes "machine") (view c.read_string-2.new.listing)) in
    let table_read = c.in_ok-strings.ensures.left (debug_line ∷ any_number_of (codes "flag") ∷ any_number_of (codes "object") ∷ []) machine.1 in
    let strings = c.in_ok-strings.strings.items in
    read_err _ _ c.in_err-debug_time.field-0.0 c.from_residual-in_err-debug_time.result (search rules) (version.0 ∙ source.0 ∙ user.0 ∙ machine.0 ∙ table_read.0) (c.in_err-debug_time.ensures.left strings (any_number_of (codes "flag") ∷ any_number_of (codes "object") ∷ []) table_read.1)

pub returns-in_err-debug-clause-left : goal.returns-in_err-debug-clause-left
returns-in_err-debug-clause-left c = λ good.
    let version = c.in_ok-version.ensures.left [] (One (codes "source" ∷ []) ∷ One (codes "user" ∷ []) ∷ One (codes "machine" ∷ []) ∷ any_number_of (codes "string") ∷ debug_line ∷ any_number_of (codes "flag") ∷ any_number_of (codes "object") ∷ []) good in
    let source = c.in_ok-source.ensures.left [] (One (codes "source" ∷ []) ∷ One (codes "user" ∷ []) ∷ One (codes "machine" ∷ []) ∷ any_number_of (codes "string") ∷ debug_line ∷ any_number_of (codes "flag") ∷ any_number_of (codes "object") ∷ []) not_added (λ s t. source_form s t) version.1 (one_may [] (One (codes "user" ∷ []) ∷ One (codes "machine" ∷ []) ∷ any_number_of (codes "string") ∷ debug_line ∷ any_number_of (codes "flag") ∷ any_number_of (codes "object") ∷ []) (codes "source") (view c.read_version.new.listing)) in
    let user = c.in_ok-user.ensures.left [] (One (codes "user" ∷ []) ∷ One (codes "machine" ∷ []) ∷ any_number_of (codes "string") ∷ debug_line ∷ any_number_of (codes "flag") ∷ any_number_of (codes "object") ∷ []) not_added (λ s t. user_form s t) source.1 (one_may [] (One (codes "machine" ∷ []) ∷ any_number_of (codes "string") ∷ debug_line ∷ any_number_of (codes "flag") ∷ any_number_of (codes "object") ∷ []) (codes "user") (view c.read_string.new.listing)) in
    let machine = c.in_ok-machine.ensures.left [] (One (codes "machine" ∷ []) ∷ any_number_of (codes "string") ∷ debug_line ∷ any_number_of (codes "flag") ∷ any_number_of (codes "object") ∷ []) not_added (λ s t. machine_form s t) user.1 (one_may [] (any_number_of (codes "string") ∷ debug_line ∷ any_number_of (codes "flag") ∷ any_number_of (codes "object") ∷ []) (codes "machine") (view c.read_string-2.new.listing)) in
    let table_read = c.in_ok-strings.ensures.left (debug_line ∷ any_number_of (codes "flag") ∷ any_number_of (codes "object") ∷ []) machine.1 in
    let strings = c.in_ok-strings.strings.items in
    let debug_time = c.in_ok-debug_time.ensures.left strings (any_number_of (codes "flag") ∷ any_number_of (codes "object") ∷ []) table_read.1 in
    let names = c.in_ok-names.names in
    let table = table_of strings names c.deref.result.now c.deref.ensures.value c.in_ok-names.ensures.words c.in_ok-names.ensures.spelled c.in_ok-names.ensures.count c.in_ok-strings.ensures.all.counted in
    read_err _ _ c.in_err-debug.field-0.0 c.from_residual-in_err-debug.result (search rules) (version.0 ∙ source.0 ∙ user.0 ∙ machine.0 ∙ table_read.0 ∙ debug_time.0) (c.in_err-debug.ensures.left strings (any_number_of (codes "flag") ∷ any_number_of (codes "object") ∷ []) table debug_time.1)

pub returns-in_err-user_flags-clause-left : goal.returns-in_err-user_flags-clause-left
returns-in_err-user_flags-clause-left c = λ good.
    let version = c.in_ok-version.ensures.left [] (One (codes "source" ∷ []) ∷ One (codes "user" ∷ []) ∷ One (codes "machine" ∷ []) ∷ any_number_of (codes "string") ∷ debug_line ∷ any_number_of (codes "flag") ∷ any_number_of (codes "object") ∷ []) good in
    let source = c.in_ok-source.ensures.left [] (One (codes "source" ∷ []) ∷ One (codes "user" ∷ []) ∷ One (codes "machine" ∷ []) ∷ any_number_of (codes "string") ∷ debug_line ∷ any_number_of (codes "flag") ∷ any_number_of (codes "object") ∷ []) not_added (λ s t. source_form s t) version.1 (one_may [] (One (codes "user" ∷ []) ∷ One (codes "machine" ∷ []) ∷ any_number_of (codes "string") ∷ debug_line ∷ any_number_of (codes "flag") ∷ any_number_of (codes "object") ∷ []) (codes "source") (view c.read_version.new.listing)) in
    let user = c.in_ok-user.ensures.left [] (One (codes "user" ∷ []) ∷ One (codes "machine" ∷ []) ∷ any_number_of (codes "string") ∷ debug_line ∷ any_number_of (codes "flag") ∷ any_number_of (codes "object") ∷ []) not_added (λ s t. user_form s t) source.1 (one_may [] (One (codes "machine" ∷ []) ∷ any_number_of (codes "string") ∷ debug_line ∷ any_number_of (codes "flag") ∷ any_number_of (codes "object") ∷ []) (codes "user") (view c.read_string.new.listing)) in
    let machine = c.in_ok-machine.ensures.left [] (One (codes "machine" ∷ []) ∷ any_number_of (codes "string") ∷ debug_line ∷ any_number_of (codes "flag") ∷ any_number_of (codes "object") ∷ []) not_added (λ s t. machine_form s t) user.1 (one_may [] (any_number_of (codes "string") ∷ debug_line ∷ any_number_of (codes "flag") ∷ any_number_of (codes "object") ∷ []) (codes "machine") (view c.read_string-2.new.listing)) in
    let table_read = c.in_ok-strings.ensures.left (debug_line ∷ any_number_of (codes "flag") ∷ any_number_of (codes "object") ∷ []) machine.1 in
    let strings = c.in_ok-strings.strings.items in
    let debug_time = c.in_ok-debug_time.ensures.left strings (any_number_of (codes "flag") ∷ any_number_of (codes "object") ∷ []) table_read.1 in
    let names = c.in_ok-names.names in
    let table = table_of strings names c.deref.result.now c.deref.ensures.value c.in_ok-names.ensures.words c.in_ok-names.ensures.spelled c.in_ok-names.ensures.count c.in_ok-strings.ensures.all.counted in
    let debug = c.in_ok-debug.ensures.left strings (any_number_of (codes "flag") ∷ any_number_of (codes "object") ∷ []) table debug_time.1 in
    read_err _ _ c.in_err-user_flags.field-0.0 c.from_residual-in_err-user_flags.result (search rules) (version.0 ∙ source.0 ∙ user.0 ∙ machine.0 ∙ table_read.0 ∙ debug_time.0 ∙ debug.0) (c.in_err-user_flags.ensures.left strings (any_number_of (codes "object") ∷ []) table debug.1)

pub returns-in_err-objects-clause-left : goal.returns-in_err-objects-clause-left
returns-in_err-objects-clause-left c = λ good.
    let version = c.in_ok-version.ensures.left [] (One (codes "source" ∷ []) ∷ One (codes "user" ∷ []) ∷ One (codes "machine" ∷ []) ∷ any_number_of (codes "string") ∷ debug_line ∷ any_number_of (codes "flag") ∷ any_number_of (codes "object") ∷ []) good in
    let source = c.in_ok-source.ensures.left [] (One (codes "source" ∷ []) ∷ One (codes "user" ∷ []) ∷ One (codes "machine" ∷ []) ∷ any_number_of (codes "string") ∷ debug_line ∷ any_number_of (codes "flag") ∷ any_number_of (codes "object") ∷ []) not_added (λ s t. source_form s t) version.1 (one_may [] (One (codes "user" ∷ []) ∷ One (codes "machine" ∷ []) ∷ any_number_of (codes "string") ∷ debug_line ∷ any_number_of (codes "flag") ∷ any_number_of (codes "object") ∷ []) (codes "source") (view c.read_version.new.listing)) in
    let user = c.in_ok-user.ensures.left [] (One (codes "user" ∷ []) ∷ One (codes "machine" ∷ []) ∷ any_number_of (codes "string") ∷ debug_line ∷ any_number_of (codes "flag") ∷ any_number_of (codes "object") ∷ []) not_added (λ s t. user_form s t) source.1 (one_may [] (One (codes "machine" ∷ []) ∷ any_number_of (codes "string") ∷ debug_line ∷ any_number_of (codes "flag") ∷ any_number_of (codes "object") ∷ []) (codes "user") (view c.read_string.new.listing)) in
    let machine = c.in_ok-machine.ensures.left [] (One (codes "machine" ∷ []) ∷ any_number_of (codes "string") ∷ debug_line ∷ any_number_of (codes "flag") ∷ any_number_of (codes "object") ∷ []) not_added (λ s t. machine_form s t) user.1 (one_may [] (any_number_of (codes "string") ∷ debug_line ∷ any_number_of (codes "flag") ∷ any_number_of (codes "object") ∷ []) (codes "machine") (view c.read_string-2.new.listing)) in
    let table_read = c.in_ok-strings.ensures.left (debug_line ∷ any_number_of (codes "flag") ∷ any_number_of (codes "object") ∷ []) machine.1 in
    let strings = c.in_ok-strings.strings.items in
    let debug_time = c.in_ok-debug_time.ensures.left strings (any_number_of (codes "flag") ∷ any_number_of (codes "object") ∷ []) table_read.1 in
    let names = c.in_ok-names.names in
    let table = table_of strings names c.deref.result.now c.deref.ensures.value c.in_ok-names.ensures.words c.in_ok-names.ensures.spelled c.in_ok-names.ensures.count c.in_ok-strings.ensures.all.counted in
    let debug = c.in_ok-debug.ensures.left strings (any_number_of (codes "flag") ∷ any_number_of (codes "object") ∷ []) table debug_time.1 in
    let user_flags = c.in_ok-user_flags.ensures.left strings (any_number_of (codes "object") ∷ []) table debug.1 in
    read_err _ _ c.in_err-objects.field-0.0 c.from_residual-in_err-objects.result (search rules) (version.0 ∙ source.0 ∙ user.0 ∙ machine.0 ∙ table_read.0 ∙ debug_time.0 ∙ debug.0 ∙ user_flags.0) (c.in_err-objects.ensures.left strings [] table user_flags.1)

pub returns-in_err-end-clause-left : goal.returns-in_err-end-clause-left
returns-in_err-end-clause-left c = λ good.
    let version = c.in_ok-version.ensures.left [] (One (codes "source" ∷ []) ∷ One (codes "user" ∷ []) ∷ One (codes "machine" ∷ []) ∷ any_number_of (codes "string") ∷ debug_line ∷ any_number_of (codes "flag") ∷ any_number_of (codes "object") ∷ []) good in
    let source = c.in_ok-source.ensures.left [] (One (codes "source" ∷ []) ∷ One (codes "user" ∷ []) ∷ One (codes "machine" ∷ []) ∷ any_number_of (codes "string") ∷ debug_line ∷ any_number_of (codes "flag") ∷ any_number_of (codes "object") ∷ []) not_added (λ s t. source_form s t) version.1 (one_may [] (One (codes "user" ∷ []) ∷ One (codes "machine" ∷ []) ∷ any_number_of (codes "string") ∷ debug_line ∷ any_number_of (codes "flag") ∷ any_number_of (codes "object") ∷ []) (codes "source") (view c.read_version.new.listing)) in
    let user = c.in_ok-user.ensures.left [] (One (codes "user" ∷ []) ∷ One (codes "machine" ∷ []) ∷ any_number_of (codes "string") ∷ debug_line ∷ any_number_of (codes "flag") ∷ any_number_of (codes "object") ∷ []) not_added (λ s t. user_form s t) source.1 (one_may [] (One (codes "machine" ∷ []) ∷ any_number_of (codes "string") ∷ debug_line ∷ any_number_of (codes "flag") ∷ any_number_of (codes "object") ∷ []) (codes "user") (view c.read_string.new.listing)) in
    let machine = c.in_ok-machine.ensures.left [] (One (codes "machine" ∷ []) ∷ any_number_of (codes "string") ∷ debug_line ∷ any_number_of (codes "flag") ∷ any_number_of (codes "object") ∷ []) not_added (λ s t. machine_form s t) user.1 (one_may [] (any_number_of (codes "string") ∷ debug_line ∷ any_number_of (codes "flag") ∷ any_number_of (codes "object") ∷ []) (codes "machine") (view c.read_string-2.new.listing)) in
    let table_read = c.in_ok-strings.ensures.left (debug_line ∷ any_number_of (codes "flag") ∷ any_number_of (codes "object") ∷ []) machine.1 in
    let strings = c.in_ok-strings.strings.items in
    let debug_time = c.in_ok-debug_time.ensures.left strings (any_number_of (codes "flag") ∷ any_number_of (codes "object") ∷ []) table_read.1 in
    let names = c.in_ok-names.names in
    let table = table_of strings names c.deref.result.now c.deref.ensures.value c.in_ok-names.ensures.words c.in_ok-names.ensures.spelled c.in_ok-names.ensures.count c.in_ok-strings.ensures.all.counted in
    let debug = c.in_ok-debug.ensures.left strings (any_number_of (codes "flag") ∷ any_number_of (codes "object") ∷ []) table debug_time.1 in
    let user_flags = c.in_ok-user_flags.ensures.left strings (any_number_of (codes "object") ∷ []) table debug.1 in
    let objects = c.in_ok-objects.ensures.left strings [] table user_flags.1 in
    read_err _ _ c.in_err-end.field-0.0 c.from_residual-in_err-end.result (search rules) (version.0 ∙ source.0 ∙ user.0 ∙ machine.0 ∙ table_read.0 ∙ debug_time.0 ∙ debug.0 ∙ user_flags.0 ∙ objects.0) (c.in_err-end.ensures.left strings objects.1)

pub returns-in_err-names-clause-left : goal.returns-in_err-names-clause-left
returns-in_err-names-clause-left c = λ good. memory_err _ _ _ c.from_residual-in_err-names.result (search rules)
