-- The parts of a listing, one after another.
use Rattle.std.proofs.Common.{◌≡◌, ℕ, List, [], ◌++◌, refl, ap, ◌∙◌, append-nil}
use Rattle.std.specs.Prelude.{Option, codes, option_map, map}
use Rattle.std.specs.List.{flat_map}
use Rattle.pex_values.specs.declared.values.Pex.{Pex}
use Rattle.pex_values.specs.Plain.{plain, plain_debug, plain_object}
use Rattle.pex_listing.specs.declared.listing.Listing.{Listing}
use Rattle.pex_listing.specs.Lines.{first_line, string_line, table_lines}
use Rattle.pex_listing.specs.Listing as form
use Rattle.pex_listing.specs.Opened.{TakesLines, text_left}
use Rattle.pex_listing.specs.Reading.{debug_start}
use Rattle.pex_listing.proofs.Taken.{lines_more, lines_as}

-- the parts of a value, read one after another, and the bytes of each
pub record TakesHead (v : Pex) (l0 l1 l2 l3 l4 l5 : Listing) (a b c d e : ℕ) : Type 0 where
  pub first : TakesLines (first_line v.minor v.time) a l0 l1
  pub source : TakesLines (string_line (codes "source") v.source) b l1 l2
  pub user : TakesLines (string_line (codes "user") v.user) c l2 l3
  pub machine : TakesLines (string_line (codes "machine") v.machine) d l3 l4
  pub table : TakesLines (table_lines v.strings.items) e l4 l5

pub record TakesRest (s : ℕ → List ℕ) (v : Pex) (time : Option ℕ) (l5 l6 l7 l8 l9 : Listing) (f g h i : ℕ) : Type 0 where
  pub start : TakesLines (debug_start time) f l5 l6
  pub same : debug_start time ≡ form.debug_line (option_map plain_debug v.debug)
  pub entries : TakesLines (flat_map (form.lines s) (form.entries (option_map plain_debug v.debug))) g l6 l7
  pub flags : TakesLines (flat_map (form.flag s) v.user_flags.items) h l7 l8
  pub objects : TakesLines (flat_map (form.object s) (map plain_object v.objects.items)) i l8 l9
  pub end : text_left l9 ≡ []

pub whole : {s : ℕ → List ℕ} {v : Pex} {time : Option ℕ} {l0 l1 l2 l3 l4 l5 l6 l7 l8 l9 : Listing} {a b c d e f g h i : ℕ} → TakesHead v l0 l1 l2 l3 l4 l5 a b c d e → TakesRest s v time l5 l6 l7 l8 l9 f g h i
    → text_left l0 ≡ form.all_lines s (plain v)
unfolding form.heading form.debug form.all_lines
whole {s} {v} {time} {l0} {l1} {l2} {l3} {l4} {l5} {l6} {l7} {l8} {l9} {a} {b} {c} {d} {e} {f} {g} {h} {i} head rest =
    let heading = lines_more head.first (lines_more head.source (lines_more head.user head.machine)) in
    let debug = lines_more (lines_as rest.same refl rest.start) rest.entries in
    let all = lines_more (lines_more (lines_more (lines_more heading head.table) debug) rest.flags) rest.objects in
    let text = form.all_lines s (plain v) in
    all.read ∙ (ap (λ t. text ++ t) rest.end ∙ append-nil text)
