use Rattle.std.proofs.Common.{arith, ◌≡◌, ap, inr, length, map}
use Rattle.std.specs.String.{string_bytes}
use Rattle.std.proofs.lemmas.List.{length-map}
use Rattle.pex_values.specs.Plain.{plain}
use Rattle.papyrus_cmd.proofs.Lifting.{early_leaves, early_usage, early_writes, faulted_leaves, have_sources, set_early, set_output, unlifted_early, unlifted_misses, unlifted_output, unlifted_reads, unlifted_word}
use Rattle.papyrus_cmd.proofs.lift.lift.Goals as goal

-- ---- files that were not read, or may not run together

pub returns-in-Err-clause-holds : goal.returns-in-Err-clause-holds
returns-in-Err-clause-holds g c =
    let names = map string_bytes c.args.files.now in
    early_leaves names c.in-Err.ending _ _ (set_early names _ c.in-Err.ending c.in-Err.ensures.ends) c.in-Err.ensures.holds

pub returns-in-Err-clause-write_faults : goal.returns-in-Err-clause-write_faults
returns-in-Err-clause-write_faults g c =
    early_writes c.in-Err.ending _ _ (set_early (map string_bytes c.args.files.now) _ c.in-Err.ending c.in-Err.ensures.ends) c.in-Err.ensures.write_faults

pub returns-in-Err-clause-never_usage : goal.returns-in-Err-clause-never_usage
returns-in-Err-clause-never_usage g c = early_usage c.in-Err.ending (set_early (map string_bytes c.args.files.now) _ c.in-Err.ending c.in-Err.ensures.ends)

pub returns-in-Err-clause-output : goal.returns-in-Err-clause-output
returns-in-Err-clause-output g c = set_output (map string_bytes c.args.files.now) (g.D.Desk.holds c.args.desk.now) c.in-Err.ending c.in-Err.ensures.ends

-- ---- files without sources

pub returns-in-Err-found-clause-holds : goal.returns-in-Err-found-clause-holds
returns-in-Err-found-clause-holds g c =
    let lifts = rw c.in-Err-found.is at c.lifted-found.ensures in
    early_leaves (map string_bytes c.args.files.now) c.in-Err-found.ending _ _ (unlifted_early (map plain c.files.result.now.items) c.in-Err-found.ending lifts) c.in-Ok.ensures.holds

pub returns-in-Err-found-clause-write_faults : goal.returns-in-Err-found-clause-write_faults
returns-in-Err-found-clause-write_faults g c =
    let lifts = rw c.in-Err-found.is at c.lifted-found.ensures in
    early_writes c.in-Err-found.ending _ _ (unlifted_early (map plain c.files.result.now.items) c.in-Err-found.ending lifts) c.in-Ok.ensures.write_faults

pub returns-in-Err-found-clause-read_faults : goal.returns-in-Err-found-clause-read_faults
returns-in-Err-found-clause-read_faults g c =
    let lifts = rw c.in-Err-found.is at c.lifted-found.ensures in
    unlifted_reads (map plain c.files.result.now.items) c.in-Err-found.ending _ _ lifts c.in-Ok.ensures.read_faults

pub returns-in-Err-found-clause-missed : goal.returns-in-Err-found-clause-missed
returns-in-Err-found-clause-missed g c =
    let lifts = rw c.in-Err-found.is at c.lifted-found.ensures in
    unlifted_misses (map string_bytes c.args.files.now) (map plain c.files.result.now.items) c.in-Err-found.ending _ lifts

pub returns-in-Err-found-clause-never_usage : goal.returns-in-Err-found-clause-never_usage
returns-in-Err-found-clause-never_usage g c =
    let lifts = rw c.in-Err-found.is at c.lifted-found.ensures in
    early_usage c.in-Err-found.ending (unlifted_early (map plain c.files.result.now.items) c.in-Err-found.ending lifts)

pub returns-in-Err-found-clause-word : goal.returns-in-Err-found-clause-word
returns-in-Err-found-clause-word g c =
    let lifts = rw c.in-Err-found.is at c.lifted-found.ensures in
    unlifted_word (length c.args.files.now) (map plain c.files.result.now.items) c.in-Err-found.ending c.requires.some lifts

pub returns-in-Err-found-clause-output : goal.returns-in-Err-found-clause-output
returns-in-Err-found-clause-output g c =
    let lifts = rw c.in-Err-found.is at c.lifted-found.ensures in
    unlifted_output (map string_bytes c.args.files.now) (g.D.Desk.holds c.args.desk.now) (map plain c.files.result.now.items) c.in-Err-found.ending c.in-Ok.ensures.held lifts

-- ---- sources

pub returns-in-Ok-write_sources-clause-holds : goal.returns-in-Ok-write_sources-clause-holds
returns-in-Ok-write_sources-clause-holds g c =
    let names = map string_bytes c.args.files.now in
    let lifts = rw c.in-Ok-found.is at c.lifted-found.ensures in
    let same : length names ≡ length c.args.files.now = length-map c.args.files.now string_bytes in
    let counted : length c.files.result.now.items ≡ length names = omega (arith, same, c.in-Ok.ensures.count, ap length c.files.ensures.files) in
    let have = have_sources names (g.D.Desk.holds c.args.desk.now) c.files.result.now.items c.in-Ok-found.texts c.files.ensures.valid (rw c.files.ensures.files c.in-Ok.ensures.spelled) counted lifts in
    let writes = rw (c.deref.ensures.value, c.in-Ok.ensures.holds) at c.in-Ok-write_sources.ensures.holds in
    (c.in-Ok-found.texts.items, have, writes)

-- ---- sources that were not all written

pub returns-clause-holds : goal.returns-clause-holds
returns-clause-holds g c =
    let names = map string_bytes c.args.files.now in
    let lifts = rw c.in-Ok-found.is at c.lifted-found.ensures in
    let same : length names ≡ length c.args.files.now = length-map c.args.files.now string_bytes in
    let counted : length c.files.result.now.items ≡ length names = omega (arith, same, c.in-Ok.ensures.count, ap length c.files.ensures.files) in
    let have = have_sources names (g.D.Desk.holds c.args.desk.now) c.files.result.now.items c.in-Ok-found.texts c.files.ensures.valid (rw c.files.ensures.files c.in-Ok.ensures.spelled) counted lifts in
    let writes = rw (c.deref.ensures.value, c.in-Ok.ensures.holds) at c.in-Err-write_sources.ensures.holds in
    rw c.from.ensures (faulted_leaves names c.in-Err-write_sources.fault _ _ (inr (c.in-Ok-found.texts.items, have, writes)))
