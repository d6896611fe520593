use Rattle.std.proofs.Common.{map}
use Rattle.std.specs.String.{string_bytes}
use Rattle.papyrus_cmd.proofs.CutShort.{cut_short}
use Rattle.papyrus_cmd.proofs.Statuses.{all_read, answered, cut_file, files_kept, not_read, not_written, quiet, unread_kept}
use Rattle.papyrus_cmd.proofs.top.papyrus.Goals as goal

pub returns-clause-answered : goal.returns-clause-answered
returns-clause-answered g c = answered _ _ _ c.run-ending.result c.tell.result _ _ _ _ _ _ c.run-ending.ensures.output c.tell.ensures c.run-ending.ensures.files

pub returns-clause-cut_short : goal.returns-clause-cut_short
returns-clause-cut_short g c = cut_short _ _ c.run-ending.result c.tell.result _ _ _ _ _ _ c.run-ending.ensures.output c.tell.ensures

pub returns-clause-cut_file : goal.returns-clause-cut_file
returns-clause-cut_file g c = λ cut. cut_file _ c.run-ending.result c.tell.result _ _ _ _ _ _ _ _ c.tell.ensures cut c.run-ending.ensures.files

pub returns-clause-kept : goal.returns-clause-kept
returns-clause-kept g c = λ none. files_kept (map string_bytes c.args.words.now) c.run-ending.result _ _ (g.D.Desk.holds c.args.desk.now) (g.D.Desk.holds c.run-ending.new.desk) c.run-ending.ensures.files none

pub returns-clause-quiet : goal.returns-clause-quiet
returns-clause-quiet g c = λ whole. quiet _ c.run-ending.result c.tell.result _ _ _ _ _ _ _ _ c.run-ending.ensures.faults c.tell.ensures whole

pub returns-clause-not_read : goal.returns-clause-not_read
returns-clause-not_read g c =
    not_read _ _ c.run-ending.result c.tell.result _ _ _ _ _ _ _ _ _ c.run-ending.ensures.output c.run-ending.ensures.missed c.run-ending.ensures.read_faults c.tell.ensures

pub returns-clause-all_read : goal.returns-clause-all_read
returns-clause-all_read g c = λ answer. all_read _ c.run-ending.result c.tell.result _ _ _ _ _ _ c.run-ending.ensures.read_faults c.tell.ensures answer

pub returns-clause-unread_kept : goal.returns-clause-unread_kept
returns-clause-unread_kept g c = λ three. unread_kept _ c.run-ending.result c.tell.result _ _ _ _ _ _ _ _ c.tell.ensures three c.run-ending.ensures.files

pub returns-clause-not_written : goal.returns-clause-not_written
returns-clause-not_written g c = λ four. not_written _ c.run-ending.result c.tell.result _ _ _ _ _ _ _ _ c.run-ending.ensures.faults c.tell.ensures four
