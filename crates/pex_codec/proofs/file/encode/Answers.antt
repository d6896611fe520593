use Rattle.std.proofs.Common.{ap, length, arith}
use Rattle.std.proofs.lemmas.Result.{err_from_is_err_and}
use Rattle.pex_values.specs.Fit.{Fits}
use Rattle.pex_values.specs.Plain.{plain}
use Rattle.pex_values.specs.Spelling.{spelling}
use Rattle.pex_codec.specs.Writing.{FitsParts}
use Rattle.pex_codec.proofs.Whole.{parts_of, whole_of, refused}
use Rattle.pex_codec.proofs.file.encode.Goals as goal

pub returns-in_err-put_value-clause-too_many : goal.returns-in_err-put_value-clause-too_many
returns-in_err-put_value-clause-too_many c =
    let v = plain c.args.value.now in
    let p = err_from_is_err_and c.from_residual.result c.from_residual.ensures.1 in
    refused (Unit {0}) c.in_err-put_value.field-0.0 p.0 c.from_residual.result c.new-out.result.items c.put_value.new.out.items (spelling v) (FitsParts v) (Fits v) p.1 p.2 c.in_err-put_value.ensures (parts_of v)

pub returns-clause-encoded : goal.returns-clause-encoded
returns-clause-encoded c =
    let v = plain c.args.value.now in
    let wrote = rw c.new-out.ensures.items at c.in_ok-put_value.ensures in
    record {
      shaped = c.requires;
      fits = whole_of v wrote.0 (omega (arith, ap length wrote.1, c.len.ensures));
      spelled = wrote.1;
    }
