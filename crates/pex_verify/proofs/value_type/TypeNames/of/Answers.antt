use Rattle.pex_verify.proofs.TypeNames.{types_given}
use Rattle.pex_verify.proofs.value_type.TypeNames.of.Goals as goal

pub returns-clause-meant : goal.returns-clause-meant
returns-clause-meant c = types_given c.args.table.now c.args.objects.now (record { scripts = c.count.result; meanings = c.in_ok-meanings_of_names.field-0.items }) c.in_ok-meanings_of_names.ensures.meant
