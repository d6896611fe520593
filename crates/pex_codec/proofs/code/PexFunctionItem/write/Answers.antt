use Rattle.pex_values.specs.Spelling.{function}
use Rattle.pex_codec.proofs.Lists.{four_parts}
use Rattle.pex_codec.proofs.code.PexFunctionItem.write.Goals as goal

pub returns : goal.returns
unfolding function
returns c =
    let parameters = rw c.deref.ensures.value at c.in_ok-put_list.ensures in
    let locals = rw c.deref-2.ensures.value at c.in_ok-put_list-2.ensures in
    let code = rw c.deref-3.ensures.value at c.in_ok-put_list-3.ensures in (
      record { parameters = parameters.0; locals = locals.0; code = code.0.0; instructions = code.0.1 },
      four_parts _ _ _ _ _ _ _ _ _ c.in_ok-put_heading.ensures parameters.1 locals.1 code.1,
    )
