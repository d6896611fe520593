use Rattle.std.proofs.Common.{List, ◌++◌, map, refl, sym, ap, ◌∙◌, vec_len, rules}
use Rattle.pex_verify.specs.declared.value_type.ValueType.{ValueType}
use Rattle.pex_verify.specs.declared.judged.JudgedFunction.{JudgedFunction}
use Rattle.pex_verify.specs.Signatures.{has_bit}
use Rattle.pex_verify.specs.Matching.{parameter_type, parameter_types, local_type, local_types}
use Rattle.pex_verify.proofs.Standing.{code_is_typed}
use Rattle.pex_verify.proofs.function.load_function.Goals as goal

pub returns-clause-sound : goal.returns-clause-sound
returns-clause-sound c = record {
  answer = c.in_ok-result.ensures.among (vec_len c.args.home.now.set.now.heads) c.result_type-answer.ensures.among;
  parameters = c.in_ok-parameters.ensures.typed;
  locals = c.in_ok-locals.ensures.typed;
  lines = search rules;
  code = search rules;
}

pub returns-clause-written : goal.returns-clause-written
returns-clause-written c =
    let bits = c.args.function.now.bits in
    let loaded : JudgedFunction = record {
      name = c.in_ok-title.field-0;
      result = c.in_ok-result.result;
      is_global = has_bit bits 1;
      is_native = has_bit bits 2;
      parameters = c.in_ok-parameters.parameters;
      locals = c.in_ok-locals.locals;
      code = c.in_ok-code.code;
      lines = c.in_ok-lines.lines;
    } in
    let slots = c.in_ok-locals.ensures.slots
    ∙ ap (λ (types : List ValueType). types ++ map local_type c.in_ok-locals.locals.items) (c.in_ok-parameters.ensures.slots
    ∙ ap (λ (types : List ValueType). types ++ map parameter_type c.in_ok-parameters.parameters.items) c.clear.ensures) in
    record {
      name = search rules;
      parameters = c.in_ok-parameters.ensures.kinds ∙ ap (parameter_types c.args.home.now.set.now.types c.args.source.now.names.now) c.as_slice.ensures.value;
      locals = c.in_ok-locals.ensures.kinds ∙ ap (local_types c.args.home.now.set.now.types c.args.source.now.names.now) c.as_slice-2.ensures.value;
      result = search rules;
      is_global = search rules;
      is_native = search rules;
      typed = code_is_typed _ loaded slots c.in_ok-parameters.ensures.typed c.in_ok-locals.ensures.typed refl (sym c.in_ok-result.ensures.known) c.in_ok-code.ensures.typed;
    }
