-- The tables of a set that was verified agree with its scripts, so that it is typed.
use Rattle.std.proofs.Common.{subst}
use Rattle.run_laws.proofs.Kept.{run_keeps}
use Rattle.code_meaning.specs.Engine.{code_engine}
use Rattle.run_laws.specs.TypedCode.{IsTypedSet, code_types}
use Rattle.run_laws.proofs.CodeEnters.{code_keeps}
use Rattle.pex_verify.specs.JudgedCode as judged
use Rattle.pex_verify.specs.Plain.{outline_of, scripts_of}
use Rattle.pex_verify.specs.Agreement.{Agrees}
use Rattle.pex_verify.specs.Sets.{JudgedSet, LoadedSet}
use Rattle.pex_verify.specs.Whole.{IsJudgedSet, IsWholeSet}
use Rattle.pex_verify.proofs.Context.{tables}
use Rattle.pex_verify.proofs.Final.{set_is_typed}
use Rattle.pex_verify.proofs.Methods.{functions_are_offered}
use Rattle.pex_verify.proofs.PropertyHeads.{properties_are_offered}
use Rattle.pex_verify.proofs.Relatives.{have_types, names_agree, parents_agree}
use Rattle.pex_verify.proofs.typed_sets.verified_sets_are_typed.Goals as goal

tables_agree : (set : JudgedSet) (whole : IsJudgedSet set) → Agrees (tables whole) whole.judged.names (judged.outline_of set) (judged.scripts_of set)
tables_agree set whole = record {
  types = have_types whole;
  parents = parents_agree whole;
  named = names_agree whole;
  functions = functions_are_offered whole;
  properties = properties_are_offered whole;
}

-- loaded code means what it was made of
typed : (set : LoadedSet) → IsWholeSet set → IsTypedSet (outline_of set) (scripts_of set)
typed set whole =
    let before : JudgedSet = record { outline = set.outline; files = set.files; scripts = whole.scripts } in
    subst (IsTypedSet (outline_of set)) whole.means (set_is_typed whole.judged (tables_agree before whole.judged))

pub returns : goal.returns
returns c = record {
  typed = typed;
  keeps = λ set whole. code_keeps (outline_of set) (scripts_of set) (typed set whole);
  runs = λ set whole scene kinds turns s. run_keeps (code_types (outline_of set) (scripts_of set)) (code_engine (outline_of set) (scripts_of set)) (code_keeps (outline_of set) (scripts_of set) (typed set whole)) scene kinds turns s;
}
