-- Loaded code means what it was made of.
use Rattle.std.proofs.Common.{subst}
use Rattle.pex_verify.specs.Offering.{KeepsTypes, TellsFunctions}
use Rattle.pex_verify.specs.Plain.{outline_of}
use Rattle.pex_verify.proofs.NativePlaces.{have_places}
use Rattle.pex_verify.proofs.Telling.{keeps_all_types, tells_functions}
use Rattle.pex_verify.proofs.offering.verified_scripts_offer_what_they_tell.Goals as goal

pub returns-clause-tells : goal.returns-clause-tells
returns-clause-tells c = λ set whole. subst (TellsFunctions (outline_of set)) whole.means (tells_functions whole.judged)

pub returns-clause-keeps : goal.returns-clause-keeps
returns-clause-keeps c = λ set whole. subst (KeepsTypes (outline_of set)) whole.means (keeps_all_types whole.judged)

pub returns-clause-places : goal.returns-clause-places
returns-clause-places c = λ set whole. have_places whole.judged
