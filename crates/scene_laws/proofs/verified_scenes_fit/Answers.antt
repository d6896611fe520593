use Rattle.std.proofs.Common.{◌<◌, length, arith}
use Rattle.pex_verify.specs.Plain.{scripts_of}
use Rattle.scene_laws.proofs.Offered.{natives_have_places, offers}
use Rattle.scene_laws.proofs.Verified.{outline_fits}
use Rattle.scene_laws.proofs.verified_scenes_fit.Goals as goal

pub returns : goal.returns
returns c = λ set scene whole bound.
    let ready = c.verified_outlines_are_as_meant.ensures.ready set whole in
    let typed = c.verified_sets_are_typed.ensures.typed set whole in
    let told = c.verified_scripts_offer_what_they_tell.ensures in
    let sound = whole.judged.sound.scripts in
    let same = sound.one_each in
    let most = sound.numbered in
    let few : length set.outline < 65536 = omega (arith, same, most) in
    let fits = outline_fits set.outline typed.above ready few (natives_have_places set.outline (told.places set whole)) in
    c.scene_fits.ensures set.outline (scripts_of set) scene fits (offers set.outline (scripts_of set) (told.tells set whole) (told.keeps set whole) typed.above) bound
