use Rattle.std.proofs.Common.{◌≡◌, ◌∙◌, Option, Some, None, ap, refl, sym}
use Rattle.std.specs.Option.{option_copied}
use Rattle.code_meaning.specs.LookUp.{script_of}
use Rattle.loaded_code.specs.declared.script.LoadedFunction.{LoadedFunction}
use Rattle.body_runner.specs.declared.body.Home.{Home}
use Rattle.body_runner.specs.Frames.{place_of}
use Rattle.body_runner.specs.Settings.{function_of}
use Rattle.stack_machine.proofs.Passes.{body_there, frame_stops, none_found, ready_there, stops_without}
use Rattle.stack_machine.proofs.run.run.Goals as goal

pub returns-in_default-clause-ran : goal.returns-in_default-clause-ran
returns-in_default-clause-ran g c = λ may.
    let none : ◌≡◌ {A = Option LoadedFunction} None (function_of c.args.turn.now.setting.now.loaded.scripts c.args.innermost.now.body) = sym (ap option_copied (none_found c.function.result c.in_default.not-Some)) ∙ c.function.ensures.function in
    stops_without c.args.turn.now c.args.has_room c.args.reply _ _ c.args.innermost.now c.args.store.now none

pub returns-clause-ran : goal.returns-clause-ran
returns-clause-ran g c = λ may.
    let frame = c.args.innermost.now in
    let home : Home = record { turn = c.args.turn; function = c.in-Some.function; instance = frame.instance; script = c.script.result; has_room = c.args.has_room } in
    let found : ◌≡◌ {A = Option LoadedFunction} (Some c.in-Some.function.now) (function_of c.args.turn.now.setting.now.loaded.scripts frame.body) = sym (ap option_copied c.in-Some.is) ∙ c.function.ensures.function in
    let script : c.script.result ≡ script_of (place_of frame.body) = c.script.ensures in
    let ready = ready_there home frame.body found script frame c.args.store.now.instances refl refl c.in-Some.ensures.coded may in
    frame_stops home frame.body found script c.args.reply c.in_ok-halt.halt _ _ _ _ frame _ c.args.store.now _ refl refl refl refl refl (c.in_ok-halt.ensures.stops (place_of frame.body) (body_there home frame.body found script) ready may.place)
