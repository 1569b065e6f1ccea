use Rattle.std.proofs.Common.{ap, subst, map, string_bytes, List}
use Rattle.std.specs.Prelude.{Ok, Err}
use Rattle.clap.specs.Words.{App, Row, app_of, is_simple, is_simple_and_free}
use Rattle.wjs_options.specs.Command.{IsCommand, command}
use Rattle.wjs_options.specs.Options.{Gives}
use Rattle.wjs_options.proofs.CommandFacts.{has_options}
use Rattle.wjs_options.proofs.ReadLemmas.{memory_answers, says_weaker, some_kind}
use Rattle.wjs_options.proofs.SameCommand.{answers_same, command_is}
use Rattle.wjs_options.proofs.reading.options.Goals as goal

pub read-requires : goal.read-requires
read-requires c =
    let made = c.in_ok-command.ensures in
    has_options made.0 c.in_ok-command.command c.in-Ok.matches made.1 made.2 c.in-Ok.ensures.parsed

pub returns-in_err-command : goal.returns-in_err-command
returns-in_err-command c =
    let words = map string_bytes c.args.words.now in
    record {
      command = memory_answers command words c.from_residual.result c.from_residual.ensures.1;
      any = λ app is. memory_answers app words c.from_residual.result c.from_residual.ensures.1;
    }

pub returns-in-Ok : goal.returns-in-Ok
returns-in-Ok c =
    let made = c.in_ok-command.ensures in
    let app = app_of c.in_ok-command.command in
    let words = map string_bytes c.args.words.now in
    let rows = (c.in-Ok.ensures.matches (ap is_simple made.2)).0 in
    let answers = λ (other : App) (is : IsCommand other). answers_same app other made is words (Ok c.read.result) (
      c.in-Ok.ensures.kinds (ap is_simple_and_free made.2),
      subst (λ (r : List Row). Gives r c.read.result) rows c.read.ensures,
    ) in
    record { command = answers command command_is; any = answers }

pub returns-in-Err : goal.returns-in-Err
returns-in-Err c =
    let made = c.in_ok-command.ensures in
    let app = app_of c.in_ok-command.command in
    let words = map string_bytes c.args.words.now in
    let kinds = c.in-Err.ensures.kinds (ap is_simple_and_free made.2) in
    let answers = λ (other : App) (is : IsCommand other). answers_same app other made is words (Err c.fault.result)
    (says_weaker _ _ c.fault.result (some_kind _ c.in-Err.error kinds) c.fault.ensures) in
    record { command = answers command command_is; any = answers }
