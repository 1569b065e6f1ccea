use Rattle.wjs_io.specs.Streams.{over}
use Rattle.wjs_command.specs.Due.{owed_in}
use Rattle.wjs_command.specs.Plays.{OfPlay}
use Rattle.wjs_command.proofs.Deliveries.{comes_as}
use Rattle.wjs_command.proofs.Scripts.{served_comes}
use Rattle.wjs_command.proofs.Played.{most_play, play_owed}
use Rattle.wjs_command.proofs.performing.perform.Goals as goal

pub play_parts-requires-clause-within : goal.play_parts-requires-clause-within
play_parts-requires-clause-within g c = most_play c.args.options.mode c.args.bytes.now c.in-Play.is c.requires.within

pub play_parts-requires-clause-budget : goal.play_parts-requires-clause-budget
play_parts-requires-clause-budget g c = c.requires.steps c.in-Play.is

pub play_parts-requires-clause-turn : goal.play_parts-requires-clause-turn
play_parts-requires-clause-turn g c = c.requires.turn c.in-Play.is

pub returns-in-Play-clause-told : goal.returns-in-Play-clause-told
returns-in-Play-clause-told g c =
    let seen = g.O.Sink.seen in
    let options = c.args.options in
    let bytes = c.args.bytes.now in
    let out = over seen c.args.out.now c.play_parts.new.out in
    served_comes options bytes out c.play_parts.result c.requires.within
    (comes_as (OfPlay options.steps options.turn bytes) (owed_in options.mode options.steps options.turn bytes) out c.play_parts.result
    (λ told h. play_owed options.mode options.steps options.turn bytes told c.in-Play.is h) c.play_parts.ensures.told)

pub returns-in-Play-clause-alone : goal.returns-in-Play-clause-alone
returns-in-Play-clause-alone g c = λ is. c.play_parts.ensures.alone

pub returns-in_default-clause-alone : goal.returns-in_default-clause-alone
returns-in_default-clause-alone g c = λ is. absurd (c.in_default.not-Play is)
