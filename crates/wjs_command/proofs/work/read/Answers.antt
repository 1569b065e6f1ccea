use Rattle.std.proofs.Common.{◌≡◌, List, ℕ, ◌+◌, ◌≤◌, Err, ap, subst, length, ◌∙◌}
use Rattle.wjs_io.specs.Streams.{over}
use Rattle.wjs_io.specs.Stops.{StopsAfter}
use Rattle.wjs_io.specs.declared.loops.ReadFault.{ReadFault}
use Rattle.wjs_options.specs.declared.mode.Mode.TheVariants.{Play}
use Rattle.wjs_command.specs.Due.{IsTold}
use Rattle.wjs_command.specs.Plays.{PlayedAlone}
use Rattle.wjs_command.specs.Attempt.{Comes, ComesAlone}
use Rattle.wjs_command.proofs.Attempts.{serve_read, serve_failed, serve_spent, serve_long}
use Rattle.wjs_command.proofs.work.read.Goals as goal

pub perform-requires-clause-steps : goal.perform-requires-clause-steps
perform-requires-clause-steps g c = λ is. c.requires.steps

pub perform-requires-clause-turn : goal.perform-requires-clause-turn
perform-requires-clause-turn g c = λ is. c.requires.turn

pub returns-in-Ok : goal.returns-in-Ok
returns-in-Ok g c =
    let seen = g.S.Source.seen in
    let out = over g.O.Sink.seen c.args.out.now c.perform.new.out in
    let P : List ℕ → Type 0 = λ bytes. Comes (IsTold c.args.options bytes) out c.perform.result in
    let Q : List ℕ → Type 0 = λ bytes. c.args.options.mode ≡ Play → ComesAlone (PlayedAlone c.args.options.steps bytes) out c.perform.result in
    serve_read c.args.options (seen c.args.source.now).bytes (seen c.read_all.new.source).bytes (seen c.args.source.now).faults
    (seen c.read_all.new.source).faults out c.in-Ok.bytes.items c.perform.result
    c.requires.mode c.in-Ok.ensures.all c.in-Ok.ensures.end (subst (λ (n : ℕ). length c.in-Ok.bytes.items ≤ n) c.most_bytes.ensures c.in-Ok.ensures.within) (subst P c.as_slice.ensures.value c.perform.ensures.told) (subst Q c.as_slice.ensures.value c.perform.ensures.alone)

pub returns-in-Err-TooLong : goal.returns-in-Err-TooLong
returns-in-Err-TooLong g c =
    let seen = g.S.Source.seen in
    let P : ReadFault → Type 0 = λ fault. StopsAfter c.most_bytes.result (seen c.args.source.now).bytes (seen c.read_all.new.source).bytes fault in
    let stops = subst P c.in-Err-TooLong.field-0-is c.in-Err-TooLong.ensures.stops in
    serve_long c.args.options (seen c.args.source.now).bytes (seen c.read_all.new.source).bytes (g.O.Sink.seen c.args.out.now).bytes
    (seen c.args.source.now).faults (seen c.read_all.new.source).faults (g.O.Sink.seen c.args.out.now).faults stops.0 c.refuse_by.result
    c.requires.mode (stops.1 ∙ ap (λ (n : ℕ). n + 1) c.most_bytes.ensures) stops.2 c.refuse_by.ensures

pub returns-in-Err-Failed : goal.returns-in-Err-Failed
returns-in-Err-Failed g c =
    let seen = g.S.Source.seen in
    serve_failed c.args.options (seen c.args.source.now).bytes (seen c.read_all.new.source).bytes (g.O.Sink.seen c.args.out.now).bytes
    (seen c.args.source.now).faults (seen c.read_all.new.source).faults (g.O.Sink.seen c.args.out.now).faults
    (c.in-Err-Failed.ensures.failed (ap Err c.in-Err-Failed.field-0-is))

pub returns-in-Err-OutOfMemory : goal.returns-in-Err-OutOfMemory
returns-in-Err-OutOfMemory g c =
    let seen = g.S.Source.seen in
    serve_spent c.args.options (seen c.args.source.now).bytes (seen c.read_all.new.source).bytes (g.O.Sink.seen c.args.out.now).bytes
    (seen c.args.source.now).faults (seen c.read_all.new.source).faults (g.O.Sink.seen c.args.out.now).faults
