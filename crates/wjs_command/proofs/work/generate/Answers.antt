use Rattle.std.proofs.Common.{List, ℕ, subst, ◌∙◌}
use Rattle.wjs_io.specs.Streams.{over}
use Rattle.wjs_command.specs.Due.{IsTold}
use Rattle.wjs_command.specs.Attempt.{Comes}
use Rattle.wjs_command.proofs.Attempts.{not_both}
use Rattle.wjs_gen.specs.Script.{script}
use Rattle.wjs_command.proofs.Deliveries.{spent_comes}
use Rattle.wjs_command.proofs.work.generate.Goals as goal

-- a generated script isn't played
pub perform-requires-clause-steps : goal.perform-requires-clause-steps
perform-requires-clause-steps g c = λ is. absurd (not_both c.args.options.mode c.requires.mode is)

pub perform-requires-clause-turn : goal.perform-requires-clause-turn
perform-requires-clause-turn g c = λ is. absurd (not_both c.args.options.mode c.requires.mode is)

pub returns : goal.returns
returns g c =
    let seen = g.O.Sink.seen in
    let P : List ℕ → Type 0 = λ bytes. Comes (IsTold c.args.options bytes) (over seen c.args.out.now c.perform.new.out) c.perform.result in
    subst P (c.as_slice.ensures.value ∙ c.in_ok-bytes.ensures.script) c.perform.ensures.told

pub returns-in_err-bytes : goal.returns-in_err-bytes
returns-in_err-bytes g c =
    let seen = g.O.Sink.seen c.args.out.now in
    spent_comes (IsTold c.args.options (script c.args.options.number)) seen.bytes seen.faults c.from_residual.result c.from_residual.ensures.1
