use Rattle.std.proofs.Common.{ap, sym, ◌∙◌}
use Rattle.wjs_model.specs.Frames.{on_last}
use Rattle.wjs_model.specs.declared.frame.Activation.{Activation as Frame}
use Rattle.wjs_model.specs.Begun.{resumed}
use Rattle.wjs_model.proofs.Tops.{none-last}
use Rattle.wjs_frames.proofs.Moving.{follows_on_last, follows_ended}
use Rattle.wjs_frames.proofs.ends.finish.Goals as goal

pub returns-then-give : goal.returns-then-give
returns-then-give g c =
    follows_on_last g.S.WorldStore.meaning c.args.config.now c.args.completion c.give.new.self c.requires.running.state c.requires.running.base
    c.requires.completion (sym c.if-give.true ∙ c.give.ensures.any) c.give.ensures.given

pub returns : goal.returns
returns g c =
    let give : Frame → Frame = λ f. record f { phase = resumed f.phase c.args.completion } in
    let none = none-last c.args.config.now.frames (sym c.if-give.false ∙ c.give.ensures.any) in
    follows_ended g.S.WorldStore.meaning c.args.config.now c.args.completion c.give.new.self c.ended-config.result c.requires.running.base
    c.requires.completion none (c.give.ensures.given ∙ ap (on_last give) none) c.ended-config.ensures
