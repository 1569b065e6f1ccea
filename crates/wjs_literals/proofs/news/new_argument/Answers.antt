use Rattle.std.proofs.Common.{refl, ◌∷◌}
use Rattle.wjs_step_common.proofs.Following.{follows_as}
use Rattle.wjs_model.specs.declared.frame.Held.TheVariants as holds
use Rattle.wjs_frames.proofs.Handling.{runs_held}
use Rattle.wjs_literals.proofs.news.new_argument.Goals as goal

pub returns : goal.returns
returns g c = follows_as _ _ _ _ _ _ (λ grows. rw (c.in_ok-hold.ensures, c.in_ok-next.ensures) refl) c.new_next.ensures

pub new_next-requires : goal.new_next-requires
new_next-requires g c = record {
  runs = rw c.in_ok-hold.ensures (runs_held g.S.WorldStore.meaning c.args.config.now c.args.frame (holds.Value c.args.value ∷ c.args.frame.held)
      c.requires.runs (c.requires.value, c.requires.runs.there.held));
}
