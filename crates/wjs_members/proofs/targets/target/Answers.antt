use Rattle.std.proofs.Common.{inl, refl, ◌∙◌}
use Rattle.wjs_step_common.proofs.Following.{follows_as}
use Rattle.wjs_tree.specs.declared.node.Node.TheVariants as nodes
use Rattle.wjs_frames.proofs.Parting.{stands_here}
use Rattle.wjs_members.proofs.targets.target.Goals as goal

pub enter_last-requires-clause-part : goal.enter_last-requires-clause-part
enter_last-requires-clause-part g c =
    stands_here g.S.WorldStore.meaning c.args.config.now c.args.frame (nodes.Paren c.in-Some-Paren.part) c.in-Some-Paren.part c.requires.runs.there
    (c.in-Some-Paren.ensures ∙ c.in-Some-Paren.field-0-is) (inl refl)

pub returns-in-Some-At : goal.returns-in-Some-At
returns-in-Some-At g c = follows_as _ _ _ _ _ _ (λ grows. rw (c.in-Some-At.ensures ∙ c.in-Some-At.field-0-is) refl) c.at_start.ensures
