use Rattle.std.proofs.Common.{◌∷◌, ap, ◌∙◌}
use Rattle.wjs_model.specs.Frames.{latest_first}
use Rattle.wjs_model.proofs.Latest.{latest-snoc}
use Rattle.wjs_model.proofs.frame.Items.push.Goals as goal

pub returns-clause-ok : goal.returns-clause-ok
returns-clause-ok c = ap latest_first c.in_ok-push_last.ensures.ok ∙ latest-snoc c.self.inside.list.items c.args.item ∙ ap (λ l. c.args.item ∷ l) c.self.view_is
