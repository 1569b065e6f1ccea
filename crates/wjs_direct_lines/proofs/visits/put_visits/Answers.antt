use Rattle.std.proofs.Common.{◌≡◌, ◌∷◌, List, ap, ◌∙◌, subst}
use Rattle.std.specs.Prelude.{OnOk}
use Rattle.wjs_model.specs.declared.frame.Activation.{Activation as Frame}
use Rattle.wjs_model.specs.declared.frame.Held.{Held}
use Rattle.wjs_stopping.specs.Waiting.{at_node, waiting_at}
use Rattle.wjs_direct_lines.proofs.visits.put_visits.Goals as goal

pub returns-clause-waits : goal.returns-clause-waits
returns-clause-waits g c =
    let f = c.args.frame.now in
    let held = c.replace_held-held.result in
    let same : c.set_held.new.self ≡ at_node f c.args.node c.args.visits.now.held =
    c.set_held.ensures ∙ ap (λ (x : Frame). record x { held = held }) c.in_ok-inner.ensures.frame
    ∙ ap (λ (h : List Held). at_node f c.args.node h) c.replace_held-held.ensures.held in
    subst (λ (x : Frame). OnOk c.below.result (c.below.new.self.waits ≡ waiting_at x c.args.point ∷ c.args.stops.now.waits)) same c.below.ensures.waits
