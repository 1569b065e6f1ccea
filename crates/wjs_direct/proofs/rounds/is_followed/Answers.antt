use Rattle.std.proofs.Common.{sym, ap, ◌∙◌}
use Rattle.wjs_base.specs.declared.ids.NodeId.{NodeId}
use Rattle.wjs_meaning.specs.Loops.{after_body}
use Rattle.wjs_model.specs.Contents.{completion_in}
use Rattle.wjs_frames.specs.Parts.{env_in}
use Rattle.wjs_direct.proofs.rounds.is_followed.Goals as goal

pub returns-in-Again : goal.returns-in-Again
returns-in-Again g c = λ yes t more again.
    let env = env_in g.S.WorldStore.meaning c.args.config.now t c.args.frame.now in
    let end = completion_in t c.args.end in
    ap (λ (i : NodeId). after_body i.0 env again end) (sym c.node-node.ensures)
    ∙ c.in-Again.ensures.means t more again
