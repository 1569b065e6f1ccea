-- Where a loop is: what stands there stands later, and ends are handed on; and what follows its body.
use Rattle.std.proofs.Common.{◌≡◌, sym, ap, ◌∙◌}
use Rattle.std.specs.Prelude.{Result}
use Rattle.wjs_base.specs.declared.ids.NodeId.{NodeId}
use Rattle.wjs_base.specs.declared.ids.OutOfMemory.{OutOfMemory}
use Rattle.wjs_base.specs.Text.{Table, Grows}
use Rattle.wjs_store.specs.Meaning.{Meaning}
use Rattle.wjs_meaning.specs.Deeds.{Act, Env}
use Rattle.wjs_meaning.specs.Loops.{after_body}
use Rattle.wjs_model.specs.declared.config.Config.{Config}
use Rattle.wjs_model.specs.declared.frame.Activation.{Activation as Frame}
use Rattle.wjs_model.specs.declared.frame.Completion.{Completion as Said}
use Rattle.wjs_model.specs.Contents.{completion_in}
use Rattle.wjs_frames.specs.Following.{Later}
use Rattle.wjs_frames.specs.Handling.{GoesOn}
use Rattle.wjs_frames.specs.Parts.{env_in}
use Rattle.wjs_frames.proofs.Parting.{stands_later, stands_if_later}
use Rattle.wjs_step_common.proofs.Following.{follows_as}
use Rattle.wjs_loops.specs.declared.bodies.AfterBody.{AfterBody}
use Rattle.wjs_loops.specs.declared.rounds.Position.{Position}
use Rattle.wjs_loops.specs.declared.rounds.Position.TheVariants.{Again, Test, Body, Within, Update, Ended}
use Rattle.wjs_loops.specs.Bodies.{goes_on}
use Rattle.wjs_loops.specs.Rounds.{HasPosition}

pub position_later : {S : Type 0} (meaning : S → Meaning) (old new : Config S) (f : Frame) (p : Position) → Later meaning old new → HasPosition old f p → HasPosition new f p
position_later meaning old new f Again l h = tt
position_later meaning old new f (Test e u s) l h = (stands_later meaning old f new e l h.0, (stands_if_later meaning old f new u l h.1.0, stands_later meaning old f new s l h.1.1))
position_later meaning old new f (Body u s) l h = (stands_if_later meaning old f new u l h.0, stands_later meaning old f new s l h.1)
position_later meaning old new f (Within u s at) l h = (stands_if_later meaning old f new u l h.0, stands_later meaning old f new s l h.1)
position_later meaning old new f (Update u) l h = stands_if_later meaning old f new u l h
position_later meaning old new f (Ended e) l h = l.completions e h

-- the loop is the one that the frame runs
pub body_follows : {S : Type 0} (meaning : S → Meaning) (old new : Config S) (f : Frame) (here : NodeId) (next : Table → Env → Act) (e : Said) (after : AfterBody) (r : Result (Unit {0}) OutOfMemory) → here ≡ f.node
    → ((t : Table) → Grows old.heap.texts t → (again : Act) → after_body here.0 (env_in meaning old t f) again (completion_in t e) ≡ goes_on t after again)
    → GoesOn meaning f old new r (λ t env. goes_on t after (next t env)) → GoesOn meaning f old new r (λ t env. after_body f.node.0 env (next t env) (completion_in t e))
body_follows meaning old new f here next e after r at means h =
    let t = new.heap.texts in
    let env = env_in meaning old t f in
    follows_as meaning (goes_on t after (next t env)) (after_body f.node.0 env (next t env) (completion_in t e)) old new r
    (λ more. sym (means t more (next t env)) ∙ ap (λ (i : NodeId). after_body i.0 env (next t env) (completion_in t e)) at) h
