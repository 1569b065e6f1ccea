use Rattle.wjs_by_content.specs.Tables.{text_in}
use Rattle.wjs_meaning.specs.References.{reference_at}
use Rattle.wjs_model.specs.Contents.{completion_in, reference_in}
use Rattle.wjs_model.specs.Operands.{evaluated}
use Rattle.wjs_model.specs.Units.{place_in}
use Rattle.wjs_frames.specs.Parts.{env_in}
use Rattle.wjs_heap_steps.proofs.Composing.{does_then, if_ok}
use Rattle.wjs_heap_steps.proofs.operands.name_completion.Goals as goal

pub returns-clause-does : goal.returns-clause-does
returns-clause-does g c =
    let m = g.S.WorldStore.meaning in
    let old = c.args.config.now in
    let f = c.args.frame.now in
    let at = c.reference_at-reference in
    if_ok _ _ c.reference_completion.result (λ completion d. does_then m (λ t. reference_at (place_in c.args.place) (text_in t c.args.id) (env_in m old t f)) (λ t. reference_in t at.result)
    (λ t r. evaluated r (env_in m old t f)) (λ t. completion_in t completion) old old c.reference_completion.new.config at.ensures.does d) c.reference_completion.ensures.does
