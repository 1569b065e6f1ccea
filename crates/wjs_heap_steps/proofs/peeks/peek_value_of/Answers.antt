use Rattle.std.proofs.Common.{sym, subst}
use Rattle.wjs_base.specs.Text.{Table}
use Rattle.wjs_by_content.specs.Tables.{name_in, value_in}
use Rattle.wjs_by_content.specs.Values.{Value}
use Rattle.wjs_meaning.specs.Deeds.{Completion, Gives}
use Rattle.wjs_meaning.specs.References as references
use Rattle.wjs_model.specs.declared.frame.Reference.{Reference}
use Rattle.wjs_model.specs.Contents.{reference_in}
use Rattle.wjs_model.specs.Operands.{evaluated}
use Rattle.wjs_frames.specs.Parts.{env_in}
use Rattle.wjs_heap_steps.specs.Peeking.{Peeks}
use Rattle.wjs_heap_steps.proofs.Peeking.{if_some, peeks_map}
use Rattle.wjs_heap_steps.proofs.peeks.peek_value_of.Goals as goal

pub returns-in-Local-clause-peeks : goal.returns-in-Local-clause-peeks
returns-in-Local-clause-peeks g c =
    let m = g.S.WorldStore.meaning in
    let now = c.args.config.now in
    if_some _ _ c.peek_local.result (λ v p.
    subst (λ (r : Reference). Peeks m (λ t. evaluated (reference_in t r) (env_in m now t c.args.frame.now)) (λ t. Gives (value_in t v)) now) (sym c.in-Local.is) p) c.peek_local.ensures.peeks

pub returns-in-Global-clause-peeks : goal.returns-in-Global-clause-peeks
returns-in-Global-clause-peeks g c =
    let m = g.S.WorldStore.meaning in
    let now = c.args.config.now in
    if_some _ _ c.peek_global.result (λ v p.
    subst (λ (r : Reference). Peeks m (λ t. evaluated (reference_in t r) (env_in m now t c.args.frame.now)) (λ t. Gives (value_in t v)) now) (sym c.in-Global.is) p) c.peek_global.ensures.peeks

pub returns-in-Member-clause-peeks : goal.returns-in-Member-clause-peeks
returns-in-Member-clause-peeks g c =
    let m = g.S.WorldStore.meaning in
    let now = c.args.config.now in
    let member = c.in-Member in
    let gives : Table → Value → Completion = λ t v. Gives v in
    if_some _ _ c.peek_member.result (λ v p.
    subst (λ (r : Reference). Peeks m (λ t. evaluated (reference_in t r) (env_in m now t c.args.frame.now)) (λ t. Gives (value_in t v)) now) (sym member.is)
    (peeks_map m (λ t. references.member_value (value_in t member.base) (name_in t member.name) (env_in m now t c.args.frame.now)) (λ t. value_in t v) gives now p)) c.peek_member.ensures.peeks
