use Rattle.std.proofs.Common.{◌∙◌, sym, ap, subst}
use Rattle.std.specs.Prelude.{OnOk}
use Rattle.wjs_base.specs.declared.ids.ObjId.{ObjId}
use Rattle.wjs_base.specs.declared.values.Value.{Value}
use Rattle.wjs_by_content.specs.Tables.{value_in}
use Rattle.wjs_meaning.specs.Deeds.{Env, Act}
use Rattle.wjs_meaning.specs.Constructions.{new_prototype, new_on}
use Rattle.wjs_model.specs.Contents.{holding_in}
use Rattle.wjs_frames.specs.Following.{Follows}
use Rattle.wjs_frames.specs.Parts.{env_in}
use Rattle.wjs_heap_steps.proofs.Composing.{env_later}
use Rattle.wjs_calls.proofs.NewFrames.{plain_prototype}
use Rattle.wjs_frames.proofs.Handling.{runs_later}
use Rattle.wjs_calls.proofs.news.construct_script.Goals as goal

pub returns-in-Object : goal.returns-in-Object
returns-in-Object g c =
    let m = g.S.WorldStore.meaning in
    let old = c.args.config.now in
    let mid = c.get_known.new.config in
    let new = c.construct_on.new.config in
    let r = c.construct_on.result in
    let t = new.heap.texts in
    let env = env_in m old t c.args.frame in
    let f = c.args.function in
    let vs = (holding_in t c.args.frame.held).values in
    let made : OnOk r (Follows m (new_on c.in-Object.prototype f vs env) mid new) = subst (λ (e : Env). OnOk r (Follows m (new_on c.in-Object.prototype f vs e) mid new)) (env_later m old mid t c.args.frame c.in_ok-found.ensures.later) c.construct_on.ensures in
    c.in_ok-found.ensures.does.by (new_prototype f vs env) new r (subst (λ (v : Value). OnOk r (Follows m (new_prototype f vs env (value_in t v)) mid new)) (sym c.in-Object.is) made)

pub returns-in_default : goal.returns-in_default
returns-in_default g c =
    let m = g.S.WorldStore.meaning in
    let old = c.args.config.now in
    let mid = c.get_known.new.config in
    let new = c.construct_on-in_default.new.config in
    let r = c.construct_on-in_default.result in
    let t = new.heap.texts in
    let env = env_in m old t c.args.frame in
    let f = c.args.function in
    let vs = (holding_in t c.args.frame.held).values in
    let p = c.builtin-prototype.result in
    let made : OnOk r (Follows m (new_on p f vs env) mid new) = subst (λ (e : Env). OnOk r (Follows m (new_on p f vs e) mid new)) (env_later m old mid t c.args.frame c.in_ok-found.ensures.later) c.construct_on-in_default.ensures in
    c.in_ok-found.ensures.does.by (new_prototype f vs env) new r (subst (λ (a : Act). OnOk r (Follows m a mid new)) (ap (λ (o : ObjId). new_on o f vs env) c.builtin-prototype.ensures.number ∙ sym (plain_prototype t c.in_ok-found.found f vs env c.in_default.not-Object)) made)

pub construct_on-requires-clause-runs : goal.construct_on-requires-clause-runs
construct_on-requires-clause-runs g c = runs_later _ _ _ _ c.requires.runs c.in_ok-found.ensures.later

pub construct_on-requires-in_default-clause-runs : goal.construct_on-requires-in_default-clause-runs
construct_on-requires-in_default-clause-runs g c = runs_later _ _ _ _ c.requires.runs c.in_ok-found.ensures.later
