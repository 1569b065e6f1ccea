use Rattle.std.proofs.Common.{sym, ap, ◌∙◌}
use Rattle.std.specs.Prelude.{Option}
use Rattle.wjs_base.specs.declared.values.Content.{Content}
use Rattle.wjs_base.specs.declared.values.Content.TheVariants as contents
use Rattle.wjs_store.specs.Meaning.{Meaning}
use Rattle.wjs_by_content.specs.Names.{message_name}
use Rattle.wjs_by_content.specs.Tables.{content_in}
use Rattle.wjs_by_content.specs.Values.{Value}
use Rattle.wjs_meaning.specs.Errors.{give_text}
use Rattle.wjs_meaning.specs.Properties.{get}
use Rattle.wjs_meaning.specs.NativesOfObjects.{fault_text}
use Rattle.wjs_model.specs.declared.config.Config.{Config}
use Rattle.wjs_model.specs.Soundness.{HasContent}
use Rattle.wjs_frames.specs.Following.{Later}
use Rattle.wjs_frames.specs.Parts.{env_in}
use Rattle.wjs_step_common.proofs.Following.{follows_as, env_later}
use Rattle.wjs_frames.proofs.Handling.{running_later}
use Rattle.wjs_native_core.proofs.errors.give_fault_text.Goals as goal

-- what was there is there
content_later : {S : Type 0} (meaning : S → Meaning) (old new : Config S) (found : Content) → Later meaning old new → HasContent old found → HasContent new found
content_later meaning old new contents.Absent l h = tt
content_later meaning old new (contents.Present v) l h = l.values v h

pub returns : goal.returns
returns g c =
    let m = g.S.WorldStore.meaning in
    let old = c.args.config.now in
    let mid = c.get_named.new.config in
    let last = c.get_named-2.new.config in
    let new = c.give_text.new.config in
    let t = new.heap.texts in
    let r = c.give_text.result in
    let f = c.args.frame in
    let env = env_in m old t f in
    let o = c.args.object in
    let one = env_later m old mid t f c.in_ok-name.ensures.later in
    let two = env_later m mid last t f c.in_ok-message.ensures.later in
    let go = λ (a b : Option Value). give_text (fault_text a b) env in
    c.in_ok-name.ensures.does.by (λ a. get o message_name env (λ b. go a b)) new r
    (follows_as m _ _ mid new r (λ grows. ap (λ e. get o message_name e (λ b. go (content_in t c.in_ok-name.name) b)) one)
    (c.in_ok-message.ensures.does.by (λ b. go (content_in t c.in_ok-name.name) b) new r
    (follows_as m _ _ last new r (λ grows. ap (λ e. give_text c.as_slice.result.now e) (two ∙ one) ∙ ap (λ u. give_text u env) (c.as_slice.ensures.value ∙ sym (c.in_ok-units.ensures t grows))) c.give_text.ensures)))

pub get_named-requires-2-clause-there : goal.get_named-requires-2-clause-there
get_named-requires-2-clause-there g c = c.in_ok-name.ensures.later.frames c.args.frame c.requires.runs.there

pub fault_units-requires-clause-name : goal.fault_units-requires-clause-name
fault_units-requires-clause-name g c = content_later g.S.WorldStore.meaning c.get_named.new.config c.get_named-2.new.config c.in_ok-name.name c.in_ok-message.ensures.later c.in_ok-name.ensures.found

pub give_text-requires : goal.give_text-requires
give_text-requires g c = record {
  running = running_later _ _ _ (running_later _ _ _ c.requires.runs.running c.in_ok-name.ensures.later)
      c.in_ok-message.ensures.later;
}
