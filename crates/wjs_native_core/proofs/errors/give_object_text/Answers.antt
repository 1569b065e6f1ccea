use Rattle.std.proofs.Common.{ap, ◌∙◌}
use Rattle.wjs_arena.specs.declared.class.Class.{Class}
use Rattle.wjs_by_content.specs.Objects.{Arena, object_at}
use Rattle.wjs_by_content.specs.Values.{Text}
use Rattle.wjs_meaning.specs.Deeds.{Act}
use Rattle.wjs_meaning.specs.Errors.{give_text}
use Rattle.wjs_meaning.specs.NativesOfObjects as line
use Rattle.wjs_frames.specs.Parts.{env_in}
use Rattle.wjs_frames.proofs.Shorter.{follows_look}
use Rattle.wjs_step_common.proofs.Following.{follows_as}
use Rattle.wjs_native_core.proofs.Looking.{other_text}
use Rattle.wjs_native_core.proofs.errors.give_object_text.Goals as goal

pub returns-in-Fault : goal.returns-in-Fault
returns-in-Fault g c =
    let m = g.S.WorldStore.meaning in
    let old = c.args.config.now in
    let new = c.give_fault_text.new.config in
    let t = new.heap.texts in
    let r = c.give_fault_text.result in
    let env = env_in m old t c.args.frame in
    let by = λ (k : Class). line.object_text k c.args.object env (λ u. give_text u env) in
    follows_look m (λ (arena : Arena). by (object_at arena c.args.object).class) _ old new r (λ arena s. ap by (c.in-Fault.ensures.is t arena s)) c.give_fault_text.ensures

pub returns-in_default : goal.returns-in_default
returns-in_default g c =
    let m = g.S.WorldStore.meaning in
    let old = c.args.config.now in
    let new = c.give_text.new.config in
    let t = new.heap.texts in
    let r = c.give_text.result in
    let env = env_in m old t c.args.frame in
    let go : Text → Act = λ u. give_text u env in
    let by = λ (k : Class). line.object_text k c.args.object env go in
    follows_look m (λ (arena : Arena). by (object_at arena c.args.object).class) _ old new r (λ arena s. ap by (c.class_of.ensures.is t arena s))
    (follows_as m _ _ old new r (λ grows. ap go c.class_name.ensures ∙ other_text c.class_of.result c.args.object env go c.in_default.not-Fault) c.give_text.ensures)
