use Rattle.std.proofs.Common.{sym, ap, ◌∙◌, subst}
use Rattle.std.specs.Prelude.{IfSome}
use Rattle.wjs_base.specs.Text.{Table}
use Rattle.wjs_base.specs.declared.ids.ObjId.{ObjId}
use Rattle.wjs_base.specs.declared.values.Value.{Value}
use Rattle.wjs_by_content.specs.Tables.{name_in, value_in}
use Rattle.wjs_by_content.specs.Values.{Value as Content}
use Rattle.wjs_meaning.specs.Deeds.{Act}
use Rattle.wjs_meaning.specs.Properties.{get_value}
use Rattle.wjs_meaning.specs.References as references
use Rattle.wjs_frames.specs.Parts.{env_in}
use Rattle.wjs_heap_steps.specs.Peeking.{Peeks}
use Rattle.wjs_heap_steps.proofs.Peeking.{if_some, peeks_as, primitive_is}
use Rattle.wjs_heap_steps.proofs.peeks.peek_member.Goals as goal

pub returns-in-Object-clause-peeks : goal.returns-in-Object-clause-peeks
returns-in-Object-clause-peeks g c =
    let m = g.S.WorldStore.meaning in
    let now = c.args.config.now in
    subst (λ (base : Value). IfSome c.peek_value.result (λ value. Peeks m (λ t. references.member_value (value_in t base) (name_in t c.args.name) (env_in m now t c.args.frame.now)) (λ t. value_in t value) now)) (sym c.in-Object.is) c.peek_value.ensures.peeks

pub returns-in-Text-clause-peeks : goal.returns-in-Text-clause-peeks
returns-in-Text-clause-peeks g c =
    let m = g.S.WorldStore.meaning in
    let now = c.args.config.now in
    subst (λ (base : Value). IfSome c.peek_text_member.result (λ value. Peeks m (λ t. references.member_value (value_in t base) (name_in t c.args.name) (env_in m now t c.args.frame.now)) (λ t. value_in t value) now)) (sym c.in-Text.is)
    c.peek_text_member.ensures.peeks

pub returns-in_default-clause-peeks : goal.returns-in_default-clause-peeks
returns-in_default-clause-peeks g c =
    let m = g.S.WorldStore.meaning in
    let now = c.args.config.now in
    let env = λ (t : Table). env_in m now t c.args.frame.now in
    let own : ObjId → Table → (Content → Act) → Act = λ o t. get_value o (name_in t c.args.name) (env t) in
    let wanted : Table → (Content → Act) → Act = λ t. references.member_value (value_in t c.args.base) (name_in t c.args.name) (env t) in
    let prototype = c.class_prototype-prototype.result in
    if_some (λ (v : Value). Peeks m (own prototype) (λ t. value_in t v) now) (λ (v : Value). Peeks m wanted (λ t. value_in t v) now) c.peek_value-in_default.result
    (λ v p. peeks_as m (own prototype) wanted (λ t. value_in t v) now
    (λ t g go. ap (λ (o : ObjId). own o t go) (sym (c.class_prototype-prototype.ensures.is t)) ∙ primitive_is c.args.base t (name_in t c.args.name) (env t) go c.in_default.not-Text c.in_default.not-Object) p)
    c.peek_value-in_default.ensures.peeks
