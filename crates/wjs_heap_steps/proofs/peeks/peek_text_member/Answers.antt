use Rattle.std.proofs.Common.{sym, ap, ◌∙◌, length}
use Rattle.wjs_base.specs.Text.{Table}
use Rattle.wjs_base.specs.declared.ids.ObjId.{ObjId}
use Rattle.wjs_base.specs.declared.values.Value.{Value as Numbered}
use Rattle.wjs_by_content.specs.Tables.{text_in, name_in, value_in}
use Rattle.wjs_by_content.specs.Values.{Text, Value, whole}
use Rattle.wjs_meaning.specs.Deeds.{Act}
use Rattle.wjs_meaning.specs.Properties.{get_value}
use Rattle.wjs_meaning.specs.References as references
use Rattle.wjs_frames.specs.Parts.{env_in}
use Rattle.wjs_heap_steps.specs.Peeking.{Peeks}
use Rattle.wjs_heap_steps.proofs.Having.{value_both}
use Rattle.wjs_heap_steps.proofs.Making.{number_there, number_near}
use Rattle.wjs_heap_steps.proofs.Peeking.{if_some, length_is, other_is, peeks_as, peeks_at_once}
use Rattle.wjs_heap_steps.proofs.peeks.peek_text_member.Goals as goal

pub returns-then-is_length-clause-peeks : goal.returns-then-is_length-clause-peeks
returns-then-is_length-clause-peeks g c =
    let m = g.S.WorldStore.meaning in
    let now = c.args.config.now in
    let env = λ (t : Table). env_in m now t c.args.frame.now in
    let answer : Table → Value = λ t. value_in t c.length_value.result in
    peeks_as m (λ t go. go (answer t)) (λ t. references.text_member (text_in t c.args.id) (name_in t c.args.name) (env t)) answer now
    (λ t g go. length_is (text_in t c.args.id) (name_in t c.args.name) (answer t) (env t) go (c.is_length.ensures t g ∙ c.if-is_length.true) (c.length_value.ensures t ∙ ap (λ (u : Text). whole (length u)) (sym (c.units_of.ensures.text t g))))
    (peeks_at_once m answer now)

pub returns-then-is_length-clause-found : goal.returns-then-is_length-clause-found
returns-then-is_length-clause-found g c =
    let now = c.args.config.now in
    value_both now c.length_value.result (number_there now.heap.texts now.heap.texts now.heap.arena c.length_value.result _ (c.length_value.ensures now.heap.texts)) (number_near now.apart.items now.heap.texts c.length_value.result _ (c.length_value.ensures now.heap.texts))

pub returns-clause-peeks : goal.returns-clause-peeks
returns-clause-peeks g c =
    let m = g.S.WorldStore.meaning in
    let now = c.args.config.now in
    let env = λ (t : Table). env_in m now t c.args.frame.now in
    let own : ObjId → Table → (Value → Act) → Act = λ o t. get_value o (name_in t c.args.name) (env t) in
    let wanted : Table → (Value → Act) → Act = λ t. references.text_member (text_in t c.args.id) (name_in t c.args.name) (env t) in
    if_some (λ (v : Numbered). Peeks m (own c.builtin-prototype.result) (λ t. value_in t v) now) (λ (v : Numbered). Peeks m wanted (λ t. value_in t v) now) c.peek_value.result
    (λ v p. peeks_as m (own c.builtin-prototype.result) wanted (λ t. value_in t v) now
    (λ t g go. ap (λ (o : ObjId). own o t go) c.builtin-prototype.ensures.number ∙ other_is (text_in t c.args.id) (name_in t c.args.name) (env t) go (c.is_length.ensures t g ∙ c.if-is_length.false)) p)
    c.peek_value.ensures.peeks
