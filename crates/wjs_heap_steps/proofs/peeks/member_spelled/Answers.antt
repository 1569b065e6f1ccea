use Rattle.std.proofs.Common.{ap}
use Rattle.wjs_base.specs.Text.{Table}
use Rattle.wjs_by_content.specs.Tables.{text_in, name_in, value_in}
use Rattle.wjs_by_content.specs.Values.{Text, Value}
use Rattle.wjs_meaning.specs.References as references
use Rattle.wjs_frames.specs.Parts.{env_in}
use Rattle.wjs_heap_steps.proofs.Peeking.{if_some, peeks_as}
use Rattle.wjs_heap_steps.proofs.peeks.member_spelled.Goals as goal

pub returns-clause-peeks : goal.returns-clause-peeks
returns-clause-peeks g c =
    let m = g.S.WorldStore.meaning in
    let now = c.args.config.now in
    if_some _ _ c.peek_member.result (λ v p.
    let answer : Table → Value = λ t. value_in t v in
    peeks_as m (λ t. references.member_value (value_in t c.args.base) (name_in t c.name_of-name.result) (env_in m now t c.args.frame.now)) (λ t. references.member_value (value_in t c.args.base) (text_in t c.args.id) (env_in m now t c.args.frame.now)) answer now
    (λ t more go. ap (λ (n : Text). references.member_value (value_in t c.args.base) n (env_in m now t c.args.frame.now) go) (c.name_of-name.ensures.name t more)) p) c.peek_member.ensures.peeks
