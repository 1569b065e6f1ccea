use Rattle.std.proofs.Common.{◌∙◌}
use Rattle.wjs_by_content.specs.Tables.{name_in, value_in}
use Rattle.wjs_meaning.specs.Deeds.{give}
use Rattle.wjs_meaning.specs.Expressions.{at_index, give_value_of}
use Rattle.wjs_meaning.specs.References.{member_value}
use Rattle.wjs_frames.specs.Parts.{env_in}
use Rattle.wjs_heap_steps.proofs.Peeking.{if_some}
use Rattle.wjs_quick.proofs.Coming.{comes_shorter, comes_found}
use Rattle.wjs_quick.proofs.MemberLines.{at_shortens, member_shortens}
use Rattle.wjs_quick.proofs.members.indexed.Goals as goal

pub returns-clause-does : goal.returns-clause-does
returns-clause-does g c =
    let m = g.S.WorldStore.meaning in
    let now = c.args.config.now in
    let f = c.args.frame.now in
    let n = c.in_ok-name.name in
    if_some _ _ c.peek_member.result (λ v p left.
    comes_shorter m now f (λ t env. at_index (value_in t c.args.base) env (give_value_of env) (value_in t c.args.key)) (λ t env. member_value (value_in t c.args.base) (name_in t n) env give) v left left
    (λ t more. at_shortens (value_in t c.args.base) (value_in t c.args.key) (name_in t n) (env_in m now t f) (give_value_of (env_in m now t f)) (c.is_nullish.ensures t ∙ c.if-is_nullish.false) (c.in_ok-name.ensures.primitive t) (c.in_ok-name.ensures.is t more))
    (comes_found m now f (λ t env. member_value (value_in t c.args.base) (name_in t n) env) v left (λ t env go. member_shortens (value_in t c.args.base) (name_in t n) env go) p)) c.peek_member.ensures.peeks
