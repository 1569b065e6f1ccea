use Rattle.std.proofs.Common.{sym, ap, ◌∙◌}
use Rattle.wjs_by_content.specs.Tables.{text_in, value_in}
use Rattle.wjs_meaning.specs.Deeds.{give}
use Rattle.wjs_meaning.specs.Expressions.{dot_base, give_value_of}
use Rattle.wjs_meaning.specs.Reading.{spelt_in}
use Rattle.wjs_meaning.specs.References.{member_value}
use Rattle.wjs_frames.specs.Parts.{env_in}
use Rattle.wjs_heap_steps.proofs.Peeking.{if_some}
use Rattle.wjs_quick.proofs.Coming.{comes_as, comes_found}
use Rattle.wjs_quick.proofs.MemberLines.{dot_is, member_shortens}
use Rattle.wjs_quick.proofs.members.dotted.Goals as goal

pub returns-in-Word-clause-does : goal.returns-in-Word-clause-does
returns-in-Word-clause-does g c =
    let m = g.S.WorldStore.meaning in
    let now = c.args.config.now in
    let f = c.args.frame.now in
    if_some _ _ c.peek_word.result (λ v p left.
    comes_as m now f (λ t env. member_value (value_in t c.args.base) (text_in t c.in-Word.id) env give) (λ t env. dot_base (spelt_in t c.args.name) env (give_value_of env) (value_in t c.args.base)) v left left
    (λ t more. dot_is (value_in t c.args.base) (text_in t c.in-Word.id) (spelt_in t c.args.name) (env_in m now t f) (give_value_of (env_in m now t f)) (c.is_nullish.ensures t ∙ c.if-is_nullish.false) (sym (ap (spelt_in t) c.in-Word.is)))
    (comes_found m now f (λ t env. member_value (value_in t c.args.base) (text_in t c.in-Word.id) env) v left (λ t env go. member_shortens (value_in t c.args.base) (text_in t c.in-Word.id) env go) p)) c.peek_word.ensures.peeks
