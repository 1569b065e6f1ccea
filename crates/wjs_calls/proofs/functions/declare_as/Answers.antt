use Rattle.std.proofs.Common.{Option, Some, sym, ap, ◌∙◌}
use Rattle.std.specs.Option.{option_map}
use Rattle.wjs_base.proofs.TextLaws.{Grows-trans}
use Rattle.wjs_base.specs.declared.ids.TextId.{TextId}
use Rattle.wjs_base.specs.Text.{Table}
use Rattle.wjs_by_content.specs.Names.{slot}
use Rattle.wjs_by_content.specs.Tables.{text_in, name_in}
use Rattle.wjs_by_content.specs.Values.{Text, Object}
use Rattle.wjs_meaning.specs.Deeds.{Act, Do, Write}
use Rattle.wjs_frames.specs.Parts.{env_in}
use Rattle.wjs_heap.specs.Means.{nothing}
use Rattle.wjs_heap_steps.proofs.Later.{later_same}
use Rattle.wjs_heap_steps.proofs.Composing.{first_at_once, first_by}
use Rattle.wjs_calls.specs.Making.{declared_as}
use Rattle.wjs_calls.proofs.Rows.{first_same, ok_leaving}
use Rattle.wjs_calls.proofs.functions.declare_as.Goals as goal

pub returns-in-None-clause-does : goal.returns-in-None-clause-does
returns-in-None-clause-does g c =
    let m = g.S.WorldStore.meaning in
    let old = c.args.config.now in
    let said = λ (t : Table) (n : Option TextId) (act : Act). declared_as (option_map (text_in t) n) c.args.holder c.args.made (env_in m old t c.args.frame.now) act in
    first_at_once m (λ (t : Table) (act : Act). said t c.args.name act) old (λ t act. ap (λ (n : Option TextId). said t n act) c.in-None.is)

pub returns-in-None-clause-later : goal.returns-in-None-clause-later
returns-in-None-clause-later g c = later_same g.S.WorldStore.meaning c.args.config.now c.requires.base

pub returns-in-Some-clause-does : goal.returns-in-Some-clause-does
returns-in-Some-clause-does g c =
    let m = g.S.WorldStore.meaning in
    let old = c.args.config.now in
    let new = c.write.new.config in
    let w = c.args.frame.now.world in
    let line = λ (n : Text) (act : Act). Do (Write w (slot c.args.holder n) (Some (Object c.args.made))) (λ done. act) in
    let said = λ (t : Table) (n : Option TextId) (act : Act). declared_as (option_map (text_in t) n) c.args.holder c.args.made (env_in m old t c.args.frame.now) act in
    ok_leaving c.write.result c.write.ensures.does c.write.ensures.later
    (λ x d l. first_same m (λ (t : Table). line (name_in t c.name_of-name.result)) (λ (t : Table) (act : Act). said t c.args.name act) old new
    (λ t more act. ap (λ (n : Option TextId). said t n act) c.in-Some.is ∙ ap (λ (n : Text). line n act) (sym (c.name_of-name.ensures.name t (Grows-trans old.heap.texts new.heap.texts t l.texts more))))
    (first_by m _ (λ t. nothing) old new d))
