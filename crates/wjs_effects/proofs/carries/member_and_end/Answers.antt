use Rattle.std.proofs.Common.{refl, sym, subst}
use Rattle.wjs_base.specs.declared.values.Value.{Value}
use Rattle.wjs_base.specs.Text.{Table}
use Rattle.wjs_by_content.specs.Tables.{name_in, value_in}
use Rattle.wjs_meaning.specs.Deeds.{Member, Completion}
use Rattle.wjs_model.specs.Contents.{completion_in}
use Rattle.wjs_frames.specs.Doing.{Does}
use Rattle.wjs_frames.specs.Parts.{env_in}
use Rattle.wjs_heap_steps.proofs.Composing.{does_at_once, does_same, if_ok}
use Rattle.wjs_heap_steps.proofs.Later.{later_same}
use Rattle.wjs_effects.specs.Effects.{stored}
use Rattle.wjs_effects.proofs.Carrying.{stored_stays}
use Rattle.wjs_effects.proofs.carries.member_and_end.Goals as goal

pub returns-in-Object-clause-does : goal.returns-in-Object-clause-does
returns-in-Object-clause-does g c =
    let m = g.S.WorldStore.meaning in
    let old = c.args.config.now in
    let new = c.put_and_end.new.config in
    if_ok _ _ c.put_and_end.result (λ e d. subst (λ (b : Value). Does m (λ t. stored (Member (value_in t b) (name_in t c.args.name)) (value_in t c.args.value) (env_in m old t c.args.frame.now) (completion_in t c.args.completion)) (λ t. completion_in t e) old new) (sym c.in-Object.is) d) c.put_and_end.ensures.does

pub returns-in_default-clause-does : goal.returns-in_default-clause-does
returns-in_default-clause-does g c =
    let m = g.S.WorldStore.meaning in
    let old = c.args.config.now in
    let e : Table → Completion = λ t. completion_in t c.args.completion in
    does_same m (λ t go. go (e t)) (λ t. stored (Member (value_in t c.args.base) (name_in t c.args.name)) (value_in t c.args.value) (env_in m old t c.args.frame.now) (e t)) e e old old
    (λ t more go. sym (stored_stays t c.args.base (name_in t c.args.name) (value_in t c.args.value) (env_in m old t c.args.frame.now) (e t) go c.in_default.not-Object)) (λ t more. refl) (does_at_once m e old)

pub returns-in_default-clause-later : goal.returns-in_default-clause-later
returns-in_default-clause-later g c = later_same g.S.WorldStore.meaning c.args.config.now c.requires.base
