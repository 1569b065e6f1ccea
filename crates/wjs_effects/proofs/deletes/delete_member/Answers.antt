use Rattle.std.proofs.Common.{Bool, true, ap, refl, subst, sym}
use Rattle.std.specs.Prelude.{IfOk, not}
use Rattle.wjs_base.specs.declared.values.Value.{Value}
use Rattle.wjs_base.specs.Text.{Table}
use Rattle.wjs_by_content.specs.Names.{length_name}
use Rattle.wjs_by_content.specs.Tables.{name_in, value_in}
use Rattle.wjs_by_content.specs.Values.{same_text}
use Rattle.wjs_meaning.specs.Deeds.{Act, Member}
use Rattle.wjs_frames.specs.Doing.{Does}
use Rattle.wjs_frames.specs.Parts.{env_in}
use Rattle.wjs_heap_steps.proofs.Composing.{does_at_once, does_same}
use Rattle.wjs_heap_steps.proofs.Later.{later_same}
use Rattle.wjs_effects.specs.Telling.{deleted}
use Rattle.wjs_effects.proofs.Telling.{deleted_missing}
use Rattle.wjs_effects.proofs.deletes.delete_member.Goals as goal

pub returns-in-Object-clause-does : goal.returns-in-Object-clause-does
returns-in-Object-clause-does g c =
    let m = g.S.WorldStore.meaning in
    let old = c.args.config.now in
    let f = c.args.frame.now in
    subst (λ (b : Value). IfOk c.delete.result (λ (gone : Bool). Does m (λ t. deleted (Member (value_in t b) (name_in t c.args.name)) (env_in m old t f)) (λ t. gone) old c.delete.new.config)) (sym c.in-Object.is) c.delete.ensures.does

-- a text keeps its `length`
pub returns-in-Text-clause-does : goal.returns-in-Text-clause-does
returns-in-Text-clause-does g c =
    let m = g.S.WorldStore.meaning in
    let old = c.args.config.now in
    let f = c.args.frame.now in
    let name = c.args.name in
    let kept = c.is_length-kept.result in
    let told : Table → (Bool → Act) → Act = λ t go. go (not kept) in
    let asked : Table → (Bool → Act) → Act = λ t go. go (not (same_text (name_in t name) length_name)) in
    subst (λ (b : Value). Does m (λ t. deleted (Member (value_in t b) (name_in t name)) (env_in m old t f)) (λ t. not kept) old old) (sym c.in-Text.is)
    (does_same m told asked (λ t. not kept) (λ t. not kept) old old
    (λ t more go. ap (λ (b : Bool). go (not b)) (sym (c.is_length-kept.ensures t more))) (λ t more. refl) (does_at_once m (λ t. not kept) old))

pub returns-in-Text-clause-later : goal.returns-in-Text-clause-later
returns-in-Text-clause-later g c = later_same g.S.WorldStore.meaning c.args.config.now c.requires.base

-- every other value has none
pub returns-in_default-clause-does : goal.returns-in_default-clause-does
returns-in_default-clause-does g c =
    let m = g.S.WorldStore.meaning in
    let old = c.args.config.now in
    let told : Table → (Bool → Act) → Act = λ t go. go true in
    does_same m told (λ t. deleted (Member (value_in t c.args.base) (name_in t c.args.name)) (env_in m old t c.args.frame.now)) (λ t. true) (λ t. true) old old
    (λ t more go. sym (deleted_missing t c.args.base (name_in t c.args.name) (env_in m old t c.args.frame.now) go c.in_default.not-Object c.in_default.not-Text)) (λ t more. refl) (does_at_once m (λ t. true) old)

pub returns-in_default-clause-later : goal.returns-in_default-clause-later
returns-in_default-clause-later g c = later_same g.S.WorldStore.meaning c.args.config.now c.requires.base
