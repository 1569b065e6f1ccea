use Rattle.std.proofs.Common.{Bool, false, subst, sym}
use Rattle.std.specs.Prelude.{IfOk}
use Rattle.wjs_model.specs.declared.frame.Reference.{Reference}
use Rattle.wjs_model.specs.Contents.{reference_in}
use Rattle.wjs_frames.specs.Doing.{Does}
use Rattle.wjs_frames.specs.Parts.{env_in}
use Rattle.wjs_heap_steps.proofs.Later.{later_same}
use Rattle.wjs_effects.specs.Telling.{deleted}
use Rattle.wjs_effects.proofs.deletes.delete_at.Goals as goal

-- a name in a scope stays
pub returns-in-Local-clause-does : goal.returns-in-Local-clause-does
returns-in-Local-clause-does g c =
    let m = g.S.WorldStore.meaning in
    let old = c.args.config.now in
    let f = c.args.frame.now in
    subst (λ (q : Reference). Does m (λ t. deleted (reference_in t q) (env_in m old t f)) (λ t. false) old old) (sym c.in-Local.is) (record { by = λ go later r h. h })

pub returns-in-Local-clause-later : goal.returns-in-Local-clause-later
returns-in-Local-clause-later g c = later_same g.S.WorldStore.meaning c.args.config.now c.requires.base

pub returns-in-Global-clause-does : goal.returns-in-Global-clause-does
returns-in-Global-clause-does g c =
    let m = g.S.WorldStore.meaning in
    let old = c.args.config.now in
    let f = c.args.frame.now in
    subst (λ (q : Reference). IfOk c.delete.result (λ (gone : Bool). Does m (λ t. deleted (reference_in t q) (env_in m old t f)) (λ t. gone) old c.delete.new.config)) (sym c.in-Global.is) c.delete.ensures.does

pub returns-in-Member-clause-does : goal.returns-in-Member-clause-does
returns-in-Member-clause-does g c =
    let m = g.S.WorldStore.meaning in
    let old = c.args.config.now in
    let f = c.args.frame.now in
    subst (λ (q : Reference). IfOk c.delete_member.result (λ (gone : Bool). Does m (λ t. deleted (reference_in t q) (env_in m old t f)) (λ t. gone) old c.delete_member.new.config)) (sym c.in-Member.is) c.delete_member.ensures.does
