use Rattle.std.proofs.Common.{sym, subst}
use Rattle.wjs_by_content.specs.Tables.{name_in, value_in}
use Rattle.wjs_meaning.specs.Deeds.{Local}
use Rattle.wjs_meaning.specs.References as line
use Rattle.wjs_model.specs.declared.frame.Reference.{Reference}
use Rattle.wjs_model.specs.Contents.{completion_in, reference_in}
use Rattle.wjs_frames.specs.Doing.{Does}
use Rattle.wjs_frames.specs.Parts.{env_in}
use Rattle.wjs_heap_steps.proofs.Composing.{if_ok}
use Rattle.wjs_effects.specs.Effects.{stored}
use Rattle.wjs_effects.proofs.Carrying.{carry_first}
use Rattle.wjs_effects.proofs.carries.store_and_end.Goals as goal

pub returns-in_ok-store_local-in-Local-clause-does : goal.returns-in_ok-store_local-in-Local-clause-does
returns-in_ok-store_local-in-Local-clause-does g c =
    let m = g.S.WorldStore.meaning in
    let old = c.args.config.now in
    let new = c.store_local.new.config in
    let f = c.args.frame.now in
    let at = c.in-Local in
    subst (λ (r : Reference). Does m (λ t. stored (reference_in t r) (value_in t c.args.value) (env_in m old t f) (completion_in t c.args.completion)) (λ t. completion_in t c.args.completion) old new) (sym at.is)
    (carry_first m (λ t. line.store (Local at.scope (name_in t at.name)) (value_in t c.args.value) (env_in m old t f)) (λ t. completion_in t c.args.completion) old new c.in_ok-store_local-in-Local.ensures.does)

pub returns-in_ok-store_local-in-Local-clause-found : goal.returns-in_ok-store_local-in-Local-clause-found
returns-in_ok-store_local-in-Local-clause-found g c = c.in_ok-store_local-in-Local.ensures.later.completions c.args.completion c.requires.completion

pub returns-in-Global-clause-does : goal.returns-in-Global-clause-does
returns-in-Global-clause-does g c =
    let m = g.S.WorldStore.meaning in
    let old = c.args.config.now in
    let new = c.put_and_end.new.config in
    if_ok _ _ c.put_and_end.result (λ e d. subst (λ (r : Reference). Does m (λ t. stored (reference_in t r) (value_in t c.args.value) (env_in m old t c.args.frame.now) (completion_in t c.args.completion)) (λ t. completion_in t e) old new) (sym c.in-Global.is) d) c.put_and_end.ensures.does

pub returns-in-Member-clause-does : goal.returns-in-Member-clause-does
returns-in-Member-clause-does g c =
    let m = g.S.WorldStore.meaning in
    let old = c.args.config.now in
    let new = c.member_and_end.new.config in
    if_ok _ _ c.member_and_end.result (λ e d. subst (λ (r : Reference). Does m (λ t. stored (reference_in t r) (value_in t c.args.value) (env_in m old t c.args.frame.now) (completion_in t c.args.completion)) (λ t. completion_in t e) old new) (sym c.in-Member.is) d) c.member_and_end.ensures.does
