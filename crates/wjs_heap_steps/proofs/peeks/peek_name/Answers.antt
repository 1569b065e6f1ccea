use Rattle.std.proofs.Common.{refl, sym, subst}
use Rattle.wjs_base.specs.Text.{Table}
use Rattle.wjs_scope.specs.declared.place.Place.{Place}
use Rattle.wjs_by_content.specs.Tables.{text_in, value_in}
use Rattle.wjs_meaning.specs.Deeds.{Completion, Gives}
use Rattle.wjs_model.specs.Operands.{named}
use Rattle.wjs_model.specs.Units.{place_in}
use Rattle.wjs_frames.specs.Parts.{env_in}
use Rattle.wjs_heap_steps.specs.Peeking.{Peeks}
use Rattle.wjs_heap_steps.proofs.Peeking.{if_some, peeks_global, peeks_out}
use Rattle.wjs_heap_steps.proofs.peeks.peek_name.Goals as goal

pub returns-in-Global-clause-peeks : goal.returns-in-Global-clause-peeks
returns-in-Global-clause-peeks g c =
    let m = g.S.WorldStore.meaning in
    let now = c.args.config.now in
    if_some _ _ c.peek_in_global.result (λ v p.
    let answer : Table → Completion = λ t. Gives (value_in t v) in
    subst (λ (place : Place). Peeks m (λ t. named (place_in place) (text_in t c.args.id) (env_in m now t c.args.frame.now)) answer now) (sym c.in-Global.is)
    (peeks_global m now c.args.frame.now (λ t. text_in t c.args.id) (λ t. text_in t c.args.id) answer (λ t g. refl) p)) c.peek_in_global.ensures.peeks

pub returns-in-Local-clause-peeks : goal.returns-in-Local-clause-peeks
returns-in-Local-clause-peeks g c =
    let m = g.S.WorldStore.meaning in
    let now = c.args.config.now in
    if_some _ _ c.peek_in_scope.result (λ v p.
    let answer : Table → Completion = λ t. Gives (value_in t v) in
    subst (λ (place : Place). Peeks m (λ t. named (place_in place) (text_in t c.args.id) (env_in m now t c.args.frame.now)) answer now) (sym c.in-Local.is)
    (peeks_out m now c.args.frame.now c.in-Local.hops c.scope.result c.scope_up-scope.result (λ t. text_in t c.args.id) (λ t. text_in t c.args.id) answer c.scope.ensures c.scope_up-scope.ensures.is (λ t g. refl) p)) c.peek_in_scope.ensures.peeks
