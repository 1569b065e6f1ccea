use Rattle.std.proofs.Common.{subst}
use Rattle.wjs_base.specs.declared.ids.WorldId.{WorldId}
use Rattle.wjs_by_content.specs.Properties as plan
use Rattle.wjs_by_content.specs.Tables.{name_in, content_in}
use Rattle.wjs_meaning.specs.Deeds.{Do, Look, carry_out}
use Rattle.wjs_heap_steps.specs.Peeking.{Peeks}
use Rattle.wjs_heap_steps.proofs.Peeking.{peeks_plan}
use Rattle.wjs_heap_steps.proofs.Seeing.{get_found}
use Rattle.wjs_heap_steps.proofs.NearDeeds.{get_left}
use Rattle.wjs_heap_steps.proofs.Having.{content_both}
use Rattle.wjs_heap_steps.proofs.peeks.peek.Goals as goal

pub returns-clause-peeks : goal.returns-clause-peeks
returns-clause-peeks g c =
    let m = g.S.WorldStore.meaning in
    let now = c.args.config.now in
    subst (λ (w : WorldId). Peeks m (λ t go. Do Look (λ arena. carry_out (plan.get arena c.args.object (name_in t c.args.name)) w go)) (λ t. content_in t c.in_ok-found.found) now) c.world.ensures
    (peeks_plan m c.world.result (λ t arena. plan.get arena c.args.object (name_in t c.args.name)) (λ t. content_in t c.in_ok-found.found) now (λ t arena s. get_found _ t arena s c.requires.base.heap.arena c.args.object (name_in t c.args.name) c.requires.object.0) c.in_ok-found.ensures.gets)

pub returns-clause-found : goal.returns-clause-found
returns-clause-found g c =
    let m = g.S.WorldStore.meaning in
    let now = c.args.config.now in
    let left = get_left m now now.heap (g.met.S.WorldStore.sound now.heap.store) c.requires.base c.world.result c.args.object c.requires.object.1 c.args.name _ c.in_ok-found.ensures.gets in
    content_both now now.heap.texts c.in_ok-found.found c.in_ok-found.ensures.found left.0
