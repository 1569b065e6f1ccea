use Rattle.std.proofs.Common.{refl, ap, ◌∙◌}
use Rattle.wjs_base.proofs.TextLaws.{Denotes-Has, Grows-trans, IsNameOf-IsName}
use Rattle.wjs_by_content.specs.Tables.{name_in, content_in, arena_in}
use Rattle.wjs_heap.specs.Means.{parts}
use Rattle.wjs_by_content.specs.Properties as plan
use Rattle.wjs_heap.proofs.Growing.{heap_grows, performs_grown}
use Rattle.wjs_heap.proofs.Turns.{performs_same}
use Rattle.wjs_heap_steps.proofs.Spelling.{denotes_in, named_in}
use Rattle.wjs_reports.proofs.Leaving.{get_leaves}
use Rattle.wjs_reports.proofs.thrown.property.Goals as goal

pub get-requires-clause-heap : goal.get-requires-clause-heap
get-requires-clause-heap g c = heap_grows (parts g.S.WorldStore.meaning c.args.config.now.heap) c.intern.new.self c.in_ok-id.ensures.table c.in_ok-id.ensures.grows c.requires.base.heap

pub get-requires-clause-name : goal.get-requires-clause-name
get-requires-clause-name g c = IsNameOf-IsName c.intern.new.self c.in_ok-id.id c.name_of-name.result (Denotes-Has c.intern.new.self c.in_ok-id.id c.args.units.now c.in_ok-id.ensures.ok.denotes) c.name_of-name.ensures

-- what was done from the first texts on
gets_so : goal.returns-clause-gets
gets_so g c =
    let m = g.S.WorldStore.meaning in
    let texts = c.intern.new.self in
    let arena = c.args.config.now.heap.arena in
    let o = c.args.object in
    let did = c.in_ok-found.ensures.gets in
    performs_same c.args.config.now.world
    (λ t. plan.get (arena_in t arena) o (name_in t c.name_of-name.result))
    (λ t. plan.get (arena_in t arena) o c.args.units.now)
    (λ t. content_in t c.in_ok-found.found)
    (λ t. content_in t c.in_ok-found.found)
    (parts m c.args.config.now.heap)
    (parts m c.get.new.heap)
    (λ t more.
    let later = Grows-trans texts c.get.new.heap.texts t did.texts more in
    ap (plan.get (arena_in t arena) o) (named_in texts t c.in_ok-id.id c.name_of-name.result c.name_of-name.ensures later ∙ denotes_in texts t c.in_ok-id.id c.args.units.now c.in_ok-id.ensures.ok.denotes later))
    (λ t more. refl)
    (performs_grown (parts m c.args.config.now.heap) texts c.in_ok-id.ensures.table c.in_ok-id.ensures.grows c.args.config.now.world (λ t. plan.get (arena_in t arena) o (name_in t c.name_of-name.result)) (λ t. content_in t c.in_ok-found.found) (parts m c.get.new.heap) did)

pub returns-clause-gets : goal.returns-clause-gets
returns-clause-gets g c = gets_so g c

pub returns-clause-leaves : goal.returns-clause-leaves
returns-clause-leaves g c =
    let m = g.S.WorldStore.meaning in
    get_leaves m c.args.config.now c.get.new.heap (g.met.S.WorldStore.sound c.get.new.heap.store) c.requires.base c.args.object c.requires.object c.args.units.now (λ t. content_in t c.in_ok-found.found) (gets_so g c)
