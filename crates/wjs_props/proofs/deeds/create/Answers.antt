use Rattle.wjs_heap.specs.Means.{parts}
use Rattle.wjs_heap.proofs.Growing.{created_so}
use Rattle.wjs_props.proofs.deeds.create.Goals as goal

pub returns-clause-creates : goal.returns-clause-creates
returns-clause-creates g c =
    let e = c.in_ok-id.ensures in
    created_so (parts g.S.WorldStore.meaning c.args.heap.now) c.requires.heap c.args.owner c.args.object c.requires.named c.in_ok-id.id c.create.new.self e.number e.created c.create.ensures.arena e.there e.keeps
