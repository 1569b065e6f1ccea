use Rattle.std.proofs.Common.{ap, true, false}
use Rattle.std.specs.Prelude.{is_some}
use Rattle.wjs_store.specs.Shown.{content_of}
use Rattle.wjs_by_content.specs.Tables.{name_in, arena_in}
use Rattle.wjs_heap.specs.Means.{parts}
use Rattle.wjs_by_content.specs.Properties as plan
use Rattle.wjs_props.proofs.Deleting.{has_performs}
use Rattle.wjs_props.proofs.reads.has.Goals as goal

pub returns-in-Absent : goal.returns-in-Absent
returns-in-Absent g c =
    let p = parts g.S.WorldStore.meaning in
    has_performs c.args.world (λ t. plan.get (arena_in t c.args.heap.now.arena) c.args.object (name_in t c.args.name)) c.in_ok-found.found false (p c.args.heap.now) (p c.get.new.heap) (ap (λ x. is_some (content_of x)) c.in-Absent.is) c.in_ok-found.ensures.gets

pub returns-in-Present : goal.returns-in-Present
returns-in-Present g c =
    let p = parts g.S.WorldStore.meaning in
    has_performs c.args.world (λ t. plan.get (arena_in t c.args.heap.now.arena) c.args.object (name_in t c.args.name)) c.in_ok-found.found true (p c.args.heap.now) (p c.get.new.heap) (ap (λ x. is_some (content_of x)) c.in-Present.is) c.in_ok-found.ensures.gets
