use Rattle.std.proofs.Common.{map}
use Rattle.wjs_by_content.specs.Tables.{name_in}
use Rattle.wjs_start.proofs.Underneath.{slots_on, slots_all}
use Rattle.wjs_start.proofs.objects.slot_flags.Goals as goal

pub loop-place-preserved : goal.loop-place-preserved
loop-place-preserved c = λ t there tells keeping. slots_on t c.args.places.now c.loop-place.place-index c.place-item.result c.loop-place.flags.items c.add_slot.new.flags.items c.args.object (map (name_in t) c.args.keeping.now) c.loop-place-test.true c.place-item.is there tells
    (λ before is known h. c.in_ok-add_slot.ensures t before is known keeping h) (c.loop-place.invariant t there tells keeping)

pub returns : goal.returns
returns c = λ t there tells keeping. slots_all t c.args.places.now c.loop-place.place-index c.loop-place.flags.items c.args.object (map (name_in t) c.args.keeping.now) c.loop-place-test.false (c.loop-place.invariant t there tells keeping)
