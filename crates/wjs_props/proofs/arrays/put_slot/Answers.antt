use Rattle.std.proofs.Common.{Some}
use Rattle.wjs_by_content.specs.Tables.{slot_in, value_in}
use Rattle.wjs_by_content.specs.declared.answers.PutAnswer.TheVariants.{Done}
use Rattle.wjs_heap.specs.Means.{parts}
use Rattle.wjs_props.proofs.Putting.{wrote_gives}
use Rattle.wjs_props.proofs.arrays.put_slot.Goals as goal

pub returns : goal.returns
returns g c =
    let p = parts g.S.WorldStore.meaning in
    wrote_gives c.args.world (λ t. slot_in t (record { object = c.args.object; name = c.args.name })) (λ t. Some (value_in t c.args.value)) Done (p c.args.heap.now) (p c.write.new.heap) c.in_ok-write.ensures
