use Rattle.std.proofs.Common.{◌+◌, drop}
use Rattle.wjs_meaning.specs.Expressions.{object_from}
use Rattle.wjs_meaning.specs.Reading.{node_in}
use Rattle.wjs_model.specs.Lists.{pairs_of}
use Rattle.wjs_frames.specs.Parts.{node_among}
use Rattle.wjs_literals.proofs.Lines.{does_line}
use Rattle.wjs_frames.proofs.Handling.{runs_later}
use Rattle.wjs_literals.proofs.objects.object_write.Goals as goal

pub object_next-requires-clause-runs : goal.object_next-requires-clause-runs
object_next-requires-clause-runs g c = runs_later _ _ _ _ c.requires.runs c.in_ok-write_property.ensures.later

pub returns : goal.returns
returns g c =
    let f = c.args.frame in
    let t = c.object_next.new.config.heap.texts in
    does_line g.S.WorldStore.meaning _ _ f (λ us e done. object_from (drop (c.args.at + 1) (pairs_of (node_in t (node_among us f.tree f.node)))) c.args.object e)
    c.args.config.now c.write_property.new.config c.object_next.new.config c.object_next.result c.in_ok-write_property.ensures.does c.in_ok-write_property.ensures.later (rw c.in_ok-next.ensures at c.object_next.ensures)
