use Rattle.std.proofs.Common.{◌+◌, drop, ap, sym}
use Rattle.wjs_by_content.specs.Tables.{value_in}
use Rattle.wjs_meaning.specs.Expressions.{array_from}
use Rattle.wjs_meaning.specs.Reading.{node_in}
use Rattle.wjs_model.specs.Contents.{holding_in}
use Rattle.wjs_model.specs.Lists.{items_of}
use Rattle.wjs_frames.specs.Parts.{env_in, node_among}
use Rattle.wjs_step_common.proofs.Following.{follows_as}
use Rattle.wjs_literals.proofs.Items.{array_writes}
use Rattle.wjs_literals.proofs.Lines.{does_line}
use Rattle.wjs_frames.proofs.Handling.{runs_later}
use Rattle.wjs_literals.proofs.arrays.array_write.Goals as goal

pub array_next-requires-clause-runs : goal.array_next-requires-clause-runs
array_next-requires-clause-runs g c = runs_later _ _ _ _ c.requires.runs c.in_ok-write.ensures.later

pub returns : goal.returns
returns g c =
    let m = g.S.WorldStore.meaning in
    let f = c.args.frame in
    let at = c.args.at in
    let t = c.array_next.new.config.heap.texts in
    follows_as _ _ _ _ _ _ (λ grows. sym (array_writes (items_of (node_in t (node_among c.args.config.now.units.items f.tree f.node))) at (holding_in t f.held) (env_in m c.args.config.now t f) c.args.array (value_in t c.args.value) (ap (value_in t) c.requires.held)))
    (does_line m _ _ f (λ us e done. array_from (drop (at + 1) (items_of (node_in t (node_among us f.tree f.node)))) (at + 1) c.args.array e) c.args.config.now c.write.new.config c.array_next.new.config c.array_next.result c.in_ok-write.ensures.does c.in_ok-write.ensures.later (rw c.in_ok-next.ensures at c.array_next.ensures))
