use Rattle.std.proofs.Common.{ap, ◌∙◌}
use Rattle.std.specs.Prelude.{not}
use Rattle.wjs_store.specs.Meaning.{entries_of, writes_of}
use Rattle.wjs_store.proofs.AllAnswered.{all_spent}
use Rattle.wjs_heap.specs.Means.{parts}
use Rattle.wjs_props.proofs.WritingRows.{did_rows}
use Rattle.wjs_props.proofs.deeds.write_rows.Goals as goal

pub returns : goal.returns
returns g c =
    let m = g.S.WorldStore.meaning in
    let old = c.args.heap.now in
    let new = c.write_rows.new.self in
    let all = c.in_ok-write_rows.ensures.0 in
    let works = c.in_ok-write_rows.ensures.1 in
    let sound = g.met.S.WorldStore.sound new (ap not (all_spent (writes_of c.args.world (entries_of c.args.object c.args.rows.now)) (m old.store) (m new) all) ∙ works) in
    did_rows c.args.world c.args.object c.args.rows.now (parts m old) (m new) c.requires.heap sound.admits_own c.requires.object c.requires.rows all
