use Rattle.wjs_start.proofs.Declares.{names_sliced}
use Rattle.wjs_start.proofs.Readiness.{starts_so, sound_so}
use Rattle.wjs_start.proofs.runs.start.Goals as goal

pub returns-clause-starts : goal.returns-clause-starts
returns-clause-starts g c =
    let m = g.S.WorldStore.meaning in
    starts_so m c.args.texts (m c.args.store) c.args.library c.args.script c.as_slice.result.now c.in_ok-heap.heap c.in_ok-units.units c.in_ok-frames.frames c.new.result c.new-2.result c.args.budget c.in_ok-heap.ensures c.in_ok-units.ensures c.in_ok-frames.ensures c.new.ensures.items c.new-2.ensures.items c.requires.new
    (names_sliced c.args.script c.in_ok-names.names.items c.as_slice.result.now c.as_slice.ensures.value c.in_ok-names.ensures.are) c.requires.library c.requires.script c.requires.library_places c.requires.script_places

pub returns-clause-sound : goal.returns-clause-sound
returns-clause-sound g c =
    let m = g.S.WorldStore.meaning in
    sound_so m c.args.texts (m c.args.store) c.args.library c.args.script c.as_slice.result.now c.in_ok-heap.heap c.in_ok-units.units c.in_ok-frames.frames c.new.result c.new-2.result c.args.budget c.in_ok-heap.ensures c.in_ok-units.ensures c.in_ok-frames.ensures c.new.ensures.items c.new-2.ensures.items c.requires.new
    (names_sliced c.args.script c.in_ok-names.names.items c.as_slice.result.now c.as_slice.ensures.value c.in_ok-names.ensures.are) c.requires.library c.requires.script c.requires.library_places c.requires.script_places
